-- Document 01, "02 wire: source node 2, port 1, target node 2, port 1".
use Rattle.std.specs.Prelude.{ℕ, ◌+◌, List, [], ◌∷◌, ◌++◌}
use Rattle.ir.specs.declared.PortRef.{PortRef}
use Rattle.ir.specs.declared.Wire.{Wire}
use Rattle.encoding.specs.Numbers.{byte, u16_at, bytes_of}

-- the port of a node that stands at an offset
abbrev pub port_ref_at : List ℕ → ℕ → PortRef
port_ref_at s at = record { node_id = u16_at s at; port = byte s (at + 2) }

-- the wire whose record stands at an offset
abbrev pub wire_at : List ℕ → ℕ → Wire
wire_at s at =
    record {
      source = record { node_id = u16_at s (at + 1); port = byte s (at + 3) };
      target = record { node_id = u16_at s (at + 4); port = byte s (at + 6) };
    }

-- the bytes of its record
abbrev pub port_ref_bytes : PortRef → List ℕ
port_ref_bytes p = bytes_of 2 p.node_id ++ (p.port ∷ [])

abbrev pub wire_bytes : Wire → List ℕ
wire_bytes w = 2 ∷ (port_ref_bytes w.source ++ port_ref_bytes w.target)

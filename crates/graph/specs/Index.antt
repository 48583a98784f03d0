-- The table by which a node's property is found in one step, and what the decoder holds of the records that it has read.
use Rattle.std.specs.Prelude.{ℕ, zero, suc, ◌+◌, ◌*◌, ◌≤◌, ◌<◌, ◌≡◌, true, List, length, get_or, Option, None, Some}
use Rattle.ir.specs.Limits.{max_nodes}
use Rattle.ir.specs.Ports.{value_port}
use Rattle.ir.specs.declared.Role.{Role}
use Rattle.ir.specs.declared.Role.TheVariants.{Property as PropertyRole}
use Rattle.encoding.specs.Numbers.{byte}
use Rattle.encoding.specs.Values.{value_at}
use Rattle.graph.specs.Graph.{Graph, lookup, counts_of}
use Rattle.graph.specs.Layout.{role_at, size_at, size_by}
use Rattle.graph.specs.Questions.{is_listed, has_nodes}
use Rattle.graph.specs.Decode.{refusal_at}
use Rattle.graph.specs.declared.Counts.{Counts}
use Rattle.graph.specs.declared.Property.{Property}
use Rattle.value.specs.declared.Value.{Value}

-- where the table says of a node and a port
abbrev pub slot : ℕ → ℕ → ℕ
slot node port = node * 11 + port

-- what an entry says: 0 that there is no property, another number the offset of its record
abbrev pub entry_value : List ℕ → ℕ → Option Value
entry_value s zero = None
entry_value s (suc at) = Some (value_at (byte s (suc at)) s (suc at + 4))

-- a whole property record stands at the offset
pub record IsProperty (s : List ℕ) (at : ℕ) : Type 0 where
  pub role : role_at s at ≡ PropertyRole
  pub within : at + size_at s at ≤ length s

-- the table says where the property of each node and port stands, of the properties that were read
pub record Indexed (ps : List Property) (s : List ℕ) (table : List ℕ) : Type 0 where
  pub long : length table ≡ 11264
  pub says : (node port : ℕ) → node < max_nodes → port ≤ value_port → entry_value s (get_or table (slot node port) 0) ≡ lookup node port ps
  pub stands : (i : ℕ) → 0 < get_or table i 0 → IsProperty s (get_or table i 0)

-- the counts and the table are those of the graph
pub record Held (g : Graph) (c : Counts) (s : List ℕ) (table : List ℕ) : Type 0 where
  pub counts : c ≡ counts_of g
  pub indexed : Indexed g.properties s table

-- the record at an offset, of this role, has the bytes that its role asks of, these are listed, and its nodes are among n
pub record Sound (n : ℕ) (role : Role) (s : List ℕ) (at : ℕ) : Type 0 where
  pub whole : at + size_by role ≤ length s
  pub listed : is_listed role s at ≡ true
  pub there : has_nodes n role s at ≡ true
  pub few : n ≤ max_nodes

-- the record at an offset is of this kind and passes the questions, where the one before it is of the same kind
pub record Next (kind : ℕ) (c : Counts) (s : List ℕ) (at : ℕ) (table : List ℕ) : Type 0 where
  pub kind_byte : byte s at ≡ kind
  pub passes : (g : Graph) → Held g c s table → refusal_at kind g s at ≡ 0
  pub inside : at < length s

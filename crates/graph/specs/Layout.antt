-- Document 01, "one kind byte, then a body of fixed length".
use Rattle.std.specs.Prelude.{ℕ, ◌+◌, List}
use Rattle.ir.specs.Kinds.{role_of, body_of}
use Rattle.ir.specs.declared.Role.{Role}
use Rattle.ir.specs.declared.Role.TheVariants.{Unlisted, Node, Wire, Property, Row, Annihilator}
use Rattle.encoding.specs.Numbers.{byte}

abbrev pub size_of : ℕ → ℕ
size_of kind = 1 + body_of kind

-- of the record at an offset
abbrev pub role_at : List ℕ → ℕ → Role
role_at s at = role_of (byte s at)

abbrev pub size_at : List ℕ → ℕ → ℕ
size_at s at = size_of (byte s at)

-- the size of a record of a role; of a property, without its value but for one byte
abbrev pub size_by : Role → ℕ
size_by Unlisted = 1
size_by Node = 3
size_by Wire = 7
size_by Property = 5
size_by Row = 5
size_by Annihilator = 2

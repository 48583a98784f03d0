-- Document 01, "flags 1 byte (bit 0 nofold, bit 1 label)".
use Rattle.std.specs.Prelude.{ℕ, ◌/◌, ◌%◌, Bool, leb, eqb}

-- the bits that are listed
abbrev pub listed_flags : ℕ
listed_flags = 3

abbrev pub is_flags : ℕ → Bool
is_flags f = leb f listed_flags

abbrev pub nofold : ℕ → Bool
nofold f = eqb (f % 2) 1

-- "flag bit 1, which marks a node named by a label"
abbrev pub labelled : ℕ → Bool
labelled f = eqb (f / 2 % 2) 1

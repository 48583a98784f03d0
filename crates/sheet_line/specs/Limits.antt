-- How long a line of the service sheet is, and a sheet.
use Rattle.std.specs.Prelude.{ℕ, ◌+◌, ◌*◌}
use Rattle.ir.specs.Limits.{max_nodes}

-- "each of 72 characters and a newline"
abbrev pub line_width : ℕ
line_width = 72

abbrev pub line_bytes : ℕ
line_bytes = line_width + 1

-- The most bytes that a service sheet has: its header, and a line for each node.
abbrev pub max_sheet : ℕ
max_sheet = line_bytes + line_bytes * max_nodes

-- Document 01, question 1: "at most 65,536 bytes", and question 8: "within 1,024 nodes, 4,096 wires, 2,048 properties, 1,024 rows".
use Rattle.std.specs.Prelude.{ℕ, ◌+◌, ◌-◌, ◌*◌}

abbrev pub max_input : ℕ
max_input = 65536

abbrev pub max_nodes : ℕ
max_nodes = 1024

abbrev pub max_wires : ℕ
max_wires = 4096

abbrev pub max_properties : ℕ
max_properties = 2048

abbrev pub max_rows : ℕ
max_rows = 1024

-- The most bytes that an answer has: 7 for each wire, 39 for one node, 55 for each other. A node that is planned as literal takes 55 at most: a Vector
-- of 24 in its known record, of 4 + 24, and in its fate, of 3 + 24. Any other node takes 39 at most: a known Quat or Color, of 4 + 32, and a fate of 3.
-- With wires there is such a node, since a wire into a planned literal is dropped.
abbrev pub max_answer : ℕ
max_answer = 7 * max_wires + 55 * (max_nodes - 1) + 39

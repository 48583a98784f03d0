-- Document 01, "Ports: 0 Output, 1 Exec, ..".
use Rattle.std.specs.Prelude.{ℕ}

abbrev pub output : ℕ
output = 0

abbrev pub exec : ℕ
exec = 1

abbrev pub input_a : ℕ
input_a = 2

abbrev pub input_b : ℕ
input_b = 3

abbrev pub b_select_b : ℕ
b_select_b = 4

abbrev pub b_cond : ℕ
b_cond = 5

abbrev pub exec_out_a : ℕ
exec_out_a = 6

abbrev pub exec_out_b : ℕ
exec_out_b = 7

abbrev pub rer_input : ℕ
rer_input = 8

abbrev pub third_input : ℕ
third_input = 9

abbrev pub value_port : ℕ
value_port = 10

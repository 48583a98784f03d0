-- Document 01's number and place for each case of a refusal, and what the answer of `decode` says of an input.
use Rattle.std.specs.Prelude.{ℕ, ◌≡◌, Option, None, Some, Result, Ok, Err}
use Rattle.graph.specs.Graph.{counts_of}
use Rattle.graph.specs.Decode.{Verdict, accepted, refused}
use Rattle.graph.specs.declared.Counts.{Counts}
use Rattle.graph.specs.declared.Refusal.{Refusal}
use Rattle.graph.specs.declared.Refusal.TheVariants.{TooLong, UnknownKind, CutOff, Unlisted, OrdersText, OutOfOrder, MissingNode, Repeated, TooMany, Endless, NoSpace}

abbrev pub number_of : Refusal → ℕ
number_of TooLong = 1
number_of (UnknownKind at) = 2
number_of (CutOff at) = 3
number_of (Unlisted at) = 4
number_of (OrdersText at) = 12
number_of (OutOfOrder at) = 5
number_of (MissingNode at) = 6
number_of (Repeated at) = 7
number_of (TooMany at) = 8
number_of (Endless at) = 9
number_of NoSpace = 10

abbrev pub place_of : Refusal → ℕ
place_of TooLong = 0
place_of (UnknownKind at) = at
place_of (CutOff at) = at
place_of (Unlisted at) = at
place_of (OrdersText at) = at
place_of (OutOfOrder at) = at
place_of (MissingNode at) = at
place_of (Repeated at) = at
place_of (TooMany at) = at
place_of (Endless at) = at
place_of NoSpace = 0

-- one of the questions that decoding asks, 1 to 8 and 12: 9 and 10 are asked of an accepted graph alone
abbrev pub IsOfDecoding : Refusal → Type 0
IsOfDecoding r = (number_of r ≡ 9 → ⊥) × (number_of r ≡ 10 → ⊥)

-- the counts of an accepted graph, or a refusal's number and place
pub data Report : Type 0 where
  counts : Counts → Report
  refusal : ℕ → ℕ → Report

abbrev pub reported : Verdict → Report
reported (accepted g) = counts (counts_of g)
reported (refused n p) = refusal n p

abbrev pub report_of : Result Counts Refusal → Report
report_of (Ok c) = counts c
report_of (Err r) = refusal (number_of r) (place_of r)

-- an answer for one record names the number n, 0 for none, and the record's offset
abbrev pub Names : Option Refusal → ℕ → ℕ → Type 0
Names None n at = 0 ≡ n
Names (Some r) n at = (number_of r ≡ n) × (place_of r ≡ at)

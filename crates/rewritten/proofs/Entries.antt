-- From the rewritten wires to the result and the buffer of an entry that writes these bytes for a graph.
use Rattle.std.specs.Prelude.{Ok, Err}
use mathlib.Core.Path.{◌≡◌, refl, ap, ◌∙◌}
use mathlib.Core.List.{List}
use Prim.Native.Nat.{ℕ, ◌<◌, ◌≤◌}
use native.Mathlib.Omega.{arith}
use lib.ListN.{length}
use borrow.Author.Tests.{le-leb, lt-leb}
use Rattle.ir.specs.declared.Wire.{Wire}
use Rattle.encoding.specs.Numbers.{Written}
use Rattle.graph.specs.Graph.{Graph}
use Rattle.graph.specs.Decode.{accepted, decode}
use Rattle.graph.specs.Refusals.{number_of, place_of}
use Rattle.graph.specs.declared.Refusal.{Refusal}
use Rattle.model.specs.Trial.{State}
use Rattle.model.specs.Outcome.{rewritten, wires, stops, folds, measured, answered, outcome_by, written}
use Rattle.model.specs.Demands.{fold_of, plan_of}
use Rattle.model.proofs.Refusals.{at_rewritten}
use Rattle.folding.specs.Entry.{Answers}
use Rattle.folding.proofs.Stages.{refuse, splice_start}

module _ (bytes : Graph → State → List Wire → List ℕ) {input before : List ℕ} {g : Graph} (d : decode input ≡ accepted g) where
  -- question 9, and 10 of the wires
  pub refuse_wires : (r : Refusal) → rewritten g (plan_of g) ≡ stops (number_of r) (place_of r) → Answers (outcome_by bytes) input before before (Err r)
  unfolding answered
  refuse_wires r e = refuse r (at_rewritten bytes input (length before) g d ∙ ap (answered bytes g (fold_of g) (length before)) e)

  module _ {ws : List Wire} (e : rewritten g (plan_of g) ≡ wires ws) where
    -- question 10 of what is written
    pub refuse_long : length before < length (bytes g (fold_of g).state ws) → Answers (outcome_by bytes) input before before (Err Refusal.NoSpace)
    unfolding answered measured
    refuse_long l = refuse Refusal.NoSpace (at_rewritten bytes input (length before) g d ∙ (ap (answered bytes g (fold_of g) (length before)) e ∙ rw (lt-leb (length (bytes g (fold_of g).state ws)) (length before) l) refl))

    -- what is written
    pub answer_written : {after : List ℕ} {past pops : ℕ} → length (bytes g (fold_of g).state ws) ≤ length before → Written (bytes g (fold_of g).state ws) before after 0 past → pops ≡ (fold_of g).pops → Answers (outcome_by bytes) input before after (Ok (record { length = past; pops = pops }))
    unfolding answered measured written
    answer_written l w q =
        let z : outcome_by bytes input (length before) ≡ folds (bytes g (fold_of g).state ws) (fold_of g).pops =
        at_rewritten bytes input (length before) g d ∙ (ap (answered bytes g (fold_of g) (length before)) e ∙ rw (le-leb (length (bytes g (fold_of g).state ws)) (length before) l) refl) in
        record {
          result = rw z (w.past ∙ omega arith, q);
          buffer = rw z (w.wrote ∙ splice_start before (bytes g (fold_of g).state ws));
        }

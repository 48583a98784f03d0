-- The search as a whole: its steps one after the other.
use Prim.Native.Nat.{ℕ, ◌+◌, ◌≤◌}
use native.Mathlib.Omega.{arith}
use mathlib.Core.Path.{◌≡◌}
use mathlib.Core.List.{List, [], ◌∷◌}
use lib.ListN.{get_or, set}
use lib.Seq.{get_or-set_same}
use Rattle.ir.specs.declared.Wire.{Wire}
use Rattle.rewrite.specs.Counts.{no_count}
use Rattle.rewrite.specs.Search.{unseen, Above, Stacked, Searching, Sought, Stepped, Visited}
use Rattle.rewrite.specs.declared.counts.Search.{Search}
use Rattle.rewrite.proofs.Searching.{branch_inside, entered, entered_seen}

module _ (ws : List Wire) (actions next : List ℕ) (s : Search) where
  pub visit_on : (t u : Search) → Visited ws actions next s t → Stepped ws actions next t u → Visited ws actions next s u
  visit_on t u v p =
      record {
        sought = record { details = v.sought.details; searching = p.goes v.sought.details v.sought.searching };
        goes = λ details f. p.goes details (v.goes details f);
        seen = λ b l. p.seen b (v.seen b l);
      }

  -- a Branch is entered on the empty stack
  module _ (branch : ℕ) (h : get_or actions branch 0 ≡ 3) (u : get_or s.counts branch 0 ≡ unseen) (q : Sought ws actions next s) (empty : s.depth ≡ 0) where
    nothing_above : (path : List ℕ) (details : List ℕ) → Stacked s.stack s.depth path → Above ws actions details branch path
    nothing_above [] details e = tt
    nothing_above (x ∷ xs) details (d, e, r, f) = absurd (omega arith)

    abbrev pub on_stack : Search
    on_stack = record { first = s.first; counts = set s.counts branch no_count; sums = set s.sums branch 0; stack = set s.stack s.depth branch; depth = s.depth + 1 }

    pub visit_enters : Visited ws actions next s on_stack
    visit_enters =
        record {
          sought = record { details = q.details; searching = goes q.details q.searching };
          goes = goes;
          seen = entered_seen ws actions q.details next s.first s.counts s.sums s.stack s.depth q.searching branch h u (nothing_above q.searching.path q.details q.searching.stacked);
        }
      where
        goes : (details : List ℕ) → Searching ws actions details s.first next s.counts s.sums s.stack s.depth → Searching ws actions details s.first next (set s.counts branch no_count) (set s.sums branch 0) (set s.stack s.depth branch) (s.depth + 1)
        goes details f = entered ws actions details next s.first s.counts s.sums s.stack s.depth f branch h u (nothing_above f.path details f.stacked)

    pub enters_seen : get_or (set s.counts branch no_count) branch 0 ≤ no_count
    enters_seen = omega (arith, get_or-set_same s.counts branch no_count 0 (omega (arith, q.searching.counts_long, branch_inside ws actions q.details next s.first s.counts s.sums s.stack s.depth q.searching branch h)))

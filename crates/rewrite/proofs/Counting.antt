-- The start of the search for counts, and what the counts are at its end.
use Rattle.std.specs.Prelude.{Option, Some}
use Prim.Native.Nat.{ℕ, zero, suc, ◌≤◌, ◌<◌}
use native.Mathlib.Omega.{arith}
use native.Mathlib.Decide.{dec_lt}
use mathlib.Core.Path.{◌≡◌, refl, sym, ap, ◌∙◌}
use mathlib.Core.Bool.{Bool, true, false, cond, false≢true}
use mathlib.Core.List.{List, [], ◌∷◌}
use mathlib.Core.Logic.{◌⊎◌, inl, inr, ⊎_elim}
use lib.Dec.{eqb}
use lib.ListN.{length, get_or, replicate, length-replicate, get_or-replicate, get_or-eq_default}
use Rattle.ir.specs.Limits.{max_nodes}
use Rattle.ir.specs.Ports.{exec}
use Rattle.ir.specs.declared.PortRef.{PortRef}
use Rattle.ir.specs.declared.Wire.{Wire}
use Rattle.graph.specs.Graph.{member}
use Rattle.model.specs.Rewrite.{reach}
use Rattle.model.specs.TargetCounts.{capped_length, count_at, taken_targets, round, rounds}
use Rattle.model.proofs.Maps.{none_some, ◌≼◌, ≼-antisym}
use Rattle.model.proofs.TargetCounts.{counts_right}
use Rattle.state.specs.Planned.{targets_in, shape_of, Shaped}
use Rattle.rewrite.specs.Counts.{no_count, entry, count_in, Counts}
use Rattle.rewrite.specs.Taken.{Taken}
use Rattle.rewrite.specs.Search.{unseen, Waits, Blocked, Stacked, Searching}
use Rattle.rewrite.proofs.Shapes.{Action, kept, literal, select, branch, action, shape_kept, shape_literal, shape_select, shape_branch, small}
use Rattle.rewrite.proofs.Totals.{entry_some, entry_none, total_each}
use Rattle.rewrite.proofs.Rounds.{rounds_agree, count_settles}
use Rattle.rewrite.proofs.Searching.{count_sound}

unseen_at : (b : ℕ) → (get_or {A = ℕ} (replicate max_nodes unseen) b 0 ≡ unseen) ⊎ (max_nodes ≤ b)
unseen_at b = pick (dec_lt b max_nodes)
  where
    pick : Dec (b < max_nodes) → (get_or {A = ℕ} (replicate max_nodes unseen) b 0 ≡ unseen) ⊎ (max_nodes ≤ b)
    pick (yes l) = inl (get_or-replicate {A = ℕ} max_nodes b unseen 0 l)
    pick (no l) = inr (omega arith)

module _ (ws : List Wire) (actions details : List ℕ) (n : ℕ) (s : Shaped ws n actions details) (few : n ≤ max_nodes) where
  branch_unseen : (b : ℕ) → get_or actions b 0 ≡ 3 → get_or {A = ℕ} (replicate max_nodes unseen) b 0 ≡ unseen
  branch_unseen b h = ⊎_elim (λ e. e) (λ l. absurd (omega (arith, s.below b (omega arith)))) (unseen_at b)

  pub search_start : (first next counts sums stack : List ℕ) → Taken ws actions details first next → counts ≡ replicate max_nodes unseen → length sums ≡ max_nodes → length stack ≡ max_nodes → Searching ws actions details first next counts sums stack 0
  search_start first next counts sums stack t e sums_long stack_long =
      rw e record {
        actions_long = s.actions_long;
        first_long = t.first_long;
        counts_long = length-replicate {A = ℕ} max_nodes unseen;
        sums_long = sums_long;
        stack_long = stack_long;
        actions_listed = s.listed;
        later = t.later;
        listed = λ b. ⊎_elim (λ q. omega arith) (λ l. omega (arith, get_or-eq_default (replicate max_nodes unseen) 0 {n = b} (omega (arith, length-replicate {A = ℕ} max_nodes unseen)))) (unseen_at b);
        ahead = λ b h u. t.chain b h;
        level = 0;
        sound = λ b h l. absurd (omega (arith, branch_unseen b h));
        path = [];
        stacked = refl;
        distinct = tt;
        frames = tt;
        waiting = tt;
        stuck = λ b h q. absurd (omega (arith, branch_unseen b h));
      }

  -- the count at a Branch's Exec is the Branch's
  enter_count : (table : ℕ → Option ℕ) (e : PortRef) (m : ℕ) → get_or actions e.node_id 0 ≡ 3 → e.port ≡ exec → count_at table (shape_of ws actions details e.node_id) e ≡ Some m → table e.node_id ≡ Some m
  unfolding count_at
  enter_count table e m h q r = rw (shape_branch ws actions details e.node_id h, q) at r

  module _ (counts : List ℕ) (level : ℕ)
      (sound : (b : ℕ) → get_or actions b 0 ≡ 3 → get_or counts b 0 < no_count → rounds (shape_of ws actions details) level b ≡ Some (get_or counts b 0))
      (seen : (b : ℕ) → get_or actions b 0 ≡ 3 → get_or counts b 0 ≤ no_count)
      (blocked : (b : ℕ) → get_or actions b 0 ≡ 3 → get_or counts b 0 ≡ no_count → (c : ℕ) × Waits ws actions details b c × (get_or counts c 0 ≡ no_count)) where
    -- no round has a count where there is none
    above : (k b : ℕ) → get_or actions b 0 ≡ 3 → rounds (shape_of ws actions details) k b ≼ entry (get_or counts b 0)
    unfolding rounds
    above zero b h a e = none_some a e
    above (suc k) b h a e = go (dec_lt (get_or counts b 0) no_count) (above k)
      where
        go : Dec (get_or counts b 0 < no_count) → ((b : ℕ) → get_or actions b 0 ≡ 3 → rounds (shape_of ws actions details) k b ≼ entry (get_or counts b 0)) → entry (get_or counts b 0) ≡ Some a
        go (yes l) ih = entry_some (get_or counts b 0) l ∙ ap Some (rounds_agree (shape_of ws actions details) level (suc k) b (get_or counts b 0) a (sound b h l) e)
        go (no l) ih =
            let (c, w, z) = blocked b h (omega (arith, seen b h)) in
            let q : get_or actions w.target.node_id 0 ≡ 3 = rw w.there w.branch in
            let (m, r) = total_each (λ d. count_at (rounds (shape_of ws actions details) k) (shape_of ws actions details d.node_id) d) (targets_in ws b (get_or details b 0)) a (unfold round taken_targets in rw (shape_branch ws actions details b h) at e) w.target w.taken in
            let x : rounds (shape_of ws actions details) k w.target.node_id ≡ Some m = enter_count (rounds (shape_of ws actions details) k) w.target m q w.enters r in
            let y : entry (get_or counts w.target.node_id 0) ≡ Some m = ih w.target.node_id q m x in
            none_some m (sym (entry_none (get_or counts w.target.node_id 0) (rw (w.there, z) (omega arith))) ∙ y)

    count_above : (k : ℕ) (e : PortRef) → count_at (rounds (shape_of ws actions details) k) (shape_of ws actions details e.node_id) e ≼ entry (count_in actions counts e)
    unfolding count_in count_at
    count_above k e a = go (action (get_or actions e.node_id 0) (s.listed _))
      where
        by_port : (y : Bool) → get_or actions e.node_id 0 ≡ 3 → cond y (rounds (shape_of ws actions details) k e.node_id) (Some 0) ≡ Some a → entry (cond y (get_or counts e.node_id 0) 0) ≡ Some a
        by_port true h q = above k e.node_id h a q
        by_port false h q = entry_some 0 (omega arith) ∙ q

        go : Action (get_or actions e.node_id 0) → count_at (rounds (shape_of ws actions details) k) (shape_of ws actions details e.node_id) e ≡ Some a → entry (count_in actions counts e) ≡ Some a
        go (kept h) q = rw h (entry_some 1 (omega arith) ∙ rw (shape_kept ws actions details _ h) at q)
        go (literal h) q = rw h (entry_some 0 (omega arith) ∙ rw (shape_literal ws actions details _ h) at q)
        go (select h) q = rw h (entry_some 0 (omega arith) ∙ rw (shape_select ws actions details _ h) at q)
        go (branch h) q = rw h (by_port (eqb e.port exec) h (rw (shape_branch ws actions details _ h) at q))

    counts_settled : length counts ≡ max_nodes → Counts ws n actions details counts
    counts_settled long = record { long = long; listed = seen; right = right }
      where
        right : (e : PortRef) → entry (count_in actions counts e) ≡ capped_length (reach (shape_of ws actions details) n e)
        right e =
            ≼-antisym _ _
            (λ a q. count_settles (shape_of ws actions details) n (small ws actions details n s) level e a (count_sound ws actions details counts s.listed level sound e a q))
            (λ a q. count_above n e a (sym (counts_right (shape_of ws actions details) n e) ∙ q))

  -- all Branches are seen, and none waits
  pub search_end : (first next counts sums stack : List ℕ) → Searching ws actions details first next counts sums stack 0 → ((b : ℕ) → b < n → get_or actions b 0 ≡ 3 → get_or counts b 0 ≤ no_count) → Counts ws n actions details counts
  search_end first next counts sums stack f seen =
      counts_settled counts f.level f.sound all_seen blocked f.counts_long
    where
      all_seen : (b : ℕ) → get_or actions b 0 ≡ 3 → get_or counts b 0 ≤ no_count
      all_seen b h = pick (dec_lt b n)
        where
          pick : Dec (b < n) → get_or counts b 0 ≤ no_count
          pick (yes l) = seen b l h
          pick (no l) = absurd (omega (arith, s.below b (omega arith)))

      none_waits : (path : List ℕ) → Stacked stack 0 path → path ≡ []
      none_waits [] e = refl
      none_waits (x ∷ xs) (d, e, q, s) = absurd (omega arith)

      blocked : (b : ℕ) → get_or actions b 0 ≡ 3 → get_or counts b 0 ≡ no_count → (c : ℕ) × Waits ws actions details b c × (get_or counts c 0 ≡ no_count)
      blocked b h e = go (f.stuck b h e)
        where
          go : (member b f.path ≡ true) ⊎ Blocked ws actions details counts f.path b → (c : ℕ) × Waits ws actions details b c × (get_or counts c 0 ≡ no_count)
          go (inl m) = absurd (false≢true (unfold member in rw (none_waits f.path f.stacked) at m))
          go (inr o) = (o.by, o.waits, o.uncounted)

  -- there is no Branch
  pub counts_none : (counts : List ℕ) → length counts ≡ max_nodes → ((b : ℕ) → b < n → get_or actions b 0 ≡ 3 → ⊥) → Counts ws n actions details counts
  counts_none counts long none-planned =
      counts_settled counts 0 (λ b h. absurd (no_branch b h)) (λ b h. absurd (no_branch b h)) (λ b h. absurd (no_branch b h)) long
    where
      no_branch : (b : ℕ) → get_or actions b 0 ≡ 3 → ⊥
      no_branch b h = pick (dec_lt b n)
        where
          pick : Dec (b < n) → ⊥
          pick (yes l) = none-planned b l h
          pick (no l) = omega (arith, s.below b (omega arith))

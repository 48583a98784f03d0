-- What the search does in one step, as the code goes.
use Rattle.std.specs.Prelude.{Some}
use Prim.Native.Nat.{ℕ, ◌+◌, ◌-◌, ◌*◌, ◌≤◌, ◌<◌}
use native.Mathlib.Omega.{arith}
use mathlib.Core.Path.{◌≡◌, refl, sym, ap, subst, ◌∙◌}
use mathlib.Core.Bool.{◌&&◌}
use mathlib.Core.List.Memᴰ
use mathlib.Core.List.{List, [], ◌∷◌, ◌++◌, append_assoc, append-nil}
use lib.Dec.{eqb}
use lib.ListN.{length, get_or, set}
use borrow.Author.Tests.{eqb-true}
use Rattle.ir.specs.Limits.{max_nodes}
use Rattle.ir.specs.Ports.{exec}
use Rattle.ir.specs.declared.PortRef.{PortRef}
use Rattle.ir.specs.declared.Wire.{Wire}
use Rattle.graph.proofs.Roles.{and_left, and_right}
use Rattle.records.specs.Access.{no_wire}
use Rattle.model.proofs.Maps.{by_bool}
use Rattle.wire_index.proofs.Walks.{chain_code, chain_end, chain_step}
use Rattle.state.specs.Planned.{targets_in}
use Rattle.rewrite.specs.Counts.{no_count, count_in}
use Rattle.rewrite.specs.Taken.{taken_wires}
use Rattle.rewrite.specs.Search.{unseen, unseen_in, sum_of, Walked, Walks, Waits, Frame, Above, Stacked, Searching, Sought, Stepped}
use Rattle.rewrite.specs.declared.counts.Reached.{Reached}
use Rattle.rewrite.specs.declared.counts.Search.{Search}
use Rattle.rewrite.proofs.Totals.{sum_low, sum_on, unseen_less, unseen_same}
use Rattle.rewrite.proofs.Searching.{branch_inside, room, entered, entered_seen, cleared, top_frames, stored, finished, finished_seen}

-- a target without a count is a planned Branch's Exec
pub record Entry (actions counts : List ℕ) (e : PortRef) : Type 0 where
  pub branch : get_or actions e.node_id 0 ≡ 3
  pub enters : e.port ≡ exec
  pub count : count_in actions counts e ≡ get_or counts e.node_id 0

no_count_lem : (actions counts : List ℕ) (e : PortRef) → no_count ≤ count_in actions counts e → Entry actions counts e
unfolding count_in
no_count_lem actions counts e h =
    by_bool (eqb (get_or actions e.node_id 0) 0)
    (λ x. let z : count_in actions counts e ≡ 1 = rw x in absurd (omega arith))
    (λ x.
    by_bool (eqb (get_or actions e.node_id 0) 3 && eqb e.port exec)
    (λ y. record { branch = eqb-true _ _ (and_left _ _ y); enters = eqb-true _ _ (and_right (eqb (get_or actions e.node_id 0) 3) _ y); count = rw (x, y) })
    (λ y. let z : count_in actions counts e ≡ 0 = rw (x, y) in absurd (omega arith)))

module _ (ws : List Wire) (actions next first counts sums stack : List ℕ) (depth : ℕ) where
  -- the Branch on top of the stack
  pub record Top (path : List ℕ) : Type 0 where
    pub branch : ℕ
    pub others : List ℕ
    pub split : path ≡ branch ∷ others
    pub at : get_or stack (depth - 1) 0 ≡ branch
    pub below : Stacked stack (depth - 1) others

  top : (path : List ℕ) → Stacked stack depth path → 0 < depth → Top path
  top [] s h = absurd (omega arith)
  top (b ∷ bs) (d, e, q, s) h =
      let z : d ≡ depth - 1 = omega arith in
      record { branch = b; others = bs; split = refl; at = rw (← z) q; below = rw (← z) s }

  module _ (deep : 0 < depth) (details : List ℕ) (s : Searching ws actions details first next counts sums stack depth) where
    t : Top s.path
    t = top s.path s.stacked deep

    top_frame : Frame ws actions details first next counts sums (get_or stack (depth - 1) 0)
    top_frame = rw t.at (top_frames ws actions details next first counts sums stack depth s t.branch t.others t.split).0

    pub top_inside : get_or stack (depth - 1) 0 < max_nodes
    top_inside = branch_inside ws actions details next first counts sums stack depth s _ top_frame.branch

    pub top_code : get_or first (get_or stack (depth - 1) 0) 0 ≤ length ws
    top_code = chain_code top_frame.chain

    pub top_sum : get_or sums (get_or stack (depth - 1) 0) 0 < no_count
    top_sum = sum_low actions counts top_frame.passed _ top_frame.sum

    module _ (b : ℕ) (at : b ≡ get_or stack (depth - 1) 0) (r : Reached) (w : Walks ws actions counts next (get_or first b 0) (get_or sums b 0) r) where
      here : b ≡ t.branch
      here = at ∙ t.at

      split : s.path ≡ b ∷ t.others
      split = t.split ∙ ap (λ (x : ℕ). x ∷ t.others) (sym here)

      frame : Frame ws actions details first next counts sums b
      frame = rw at top_frame

      along : Walked ws actions counts next frame.rest (get_or sums b 0) r
      along = w.along frame.rest frame.chain

      -- the taken wires that are passed by now
      passed : List Wire
      passed = frame.passed ++ along.passed

      passed_split : taken_wires ws details b ≡ passed ++ along.rest
      unfolding passed
      passed_split = frame.split ∙ ap (◌++◌ frame.passed) along.split ∙ sym (append_assoc frame.passed along.passed along.rest)

      passed_sum : sum_of actions counts passed ≡ Some r.sum
      unfolding passed
      passed_sum = sum_on actions counts _ _ frame.passed along.passed frame.sum along.sums

      -- at the end of its chain: the count is found
      all_sum : r.code ≡ 0 → sum_of actions counts (taken_wires ws details b) ≡ Some r.sum
      all_sum e =
          rw (passed_split ∙ ap (◌++◌ passed) (chain_end along.chain e) ∙ append-nil passed) passed_sum

      finish_goes : r.code ≡ 0 → Searching ws actions details first next (set counts b r.sum) sums stack (depth - 1)
      finish_goes e = finished ws actions details next first counts sums stack depth s b t.others split (depth - 1) r.sum t.below w.low (all_sum e)

      finish_seen : r.code ≡ 0 → (x : ℕ) → get_or counts x 0 ≤ no_count → get_or (set counts b r.sum) x 0 ≤ no_count
      finish_seen e = finished_seen ws actions details next first counts sums stack depth s b t.others split (depth - 1) r.sum t.below w.low (all_sum e)

      finish_less : 2 * unseen_in (set counts b r.sum) + (depth - 1) < 2 * unseen_in counts + depth
      finish_less = omega (arith, unseen_same counts b r.sum (omega (arith, s.counts_long, at, top_inside)) (omega (arith, w.low)) (omega (arith, frame.pending)))

      -- at a wire without a count
      module _ (more : 0 < r.code) where
        wire : Wire
        wire = get_or ws (r.code - 1) no_wire

        entry' : Entry actions counts wire.target
        unfolding wire
        entry' = no_count_lem actions counts wire.target (w.stops more)

        waits : Waits ws actions details b wire.target.node_id
        unfolding wire taken_wires targets_in
        waits =
            record {
              target = wire.target;
              taken = Memᴰ.map (λ (w : Wire). w.target) {a = wire} {l = taken_wires ws details b} (rw (passed_split, (chain_step along.chain more).split) (Memᴰ.append_right passed (Memᴰ.head refl)));
              there = refl;
              enters = entry'.enters;
              branch = entry'.branch;
            }

        above : Above ws actions details wire.target.node_id s.path
        above = subst (Above ws actions details wire.target.node_id) (sym split) waits

        clear_goes : (get_or counts (get_or ws (r.code - 1) no_wire).target.node_id 0 ≡ unseen → ⊥) → Searching ws actions details first next counts sums stack 0
        unfolding wire
        clear_goes n =
            cleared ws actions details next first counts sums stack depth s wire.target.node_id
            (omega (arith, n, s.listed wire.target.node_id, entry'.count, w.stops more)) above

        module _ (u : get_or counts (get_or ws (r.code - 1) no_wire).target.node_id 0 ≡ unseen) where
          enter_goes : Searching ws actions details (set first b r.code) next (set counts (get_or ws (r.code - 1) no_wire).target.node_id no_count) (set (set sums b r.sum) (get_or ws (r.code - 1) no_wire).target.node_id 0) (set stack depth (get_or ws (r.code - 1) no_wire).target.node_id) (depth + 1)
          unfolding wire
          enter_goes =
              let (q, e) = stored ws actions details next first counts sums stack depth s b t.others split r.code r.sum passed along.rest passed_split along.chain passed_sum in
              entered ws actions details next (set first b r.code) counts (set sums b r.sum) stack depth q wire.target.node_id entry'.branch u (rw e waits)

          enter_seen : (x : ℕ) → get_or counts x 0 ≤ no_count → get_or (set counts (get_or ws (r.code - 1) no_wire).target.node_id no_count) x 0 ≤ no_count
          unfolding wire
          enter_seen = entered_seen ws actions details next first counts sums stack depth s wire.target.node_id entry'.branch u above

          enter_less : 2 * unseen_in (set counts (get_or ws (r.code - 1) no_wire).target.node_id no_count) + (depth + 1) < 2 * unseen_in counts + depth
          unfolding wire
          enter_less = omega (arith, unseen_less counts wire.target.node_id no_count (omega (arith, s.counts_long, branch_inside ws actions details next first counts sums stack depth s _ entry'.branch)) (omega arith) u)

          pub enter_room : depth < max_nodes
          unfolding wire
          enter_room = room ws actions details next first counts sums stack depth s wire.target.node_id entry'.branch u

module _ (ws : List Wire) (actions next : List ℕ) (s : Search) (deep : 0 < s.depth) (q : Sought ws actions next s) (b : ℕ) (at : b ≡ get_or s.stack (s.depth - 1) 0) (r : Reached) (w : Walks ws actions s.counts next (get_or s.first b 0) (get_or s.sums b 0) r) where
  pub step_finishes : r.code ≡ 0 → Stepped ws actions next s (record s { counts = set s.counts b r.sum; depth = s.depth - 1 })
  step_finishes e =
      record {
        goes = λ details f. finish_goes ws actions next s.first s.counts s.sums s.stack s.depth deep details f b at r w e;
        seen = finish_seen ws actions next s.first s.counts s.sums s.stack s.depth deep q.details q.searching b at r w e;
        less = finish_less ws actions next s.first s.counts s.sums s.stack s.depth deep q.details q.searching b at r w;
      }

  module _ (node : ℕ) (there : node ≡ (get_or ws (r.code - 1) no_wire).target.node_id) (more : 0 < r.code) where
    pub step_clears : (get_or s.counts node 0 ≡ unseen → ⊥) → Stepped ws actions next s (record s { depth = 0 })
    step_clears n =
        record {
          goes = λ details f. clear_goes ws actions next s.first s.counts s.sums s.stack s.depth deep details f b at r w more (rw there at n);
          seen = λ x l. l;
          less = omega arith;
        }

    module _ (u : get_or s.counts node 0 ≡ unseen) where
      pub step_room : s.depth < max_nodes
      step_room = enter_room ws actions next s.first s.counts s.sums s.stack s.depth deep q.details q.searching b at r w more (rw there at u)

      pub step_enters : Stepped ws actions next s (record { first = set s.first b r.code; counts = set s.counts node no_count; sums = set (set s.sums b r.sum) node 0; stack = set s.stack s.depth node; depth = s.depth + 1 })
      step_enters =
          rw there record {
            goes = λ details f. enter_goes ws actions next s.first s.counts s.sums s.stack s.depth deep details f b at r w more (rw there at u);
            seen = enter_seen ws actions next s.first s.counts s.sums s.stack s.depth deep q.details q.searching b at r w more (rw there at u);
            less = enter_less ws actions next s.first s.counts s.sums s.stack s.depth deep q.details q.searching b at r w more (rw there at u);
          }

-- The steps of the search, and what it comes to.
use Rattle.std.specs.Prelude.{Option, Some}
use Prim.Native.Nat.{ℕ, suc, ◌+◌, ◌≤◌, ◌<◌}
use native.Mathlib.Omega.{arith}
use native.Mathlib.Decide.{ℕ_discrete, dec_lt}
use mathlib.Core.Path.{◌≡◌, refl, sym, ap, subst, ◌∙◌}
use mathlib.Core.Bool.{Bool, true, false, cond, true≢false, false≢true}
use mathlib.Core.List.{List, [], ◌∷◌, ◌++◌}
use mathlib.Core.Logic.{◌⊎◌, inl, inr, ⊎_elim}
use lib.Dec.{eqb}
use lib.ListN.{length, get_or, set, length-set, get_or-eq_default}
use lib.Seq.{get_or-set_same, get_or-set_other}
use borrow.Author.Tests.{ne_eqb, eqb-true}
use Rattle.ir.specs.Limits.{max_nodes}
use Rattle.ir.specs.Ports.{exec}
use Rattle.ir.specs.declared.PortRef.{PortRef}
use Rattle.ir.specs.declared.Wire.{Wire}
use Rattle.graph.specs.Graph.{member}
use Rattle.model.specs.Maps.{All, Distinct}
use Rattle.model.specs.Offer.{PlanAction}
use Rattle.model.specs.TargetCounts.{count_at, taken_targets, round, rounds}
use Rattle.model.proofs.Maps.{by_bool, ◌≼◌, eqb_same}
use Rattle.model.proofs.Lists.{all_weaken, or_right, or_false_right, distinct_below}
use Rattle.wire_index.specs.Chains.{Chain}
use Rattle.wire_index.proofs.Rises.{absent}
use Rattle.state.specs.Planned.{targets_in, shape_of}
use Rattle.rewrite.specs.Counts.{no_count, entry, count_in}
use Rattle.rewrite.specs.Taken.{taken_wires}
use Rattle.rewrite.specs.Search.{unseen, sum_of, Waits, Frame, Above, Waiting, Blocked, Stacked, Searching}
use Rattle.rewrite.proofs.Shapes.{Action, kept, literal, select, branch, action, shape_kept, shape_literal, shape_select, shape_branch}
use Rattle.rewrite.proofs.Totals.{entry_some, entry_is, total_more, sum_nil, sum_more}
use Rattle.rewrite.proofs.Rounds.{rounds_more}

-- ---- lists

same_or_not : {X : Type 0} (x b : ℕ) → (x ≡ b → X) → ((x ≡ b → ⊥) → X) → X
same_or_not {X} x b f g = go (ℕ_discrete x b)
  where
    go : Dec (x ≡ b) → X
    go (yes e) = f e
    go (no e) = g e

member_head : (b : ℕ) (bs : List ℕ) → member b (b ∷ bs) ≡ true
unfolding member
member_head b bs = rw (eqb_same b)

member_tail : (x b : ℕ) (bs : List ℕ) → member x bs ≡ true → member x (b ∷ bs) ≡ true
unfolding member
member_tail x b bs e = or_right (eqb b x) (member x bs) e

member_cases : (x b : ℕ) (bs : List ℕ) → member x (b ∷ bs) ≡ true → (x ≡ b) ⊎ (member x bs ≡ true)
unfolding member
member_cases x b bs e = by_bool (eqb b x) (λ q. inl (sym (eqb-true b x q))) (λ q. inr (rw q at e))

member_not : (x b : ℕ) (bs : List ℕ) → (x ≡ b → ⊥) → member x bs ≡ false → member x (b ∷ bs) ≡ false
unfolding member
member_not x b bs h e = rw (ne_eqb b x (λ q. h (sym q)), e)

member_rest : (x b : ℕ) (bs : List ℕ) → member x (b ∷ bs) ≡ false → (x ≡ b → ⊥) × (member x bs ≡ false)
unfolding member
member_rest x b bs e = (λ q. true≢false (sym (member_head b bs) ∙ ap (λ (y : ℕ). member y (b ∷ bs)) (sym q) ∙ e), or_false_right (eqb b x) _ e)

-- what holds of all but x holds of a list without x
others : (P Q : ℕ → Type 0) (x : ℕ) → ((y : ℕ) → (y ≡ x → ⊥) → P y → Q y) → (xs : List ℕ) → member x xs ≡ false → All P xs → All Q xs
others P Q x f [] e h = tt
others P Q x f (y ∷ ys) e h =
    let (n, m) = member_rest x y ys e in
    (f y (λ q. n (sym q)) h.0, others P Q x f ys m h.1)

-- ---- the stack

stack_length : (stack path : List ℕ) (depth : ℕ) → Stacked stack depth path → depth ≡ length path
stack_length stack [] depth s = s
stack_length stack (b ∷ bs) depth (d, e, q, s) = e ∙ ap suc (stack_length stack bs d s)

-- a store above it leaves the stack
stack_set : (stack path : List ℕ) (depth i v : ℕ) → depth ≤ i → Stacked stack depth path → Stacked (set stack i v) depth path
stack_set stack [] depth i v h s = s
stack_set stack (b ∷ bs) depth i v h (d, e, q, s) =
    (d, e, get_or-set_other stack i d v 0 (λ z. absurd (omega arith)) ∙ q, stack_set stack bs d i v (omega arith) s)

-- ---- counts and rounds

module _ (ws : List Wire) (actions details counts : List ℕ) (listed : (m : ℕ) → get_or actions m 0 ≤ 3) where
  -- the count at a target is that of a round, where the Branches' counts are
  pub count_sound : (k : ℕ) → ((b : ℕ) → get_or actions b 0 ≡ 3 → get_or counts b 0 < no_count → rounds (shape_of ws actions details) k b ≡ Some (get_or counts b 0)) → (e : PortRef) → entry (count_in actions counts e) ≼ count_at (rounds (shape_of ws actions details) k) (shape_of ws actions details e.node_id) e
  unfolding count_in count_at
  count_sound k sound e a = go (action (get_or actions e.node_id 0) (listed _))
    where
      p : ℕ → Option PlanAction
      p = shape_of ws actions details

      by_port : (y : Bool) → get_or actions e.node_id 0 ≡ 3 → entry (cond y (get_or counts e.node_id 0) 0) ≡ Some a → cond y (rounds (shape_of ws actions details) k e.node_id) (Some 0) ≡ Some a
      by_port true h q = let (z, l) = entry_is (get_or counts e.node_id 0) a q in sound e.node_id h l ∙ ap Some z
      by_port false h q = sym (entry_some 0 (omega arith)) ∙ q

      go : Action (get_or actions e.node_id 0) → entry (count_in actions counts e) ≡ Some a → count_at (rounds (shape_of ws actions details) k) (shape_of ws actions details e.node_id) e ≡ Some a
      go (kept h) q = rw (shape_kept ws actions details _ h) (sym (entry_some 1 (omega arith)) ∙ rw h at q)
      go (literal h) q = rw (shape_literal ws actions details _ h) (sym (entry_some 0 (omega arith)) ∙ rw h at q)
      go (select h) q = rw (shape_select ws actions details _ h) (sym (entry_some 0 (omega arith)) ∙ rw h at q)
      go (branch h) q = rw (shape_branch ws actions details _ h) (by_port (eqb e.port exec) h (rw h at q))

  -- a Branch whose targets all have a count has the sum, one round later
  pub round_sum : (k : ℕ) → ((b : ℕ) → get_or actions b 0 ≡ 3 → get_or counts b 0 < no_count → rounds (shape_of ws actions details) k b ≡ Some (get_or counts b 0)) → (b v : ℕ) → get_or actions b 0 ≡ 3 → sum_of actions counts (taken_wires ws details b) ≡ Some v → rounds (shape_of ws actions details) (suc k) b ≡ Some v
  unfolding sum_of taken_wires targets_in rounds round taken_targets
  round_sum k sound b v h r = rw (shape_branch ws actions details b h) (total_more _ _ (count_sound k sound) (targets_in ws b (get_or details b 0)) v r)

-- ---- a step

module _ (ws : List Wire) (actions details next : List ℕ) where
  -- a frame of another Branch than one whose entries change
  frame_on : (first counts sums first' counts' sums' : List ℕ) (x : ℕ) → get_or first' x 0 ≡ get_or first x 0 → get_or counts' x 0 ≡ get_or counts x 0 → get_or sums' x 0 ≡ get_or sums x 0 → ((xs : List Wire) → sum_of actions counts xs ≼ sum_of actions counts' xs)
      → Frame ws actions details first next counts sums x → Frame ws actions details first' next counts' sums' x
  frame_on first counts sums first' counts' sums' x e q r more f =
      record {
        branch = f.branch;
        pending = q ∙ f.pending;
        passed = f.passed;
        rest = f.rest;
        split = f.split;
        chain = rw e f.chain;
        sum = rw r (more f.passed (get_or sums x 0) f.sum);
      }

  -- a Branch of the stack waits for one without a count
  waits_on : (counts : List ℕ) (c : ℕ) → get_or counts c 0 ≡ no_count → (path : List ℕ) → Above ws actions details c path → Waiting ws actions details path → All (λ b. get_or counts b 0 ≡ no_count) path → (x : ℕ) → member x path ≡ true
      → (y : ℕ) × Waits ws actions details x y × (get_or counts y 0 ≡ no_count)
  waits_on counts c n [] a w h x e = absurd (false≢true (unfold member in e))
  waits_on counts c n (b ∷ bs) a w h x e = go (member_cases x b bs e) (waits_on counts b h.0 bs w.0 w.1 h.1 x)
    where
      go : (x ≡ b) ⊎ (member x bs ≡ true) → (member x bs ≡ true → (y : ℕ) × Waits ws actions details x y × (get_or counts y 0 ≡ no_count)) → (y : ℕ) × Waits ws actions details x y × (get_or counts y 0 ≡ no_count)
      go (inl q) ih = (c, rw q a, n)
      go (inr q) ih = ih q

  module _ (first counts sums stack : List ℕ) (depth : ℕ) (s : Searching ws actions details first next counts sums stack depth) where
    pub branch_inside : (b : ℕ) → get_or actions b 0 ≡ 3 → b < max_nodes
    branch_inside b h = go (dec_lt b max_nodes)
      where
        go : Dec (b < max_nodes) → b < max_nodes
        go (yes l) = l
        go (no l) = absurd (omega (arith, get_or-eq_default actions 0 {n = b} (omega (arith, s.actions_long))))

    pendings : All (λ b. get_or counts b 0 ≡ no_count) s.path
    pendings = all_weaken _ _ (λ b f. f.pending) s.path s.frames

    lows : All (λ x. x < max_nodes) s.path
    lows = all_weaken _ _ (λ x f. branch_inside x f.branch) s.path s.frames

    pub few : depth ≤ max_nodes
    few = omega (arith, distinct_below max_nodes s.path s.distinct lows, stack_length stack s.path depth s.stacked)

    -- a Branch that is not on the stack has room there
    pub room : (b : ℕ) → get_or actions b 0 ≡ 3 → get_or counts b 0 ≡ unseen → depth < max_nodes
    room b h u =
        let off : member b s.path ≡ false = absent (λ x. get_or counts x 0 ≡ no_count) b s.path pendings (λ e. omega arith) in
        omega (arith, distinct_below max_nodes (b ∷ s.path) (off, s.distinct) (branch_inside b h, lows), stack_length stack s.path depth s.stacked)

    -- ---- a Branch is entered

    module _ (b : ℕ) (h : get_or actions b 0 ≡ 3) (u : get_or counts b 0 ≡ unseen) (a : Above ws actions details b s.path) where
      counts₁ : List ℕ
      counts₁ = set counts b no_count

      sums₁ : List ℕ
      sums₁ = set sums b 0

      stack₁ : List ℕ
      stack₁ = set stack depth b

      self₁ : get_or counts₁ b 0 ≡ no_count
      unfolding counts₁
      self₁ = get_or-set_same counts b no_count 0 (omega (arith, s.counts_long, branch_inside b h))

      other₁ : (x : ℕ) → (x ≡ b → ⊥) → get_or counts₁ x 0 ≡ get_or counts x 0
      unfolding counts₁
      other₁ x n = get_or-set_other counts b x no_count 0 n

      not_b : (x v : ℕ) → get_or counts x 0 ≡ v → v ≤ no_count → x ≡ b → ⊥
      not_b x v e l q = let z : get_or counts x 0 ≡ unseen = rw q u in omega arith

      off₁ : member b s.path ≡ false
      off₁ = absent (λ x. get_or counts x 0 ≡ no_count) b s.path pendings (λ e. omega arith)

      listed₁ : (x : ℕ) → get_or counts₁ x 0 ≤ unseen
      listed₁ x = same_or_not x b (λ q. rw (q, self₁) (omega arith)) (λ q. rw (other₁ x q) (s.listed x))

      ahead₁ : (x : ℕ) → get_or actions x 0 ≡ 3 → get_or counts₁ x 0 ≡ unseen → Chain ws next (get_or first x 0) (taken_wires ws details x)
      ahead₁ x k e = same_or_not x b (λ q. let z : get_or counts₁ x 0 ≡ no_count = rw q self₁ in absurd (omega arith)) (λ q. s.ahead x k (sym (other₁ x q) ∙ e))

      sound₁ : (x : ℕ) → get_or actions x 0 ≡ 3 → get_or counts₁ x 0 < no_count → rounds (shape_of ws actions details) s.level x ≡ Some (get_or counts₁ x 0)
      sound₁ x k l = same_or_not x b (λ q. let z : get_or counts₁ x 0 ≡ no_count = rw q self₁ in absurd (omega arith)) (λ q. rw (other₁ x q) (s.sound x k (rw (other₁ x q) at l)))

      frame₁ : Frame ws actions details first next counts₁ sums₁ b
      unfolding sums₁
      frame₁ =
          record {
            branch = h;
            pending = self₁;
            passed = [];
            rest = taken_wires ws details b;
            split = refl;
            chain = s.ahead b h u;
            sum = sum_nil actions counts₁ ∙ ap Some (sym (get_or-set_same sums b 0 0 (omega (arith, s.sums_long, branch_inside b h))));
          }

      frames₁ : All (Frame ws actions details first next counts₁ sums₁) s.path
      unfolding counts₁ sums₁
      frames₁ =
          others _ _ b (λ y n f. frame_on first counts sums first counts₁ sums₁ y refl (other₁ y n) (get_or-set_other sums b y 0 0 n) (sum_more actions counts b no_count (omega (arith, s.counts_long, branch_inside b h)) (omega arith)) f)
          s.path off₁ s.frames

      stuck₁ : (x : ℕ) → get_or actions x 0 ≡ 3 → get_or counts₁ x 0 ≡ no_count → (member x (b ∷ s.path) ≡ true) ⊎ Blocked ws actions details counts₁ (b ∷ s.path) x
      stuck₁ x k e = same_or_not x b (λ q. inl (rw q (member_head b s.path))) (λ q. go (s.stuck x k (sym (other₁ x q) ∙ e)))
        where
          go : (member x s.path ≡ true) ⊎ Blocked ws actions details counts s.path x → (member x (b ∷ s.path) ≡ true) ⊎ Blocked ws actions details counts₁ (b ∷ s.path) x
          go (inl m) = inl (member_tail x b s.path m)
          go (inr o) =
              let n : o.by ≡ b → ⊥ = not_b o.by no_count o.uncounted (omega arith) in
              inr (record { by = o.by; waits = o.waits; uncounted = other₁ o.by n ∙ o.uncounted; off = member_not o.by b s.path n o.off })

      pub entered : Searching ws actions details first next (set counts b no_count) (set sums b 0) (set stack depth b) (depth + 1)
      unfolding counts₁ sums₁ stack₁
      entered =
          record {
            actions_long = s.actions_long;
            first_long = s.first_long;
            counts_long = length-set counts b no_count ∙ s.counts_long;
            sums_long = length-set sums b 0 ∙ s.sums_long;
            stack_long = length-set stack depth b ∙ s.stack_long;
            actions_listed = s.actions_listed;
            later = s.later;
            listed = listed₁;
            ahead = ahead₁;
            level = s.level;
            sound = sound₁;
            path = b ∷ s.path;
            stacked = (depth, omega arith, get_or-set_same stack depth b 0 (omega (arith, s.stack_long, room b h u)), stack_set stack s.path depth depth b (omega arith) s.stacked);
            distinct = (off₁, s.distinct);
            frames = (frame₁, frames₁);
            waiting = (a, s.waiting);
            stuck = stuck₁;
          }

      pub entered_seen : (x : ℕ) → get_or counts x 0 ≤ no_count → get_or (set counts b no_count) x 0 ≤ no_count
      unfolding counts₁
      entered_seen x l = same_or_not x b (λ q. rw (q, self₁) (omega arith)) (λ q. rw (other₁ x q) l)

    -- ---- the search stops at a Branch without a count

    pub cleared : (c : ℕ) → get_or counts c 0 ≡ no_count → Above ws actions details c s.path → Searching ws actions details first next counts sums stack 0
    unfolding member
    cleared c n a =
        record {
          actions_long = s.actions_long;
          first_long = s.first_long;
          counts_long = s.counts_long;
          sums_long = s.sums_long;
          stack_long = s.stack_long;
          actions_listed = s.actions_listed;
          later = s.later;
          listed = s.listed;
          ahead = s.ahead;
          level = s.level;
          sound = s.sound;
          path = [];
          stacked = refl;
          distinct = tt;
          frames = tt;
          waiting = tt;
          stuck = stuck₂;
        }
      where
        stuck₂ : (x : ℕ) → get_or actions x 0 ≡ 3 → get_or counts x 0 ≡ no_count → (member x [] ≡ true) ⊎ Blocked ws actions details counts [] x
        stuck₂ x k e = go (s.stuck x k e)
          where
            go : (member x s.path ≡ true) ⊎ Blocked ws actions details counts s.path x → (member x [] ≡ true) ⊎ Blocked ws actions details counts [] x
            go (inl m) = let (y, w, z) = waits_on counts c n s.path a s.waiting pendings x m in inr (record { by = y; waits = w; uncounted = z; off = refl })
            go (inr o) = inr (record { by = o.by; waits = o.waits; uncounted = o.uncounted; off = refl })

    -- ---- the Branch on top of the stack

    module _ (b : ℕ) (bs : List ℕ) (split : s.path ≡ b ∷ bs) where
      pub top_distinct : (member b bs ≡ false) × Distinct bs
      top_distinct = subst Distinct split s.distinct

      pub top_frames : Frame ws actions details first next counts sums b × All (Frame ws actions details first next counts sums) bs
      top_frames = subst (All (Frame ws actions details first next counts sums)) split s.frames

      pub top_waiting : Above ws actions details b bs × Waiting ws actions details bs
      top_waiting = subst (Waiting ws actions details) split s.waiting

      top_stuck : (x : ℕ) → get_or actions x 0 ≡ 3 → get_or counts x 0 ≡ no_count → (member x (b ∷ bs) ≡ true) ⊎ Blocked ws actions details counts (b ∷ bs) x
      top_stuck = subst (λ (q : List ℕ). (x : ℕ) → get_or actions x 0 ≡ 3 → get_or counts x 0 ≡ no_count → (member x q ≡ true) ⊎ Blocked ws actions details counts q x) split s.stuck

      inside : b < max_nodes
      inside = branch_inside b top_frames.0.branch

      -- how far it has come is stored

      pub stored : (code v : ℕ) (passed rest : List Wire) → taken_wires ws details b ≡ passed ++ rest → Chain ws next code rest → sum_of actions counts passed ≡ Some v
          → (t : Searching ws actions details (set first b code) next counts (set sums b v) stack depth) × (t.path ≡ b ∷ bs)
      stored code v passed rest e c r = (
        record {
          actions_long = s.actions_long;
          first_long = length-set first b code ∙ s.first_long;
          counts_long = s.counts_long;
          sums_long = length-set sums b v ∙ s.sums_long;
          stack_long = s.stack_long;
          actions_listed = s.actions_listed;
          later = s.later;
          listed = s.listed;
          ahead = λ x k u. rw (get_or-set_other first b x code 0 (not_b' x u)) (s.ahead x k u);
          level = s.level;
          sound = s.sound;
          path = b ∷ bs;
          stacked = subst (Stacked stack depth) split s.stacked;
          distinct = top_distinct;
          frames = (frame, others _ _ b (λ y n f. frame_on first counts sums (set first b code) counts (set sums b v) y (get_or-set_other first b y code 0 n) refl (get_or-set_other sums b y v 0 n) (λ xs a q. q) f) bs top_distinct.0 top_frames.1);
          waiting = top_waiting;
          stuck = top_stuck;
        },
        refl,
      )
        where
          not_b' : (x : ℕ) → get_or counts x 0 ≡ unseen → x ≡ b → ⊥
          not_b' x u q = let z : get_or counts x 0 ≡ no_count = rw q top_frames.0.pending in omega arith

          frame : Frame ws actions details (set first b code) next counts (set sums b v) b
          frame =
              record {
                branch = top_frames.0.branch;
                pending = top_frames.0.pending;
                passed = passed;
                rest = rest;
                split = e;
                chain = rw (get_or-set_same first b code 0 (omega (arith, s.first_long, inside))) c;
                sum = r ∙ ap Some (sym (get_or-set_same sums b v 0 (omega (arith, s.sums_long, inside))));
              }

      -- it gets its count

      module _ (d v : ℕ) (below : Stacked stack d bs) (low : v < no_count) (r : sum_of actions counts (taken_wires ws details b) ≡ Some v) where
        counts₃ : List ℕ
        counts₃ = set counts b v

        self₃ : get_or counts₃ b 0 ≡ v
        unfolding counts₃
        self₃ = get_or-set_same counts b v 0 (omega (arith, s.counts_long, inside))

        other₃ : (x : ℕ) → (x ≡ b → ⊥) → get_or counts₃ x 0 ≡ get_or counts x 0
        unfolding counts₃
        other₃ x n = get_or-set_other counts b x v 0 n

        -- one whose count is not v is another
        apart₃ : (x c : ℕ) → get_or counts₃ x 0 ≡ c → no_count ≤ c → x ≡ b → ⊥
        apart₃ x c e l q = let z : get_or counts₃ x 0 ≡ v = rw q self₃ in omega arith

        more₃ : (xs : List Wire) → sum_of actions counts xs ≼ sum_of actions counts₃ xs
        unfolding counts₃
        more₃ = sum_more actions counts b v (omega (arith, s.counts_long, inside)) (omega (arith, top_frames.0.pending))

        sound₃ : (x : ℕ) → get_or actions x 0 ≡ 3 → get_or counts₃ x 0 < no_count → rounds (shape_of ws actions details) (suc s.level) x ≡ Some (get_or counts₃ x 0)
        sound₃ x k l =
            same_or_not x b
            (λ q. rw (q, self₃) (round_sum ws actions details counts s.actions_listed s.level s.sound b v top_frames.0.branch r))
            (λ q. rw (other₃ x q) (rounds_more (shape_of ws actions details) s.level (suc s.level) (omega arith) x _ (s.sound x k (rw (other₃ x q) at l))))

        stuck₃ : (x : ℕ) → get_or actions x 0 ≡ 3 → get_or counts₃ x 0 ≡ no_count → (member x bs ≡ true) ⊎ Blocked ws actions details counts₃ bs x
        stuck₃ x k e = go (top_stuck x k (sym (other₃ x (apart₃ x no_count e (omega arith))) ∙ e))
          where
            go : (member x (b ∷ bs) ≡ true) ⊎ Blocked ws actions details counts (b ∷ bs) x → (member x bs ≡ true) ⊎ Blocked ws actions details counts₃ bs x
            go (inl m) = ⊎_elim (λ q. absurd (apart₃ x no_count e (omega arith) q)) (λ q. inl q) (member_cases x b bs m)
            go (inr o) =
                let (n, m) = member_rest o.by b bs o.off in
                inr (record { by = o.by; waits = o.waits; uncounted = other₃ o.by n ∙ o.uncounted; off = m })

        pub finished : Searching ws actions details first next (set counts b v) sums stack d
        unfolding counts₃
        finished =
            record {
              actions_long = s.actions_long;
              first_long = s.first_long;
              counts_long = length-set counts b v ∙ s.counts_long;
              sums_long = s.sums_long;
              stack_long = s.stack_long;
              actions_listed = s.actions_listed;
              later = s.later;
              listed = λ x. same_or_not x b (λ q. rw (q, self₃) (omega arith)) (λ q. rw (other₃ x q) (s.listed x));
              ahead = λ x k u. s.ahead x k (sym (other₃ x (apart₃ x unseen u (omega arith))) ∙ u);
              level = suc s.level;
              sound = sound₃;
              path = bs;
              stacked = below;
              distinct = top_distinct.1;
              frames = others _ _ b (λ y n f. frame_on first counts sums first counts₃ sums y refl (other₃ y n) refl more₃ f) bs top_distinct.0 top_frames.1;
              waiting = top_waiting.1;
              stuck = stuck₃;
            }

        pub finished_seen : (x : ℕ) → get_or counts x 0 ≤ no_count → get_or (set counts b v) x 0 ≤ no_count
        unfolding counts₃
        finished_seen x l = same_or_not x b (λ q. rw (q, self₃) (omega arith)) (λ q. rw (other₃ x q) l)

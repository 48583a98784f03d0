-- Laws of chains, and of one more wire at the front of one.
use Prim.Native.Nat.{ℕ, suc, ◌+◌, ◌≤◌, ◌<◌}
use native.Mathlib.Omega.{arith}
use native.Mathlib.Decide.{ℕ_discrete, dec_lt}
use native.Mathlib.Numerals.{add-one}
use mathlib.Core.Path.{◌≡◌, refl, sym, ap, subst, ◌∙◌, fun_ext}
use mathlib.Core.Bool.{Bool, true, false, cond, ◌&&◌, and-false}
use mathlib.Core.List.{List, [], ◌∷◌}
use Rattle.std.proofs.Math.Bool.{and_assoc}
use mathlib.Core.Logic.{◌⊎◌, inl, inr, ⊎_elim}
use lib.Dec.{eqb, ltb}
use lib.ListN.{length, get_or, set, drop, replicate, length-set, length-replicate, get_or-replicate, get_or-eq_default}
use lib.Seq.{get_or-set_same, get_or-set_other, drop-cons, drop-length}
use borrow.Author.Tests.{eq-eqb, ne_eqb}
use Rattle.ir.specs.Limits.{max_nodes, max_wires}
use Rattle.ir.specs.declared.Wire.{Wire}
use Rattle.records.specs.Access.{no_wire, Bounded}
use Rattle.model.specs.Maps.{keep}
use Rattle.model.specs.Inputs.{is_port}
use Rattle.wire_index.specs.Chains.{Chain, end, link}
use Rattle.wire_index.proofs.Walks.{chain_code}
use Rattle.state.specs.Planned.{Shaped}
use Rattle.rewrite.specs.Counts.{count_in}
use Rattle.rewrite.specs.Taken.{taken_wires, Later, Taken}
use Rattle.rewrite.specs.Live.{live_wires, Live}
use Rattle.rewrite.specs.Linked.{leaves, takes_from, Linked, Within}
use Rattle.rewrite.proofs.Shapes.{planned_low}

pub within : (ws : List Wire) (n : ℕ) → Bounded ws n → Within ws
within ws n b =
    record {
      few = b.few_wires;
      source = λ i l. omega (arith, (b.named i l).source, b.few_nodes);
      target = λ i l. omega (arith, (b.named i l).target, b.few_nodes);
    }

-- ---- a chain

module _ (ws : List Wire) (next : List ℕ) where
  -- a store at a wire before a chain leaves the chain
  pub chain_set : (i v : ℕ) → Later ws next → {code : ℕ} {xs : List Wire} → Chain ws next code xs → (code ≡ 0) ⊎ (suc i < code) → Chain ws (set next i v) code xs
  chain_set i v l end h = end
  chain_set i v l (link {i = j} {xs = xs} b c) h =
      let k : i < j = ⊎_elim (λ e. absurd (omega arith)) (λ e. omega arith) h in
      let on : (get_or next j 0 ≡ 0) ⊎ (suc i < get_or next j 0) = ⊎_elim (λ e. inl e) (λ e. inr (omega arith)) (l.later j) in
      link {i = j} {xs = xs} b (rw (get_or-set_other next i j v 0 (λ e. absurd (omega arith))) (chain_set i v l c on))

-- ---- one more wire

module _ (ws : List Wire) (picks : ℕ → Wire → Bool) (first next : List ℕ) (i : ℕ) (h : i < length ws) (l : Linked ws picks first next (i + 1)) where
  keep_more : (b : ℕ) → keep (picks b) (drop i ws) ≡ cond (picks b (get_or ws i no_wire)) (get_or ws i no_wire ∷ keep (picks b) (drop (i + 1) ws)) (keep (picks b) (drop (i + 1) ws))
  unfolding keep
  keep_more b = rw (drop-cons ws i no_wire h, add-one) refl

  lower : (b : ℕ) → (get_or first b 0 ≡ 0) ⊎ (i < get_or first b 0)
  lower b = ⊎_elim (λ e. inl e) (λ e. inr (omega arith)) (l.above b)

  -- it is picked for no node
  pub linked_not : ((b : ℕ) → picks b (get_or ws i no_wire) ≡ false) → Linked ws picks first next i
  linked_not p =
      record { first_long = l.first_long; later = l.later; above = lower; chain = λ b k. rw (keep_more b, p b) (l.chain b k) }

  -- it is picked for its source node s alone
  module _ (s : ℕ) (low : s < max_nodes) (few : length ws ≤ max_wires) (own : picks s (get_or ws i no_wire) ≡ true) (others : (b : ℕ) → (b ≡ s → ⊥) → picks b (get_or ws i no_wire) ≡ false) where
    next' : List ℕ
    next' = set next i (get_or first s 0)

    at_i : get_or next' i 0 ≡ get_or first s 0
    unfolding next'
    at_i = get_or-set_same next i (get_or first s 0) 0 (omega (arith, l.later.long))

    at_x : (x : ℕ) → (x ≡ i → ⊥) → get_or next' x 0 ≡ get_or next x 0
    unfolding next'
    at_x x e = get_or-set_other next i x (get_or first s 0) 0 e

    later' : Later ws next'
    unfolding next'
    later' = record { long = length-set next i (get_or first s 0) ∙ l.later.long; within = within'; later = go }
      where
        within' : (x : ℕ) → get_or next' x 0 ≤ length ws
        within' x = pick (ℕ_discrete x i)
          where
            pick : Dec (x ≡ i) → get_or next' x 0 ≤ length ws
            pick (yes e) = rw (e, at_i) (chain_code (l.chain s low))
            pick (no e) = rw (at_x x e) (l.later.within x)

        go : (x : ℕ) → (get_or next' x 0 ≡ 0) ⊎ (suc x < get_or next' x 0)
        go x = pick (ℕ_discrete x i)
          where
            pick : Dec (x ≡ i) → (get_or next' x 0 ≡ 0) ⊎ (suc x < get_or next' x 0)
            pick (yes e) = rw (e, at_i) (⊎_elim (λ z. inl z) (λ z. inr (omega arith)) (l.above s))
            pick (no e) = rw (at_x x e) (l.later.later x)

    kept : (b : ℕ) → b < max_nodes → Chain ws next' (get_or first b 0) (keep (picks b) (drop (i + 1) ws))
    unfolding next'
    kept b k = chain_set ws next i (get_or first s 0) l.later (l.chain b k) (⊎_elim (λ z. inl z) (λ z. inr (omega arith)) (l.above b))

    pub linked_on : Linked ws picks (set first s (i + 1)) (set next i (get_or first s 0)) i
    unfolding next'
    linked_on =
        record { first_long = length-set first s (i + 1) ∙ l.first_long; later = later'; above = above'; chain = chain' }
      where
        at_s : get_or (set first s (i + 1)) s 0 ≡ suc i
        at_s = get_or-set_same first s (i + 1) 0 (omega (arith, l.first_long)) ∙ add-one i

        above' : (b : ℕ) → (get_or (set first s (i + 1)) b 0 ≡ 0) ⊎ (i < get_or (set first s (i + 1)) b 0)
        above' b = pick (ℕ_discrete b s)
          where
            pick : Dec (b ≡ s) → (get_or (set first s (i + 1)) b 0 ≡ 0) ⊎ (i < get_or (set first s (i + 1)) b 0)
            pick (yes e) = rw (e, at_s) (inr (omega arith))
            pick (no e) = rw (get_or-set_other first s b (i + 1) 0 e) (lower b)

        chain' : (b : ℕ) → b < max_nodes → Chain ws next' (get_or (set first s (i + 1)) b 0) (keep (picks b) (drop i ws))
        chain' b k = pick (ℕ_discrete b s)
          where
            pick : Dec (b ≡ s) → Chain ws next' (get_or (set first s (i + 1)) b 0) (keep (picks b) (drop i ws))
            pick (yes e) = rw (e, at_s, keep_more s, own) (link {i = i} {xs = keep (picks s) (drop (i + 1) ws)} h (rw at_i (kept s low)))
            pick (no e) = rw (get_or-set_other first s b (i + 1) 0 e, keep_more b, others b e) (kept b k)

-- ---- the start

zeros_at : (n i : ℕ) → get_or {A = ℕ} (replicate n 0) i 0 ≡ 0
zeros_at n i = pick (dec_lt i n)
  where
    pick : Dec (i < n) → get_or {A = ℕ} (replicate n 0) i 0 ≡ 0
    pick (yes h) = get_or-replicate {A = ℕ} n i 0 0 h
    pick (no h) = get_or-eq_default (replicate n 0) 0 {n = i} (omega (arith, length-replicate {A = ℕ} n 0))

pub later_start : (ws : List Wire) → Later ws (replicate max_wires 0)
later_start ws =
    record {
      long = length-replicate {A = ℕ} max_wires 0;
      within = λ i. omega (arith, zeros_at max_wires i);
      later = λ i. inl (zeros_at max_wires i);
    }

pub linked_start : (ws : List Wire) (picks : ℕ → Wire → Bool) (first next : List ℕ) → first ≡ replicate max_nodes 0 → Later ws next → Linked ws picks first next (length ws)
unfolding keep
linked_start ws picks first next e l =
    rw e
    record {
      first_long = length-replicate {A = ℕ} max_nodes 0;
      later = l;
      above = λ b. inl (zeros_at max_nodes b);
      chain = λ b k. rw (zeros_at max_nodes b, drop-length ws) end;
    }

-- ---- what is picked

keep_same : (f h : Wire → Bool) → ((w : Wire) → f w ≡ h w) → (ws : List Wire) → keep f ws ≡ keep h ws
keep_same f h e ws = ap (λ (t : Wire → Bool). keep t ws) (fun_ext e)

keep_keep : (f h : Wire → Bool) (ws : List Wire) → keep (λ w. f w && h w) ws ≡ keep h (keep f ws)
unfolding keep
keep_keep f h [] = refl
keep_keep f h (w ∷ ws) = go (f w) (keep_keep f h ws)
  where
    go : (b : Bool) → keep (λ w. f w && h w) ws ≡ keep h (keep f ws) → cond (b && h w) (w ∷ keep (λ w. f w && h w) ws) (keep (λ w. f w && h w) ws) ≡ keep h (cond b (w ∷ keep f ws) (keep f ws))
    go true e = rw e
    go false e = e

-- one wire w, the i-th, as the code goes
module _ (ws : List Wire) (test : Wire → Bool) (first next : List ℕ) (i : ℕ) (h : i < length ws) (f : Within ws) (l : Linked ws (leaves test) first next (i + 1)) (w : Wire) (e : w ≡ get_or ws i no_wire) where
  pub picked_on : test w ≡ true → Linked ws (leaves test) (set first w.source.node_id (i + 1)) (set next i (get_or first w.source.node_id 0)) i
  picked_on t =
      rw e (linked_on ws (leaves test) first next i h l _ (f.source i h) f.few (rw (eq-eqb (get_or ws i no_wire).source.node_id _ refl) (rw e at t)) (λ b n. rw (ne_eqb (get_or ws i no_wire).source.node_id b (λ q. n (sym q))) refl))

  pub picked_not : test w ≡ false → Linked ws (leaves test) first next i
  picked_not t = linked_not ws (leaves test) first next i h l (λ b. rw (rw e at t) (and-false (eqb (get_or ws i no_wire).source.node_id b)))

module _ (ws : List Wire) (actions details : List ℕ) (n : ℕ) (s : Shaped ws n actions details) (few : n ≤ max_nodes) where
  branch_low : (b : ℕ) → get_or actions b 0 ≡ 3 → b < max_nodes
  branch_low b h = omega (arith, planned_low ws actions details n s b (λ e. let z : ◌≡◌ {A = ℕ} 3 0 = sym h ∙ e in omega arith))

  -- the wires that a planned Branch takes, by the test that the code makes of their sources
  taken_by : (b : ℕ) → get_or actions b 0 ≡ 3 → (w : Wire) → (eqb w.source.node_id b && takes_from actions details w.source) ≡ is_port w.source b (get_or details b 0)
  unfolding is_port
  taken_by b h w = pick (ℕ_discrete w.source.node_id b)
    where
      pick : Dec (w.source.node_id ≡ b) → (eqb w.source.node_id b && (eqb (get_or actions w.source.node_id 0) 3 && eqb w.source.port (get_or details w.source.node_id 0))) ≡ (eqb w.source.node_id b && eqb w.source.port (get_or details b 0))
      pick (yes e) = rw (e, eq-eqb b b refl, h)
      pick (no e) = rw (ne_eqb w.source.node_id b e)

  pub taken_end : (first next : List ℕ) → Linked ws (leaves (λ w. takes_from actions details w.source)) first next 0 → Taken ws actions details first next
  unfolding taken_wires
  taken_end first next l =
      record {
        first_long = l.first_long;
        later = l.later;
        chain = λ b h. rw (← keep_same _ _ (taken_by b h) ws) (l.chain b (branch_low b h));
      }

  live_same : (counts : List ℕ) (b : ℕ) → get_or actions b 0 ≡ 3 → keep (leaves (λ w. takes_from actions details w.source && ltb 0 (count_in actions counts w.target)) b) ws ≡ live_wires ws actions details counts b
  unfolding live_wires taken_wires
  live_same counts b h =
      keep_same _ (λ w. is_port w.source b (get_or details b 0) && ltb 0 (count_in actions counts w.target)) (λ w. sym (and_assoc (eqb w.source.node_id b) (takes_from actions details w.source) (ltb 0 (count_in actions counts w.target))) ∙ ap (λ (x : Bool). x && ltb 0 (count_in actions counts w.target)) (taken_by b h w)) ws
      ∙ keep_keep (λ w. is_port w.source b (get_or details b 0)) (λ w. ltb 0 (count_in actions counts w.target)) ws

  pub live_end : (counts first next : List ℕ) → Linked ws (leaves (λ w. takes_from actions details w.source && ltb 0 (count_in actions counts w.target))) first next 0 → Live ws actions details counts first next
  live_end counts first next l =
      record {
        first_long = l.first_long;
        later = l.later;
        chain = λ b h. subst (Chain ws next (get_or first b 0)) (live_same counts b h) (l.chain b (branch_low b h));
      }

  -- there is no Branch
  pub live_none : (counts first next : List ℕ) → length first ≡ max_nodes → Later ws next → ((b : ℕ) → b < n → get_or actions b 0 ≡ 3 → ⊥) → Live ws actions details counts first next
  live_none counts first next e l none-planned =
      record {
        first_long = e;
        later = l;
        chain = λ b h. absurd (none-planned b (planned_low ws actions details n s b (λ q. let z : ◌≡◌ {A = ℕ} 3 0 = sym h ∙ q in omega arith)) h);
      }

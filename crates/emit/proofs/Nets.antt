-- The chains of live wires that `rewrite` leaves are what the emission walks.
use Rattle.std.specs.Prelude.{Option, None, Some}
use mathlib.Core.Path.{◌≡◌, refl, sym, ap, ap₂, ◌∙◌}
use mathlib.Core.Bool.{Bool, true, false}
use mathlib.Core.List.{List, [], ◌∷◌, ◌++◌, map}
use Prim.Native.Nat.{ℕ, zero, suc, ◌≤◌, ◌<◌}
use native.Mathlib.Omega.{arith}
use lib.Dec.{ltb}
use lib.ListN.{length, get_or}
use borrow.Author.Tests.{ltb-true, ltb-false}
use Rattle.ir.specs.declared.PortRef.{PortRef}
use Rattle.ir.specs.declared.Wire.{Wire}
use Rattle.records.specs.Access.{Bounded}
use Rattle.model.specs.Maps.{Map, All, keep}
use Rattle.model.specs.Inputs.{is_port}
use Rattle.model.specs.Offer.{PlanAction}
use Rattle.model.specs.Rewrite.{both, collect, arrive, reach}
use Rattle.model.specs.TargetCounts.{cap, capped_length}
use Rattle.model.proofs.Maps.{none_some, by_bool}
use Rattle.model.proofs.TargetCounts.{both_some, reach_more}
use Rattle.state.specs.Planned.{targets_in, shape_at, shape_of, Shaped}
use Rattle.rewrite.specs.Counts.{entry, count_in}
use Rattle.rewrite.specs.Taken.{taken_wires}
use Rattle.rewrite.specs.Live.{live_wires}
use Rattle.rewrite.specs.Rewritable.{Rewritable}
use Rattle.rewrite.proofs.Totals.{entry_is}
use Rattle.emit.specs.Emit.{or_nil, leads_to, Live, exec_of, Net}

collect_map : (f : PortRef → Option (List PortRef)) (us : List Wire) → collect f (map (λ w. w.target) us) ≡ collect (λ w. f w.target) us
unfolding collect
collect_map f [] = refl
collect_map f (u ∷ us) = ap (both (f u.target)) (collect_map f us)

-- what gives nothing may be left out
collect_keep : (f : Wire → Option (List PortRef)) (t : Wire → Bool) → ((w : Wire) (xs : List PortRef) → f w ≡ Some xs → t w ≡ false → xs ≡ []) → (us : List Wire) (ys : List PortRef) → collect f us ≡ Some ys → collect f (keep t us) ≡ Some ys
unfolding collect keep both
collect_keep f t h [] ys q = q
collect_keep f t h (u ∷ us) ys q =
    let (xs, zs, a, b, s) = both_some (f u) (collect f us) ys q in
    let ih = collect_keep f t h us zs b in
    by_bool (t u)
    (λ e. rw (e) (ap₂ both a ih ∙ ap Some (sym s)))
    (λ e. rw (e) (ih ∙ ap Some (sym (s ∙ ap (λ (l : List PortRef). l ++ zs) (h u xs a e)))))

-- all of them give something
all_some : (f : Wire → Option (List PortRef)) (P : Wire → Type 0) (t : Wire → Bool) → ((w : Wire) (xs : List PortRef) → f w ≡ Some xs → t w ≡ true → P w) → (us : List Wire) (ys : List PortRef) → collect f us ≡ Some ys → All P (keep t us)
unfolding collect keep
all_some f P t h [] ys q = tt
all_some f P t h (u ∷ us) ys q =
    let (xs, zs, a, b, s) = both_some (f u) (collect f us) ys q in
    let ih = all_some f P t h us zs b in
    by_bool (t u) (λ e. rw (e) (h u xs a e, ih)) (λ e. rw (e) ih)

-- a count that is listed, beside what is reached
pub entry_zero : (c : ℕ) (xs : List PortRef) → entry c ≡ capped_length (Some xs) → ltb 0 c ≡ false → xs ≡ []
unfolding capped_length cap
entry_zero c [] e h = refl
entry_zero c (x ∷ xs) e h = absurd (omega (arith, ltb-false 0 c h, (entry_is c _ e).0))

entry_some : (c : ℕ) (xs : List PortRef) → entry c ≡ capped_length (Some xs) → ltb 0 c ≡ true → 0 < length xs
unfolding capped_length cap
entry_some c xs e h = omega (arith, ltb-true 0 c h, (entry_is c _ e).0)

module _ (ws : List Wire) (n : ℕ) (actions details sources counts first next : List ℕ) (B : Bounded ws n) (S : Shaped ws n actions details) (R : Rewritable ws n actions details sources counts first next) where
  abbrev p : Map PlanAction
  p = shape_of ws actions details

  abbrev some_count : Wire → Bool
  some_count w = ltb 0 (count_in actions counts w.target)

  branch_reach : (k b : ℕ) → get_or actions b 0 ≡ 3 → reach p (suc k) (exec_of b) ≡ collect (λ w. reach p k w.target) (taken_wires ws details b)
  unfolding reach arrive shape_of shape_at targets_in taken_wires
  branch_reach k b e = rw e (collect_map (reach p k) (keep (λ w. is_port w.source b (get_or details b 0)) ws))

  dead : (k : ℕ) → k ≤ n → (w : Wire) (xs : List PortRef) → reach p k w.target ≡ Some xs → some_count w ≡ false → xs ≡ []
  dead k l w xs q h = entry_zero (count_in actions counts w.target) xs (R.targets.right w.target ∙ ap capped_length (reach_more p k n l w.target xs q)) h

  alive : (k : ℕ) → k ≤ n → (w : Wire) (xs : List PortRef) → reach p k w.target ≡ Some xs → some_count w ≡ true → Live p n w
  unfolding leads_to
  alive k l w xs q h =
      let r : reach p n w.target ≡ Some xs = reach_more p k n l w.target xs q in
      let e : leads_to p n w.target ≡ xs = ap or_nil r in
      record { ends = r ∙ ap Some (sym e); some_target = rw e (entry_some (count_in actions counts w.target) xs (R.targets.right w.target ∙ ap capped_length r) h) }

  -- a Branch that leads to some target is reached, with one more Branch allowed than its targets need
  record Reached (b : ℕ) : Type 0 where
    k : ℕ
    low : k ≤ n
    ys : List PortRef
    at : reach p (suc k) (exec_of b) ≡ Some ys

  reached : (m b : ℕ) → m ≤ n → get_or actions b 0 ≡ 3 → (o : Option (List PortRef)) → reach p m (exec_of b) ≡ o → 0 < length (or_nil o) → Reached b
  unfolding reach arrive shape_of shape_at
  reached m b l a None q h = absurd (omega arith)
  reached zero b l a (Some ys) q h = none_some ys (rw a at q)
  reached (suc k) b l a (Some ys) q h = record { k = k; low = omega arith; ys = ys; at = q }

  live_all : (b : ℕ) → get_or actions b 0 ≡ 3 → Reached b → All (Live p n) (live_wires ws actions details counts b)
  unfolding live_wires
  live_all b a E = all_some (λ w. reach p E.k w.target) (Live p n) some_count (alive E.k E.low) (taken_wires ws details b) E.ys (sym (branch_reach E.k b a) ∙ E.at)

  live_leads : (b : ℕ) → get_or actions b 0 ≡ 3 → (k : ℕ) (ys : List PortRef) → k ≤ n → reach p (suc k) (exec_of b) ≡ Some ys → collect (λ w. reach p k w.target) (live_wires ws actions details counts b) ≡ Some ys
  unfolding live_wires
  live_leads b a k ys l q = collect_keep (λ w. reach p k w.target) some_count (dead k l) (taken_wires ws details b) ys (sym (branch_reach k b a) ∙ q)

  pub net : Net ws n actions details first next
  unfolding leads_to
  net =
      record {
        bounded = B;
        shaped = S;
        next_long = R.live.later.long;
        expands = λ b a h.
            record {
              out = live_wires ws actions details counts b;
              chain = R.live.chain b a;
              live = live_all b a (reached n b (omega arith) a _ refl h);
              leads = live_leads b a;
            };
      }

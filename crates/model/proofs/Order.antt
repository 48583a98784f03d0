-- Trials in any order that leave nothing to add end as the worklist does; and the worklist ends, within a pop for each node and each wire.
use Rattle.std.specs.Prelude.{Option, None, Some}
use mathlib.Core.Path.{◌≡◌, refl, sym, ap, ◌∙◌}
use mathlib.Core.Bool.{Bool, true, false, cond, not, ◌&&◌, ◌||◌, true≢false}
use mathlib.Core.List.{List, [], ◌∷◌, ◌++◌, append-nil, cons≢nil}
use mathlib.Core.Logic.{◌⊎◌, inl, inr, ◌↔◌}
use Prim.Native.Nat.{ℕ, zero, suc, ◌+◌, ◌<◌, ◌≤◌}
use native.Mathlib.Omega.{arith}
use native.Mathlib.Decide.{dec_lt}
use lib.Dec.{eqb}
use lib.ListN.{length, length-append, get_or-eq_default}
use Rattle.ir.specs.declared.Wire.{Wire}
use Rattle.value.specs.declared.Value.{Value}
use Rattle.graph.specs.Graph.{Graph, member}
use Rattle.graph.proofs.Roles.{and_left, and_right}
use Rattle.model.specs.Maps.{is_some, or_else, Map, any, up_to, iterate}
use Rattle.model.specs.Inputs.{size, node_of}
use Rattle.model.specs.Offer.{PlanAction, Offer, no_offer, node_offer, offer}
use Rattle.model.specs.Trial.{State, empty, add, trial, trials, Stable}
use Rattle.model.specs.Worklist.{consumes, joiners, Work, start, newly, pop, next, step, after, worklist}
use Rattle.model.proofs.Maps.{eqb_same, Same, same?, ◌≼◌, ◌⊑◌, none_some, some_false, some_true, ⊑-antisym, or_else_right, or_else_least, or_else_none, put_here, put_there, put_grows, put_least, put_none}
use Rattle.model.proofs.Lists.{bit, count, length_keep, count_two, count_or, length_up_to, count_le, count_length, count_false, and_bit, or_bit, count_one, member_left, member_right, keep_miss, member_up_to, iterate_keeps}
use Rattle.model.proofs.Offers.{◌≤ₒ◌, offer_mono, offer_local}

infix 40 ◌≤ₛ◌
pub record ◌≤ₛ◌ (s t : State) : Type 0 where
  pub knows : s.known ⊑ t.known
  pub plans : s.plan ⊑ t.plan

≤ₛ-refl : (s : State) → s ≤ₛ s
≤ₛ-refl s = record { knows = λ m a e. e; plans = λ m a e. e }

≤ₛ-antisym : (s t : State) → s ≤ₛ t → t ≤ₛ s → s ≡ t
≤ₛ-antisym s t h k =
    λ i. record { known = ⊑-antisym s.known t.known h.knows k.knows i; plan = ⊑-antisym s.plan t.plan h.plans k.plans i }

empty_least : (s : State) → empty ≤ₛ s
unfolding empty
empty_least s = record { knows = λ m a e. none_some a e; plans = λ m a e. none_some a e }

pub add_grows : (s : State) (n : ℕ) (o : Offer) → s ≤ₛ add s n o
unfolding add
add_grows s n o = record { knows = put_grows s.known n o.value; plans = put_grows s.plan n o.plan }

and-true² : (a b : Bool) → b ≡ false → (a && true && not b) ≡ false → a ≡ false
and-true² true true e f = absurd (true≢false e)
and-true² true false e f = f
and-true² false b e f = refl

-- nothing is added to what is known where the offer has no value
unadded : (s : State) (n : ℕ) (o : Offer) → o.value ≡ None → (add s n o).known ≡ s.known
unfolding add
unadded s n o e = rw e (put_none s.known n)

-- a node has no more consumers than wires from it
consumers_few : (n k : ℕ) (ws : List Wire) → count (λ c. any (λ w. (eqb w.source.node_id n) && (eqb w.target.node_id c)) ws) (up_to k) ≤ count (λ w. eqb w.source.node_id n) ws
unfolding any count bit
consumers_few n k [] = omega (arith, count_false (up_to k))
consumers_few n k (w ∷ ws) = omega (arith, count_or (λ c. here c || there c) here there (λ c. or_bit (here c) (there c)) (up_to k), one (eqb w.source.node_id n), consumers_few n k ws)
  where
    here : ℕ → Bool
    here c = (eqb w.source.node_id n) && (eqb w.target.node_id c)

    there : ℕ → Bool
    there c = any (λ v. (eqb v.source.node_id n) && (eqb v.target.node_id c)) ws

    one : (b : Bool) → count (λ c. b && (eqb w.target.node_id c)) (up_to k) ≤ bit b
    one true = count_one w.target.node_id k
    one false = omega (arith, count_false (up_to k))

-- the wires whose source is not known
pub unknowns : Graph → Map Value → ℕ
unknowns g k = count (λ w. not (is_some (k w.source.node_id))) g.wires

module _ (own : Map Value) (g : Graph) where
  -- a trial only adds
  pub trial_grows : (s : State) (n : ℕ) → s ≤ₛ trial own g s n
  unfolding trial
  trial_grows s n = go (is_some (s.known n))
    where
      go : (b : Bool) → s ≤ₛ cond b s (add s n (offer own g s.known n))
      go true = ≤ₛ-refl s
      go false = add_grows s n (offer own g s.known n)

  -- w gives each node what it offers
  pub record Fixed (w : State) : Type 0 where
    pub values : (n : ℕ) → (offer own g w.known n).value ≼ w.known n
    pub plans : (n : ℕ) → (offer own g w.known n).plan ≼ w.plan n

  offer_value : (k l : Map Value) → k ⊑ l → (n : ℕ) → (offer own g k n).value ≼ (offer own g l n).value
  offer_value k l h n a e = ap (λ (o : Offer). o.value) ((offer_mono own g k l h n).whole a e) ∙ e

  trial_below : (s w : State) → Fixed w → s ≤ₛ w → (n : ℕ) → trial own g s n ≤ₛ w
  unfolding trial add
  trial_below s w f h n = go (is_some (s.known n))
    where
      go : (b : Bool) → cond b s (add s n (offer own g s.known n)) ≤ₛ w
      go true = h
      go false =
          record {
            knows = put_least s.known w.known n _ h.knows (λ a e. f.values n a (offer_value s.known w.known h.knows n a e));
            plans = put_least s.plan w.plan n _ h.plans (λ a e. f.plans n a ((offer_mono own g s.known w.known h.knows n).plans a e));
          }

  -- what is known and planned is what its node offers, and a known node's offer is planned
  pub record Good (s : State) : Type 0 where
    pub known_offered : (n : ℕ) → s.known n ≼ (offer own g s.known n).value
    pub plan_offered : (n : ℕ) → s.plan n ≼ (offer own g s.known n).plan
    pub known_planned : (n : ℕ) (v : Value) → s.known n ≡ Some v → (offer own g s.known n).plan ≼ s.plan n

  empty_good : Good empty
  unfolding empty
  empty_good = record { known_offered = λ n a e. none_some a e; plan_offered = λ n a e. none_some a e; known_planned = λ n v e. none_some v e }

  module _ (s : State) (h : Good s) (n : ℕ) (new : s.known n ≡ None) where
    grown : State
    grown = add s n (offer own g s.known n)

    here_known : grown.known n ≡ (offer own g s.known n).value
    unfolding grown add or_else
    here_known = put_here s.known n _ ∙ rw new

    here_plan : grown.plan n ≡ or_else (s.plan n) (offer own g s.known n).plan
    unfolding grown add
    here_plan = put_here s.plan n _

    mono : (m : ℕ) → offer own g s.known m ≤ₒ offer own g grown.known m
    unfolding grown
    mono m = offer_mono own g s.known grown.known (add_grows s n _).knows m

    value_mono : (m : ℕ) → (offer own g s.known m).value ≼ (offer own g grown.known m).value
    value_mono m a e = ap (λ (o : Offer). o.value) ((mono m).whole a e) ∙ e

    there_known : (m : ℕ) → eqb m n ≡ false → grown.known m ≡ s.known m
    unfolding grown add
    there_known m d = put_there s.known n _ m d

    there_plan : (m : ℕ) → eqb m n ≡ false → grown.plan m ≡ s.plan m
    unfolding grown add
    there_plan m d = put_there s.plan n _ m d

    here_planned : (v : Value) → grown.known n ≡ Some v → (offer own g grown.known n).plan ≼ grown.plan n
    here_planned v e a f =
        here_plan
        ∙ or_else_right
        _
        _
        (h.plan_offered n)
        a
        (ap (λ (o : Offer). o.plan) (sym ((mono n).whole v (sym here_known ∙ e))) ∙ f)

    add_good : Good grown
    add_good =
        record {
          known_offered = λ m. k_o m (same? m n);
          plan_offered = λ m. p_o m (same? m n);
          known_planned = λ m. k_p m (same? m n);
        }
      where
        k_o : (m : ℕ) → Same m n → grown.known m ≼ (offer own g grown.known m).value
        k_o m (inl d) a e = value_mono m a (rw d.1 (sym here_known ∙ (rw d.1 at e)))
        k_o m (inr d) a e = value_mono m a (h.known_offered m a (sym (there_known m d) ∙ e))

        p_o : (m : ℕ) → Same m n → grown.plan m ≼ (offer own g grown.known m).plan
        p_o m (inl d) a e = (mono m).plans a (rw d.1 (or_else_least _ _ _ (h.plan_offered n) (λ b f. f) a (sym here_plan ∙ (rw d.1 at e))))
        p_o m (inr d) a e = (mono m).plans a (h.plan_offered m a (sym (there_plan m d) ∙ e))

        k_p : (m : ℕ) → Same m n → (v : Value) → grown.known m ≡ Some v → (offer own g grown.known m).plan ≼ grown.plan m
        k_p m (inl d) v e a f = rw d.1 (here_planned v (rw d.1 at e) a (rw d.1 at f))
        k_p m (inr d) v e a f =
            let was : s.known m ≡ Some v = sym (there_known m d) ∙ e in
            there_plan m d ∙ h.known_planned m v was a (ap (λ (o : Offer). o.plan) (sym ((mono m).whole v (h.known_offered m v was))) ∙ f)

  trial_good : (s : State) → Good s → (n : ℕ) → Good (trial own g s n)
  unfolding trial grown
  trial_good s h n = go (is_some (s.known n)) refl
    where
      go : (b : Bool) → is_some (s.known n) ≡ b → Good (cond b s (add s n (offer own g s.known n)))
      go true e = h
      go false e = add_good s h n (some_false _ e)

  trials_good : (s : State) → Good s → (ns : List ℕ) → Good (trials own g s ns)
  unfolding trials
  trials_good s h [] = h
  trials_good s h (n ∷ ns) = trials_good (trial own g s n) (trial_good s h n) ns

  trials_below : (s w : State) → Fixed w → s ≤ₛ w → (ns : List ℕ) → trials own g s ns ≤ₛ w
  unfolding trials
  trials_below s w f h [] = h
  trials_below s w f h (n ∷ ns) = trials_below (trial own g s n) w f (trial_below s w f h n) ns

  -- a fixed state is settled, and a good one that is settled is fixed
  fixed_quiet : (w : State) → Fixed w → (n : ℕ) → trial own g w n ≡ w
  fixed_quiet w f n = ≤ₛ-antisym _ _ (trial_below w w f (≤ₛ-refl w) n) (trial_grows w n)

  -- s gives m what it offers
  record Calm (s : State) (m : ℕ) : Type 0 where
    value : (offer own g s.known m).value ≼ s.known m
    plan : (offer own g s.known m).plan ≼ s.plan m

  fixed : (w : State) → ((n : ℕ) → Calm w n) → Fixed w
  fixed w c = record { values = λ n. (c n).value; plans = λ n. (c n).plan }

  known_calm : (s : State) → Good s → (n : ℕ) (v : Value) → s.known n ≡ Some v → Calm s n
  known_calm s h n v e =
      record { value = λ a f. (let x : (offer own g s.known n).value ≡ Some v = h.known_offered n v e in cc); plan = h.known_planned n v e }

  quiet_calm : (s : State) → Good s → (n : ℕ) → trial own g s n ≡ s → Calm s n
  unfolding trial add
  quiet_calm s h n q = go (is_some (s.known n)) refl q
    where
      o : Offer
      o = offer own g s.known n

      go : (b : Bool) → is_some (s.known n) ≡ b → cond b s (add s n o) ≡ s → Calm s n
      go true e q = let (v, f) = some_true (s.known n) e in known_calm s h n v f
      go false e q =
          record {
            value = λ a f. sym (ap (λ (t : State). t.known n) q) ∙ put_here s.known n o.value ∙ or_else_right _ _ (h.known_offered n) a f;
            plan = λ a f. sym (ap (λ (t : State). t.plan n) q) ∙ put_here s.plan n o.plan ∙ or_else_right _ _ (h.plan_offered n) a f;
          }

  -- past the last node nothing is offered
  offer_past : (k : Map Value) (n : ℕ) → size g ≤ n → offer own g k n ≡ no_offer
  unfolding offer node_offer node_of size
  offer_past k n h = rw (get_or-eq_default g.nodes (record { class = 0; flags = 1 }) h)

  past_calm : (s : State) (n : ℕ) → size g ≤ n → Calm s n
  unfolding no_offer
  past_calm s n h =
      let p : offer own g s.known n ≡ no_offer = offer_past s.known n h in
      record { value = λ a e. none_some a (sym (ap (λ (o : Offer). o.value) p) ∙ e); plan = λ a e. none_some a (sym (ap (λ (o : Offer). o.plan) p) ∙ e) }

  stable_fixed : (s : State) → Good s → Stable own g s → Fixed s
  stable_fixed s h q = fixed s (λ n. go n (dec_lt n (size g)))
    where
      go : (n : ℕ) → Dec (n < size g) → Calm s n
      go n (yes l) = quiet_calm s h n (q n l)
      go n (no l) = past_calm s n (omega arith)

  -- ---- the worklist

  record Fair (w : Work) : Type 0 where
    good : Good w.state
    calm : (m : ℕ) → member m w.queue ≡ false → Calm w.state m

  -- what a trial that makes nothing known leaves known
  unmoved : (s : State) (n : ℕ) → newly s (trial own g s n) n ≡ false → (trial own g s n).known ≡ s.known
  unfolding trial newly add
  unmoved s n e = go (is_some (s.known n)) refl e
    where
      o : Offer
      o = offer own g s.known n

      go : (b : Bool) → is_some (s.known n) ≡ b → (not b && is_some ((cond b s (add s n o)).known n)) ≡ false → (cond b s (add s n o)).known ≡ s.known
      go true f e = refl
      go false f e =
          let z : or_else (s.known n) o.value ≡ None = sym (put_here s.known n o.value) ∙ some_false _ e in
          rw (or_else_none (s.known n) o.value z) (put_none s.known n)

  -- a trial changes what is known at its node alone
  pub elsewhere : (s : State) (n m : ℕ) → eqb m n ≡ false → (trial own g s n).known m ≡ s.known m
  unfolding trial add
  elsewhere s n m d = go (is_some (s.known n))
    where
      go : (b : Bool) → (cond b s (add s n (offer own g s.known n))).known m ≡ s.known m
      go true = refl
      go false = put_there s.known n _ m d

  -- where m's offer stays what it was, m stays calm
  calm_stays : (s : State) (n m : ℕ) → offer own g s.known m ≡ offer own g (trial own g s n).known m → Calm s m → Calm (trial own g s n) m
  calm_stays s n m e c =
      record {
        value = λ a f. (trial_grows s n).knows m a (c.value a (ap (λ (o : Offer). o.value) e ∙ f));
        plan = λ a f. (trial_grows s n).plans m a (c.plan a (ap (λ (o : Offer). o.plan) e ∙ f));
      }

  -- a node that was just tried is calm
  added_calm : (s : State) → Good s → (n : ℕ) → s.known n ≡ None → (x : Option Value) → (offer own g s.known n).value ≡ x → Calm (add s n (offer own g s.known n)) n
  unfolding grown
  added_calm s h n e None f =
      let same : offer own g (add s n (offer own g s.known n)).known n ≡ offer own g s.known n = ap (λ (k : Map Value). offer own g k n) (unadded s n _ f) in
      record {
        value = λ a q. none_some a (sym f ∙ sym (ap (λ (o : Offer). o.value) same) ∙ q);
        plan = λ a q. here_plan s h n e ∙ or_else_right _ _ (h.plan_offered n) a (sym (ap (λ (o : Offer). o.plan) same) ∙ q);
      }
  added_calm s h n e (Some v) f = known_calm _ (add_good s h n e) n v (here_known s h n e ∙ f)

  tried_calm : (s : State) → Good s → (n : ℕ) → Calm (trial own g s n) n
  unfolding trial
  tried_calm s h n = go (is_some (s.known n)) refl
    where
      go : (b : Bool) → is_some (s.known n) ≡ b → Calm (cond b s (add s n (offer own g s.known n))) n
      go true e = let (v, f) = some_true (s.known n) e in known_calm s h n v f
      go false e = added_calm s h n (some_false _ e) _ refl

  pop_calm : (s : State) → Good s → (n : ℕ) (queue : List ℕ) → ((m : ℕ) → member m (n ∷ queue) ≡ false → Calm s m)
      → (m : ℕ) → member m (queue ++ cond (newly s (trial own g s n) n) (joiners g (trial own g s n).known queue n) []) ≡ false → Calm (trial own g s n) m
  unfolding member joiners
  pop_calm s h n queue c m e = go (same? n m)
    where
      t : State
      t = trial own g s n

      old : member m queue ≡ false
      old = member_left m queue _ e

      unfed : (b : Bool) → is_some (t.known m) ≡ b → (consumes g n m && not b && not (member m queue)) ≡ false → Calm s m → Calm t m
      unfed true k f c = let (v, x) = some_true (t.known m) k in known_calm t (trial_good s h n) m v x
      unfed false k f c = calm_stays s n m (offer_local own g s.known t.known n m (λ j x. sym (elsewhere s n j x)) (and-true² _ _ old f)) c

      within : Dec (m < size g) → member m (joiners g t.known queue n) ≡ false → Calm s m → Calm t m
      within (yes l) f c = unfed (is_some (t.known m)) refl (keep_miss _ m (up_to (size g)) (member_up_to m (size g) l) f) c
      within (no l) f c = past_calm t m (omega arith)

      moved : (b : Bool) → newly s t n ≡ b → member m (queue ++ cond b (joiners g t.known queue n) []) ≡ false → Calm s m → Calm t m
      moved true q e c = within (dec_lt m (size g)) (member_right m queue _ e) c
      moved false q e c = calm_stays s n m (ap (λ (k : Map Value). offer own g k m) (sym (unmoved s n q))) c

      go : Same n m → Calm t m
      go (inl d) = rw (← d.1) (tried_calm s h n)
      go (inr d) = moved (newly s t n) refl e (c m (rw d old))

  next_fair : (s : State) (pops : ℕ) (queue : List ℕ) → Good s → ((m : ℕ) → member m queue ≡ false → Calm s m) → Fair (next own g s pops queue)
  unfolding next pop
  next_fair s pops [] h c = record { good = h; calm = c }
  next_fair s pops (n ∷ queue) h c = record { good = trial_good s h n; calm = pop_calm s h n queue c }

  step_fair : (w : Work) → Fair w → Fair (step own g w)
  unfolding step
  step_fair w f = next_fair w.state w.pops w.queue f.good f.calm

  start_fair : Fair (start g)
  unfolding start
  start_fair = record { good = empty_good; calm = λ m e. go m e (dec_lt m (size g)) }
    where
      go : (m : ℕ) → member m (up_to (size g)) ≡ false → Dec (m < size g) → Calm empty m
      go m e (yes l) = absurd (true≢false (sym (member_up_to m (size g) l) ∙ e))
      go m e (no l) = past_calm empty m (omega arith)

  next_below : (s : State) (pops : ℕ) (queue : List ℕ) (t : State) → Fixed t → s ≤ₛ t → (next own g s pops queue).state ≤ₛ t
  unfolding next pop
  next_below s pops [] t f h = h
  next_below s pops (n ∷ queue) t f h = trial_below s t f h n

  work_fair : Fair (worklist own g)
  unfolding worklist after
  work_fair = iterate_keeps Fair (step own g) step_fair _ (start g) start_fair

  work_below : (t : State) → Fixed t → (worklist own g).state ≤ₛ t
  unfolding worklist after start step
  work_below t f =
      iterate_keeps (λ w. w.state ≤ₛ t) (step own g) (λ w h. next_below w.state w.pops w.queue t f h) _ (start g) (empty_least t)

  -- ---- the worklist ends

  newly_spends : (s : State) (n : ℕ) (queue : List ℕ) → newly s (trial own g s n) n ≡ true
      → length (joiners g (trial own g s n).known queue n) + unknowns g (trial own g s n).known ≤ unknowns g s.known
  unfolding joiners unknowns newly consumes bit
  newly_spends s n queue q =
      omega (
        arith,
        length_keep (λ c. consumes g n c && not (is_some (t.known c)) && not (member c queue)) (up_to (size g)),
        count_le (λ c. consumes g n c && not (is_some (t.known c)) && not (member c queue)) (consumes g n) (λ c. and_bit (consumes g n c) (not (is_some (t.known c))) (not (member c queue))) (up_to (size g)),
        consumers_few n (size g) g.wires,
        count_two (λ w. eqb w.source.node_id n) (λ w. not (is_some (t.known w.source.node_id))) (λ w. not (is_some (s.known w.source.node_id))) spent g.wires,
      )
    where
      t : State
      t = trial own g s n

      spent : (w : Wire) → bit (eqb w.source.node_id n) + bit (not (is_some (t.known w.source.node_id))) ≤ bit (not (is_some (s.known w.source.node_id)))
      spent w = go (same? w.source.node_id n)
        where
          go : ((eqb w.source.node_id n ≡ true) × (w.source.node_id ≡ n)) ⊎ (eqb w.source.node_id n ≡ false) → bit (eqb w.source.node_id n) + bit (not (is_some (t.known w.source.node_id))) ≤ bit (not (is_some (s.known w.source.node_id)))
          go (inl d) =
              let was : not (is_some (s.known n)) ≡ true = and_left (not (is_some (s.known n))) _ q in
              let now : is_some (t.known n) ≡ true = and_right (not (is_some (s.known n))) _ q in
              rw (d.1, eqb_same, was, now) (omega arith)
          go (inr d) = rw (d, elsewhere s n w.source.node_id d) (omega arith)

  pop_spends : (s : State) (n : ℕ) (queue : List ℕ)
      → length (queue ++ cond (newly s (trial own g s n) n) (joiners g (trial own g s n).known queue n) []) + unknowns g (trial own g s n).known ≤ length queue + unknowns g s.known
  pop_spends s n queue = go (newly s (trial own g s n) n) refl
    where
      go : (b : Bool) → newly s (trial own g s n) n ≡ b → length (queue ++ cond b (joiners g (trial own g s n).known queue n) []) + unknowns g (trial own g s n).known ≤ length queue + unknowns g s.known
      go true q = omega (arith, length-append queue (joiners g (trial own g s n).known queue n), newly_spends s n queue q)
      go false q = rw (unmoved s n q, append-nil) (omega arith)

  next_spends : (s : State) (pops : ℕ) (queue : List ℕ) → let w : Work = next own g s pops queue in w.pops + (length w.queue + unknowns g w.state.known) ≤ pops + (length queue + unknowns g s.known)
  unfolding next pop
  next_spends s pops [] = omega arith
  next_spends s pops (n ∷ queue) = omega (arith, pop_spends s n queue)

  -- an empty queue stays empty
  idle : (n : ℕ) (w : Work) → w.queue ≡ [] → (iterate n (step own g) w).queue ≡ []
  unfolding step next
  idle n w e = iterate_keeps (λ v. v.queue ≡ []) (step own g) (λ v f. still v.state v.pops v.queue f) n w e
    where
      still : (s : State) (pops : ℕ) (queue : List ℕ) → queue ≡ [] → (next own g s pops queue).queue ≡ []
      still s pops [] f = refl
      still s pops (x ∷ queue) f = absurd (cons≢nil f)

  runs_out : (n : ℕ) (s : State) (pops : ℕ) (queue : List ℕ) → length queue + unknowns g s.known ≤ n
      → (iterate n (step own g) (record { queue = queue; state = s; pops = pops })).queue ≡ []
  unfolding iterate step next pop
  runs_out zero s pops [] l = refl
  runs_out zero s pops (x ∷ queue) l = let b : ⊥ = omega arith in absurd b
  runs_out (suc n) s pops [] l = idle (suc n) (record { queue = []; state = s; pops = pops }) refl
  runs_out (suc n) s pops (x ∷ queue) l =
      runs_out
      n
      (trial own g s x)
      (suc pops)
      (queue ++ cond (newly s (trial own g s x) x) (joiners g (trial own g s x).known queue x) [])
      (omega (arith, pop_spends s x queue))

  start_cost : length (up_to (size g)) + unknowns g empty.known ≤ size g + length g.wires
  unfolding unknowns
  start_cost = omega (arith, length_up_to (size g), count_length (λ w. not (is_some (empty.known w.source.node_id))) g.wires)

  -- none waits at the end
  pub work_ends : (worklist own g).queue ≡ []
  unfolding worklist after start
  work_ends = runs_out (size g + length g.wires) empty 0 (up_to (size g)) start_cost

  -- at every turn the pops, the queue and the wires from unknown nodes are together no more than the nodes and the wires
  pub spent : (k : ℕ) → let w : Work = after own g k in w.pops + (length w.queue + unknowns g w.state.known) ≤ size g + length g.wires
  unfolding after start step
  spent k =
      iterate_keeps
      (λ w. w.pops + (length w.queue + unknowns g w.state.known) ≤ size g + length g.wires)
      (step own g)
      (λ w h. omega (arith, next_spends w.state w.pops w.queue))
      k
      (start g)
      (omega (arith, start_cost))

  pub work_pops : (worklist own g).pops ≤ size g + length g.wires
  unfolding worklist after
  work_pops = omega (arith, spent (size g + length g.wires))

  pub work_good : Good (worklist own g).state
  work_good = work_fair.good

  pub work_fixed : Fixed (worklist own g).state
  unfolding member
  work_fixed = fixed (worklist own g).state (λ n. work_fair.calm n (rw work_ends refl))

  -- the third demand's first sentence: after any list of trials from nothing known and nothing planned, what is known and planned is the
  -- worklist's exactly when no trial of any node would add to it
  pub order : (ns : List ℕ) → (trials own g empty ns ≡ (worklist own g).state) ↔ Stable own g (trials own g empty ns)
  order ns = (only_if, if)
    where
      only_if : trials own g empty ns ≡ (worklist own g).state → Stable own g (trials own g empty ns)
      only_if e = rw e (λ n l. fixed_quiet (worklist own g).state work_fixed n)

      if : Stable own g (trials own g empty ns) → trials own g empty ns ≡ (worklist own g).state
      if q =
          ≤ₛ-antisym
          (trials own g empty ns)
          (worklist own g).state
          (trials_below empty (worklist own g).state work_fixed (empty_least _) ns)
          (work_below (trials own g empty ns) (stable_fixed _ (trials_good empty empty_good ns) q))

  -- planned nodes are nodes
  pub planned_below : (n : ℕ) (q : PlanAction) → (worklist own g).state.plan n ≡ Some q → n < size g
  unfolding no_offer
  planned_below n q e = go (dec_lt n (size g))
    where
      go : Dec (n < size g) → n < size g
      go (yes l) = l
      go (no l) = none_some q (sym (ap (λ (o : Offer). o.plan) (offer_past (worklist own g).state.known n (omega arith))) ∙ work_good.plan_offered n q e)

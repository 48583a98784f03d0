-- The arrays hold what a trial adds.
use Rattle.std.specs.Prelude.{Option, None, Some}
use Prim.Native.Nat.{ℕ, zero, suc, ◌*◌, ◌≤◌, ◌<◌}
use native.Mathlib.Omega.{arith}
use native.Mathlib.Decide.{dec_lt}
use mathlib.Core.Path.{◌≡◌, refl, sym, ap, ap₂, ◌∙◌, fun_ext}
use mathlib.Core.Bool.{Bool, true, false, false≢true}
use mathlib.Core.List.{List}
use mathlib.Core.Logic.{◌⊎◌, inl, inr, ◌≢◌}
use lib.Dec.{eqb}
use lib.ListN.{length, get_or, set, replicate, length-set, length-replicate, get_or-replicate, get_or-eq_default}
use lib.Seq.{get_or-set_same, get_or-set_other}
use borrow.Author.Tests.{eqb-false, eq-eqb, ne_eqb}
use Rattle.ir.specs.Limits.{max_nodes}
use Rattle.ir.specs.declared.Wire.{Wire}
use Rattle.value.specs.declared.Value.{Value}
use Rattle.encoding.specs.Values.{kind_of}
use Rattle.graph.specs.Graph.{Graph}
use Rattle.model.specs.Maps.{Map, is_some, or_else, put}
use Rattle.model.specs.Inputs.{size, targets}
use Rattle.model.specs.Offer.{PlanAction, Offer, no_offer, value_offer, literal_offer}
use Rattle.model.specs.Trial.{State, empty, add}
use Rattle.model.specs.Arrays.{store_words}
use Rattle.model.proofs.Maps.{Same, same?, put_here, put_there, put_none}
use Rattle.model.proofs.Arrays.{map_of, store}
use Rattle.encoding.specs.Words.{held_value}
use Rattle.encoding.proofs.Sizes.{property_kind}
use Rattle.encoding.proofs.Held.{kind_role}
use Rattle.state.specs.Held.{is_kind, held, known_of}
use Rattle.state.specs.Planned.{targets_in, shape_at, shape_of, valued, plan_of, Holds}
use Rattle.state.specs.Stores.{Learnt, planned, Planned}
use Rattle.state.specs.Trials.{offer_of, Within}
use Rattle.state.specs.declared.Trial.{Trial}

-- ---- lists

apart : {m n : ℕ} → eqb m n ≡ false → m ≢ n
apart {m} {n} e = eqb-false m n e

zeros : (k m : ℕ) → get_or (replicate {A = ℕ} k 0) m 0 ≡ 0
zeros k m = pick (dec_lt m k)
  where
    pick : Dec (m < k) → get_or (replicate {A = ℕ} k 0) m 0 ≡ 0
    pick (yes h) = get_or-replicate {A = ℕ} k m 0 0 h
    pick (no h) = get_or-eq_default (replicate {A = ℕ} k 0) 0 {n = m} (omega (arith, length-replicate {A = ℕ} k 0))

-- ---- nothing

module _ (g : Graph) where
  pub cleared : Holds g (replicate 1024 0) (replicate 4096 0) (replicate 1024 0) (replicate 1024 0) empty
  unfolding empty known_of held plan_of shape_of shape_at valued
  cleared =
      record {
        kinds_long = length-replicate {A = ℕ} 1024 0;
        words_long = length-replicate {A = ℕ} 4096 0;
        shaped =
            record {
              actions_long = length-replicate {A = ℕ} 1024 0;
              details_long = length-replicate {A = ℕ} 1024 0;
              listed = λ m. omega (arith, zeros 1024 m);
              below = λ m h. zeros 1024 m;
              chosen = λ m e. absurd (omega (arith, zeros 1024 m));
            };
        known = fun_ext (λ m. rw (zeros 1024 m));
        plan = fun_ext (λ m. rw (zeros 1024 m));
        literal = λ m e. absurd (omega (arith, zeros 1024 m));
        kinds_listed = λ m. inl (zeros 1024 m);
      }

-- ---- a plan

module _ (actions : List ℕ) (n : ℕ) (xs : List ℕ) (x : ℕ) where
  pub plan_free : get_or actions n 0 ≡ 0 → set xs n x ≡ planned actions n xs x
  unfolding planned
  plan_free e = rw (eq-eqb _ _ e)

  pub plan_kept : (get_or actions n 0 ≡ 0 → ⊥) → xs ≡ planned actions n xs x
  unfolding planned
  plan_kept e = rw (ne_eqb _ _ e)

-- an action that leaves a node without a known value says the same whatever becomes known
module _ (ws : List Wire) (detail n : ℕ) where
  abbrev says : ℕ → Option Value → Option PlanAction
  says action o = valued (shape_at ws action detail n) o

  says_none : (o : Option Value) → says 0 o ≡ None
  unfolding valued shape_at
  says_none o = refl

  says_more : (action : ℕ) → action ≤ 3 → action ≢ 1 → (p : Option PlanAction) (o : Option Value) → (action ≢ 0) ⊎ (p ≡ None) → or_else (says action None) p ≡ says action o
  unfolding valued shape_at or_else
  says_more zero l h p o (inl k) = absurd (k refl)
  says_more zero l h p o (inr e) = e
  says_more (suc zero) l h p o k = absurd (h refl)
  says_more (suc (suc zero)) l h p o k = refl
  says_more (suc (suc (suc zero))) l h p o k = refl
  says_more (suc (suc (suc (suc a)))) l h p o k = absurd (omega arith)

-- ---- what a trial adds

-- the arrays of known values after a trial
pub record KnownAfter (known : Map Value) (n : ℕ) (o : Option Value) (kinds words : List ℕ) : Type 0 where
  pub kinds_long : length kinds ≡ max_nodes
  pub words_long : length words ≡ 4 * max_nodes
  pub known_is : put known n o ≡ known_of kinds words
  pub kinds_listed : (m : ℕ) → is_kind (get_or kinds m 0)

kind_held : (v : Value) (a b c d : ℕ) → held (kind_of v) a b c d ≡ Some (held_value (kind_of v) a b c d)
unfolding held
kind_held v a b c d = rw (ne_eqb (kind_of v) 0 (λ e. omega (arith, (property_kind (kind_of v) (kind_role v)).least, e))) refl

module _ (g : Graph) (kinds words actions details : List ℕ) (s : State) (n : ℕ) (in-nodes : n < max_nodes) (in_graph : n < size g) (h : Holds g kinds words actions details s) (unknown : s.known n ≡ None) where
  pub same_known : KnownAfter s.known n None kinds words
  same_known = record { kinds_long = h.kinds_long; words_long = h.words_long; known_is = put_none s.known n ∙ h.known; kinds_listed = h.kinds_listed }

  module _ (v : Value) (kinds' words' : List ℕ) (l : Learnt v n kinds words kinds' words') where
    stored : put s.known n (Some v) ≡ known_of (set kinds n (kind_of v)) (store_words words n l.held.a l.held.b l.held.c l.held.d)
    unfolding known_of map_of
    stored =
        sym (store held kinds words n (kind_of v) l.held.a l.held.b l.held.c l.held.d (omega (arith, h.kinds_long)) (omega (arith, h.words_long)) (sym (ap (λ (f : Map Value). f n) h.known) ∙ unknown)
        ∙ ap₂ (λ (f : Map Value) (o : Option Value). put f n o) (sym h.known) (kind_held v _ _ _ _ ∙ ap Some l.back))

    pub learnt : KnownAfter s.known n (Some v) kinds' words'
    learnt =
        rw (l.kind_set, l.words_set)
        (record {
          kinds_long = length-set kinds n (kind_of v) ∙ h.kinds_long;
          words_long = (unfold store_words in simp length-set h.words_long);
          known_is = stored;
          kinds_listed = λ m. listed m (same? m n);
        })
      where
        listed : (m : ℕ) → Same m n → is_kind (get_or (set kinds n (kind_of v)) m 0)
        listed m (inl q) = rw (q.1, get_or-set_same kinds n (kind_of v) 0 (omega (arith, h.kinds_long))) (inr (kind_role v))
        listed m (inr q) = rw (get_or-set_other kinds n m (kind_of v) 0 (apart q)) (h.kinds_listed m)

  not_literal : get_or actions n 0 ≢ 1
  not_literal e = (unfold is_some in false≢true (sym (ap is_some unknown) ∙ h.literal n e))

  module _ (o : Offer) (kinds' words' : List ℕ) (k : KnownAfter s.known n o.value kinds' words') where
    plan_there : (m : ℕ) → eqb m n ≡ false → put s.plan n o.plan m ≡ valued (shape_at g.wires (get_or actions m 0) (get_or details m 0) m) (put s.known n o.value m)
    unfolding plan_of shape_of
    plan_there m q = put_there s.plan n o.plan m q ∙ ap (λ (f : Map PlanAction). f m) h.plan ∙ ap (valued (shape_at g.wires (get_or actions m 0) (get_or details m 0) m)) (sym (put_there s.known n o.value m q))

    plan_before : s.plan n ≡ valued (shape_at g.wires (get_or actions n 0) (get_or details n 0) n) None
    unfolding plan_of shape_of
    plan_before = ap (λ (f : Map PlanAction). f n) h.plan ∙ ap (valued (shape_at g.wires (get_or actions n 0) (get_or details n 0) n)) unknown

    value_here : put s.known n o.value n ≡ o.value
    unfolding or_else
    value_here = put_here s.known n o.value ∙ rw unknown refl

    still_some : (m : ℕ) → is_some (s.known m) ≡ true → is_some (put s.known n o.value m) ≡ true
    unfolding is_some
    still_some m e = go (same? m n)
      where
        go : Same m n → is_some (put s.known n o.value m) ≡ true
        go (inl q) = absurd (false≢true (sym (ap is_some unknown) ∙ (rw q.1 at e)))
        go (inr q) = ap is_some (put_there s.known n o.value m q) ∙ e

    -- the plan's arrays are as they were
    pub kept : (get_or actions n 0 ≢ 0) ⊎ (o.plan ≡ None) → Holds g kinds' words' actions details (add s n o)
    unfolding add plan_of shape_of
    kept f =
        record {
          kinds_long = k.kinds_long;
          words_long = k.words_long;
          shaped = h.shaped;
          known = k.known_is;
          plan = fun_ext (λ m. go m (same? m n));
          literal = λ m e. still_some m (h.literal m e);
          kinds_listed = k.kinds_listed;
        }
      where
        go : (m : ℕ) → Same m n → put s.plan n o.plan m ≡ valued (shape_at g.wires (get_or actions m 0) (get_or details m 0) m) (put s.known n o.value m)
        go m (inl q) =
            rw q.1
            (put_here s.plan n o.plan
            ∙ ap (λ (p : Option PlanAction). or_else p o.plan) plan_before
            ∙ says_more g.wires (get_or details n 0) n (get_or actions n 0) (h.shaped.listed n) not_literal o.plan o.value f
            ∙ ap (valued (shape_at g.wires (get_or actions n 0) (get_or details n 0) n)) (sym value_here))
        go m (inr q) = plan_there m q

    module _ (action detail : ℕ) (listed : action ≤ 3) (chosen : action ≡ 2 → detail < length g.wires) (literal : action ≡ 1 → is_some o.value ≡ true) (says : valued (shape_at g.wires action detail n) o.value ≡ o.plan) where
      -- a plan was stored
      fresh : get_or actions n 0 ≡ 0 → Holds g kinds' words' (set actions n action) (set details n detail) (add s n o)
      unfolding add plan_of shape_of or_else
      fresh z =
          record {
            kinds_long = k.kinds_long;
            words_long = k.words_long;
            shaped =
                record {
                  actions_long = length-set actions n action ∙ h.shaped.actions_long;
                  details_long = length-set details n detail ∙ h.shaped.details_long;
                  listed = λ m. its_listed m (same? m n);
                  below = λ m b. get_or-set_other actions n m action 0 (λ e. omega (arith, e)) ∙ h.shaped.below m b;
                  chosen = λ m. its_chosen m (same? m n);
                };
            known = k.known_is;
            plan = fun_ext (λ m. its_plan m (same? m n));
            literal = λ m. its_literal m (same? m n);
            kinds_listed = k.kinds_listed;
          }
        where
          action_here : get_or (set actions n action) n 0 ≡ action
          action_here = get_or-set_same actions n action 0 (omega (arith, h.shaped.actions_long))

          detail_here : get_or (set details n detail) n 0 ≡ detail
          detail_here = get_or-set_same details n detail 0 (omega (arith, h.shaped.details_long))

          its_listed : (m : ℕ) → Same m n → get_or (set actions n action) m 0 ≤ 3
          its_listed m (inl q) = rw (q.1, action_here) listed
          its_listed m (inr q) = rw (get_or-set_other actions n m action 0 (apart q)) (h.shaped.listed m)

          its_chosen : (m : ℕ) → Same m n → get_or (set actions n action) m 0 ≡ 2 → get_or (set details n detail) m 0 < length g.wires
          its_chosen m (inl q) = rw (q.1, action_here, detail_here) chosen
          its_chosen m (inr q) = rw (get_or-set_other actions n m action 0 (apart q), get_or-set_other details n m detail 0 (apart q)) (h.shaped.chosen m)

          its_literal : (m : ℕ) → Same m n → get_or (set actions n action) m 0 ≡ 1 → is_some (put s.known n o.value m) ≡ true
          its_literal m (inl q) = rw (q.1, action_here, value_here) literal
          its_literal m (inr q) = rw (get_or-set_other actions n m action 0 (apart q)) (λ e. still_some m (h.literal m e))

          its_plan : (m : ℕ) → Same m n → put s.plan n o.plan m ≡ valued (shape_at g.wires (get_or (set actions n action) m 0) (get_or (set details n detail) m 0) m) (put s.known n o.value m)
          its_plan m (inl q) =
              rw (q.1, action_here, detail_here, value_here)
              (put_here s.plan n o.plan
              ∙ ap (λ (p : Option PlanAction). or_else p o.plan) (plan_before ∙ ap (λ (a : ℕ). valued (shape_at g.wires a (get_or details n 0) n) None) z ∙ says_none g.wires (get_or details n 0) n None)
              ∙ sym says)
          its_plan m (inr q) = rw (get_or-set_other actions n m action 0 (apart q), get_or-set_other details n m detail 0 (apart q)) (plan_there m q)

      pub plans : (actions' details' : List ℕ) → Planned n action detail actions details actions' details' → Holds g kinds' words' actions' details' (add s n o)
      plans actions' details' p = rw (p.action_set, p.detail_set) (go (same? (get_or actions n 0) 0))
        where
          go : Same (get_or actions n 0) 0 → Holds g kinds' words' (planned actions n actions action) (planned actions n details detail) (add s n o)
          go (inl q) = rw (← plan_free actions n actions action q.1, ← plan_free actions n details detail q.1) (fresh q.1)
          go (inr q) = rw (← plan_kept actions n actions action (apart q), ← plan_kept actions n details detail (apart q)) (kept (inl (apart q)))

-- ---- each trial

module _ (kinds words actions details : List ℕ) (n : ℕ) (in-nodes : n < max_nodes) (t : Trial) where
  -- the arrays then hold what the trial adds, and r says whether it has a value
  abbrev pub Added : List ℕ → List ℕ → List ℕ → List ℕ → Bool → Type 0
  Added kinds' words' actions' details' r =
      (g : Graph) (s : State) → n < size g → Holds g kinds words actions details s → s.known n ≡ None → Within g t
      → Holds g kinds' words' actions' details' (add s n (offer_of g n t)) × (r ≡ is_some (offer_of g n t).value)

  pub adds_nothing : t ≡ Trial.Nothing → Added kinds words actions details false
  unfolding is_some no_offer
  adds_nothing e = rw e (λ g s i h u w. (kept g kinds words actions details s n in-nodes i h u no_offer kinds words (same_known g kinds words actions details s n in-nodes i h u) (inr refl), refl))

  pub adds_known : (v : Value) (kinds' words' : List ℕ) → t ≡ Trial.Known v → Learnt v n kinds words kinds' words' → Added kinds' words' actions details true
  unfolding is_some value_offer
  adds_known v kinds' words' e l =
      rw e (λ g s i h u w. (kept g kinds words actions details s n in-nodes i h u (value_offer (Some v)) kinds' words' (learnt g kinds words actions details s n in-nodes i h u v kinds' words' l) (inr refl), refl))

  pub adds_literal : (v : Value) (kinds' words' actions' details' : List ℕ) → t ≡ Trial.BecomeLiteral v → Learnt v n kinds words kinds' words' → Planned n 1 0 actions details actions' details' → Added kinds' words' actions' details' true
  unfolding is_some literal_offer valued shape_at
  adds_literal v kinds' words' actions' details' e l p =
      rw e
      (λ g s i h u w.
      (plans g kinds words actions details s n in-nodes i h u (literal_offer (Some v)) kinds' words' (learnt g kinds words actions details s n in-nodes i h u v kinds' words' l) 1 0 (omega arith) (λ q. absurd (omega arith)) (λ q. refl) refl actions' details' p, refl))

  pub adds_short_circuit : (chosen : ℕ) (actions' details' : List ℕ) → t ≡ Trial.ShortCircuit chosen → Planned n 2 chosen actions details actions' details' → Added kinds words actions' details' false
  unfolding is_some valued shape_at
  adds_short_circuit chosen actions' details' e p =
      rw e
      (λ g s i h u w.
      (plans g kinds words actions details s n in-nodes i h u (offer_of g n (Trial.ShortCircuit chosen)) kinds words (same_known g kinds words actions details s n in-nodes i h u) 2 chosen (omega arith) (λ q. w) (λ q. absurd (omega arith)) refl actions' details' p, refl))

  pub adds_short_circuit_known : (chosen : ℕ) (v : Value) (kinds' words' actions' details' : List ℕ) → t ≡ Trial.ShortCircuitKnown chosen v → Learnt v n kinds words kinds' words' → Planned n 2 chosen actions details actions' details' → Added kinds' words' actions' details' true
  unfolding is_some valued shape_at
  adds_short_circuit_known chosen v kinds' words' actions' details' e l p =
      rw e
      (λ g s i h u w.
      (plans g kinds words actions details s n in-nodes i h u (offer_of g n (Trial.ShortCircuitKnown chosen v)) kinds' words' (learnt g kinds words actions details s n in-nodes i h u v kinds' words' l) 2 chosen (omega arith) (λ q. w) (λ q. absurd (omega arith)) refl actions' details' p, refl))

  pub adds_truncate : (taken : ℕ) (actions' details' : List ℕ) → t ≡ Trial.Truncate taken → Planned n 3 taken actions details actions' details' → Added kinds words actions' details' false
  unfolding is_some valued shape_at targets_in targets
  adds_truncate taken actions' details' e p =
      rw e
      (λ g s i h u w.
      (plans g kinds words actions details s n in-nodes i h u (offer_of g n (Trial.Truncate taken)) kinds words (same_known g kinds words actions details s n in-nodes i h u) 3 taken (omega arith) (λ q. absurd (omega arith)) (λ q. absurd (omega arith)) refl actions' details' p, refl))

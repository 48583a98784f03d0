-- The laws of the stack: what a step down a chain, a push and a pop do to what it stands for.
use Rattle.std.specs.Prelude.{Option, None, Some}
use mathlib.Core.Path.{◌≡◌, refl, sym, ap, ap₂, ◌∙◌, subst}
use mathlib.Core.Bool.{Bool, true, false, cond}
use mathlib.Core.List.{List, [], ◌∷◌, ◌++◌, append_assoc}
use Prim.Native.Nat.{ℕ, zero, suc, ◌+◌, ◌-◌, ◌≤◌, ◌<◌}
use native.Mathlib.Omega.{arith}
use native.Mathlib.Decide.{ℕ_discrete}
use lib.Dec.{eqb}
use lib.ListN.{length, get_or, set, length-append, length-set}
use lib.Seq.{get_or-set_same, get_or-set_other}
use borrow.Author.Tests.{eqb-true}
use Rattle.ir.specs.Limits.{max_wires}
use Rattle.ir.specs.Ports.{exec}
use Rattle.ir.specs.declared.PortRef.{PortRef}
use Rattle.ir.specs.declared.Wire.{Wire}
use Rattle.value.specs.declared.Value.{Value}
use Rattle.records.specs.Access.{no_wire}
use Rattle.wire_index.specs.Chains.{Chain, end, link}
use Rattle.wire_index.proofs.Walks.{chain_end, chain_step}
use Rattle.model.specs.Maps.{Map, All}
use Rattle.model.specs.Offer.{PlanAction, BecomeLiteral, ShortCircuit, Truncate}
use Rattle.model.specs.Rewrite.{collect, arrive, reach}
use Rattle.model.proofs.Maps.{none_some}
use Rattle.model.proofs.TargetCounts.{both_some, reach_more}
use Rattle.model.proofs.Endless.{free_reach}
use Rattle.state.specs.Planned.{shape_at, shape_of, targets_in}
use Rattle.emit.specs.Emit.{leads_to, lead, Live, exec_of, Expands, Net, Stacked, Standing, Descended, Pushed, Popable, Popped}

module _ (p : Map PlanAction) (n : ℕ) where
  -- what is reached is what a target leads to
  pub leads_is : (k : ℕ) (e : PortRef) (ys : List PortRef) → k ≤ n → reach p k e ≡ Some ys → leads_to p n e ≡ ys
  unfolding leads_to
  leads_is k e ys h q = rw (reach_more p k n h e ys q) refl

  -- what the wires of a chain lead to, where each is live
  pub lead_is : (k : ℕ) → k ≤ n → (us : List Wire) (ys : List PortRef) → collect (λ w. reach p k w.target) us ≡ Some ys → lead p n us ≡ ys
  unfolding collect lead
  lead_is k h [] ys q = let z : [] ≡ ys = cc in z
  lead_is k h (u ∷ us) ys q =
      let (xs, zs, a, b, s) = both_some (reach p k u.target) (collect (λ w. reach p k w.target) us) ys q in
      ap₂ (λ (l m : List PortRef). l ++ m) (leads_is k u.target xs h a) (lead_is k h us zs b) ∙ sym s

module _ (p : Map PlanAction) (n : ℕ) (ws : List Wire) (next : List ℕ) where
  -- a store above the top leaves the stack
  pub stack_kept : {stack : List ℕ} {top : ℕ} {rs : List PortRef} (at x : ℕ) → top ≤ at → Stacked p n ws next stack top rs → Stacked p n ws next (set stack at x) top rs
  stack_kept at x h Stacked.bottom = Stacked.bottom
  stack_kept {stack} at x h (Stacked.above {top = t} {us = us} s c l a) =
      let e : get_or (set stack at x) t 0 ≡ get_or stack t 0 = get_or-set_other stack at t x 0 (λ q. omega arith) in
      Stacked.above {us = us} (stack_kept at x (omega arith) s) (rw e c) l a

  -- each entry stands for some target
  lead_some : (us : List Wire) → 0 < length us → All (Live p n) us → 0 < length (lead p n us)
  unfolding lead
  lead_some [] h a = absurd (omega arith)
  lead_some (u ∷ us) h a = omega (arith, a.0.some_target, length-append (leads_to p n u.target) (lead p n us))

  pub stack_low : {stack : List ℕ} {top : ℕ} {rs : List PortRef} → Stacked p n ws next stack top rs → top ≤ length rs
  stack_low Stacked.bottom = omega arith
  stack_low (Stacked.above {us = us} {rs = rs} s c l a) = omega (arith, stack_low s, lead_some us l a, length-append (lead p n us) rs)

  -- a chain goes on top, unless it is at its end
  pub pushed : {stack : List ℕ} {top code : ℕ} {us : List Wire} {rs : List PortRef} → length stack ≡ max_wires → top < max_wires → Stacked p n ws next stack top rs → Chain ws next code us → All (Live p n) us → 0 < code
      → Stacked p n ws next (set stack top code) (suc top) (lead p n us ++ rs)
  pushed {stack} {top} {code} {us} e l s c a h =
      let t = chain_step c h in
      let z : 0 < length us = omega (arith, ap length t.split) in
      Stacked.above {us = us} (stack_kept top code (omega arith) s) (rw (get_or-set_same stack top code 0 (omega arith)) c) z a

  pub unpushed : {stack : List ℕ} {top code : ℕ} {us : List Wire} {rs : List PortRef} → Stacked p n ws next stack top rs → Chain ws next code us → code ≡ 0 → Stacked p n ws next stack top (lead p n us ++ rs)
  unfolding lead
  unpushed s c e = rw (chain_end c e) s

  pub push_law : {stack stack' : List ℕ} {top code r : ℕ} {us : List Wire} {rs : List PortRef} → length stack ≡ max_wires → top < max_wires → Stacked p n ws next stack top rs → Chain ws next code us → All (Live p n) us
      → Pushed stack stack' top code r → Stacked p n ws next stack' r (lead p n us ++ rs) × (length stack' ≡ max_wires)
  push_law {stack} {stack'} {top} {code} {r} {us} {rs} e l s c a h = go (code_is code)
    where
      code_is : (m : ℕ) → Dec (m ≡ 0)
      code_is m = ℕ_discrete m 0

      go : Dec (code ≡ 0) → Stacked p n ws next stack' r (lead p n us ++ rs) × (length stack' ≡ max_wires)
      go (yes z) = let k = h.left z in (rw (k.0, k.1) (unpushed s c z), rw k.0 e)
      go (no z) =
          let k = h.put (omega (arith, z)) in
          let q : r ≡ suc top = omega (arith, k.1) in
          (rw (k.0, q) (pushed e l s c a (omega (arith, z))), rw k.0 (length-set stack top code ∙ e))

-- ---- the way down

-- as `Standing`, with a bound on the Branches that are still to be entered
pub record Down (p : Map PlanAction) (n : ℕ) (ws : List Wire) (next stack : List ℕ) (top i steps : ℕ) (ts : List PortRef) : Type 0 where
  pub stands : Standing p n ws next stack top i ts
  pub enough : steps ≤ n
  pub deep : reach p steps (get_or ws i no_wire).target ≡ Some (leads_to p n (get_or ws i no_wire).target)

module _ (ws : List Wire) (n : ℕ) (actions details first next : List ℕ) (N : Net ws n actions details first next) where
  abbrev p : Map PlanAction
  p = shape_of ws actions details

  abbrev target : ℕ → PortRef
  target i = (get_or ws i no_wire).target

  branch_plan : (b : ℕ) → get_or actions b 0 ≡ 3 → p b ≡ Some (Truncate (targets_in ws b (get_or details b 0)))
  unfolding shape_of shape_at
  branch_plan b e = rw e refl

  -- a Branch that leads to some target is entered at Exec, and some steps are left
  pub record Entered (steps : ℕ) (e : PortRef) : Type 0 where
    pub at_exec : e ≡ exec_of e.node_id
    pub left : ℕ
    pub one_more : steps ≡ suc left

  no_targets : {X : Type 0} (e : PortRef) → Some [] ≡ Some (leads_to p n e) → 0 < length (leads_to p n e) → X
  no_targets e q h = let z : [] ≡ leads_to p n e = cc in let b : ⊥ = omega (arith, ap length z) in absurd b

  pub enter : (steps : ℕ) (e : PortRef) → get_or actions e.node_id 0 ≡ 3 → reach p steps e ≡ Some (leads_to p n e) → 0 < length (leads_to p n e) → Entered steps e
  unfolding reach arrive
  enter zero e a q h = go (eqb e.port exec) (sym (ap (λ (o : Option PlanAction). arrive (λ ts. None) o e) (branch_plan e.node_id a)) ∙ q)
    where
      go : (b : Bool) → cond b None (Some []) ≡ Some (leads_to p n e) → Entered zero e
      go true q = none_some _ q
      go false q = no_targets e q h
  enter (suc k) e a q h = go (eqb e.port exec) refl (sym (ap (λ (o : Option PlanAction). arrive (λ ts. collect (reach p k) ts) o e) (branch_plan e.node_id a)) ∙ q)
    where
      go : (b : Bool) → eqb e.port exec ≡ b → cond b (collect (reach p k) (targets_in ws e.node_id (get_or details e.node_id 0))) (Some []) ≡ Some (leads_to p n e) → Entered (suc k) e
      go true r q = record { at_exec = ap (λ (x : ℕ). record { node_id = e.node_id; port = x }) (eqb-true e.port exec r); left = k; one_more = refl }
      go false r q = no_targets e q h

  literal_reach : (k : ℕ) (e : PortRef) (v : Value) → p e.node_id ≡ Some (BecomeLiteral v) → reach p k e ≡ Some []
  unfolding reach arrive
  literal_reach zero e v r = rw r refl
  literal_reach (suc k) e v r = rw r refl

  short_reach : (k : ℕ) (e s : PortRef) → p e.node_id ≡ Some (ShortCircuit s) → reach p k e ≡ Some []
  unfolding reach arrive
  short_reach zero e s r = rw r refl
  short_reach (suc k) e s r = rw r refl

  -- only action 3 is a Branch
  only_branch : (b : ℕ) (ts : List PortRef) → p b ≡ Some (Truncate ts) → get_or actions b 0 ≡ 3
  unfolding shape_of shape_at
  only_branch b ts r = go (eqb (get_or actions b 0) 1) (eqb (get_or actions b 0) 2) (eqb (get_or actions b 0) 3) refl _ _ _ r
    where
      code : Option PlanAction → ℕ
      code None = 0
      code (Some (BecomeLiteral v)) = 1
      code (Some (ShortCircuit s)) = 2
      code (Some (Truncate ts)) = 3

      go : (x y z : Bool) → eqb (get_or actions b 0) 3 ≡ z → (v : Value) (s : PortRef) (us : List PortRef) → cond x (Some (BecomeLiteral v)) (cond y (Some (ShortCircuit s)) (cond z (Some (Truncate us)) None)) ≡ Some (Truncate ts) → get_or actions b 0 ≡ 3
      go true y z e v s us q = absurd (omega (arith, ap code q))
      go false true z e v s us q = absurd (omega (arith, ap code q))
      go false false true e v s us q = eqb-true (get_or actions b 0) 3 e
      go false false false e v s us q = absurd (omega (arith, ap code q))

  -- one Branch further down
  pub record Stepped (stack : List ℕ) (top i steps code : ℕ) (ts : List PortRef) : Type 0 where
    pub some_code : 0 < code
    pub inside : code - 1 < length ws
    pub some_steps : 0 < steps
    pub room : top < max_wires
    pub go_on : (stack' : List ℕ) (r : ℕ) → Pushed stack stack' top (get_or next (code - 1) 0) r → Down p n ws next stack' r (code - 1) (steps - 1) ts

  -- what the chain of the Branch leads to
  unrolled : (steps : ℕ) (e : PortRef) (E : Entered steps e) (ys : List PortRef) → E.left ≤ n → reach p steps e ≡ Some ys → {code : ℕ} (X : Expands p n ws next e.node_id code) → collect (λ w. reach p E.left w.target) X.out ≡ Some ys
  unrolled steps e E ys l q X = X.leads E.left ys l (ap₂ (λ (m : ℕ) (x : PortRef). reach p m x) (sym E.one_more) (sym E.at_exec) ∙ q)

  -- the first wire of it and the others
  record Opened (k : ℕ) (us : List Wire) (code : ℕ) (ys : List PortRef) : Type 0 where
    some_code : 0 < code
    more : List Wire
    inside : code - 1 < length ws
    live : Live p n (get_or ws (code - 1) no_wire)
    others : All (Live p n) more
    chain : Chain ws next (get_or next (code - 1) 0) more
    deep : reach p k (target (code - 1)) ≡ Some (leads_to p n (target (code - 1)))
    split : ys ≡ leads_to p n (target (code - 1)) ++ lead p n more

  opened : (k : ℕ) → k ≤ n → {us : List Wire} {code : ℕ} → Chain ws next code us → All (Live p n) us → (ys : List PortRef) → collect (λ w. reach p k w.target) us ≡ Some ys → 0 < length ys → Opened k us code ys
  unfolding collect lead
  opened k h end a ys q l = let z : [] ≡ ys = cc in let b : ⊥ = omega (arith, ap length z) in absurd b
  opened k h (link {i} {xs} m c) a ys q l =
      let e : suc i - 1 ≡ i = omega arith in
      let (y1, y2, r, t, s) = both_some (reach p k (target i)) (collect (λ w. reach p k w.target) xs) ys q in
      let z : leads_to p n (target i) ≡ y1 = leads_is p n k (target i) y1 h r in
      record {
        some_code = omega arith;
        more = xs;
        inside = rw e m;
        live = rw e a.0;
        others = a.1;
        chain = rw e c;
        deep = rw e (r ∙ ap Some (sym z));
        split = rw e (s ∙ ap₂ (λ (l m : List PortRef). l ++ m) (sym z) (sym (lead_is p n k h xs y2 t)));
      }

  pub down_step : {stack : List ℕ} {top i steps : ℕ} {ts : List PortRef} → Down p n ws next stack top i steps ts → get_or actions (target i).node_id 0 ≡ 3 → Stepped stack top i steps (get_or first (target i).node_id 0) ts
  down_step {stack} {top} {i} {steps} {ts} d a = go (enter steps (target i) a d.deep d.stands.live.some_target)
    where
      go : Entered steps (target i) → Stepped stack top i steps (get_or first (target i).node_id 0) ts
      go E =
          let s = d.stands in
          let b : ℕ = (target i).node_id in
          let some_b : 0 < length (leads_to p n (exec_of b)) = subst (λ (x : PortRef). 0 < length (leads_to p n x)) E.at_exec s.live.some_target in
          let X = N.expands b a some_b in
          let low : E.left ≤ n = omega (arith, d.enough, E.one_more) in
          let O = opened E.left low X.chain X.live (leads_to p n (target i)) (unrolled steps (target i) E (leads_to p n (target i)) low d.deep X) s.live.some_target in
          let room : top < max_wires = omega (arith, stack_low p n ws next s.stacked, s.live.some_target, s.few, ap length s.split, length-append (leads_to p n (target i)) s.rest) in
          let code : ℕ = get_or first b 0 in
          let less : steps - 1 ≡ E.left = omega (arith, E.one_more) in
          record {
            some_code = O.some_code;
            inside = O.inside;
            some_steps = omega (arith, E.one_more);
            room = room;
            go_on = λ stack' r h.
                let P = push_law p n ws next s.stack_long room s.stacked O.chain O.others h in
                record {
                  stands =
                      record {
                        rest = lead p n O.more ++ s.rest;
                        within = O.inside;
                        live = O.live;
                        stacked = P.0;
                        split = s.split ∙ (ap (λ (l : List PortRef). l ++ s.rest) O.split ∙ append_assoc (leads_to p n (target (code - 1))) (lead p n O.more) s.rest);
                        few = s.few;
                        stack_long = P.1;
                      };
                  enough = omega (arith, d.enough);
                  deep = rw less O.deep;
                };
          }

  -- a target that is no Branch is the only one that it leads to
  pub leaf : (steps : ℕ) (e : PortRef) → (get_or actions e.node_id 0 ≡ 3 → ⊥) → reach p steps e ≡ Some (leads_to p n e) → 0 < length (leads_to p n e) → leads_to p n e ≡ e ∷ []
  leaf steps e h q l = at (p e.node_id) refl
    where
      at : (o : Option PlanAction) → p e.node_id ≡ o → leads_to p n e ≡ e ∷ []
      at None r = cc (free_reach p steps e r)
      at (Some (BecomeLiteral v)) r = no_targets e (sym (literal_reach steps e v r) ∙ q) l
      at (Some (ShortCircuit t)) r = no_targets e (sym (short_reach steps e t r) ∙ q) l
      at (Some (Truncate ts)) r = absurd (h (only_branch e.node_id ts r))

  pub down_end : {stack : List ℕ} {top i steps : ℕ} {ts : List PortRef} → Down p n ws next stack top i steps ts → (get_or actions (target i).node_id 0 ≡ 3 → ⊥) → Descended p n ws next stack top i ts
  down_end {i = i} {steps = steps} d h =
      let s = d.stands in
      record {
        rest = s.rest;
        within = s.within;
        stacked = s.stacked;
        split = s.split ∙ ap (λ (l : List PortRef). l ++ s.rest) (leaf steps (target i) h d.deep s.live.some_target);
        few = s.few;
        stack_long = s.stack_long;
      }

-- the way down from wire i₀: where it stands
pub record Tracks (p : Map PlanAction) (n : ℕ) (ws : List Wire) (next stack₀ : List ℕ) (top₀ i₀ : ℕ) (stack : List ℕ) (top i steps at : ℕ) : Type 0 where
  pub node : at ≡ (get_or ws i no_wire).target.node_id
  pub inside : i < length ws
  pub down : (ts : List PortRef) → Standing p n ws next stack₀ top₀ i₀ ts → Down p n ws next stack top i steps ts

pub track_start : {p : Map PlanAction} {n : ℕ} {ws : List Wire} {next stack : List ℕ} {top i at : ℕ} {ts : List PortRef} → Standing p n ws next stack top i ts → at ≡ (get_or ws i no_wire).target.node_id → Tracks p n ws next stack top i stack top i n at
track_start s e = record { node = e; inside = s.within; down = λ us t. record { stands = t; enough = omega arith; deep = t.live.ends } }

module _ {ws : List Wire} {n : ℕ} {actions details first next stack₀ : List ℕ} {top₀ i₀ : ℕ} {us : List PortRef} (N : Net ws n actions details first next) (S : Standing (shape_of ws actions details) n ws next stack₀ top₀ i₀ us) where
  abbrev q : Map PlanAction
  q = shape_of ws actions details

  module _ {stack : List ℕ} {top i steps at : ℕ} (T : Tracks q n ws next stack₀ top₀ i₀ stack top i steps at) where
    pub track_low : at < n
    track_low = omega (arith, T.node, (N.bounded.named i T.inside).target)

    at_node : get_or actions at 0 ≡ 3 → get_or actions (get_or ws i no_wire).target.node_id 0 ≡ 3
    at_node a = ap (λ (m : ℕ). get_or actions m 0) (sym T.node) ∙ a

    pub stepped : get_or actions at 0 ≡ 3 → Stepped ws n actions details first next N stack top i steps (get_or first at 0) us
    stepped a = subst (λ (m : ℕ). Stepped ws n actions details first next N stack top i steps (get_or first m 0) us) (sym T.node) (down_step ws n actions details first next N (T.down us S) (at_node a))

    pub track_step : get_or actions at 0 ≡ 3 → (stack' : List ℕ) (r wire at' : ℕ) → wire ≡ get_or first at 0 - 1 → Pushed stack stack' top (get_or next wire 0) r → at' ≡ (get_or ws wire no_wire).target.node_id → Tracks q n ws next stack₀ top₀ i₀ stack' r wire (steps - 1) at'
    track_step a stack' r wire at' e h x =
        let z : get_or first at 0 - 1 ≡ get_or first (get_or ws i no_wire).target.node_id 0 - 1 = ap (λ (m : ℕ). get_or first m 0 - 1) T.node in
        record {
          node = x;
          inside = rw e (stepped a).inside;
          down = λ ts s.
              subst (λ (m : ℕ). Down q n ws next stack' r m (steps - 1) ts) (sym (e ∙ z))
              ((down_step ws n actions details first next N (T.down ts s) (at_node a)).go_on stack' r (subst (λ (m : ℕ). Pushed stack stack' top (get_or next m 0) r) (e ∙ z) h));
        }

    pub track_leaf : (get_or actions at 0 ≡ 3 → ⊥) → (ts : List PortRef) → Standing q n ws next stack₀ top₀ i₀ ts → Descended q n ws next stack top i ts
    track_leaf h ts s = down_end ws n actions details first next N (T.down ts s) (λ a. h (ap (λ (m : ℕ). get_or actions m 0) T.node ∙ a))

-- a way that is one for every plan with these actions, whatever its details are
module _ {ws : List Wire} {n : ℕ} {actions first next stack₀ : List ℕ} {top₀ i₀ : ℕ} {stack : List ℕ} {top i steps at : ℕ} (T : (details : List ℕ) (ts : List PortRef) → Net ws n actions details first next → Standing (shape_of ws actions details) n ws next stack₀ top₀ i₀ ts → Tracks (shape_of ws actions details) n ws next stack₀ top₀ i₀ stack top i steps at) where
  pub track_end : (get_or actions at 0 ≡ 3 → ⊥) → (details : List ℕ) (ts : List PortRef) → Net ws n actions details first next → Standing (shape_of ws actions details) n ws next stack₀ top₀ i₀ ts → Descended (shape_of ws actions details) n ws next stack top i ts
  track_end h details ts N s = track_leaf N s (T details ts N s) h ts s

-- ---- the way up

-- what the top of a stack gives
pub record Upward (p : Map PlanAction) (n : ℕ) (ws : List Wire) (next stack : List ℕ) (top : ℕ) (rs : List PortRef) : Type 0 where
  pub popable : Popable stack top
  pub up : 0 < length rs → (stack' : List ℕ) (wire r : ℕ) → Popped next stack stack' top wire r → Standing p n ws next stack' r wire rs

module _ {p : Map PlanAction} {n : ℕ} {ws : List Wire} {next stack : List ℕ} (w : length ws ≤ max_wires) (l : length stack ≡ max_wires) where
  above : {t : ℕ} {us : List Wire} {rest : List PortRef} → length (lead p n us ++ rest) ≤ max_wires → Stacked p n ws next stack t rest → Chain ws next (get_or stack t 0) us → 0 < length us → All (Live p n) us → {code : ℕ} → get_or stack t 0 ≡ code → Chain ws next code us
      → Upward p n ws next stack (suc t) (lead p n us ++ rest)
  unfolding lead
  above h s c m a q end = absurd (omega arith)
  above {t} {us} {rest} h s c m a {code} q (link {i} {xs} b d) =
      let e : suc t - 1 ≡ t = omega arith in
      let low : t ≤ length rest = stack_low p n ws next s in
      let Some : 0 < length (leads_to p n (get_or ws i no_wire).target) = a.0.some_target in
      let long : length (lead p n us ++ rest) ≡ length (leads_to p n (get_or ws i no_wire).target) + length (lead p n xs) + length rest = length-append (lead p n us) rest ∙ ap (λ (x : ℕ). x + length rest) (length-append (leads_to p n (get_or ws i no_wire).target) (lead p n xs)) in
      record {
        popable = record { low = omega (arith, low, Some, long, h); some_code = λ z. omega (arith, ap (λ (x : ℕ). get_or stack x 0) e, q); small = λ z. omega (arith, ap (λ (x : ℕ). get_or stack x 0) e, q, b, w) };
        up = λ z stack' wire r P.
            let f : wire ≡ i = P.wire_is (omega arith) ∙ omega (arith, ap (λ (x : ℕ). get_or stack x 0) e, q) in
            let u : Pushed stack stack' t (get_or next i 0) r = rw (f, e) at (P.rest (omega arith)) in
            let k = push_law p n ws next l (omega (arith, low, Some, long, h)) s d a.1 u in
            record {
              rest = lead p n xs ++ rest;
              within = rw f b;
              live = rw f a.0;
              stacked = k.0;
              split = rw f (append_assoc (leads_to p n (get_or ws i no_wire).target) (lead p n xs) rest);
              few = h;
              stack_long = k.1;
            };
      }

  pub upward : {top : ℕ} {rs : List PortRef} → length rs ≤ max_wires → Stacked p n ws next stack top rs → Upward p n ws next stack top rs
  upward h Stacked.bottom =
      record {
        popable = record { low = omega arith; some_code = λ z. absurd (omega arith); small = λ z. absurd (omega arith) };
        up = λ z. absurd (omega arith);
      }
  upward h (Stacked.above s c m a) = above h s c m a refl c

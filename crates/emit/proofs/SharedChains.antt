-- A Branch whose only live wire enters another leads to what that one leads to, so the two may share a chain.
use Rattle.std.specs.Prelude.{Option, Some}
use mathlib.Core.Path.{◌≡◌, refl, sym, ap, ◌∙◌, subst}
use mathlib.Core.List.{List, [], ◌∷◌, ◌++◌, append-nil}
use Prim.Native.Nat.{ℕ, zero, suc, ◌+◌, ◌-◌, ◌≤◌, ◌<◌}
use native.Mathlib.Omega.{arith}
use native.Mathlib.Decide.{ℕ_discrete}
use lib.ListN.{length, get_or, set, length-set}
use lib.Seq.{get_or-set_same, get_or-set_other}
use Rattle.ir.specs.Limits.{max_nodes}
use Rattle.ir.specs.declared.PortRef.{PortRef}
use Rattle.ir.specs.declared.Wire.{Wire}
use Rattle.records.specs.Access.{no_wire}
use Rattle.wire_index.proofs.Walks.{chain_one, chain_code}
use Rattle.model.specs.Maps.{Map, All}
use Rattle.model.specs.Offer.{PlanAction}
use Rattle.model.specs.Rewrite.{collect, arrive, reach}
use Rattle.model.proofs.Maps.{none_some}
use Rattle.model.proofs.TargetCounts.{both_some, reach_more, collect_more}
use Rattle.state.specs.Planned.{shape_at, shape_of}
use Rattle.rewrite.proofs.Linking.{within}
use Rattle.emit.specs.Emit.{leads_to, Live, exec_of, Expands, Net, Starts, Entered, Shared, Branches, Ready}
use Rattle.emit.proofs.Stacks.{enter}

collect_one : (f : Wire → Option (List PortRef)) (u : Wire) (ys : List PortRef) → collect f (u ∷ []) ≡ Some ys → f u ≡ Some ys
unfolding collect
collect_one f u ys q =
    let (xs, zs, a, b, s) = both_some (f u) (Some []) ys q in
    let z : zs ≡ [] = cc in
    a ∙ ap Some (sym (s ∙ (ap (λ (l : List PortRef). xs ++ l) z ∙ append-nil xs)))

module _ (ws : List Wire) (n : ℕ) (actions details first next : List ℕ) (N : Net ws n actions details first next) where
  abbrev p : Map PlanAction
  p = shape_of ws actions details

  -- a planned Branch takes a step
  branch_steps : (k t : ℕ) (ys : List PortRef) → get_or actions t 0 ≡ 3 → reach p k (exec_of t) ≡ Some ys → (j : ℕ) × (k ≡ suc j)
  unfolding reach arrive shape_of shape_at
  branch_steps zero t ys a q = none_some ys (rw a at q)
  branch_steps (suc j) t ys a q = (j, refl)

  module _ (b code t : ℕ) (a : get_or actions b 0 ≡ 3) (e : get_or first b 0 ≡ code) (some_code : 0 < code) (alone : get_or next (code - 1) 0 ≡ 0) (there : (get_or ws (code - 1) no_wire).target.node_id ≡ t) (branch : get_or actions t 0 ≡ 3) where
    abbrev w : Wire
    w = get_or ws (code - 1) no_wire

    module _ (some_target : 0 < length (leads_to p n (exec_of b))) where
      X : Expands p n ws next b (get_or first b 0)
      X = N.expands b a some_target

      only : X.out ≡ w ∷ []
      only = chain_one (rw e at X.chain) some_code alone

      live : Live p n w
      live = (subst (λ (us : List Wire). All (Live p n) us) only X.live).0

      at_exec : w.target ≡ exec_of t
      at_exec = (enter ws n actions details first next N n w.target (rw there branch) live.ends live.some_target).at_exec ∙ ap exec_of there

      Y : Expands p n ws next t (get_or first t 0)
      Y = N.expands t branch (subst (λ (x : PortRef). 0 < length (leads_to p n x)) at_exec live.some_target)

      leads : (k : ℕ) (ys : List PortRef) → k ≤ n → reach p (suc k) (exec_of b) ≡ Some ys → collect (λ w. reach p k w.target) Y.out ≡ Some ys
      leads k ys l q =
          let r : reach p k w.target ≡ Some ys = collect_one (λ w. reach p k w.target) w ys (subst (λ (us : List Wire). collect (λ w. reach p k w.target) us ≡ Some ys) only (X.leads k ys l q)) in
          let s : reach p k (exec_of t) ≡ Some ys = ap (reach p k) (sym at_exec) ∙ r in
          let (j, f) = branch_steps k t ys branch s in
          collect_more (λ w. reach p j w.target) (λ w. reach p k w.target) (λ u xs z. reach_more p j k (omega arith) u.target xs z) Y.out ys
          (Y.leads j ys (omega arith) (ap (λ (m : ℕ). reach p m (exec_of t)) (sym f) ∙ s))

      shared : Expands p n ws next b (get_or first t 0)
      shared = record { out = Y.out; chain = Y.chain; live = Y.live; leads = leads }

    pub net_shared : b < length first → Net ws n actions details (set first b (get_or first t 0)) next
    net_shared l =
        record {
          bounded = N.bounded;
          shaped = N.shaped;
          next_long = N.next_long;
          expands = λ c r h. go c r h (ℕ_discrete c b);
        }
      where
        go : (c : ℕ) → get_or actions c 0 ≡ 3 → 0 < length (leads_to p n (exec_of c)) → Dec (c ≡ b) → Expands p n ws next c (get_or (set first b (get_or first t 0)) c 0)
        go c r h (yes z) =
            let h' : 0 < length (leads_to p n (exec_of b)) = rw z at h in
            rw (z, get_or-set_same first b (get_or first t 0) 0 l) (shared h')
        go c r h (no z) = rw (get_or-set_other first b c (get_or first t 0) 0 z) (N.expands c r h)

-- ---- what the code needs of it

pub shared_same : {ws : List Wire} {actions next first : List ℕ} → Starts ws actions first → Shared ws actions next first first
shared_same S = record { starts = S; serves = λ n details N. N }

pub shared_more : {ws : List Wire} {actions next first first' first'' : List ℕ} → Shared ws actions next first first' → Shared ws actions next first' first'' → Shared ws actions next first first''
shared_more S T = record { starts = T.starts; serves = λ n details N. T.serves n details (S.serves n details N) }

pub shared_one : {ws : List Wire} {actions next first : List ℕ} → Starts ws actions first → {b t : ℕ} → b < max_nodes → Entered ws actions first next b t → Shared ws actions next first (set first b (get_or first t 0))
shared_one {ws} {actions} {next} {first} S {b} {t} l E =
    let low : b < length first = omega (arith, S.long) in
    record {
      starts = record { within = S.within; long = length-set first b (get_or first t 0) ∙ S.long; inside = λ c r. go c r (ℕ_discrete c b) };
      serves = λ n details N. net_shared ws n actions details first next N b (get_or first b 0) t E.branch refl E.some_code E.alone E.there E.enters low;
    }
  where
    go : (c : ℕ) → get_or actions c 0 ≡ 3 → Dec (c ≡ b) → get_or (set first b (get_or first t 0)) c 0 ≤ length ws
    go c r (yes z) = rw (z, get_or-set_same first b (get_or first t 0) 0 (omega (arith, S.long))) (S.inside t E.enters)
    go c r (no z) = rw (get_or-set_other first b c (get_or first t 0) 0 z) (S.inside c r)

-- the chains that `rewrite` leaves start so
pub starts : {ws : List Wire} {n : ℕ} {actions details sources counts first next : List ℕ} → Ready ws n actions details sources counts first next → Starts ws actions first
starts {ws} {n} R = record { within = within ws n R.bounded; long = R.rewritable.live.first_long; inside = λ b a. chain_code (R.rewritable.live.chain b a) }

-- ---- the stack of a row

pub stacked : {stack : List ℕ} {depth b : ℕ} → Branches stack depth → depth < max_nodes → b < max_nodes → Branches (set stack depth b) (depth + 1)
stacked {stack} {depth} {b} s h few =
    record {
      long = length-set stack depth b ∙ s.long;
      few = omega arith;
      low = λ k l. at k l (ℕ_discrete k depth);
    }
  where
    at : (k : ℕ) → k < depth + 1 → Dec (k ≡ depth) → get_or (set stack depth b) k 0 < max_nodes
    at k l (yes e) = rw (e, get_or-set_same stack depth b 0 (omega (arith, s.long, h))) few
    at k l (no n) = rw (get_or-set_other stack depth k b 0 n) (s.low k (omega (arith, l, n)))

pub unstacked : {stack : List ℕ} {depth m : ℕ} → Branches stack depth → m ≤ depth → Branches stack m
unstacked s h = record { long = s.long; few = omega (arith, h, s.few); low = λ k l. s.low k (omega (arith, l, h)) }

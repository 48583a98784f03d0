-- What each wire becomes, and what all of them become.
use Rattle.std.specs.Prelude.{Option, None, Some}
use mathlib.Core.Path.{◌≡◌, refl, sym, ap, ap₂, ◌∙◌, subst}
use mathlib.Core.Bool.{Bool, true, false, cond}
use mathlib.Core.List.{List, [], ◌∷◌, ◌++◌, append-nil}
use mathlib.Core.Logic.{◌⊎◌, inl, inr}
use Prim.Native.Nat.{ℕ, zero, suc, ◌+◌, ◌*◌, ◌≤◌, ◌<◌, min}
use native.Mathlib.Omega.{arith}
use lib.Dec.{ltb}
use lib.ListN.{length, get_or, length-append}
use lib.Seq.{take-suc, take_all}
use lib.ListN.{take}
use Rattle.ir.specs.Limits.{max_wires}
use Rattle.ir.specs.declared.PortRef.{PortRef}
use Rattle.ir.specs.declared.Wire.{Wire}
use Rattle.encoding.specs.Numbers.{Written}
use Rattle.encoding.specs.Wires.{wire_bytes}
use Rattle.records.specs.Access.{no_wire}
use Rattle.model.specs.Maps.{Map, up_to}
use Rattle.model.specs.Offer.{PlanAction}
use Rattle.model.specs.Answer.{each}
use Rattle.model.specs.Rewrite.{collect, reach, Source, cycles, drops, from, follow, joined, rewrite_wire, rewrite_wires}
use Rattle.model.specs.TargetCounts.{cap, capped_length}
use Rattle.model.proofs.Maps.{none_some}
use Rattle.model.proofs.Each.{each_append, each_up, wires_size}
use Rattle.model.proofs.TargetCounts.{both_some}
use Rattle.state.specs.Planned.{shape_of}
use Rattle.answer.proofs.Fill.{written_none}
use Rattle.rewrite.specs.Counts.{no_count, entry, count_in}
use Rattle.rewrite.specs.Sources.{origin_of, Traced}
use Rattle.rewrite.specs.declared.Origin.{Origin}
use Rattle.emit.specs.Emit.{or_nil, leads_to, becomes, rewritten, fan, Live, Shared, Ready, Prepared}
use Rattle.emit.proofs.Fanning.{fan_size}
use Rattle.emit.proofs.Stacks.{leaf}
use Rattle.emit.proofs.Nets.{entry_zero, net}

-- ---- one wire

-- what the wire becomes, by what its target leads to and where its source comes to
pub data Becomes (p : Map PlanAction) (n : ℕ) (w : Wire) : Type 0 where
  nothing : reach p n w.target ≡ Some [] → becomes p n w ≡ [] → Becomes p n w
  dropped : Live p n w → follow p n w.source ≡ drops → becomes p n w ≡ [] → Becomes p n w
  wires : Live p n w → (e : PortRef) → follow p n w.source ≡ from e → becomes p n w ≡ fan e (leads_to p n w.target) → Becomes p n w

pub becomes_by : (p : Map PlanAction) (n : ℕ) (w : Wire) → rewrite_wire p n w ≡ Some (becomes p n w) → Becomes p n w
unfolding rewrite_wire joined becomes leads_to fan
becomes_by p n w q = go (reach p n w.target) (follow p n w.source) refl refl
  where
    live : (t : PortRef) (ts : List PortRef) → reach p n w.target ≡ Some (t ∷ ts) → Live p n w
    live t ts r = record { ends = r ∙ ap Some (sym (ap or_nil r)); some_target = omega (arith, ap length (ap or_nil r)) }

    go : (o : Option (List PortRef)) (s : Source) → reach p n w.target ≡ o → follow p n w.source ≡ s → Becomes p n w
    go None s r f = none_some _ (sym (ap (λ (o : Option (List PortRef)). joined o (follow p n w.source)) r) ∙ q)
    go (Some []) s r f = Becomes.nothing r (ap (λ (o : Option (List PortRef)). or_nil (joined o (follow p n w.source))) r)
    go (Some (t ∷ ts)) cycles r f = none_some _ (sym (ap₂ joined r f) ∙ q)
    go (Some (t ∷ ts)) drops r f = Becomes.dropped (live t ts r) f (ap or_nil (ap₂ joined r f))
    go (Some (t ∷ ts)) (from e) r f = Becomes.wires (live t ts r) e f (ap or_nil (ap₂ joined r f) ∙ ap (λ (o : Option (List PortRef)). fan e (or_nil o)) (sym r))

-- ---- all wires

module _ (p : Map PlanAction) (n : ℕ) where
  -- each wire's rewriting ends, and all that they become is what the wires become
  ends_each : (ws : List Wire) (zs : List Wire) → collect (rewrite_wire p n) ws ≡ Some zs → (i : ℕ) → i < length ws → (rewrite_wire p n (get_or ws i no_wire) ≡ Some (becomes p n (get_or ws i no_wire))) × (length (becomes p n (get_or ws i no_wire)) ≤ length zs)
  unfolding collect becomes
  ends_each [] zs q i l = absurd (omega arith)
  ends_each (w ∷ ws) zs q i l =
      let (xs, ys, a, b, s) = both_some (rewrite_wire p n w) (collect (rewrite_wire p n) ws) zs q in
      go xs ys a s (ends_each ws ys b) i l
    where
      go : (xs ys : List Wire) → rewrite_wire p n w ≡ Some xs → zs ≡ xs ++ ys → ((i : ℕ) → i < length ws → (rewrite_wire p n (get_or ws i no_wire) ≡ Some (or_nil (rewrite_wire p n (get_or ws i no_wire)))) × (length (or_nil (rewrite_wire p n (get_or ws i no_wire))) ≤ length ys)) → (i : ℕ) → i < suc (length ws) → (rewrite_wire p n (get_or (w ∷ ws) i no_wire) ≡ Some (or_nil (rewrite_wire p n (get_or (w ∷ ws) i no_wire)))) × (length (or_nil (rewrite_wire p n (get_or (w ∷ ws) i no_wire))) ≤ length zs)
      go xs ys a s ih zero l = (a ∙ ap Some (sym (ap or_nil a)), omega (arith, ap length (ap or_nil a), ap length s, length-append xs ys))
      go xs ys a s ih (suc i) l = let r = ih i (omega arith) in (r.0, omega (arith, r.1, ap length s, length-append xs ys))

  bytes_all : (ws : List Wire) (zs : List Wire) → collect (rewrite_wire p n) ws ≡ Some zs → each (λ w. each wire_bytes (becomes p n w)) ws ≡ each wire_bytes zs
  unfolding collect becomes each
  bytes_all [] zs q = let z : [] ≡ zs = cc in ap (each wire_bytes) z
  bytes_all (w ∷ ws) zs q =
      let (xs, ys, a, b, s) = both_some (rewrite_wire p n w) (collect (rewrite_wire p n) ws) zs q in
      ap₂ (λ (l m : List ℕ). l ++ m) (ap (λ (o : Option (List Wire)). each wire_bytes (or_nil o)) a) (bytes_all ws ys b) ∙ (sym (each_append wire_bytes xs ys) ∙ ap (each wire_bytes) (sym s))

-- by the numbers of the wires
pub by_number : (f : Wire → List ℕ) (ws : List Wire) (k : ℕ) → k ≤ length ws → each (λ i. f (get_or ws i no_wire)) (up_to k) ≡ each f (take k ws)
unfolding up_to each
by_number f ws zero l = refl
by_number f ws (suc k) l =
    each_up (λ i. f (get_or ws i no_wire)) k
    ∙ (ap₂ (λ (l m : List ℕ). l ++ m) (by_number f ws k (omega arith)) (sym (append-nil (f (get_or ws k no_wire))))
    ∙ (sym (each_append f (take k ws) (get_or ws k no_wire ∷ []))
    ∙ ap (each f) (sym (take-suc ws k no_wire (omega arith)))))

module _ {ws : List Wire} {n : ℕ} {actions details sources counts first next : List ℕ} (R : Prepared ws n actions details sources counts first next) where
  abbrev p : Map PlanAction
  p = shape_of ws actions details

  abbrev whole : List Wire
  whole = or_nil (rewrite_wires p n ws)

  abbrev pub bytes_of_wire : ℕ → List ℕ
  bytes_of_wire i = each wire_bytes (becomes p n (get_or ws i no_wire))

  pub wire_ends : (i : ℕ) → i < length ws → rewrite_wire p n (get_or ws i no_wire) ≡ Some (becomes p n (get_or ws i no_wire))
  unfolding rewrite_wires
  wire_ends i l = (ends_each p n ws whole R.ends i l).0

  pub wire_few : (i : ℕ) → i < length ws → length (becomes p n (get_or ws i no_wire)) ≤ max_wires
  unfolding rewrite_wires
  wire_few i l = omega (arith, R.few, (ends_each p n ws whole R.ends i l).1)

  pub all_bytes : each bytes_of_wire (up_to (length ws)) ≡ each wire_bytes whole
  unfolding rewrite_wires
  all_bytes = by_number (λ w. each wire_bytes (becomes p n w)) ws (length ws) (omega arith) ∙ (ap (each (λ w. each wire_bytes (becomes p n w))) (take_all (length ws) ws (omega arith)) ∙ bytes_all p n ws whole R.ends)

-- a count beside the targets
pub count_is : (c : ℕ) (xs : List PortRef) → entry c ≡ capped_length (Some xs) → length xs ≤ max_wires → c ≡ length xs
unfolding entry capped_length cap
count_is c xs e l = go (ltb c no_count) e
  where
    go : (b : Bool) → cond b (Some c) None ≡ Some (min (length xs) 4097) → c ≡ length xs
    go true e = let z : c ≡ min (length xs) 4097 = cc in omega arith
    go false e = none_some _ e

-- ---- what the code finds of wire i

module _ {ws : List Wire} {n : ℕ} {actions details sources counts first next : List ℕ} (R : Prepared ws n actions details sources counts first next) (i : ℕ) (within : i < length ws) where
  abbrev q : Map PlanAction
  q = shape_of ws actions details

  abbrev w : Wire
  w = get_or ws i no_wire

  by : Becomes q n w
  by = becomes_by q n w (wire_ends R i within)

  counted : (c : ℕ) → c ≡ count_in actions counts w.target → (xs : List PortRef) → reach q n w.target ≡ Some xs → entry c ≡ capped_length (Some xs)
  counted c e xs r = ap entry e ∙ (R.targets.right w.target ∙ ap capped_length r)

  -- a count of 0: nothing
  pub zero_becomes : (c : ℕ) → c ≡ count_in actions counts w.target → c ≡ 0 → becomes q n w ≡ []
  zero_becomes c e z = go by
    where
      go : Becomes q n w → becomes q n w ≡ []
      go (Becomes.nothing r b) = b
      go (Becomes.dropped l f b) = b
      go (Becomes.wires l s f b) =
          let k = entry_zero c (leads_to q n w.target) (counted c e (leads_to q n w.target) l.ends) (rw z refl) in
          absurd (omega (arith, l.some_target, ap length k))

  -- what the wire's source comes to, as the code says it
  pub origin_cycles : {X : Type 0} (c : ℕ) → c ≡ count_in actions counts w.target → (c ≡ 0 → ⊥) → origin_of (follow q n w.source) ≡ Origin.Cycles → X
  unfolding origin_of
  origin_cycles {X} c e z o = go by
    where
      code : Origin → ℕ
      code Origin.Cycles = 0
      code Origin.Drops = 1
      code (Origin.From p) = 2

      go : Becomes q n w → X
      go (Becomes.nothing r b) = absurd (z (count_is c [] (counted c e [] r) (omega arith)))
      go (Becomes.dropped l f b) = absurd (omega (arith, ap code (sym (ap origin_of f) ∙ o)))
      go (Becomes.wires l s f b) = absurd (omega (arith, ap code (sym (ap origin_of f) ∙ o)))

  pub origin_drops : origin_of (follow q n w.source) ≡ Origin.Drops → becomes q n w ≡ []
  unfolding origin_of
  origin_drops o = go by
    where
      code : Origin → ℕ
      code Origin.Cycles = 0
      code Origin.Drops = 1
      code (Origin.From p) = 2

      go : Becomes q n w → becomes q n w ≡ []
      go (Becomes.nothing r b) = b
      go (Becomes.dropped l f b) = b
      go (Becomes.wires l s f b) = absurd (omega (arith, ap code (sym (ap origin_of f) ∙ o)))

  -- .. to none
  pub none_from : (c : ℕ) → c ≡ count_in actions counts w.target → (c ≡ 0 → ⊥) → {o : Origin} → origin_of (follow q n w.source) ≡ o → (o ≡ Origin.Cycles) ⊎ (o ≡ Origin.Drops) → becomes q n w ≡ []
  none_from c e z f (inl h) = origin_cycles c e z (f ∙ h)
  none_from c e z f (inr h) = origin_drops (f ∙ h)

  -- the wires from a source
  pub record Fanned (c : ℕ) (s : PortRef) : Type 0 where
    pub live : Live q n w
    pub many : c ≡ length (leads_to q n w.target)
    pub few : c ≤ max_wires
    pub is : becomes q n w ≡ fan s (leads_to q n w.target)
    pub room : length (becomes q n w) ≡ c

  pub origin_from : (c : ℕ) → c ≡ count_in actions counts w.target → (c ≡ 0 → ⊥) → (s : PortRef) → origin_of (follow q n w.source) ≡ Origin.From s → Fanned c s
  unfolding origin_of
  origin_from c e z s o = go by
    where
      code : Origin → ℕ
      code Origin.Cycles = 0
      code Origin.Drops = 1
      code (Origin.From p) = 2

      end : Origin → PortRef
      end Origin.Cycles = s
      end Origin.Drops = s
      end (Origin.From p) = p

      go : Becomes q n w → Fanned c s
      go (Becomes.nothing r b) = absurd (z (count_is c [] (counted c e [] r) (omega arith)))
      go (Becomes.dropped l f b) = absurd (omega (arith, ap code (sym (ap origin_of f) ∙ o)))
      go (Becomes.wires l t f b) =
          let k : length (becomes q n w) ≡ length (leads_to q n w.target) = ap length b ∙ fan_size t (leads_to q n w.target) in
          let few : length (leads_to q n w.target) ≤ max_wires = omega (arith, wire_few R i within, k) in
          let m : c ≡ length (leads_to q n w.target) = count_is c (leads_to q n w.target) (counted c e (leads_to q n w.target) l.ends) few in
          let u : t ≡ s = ap end (sym (ap origin_of f) ∙ o) in
          record { live = l; many = m; few = omega (arith, m, few); is = b ∙ ap (λ (x : PortRef). fan x (leads_to q n w.target)) u; room = omega (arith, k, m) }

  -- an unplanned target: the wire stays, from where its source comes to
  module _ (kept : get_or actions w.target.node_id 0 ≡ 0) where
    one : 1 ≡ count_in actions counts w.target
    unfolding count_in
    one = rw kept refl

    pub kept_none : {o : Origin} → origin_of (follow q n w.source) ≡ o → (o ≡ Origin.Cycles) ⊎ (o ≡ Origin.Drops) → becomes q n w ≡ []
    kept_none = none_from 1 one (λ z. omega arith)

    pub kept_from : (s : PortRef) → origin_of (follow q n w.source) ≡ Origin.From s → becomes q n w ≡ record { source = s; target = w.target } ∷ []
    unfolding fan
    kept_from s o =
        let F = origin_from 1 one (λ z. omega arith) s o in
        F.is ∙ ap (fan s) (leaf ws n actions details first next R.net n w.target (λ z. omega arith) F.live.ends F.live.some_target)

pub written_one : {zs : List Wire} {v : Wire} {out out' : List ℕ} {at past : ℕ} → zs ≡ v ∷ [] → Written (wire_bytes v) out out' at past → Written (each wire_bytes zs) out out' at past
unfolding each
written_one {zs} {v} {out} {out'} {at} {past} e h = subst (λ (l : List ℕ). Written l out out' at past) (sym (ap (each wire_bytes) e ∙ append-nil (wire_bytes v))) h

pub written_nothing : {zs : List Wire} {out : List ℕ} {at : ℕ} → zs ≡ [] → at ≤ length out → Written (each wire_bytes zs) out out at at
unfolding each
written_nothing {zs} {out} {at} e l = rw e (written_none out at l)

-- ---- all wires

module _ {ws : List Wire} {n : ℕ} {actions details sources counts first next : List ℕ} (R : Prepared ws n actions details sources counts first next) where
  pub whole_room : (at size : ℕ) → at + 7 * length (rewritten ws n actions details) ≤ size → at + length (each (λ i. each wire_bytes (becomes (shape_of ws actions details) n (get_or ws i no_wire))) (up_to (length ws))) ≤ size
  whole_room at size h = rw (all_bytes R) (omega (arith, h, wires_size (rewritten ws n actions details)))

  pub whole_written : {before after : List ℕ} {at past : ℕ} → Written (each (λ i. each wire_bytes (becomes (shape_of ws actions details) n (get_or ws i no_wire))) (up_to (length ws))) before after at past → Written (each wire_bytes (rewritten ws n actions details)) before after at past
  whole_written w = rw (all_bytes R) at w

-- what `origin` reads
pub traced : {ws : List Wire} {n : ℕ} {actions details sources counts first next : List ℕ} → Prepared ws n actions details sources counts first next → Traced ws actions sources
traced R =
    record {
      long = R.origins.long;
      low = λ i l. omega (arith, (R.net.bounded.named i l).source, R.net.bounded.few_nodes);
      inside = R.origins.inside;
    }

-- ---- from what `rewrite` leaves

pub prepared : {ws : List Wire} {n : ℕ} {actions details sources counts first next : List ℕ} → Ready ws n actions details sources counts first next → Prepared ws n actions details sources counts first next
prepared R = record { net = net _ _ _ _ _ _ _ _ R.bounded R.shaped R.rewritable; origins = R.rewritable.origins; targets = R.rewritable.targets; ends = R.ends; few = R.few }

-- with the chains that the Branches share
pub prepared_shared : {ws : List Wire} {n : ℕ} {actions details sources counts first first' next : List ℕ} → Prepared ws n actions details sources counts first next → Shared ws actions next first first' → Prepared ws n actions details sources counts first' next
prepared_shared {n = n} {details = details} R S = record { net = S.serves n details R.net; origins = R.origins; targets = R.targets; ends = R.ends; few = R.few }

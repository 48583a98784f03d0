-- How many wires each wire becomes, and all together.
use Rattle.std.specs.Prelude.{Option, None, Some}
use Prim.Native.Nat.{ℕ, suc, ◌+◌, ◌≤◌, ◌<◌, min}
use native.Mathlib.Omega.{arith}
use native.Mathlib.Numerals.{add-one}
use mathlib.Core.Path.{◌≡◌, refl, sym, ap, ◌∙◌}
use mathlib.Core.Bool.{Bool, true, false, cond, ◌&&◌, ◌||◌}
use mathlib.Core.List.{List, [], ◌∷◌}
use mathlib.Core.Logic.{◌⊎◌, inl, inr}
use lib.Dec.{eqb}
use lib.ListN.{length, get_or, drop, length-append, length-map}
use lib.Seq.{drop-cons, drop-length}
use borrow.Author.Tests.{eqb-true, eqb-false}
use Rattle.ir.specs.Ports.{exec}
use Rattle.ir.specs.declared.PortRef.{PortRef}
use Rattle.ir.specs.declared.Wire.{Wire}
use Rattle.graph.proofs.Roles.{and_left}
use Rattle.records.specs.Access.{no_wire}
use Rattle.model.specs.Maps.{Map, is_some}
use Rattle.model.specs.Offer.{PlanAction}
use Rattle.model.specs.Outcome.{endless_index}
use Rattle.model.specs.Rewrite.{both, collect, reach, Source, cycles, drops, from, follow, joined, rewrite_wire, rewrite_wires}
use Rattle.model.specs.TargetCounts.{cap, capped_length, plus}
use Rattle.model.proofs.Maps.{by_bool, none_some}
use Rattle.model.proofs.Lists.{or_false_left, or_false_right}
use Rattle.model.proofs.TargetCounts.{plus_assoc}
use Rattle.state.specs.Planned.{shape_of}
use Rattle.rewrite.specs.Counts.{no_count, entry, count_in}
use Rattle.rewrite.specs.Sources.{origin_of}
use Rattle.rewrite.specs.Tallied.{Stuck, Counted, size_of, by_origin, Scannable, Filled, Weighs}
use Rattle.rewrite.specs.declared.Origin.{Origin}
use Rattle.rewrite.specs.declared.Origin.TheVariants.{Cycles, Drops, From}
use Rattle.rewrite.proofs.Totals.{entry_some, entry_none, zero_plus, plus_zero}

-- ---- one wire

joined_none : (o : Option (List PortRef)) (s : Source) → capped_length o ≡ None → size_of (joined o s) ≡ None
unfolding size_of joined capped_length
joined_none None s e = refl
joined_none (Some xs) s e = none_some _ (sym e)

joined_nil : (o : Option (List PortRef)) (s : Source) → capped_length o ≡ Some 0 → size_of (joined o s) ≡ Some 0
unfolding size_of joined capped_length cap
joined_nil None s e = none_some 0 e
joined_nil (Some []) s e = refl
joined_nil (Some (x ∷ xs)) s e = let q : min (length (x ∷ xs)) 4097 ≡ 0 = cc in let b : ⊥ = omega arith in absurd b

joined_some : (o : Option (List PortRef)) (s : Source) (v : ℕ) → capped_length o ≡ Some v → 0 < v → v < no_count → entry (by_origin (origin_of s) v) ≡ size_of (joined o s)
unfolding size_of joined capped_length origin_of cap
joined_some None s v e h k = none_some v e
joined_some (Some []) s v e h k = let q : 0 ≡ v = cc in let b : ⊥ = omega arith in absurd b
joined_some (Some (x ∷ xs)) cycles v e h k = entry_none no_count (omega arith)
joined_some (Some (x ∷ xs)) drops v e h k = entry_some 0 (omega arith)
joined_some (Some (x ∷ xs)) (from d) v e h k =
    entry_some v k ∙ sym e ∙ ap (λ (n : ℕ). Some (cap n)) (sym (length-map (x ∷ xs) (λ u. record { source = d; target = u })))

count_low : (actions counts : List ℕ) (e : PortRef) → ((b : ℕ) → get_or actions b 0 ≡ 3 → get_or counts b 0 ≤ no_count) → count_in actions counts e ≤ no_count
unfolding count_in
count_low actions counts e h =
    by_bool (eqb (get_or actions e.node_id 0) 0)
    (λ x. rw x (omega arith))
    (λ x.
    by_bool (eqb (get_or actions e.node_id 0) 3 && eqb e.port exec)
    (λ y. rw (x, y) (h e.node_id (eqb-true _ _ (and_left _ _ y))))
    (λ y. rw (x, y) (omega arith)))

module _ (ws : List Wire) (actions sources counts : List ℕ) (i : ℕ) (w : Wire) (count : ℕ) (is : w ≡ get_or ws i no_wire) (read : Scannable ws actions sources counts) (counted : count ≡ count_in actions counts w.target) where
  low : count ≤ no_count
  low = rw counted (count_low actions counts w.target read.listed)

  module _ (n : ℕ) (details : List ℕ) (p : Filled ws n actions details sources counts) where
    reached : capped_length (reach (shape_of ws actions details) n (get_or ws i no_wire).target) ≡ entry count
    reached = sym (p.targets.right (get_or ws i no_wire).target) ∙ rw (counted, is) refl

  -- it leads to no unplanned target, or into a cycle
  pub weigh_targets : (eqb count 0 || eqb count no_count) ≡ true → Weighs ws actions sources counts i count
  weigh_targets c = record { low = low; right = λ n details p. go n details p (either (eqb count 0) refl c) }
    where
      either : (b : Bool) → eqb count 0 ≡ b → (b || eqb count no_count) ≡ true → (count ≡ 0) ⊎ (count ≡ no_count)
      either true q e = inl (eqb-true count 0 q)
      either false q e = inr (eqb-true count no_count e)

      go : (n : ℕ) (details : List ℕ) → Filled ws n actions details sources counts → (count ≡ 0) ⊎ (count ≡ no_count) → entry count ≡ size_of (rewrite_wire (shape_of ws actions details) n (get_or ws i no_wire))
      go n details p (inl z) = ap entry z ∙ entry_some 0 (omega arith) ∙ sym (unfold rewrite_wire in joined_nil (reach (shape_of ws actions details) n (get_or ws i no_wire).target) (follow (shape_of ws actions details) n (get_or ws i no_wire).source) (reached n details p ∙ ap entry z ∙ entry_some 0 (omega arith)))
      go n details p (inr z) = entry_none count (omega arith) ∙ sym (unfold rewrite_wire in joined_none (reach (shape_of ws actions details) n (get_or ws i no_wire).target) (follow (shape_of ws actions details) n (get_or ws i no_wire).source) (reached n details p ∙ entry_none count (omega arith)))

  origin_low : (o : Origin) → by_origin o count ≤ no_count
  origin_low Cycles = omega arith
  origin_low Drops = omega arith
  origin_low (From e) = low

  -- by its source
  pub weigh_source : (o : Origin) (r : ℕ) → r ≡ by_origin o count → (eqb count 0 || eqb count no_count) ≡ false → ((n : ℕ) (details : List ℕ) → Filled ws n actions details sources counts → o ≡ origin_of (follow (shape_of ws actions details) n w.source)) → Weighs ws actions sources counts i r
  unfolding rewrite_wire
  weigh_source o r e h f = rw e record { low = origin_low o; right = right }
    where
      more : 0 < count
      more = omega (arith, eqb-false count 0 (or_false_left (eqb count 0) _ h))

      less : count < no_count
      less = omega (arith, low, eqb-false count no_count (or_false_right (eqb count 0) _ h))

      right : (n : ℕ) (details : List ℕ) → Filled ws n actions details sources counts → entry (by_origin o count) ≡ size_of (rewrite_wire (shape_of ws actions details) n (get_or ws i no_wire))
      right n details p =
          ap (λ (x : Origin). entry (by_origin x count)) (f n details p ∙ ap (λ (x : Wire). origin_of (follow (shape_of ws actions details) n x.source)) is)
          ∙ joined_some (reach (shape_of ws actions details) n (get_or ws i no_wire).target) (follow (shape_of ws actions details) n (get_or ws i no_wire).source) count (reached n details p ∙ entry_some count less) more less

-- ---- all wires

size_both : (o q : Option (List Wire)) → size_of (both o q) ≡ plus (size_of o) (size_of q)
unfolding size_of both plus cap
size_both None q = refl
size_both (Some xs) None = refl
size_both (Some xs) (Some ys) = ap Some (omega (arith, length-append xs ys))

size_none : (o : Option (List Wire)) → size_of o ≡ None → (o ≡ None) × (is_some o ≡ false)
unfolding size_of is_some
size_none None e = (refl, refl)
size_none (Some xs) e = none_some _ (sym e)

size_some : (o : Option (List Wire)) (m : ℕ) → size_of o ≡ Some m → ((xs : List Wire) × (o ≡ Some xs) × (m ≡ cap (length xs))) × (is_some o ≡ true)
unfolding size_of is_some
size_some None m e = none_some m e
size_some (Some xs) m e = ((xs, refl, cc), refl)

plus_none : (o : Option ℕ) → plus o None ≡ None
unfolding plus
plus_none None = refl
plus_none (Some m) = refl

plus_some : (m n : ℕ) → plus (Some m) (Some n) ≡ Some (cap (m + n))
unfolding plus
plus_some m n = refl

module _ (p : Map PlanAction) (n : ℕ) (ws : List Wire) where
  -- the first i wires end, and become so many
  pub record Passed (i count : ℕ) : Type 0 where
    pub sums : plus (Some count) (size_of (rewrite_wires p n (drop i ws))) ≡ size_of (rewrite_wires p n ws)
    pub first : endless_index p n ws ≡ i + endless_index p n (drop i ws)

  pub passed_start : Passed 0 0
  passed_start = record { sums = zero_plus (size_of (rewrite_wires p n ws)) (size_low (rewrite_wires p n ws)); first = omega arith }
    where
      size_low : (o : Option (List Wire)) (v : ℕ) → size_of o ≡ Some v → v < no_count
      size_low o v e = let q = (size_some o v e).0.2 in unfold cap in omega arith

  module _ (i count weight : ℕ) (h : i < length ws) (q : Passed i count) (w : entry weight ≡ size_of (rewrite_wire p n (get_or ws i no_wire))) where
    next_size : size_of (rewrite_wires p n (drop i ws)) ≡ plus (entry weight) (size_of (rewrite_wires p n (drop (suc i) ws)))
    unfolding rewrite_wires collect
    next_size = ap (λ (xs : List Wire). size_of (rewrite_wires p n xs)) (drop-cons ws i no_wire h) ∙ size_both (rewrite_wire p n (get_or ws i no_wire)) (collect (rewrite_wire p n) (drop (suc i) ws)) ∙ ap (λ (o : Option ℕ). plus o (size_of (collect (rewrite_wire p n) (drop (suc i) ws)))) (sym w)

    next_index : endless_index p n (drop i ws) ≡ cond (is_some (rewrite_wire p n (get_or ws i no_wire))) (suc (endless_index p n (drop (suc i) ws))) 0
    unfolding endless_index
    next_index = ap (endless_index p n) (drop-cons ws i no_wire h)

    pub passed_stuck : weight ≡ no_count → Stuck p n ws i
    passed_stuck e =
        let a : entry weight ≡ None = entry_none weight (omega arith) in
        let b : size_of (rewrite_wires p n (drop i ws)) ≡ None = next_size ∙ rw a (unfold plus in refl) in
        let c : size_of (rewrite_wires p n ws) ≡ None = sym q.sums ∙ ap (plus (Some count)) b ∙ plus_none (Some count) in
        let d : endless_index p n (drop i ws) ≡ 0 = next_index ∙ rw (size_none (rewrite_wire p n (get_or ws i no_wire)) (sym w ∙ a)).1 refl in
        record { endless = (size_none (rewrite_wires p n ws) c).0; first = omega (arith, q.first) }

    pub passed_next : weight < no_count → Passed (i + 1) (cap (count + weight))
    passed_next l =
        let a : entry weight ≡ Some weight = entry_some weight l in
        let d : endless_index p n (drop i ws) ≡ suc (endless_index p n (drop (suc i) ws)) = next_index ∙ rw (size_some (rewrite_wire p n (get_or ws i no_wire)) weight (sym w ∙ a)).1 refl in
        record {
          sums = rw add-one (more a);
          first = rw add-one (omega (arith, q.first));
        }
      where
        more : entry weight ≡ Some weight → plus (Some (cap (count + weight))) (size_of (rewrite_wires p n (drop (suc i) ws))) ≡ size_of (rewrite_wires p n ws)
        more a =
            ap (λ (o : Option ℕ). plus o (size_of (rewrite_wires p n (drop (suc i) ws)))) (sym (plus_some count weight))
            ∙ sym (plus_assoc (Some count) (Some weight) (size_of (rewrite_wires p n (drop (suc i) ws))))
            ∙ ap (plus (Some count)) (ap (λ (o : Option ℕ). plus o (size_of (rewrite_wires p n (drop (suc i) ws)))) (sym a) ∙ sym next_size)
            ∙ q.sums

  pub passed_end : (i count : ℕ) → i ≡ length ws → count < no_count → Passed i count → Counted p n ws count
  passed_end i count e l q =
      let a : size_of (rewrite_wires p n (drop i ws)) ≡ Some 0 = rw (e, drop-length ws) (unfold rewrite_wires collect size_of cap in refl) in
      let b : size_of (rewrite_wires p n ws) ≡ Some count = sym q.sums ∙ rw a (plus_zero count l) in
      let c = (size_some (rewrite_wires p n ws) count b).0 in
      record { rewritten = c.0; ends = c.1; many = c.2 }

-- by whatever plan
pub record Scanning (ws : List Wire) (actions sources counts : List ℕ) (i count : ℕ) : Type 0 where
  pub within : i ≤ length ws
  pub low : count < no_count
  pub passed : (n : ℕ) (details : List ℕ) → Filled ws n actions details sources counts → Passed (shape_of ws actions details) n ws i count

module _ (ws : List Wire) (actions sources counts : List ℕ) where
  pub scan_start : Scanning ws actions sources counts 0 0
  scan_start = record { within = omega arith; low = omega arith; passed = λ n details p. passed_start (shape_of ws actions details) n ws }

  module _ (i count weight : ℕ) (h : i < length ws) (s : Scanning ws actions sources counts i count) (w : Weighs ws actions sources counts i weight) where
    pub scan_stuck : weight ≡ no_count → (n : ℕ) (details : List ℕ) → Filled ws n actions details sources counts → Stuck (shape_of ws actions details) n ws i
    scan_stuck e n details p = passed_stuck (shape_of ws actions details) n ws i count weight h (s.passed n details p) (w.right n details p) e

    pub scan_next : (weight ≡ no_count → ⊥) → (sum : ℕ) → sum ≡ cap (count + weight) → Scanning ws actions sources counts (i + 1) sum
    scan_next e sum q =
        rw q record {
          within = omega arith;
          low = unfold cap in omega arith;
          passed = λ n details p. passed_next (shape_of ws actions details) n ws i count weight h (s.passed n details p) (w.right n details p) (omega (arith, w.low));
        }

  pub scan_end : (i count : ℕ) → length ws ≤ i → Scanning ws actions sources counts i count → (n : ℕ) (details : List ℕ) → Filled ws n actions details sources counts → Counted (shape_of ws actions details) n ws count
  scan_end i count h s n details p = passed_end (shape_of ws actions details) n ws i count (omega (arith, s.within)) s.low (s.passed n details p)

-- a sum is capped at its end
pub cap_later : (count weight : ℕ) → cap (count + weight) ≡ cap (cap count + weight)
unfolding cap
cap_later count weight = omega arith

-- How long the records of a node are, by the kind of its value and its action.
use Rattle.std.specs.Prelude.{Option, None, Some}
use Prim.Native.Nat.{ℕ, zero, suc, ◌+◌, ◌*◌, ◌≤◌, ◌<◌}
use native.Mathlib.Omega.{arith}
use native.Mathlib.Numerals.{add-one}
use native.Mathlib.Decide.{ℕ_discrete}
use mathlib.Core.Path.{◌≡◌, refl, subst}
use mathlib.Core.Bool.{Bool, true, false, cond}
use mathlib.Core.List.{List, []}
use mathlib.Core.Logic.{inl, inr, ◌≢◌}
use lib.Dec.{eqb, ltb}
use mir.Val.{bool_byte}
use lib.ListN.{length, get_or}
use borrow.Author.Tests.{ne_eqb, ltb-true, ltb-false, le-ltb}
use Rattle.ir.specs.Kinds.{role_of, body_of}
use Rattle.ir.specs.declared.Role.TheVariants.{Property}
use Rattle.ir.specs.Ports.{value_port}
use Rattle.encoding.specs.Numbers.{bytes_of}
use Rattle.encoding.specs.Values.{value_bytes, head_bytes, property_bytes}
use Rattle.encoding.specs.Words.{held_composite_or_text, held_value}
use Rattle.encoding.proofs.Sizes.{by_kind, property_kind}
use Rattle.value.specs.declared.Value.{Value}
use Rattle.model.specs.Answer.{known_bytes}
use Rattle.model.proofs.Maps.{by_bool}
use Rattle.state.specs.Held.{is_kind, held}
use Rattle.answer.specs.Nodes.{literal_fate, fate_by, composite_count}

-- how many bytes the value of a kind has
size_of : (a b c d kind : ℕ) → role_of kind ≡ Property → length (value_bytes (held_value kind a b c d)) + 3 ≡ body_of kind
unfolding held_value held_composite_or_text bytes_of
size_of a b c d = by_kind (λ k. length (value_bytes (held_value k a b c d)) + 3 ≡ body_of k) refl refl refl refl refl refl refl refl

pub body_small : (kind : ℕ) → role_of kind ≡ Property → body_of kind ≤ 35
body_small = by_kind (λ k. body_of k ≤ 35) (omega arith) (omega arith) (omega arith) (omega arith) (omega arith) (omega arith) (omega arith) (omega arith)

-- a kind that is not 0 is one of a value
pub some_kind : (kind : ℕ) → is_kind kind → (kind ≡ 0 → ⊥) → role_of kind ≡ Property
some_kind kind (inl e) h = absurd (h e)
some_kind kind (inr p) h = p

module _ (i kind a b c d : ℕ) where
  pub known_none : kind ≡ 0 → 0 ≡ length (known_bytes i (held kind a b c d))
  unfolding held known_bytes
  known_none e = rw e refl

  not_none : role_of kind ≡ Property → kind ≢ 0
  not_none r e = omega (arith, e, (property_kind kind r).least)

  pub known_some : role_of kind ≡ Property → 1 + body_of kind ≡ length (known_bytes i (held kind a b c d))
  unfolding held known_bytes bytes_of
  known_some r = rw (ne_eqb kind 0 (not_none r)) (omega (arith, size_of a b c d kind r))

  pub fate_other : (action : ℕ) → action ≢ 1 → 3 ≡ length (fate_by i action (held kind a b c d))
  unfolding fate_by bytes_of
  fate_other action h = rw (ne_eqb action 1 h) refl

  pub fate_unknown : (action : ℕ) → kind ≡ 0 → 3 ≡ length (fate_by i action (held kind a b c d))
  unfolding fate_by held literal_fate bytes_of
  fate_unknown action e = rw e (go (eqb action 1))
    where
      go : (x : Bool) → 3 ≡ length (cond x (head_bytes 0x10 i) (head_bytes (cond (eqb action 0) 0x10 0x11) i))
      go true = refl
      go false = refl

  pub fate_literal : (action : ℕ) → action ≡ 1 → role_of kind ≡ Property → body_of kind ≡ length (fate_by i action (held kind a b c d))
  unfolding fate_by held literal_fate bytes_of
  fate_literal action e r = rw (e, ne_eqb kind 0 (not_none r)) (omega (arith, size_of a b c d kind r))

  -- the two records of a node with a scalar value, or with none
  pub scalar_sizes : (action : ℕ) → is_kind kind → kind ≤ 5 → length (known_bytes i (held kind a b c d)) + length (fate_by i action (held kind a b c d)) ≤ 23
  scalar_sizes action k l = go (ℕ_discrete kind 0) (ℕ_discrete action 1)
    where
      small : 3 ≤ kind → body_of kind ≤ 11
      small h = pick (ℕ_discrete kind 3) (ℕ_discrete kind 4)
        where
          pick : Dec (kind ≡ 3) → Dec (kind ≡ 4) → body_of kind ≤ 11
          pick (yes e) q = rw e (omega arith)
          pick (no p) (yes e) = rw e (omega arith)
          pick (no p) (no q) = let e : kind ≡ 5 = omega arith in rw e (omega arith)

      go : Dec (kind ≡ 0) → Dec (action ≡ 1) → length (known_bytes i (held kind a b c d)) + length (fate_by i action (held kind a b c d)) ≤ 23
      go (yes e) q = omega (arith, known_none e, fate_unknown action e)
      go (no e) (yes q) = let h = some_kind kind k e in omega (arith, small (property_kind kind h).least, known_some h, fate_literal action q h)
      go (no e) (no q) = let h = some_kind kind k e in omega (arith, small (property_kind kind h).least, known_some h, fate_other action q)

  -- .. and with any value
  pub most_sizes : (action : ℕ) → is_kind kind → length (known_bytes i (held kind a b c d)) + length (fate_by i action (held kind a b c d)) ≤ 23 + 48 * cond (ltb 5 kind) 1 0
  most_sizes action k = by_bool (ltb 5 kind) (λ e. rw e (composite (ltb-true 5 kind e) (ℕ_discrete action 1))) (λ e. rw e (scalar_sizes action k (ltb-false 5 kind e)))
    where
      composite : 5 < kind → Dec (action ≡ 1) → length (known_bytes i (held kind a b c d)) + length (fate_by i action (held kind a b c d)) ≤ 71
      composite l q =
          let h = some_kind kind k (λ e. omega (arith, l, e)) in
          go h q
        where
          go : role_of kind ≡ Property → Dec (action ≡ 1) → length (known_bytes i (held kind a b c d)) + length (fate_by i action (held kind a b c d)) ≤ 71
          go r (yes q) = omega (arith, body_small kind r, known_some r, fate_literal action q r)
          go r (no q) = omega (arith, body_small kind r, known_some r, fate_other action q)

-- ---- what is written of a node

pub kind_low : (kind : ℕ) → role_of kind ≡ Property → kind ≤ 12
kind_low = by_kind (λ k. k ≤ 12) (omega arith) (omega arith) (omega arith) (omega arith) (omega arith) (omega arith) (omega arith) (omega arith)

pub bytes_none : (i : ℕ) (o : Option Value) → o ≡ None → known_bytes i o ≡ []
unfolding known_bytes
bytes_none i o e = rw e refl

pub bytes_some : (i : ℕ) (o : Option Value) (v : Value) → o ≡ Some v → known_bytes i o ≡ property_bytes i value_port v
unfolding known_bytes
bytes_some i o v e = rw e refl

-- a known node's record is as long whichever port it names
pub port_room : (i port at n : ℕ) (o : Option Value) (v : Value) → o ≡ Some v → at + length (known_bytes i o) ≤ n → at + length (property_bytes i port v) ≤ n
unfolding known_bytes bytes_of
port_room i port at n o v e h = subst (λ (k : Option Value). at + length (known_bytes i k) ≤ n) e h

pub by_plain : (i action : ℕ) (o : Option Value) → action ≢ 1 → fate_by i action o ≡ head_bytes (cond (eqb action 0) 0x10 0x11) i
unfolding fate_by
by_plain i action o h = rw (ne_eqb action 1 h) refl

pub by_unknown : (i action : ℕ) (o : Option Value) → action ≡ 1 → o ≡ None → fate_by i action o ≡ head_bytes 0x10 i
unfolding fate_by literal_fate
by_unknown i action o e h = rw (e, h) refl

pub by_literal : (i action : ℕ) (o : Option Value) (v : Value) → action ≡ 1 → o ≡ Some v → fate_by i action o ≡ literal_fate i (Some v)
unfolding fate_by
by_literal i action o v e h = rw (e, h) refl

pub head_size : (kind i : ℕ) → length (head_bytes kind i) ≡ 3
unfolding bytes_of
head_size kind i = refl

-- ---- the count of composites

pub byte_count : (b : Bool) → bool_byte b ≡ cond b 1 0
byte_count true = refl
byte_count false = refl

pub count_small : (b : Bool) → cond b 1 0 ≤ 1
count_small true = omega arith
count_small false = omega arith

pub count_none : (kinds : List ℕ) → composite_count kinds 0 ≡ 0
unfolding composite_count
count_none kinds = refl

pub count_more : (kinds : List ℕ) (n : ℕ) → composite_count kinds (n + 1) ≡ composite_count kinds n + cond (ltb 5 (get_or kinds n 0)) 1 0
unfolding composite_count
count_more kinds n = rw add-one refl

pub count_low : (kinds : List ℕ) (n : ℕ) → ((m : ℕ) → m < n → get_or kinds m 0 ≤ 5) → composite_count kinds n ≡ 0
unfolding composite_count
count_low kinds zero h = refl
count_low kinds (suc n) h = rw (count_low kinds n (λ m l. h m (omega arith)), le-ltb 5 (get_or kinds n 0) (h n (omega arith))) refl

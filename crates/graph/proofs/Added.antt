-- What a record adds to the counts, and a property to the table.
use Rattle.std.specs.Prelude.{Option, None, Some}
use Prim.Native.Nat.{ℕ, zero, suc, ◌+◌, ◌≤◌, ◌<◌}
use native.Mathlib.Omega.{arith}
use native.Mathlib.Decide.{ℕ_discrete}
use mathlib.Core.Path.{◌≡◌, refl, sym, ap, ◌∙◌}
use mathlib.Core.Bool.{false≢true, Bool, true, false, cond, ◌&&◌, ◌||◌, or_assoc, or-false}
use mathlib.Core.List.{List, [], ◌∷◌}
use lib.ListN.{length, get_or, set, length-set}
use lib.Seq.{get_or-set_same, get_or-set_other}
use lib.Dec.{leb, eqb}
use borrow.Author.Tests.{eq-eqb, ne_eqb, eqb-true, eqb-false, ltb-true, leb-true}
use Rattle.ir.specs.Classes.{is_annihilator}
use Rattle.ir.specs.Kinds.{role_of, text_kind}
use Rattle.ir.specs.Variants.{text_variant}
use Rattle.ir.specs.declared.Role.TheVariants.{Property as PropertyRole}
use Rattle.value.specs.declared.Value.{Value}
use Rattle.value.specs.Variants.{variant_of}
use Rattle.encoding.specs.Numbers.{byte, u16_at}
use Rattle.encoding.specs.Values.{composite_or_text_at, value_at}
use Rattle.encoding.proofs.Sizes.{by_kind}
use Rattle.graph.specs.Graph.{property_at, snoc, lookup, member, texts}
use Rattle.graph.specs.Layout.{role_at, size_at}
use Rattle.graph.specs.Questions.{is_none}
use Rattle.graph.specs.Index.{slot, entry_value, IsProperty, Indexed, Sound}
use Rattle.graph.specs.declared.Property.{Property}
use Rattle.graph.proofs.Roles.{and_left}

-- ---- annihilators

pub member_snoc : (x : ℕ) (l : List ℕ) (a : ℕ) → member x (snoc l a) ≡ (member x l || eqb a x)
unfolding member
member_snoc x [] a = or-false (eqb a x)
member_snoc x (b ∷ l) a =
    ap (λ (t : Bool). eqb b x || t) (member_snoc x l a) ∙ sym (or_assoc (eqb b x) (member x l) (eqb a x))

pub second : (class : ℕ) → is_annihilator class ≡ true → (class ≡ 12 → ⊥) → class ≡ 13
second class e h = eqb-true class 13 (rw (ne_eqb class 12 h) at e)

-- ---- properties

module _ {n : ℕ} {s : List ℕ} {at : ℕ} (h : Sound n PropertyRole s at) where
  pub property_node : u16_at s (at + 1) < 1024
  property_node = omega (arith, ltb-true (u16_at s (at + 1)) n h.there, h.few)

  pub property_port : byte s (at + 3) ≤ 10
  property_port = leb-true (byte s (at + 3)) 10 (and_left (leb (byte s (at + 3)) 10) _ h.listed)

look_old : (n p : ℕ) (qs : List Property) (q : Property) → (eqb q.node_id n && eqb q.port p) ≡ false → lookup n p (snoc qs q) ≡ lookup n p qs
unfolding lookup
look_old n p [] q e = simp e
look_old n p (r ∷ qs) q e = ap (cond (eqb r.node_id n && eqb r.port p) (Some r.value)) (look_old n p qs q e)

missed : (b : Bool) (v : Value) (t : Option Value) → is_none (cond b (Some v) t) ≡ true → (b ≡ false) × (is_none t ≡ true)
missed true v t e = absurd (false≢true e)
missed false v t e = (refl, e)

look_new : (n p : ℕ) (qs : List Property) (q : Property) → is_none (lookup n p qs) ≡ true → (eqb q.node_id n && eqb q.port p) ≡ true → lookup n p (snoc qs q) ≡ Some q.value
unfolding lookup
look_new n p [] q h e = simp e
look_new n p (r ∷ qs) q h e =
    let m = missed (eqb r.node_id n && eqb r.port p) r.value (lookup n p qs) h in
    rw m.0 (look_new n p qs q m.1 e)

same_slot : (n p m q : ℕ) → p ≤ 10 → q ≤ 10 → slot n p ≡ slot m q → (n ≡ m) × (p ≡ q)
same_slot n p m q a b e = omega arith

-- the table with the entry of one more property
module _ (ps : List Property) (s : List ℕ) (at : ℕ) (table : List ℕ) (held : Indexed ps s table) (role : role_at s at ≡ PropertyRole) (whole : at + size_at s at ≤ length s) (low : u16_at s (at + 1) < 1024) (port : byte s (at + 3) ≤ 10) (new : is_none (lookup (u16_at s (at + 1)) (byte s (at + 3)) ps) ≡ true) (later : 0 < at) where
  here : ℕ
  here = slot (u16_at s (at + 1)) (byte s (at + 3))

  inside : here < length table
  unfolding here
  inside = omega (arith, held.long)

  entry : (o : ℕ) → o ≡ at → entry_value s o ≡ Some (property_at s at).value
  entry zero e = absurd (omega arith)
  entry (suc o) e = ap (λ (i : ℕ). Some (property_at s i).value) e

  says : (n p : ℕ) → n < 1024 → p ≤ 10 → (b d : Bool) → eqb (u16_at s (at + 1)) n ≡ b → eqb (byte s (at + 3)) p ≡ d → entry_value s (get_or (set table here at) (slot n p) 0) ≡ lookup n p (snoc ps (property_at s at))
  unfolding here
  says n p a c true true e f =
      let i : slot n p ≡ here = omega (arith, eqb-true (u16_at s (at + 1)) n e, eqb-true (byte s (at + 3)) p f) in
      entry _ (ap (λ (j : ℕ). get_or (set table here at) j 0) i ∙ get_or-set_same table here at 0 inside)
      ∙ sym (look_new n p ps (property_at s at) (rw (eqb-true (u16_at s (at + 1)) n e, eqb-true (byte s (at + 3)) p f) at new) (rw (e, f)))
  says n p a c true false e f =
      ap (entry_value s) (get_or-set_other table here (slot n p) at 0 (λ z. eqb-false _ _ f (sym (same_slot n p (u16_at s (at + 1)) (byte s (at + 3)) c port z).1)))
      ∙ held.says n p a c
      ∙ sym (look_old n p ps (property_at s at) (rw (e, f)))
  says n p a c false d e f =
      ap (entry_value s) (get_or-set_other table here (slot n p) at 0 (λ z. eqb-false _ _ e (sym (same_slot n p (u16_at s (at + 1)) (byte s (at + 3)) c port z).0)))
      ∙ held.says n p a c
      ∙ sym (look_old n p ps (property_at s at) (rw e))

  stands : (i : ℕ) → 0 < get_or (set table here at) i 0 → IsProperty s (get_or (set table here at) i 0)
  stands i z = pick (ℕ_discrete i here)
    where
      pick : Dec (i ≡ here) → IsProperty s (get_or (set table here at) i 0)
      pick (yes e) = rw (e, get_or-set_same table here at 0 inside) (record { role = role; within = whole })
      pick (no n) = rw (get_or-set_other table here i at 0 n) (held.stands i (rw (get_or-set_other table here i at 0 n) at z))

  pub indexed_more : Indexed (snoc ps (property_at s at)) s (set table (slot (u16_at s (at + 1)) (byte s (at + 3))) at)
  unfolding here
  indexed_more =
      record { long = length-set table here at ∙ held.long; says = λ n p a c. says n p a c _ _ refl refl; stands = stands }

-- ---- texts

texts_snoc : (ps : List Property) (p : Property) → texts (snoc ps p) ≡ cond (eqb (variant_of p.value) text_variant) 1 0 + texts ps
unfolding texts
texts_snoc [] p = refl
texts_snoc (q ∷ ps) p = ap (λ (n : ℕ). cond (eqb (variant_of q.value) text_variant) 1 0 + n) (texts_snoc ps p) ∙ swap (cond (eqb (variant_of q.value) text_variant) 1 0) (cond (eqb (variant_of p.value) text_variant) 1 0) (texts ps)
  where
    swap : (a b c : ℕ) → a + (b + c) ≡ b + (a + c)
    swap a b c = omega arith

pub few_texts : (ps : List Property) → texts ps ≤ length ps
unfolding texts
few_texts [] = omega arith
few_texts (p ∷ ps) = pick (few_texts ps) (eqb (variant_of p.value) text_variant)
  where
    pick : texts ps ≤ length ps → (b : Bool) → cond b 1 0 + texts ps ≤ suc (length ps)
    pick h true = omega arith
    pick h false = omega arith

-- a property is a text where its kind is 0C
text_value : (s : List ℕ) (i k : ℕ) → role_of k ≡ PropertyRole → eqb (variant_of (value_at k s i)) text_variant ≡ eqb k text_kind
unfolding value_at composite_or_text_at
text_value s i = by_kind (λ k. eqb (variant_of (value_at k s i)) text_variant ≡ eqb k text_kind) refl refl refl refl refl refl refl refl

module _ (ps : List Property) (s : List ℕ) (at : ℕ) (r : role_at s at ≡ PropertyRole) where
  pub texts_more : texts (snoc ps (property_at s at)) ≡ cond (eqb (byte s at) text_kind) 1 0 + texts ps
  texts_more = texts_snoc ps (property_at s at) ∙ ap (λ (b : Bool). cond b 1 0 + texts ps) (text_value s (at + 4) (byte s at) r)

  pub one_text : byte s at ≡ text_kind → texts (snoc ps (property_at s at)) ≡ texts ps + 1
  one_text e = texts_more ∙ ap (λ (b : Bool). cond b 1 0 + texts ps) (eq-eqb (byte s at) text_kind e) ∙ omega arith

  pub no_text : (byte s at ≡ text_kind → ⊥) → texts (snoc ps (property_at s at)) ≡ texts ps
  no_text n = texts_more ∙ ap (λ (b : Bool). cond b 1 0 + texts ps) (ne_eqb (byte s at) text_kind n) ∙ omega arith

-- ---- an entry of the table

pub entry_none : (s : List ℕ) (o : ℕ) → o ≡ 0 → None ≡ entry_value s o
entry_none s zero e = refl
entry_none s (suc o) e = absurd (omega arith)

pub entry_some : (s : List ℕ) (o : ℕ) → (o ≡ 0 → ⊥) → Some (value_at (byte s o) s (o + 4)) ≡ entry_value s o
entry_some s zero e = absurd (e refl)
entry_some s (suc o) e = refl

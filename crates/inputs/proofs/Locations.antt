-- Where an input is found, and the word that holds it where it is a scalar.
use Rattle.std.specs.Prelude.{Option, None, Some}
use Rattle.std.proofs.lemmas.Bool.Decides.{nat_tests}
use Prim.Native.Nat.{ℕ, ◌*◌, ◌≤◌, ◌<◌}
use native.Mathlib.Omega.{arith}
use mathlib.Core.Path.{◌≡◌, refl, sym, subst}
use mathlib.Core.Bool.{Bool, true, false}
use mathlib.Core.List.{List, [], ◌∷◌}
use lib.ListN.{get_or}
use borrow.Author.Tests.{ne_eqb}
use Rattle.ir.specs.Variants.{variant_count}
use Rattle.ir.specs.Limits.{max_nodes}
use Rattle.whole.specs.Bits.{from_bits}
use Rattle.value.specs.declared.Value.{Value}
use Rattle.conversions.specs.Conversions.{truthy_of, math_in_of}
use Rattle.conversions.specs.declared.MathIn.{MathIn}
use Rattle.encoding.specs.Values.{value_at}
use Rattle.graph.specs.Graph.{Graph}
use Rattle.table.specs.Table.{covers as tableCovers}
use Rattle.model.specs.Maps.{Map}
use Rattle.model.specs.Inputs.{carried, is_resolved, operand_of}
use Rattle.model.specs.Offer.{covers, resolve_condition}
use Rattle.model.specs.declared.Resolved.{Resolved}
use Rattle.encoding.specs.Words.{held_value}
use Rattle.state.specs.Held.{held, known_of}
use Rattle.inputs.specs.Inputs.{kind_variant, word_at, scalar_operand, Locates, LooksUp}
use Rattle.inputs.specs.declared.Located.{Located}
use Rattle.inputs.proofs.Conditions.{held_some, value_at_lem, covers_row, few_in}

-- ---- scalars

-- no kind is that of an input with no value
has_kind : (k : ℕ) → kind_variant k ≡ 0 → ⊥
has_kind k h = grind (arith, nat_tests)

-- the word of a value holds the scalars
held_word : (k a b c d : ℕ) → kind_variant k ≤ 3 → Some (held_value k a b c d) ≡ scalar_operand (kind_variant k) a
unfolding held_value
held_word k a b c d h = grind (arith, nat_tests)

word_at_lem : (k : ℕ) (s : List ℕ) (i : ℕ) → kind_variant k ≤ 3 → Some (value_at k s i) ≡ scalar_operand (kind_variant k) (word_at k s i)
unfolding value_at
word_at_lem k s i h = grind (arith, nat_tests)

-- ---- where an input is found

pub same_input : {i j : Resolved} {o : Option Value} {known : Map Value} {l : Located} → i ≡ j → Locates i o known l → Locates j o known l
same_input {o = o} {known = known} {l = l} e f = subst (λ (i : Resolved). Locates i o known l) e f

pub same_lookup : {i j : Resolved} {o : Option Value} {known : Map Value} {r : Option Located} → i ≡ j → LooksUp i o known r → LooksUp j o known r
same_lookup {o = o} {known = known} {r = r} e f = subst (λ (i : Resolved). LooksUp i o known r) e f

pub finds : {i : Resolved} {o : Option Value} {known : Map Value} {l : Located} → Locates i o known l → LooksUp i o known (Some l)
finds {i} {o} {known} {l} f = record { unresolved = λ e. cc; found = λ m e. let z : l ≡ m = cc in subst (λ (m : Located). Locates i o known m) z f }

pub finds_none : {i : Resolved} {o : Option Value} {known : Map Value} → is_resolved i ≡ false → LooksUp i o known None
finds_none f = record { unresolved = λ e. f; found = λ l e. cc }

pub unwired : (o : Option Value) (known : Map Value) → Locates Resolved.Unwired o known (record { variant = 0; word = 0; source = None })
unwired o known =
    record {
      resolved = refl;
      variant = refl;
      scalar = λ h. refl;
      unwired = λ h. refl;
      within = tt;
      by_wire = tt;
      by_property = λ w h. absurd (omega (arith, h));
    }

-- a value as operand
pub operand_is : (o : Option Value) → operand_of (carried o) ≡ o
operand_is o = grind (arith, nat_tests)

-- an input that is Unwired or an Int, as Add to Modulo read it
pub whole_operand : {i : Resolved} {o : Option Value} {known : Map Value} {l : Located} → Locates i o known l → l.variant ≤ 1 → math_in_of (operand_of i) ≡ Some (MathIn.I (from_bits l.word))
whole_operand {l = l} f h = grind (arith, nat_tests)

pub at_property : (k : ℕ) (s : List ℕ) (i : ℕ) (known : Map Value)
    → Locates (Resolved.Known (value_at k s i)) (Some (value_at k s i)) known (record { variant = kind_variant k; word = word_at k s i; source = None })
at_property k s i known =
    record {
      resolved = refl;
      variant = sym (value_at_lem k s i);
      scalar = word_at_lem k s i;
      unwired = λ h. absurd (has_kind k h);
      within = tt;
      by_wire = tt;
      by_property = λ w h. refl;
    }

pub unknown_source : (kinds words : List ℕ) (m : ℕ) → get_or kinds m 0 ≡ 0 → is_resolved (carried (known_of kinds words m)) ≡ false
unfolding known_of held
unknown_source kinds words m e = rw e refl

pub at_source : (kinds words : List ℕ) (m : ℕ) → m < max_nodes → (get_or kinds m 0 ≡ 0 → ⊥) → (o : Option Value)
    → Locates (carried (known_of kinds words m)) o (known_of kinds words) (record { variant = kind_variant (get_or kinds m 0); word = get_or words (4 * m) 0; source = Some m })
unfolding known_of held
at_source kinds words m few e o =
    record {
      resolved = rw (ne_eqb (get_or kinds m 0) 0 e) refl;
      variant = held_some _ _ _ _ _ e;
      scalar = λ h. rw (ne_eqb (get_or kinds m 0) 0 e) (held_word _ _ _ _ _ h);
      unwired = λ h. absurd (has_kind (get_or kinds m 0) h);
      within = few;
      by_wire = refl;
      by_property = λ w. cc;
    }

pub few : {i : Resolved} {o : Option Value} {known : Map Value} {l : Located} → Locates i o known l → l.variant < variant_count
few {i} f = rw f.variant (few_in (operand_of i))

-- ---- a condition

module _ (g : Graph) (class : ℕ) {i : Resolved} {o : Option Value} {known : Map Value} {l : Located} (f : Locates i o known l) {t : Bool}
    (covered : t ≡ tableCovers g.rows (record { class = class; first = l.variant; second = 0; third = 0 })) where
  same : t ≡ covers g class (operand_of i ∷ [])
  same = covers_row g class (operand_of i ∷ []) (rw f.variant at covered)

  pub condition_covered : t ≡ true → {b : Bool} → b ≡ truthy_of (operand_of i) → Some b ≡ resolve_condition g class i
  unfolding resolve_condition
  condition_covered e b = rw (f.resolved, ← same, e, b)

  pub condition_uncovered : t ≡ false → None ≡ resolve_condition g class i
  unfolding resolve_condition
  condition_uncovered e = rw (f.resolved, ← same, e)

pub condition_unresolved : (g : Graph) (class : ℕ) (i : Resolved) → is_resolved i ≡ false → None ≡ resolve_condition g class i
unfolding resolve_condition
condition_unresolved g class i e = rw e refl

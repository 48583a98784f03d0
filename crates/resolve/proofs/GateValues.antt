-- The value of a gate, as the model has it.
use Rattle.std.specs.Prelude.{Option, None, Some}
use Rattle.std.proofs.lemmas.Bool.Decides.{nat_tests}
use Prim.Native.Nat.{ℕ, ◌≤◌}
use native.Mathlib.Omega.{arith}
use mathlib.Core.Path.{◌≡◌, refl, ap, ◌∙◌, subst}
use mathlib.Core.Bool.{Bool, true, false, cond, ◌||◌}
use mathlib.Core.List.{List, [], ◌∷◌, map}
use lib.Dec.{ltb}
use lib.IntN.{ℤ}
use Rattle.ir.specs.Classes.{input_count, input_ports, settles}
use Rattle.ir.specs.declared.Folding.{Folding}
use Rattle.whole.specs.Bits.{from_bits}
use Rattle.value.specs.declared.Value.{Value}
use Rattle.conversions.specs.declared.MathIn.{MathIn}
use Rattle.semantics.specs.Eval.{eval_of}
use Rattle.semantics.specs.Finite.{non_finite_float}
use Rattle.semantics.specs.Whole.{WholeMath}
use Rattle.graph.specs.Graph.{Graph, counts_of}
use Rattle.graph.specs.declared.Counts.{Counts}
use Rattle.table.specs.Table.{covers as tableCovers, bool_of, settling, counted}
use Rattle.table.specs.declared.AnnihilatorKind.{AnnihilatorKind}
use Rattle.model.specs.Maps.{Map, any, or_else}
use Rattle.model.specs.Inputs.{is_resolved, all_resolved, operand_of}
use Rattle.model.specs.Offer.{plannable, covers, evaluated, annihilator, holds_bool, settled, gate_value, literal_offer}
use Rattle.model.specs.declared.Resolved.{Resolved}
use Rattle.state.specs.declared.Trial.{Trial}
use Rattle.inputs.specs.Inputs.{Locates}
use Rattle.inputs.specs.declared.Located.{Located}
use Rattle.inputs.proofs.Conditions.{covers_row}
use Rattle.inputs.proofs.Locations.{whole_operand}
use Rattle.resolve.specs.Gives.{gate_inputs, Gives}
use Rattle.resolve.proofs.Trials.{IsGate}

-- ---- what a gate gives

-- what is no non-finite Float is planned
planned : (r : Option Value) → ((v : Value) → r ≡ Some v → non_finite_float v ≡ false) → r ≡ plannable r
planned r h = grind (arith, nat_tests)

-- the inputs are resolved, and t says whether the table has their row
module _ (g : Graph) (class : ℕ) {a b c : Resolved} {o p q : Option Value} {known : Map Value} {x y z : Located} (A : Locates a o known x) (B : Locates b p known y) (C : Locates c q known z)
    {t : Bool} (e : t ≡ tableCovers g.rows (record { class = class; first = x.variant; second = y.variant; third = z.variant })) where
  row : t ≡ covers g class (map operand_of (a ∷ b ∷ c ∷ []))
  row = covers_row g class (map operand_of (a ∷ b ∷ c ∷ [])) (rw (A.variant, B.variant, C.variant) at e)

  all : all_resolved (a ∷ b ∷ c ∷ []) ≡ true
  unfolding all_resolved
  all = rw (A.resolved, B.resolved, C.resolved) refl

  pub not_covered : t ≡ false → None ≡ evaluated g class (a ∷ b ∷ c ∷ [])
  unfolding evaluated
  not_covered h = rw (all, ← row, h)

  pub is_covered : t ≡ true → {u v w : Option Value} → u ≡ operand_of a → v ≡ operand_of b → w ≡ operand_of c → plannable (eval_of class u v w) ≡ evaluated g class (a ∷ b ∷ c ∷ [])
  unfolding evaluated
  is_covered h k l m = rw (all, ← row, h, k, l, m)

  -- a and b are read as whole numbers
  pub is_whole : t ≡ true → x.variant ≤ 1 → y.variant ≤ 1 → {m n : ℤ} {r : Option Value} → WholeMath class m n r → from_bits x.word ≡ m → from_bits y.word ≡ n → r ≡ evaluated g class (a ∷ b ∷ c ∷ [])
  is_whole h k l {r = r} w i j =
      planned r w.finite
      ∙ ap plannable (w.value (operand_of a) (operand_of b) (operand_of c) (whole_operand A k ∙ ap (λ (n : ℤ). Some (MathIn.I n)) i) (whole_operand B l ∙ ap (λ (n : ℤ). Some (MathIn.I n)) j))
      ∙ is_covered h refl refl refl

-- an input is Unresolved
module _ (g : Graph) (class : ℕ) (a b c : Resolved) where
  pub first_unresolved : is_resolved a ≡ false → None ≡ evaluated g class (a ∷ b ∷ c ∷ [])
  unfolding evaluated all_resolved
  first_unresolved e = grind (arith, nat_tests)

  pub second_unresolved : is_resolved b ≡ false → None ≡ evaluated g class (a ∷ b ∷ c ∷ [])
  unfolding evaluated all_resolved
  second_unresolved e = grind (arith, nat_tests)

  pub third_unresolved : is_resolved c ≡ false → None ≡ evaluated g class (a ∷ b ∷ c ∷ [])
  unfolding evaluated all_resolved
  third_unresolved e = grind (arith, nat_tests)

-- ---- annihilators

module _ (want : Bool) (a b c : Resolved) {x y z : Bool} (p : x ≡ holds_bool want a) (q : y ≡ holds_bool want b) (r : z ≡ holds_bool want c) where
  pub settle_some : ((x || y) || z) ≡ true → Some (Value.Bool want) ≡ settled (Some want) (a ∷ b ∷ c ∷ [])
  unfolding settled any
  settle_some e = grind (arith, nat_tests)

  pub settle_none : ((x || y) || z) ≡ false → None ≡ settled (Some want) (a ∷ b ∷ c ∷ [])
  unfolding settled any
  settle_none e = grind (arith, nat_tests)

-- what was counted of a graph is what its annihilator records say
counted_annihilator : (g : Graph) (class : ℕ) → cond (counted (counts_of g) class) (settles class) None ≡ annihilator g class
unfolding annihilator settles
counted_annihilator g class = grind (arith, nat_tests)

module _ (g : Graph) {counts : Counts} (same : counts ≡ counts_of g) (class : ℕ) (m : Option AnnihilatorKind) (e : settling m ≡ cond (counted counts class) (settles class) None) where
  says : settling m ≡ annihilator g class
  says = e ∙ ap (λ (c : Counts). cond (counted c class) (settles class) None) same ∙ counted_annihilator g class

  pub annihilator_none : m ≡ None → (is : List Resolved) → None ≡ settled (annihilator g class) is
  unfolding settled
  annihilator_none h is = rw (← says, h) refl

  pub annihilator_some : {k : AnnihilatorKind} → m ≡ Some k → Some (bool_of k) ≡ annihilator g class
  annihilator_some h = rw (← says, h) refl

-- ---- a gate

module _ (g : Graph) (class : ℕ) (is : List Resolved) (o : Option Value) (e : o ≡ evaluated g class is) where
  pub gate_settled : (s : Option Value) → o ≡ None → s ≡ settled (annihilator g class) is → s ≡ gate_value g class is
  unfolding gate_value or_else
  gate_settled s h f = rw (← e, h) f

  pub gate_evaluated : {v : Value} → o ≡ Some v → Some v ≡ gate_value g class is
  unfolding gate_value or_else
  gate_evaluated h = rw (← e, h)

-- a gate that is settled by its inputs
pub settles_inputs : (g : Graph) (n class : ℕ) (t : Trial) {want : Bool} → Some want ≡ annihilator g class → {a b c x y z : Resolved} → a ≡ x → b ≡ y → c ≡ z → {o : Option Value} → o ≡ settled (Some want) (a ∷ b ∷ c ∷ []) → Gives g n (literal_offer o) t
    → Gives g n (literal_offer (settled (annihilator g class) (x ∷ y ∷ z ∷ []))) t
settles_inputs g n class t s p q r e h = subst (λ (o : Option Value). Gives g n (literal_offer o) t) (e ∙ rw (← s, p, q, r)) h

-- a gate of one, two and three inputs
module _ (g : Graph) (n class : ℕ) (t : Trial) where
  pub same_value : {p q : Option Value} → p ≡ q → Gives g n (literal_offer p) t → Gives g n (literal_offer q) t
  same_value e h = subst (λ (o : Option Value). Gives g n (literal_offer o) t) e h

  one_input : (x : Resolved) → gate_value g class (x ∷ Resolved.Unwired ∷ Resolved.Unwired ∷ []) ≡ gate_value g class (x ∷ [])
  unfolding gate_value evaluated all_resolved covers settled any
  one_input x = grind (arith, nat_tests)

  two_inputs : (x y : Resolved) → gate_value g class (x ∷ y ∷ Resolved.Unwired ∷ []) ≡ gate_value g class (x ∷ y ∷ [])
  unfolding gate_value evaluated all_resolved covers settled any
  two_inputs x y = grind (arith, nat_tests)

-- a gate of as many inputs as its class has
pub by_inputs : (g : Graph) (n class : ℕ) (t : Trial) (ports : ℕ → Resolved) (f : Folding) → IsGate f → {count : ℕ} → count ≡ input_count f
    → Gives g n (literal_offer (gate_value g class (gate_inputs ports (ltb 1 count) (ltb 2 count)))) t
    → Gives g n (literal_offer (gate_value g class (map ports (input_ports f)))) t
by_inputs g n class t ports f k e h = same_value g n class t (inputs_are f k e) h
  where
    inputs_are : (f : Folding) → IsGate f → {count : ℕ} → count ≡ input_count f → gate_value g class (gate_inputs ports (ltb 1 count) (ltb 2 count)) ≡ gate_value g class (map ports (input_ports f))
    inputs_are f k e = grind (arith, nat_tests, one_input, two_inputs)

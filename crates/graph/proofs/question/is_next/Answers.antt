-- `graph::question::is_next` meets its contract.
use Prim.Native.Nat.{ℕ}
use native.Mathlib.Omega.{arith}
use mathlib.Core.Bool.{Bool, true, false≢true, ◌&&◌}
use mathlib.Core.Path.{◌≡◌, refl, ◌∙◌, sym}
use mathlib.Core.List.{List}
use borrow.Author.Tests.{ne_eqb}
use Rattle.ir.specs.Kinds.{text_kind}
use Rattle.encoding.specs.Numbers.{byte}
use Rattle.graph.specs.Questions.{has_listed_text}
use Rattle.graph.proofs.Roles.{and_left, and_right}
use Rattle.graph.proofs.Asked.{next_of, next_whole, next_tests, next_first}
use Rattle.graph.proofs.question.is_next.Goals as goal

-- the tests that passed: questions 4, 12, 6 and 8
four : (a b d e : Bool) → (((a && b) && d) && e) ≡ true → (a ≡ true) × (b ≡ true) × (d ≡ true) × (e ≡ true)
four a b d e h =
    let x = and_left ((a && b) && d) e h in
    let y = and_left (a && b) d x in
    (and_left a b y, and_right a b y, and_right (a && b) d x, and_right ((a && b) && d) e h)

-- question 4 asks nothing of a text where there is none
no_text : (s : List ℕ) (at kind : ℕ) → byte s at ≡ kind → (kind ≡ text_kind → ⊥) → has_listed_text s at ≡ true
no_text s at kind k n = rw (k, ne_eqb _ _ n) refl

pub returns-then-s-at-clause-every : goal.returns-then-s-at-clause-every
returns-then-s-at-clause-every c = λ g h n. absurd (omega (arith, next_whole c.requires.0 c.requires.1 g h n))

pub returns-then-not-listed-ordered : goal.returns-then-not-listed-ordered
returns-then-not-listed-ordered c =
    record {
      next = λ e. absurd (false≢true e);
      every = λ g h n. absurd (false≢true (sym c.if-not-listed-ordered.true ∙ next_tests c.requires.0 c.requires.1 g h n c.is_listed-listed.ensures c.orders_no_text-ordered.ensures c.has_nodes-present.ensures c.has_room.ensures));
    }

pub returns : goal.returns
returns c =
    let passed = four _ _ _ _ c.if-not-listed-ordered.false in
    record {
      next = λ e.
          next_of c.requires.0 c.requires.1 (omega arith) c.if-s-at-2.false
          (sym c.is_listed-listed.ensures ∙ passed.0) (sym c.orders_no_text-ordered.ensures ∙ passed.1)
          (sym c.has_nodes-present.ensures ∙ passed.2) (sym c.has_room.ensures ∙ passed.3)
          (λ g h. sym (c.is_first.ensures g h) ∙ e) (no_text c.args.s.now c.args.at c.args.kind c.if-s-at-2.false c.requires.4);
      every = λ g h n. c.is_first.ensures g h ∙ next_first c.requires.0 c.requires.1 g h n;
    }

-- `extended::min` meets its contract.
use borrow.Author.Rules.{rules}
use mathlib.Core.Path.{◌≡◌, ap, ◌∙◌}
use Rattle.whole.specs.Compare.{min_of}
use Rattle.whole.proofs.Order.{min_of_swapped}
use Rattle.extended.specs.Extended.{int}
use Rattle.extended.proofs.Laws.{on_floats_lem, on_floats_swapped, on_ints_lem, on_ints_swapped}
use Rattle.extended.proofs.min.Goals as goal

pub returns-clause-result : goal.returns-clause-result
returns-clause-result c = on_ints_lem _ _ _ (λ m n h. search rules) (on_floats_lem _ _ _ (λ x y h. search rules)) c.on_numbers.ensures

pub returns-clause-swapped : goal.returns-clause-swapped
returns-clause-swapped c =
    on_ints_swapped _ _ _ (λ m n h. let e : c.on_numbers.result ≡ int (min_of m n) = search rules in e ∙ ap int (min_of_swapped m n)) (on_floats_swapped _ _ _ (λ x y h. search rules)) c.on_numbers.ensures

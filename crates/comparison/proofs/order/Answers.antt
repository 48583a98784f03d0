-- `comparison::order` meets its contract.
use Rattle.std.specs.Prelude.{Option, None, Some}
use lib.IntN.{ℤ}
use mathlib.Core.Path.{◌∙◌, ◌≡◌}
use borrow.Author.Rules.{rules}
use Rattle.comparison.proofs.Laws.{order_as}
use Rattle.comparison.proofs.order.Goals.{in_default-via-in-None-1, in_default-via-in-Some+in-None-1}
use Rattle.comparison.proofs.order.Goals as goal

pub returns : goal.returns
returns c = rw (← order_as, ← c.only_int.ensures, c.in-Some.is, ← c.only_int-2.ensures, c.in-Some-only_int.is) (search rules)

pub returns-2 : goal.returns-2
returns-2 c =
    c.order_floats.ensures
    ∙ elim c.in_default.branch [
      | in_default-via-in-None-1 w ↦ let h : c.only_int.result ≡ None = cc in rw (← order_as, ← c.only_int.ensures, h)
      | in_default-via-in-Some+in-None-1 w ↦ let h : w.only_int-2.result ≡ None = cc in rw (← order_as, ← c.only_int.ensures, w.in-Some.is, ← w.only_int-2.ensures, h)
    ]

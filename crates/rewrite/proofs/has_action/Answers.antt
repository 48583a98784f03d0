-- `rewrite::has_action` meets its contract.
use native.Mathlib.Omega.{arith}
use Rattle.std.proofs.Common.{rules}
use mathlib.Core.Bool.{Bool, false, ◌||◌}
use mathlib.Core.Path.{◌≡◌, refl, sym, ap, ◌∙◌}
use lib.Dec.{eqb}
use lib.ListN.{take}
use Rattle.std.specs.List.{fold}
use Rattle.std.proofs.lemmas.Fn.{fold_over, slice_gives, fronts}
use Rattle.std.proofs.lemmas.List.Sums.{fold_push}
use Rattle.rewrite.proofs.Shapes.{either, none_has, some_has}
use Rattle.rewrite.proofs.has_action.Goals as goal

found_by : (c : goal.After-fold) → c.fold.result ≡ fold (either c.args.action) false (take c.args.nodes c.args.actions.now)
found_by c =
    rw c.iter.ensures.rest at (fold_over fronts (λ y. y.now) _ (λ xs found. found ≡ fold (either c.args.action) false xs) _ (λ xs found x r f' k s. let e : r ≡ (found || eqb x.now c.args.action) = search rules in (e ∙ ap (λ (b : Bool). b || eqb x.now c.args.action) k ∙ sym (fold_push (either c.args.action) false xs x.now), search rules))
    _ _ _ _ (slice_gives c.iter.result) refl c.fold.ensures.ran)

pub returns : goal.returns
returns c =
    record {
      nowhere = none_has c.args.actions.now c.args.nodes c.args.action (omega arith) c.fold.result (found_by c);
      somewhere = some_has c.args.actions.now c.args.nodes c.args.action (omega arith) c.fold.result (found_by c);
    }

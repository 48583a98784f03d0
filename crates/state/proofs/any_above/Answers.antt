-- `state::any_above` meets its contract.
use Rattle.std.proofs.Common.{ℕ, ◌≤◌, ◌≡◌, ◌||◌, List, length, take, arith, rules, ltb}
use Rattle.std.proofs.lemmas.Fn.{fold_over, slice_gives, fronts}
use Rattle.state.proofs.Scans.{Scan, scan_none, scan_more, scan_low, scan_above}
use Rattle.state.proofs.any_above.Goals as goal

pub returns : goal.returns
returns c =
    let bound : ℕ = c.args.bound in
    let bytes : List ℕ = c.args.bytes.now in
    let read =
    fold_over fronts (λ y. y.now) _ (Scan bound) _ (λ xs found x r f' k s. let e : r ≡ (found || ltb bound x.now) = search rules in (rw e (scan_more bound xs x.now k), search rules))
    _ _ _ _ (slice_gives c.iter.result) (scan_none bound) c.fold.ensures.ran
    in
    let s : Scan bound (take c.args.nodes bytes) c.fold.result = rw c.iter.ensures.rest at read in
    let h : c.args.nodes ≤ length bytes = omega arith in
    record { low = scan_low bound c.args.nodes bytes h s; above = scan_above bound c.args.nodes bytes h s }

-- `root::whole_root` meets its contract.
use mathlib.Core.Path.{◌≡◌, sym}
use Prim.Native.Nat.{ℕ, ◌<◌}
use native.Mathlib.Omega.{arith}
use Rattle.root.specs.WholeRoot.{IsWholeRoot}
use Rattle.root.proofs.Shifts.{raised, near_low}
use Rattle.root.proofs.Squares.{floor_of_lem, floor_same, only_root}
use Rattle.root.proofs.Floors.{floor_root}
use Rattle.root.proofs.whole_root.Goals as goal

above_zero : (n : ℕ) → (n ≡ 0 → ⊥) → 0 < n
above_zero n h = omega arith

pub returns-then-n-eq0 : goal.returns-then-n-eq0
returns-then-n-eq0 c =
    let n = c.args.n in
    let h : IsWholeRoot n 0 0 = record { sum = sym c.if-n-eq0.true; bound = omega arith } in
    record { root = h; only = only_root h; largest = floor_same (floor_of_lem h) (floor_root n) }

pub near_root-high-requires : goal.near_root-high-requires
near_root-high-requires c =
    raised c.args.n (above_zero _ c.if-n-eq0.false) c.ranges.n.fits

pub root_at-requires : goal.root_at-requires
root_at-requires c =
    near_low c.args.n (above_zero _ c.if-n-eq0.false) c.ranges.n.fits c.near_root-high.result c.near_root-high.ensures

pub returns : goal.returns
returns c =
    let h = c.root_at.ensures in record { root = h; only = only_root h; largest = floor_same (floor_of_lem h) (floor_root c.args.n) }

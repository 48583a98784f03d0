-- `emit::sharing::share` meets its contract.
use native.Mathlib.Omega.{arith}
use Rattle.emit.proofs.SharedChains.{shared_one}
use Rattle.emit.proofs.sharing.share.Goals as goal

pub offset_bounds-first-target : goal.offset_bounds-first-target
offset_bounds-first-target c = omega (arith, (c.entered.ensures _ c.in-Some.is).low)

pub bounds-first-target : goal.bounds-first-target
bounds-first-target c = (c.entered.ensures _ c.in-Some.is).low

pub returns : goal.returns
returns c = shared_one c.requires.0 c.requires.1 (c.entered.ensures _ c.in-Some.is)

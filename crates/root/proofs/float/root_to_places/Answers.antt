-- `root::float::root_to_places` meets its contract.
use Rattle.root.proofs.float.Places.{division, at_root, below_root}
use Rattle.root.proofs.float.root_to_places.Goals as goal

pub returns-then-digits-over : goal.returns-then-digits-over
returns-then-digits-over c =
    let d = division c.args.n c.root_at-high.result.root c.root_at-high.result.remainder c.requires c.ranges.n.fits c.root_at-high.ensures in
    at_root d c.if-digits-over.true

pub returns-else-digits-over : goal.returns-else-digits-over
returns-else-digits-over c =
    let d = division c.args.n c.root_at-high.result.root c.root_at-high.result.remainder c.requires c.ranges.n.fits c.root_at-high.ensures in
    below_root d c.if-digits-over.false

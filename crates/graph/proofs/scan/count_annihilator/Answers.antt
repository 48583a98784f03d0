-- `graph::scan::count_annihilator` meets its contract.
use lib.ListN.{length-append}
use Rattle.graph.proofs.Added.{member_snoc}
use Rattle.graph.proofs.scan.count_annihilator.Goals as goal

pub returns : goal.returns
returns c = λ g h. rw h (simp (length-append, member_snoc))

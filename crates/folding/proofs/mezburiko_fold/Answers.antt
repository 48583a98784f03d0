-- `folding::mezburiko_fold` meets its contract.
use mathlib.Core.Path.{◌∙◌}
use Rattle.folding.proofs.mezburiko_fold.Goals as goal

pub returns : goal.returns
returns c =
    let N = c.in_numbers.ensures in
    let F = c.fold.ensures in
    record {
      result = N ∙ F.numbers;
      buffer = F.buffer;
      untouched = rw (← N) at F.untouched;
      past = rw (← N) at F.past;
      fits = rw (← N) at F.fits;
      refusals = rw (← N) at F.refusals;
      offset = rw (← N) at F.offset;
      read = rw (← N) at F.read;
      order_free = F.order_free;
      answer = rw (← N) at F.answer;
      pops = rw (← N) at F.pops;
      finite = F.finite;
      clean = F.clean;
      branches = F.branches;
      longest = rw (← N) at F.longest;
      enough = rw (← N) at F.enough;
      waiting = F.waiting;
    }

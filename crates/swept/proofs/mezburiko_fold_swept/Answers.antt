-- `swept::mezburiko_fold_swept` meets its contract.
use mathlib.Core.Path.{◌∙◌}
use Rattle.swept.proofs.mezburiko_fold_swept.Goals as goal

pub returns : goal.returns
returns c =
    let N = c.in_numbers.ensures in
    let F = c.fold_swept.ensures in
    record {
      result = N ∙ F.numbers;
      buffer = F.buffer;
      untouched = rw (← N) at F.untouched;
      past = rw (← N) at F.past;
      fits = rw (← N) at F.fits;
      refusals = rw (← N) at F.refusals;
      offset = rw (← N) at F.offset;
      read = rw (← N) at F.read;
      order_free = F.order_free;
      any_order = F.any_order;
      answer = rw (← N) at F.answer;
      any_run = rw (← N) at F.any_run;
      pops = rw (← N) at F.pops;
      finite = F.finite;
      clean = F.clean;
      branches = F.branches;
      longest = rw (← N) at F.longest;
      enough = rw (← N) at F.enough;
      waiting = F.waiting;
    }

-- `swept::fold_swept` meets its contract.
use Rattle.model.proofs.Branches.{branch_unknown}
use Rattle.folding.proofs.Kept.{numbers_kept, untouched_kept, past_kept, fits_kept, refusals_kept, offset_kept, read_kept, order_kept, answer_kept, pops_kept, finite_kept, longest_kept, enough_kept, waiting_kept}
use Rattle.sweep.specs.Swept.{swept_bytes}
use Rattle.swept.proofs.Kept.{swept_short, any_order_of, any_run, clean_left}
use Rattle.swept.proofs.fold_swept.Goals as goal

pub returns : goal.returns
returns c =
    let A = c.fold_input.ensures in
    record {
      result = A.result;
      numbers = numbers_kept swept_bytes A;
      buffer = A.buffer;
      untouched = untouched_kept swept_bytes A;
      past = past_kept swept_bytes A;
      fits = fits_kept swept_bytes A;
      refusals = refusals_kept swept_bytes A;
      offset = offset_kept swept_bytes A;
      read = read_kept swept_bytes A;
      order_free = order_kept _;
      any_order = any_order_of _;
      answer = answer_kept swept_bytes A;
      any_run = λ h. any_run (answer_kept swept_bytes A h);
      pops = pops_kept swept_bytes A;
      finite = finite_kept _;
      clean = clean_left _;
      branches = branch_unknown _;
      longest = longest_kept swept_bytes A swept_short;
      enough = enough_kept swept_bytes A swept_short;
      waiting = waiting_kept _;
    }

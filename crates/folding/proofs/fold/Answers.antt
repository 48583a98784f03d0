-- `folding::fold` meets its contract.
use Rattle.model.specs.Outcome.{fold_bytes}
use Rattle.model.proofs.Branches.{branch_unknown}
use Rattle.folding.proofs.Kept.{numbers_kept, untouched_kept, past_kept, fits_kept, refusals_kept, offset_kept, read_kept, order_kept, answer_kept, pops_kept, finite_kept, clean_kept, longest_kept, enough_kept, waiting_kept, fold_short}
use Rattle.folding.proofs.fold.Goals as goal

pub returns : goal.returns
returns c =
    let A = c.fold_input.ensures in
    record {
      result = A.result;
      numbers = numbers_kept fold_bytes A;
      buffer = A.buffer;
      untouched = untouched_kept fold_bytes A;
      past = past_kept fold_bytes A;
      fits = fits_kept fold_bytes A;
      refusals = refusals_kept fold_bytes A;
      offset = offset_kept fold_bytes A;
      read = read_kept fold_bytes A;
      order_free = order_kept _;
      answer = answer_kept fold_bytes A;
      pops = pops_kept fold_bytes A;
      finite = finite_kept _;
      clean = clean_kept _;
      branches = branch_unknown _;
      longest = longest_kept fold_bytes A fold_short;
      enough = enough_kept fold_bytes A fold_short;
      waiting = waiting_kept _;
    }

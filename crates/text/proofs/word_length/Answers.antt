-- `text::word_length` meets its contract.
use native.Mathlib.Omega.{arith}
use Rattle.text.proofs.Lengths.{by_zeros}
use Rattle.text.proofs.word_length.Goals as goal

pub returns : goal.returns
returns c = (by_zeros _ (omega arith), omega arith)

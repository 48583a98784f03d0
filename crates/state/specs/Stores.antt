-- What storing a value and a plan of node n does to the arrays.
use Rattle.std.specs.Prelude.{ℕ, ◌≡◌, cond, List, eqb, get_or, set}
use Rattle.value.specs.declared.Value.{Value}
use Rattle.encoding.specs.Values.{kind_of}
use Rattle.model.specs.Arrays.{store_words}
use Rattle.encoding.specs.Words.{held_by}
use Rattle.encoding.specs.declared.words.Words.{Words}

-- the arrays after value v of node n was stored in them
pub record Learnt (v : Value) (n : ℕ) (kinds words kinds-after words-after : List ℕ) : Type 0 where
  pub held : Words
  pub back : held_by (kind_of v) held ≡ v
  pub kind_set : kinds-after ≡ set kinds n (kind_of v)
  pub words_set : words-after ≡ store_words words n held.a held.b held.c held.d

-- the entry of node n set, where nothing is planned of it
unfoldable pub planned : List ℕ → ℕ → List ℕ → ℕ → List ℕ
planned actions n xs x = cond (eqb (get_or actions n 0) 0) (set xs n x) xs

pub record Planned (n action detail : ℕ) (actions details actions-after details-after : List ℕ) : Type 0 where
  pub action_set : actions-after ≡ planned actions n actions action
  pub detail_set : details-after ≡ planned actions n details detail

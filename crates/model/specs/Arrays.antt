-- How arrays stand for the waiting nodes, and the words of an entry.
use Rattle.std.specs.Prelude.{ℕ, zero, suc, ◌+◌, ◌*◌, ◌%◌, List, [], ◌∷◌, ◌++◌, get_or, set}
use Rattle.model.specs.Worklist.{queue_places}

-- the first k waiting nodes, where the front is at `head` and places are taken round and round
unfoldable pub queue_of : List ℕ → ℕ → ℕ → List ℕ
queue_of places head zero = []
queue_of places head (suc k) = queue_of places head k ++ (get_or places ((head + k) % queue_places) 0 ∷ [])

-- the words with those of entry m set
unfoldable pub store_words : List ℕ → ℕ → ℕ → ℕ → ℕ → ℕ → List ℕ
store_words words m a b c d = set (set (set (set words (4 * m) a) (4 * m + 1) b) (4 * m + 2) c) (4 * m + 3) d

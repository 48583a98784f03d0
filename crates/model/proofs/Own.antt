-- With nothing set, nodes are by themselves what the graph's Literals are.
use Rattle.std.specs.Prelude.{Option, None, Some}
use mathlib.Core.Path.{◌≡◌, refl, ap, ◌∙◌, fun_ext}
use mathlib.Core.Bool.{Bool, true, false, cond}
use mathlib.Core.List.{List}
use Prim.Native.Nat.{ℕ, zero, suc}
use lib.ListN.{get_or, replicate}
use Rattle.value.specs.declared.Value.{Value}
use Rattle.graph.specs.Graph.{Graph}
use Rattle.model.specs.Maps.{or_else}
use Rattle.model.specs.Offer.{literals}
use Rattle.model.specs.Own.{set_nothing, is_free_input, setting_of, own_of}

pub own_none : (g : Graph) (own : List ℕ) → ((n : ℕ) → get_or own n set_nothing ≡ set_nothing) → own_of g own ≡ literals g
unfolding own_of or_else
own_none g own h = fun_ext (λ n. at n)
  where
    alone : (o : Option Value) (b : Bool) → or_else o (cond b None None) ≡ o
    alone None true = refl
    alone None false = refl
    alone (Some v) b = refl

    at : (n : ℕ) → own_of g own n ≡ literals g n
    at n = ap (λ (s : ℕ). or_else (literals g n) (cond (is_free_input g n) (setting_of s) None)) (h n) ∙ alone (literals g n) (is_free_input g n)

-- an array in which nothing is set
pub own_zeros : (g : Graph) (k : ℕ) → own_of g (replicate k set_nothing) ≡ literals g
own_zeros g k = own_none g (replicate k set_nothing) (at k)
  where
    at : (k n : ℕ) → get_or (replicate k set_nothing) n set_nothing ≡ set_nothing
    at zero n = refl
    at (suc k) zero = refl
    at (suc k) (suc n) = at k n

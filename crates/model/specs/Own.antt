-- What nodes are by themselves: a graph's Literals, and the inputs that a caller sets (document 02, Wishes 11 and 14).
use Rattle.std.specs.Prelude.{ℕ, Bool, true, false, cond, not, ◌&&◌, List, [], ◌∷◌, eqb, get_or, Option, None, Some}
use Rattle.ir.specs.Classes.{microchip_input}
use Rattle.ir.specs.Flags.{nofold}
use Rattle.ir.specs.Ports.{rer_input}
use Rattle.ir.specs.declared.Wire.{Wire}
use Rattle.value.specs.declared.Value.{Value}
use Rattle.graph.specs.Graph.{Graph}
use Rattle.model.specs.Maps.{Map, or_else}
use Rattle.model.specs.Inputs.{node_of, feeds}
use Rattle.model.specs.Offer.{literals}

abbrev pub unwired : List Wire → Bool
unwired [] = true
unwired (w ∷ ws) = false

-- "MicrochipInput with no wire at RerInput and without nofold"
unfoldable pub is_free_input : Graph → ℕ → Bool
is_free_input g n = not (nofold (node_of g n).flags) && (eqb (node_of g n).class microchip_input && unwired (feeds g n rer_input))

-- what a free input may be set to, as a number: nothing, false or true
abbrev pub set_nothing : ℕ
set_nothing = 0

abbrev pub set_false : ℕ
set_false = 1

abbrev pub set_true : ℕ
set_true = 2

-- what it is then; another number sets nothing
abbrev pub setting_of : ℕ → Option Value
setting_of setting = cond (eqb setting set_false) (Some (Value.Bool false)) (cond (eqb setting set_true) (Some (Value.Bool true)) None)

-- what the nodes are by themselves, with a setting for each: a Literal its Value, a free input what it is set to, "known once it is tried, as a Literal is";
-- of a nofold node it plays no part, since its trial offers nothing
unfoldable pub own_of : Graph → List ℕ → Map Value
own_of g own n = or_else (literals g n) (cond (is_free_input g n) (setting_of (get_or own n set_nothing)) None)

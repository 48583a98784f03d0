-- Document 01, "Records": "one kind byte, then a body of fixed length".
use Rattle.std.specs.Prelude.{ℕ, List, [], ◌∷◌, get_or}
use Rattle.ir.specs.declared.Role.{Role}
use Rattle.ir.specs.declared.Role.TheVariants.{Unlisted, Node, Wire, Property, Row, Annihilator}

-- what the records of a kind say, and how many bytes their bodies have
pub record Kind : Type 0 where
  pub role : Role
  pub body : ℕ

abbrev kind : Role → ℕ → Kind
kind r n = record { role = r; body = n }

abbrev pub unlisted : Kind
unlisted = kind Unlisted 0

-- by the kind byte, from 00, which is no kind; 03 to 09 are Int to Color, 0C is text
abbrev pub kinds : List Kind
kinds =
    unlisted
    ∷ kind Node 2
    ∷ kind Wire 6
    ∷ kind Property 11
    ∷ kind Property 11
    ∷ kind Property 4
    ∷ kind Property 27
    ∷ kind Property 27
    ∷ kind Property 35
    ∷ kind Property 35
    ∷ kind Row 4
    ∷ kind Annihilator 1
    ∷ kind Property 20
    ∷ []

abbrev pub role_of : ℕ → Role
role_of k = (get_or kinds k unlisted).role

abbrev pub body_of : ℕ → ℕ
body_of k = (get_or kinds k unlisted).body

-- "0C text"
abbrev pub text_kind : ℕ
text_kind = 12

-- Document 01's starred cases, by class number: operands and what the gate gives.
use Rattle.std.specs.Prelude.{ℕ, ◌^◌, ◌≡◌, List, [], ◌∷◌, ℤ, pos, neg_ℤ, Option, None, Some}
use Rattle.std.specs.Float.{binary64}
use Rattle.std.specs.Float.Ieee.{of_bits}
use Rattle.value.specs.declared.Value.{Value}
use Rattle.semantics.specs.Eval.{eval_of}

-- an Int, and a float by its IEEE 754 bits
abbrev int : ℤ → Value
int n = Value.Int n

abbrev float : ℕ → Value
float bits = Value.Float (of_bits binary64 bits)

pub record Case : Type 0 where
  pub class : ℕ
  pub first : Option Value
  pub second : Option Value
  pub gives : Option Value

abbrev of_two : ℕ → Value → Value → Option Value → Case
of_two n a b r = record { class = n; first = Some a; second = Some b; gives = r }

abbrev of_one : ℕ → Value → Option Value → Case
of_one n a r = record { class = n; first = Some a; second = None; gives = r }

abbrev smallest : ℤ
smallest = neg_ℤ (pos (2 ^ 63))

abbrev pub starred : List Case
starred =
    -- Divide Int 7 by 0: Int 0
    of_two 21 (int (pos 7)) (int (pos 0)) (Some (int (pos 0)))
    -- Divide smallest Int by -1: None
    ∷ of_two 21 (int smallest) (int (neg_ℤ (pos 1))) None
    -- Int 2^53 + Float 1: Float 2^53
    ∷ of_two 18 (int (pos 9007199254740992)) (float 0x3ff0_0000_0000_0000) (Some (float 0x4340_0000_0000_0000))
    -- Int 2^53+1 + Float 1: None
    ∷ of_two 18 (int (pos 9007199254740993)) (float 0x3ff0_0000_0000_0000) None
    -- Modulo -7.0, 3.0: None
    ∷ of_two 22 (float 0xc01c_0000_0000_0000) (float 0x4008_0000_0000_0000) None
    -- Modulo -6.0, 3.0: -0.0
    ∷ of_two 22 (float 0xc018_0000_0000_0000) (float 0x4008_0000_0000_0000) (Some (float 0x8000_0000_0000_0000))
    -- ModuloFloored -7, 3: 2.0
    ∷ of_two 29 (int (neg_ℤ (pos 7))) (int (pos 3)) (Some (float 0x4000_0000_0000_0000))
    -- Left 1 by 63: smallest Int
    ∷ of_two 39 (int (pos 1)) (int (pos 63)) (Some (int smallest))
    -- Left by 64: None
    ∷ of_two 39 (int (pos 1)) (int (pos 64)) None
    -- BitCount -1: 64
    ∷ of_one 41 (int (neg_ℤ (pos 1))) (Some (int (pos 64)))
    -- Round 2.5: 3.0
    ∷ of_one 30 (float 0x4004_0000_0000_0000) (Some (float 0x4008_0000_0000_0000))
    ∷ []

-- "The starred cases are proved about the gate rules as one table and theorem": the rule gives what each case of the list says
abbrev pub AllHold : List Case → Type 0
AllHold [] = Unit {0}
AllHold (c ∷ cs) = (eval_of c.class c.first c.second None ≡ c.gives) × AllHold cs

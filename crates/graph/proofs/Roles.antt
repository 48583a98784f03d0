-- What the table of kinds says of each role: which kinds it has, and how long their records are.
use Prim.Native.Nat.{ℕ, zero, suc, ◌+◌, ◌≤◌, ◌<◌}
use native.Mathlib.Omega.{arith}
use native.Mathlib.Decide.{dec_lt}
use native.Mathlib.Nat.{add-zero, zero-add, add-suc, suc-add}
use mathlib.Core.Path.{◌≡◌, refl, ap, subst}
use mathlib.Core.Bool.{Bool, true, ◌&&◌}
use mathlib.Core.List.{List, [], ◌∷◌}
use lib.ListN.{length, get_or, get_or-eq_default}
use lib.Dec.{leb, eqb}
use borrow.Author.Tests.{leb-true, eqb-true}
use Rattle.std.proofs.lemmas.Bool.{and_parts}
use Rattle.ir.specs.Kinds.{Kind, kinds, unlisted, role_of, body_of}
use Rattle.ir.specs.declared.Role.{Role}
use Rattle.ir.specs.declared.Role.TheVariants.{Unlisted, Node, Wire, Property, Row, Annihilator}
use Rattle.graph.specs.Layout.{size_of, size_by}

pub and_left : (a b : Bool) → (a && b) ≡ true → a ≡ true
and_left a b e = (and_parts a b e).0

pub and_right : (a b : Bool) → (a && b) ≡ true → b ≡ true
and_right a b e = (and_parts a b e).1

-- the rule of an entry
abbrev rule : ℕ → Role → ℕ → Bool
rule k Unlisted body = true
rule k Node body = eqb k 1 && eqb body 2
rule k Wire body = eqb k 2 && eqb body 6
rule k Property body = leb 4 body
rule k Row body = eqb k 10 && eqb body 4
rule k Annihilator body = eqb k 11 && eqb body 1

abbrev every : ℕ → List Kind → Bool
every i [] = true
every i (x ∷ xs) = rule i x.role x.body && every (suc i) xs

from : (xs : List Kind) (i : ℕ) → every i xs ≡ true → (k : ℕ) → k < length xs → rule (i + k) (get_or xs k unlisted).role (get_or xs k unlisted).body ≡ true
from [] i t k h = absurd (omega arith)
from (x ∷ xs) i t zero h = rw add-zero (and_left (rule i x.role x.body) (every (suc i) xs) t)
from (x ∷ xs) i t (suc k) h =
    rw (add-suc, ← suc-add) (from xs (suc i) (and_right (rule i x.role x.body) (every (suc i) xs) t) k (omega arith))

ruled : (k : ℕ) → rule k (role_of k) (body_of k) ≡ true
ruled k = pick (dec_lt k 13)
  where
    pick : Dec (k < 13) → rule k (role_of k) (body_of k) ≡ true
    pick (yes h) = rw zero-add at (from kinds 0 refl k h)
    pick (no h) = rw (get_or-eq_default kinds unlisted {n = k} (omega arith))

by_role : (k : ℕ) {r : Role} → role_of k ≡ r → rule k r (body_of k) ≡ true
by_role k e = subst (λ (r : Role). rule k r (body_of k) ≡ true) e (ruled k)

-- the kind and the size of the records of a role
pub record Of (k kind size : ℕ) : Type 0 where
  pub same : k ≡ kind
  pub long : size_of k ≡ size

of : (k kind body : ℕ) → (eqb k kind && eqb (body_of k) body) ≡ true → Of k kind (1 + body)
of k kind body e =
    record {
      same = eqb-true k kind (and_left (eqb k kind) _ e);
      long = ap (λ (n : ℕ). 1 + n) (eqb-true (body_of k) body (and_right (eqb k kind) _ e));
    }

pub node_kind : (k : ℕ) → role_of k ≡ Node → Of k 1 3
node_kind k e = of k 1 2 (by_role k e)

pub wire_kind : (k : ℕ) → role_of k ≡ Wire → Of k 2 7
wire_kind k e = of k 2 6 (by_role k e)

pub row_kind : (k : ℕ) → role_of k ≡ Row → Of k 10 5
row_kind k e = of k 10 4 (by_role k e)

pub annihilator_kind : (k : ℕ) → role_of k ≡ Annihilator → Of k 11 2
annihilator_kind k e = of k 11 1 (by_role k e)

-- a record is at least as long as its role says
pub size_by_lem : (k : ℕ) → size_by (role_of k) ≤ size_of k
size_by_lem k = pick (role_of k) refl
  where
    pick : (r : Role) → role_of k ≡ r → size_by r ≤ size_of k
    pick Unlisted e = omega arith
    pick Node e = omega (arith, (node_kind k e).long)
    pick Wire e = omega (arith, (wire_kind k e).long)
    pick Property e =
        omega (arith, leb-true 4 (body_of k) (by_role k e))
    pick Row e = omega (arith, (row_kind k e).long)
    pick Annihilator e = omega (arith, (annihilator_kind k e).long)

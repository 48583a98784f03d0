-- The first `no` of a list of questions, and what a record that answers each with yes tells.
use Prim.Native.Nat.{ℕ, ◌+◌, ◌≤◌}
use native.Mathlib.Omega.{arith}
use mathlib.Core.Path.{◌≡◌, refl, sym, ap, ap₂, ◌∙◌}
use mathlib.Core.Bool.{Bool, true, false, cond, ◌&&◌}
use mathlib.Core.List.{List, [], ◌∷◌}
use lib.ListN.{length}
use lib.Dec.{ltb}
use borrow.Author.Tests.{leb-true, ltb-true, le-leb}
use Rattle.ir.specs.Kinds.{role_of}
use Rattle.ir.specs.declared.Role.{Role}
use Rattle.ir.specs.declared.Role.TheVariants.{Unlisted, Node, Wire, Property, Row, Annihilator}
use Rattle.encoding.specs.Numbers.{byte}
use Rattle.graph.specs.Graph.{Graph, counts_of}
use Rattle.graph.specs.Layout.{role_at, size_at, size_of}
use Rattle.graph.specs.Questions.{Context, Question, questions, first_no, is_kind, is_listed, has_listed_text, orders_no_text, has_nodes, is_first, has_room}
use Rattle.graph.specs.Decode.{refusal_at}
use Rattle.graph.specs.Index.{Held, Next}
use Rattle.graph.specs.declared.Counts.{Counts}
use Rattle.graph.proofs.Roles.{and_left, and_right}

module _ (q : Question) (qs : List Question) (x : Context) where
  pub stops : q.holds x ≡ false → first_no (q ∷ qs) x ≡ q.number
  unfolding first_no
  stops e = ap (λ (b : Bool). cond b (first_no qs x) q.number) e

  pub passes : q.holds x ≡ true → first_no (q ∷ qs) x ≡ first_no qs x
  unfolding first_no
  passes e = ap (λ (b : Bool). cond b (first_no qs x) q.number) e

pub none_left : (x : Context) → first_no [] x ≡ 0
unfolding first_no
none_left x = refl

-- each question is answered with yes
abbrev Holds : List Question → Context → Type 0
Holds [] x = Unit {0}
Holds (q ∷ qs) x = (q.holds x ≡ true) × Holds qs x

abbrev numbered : List Question → Bool
numbered [] = true
numbered (q ∷ qs) = ltb 0 q.number && numbered qs

peel : (b : Bool) (x n : ℕ) → ltb 0 n ≡ true → cond b x n ≡ 0 → (b ≡ true) × (x ≡ 0)
peel true x n h e = (refl, e)
peel false x n h e = absurd (omega (arith, ltb-true 0 n h))

hold : (qs : List Question) (x : Context) → numbered qs ≡ true → first_no qs x ≡ 0 → Holds qs x
unfolding first_no
hold [] x n e = tt
hold (q ∷ qs) x n e =
    let p = peel (q.holds x) (first_no qs x) q.number (and_left (ltb 0 q.number) (numbered qs) n) e in
    (p.0, hold qs x (and_right (ltb 0 q.number) (numbered qs) n) p.1)

-- a record that answers each question with yes
pub record Passed (last : ℕ) (g : Graph) (s : List ℕ) (at : ℕ) : Type 0 where
  pub kind : is_kind (role_at s at) ≡ true
  pub whole : at + size_at s at ≤ length s
  pub listed : is_listed (role_at s at) s at ≡ true
  pub text : has_listed_text s at ≡ true
  pub ordered : orders_no_text (role_at s at) s at ≡ true
  pub rises : last ≤ byte s at
  pub there : has_nodes (length g.nodes) (role_at s at) s at ≡ true
  pub new : is_first g (role_at s at) s at ≡ true
  pub fits : has_room (counts_of g) (role_at s at) ≡ true

pub passed : (last : ℕ) (g : Graph) (s : List ℕ) (at : ℕ) → refusal_at last g s at ≡ 0 → Passed last g s at
unfolding refusal_at
passed last g s at e =
    let h = hold questions (record { input = s; at = at; last = last; graph = g }) refl e in
    record {
      kind = h.0;
      whole = leb-true _ _ h.1.0;
      listed = h.1.1.0;
      text = h.1.1.1.0;
      ordered = h.1.1.1.1.0;
      rises = leb-true _ _ h.1.1.1.1.1.0;
      there = h.1.1.1.1.1.1.0;
      new = h.1.1.1.1.1.1.1.0;
      fits = h.1.1.1.1.1.1.1.1.0;
    }

-- .. and such a record is not refused
pub asked : (last : ℕ) (g : Graph) (s : List ℕ) (at : ℕ) → Passed last g s at → refusal_at last g s at ≡ 0
unfolding refusal_at
asked last g s at p =
    passes _ _ _ p.kind
    ∙ passes _ _ _ (le-leb _ _ p.whole)
    ∙ passes _ _ _ p.listed
    ∙ passes _ _ _ p.text
    ∙ passes _ _ _ p.ordered
    ∙ passes _ _ _ (le-leb _ _ p.rises)
    ∙ passes _ _ _ p.there
    ∙ passes _ _ _ p.new
    ∙ passes _ _ _ p.fits
    ∙ none_left _

listed_kind : (r : Role) (s : List ℕ) (at : ℕ) → is_listed r s at ≡ true → is_kind r ≡ true
listed_kind Unlisted s at e = e
listed_kind Node s at e = refl
listed_kind Wire s at e = refl
listed_kind Property s at e = refl
listed_kind Row s at e = refl
listed_kind Annihilator s at e = refl

-- one more record of a kind
pub next_of : {kind size : ℕ} {role : Role} {c : Counts} {s : List ℕ} {at : ℕ} {table : List ℕ} → role ≡ role_of kind → size ≡ size_of kind → at + size ≤ length s → byte s at ≡ kind → is_listed role s at ≡ true → orders_no_text role s at ≡ true → has_nodes c.nodes role s at ≡ true → has_room c role ≡ true → ((g : Graph) → Held g c s table → is_first g role s at ≡ true) → has_listed_text s at ≡ true → Next kind c s at table
next_of {kind} {size} {role} {c} {s} {at} r z w k l o n f new t =
    let q : role ≡ role_at s at = r ∙ ap role_of (sym k) in
    let long : size_at s at ≡ size_of kind = ap size_of k in
    record {
      kind_byte = k;
      passes = λ g h.
          asked kind g s at
          (record {
            kind = listed_kind (role_at s at) s at (rw q at l);
            whole = omega arith;
            listed = rw q at l;
            text = t;
            ordered = rw q at o;
            rises = omega arith;
            there = rw (h.counts, q) at n;
            new = rw q at (new g h);
            fits = rw (h.counts, q) at f;
          });
      inside = omega arith;
    }

-- .. and back: what the code asks of it
module _ {kind size : ℕ} {role : Role} {c : Counts} {s : List ℕ} {at : ℕ} {table : List ℕ} (r : role ≡ role_of kind) (z : size ≡ size_of kind) (g : Graph) (h : Held g c s table) (n : Next kind c s at table) where
  yes_to_all : Passed kind g s at
  yes_to_all = passed kind g s at (n.passes g h)

  here : role ≡ role_at s at
  here = r ∙ ap role_of (sym n.kind_byte)

  pub next_whole : at + size ≤ length s
  next_whole = omega (arith, yes_to_all.whole, z, ap size_of n.kind_byte)

  four : {a b d e : Bool} → a ≡ true → b ≡ true → d ≡ true → e ≡ true → (((a && b) && d) && e) ≡ true
  four p q u v = rw (p, q, u, v) refl

  pub next_tests : {l t m f : Bool} → l ≡ is_listed role s at → t ≡ orders_no_text role s at → m ≡ has_nodes c.nodes role s at → f ≡ has_room c role → (((l && t) && m) && f) ≡ true
  next_tests p k q u =
      four (p ∙ ap (λ (o : Role). is_listed o s at) here ∙ yes_to_all.listed) (k ∙ ap (λ (o : Role). orders_no_text o s at) here ∙ yes_to_all.ordered)
      (q ∙ ap₂ (λ (k : ℕ) (o : Role). has_nodes k o s at) (ap (λ (d : Counts). d.nodes) h.counts) here ∙ yes_to_all.there)
      (u ∙ ap₂ has_room h.counts here ∙ yes_to_all.fits)

  pub next_first : is_first g role s at ≡ true
  next_first = rw here yes_to_all.new

-- Laws of what the decoder holds on its way: the start, one record further, and the end.
use Prim.Native.Nat.{ℕ, zero, suc, ◌+◌, ◌≤◌, ◌<◌}
use native.Mathlib.Omega.{arith}
use native.Mathlib.Decide.{dec_lt}
use mathlib.Core.Path.{◌≡◌, refl, sym, ap, subst, ◌∙◌}
use mathlib.Core.Bool.{true, false}
use mathlib.Core.List.{List, []}
use lib.ListN.{get_or-eq_default, length, get_or, replicate, length-append, length-replicate, get_or-replicate}
use borrow.Author.Tests.{le-leb, lt-leb, lt-ltb, le-ltb, eq-eqb, ne_eqb, ltb-true}
use Rattle.ir.specs.declared.Role.{Role}
use Rattle.ir.specs.declared.Role.TheVariants.{Unlisted as NoRole, Node as NodeRole, Wire as WireRole, Property as PropertyRole, Row as RowRole, Annihilator as AnnihilatorRole}
use Rattle.ir.specs.Kinds.{role_of}
use Rattle.encoding.specs.Numbers.{byte}
use Rattle.graph.specs.Graph.{Graph, empty, add, lookup, member, texts, counts_of}
use Rattle.graph.specs.Layout.{role_at, size_at, size_of}
use Rattle.graph.specs.Questions.{has_room, is_first}
use Rattle.graph.specs.Decode.{accepted, refused, refusal_at, scan, decode, graph_of}
use Rattle.graph.specs.Refusals.{counts, refusal, reported, number_of}
use Rattle.graph.specs.Index.{entry_value, Indexed, Held, Sound, Next, slot}
use Rattle.graph.specs.declared.Counts.{Counts}
use Rattle.graph.specs.declared.Refusal.{Refusal}
use Rattle.graph.specs.declared.Refusal.TheVariants.{TooLong, UnknownKind, CutOff, Unlisted, OrdersText, OutOfOrder, MissingNode, Repeated, TooMany, Endless, NoSpace}
use Rattle.records.specs.Scanned.{Scanned}
use Rattle.graph.proofs.Asked.{Passed, passed}
use Rattle.graph.proofs.Added.{few_texts}
use Rattle.graph.proofs.Roles.{size_by_lem}

module _ (last : ℕ) (g : Graph) (s : List ℕ) (at : ℕ) where
  pub scan_stop : (fuel : ℕ) → length s ≤ at → scan fuel last g s at ≡ accepted g
  unfolding scan
  scan_stop zero h = refl
  scan_stop (suc f) h = simp (le-ltb at (length s) h)

  module _ (h : at < length s) where
    pub scan_refuse : (fuel : ℕ) → length s ≤ at + fuel → (refusal_at last g s at ≡ 0 → ⊥) → scan fuel last g s at ≡ refused (refusal_at last g s at) at
    unfolding scan
    scan_refuse zero e x = absurd (omega arith)
    scan_refuse (suc f) e x = simp (lt-ltb at (length s) h, ne_eqb (refusal_at last g s at) 0 x)

    pub scan_one : (f : ℕ) → refusal_at last g s at ≡ 0 → scan (suc f) last g s at ≡ scan f (byte s at) (add (role_at s at) g s at) s (at + size_at s at)
    unfolding scan
    scan_one f r = simp (lt-ltb at (length s) h, eq-eqb (refusal_at last g s at) 0 r)

    -- one record further, with fuel enough
    scan_next : (fuel : ℕ) → length s ≤ at + fuel → refusal_at last g s at ≡ 0 → (f : ℕ) × (length s ≤ at + size_at s at + f) × (scan fuel last g s at ≡ scan f (byte s at) (add (role_at s at) g s at) s (at + size_at s at))
    scan_next zero e r = absurd (omega arith)
    scan_next (suc f) e r = (f, omega arith, scan_one f r)

-- the counts that later arithmetic rests on
module _ (g : Graph) (s : List ℕ) (at : ℕ) where
  few_nodes : (r : Role) → has_room (counts_of g) r ≡ true → length g.nodes ≤ 1024 → length (add r g s at).nodes ≤ 1024
  few_nodes NoRole e h = h
  few_nodes NodeRole e h = rw length-append (omega (arith, ltb-true (length g.nodes) 1024 e))
  few_nodes WireRole e h = h
  few_nodes PropertyRole e h = h
  few_nodes RowRole e h = h
  few_nodes AnnihilatorRole e h = h

  few_annihilators : (r : Role) → length (add r g s at).annihilators ≤ length g.annihilators + 1
  few_annihilators NoRole = omega arith
  few_annihilators NodeRole = omega arith
  few_annihilators WireRole = omega arith
  few_annihilators PropertyRole = omega arith
  few_annihilators RowRole = omega arith
  few_annihilators AnnihilatorRole = rw length-append (omega arith)

abbrev zeros : Counts
zeros = record { nodes = 0; wires = 0; properties = 0; texts = 0; rows = 0; annihilators = 0; and_false = false; or_true = false }

abbrev clear : List ℕ
clear = replicate 11264 0

-- no property, and no entry
bare : (s : List ℕ) → Indexed [] s clear
unfolding lookup
bare s =
    record {
      long = length-replicate {A = ℕ} 11264 0;
      says = λ n p a b. ap (entry_value s) (get_or-replicate {A = ℕ} 11264 (slot n p) 0 0 (omega arith));
      stands = λ i h. absurd (omega (arith, nought i));
    }
  where
    nought : (i : ℕ) → get_or clear i 0 ≡ 0
    nought i = pick (dec_lt i 11264)
      where
        pick : Dec (i < 11264) → get_or clear i 0 ≡ 0
        pick (yes h) = get_or-replicate {A = ℕ} 11264 i 0 0 h
        pick (no h) = get_or-eq_default clear 0 {n = i} (omega (arith, length-replicate {A = ℕ} 11264 0))

pub start : (s : List ℕ) → Scanned s clear zeros 0 0
unfolding member texts
start s =
    record {
      graph = empty;
      fuel = length s;
      held = record { counts = refl; indexed = bare s };
      few = omega arith;
      begun = λ h. absurd (omega arith);
      few_annihilators = omega arith;
      inside = omega arith;
      enough = omega arith;
      same = refl;
    }

pub further : (s : List ℕ) (table table' : List ℕ) (c c' : Counts) (last at : ℕ) (i : Scanned s table c last at) → at < length s → refusal_at last i.graph s at ≡ 0 → Held (add (role_at s at) i.graph s at) c' s table' → Scanned s table' c' (byte s at) (at + size_at s at)
further s table table' c c' last at i h r d =
    let p = passed last i.graph s at r in
    let n = scan_next last i.graph s at h i.fuel i.enough r in
    record {
      graph = add (role_at s at) i.graph s at;
      fuel = n.0;
      held = d;
      few = few_nodes i.graph s at (role_at s at) p.fits i.few;
      begun = λ z. omega arith;
      few_annihilators = omega (arith, few_annihilators i.graph s at (role_at s at), i.few_annihilators);
      inside = p.whole;
      enough = n.1;
      same = i.same ∙ n.2;
    }

-- what is asked of one more record of a kind, and what it gives
module _ {s table : List ℕ} {c : Counts} {role : Role} {kind size at : ℕ} (r : role ≡ role_of kind) (z : size ≡ size_of kind) (i : Scanned s table c kind at) (n : Next kind c s at table) where
  passes : Passed kind i.graph s at
  passes = passed kind i.graph s at (n.passes i.graph i.held)

  pub role_here : role ≡ role_at s at
  role_here = r ∙ ap role_of (sym n.kind_byte)

  pub whole_here : at + size_at s at ≤ length s
  whole_here = passes.whole

  pub size_here : at + size ≡ at + size_at s at
  size_here = ap (λ (m : ℕ). at + m) (z ∙ ap size_of (sym n.kind_byte))

  pub sound_here : Sound c.nodes role s at
  sound_here =
      rw role_here
      (record {
        whole = omega (arith, whole_here, size_by_lem (byte s at));
        listed = passes.listed;
        there = rw i.held.counts passes.there;
        few = rw i.held.counts i.few;
      })

  pub room_here : has_room c role ≡ true
  room_here = rw (role_here, i.held.counts) passes.fits

  pub new_here : is_first i.graph role s at ≡ true
  new_here = rw role_here passes.new

  pub begun_here : 0 < c.nodes → 0 < at
  begun_here = rw i.held.counts i.begun

  pub few_here : c.annihilators ≤ length s
  few_here = rw i.held.counts (omega (arith, i.few_annihilators, i.inside))

  pub few_texts_here : c.texts ≤ c.properties
  few_texts_here = rw i.held.counts (few_texts i.graph.properties)

  pub one_more : {table' : List ℕ} {c' : Counts} → c' ≡ counts_of (add role i.graph s at) → Indexed (add role i.graph s at).properties s table' → Scanned s table' c' kind (at + size)
  one_more {table'} {c'} e d =
      let h : Held (add (role_at s at) i.graph s at) c' s table' = record { counts = rw role_here at e; indexed = rw role_here at d } in
      rw size_here (subst (λ (k : ℕ). Scanned s table' c' k (at + size_at s at)) n.kind_byte (further s table table' c c' kind at i n.inside (n.passes i.graph i.held) h))

module _ (s : List ℕ) (small : length s ≤ 65536) where
  decode_scan : decode s ≡ scan (length s) 0 empty s 0
  unfolding decode
  decode_scan = simp (le-leb (length s) 65536 small)

  module _ (table : List ℕ) (c : Counts) (last at : ℕ) (i : Scanned s table c last at) where
    module _ (h : at < length s) (n p : ℕ) (e : n ≡ refusal_at last i.graph s at) (x : 0 < n) (w : p ≡ at) where
      refuses : decode s ≡ refused n p
      refuses =
          decode_scan ∙ i.same ∙ scan_refuse last i.graph s at h i.fuel i.enough (λ z. absurd (omega arith)) ∙ rw (← e, ← w) refl

      pub reports_refused : (refusal n p ≡ reported (decode s)) × Indexed (graph_of s).properties s clear
      unfolding graph_of
      reports_refused = (ap reported (sym refuses), rw refuses (bare s))

    module _ (h : length s ≤ at) where
      accepts : decode s ≡ accepted i.graph
      accepts = decode_scan ∙ i.same ∙ scan_stop last i.graph s at i.fuel h

      pub reports_accepted : (counts c ≡ reported (decode s)) × Indexed (graph_of s).properties s table
      unfolding graph_of
      reports_accepted = (ap counts i.held.counts ∙ ap reported (sym accepts), rw accepts i.held.indexed)

pub reports_long : (s : List ℕ) → 65536 < length s → (refusal 1 0 ≡ reported (decode s)) × Indexed (graph_of s).properties s clear
unfolding decode graph_of
reports_long s h = simp (lt-leb (length s) 65536 h) (refl, bare s)

pub positive : (r : Refusal) → 0 < number_of r
positive TooLong = omega arith
positive (UnknownKind at) = omega arith
positive (CutOff at) = omega arith
positive (Unlisted at) = omega arith
positive (OrdersText at) = omega arith
positive (OutOfOrder at) = omega arith
positive (MissingNode at) = omega arith
positive (Repeated at) = omega arith
positive (TooMany at) = omega arith
positive (Endless at) = omega arith
positive NoSpace = omega arith

-- What is asked of the fold with the stage beyond the demands on every entry.
use Rattle.std.specs.Prelude.{Option, None, Some}
use mathlib.Core.Path.{◌≡◌, sym, ap, ap₂, ◌∙◌, fun_ext}
use mathlib.Core.Bool.{Bool, true, false, not}
use mathlib.Core.List.{List, [], ◌∷◌, ◌++◌}
use Prim.Native.Nat.{ℕ, zero, suc, ◌≤◌}
use native.Mathlib.Omega.{arith}
use lib.ListN.{length, length-append}
use Rattle.ir.specs.declared.Wire.{Wire}
use Rattle.encoding.specs.Numbers.{bytes_of}
use Rattle.encoding.specs.Wires.{wire_bytes}
use Rattle.graph.specs.Graph.{Graph}
use Rattle.model.specs.Maps.{keep, up_to, All}
use Rattle.model.specs.Inputs.{size}
use Rattle.model.specs.Offer.{PlanAction, BecomeLiteral, ShortCircuit, Truncate}
use Rattle.model.specs.Trial.{State}
use Rattle.model.specs.Answer.{each, known_bytes, fate_bytes, answer}
use Rattle.model.specs.Demands.{fold_of, plan_of, Clean}
use Rattle.model.proofs.Lists.{length_keep, count_length, all_weaken, all_keep}
use Rattle.model.proofs.Each.{each_size, wires_size}
use Rattle.folding.specs.Demands.{AnswerBy}
use Rattle.folding.proofs.Kept.{Short, fold_short, clean_kept}
use Rattle.sweep.specs.Eligible.{eligible}
use Rattle.sweep.specs.Removals.{Left, left_by, wires_left, AnyOrder}
use Rattle.sweep.specs.Swept.{swept_fate, swept_answer, taken_of, swept_bytes}
use Rattle.sweep.proofs.Marks.{eligible_within}
use Rattle.sweep.proofs.Orders.{any_order}
use Rattle.swept.specs.Demands.{RunOf, run_bytes, AnyOrderOf, AnyRun, CleanLeft}

-- ---- no answer is longer than without the stage

fate_shorter : (b : Bool) (i : ℕ) (p : Option PlanAction) → length (swept_fate b i p) ≤ length (fate_bytes i p)
unfolding swept_fate fate_bytes bytes_of
fate_shorter false i p = omega arith
fate_shorter true i None = omega arith
fate_shorter true i (Some (BecomeLiteral v)) = omega arith
fate_shorter true i (Some (ShortCircuit s)) = omega arith
fate_shorter true i (Some (Truncate ts)) = omega arith

each_shorter : (f h : ℕ → List ℕ) → ((i : ℕ) → length (f i) ≤ length (h i)) → (n : ℕ) → length (each f (up_to n)) ≤ length (each h (up_to n))
unfolding up_to each
each_shorter f h l zero = omega arith
each_shorter f h l (suc n) = omega (arith, each_shorter f h l n, l n, each_size f n, each_size h n)

swept_shorter : (n : ℕ) (s : State) (taken : ℕ → Bool) (ws : List Wire) → length (swept_answer n s taken (wires_left taken ws)) ≤ length (answer n s ws)
unfolding swept_answer answer
swept_shorter n s taken ws =
    let known : List ℕ = each (λ i. known_bytes i (s.known i)) (up_to n) in
    let fates : List ℕ = each (λ i. fate_bytes i (s.plan i)) (up_to n) in
    let swept : List ℕ = each (λ i. swept_fate (taken i) i (s.plan i)) (up_to n) in
    let few : length (wires_left taken ws) ≤ length ws = omega (arith, length_keep (λ w. not (taken w.target.node_id)) ws, count_length (λ w. not (taken w.target.node_id)) ws) in
    omega (
      arith,
      few,
      each_shorter (λ i. swept_fate (taken i) i (s.plan i)) (λ i. fate_bytes i (s.plan i)) (λ i. fate_shorter (taken i) i (s.plan i)) n,
      length-append (known ++ swept) (each wire_bytes (wires_left taken ws)),
      length-append known swept,
      length-append (known ++ fates) (each wire_bytes ws),
      length-append known fates,
      wires_size (wires_left taken ws),
      wires_size ws,
    )

pub swept_short : Short swept_bytes
swept_short g b ws e few = omega (arith, swept_shorter (size g) (fold_of g).state (taken_of g (plan_of g) ws) ws, fold_short g b ws e few)

-- ---- any order of removal

order_of : (g : Graph) (ws : List Wire) → AnyOrder (eligible g (plan_of g)) (size g) ws
order_of g ws = any_order (eligible g (plan_of g)) ws (size g) (eligible_within g (plan_of g))

run_bytes_lem : (g : Graph) (ws : List Wire) (r : RunOf g ws) → swept_bytes g (fold_of g).state ws ≡ run_bytes g ws r
unfolding left_by
run_bytes_lem g ws r =
    ap₂ (swept_answer (size g) (fold_of g).state) (fun_ext (λ n. sym ((order_of g ws).taken r n))) (sym (ap (λ (l : Left). l.wires) ((order_of g ws).left r)))

pub any_order_of : (g : Graph) → AnyOrderOf g
any_order_of g ws e = record { order = order_of g ws; bytes = run_bytes_lem g ws }

pub any_run : {g : Graph} {written : List ℕ} → AnswerBy swept_bytes g written → AnyRun g written
any_run {g} A = record { wires = A.wires; rewritten = A.rewritten; run = (order_of g A.wires).runs; is = λ r. A.is ∙ run_bytes_lem g A.wires r }

-- ---- the wires that are left

all_both : {A : Type 0} (P Q : A → Type 0) (xs : List A) → All P xs → All Q xs → All (λ x. P x × Q x) xs
all_both P Q [] p q = tt
all_both P Q (x ∷ xs) p q = ((p.0, q.0), all_both P Q xs p.1 q.1)

pub clean_left : (g : Graph) → CleanLeft g
clean_left g ws e =
    all_weaken (λ w. (Clean (plan_of g) w × (stays w ≡ true)) × Untaken w) (λ w. Clean (plan_of g) w × (taken w.source.node_id ≡ false) × (taken w.target.node_id ≡ false)) (λ w h. (h.0.0, h.1.0, h.1.1)) (keep stays ws)
    (all_both (λ w. Clean (plan_of g) w × (stays w ≡ true)) Untaken (keep stays ws) (all_keep (Clean (plan_of g)) stays ws (clean_kept g ws e)) (order_of g ws).clean)
  where
    taken : ℕ → Bool
    taken = taken_of g (plan_of g) ws

    stays : Wire → Bool
    stays w = not (taken w.target.node_id)

    Untaken : Wire → Type 0
    Untaken w = (taken w.source.node_id ≡ false) × (taken w.target.node_id ≡ false)

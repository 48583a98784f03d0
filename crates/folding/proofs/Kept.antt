-- The demands on an entry follow from its result and buffer, or hold of every graph.
use Rattle.std.specs.Prelude.{Some, Ok, Err}
use mathlib.Core.Path.{◌≡◌, refl, sym, ap, ap₂, ◌∙◌, subst, subst₂}
use mathlib.Core.List.{List, ◌++◌}
use mathlib.Core.Logic.{◌⊎◌, inl, inr}
use lib.Seq.{take-append_seam, drop-append_seam}
use Prim.Native.Nat.{ℕ, ◌<◌, ◌≤◌}
use native.Mathlib.Omega.{arith}
use native.Mathlib.Decide.{dec_lt}
use lib.ListN.{length, take, drop}
use Rattle.graph.specs.Graph.{Graph}
use Rattle.graph.specs.Decode.{accepted, decode, graph_of}
use Rattle.records.proofs.Laid.{wire_says, few_nodes, bounded}
use Rattle.model.specs.Inputs.{size}
use Rattle.model.specs.Offer.{literals}
use Rattle.model.specs.Trial.{State}
use Rattle.ir.specs.Limits.{max_wires, max_answer}
use Rattle.ir.specs.declared.Wire.{Wire}
use Rattle.records.specs.Access.{Bounded}
use Rattle.model.specs.Worklist.{after, Waiting}
use Rattle.model.specs.Rewrite.{rewrite_wires}
use Rattle.model.specs.Outcome.{wire_offset, Result, folds, refuses, Numbers, numbers_of, written, outcome_by, fold_bytes}
use Rattle.model.specs.Demands.{fold_of, plan_of, RefusedBy, FirstEndless}
use Rattle.model.proofs.QueueLength.{waiting}
use Rattle.model.proofs.Order.{order, work_ends, work_pops}
use Rattle.model.proofs.AnswerLength.{answer_size}
use Rattle.model.proofs.Finite.{planned_finite}
use Rattle.model.proofs.CleanWires.{rewritten_clean}
use Rattle.model.proofs.Refusals.{refusals, refusal_number}
use Rattle.model.proofs.Folding.{Folding, graph_of_lem, folds_folding}
use Rattle.model.proofs.Decoded.{refused_number}
use Rattle.folding.specs.Entry.{Returned, IsCase, numbers, Answers}
use Rattle.folding.specs.Demands.{RefusalsBy, EndlessAt, Accepted, OrderFree, AnswerBy, PopsOf, FinitePlan, CleanWires, TooManyWires}

-- an entry writes no more than `max_answer` bytes
abbrev pub Short : (Graph → State → List Wire → List ℕ) → Type 0
Short bytes = (g : Graph) → Bounded g.wires (size g) → (ws : List Wire) → rewrite_wires (plan_of g) (size g) g.wires ≡ Some ws → length ws ≤ max_wires → length (bytes g (fold_of g).state ws) ≤ max_answer

pub fold_short : Short fold_bytes
fold_short g = answer_size (literals g) g

module _ (bytes : Graph → State → List Wire → List ℕ) {input before after : List ℕ} {r : Returned} (A : Answers (outcome_by bytes) input before after r) where
  abbrev room : ℕ
  room = length before

  case_numbers : (o : Result) (x : Returned) → IsCase o x → numbers x ≡ numbers_of o
  unfolding numbers_of
  case_numbers (folds a k) (Ok x) e = ap₂ (λ (l m : ℕ). record { number = 0; place = 0; length = l; pops = m }) e.0 e.1
  case_numbers (folds a k) (Err x) e = absurd e
  case_numbers (refuses n p) (Ok x) e = absurd e
  case_numbers (refuses n p) (Err x) e = ap₂ (λ (m q : ℕ). record { number = m; place = q; length = 0; pops = 0 }) e.0 e.1

  pub numbers_kept : numbers r ≡ numbers_of (outcome_by bytes input room)
  numbers_kept = case_numbers (outcome_by bytes input room) r A.result

  -- ---- the buffer

  pub untouched_kept : 1 ≤ (numbers r).number → after ≡ before
  unfolding numbers_of written
  untouched_kept l = go (outcome_by bytes input room) refl
    where
      go : (o : Result) → outcome_by bytes input room ≡ o → after ≡ before
      go (folds a k) e = absurd (omega (arith, l, ap (λ (m : Numbers). m.number) (numbers_kept ∙ ap numbers_of e)))
      go (refuses n p) e = A.buffer ∙ ap (λ (o : Result). written o before) e

  pub past_kept : drop (numbers r).length after ≡ drop (numbers r).length before
  unfolding numbers_of written
  past_kept = go (outcome_by bytes input room) refl
    where
      go : (o : Result) → outcome_by bytes input room ≡ o → drop (numbers r).length after ≡ drop (numbers r).length before
      go (folds a k) e =
          let x : (numbers r).length ≡ length a = ap (λ (m : Numbers). m.length) (numbers_kept ∙ ap numbers_of e) in
          rw x (ap (drop (length a)) (A.buffer ∙ ap (λ (o : Result). written o before) e) ∙ drop-append_seam a (drop (length a) before))
      go (refuses n p) e = ap (drop (numbers r).length) (A.buffer ∙ ap (λ (o : Result). written o before) e)

  -- ---- the length

  pub fits_kept : (numbers r).length ≤ room
  unfolding numbers_of
  fits_kept = go (outcome_by bytes input room) refl
    where
      go : (o : Result) → outcome_by bytes input room ≡ o → (numbers r).length ≤ room
      go (folds a k) e = omega (arith, (folds_folding bytes input a k room e).fits, ap (λ (m : Numbers). m.length) (numbers_kept ∙ ap numbers_of e))
      go (refuses n p) e = omega (arith, ap (λ (m : Numbers). m.length) (numbers_kept ∙ ap numbers_of e))

  pub longest_kept : Short bytes → (numbers r).length ≤ max_answer
  unfolding numbers_of size
  longest_kept short = go (outcome_by bytes input room) refl
    where
      go : (o : Result) → outcome_by bytes input room ≡ o → (numbers r).length ≤ max_answer
      go (folds a k) e =
          let F = folds_folding bytes input a k room e in
          omega (arith, short (graph_of input) (bounded input) F.ws F.rewritten F.few, ap length F.bytes, ap (λ (m : Numbers). m.length) (numbers_kept ∙ ap numbers_of e))
      go (refuses n p) e = omega (arith, ap (λ (m : Numbers). m.length) (numbers_kept ∙ ap numbers_of e))

  -- ---- demand 1

  numbers_refuse : (n p : ℕ) → 1 ≤ n → (numbers r).number ≡ n → (numbers r).place ≡ p → (o : Result) → outcome_by bytes input room ≡ o → outcome_by bytes input room ≡ refuses n p
  unfolding numbers_of
  numbers_refuse n p l a b (folds x k) q = absurd (omega (arith, a, ap (λ (m : Numbers). m.number) (numbers_kept ∙ ap numbers_of q)))
  numbers_refuse n p l a b (refuses m o) q =
      q ∙ ap₂ refuses (sym (ap (λ (m : Numbers). m.number) (numbers_kept ∙ ap numbers_of q)) ∙ a) (sym (ap (λ (m : Numbers). m.place) (numbers_kept ∙ ap numbers_of q)) ∙ b)

  refuse_numbers : (n p : ℕ) → outcome_by bytes input room ≡ refuses n p → ((numbers r).number ≡ n) × ((numbers r).place ≡ p)
  unfolding numbers_of
  refuse_numbers n p q = (ap (λ (m : Numbers). m.number) (numbers_kept ∙ ap numbers_of q), ap (λ (m : Numbers). m.place) (numbers_kept ∙ ap numbers_of q))

  given : (o : Result) → outcome_by bytes input room ≡ o → ((numbers r).number ≤ 10) ⊎ ((numbers r).number ≡ 12)
  unfolding numbers_of
  given (folds x k) q = inl (omega (arith, ap (λ (m : Numbers). m.number) (numbers_kept ∙ ap numbers_of q)))
  given (refuses n p) q = rw (ap (λ (m : Numbers). m.number) (numbers_kept ∙ ap numbers_of q)) (refusal_number bytes input room n p q).1

  pub refusals_kept : RefusalsBy bytes input room (numbers r)
  refusals_kept =
      record {
        exactly = λ n p l. (λ h. (refusals bytes input room n p).0 (numbers_refuse n p l h.0 h.1 _ refl), λ h. refuse_numbers n p ((refusals bytes input room n p).1 h));
        given = given _ refl;
      }

  -- neither 9 nor 10 is the number of a question that decoding asks
  by_questions : {n : ℕ} → (n ≤ 8) ⊎ (n ≡ 12) → 8 < n → n < 12 → ⊥
  by_questions (inl l) h k = omega arith
  by_questions (inr e) h k = omega arith

  endless_of : (n p : ℕ) → n ≡ 9 → RefusedBy bytes input room n p → EndlessAt input p
  endless_of n p e (RefusedBy.decoding d) = absurd (by_questions (refused_number input n p d).1 (omega arith) (omega arith))
  endless_of n p e (RefusedBy.rewriting {g = g} {i = i} d f) =
      let z : g ≡ graph_of input = graph_of_lem input d in
      let first = subst (λ (h : Graph). FirstEndless (plan_of h) h.wires i) z f in
      subst (λ (h : Graph). EndlessAt input (wire_offset h i)) (sym z) (record { index = i; first = first; offset = refl; stands = wire_says input i first.within })
  endless_of n p e (RefusedBy.writing d q l) = absurd (omega arith)

  pub offset_kept : (numbers r).number ≡ 9 → EndlessAt input (numbers r).place
  offset_kept e = endless_of 9 (numbers r).place refl ((refusals_kept.exactly 9 (numbers r).place (omega arith)).0 (e, refl))

  -- ---- a buffer of `max_answer` bytes

  many_of : (n p : ℕ) → n ≡ 10 → Short bytes → max_answer ≤ room → RefusedBy bytes input room n p → TooManyWires (graph_of input)
  unfolding size
  many_of n p e short m (RefusedBy.decoding d) = absurd (by_questions (refused_number input n p d).1 (omega arith) (omega arith))
  many_of n p e short m (RefusedBy.rewriting d f) = absurd (omega arith)
  many_of n p e short m (RefusedBy.writing {g = g} {ws = ws} d q l) = subst TooManyWires (graph_of_lem input d) (record { wires = ws; rewritten = q; many = go l (dec_lt max_wires (length ws)) })
    where
      go : (max_wires < length ws) ⊎ (room < length (bytes g (fold_of g).state ws)) → Dec (max_wires < length ws) → max_wires < length ws
      go (inl h) k = h
      go (inr h) (yes k) = k
      go (inr h) (no k) = absurd (omega (arith, short g (rw (← (graph_of_lem input d)) at (bounded input)) ws q (omega arith)))

  pub enough_kept : Short bytes → max_answer ≤ room → (numbers r).number ≡ 10 → TooManyWires (graph_of input)
  enough_kept short m e = many_of 10 (numbers r).place refl short m ((refusals_kept.exactly 10 (numbers r).place (omega arith)).0 (e, refl))

  -- ---- an input that is accepted

  -- what is returned and written is what it folds to
  returned : (o : Result) → outcome_by bytes input room ≡ o → Accepted (numbers r) → Folding bytes input room (take (numbers r).length after) (numbers r).pops
  unfolding numbers_of written
  returned (folds a k) q h =
      let x : length a ≡ (numbers r).length = sym (ap (λ (m : Numbers). m.length) (numbers_kept ∙ ap numbers_of q)) in
      let y : k ≡ (numbers r).pops = sym (ap (λ (m : Numbers). m.pops) (numbers_kept ∙ ap numbers_of q)) in
      let w : after ≡ a ++ drop (length a) before = A.buffer ∙ ap (λ (o : Result). written o before) q in
      let s : a ≡ take (numbers r).length after = rw (← x, w) (sym (take-append_seam a (drop (length a) before))) in
      subst₂ (Folding bytes input room) s y (folds_folding bytes input a k room q)
  returned (refuses n p) q h = absurd (omega (arith, h, (refusal_number bytes input room n p q).0, ap (λ (m : Numbers). m.number) (numbers_kept ∙ ap numbers_of q)))

  module _ (h : Accepted (numbers r)) where
    F : Folding bytes input room (take (numbers r).length after) (numbers r).pops
    F = returned (outcome_by bytes input room) refl h

    pub read_kept : decode input ≡ accepted (graph_of input)
    read_kept = F.read

    pub answer_kept : AnswerBy bytes (graph_of input) (take (numbers r).length after)
    answer_kept = record { wires = F.ws; rewritten = F.rewritten; is = F.bytes }

    pub pops_kept : PopsOf (graph_of input) (numbers r).pops
    pops_kept = record { are = F.pops; until = work_ends (literals (graph_of input)) (graph_of input); few = rw F.pops (work_pops (literals (graph_of input)) (graph_of input)) }

-- ---- the graph of every input

pub order_kept : (g : Graph) → OrderFree g
order_kept g = order (literals g) g

pub finite_kept : (g : Graph) → FinitePlan g
finite_kept g = planned_finite (literals g) g

pub clean_kept : (g : Graph) → CleanWires g
clean_kept g = rewritten_clean (plan_of g) (size g) g.wires

pub waiting_kept : (input : List ℕ) (pops : ℕ) → Waiting (graph_of input) (after (literals (graph_of input)) (graph_of input) pops)
unfolding size
waiting_kept input = waiting (literals (graph_of input)) (graph_of input) (few_nodes input)

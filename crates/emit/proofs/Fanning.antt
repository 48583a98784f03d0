-- The writing of the wires to the targets that one wire leads to.
use mathlib.Core.Path.{◌≡◌, refl, sym, ap, ◌∙◌}
use mathlib.Core.List.{List, [], ◌∷◌, ◌++◌, append_assoc, append-nil}
use Prim.Native.Nat.{ℕ, suc, ◌+◌, ◌-◌, ◌*◌, ◌≤◌, ◌<◌}
use native.Mathlib.Omega.{arith}
use native.Mathlib.Decide.{ℕ_discrete}
use lib.ListN.{length, get_or, length-append, length-set}
use Rattle.ir.specs.Limits.{max_wires}
use Rattle.ir.specs.declared.PortRef.{PortRef}
use Rattle.ir.specs.declared.Wire.{Wire}
use Rattle.encoding.specs.Numbers.{Written}
use Rattle.encoding.specs.Wires.{wire_bytes}
use Rattle.encoding.proofs.Splices.{written_length, written_more}
use Rattle.records.specs.Access.{no_wire}
use Rattle.model.specs.Maps.{Map}
use Rattle.model.specs.Offer.{PlanAction}
use Rattle.model.specs.Answer.{each}
use Rattle.model.proofs.Each.{each_append, wires_size}
use Rattle.answer.proofs.Fill.{written_none}
use Rattle.emit.specs.Emit.{fan, Stacked, Standing, Descended, Popped}
use Rattle.emit.specs.Emission.{wires_in, shape_in, targets_in, Fans}
use Rattle.emit.specs.declared.emission.Emission.{Emission}
use Rattle.emit.specs.declared.stack.Stack.{Stack}
use Rattle.emit.proofs.Stacks.{upward, stack_low}

pub fan_size : (e : PortRef) (ts : List PortRef) → length (fan e ts) ≡ length ts
unfolding fan
fan_size e [] = refl
fan_size e (t ∷ ts) = ap suc (fan_size e ts)

fan_append : (e : PortRef) (ts us : List PortRef) → fan e (ts ++ us) ≡ fan e ts ++ fan e us
unfolding fan
fan_append e [] us = refl
fan_append e (t ∷ ts) us = ap (λ (l : List Wire). record { source = e; target = t } ∷ l) (fan_append e ts us)

fan_bytes : (e : PortRef) (ts : List PortRef) (t : PortRef) → each wire_bytes (fan e (ts ++ (t ∷ []))) ≡ each wire_bytes (fan e ts) ++ wire_bytes (record { source = e; target = t })
unfolding fan
fan_bytes e ts t =
    ap (each wire_bytes) (fan_append e ts (t ∷ []))
    ∙ (each_append wire_bytes (fan e ts) (record { source = e; target = t } ∷ [])
    ∙ ap (λ (l : List ℕ). each wire_bytes (fan e ts) ++ l) (unfold each in append-nil (wire_bytes (record { source = e; target = t }))))

bytes_size : (e : PortRef) (ts : List PortRef) → length (each wire_bytes (fan e ts)) ≡ 7 * length ts
bytes_size e ts = wires_size (fan e ts) ∙ ap (λ (k : ℕ). 7 * k) (fan_size e ts)

-- `done` are written, and the wire and the stack stand for the others
pub record Going (p : Map PlanAction) (n : ℕ) (ws : List Wire) (next : List ℕ) (source : PortRef) (ts : List PortRef) (out₀ : List ℕ) (at₀ : ℕ) (stack out : List ℕ) (k wire top past : ℕ) : Type 0 where
  pub done : List PortRef
  pub rest : List PortRef
  pub split : ts ≡ done ++ rest
  pub done_is : k ≡ length done
  pub wrote : Written (each wire_bytes (fan source done)) out₀ out at₀ past
  pub stands : 0 < length rest → Standing p n ws next stack top wire rest
  pub empty : length rest ≡ 0 → top ≡ 0
  pub stack_long : length stack ≡ max_wires
  pub room : at₀ + 7 * length ts ≤ length out₀

pub going_start : {e : Emission} {s : Stack} {i count at size : ℕ} → Fans e s i count at size → (source : PortRef) (out : List ℕ) → size ≡ length out
    → Going (shape_in e) e.wires.now.nodes (wires_in e) e.rewrites.now.chains.next source (targets_in e i) out at s.codes out 0 i s.height at
unfolding fan each
going_start {e} {s} {i} {count} {at} F source out z =
    record {
      done = [];
      rest = targets_in e i;
      split = refl;
      done_is = refl;
      wrote = written_none out at (omega (arith, F.room));
      stands = λ h.
          record {
            rest = [];
            within = F.within;
            live = F.live;
            stacked = rw F.empty.0 Stacked.bottom;
            split = sym (append-nil _);
            few = omega (arith, F.many, F.few);
            stack_long = F.empty.1;
          };
      empty = λ h. F.empty.0;
      stack_long = F.empty.1;
      room = omega (arith, F.room, F.many);
    }

module _ {p : Map PlanAction} {n : ℕ} {ws : List Wire} {next : List ℕ} {source : PortRef} {ts : List PortRef} {out₀ : List ℕ} {at₀ : ℕ} {stack out : List ℕ} {k wire top past : ℕ} (G : Going p n ws next source ts out₀ at₀ stack out k wire top past) where
  whole : length ts ≡ length G.done + length G.rest
  whole = ap length G.split ∙ length-append G.done G.rest

  pub out_long : length out ≡ length out₀
  out_long = written_length G.wrote (omega (arith, G.room, whole, bytes_size source G.done))

  pub some_rest : k < length ts → 0 < length G.rest
  some_rest h = omega (arith, whole, G.done_is)

  pub leaf_room : k < length ts → past + 7 ≤ length out
  leaf_room h = omega (arith, G.room, whole, bytes_size source G.done, G.wrote.past, G.done_is, out_long)

  pub going_on : length ws ≤ max_wires → {stack₁ stack₂ out' : List ℕ} {top₁ wire₁ past' wire₂ top₂ : ℕ} → Descended p n ws next stack₁ top₁ wire₁ G.rest
      → Written (wire_bytes (record { source = source; target = (get_or ws wire₁ no_wire).target })) out out' past past' → Popped next stack₁ stack₂ top₁ wire₂ top₂ → length stack₂ ≡ max_wires
      → Going p n ws next source ts out₀ at₀ stack₂ out' (k + 1) wire₂ top₂ past'
  going_on w {stack₁} {stack₂} {out'} {top₁} {wire₁} {past'} {wire₂} {top₂} D W P l =
      let t : PortRef = (get_or ws wire₁ no_wire).target in
      let few : length D.rest ≤ max_wires = omega (arith, D.few, ap length D.split) in
      let U = upward w D.stack_long few D.stacked in
      let fits : at₀ + length (each wire_bytes (fan source G.done) ++ wire_bytes (record { source = source; target = t })) ≤ length out₀ =
      omega (arith, G.room, whole, ap length (fan_bytes source G.done t), bytes_size source (G.done ++ (t ∷ [])), length-append G.done (t ∷ []), ap length D.split) in
      record {
        done = G.done ++ (t ∷ []);
        rest = D.rest;
        split = G.split ∙ (ap (λ (l : List PortRef). G.done ++ l) D.split ∙ sym (append_assoc G.done (t ∷ []) D.rest));
        done_is = omega (arith, G.done_is, length-append G.done (t ∷ []));
        wrote = rw (fan_bytes source G.done t) (written_more G.wrote fits W);
        stands = λ z. U.up z stack₂ wire₂ top₂ P;
        empty = λ z. (P.same (omega (arith, stack_low p n ws next D.stacked, z))).1;
        stack_long = l;
        room = G.room;
      }

  pub going_end : length ts ≤ k → Written (each wire_bytes (fan source ts)) out₀ out at₀ past × (top ≡ 0)
  going_end e = finish G.rest (omega (arith, whole, G.done_is)) G.split G.empty
    where
      finish : (rest : List PortRef) → length rest ≡ 0 → ts ≡ G.done ++ rest → (length rest ≡ 0 → top ≡ 0) → Written (each wire_bytes (fan source ts)) out₀ out at₀ past × (top ≡ 0)
      finish [] z s h = (rw (s ∙ append-nil G.done) G.wrote, h z)
      finish (r ∷ rs) z s h = absurd (omega arith)

-- a pop keeps the stack's length
pub popped_long : {next stack stack' : List ℕ} {top wire r : ℕ} → length stack ≡ max_wires → Popped next stack stack' top wire r → length stack' ≡ max_wires
popped_long {next} {stack} {stack'} {top} {wire} {r} l P = go (ℕ_discrete top 0)
  where
    push : Dec (get_or next wire 0 ≡ 0) → 0 < top → length stack' ≡ max_wires
    push (yes e) h = rw ((P.rest h).left e).0 l
    push (no e) h = rw ((P.rest h).put (omega (arith, e))).0 (length-set stack (top - 1) (get_or next wire 0) ∙ l)

    go : Dec (top ≡ 0) → length stack' ≡ max_wires
    go (yes e) = rw (P.same e).0 l
    go (no e) = push (ℕ_discrete (get_or next wire 0) 0) (omega (arith, e))

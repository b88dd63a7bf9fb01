-- Edges between blocks: the arms of phis, the cases of a switch, and what phis bring.
use Rattle.std.proofs.Common.{◌≡◌, refl, sym, ap, ◌∙◌, ℕ, ◌+◌, ◌<◌, true, cond, Option, None, Some, List, [], ◌∷◌, ◌++◌, length, drop, arith}
use Rattle.ir_types.specs.declared.id.Id.{Id}
use Rattle.ir_types.specs.declared.ty.Ty.{Ty}
use Rattle.ir_types.specs.declared.opd.Opd.{Opd}
use Rattle.ir_types.specs.declared.inst.Inst.{Inst}
use Rattle.ir_model.specs.declared.value.Value.{Value}
use Rattle.ir_model.specs.Values.{Lane, Env, with_value, value_of}
use Rattle.ir_model.specs.Step.{State}
use Rattle.ir_model.specs.Run.{is_phi, arm_from, arm_of, with_phi, chosen}
use Rattle.ir_model.specs.CallFree.{then_ends, run_insts, enter}
use Rattle.ir_interp.specs.declared.blocks.Arrival.{Arrival}
use Rattle.ir_interp.specs.Blocks.{arrived}

pub arm_from-short : (from : ℕ) (bs : List ℕ) (os : List Opd) → length os < 1 → arm_from from bs os ≡ None
arm_from-short from [] os h = refl
arm_from-short from (b ∷ bs) [] h = refl
arm_from-short from (b ∷ bs) (o ∷ os) h = absurd (omega arith)

pub chosen-short : (n other : ℕ) (cases : List Lane) (tos : List ℕ) → length tos < 1 → chosen n other cases tos ≡ other
chosen-short n other [] tos h = refl
chosen-short n other (None ∷ cases) [] h = refl
chosen-short n other (Some c ∷ cases) [] h = refl
chosen-short n other (c ∷ cases) (to ∷ tos) h = absurd (omega arith)

-- what comes last is what an id has
arrived-push : (brought : List Arrival) (a : Arrival) (env : Env) → arrived (brought ++ a ∷ []) env ≡ with_value (arrived brought env) a.id a.value
arrived-push [] a env = refl
arrived-push (b ∷ bs) a env = arrived-push bs a (with_value env b.id b.value)

entered : (types : Id → Ty) (from : Option ℕ) (edge : Env) (i : Inst) (rest : List Inst) (s : State) (opd : Opd)
    → is_phi i.op ≡ true → arm_of from i.op i.opds ≡ Some opd
    → enter types from edge (i ∷ rest) s ≡ enter types from edge rest (record { env = with_value s.env i.id (value_of edge opd); memory = s.memory })
entered types from edge i rest s opd e g =
    ap (λ b. cond b (then_ends (with_phi edge i.id s (arm_of from i.op i.opds)) (enter types from edge rest)) (run_insts types (i ∷ rest) s)) e
    ∙ ap (λ a. then_ends (with_phi edge i.id s a) (enter types from edge rest)) g

-- one phi more
pub entered-more : (types : Id → Ty) (from : Option ℕ) (edge : Env) (insts : List Inst) (at : ℕ) (i : Inst) (brought more : List Arrival) (opd : Opd) (v : Value) (s : State)
    → i ∷ drop (at + 1) insts ≡ drop at insts → is_phi i.op ≡ true → arm_of from i.op i.opds ≡ Some opd → v ≡ value_of edge opd
    → more ≡ brought ++ record { id = i.id; value = v } ∷ []
    → enter types from edge (drop (at + 1) insts) (record { env = arrived more s.env; memory = s.memory })
    ≡ enter types from edge (drop at insts) (record { env = arrived brought s.env; memory = s.memory })
entered-more types from edge insts at i brought more opd v s next phi arm value push =
    let last : arrived more s.env ≡ with_value (arrived brought s.env) i.id (value_of edge opd) =
    ap (λ l. arrived l s.env) push ∙ arrived-push brought (record { id = i.id; value = v }) s.env
    ∙ ap (with_value (arrived brought s.env) i.id) value in
    ap (λ (env : Env). enter types from edge (drop (at + 1) insts) (record { env = env; memory = s.memory })) last
    ∙ sym (entered types from edge i (drop (at + 1) insts) (record { env = arrived brought s.env; memory = s.memory }) opd phi arm)
    ∙ ap (λ l. enter types from edge l (record { env = arrived brought s.env; memory = s.memory })) next

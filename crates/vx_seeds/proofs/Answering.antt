-- The scans, one after another, give the answer of a module.
use Rattle.std.proofs.Common.{◌≡◌, refl, sym, ap, ◌∙◌, ℕ, suc, Bool, true, false, cond, Option, None, Some, List, [], ◌∷◌, Bor}
use Rattle.std.specs.Option.{option_copied, is_some}
use Rattle.ir_types.proofs.Among.{same_is}
use Rattle.ir_types.specs.declared.id.Id.{Id}
use Rattle.ir_types.specs.declared.inst.Inst.{Inst}
use Rattle.ir_types.specs.declared.func.Param.{Param}
use Rattle.ir_types.specs.declared.func.Block.{Block}
use Rattle.ir_types.specs.declared.func.Func.{Func}
use Rattle.ir_types.specs.declared.module.Module.{Module}
use Rattle.ir_types.specs.Available.{same_id}
use Rattle.ir_types.specs.IdTable.{found}
use Rattle.ir_types.specs.declared.id_table.IdTable.{IdTable}
use Rattle.vx_view.specs.declared.question.Question.TheVariants as ask
use Rattle.vx_view.specs.declared.answer.Answer.{Answer}
use Rattle.vx_view.specs.declared.answer.Answer.TheVariants as says
use Rattle.vx_view.specs.Answers.{funcs_of, answer, param_in, param_of, find, either, Standing, standing, standing_in, standing_of, of_value}
use Rattle.vx_seeds.specs.declared.known.Known.{Known}
use Rattle.vx_seeds.specs.Known.{told, or_answer, params_then, insts_then, blocks_then, all_params_then, funcs_then}

-- ---- a kept answer goes before others

-- nothing was known: what is set is known from then on
pub add_new : (old new : IdTable Known) (id : Id) (k : Known) (there : Option (Bor Known)) → option_copied there ≡ found old id → is_some there ≡ false →
    ((q : Id) → found new q ≡ cond (same_id id q) (Some k) (found old q)) →
    (q : Id) (rest : Answer) → or_answer (found new q) rest ≡ or_answer (found old q) (cond (same_id id q) (told k) rest)
add_new old new id k there is none h q rest = ap (λ u. or_answer u rest) (h q) ∙ by_test (same_id id q) refl where
  nothing : {A : Type 0} (o : Option (Bor A)) → is_some o ≡ false → option_copied o ≡ None
  nothing None e = refl
  nothing (Some x) e = absurd cc

  by_test : (b : Bool) → same_id id q ≡ b → or_answer (cond b (Some k) (found old q)) rest ≡ or_answer (found old q) (cond b (told k) rest)
  by_test true t = sym (ap (λ u. or_answer u (told k)) (ap (found old) (sym (same_is id q t)) ∙ sym is ∙ nothing there none))
  by_test false t = refl

-- something was known
pub add_known : (old : IdTable Known) (id : Id) (k : Known) (there : Option (Bor Known)) → option_copied there ≡ found old id → is_some there ≡ true →
    (q : Id) (rest : Answer) → or_answer (found old q) rest ≡ or_answer (found old q) (cond (same_id id q) (told k) rest)
add_known old id k there is some q rest = by_test (same_id id q) refl where
  either_way : (o : Option (Bor Known)) → is_some o ≡ true → (t u : Answer) → or_answer (option_copied o) t ≡ or_answer (option_copied o) u
  either_way (Some x) e t u = refl
  either_way None e t u = absurd cc

  by_test : (b : Bool) → same_id id q ≡ b → or_answer (found old q) rest ≡ or_answer (found old q) (cond b (told k) rest)
  by_test true t = ap (λ o. or_answer o rest) held ∙ either_way there some rest (told k) ∙ sym (ap (λ o. or_answer o (told k)) held)
    where
      held : found old q ≡ option_copied there
      held = ap (found old) (sym (same_is id q t)) ∙ sym is
  by_test false t = refl

-- ---- scans are the answers

abbrev or_param : Option Param → Answer → Answer
or_param None a = a
or_param (Some p) a = says.Param p.noalias p.ty

abbrev or_standing : Option Standing → Answer → Answer
or_standing None a = a
or_standing (Some s) a = says.Inst s.place s.inst

module _ (q : Id) where
  params_are : (ps : List Param) (a : Answer) → params_then q ps a ≡ or_param (param_in q ps) a
  params_are [] a = refl
  params_are (p ∷ ps) a = by_test (same_id p.id q) (params_are ps a) where
    by_test : (b : Bool) → params_then q ps a ≡ or_param (param_in q ps) a → cond b (says.Param p.noalias p.ty) (params_then q ps a) ≡ or_param (cond b (Some p) (param_in q ps)) a
    by_test true more = refl
    by_test false more = more

  either_param : (u v : Option Param) (a : Answer) → or_param u (or_param v a) ≡ or_param (either u v) a
  either_param None v a = refl
  either_param (Some p) v a = refl

  all_params_are : (fs : List Func) (a : Answer) → all_params_then q fs a ≡ or_param (param_of q fs) a
  all_params_are [] a = refl
  all_params_are (f ∷ fs) a =
      ap (params_then q f.params) (all_params_are fs a) ∙ params_are f.params (or_param (param_of q fs) a) ∙ either_param (param_in q f.params) (param_of q fs) a

  either_standing : (u v : Option Standing) (a : Answer) → or_standing u (or_standing v a) ≡ or_standing (either u v) a
  either_standing None v a = refl
  either_standing (Some s) v a = refl

  insts_are : (func number : ℕ) (block is : List Inst) (a : Answer) → insts_then q (record { func = func; block = number }) is a ≡ or_standing (standing func number block (find q is)) a
  insts_are func number block [] a = refl
  insts_are func number block (i ∷ is) a = by_test (same_id i.id q) (insts_are func number block is a) where
    by_test : (b : Bool) → insts_then q (record { func = func; block = number }) is a ≡ or_standing (standing func number block (find q is)) a → cond b (says.Inst (record { func = func; block = number }) i) (insts_then q (record { func = func; block = number }) is a)
        ≡ or_standing (standing func number block (cond b (Some i) (find q is))) a
    by_test true more = refl
    by_test false more = more

  blocks_are : (func number : ℕ) (bs : List Block) (a : Answer) → blocks_then q func number bs a ≡ or_standing (standing_in q func number bs) a
  blocks_are func number [] a = refl
  blocks_are func number (b ∷ bs) a =
      ap (insts_then q (record { func = func; block = number }) b.insts) (blocks_are func (suc number) bs a)
      ∙ insts_are func number b.insts b.insts (or_standing (standing_in q func (suc number) bs) a)
      ∙ either_standing (standing func number b.insts (find q b.insts)) (standing_in q func (suc number) bs) a

  funcs_are : (func : ℕ) (fs : List Func) (a : Answer) → funcs_then q func fs a ≡ or_standing (standing_of q func fs) a
  funcs_are func [] a = refl
  funcs_are func (f ∷ fs) a =
      ap (blocks_then q func 0 f.blocks) (funcs_are (suc func) fs a)
      ∙ blocks_are func 0 f.blocks (or_standing (standing_of q (suc func) fs) a)
      ∙ either_standing (standing_in q func 0 f.blocks) (standing_of q (suc func) fs) a

  valued : (u : Option Param) (v : Option Standing) → or_param u (or_standing v says.Nothing) ≡ of_value u v
  valued None None = refl
  valued None (Some s) = refl
  valued (Some p) v = refl

  -- parameters first, and then instructions
  pub scans_answer : (m : Module) → all_params_then q (funcs_of m.items) (funcs_then q 0 (funcs_of m.items) says.Nothing) ≡ answer m (ask.Inst q)
  scans_answer m =
      ap (all_params_then q (funcs_of m.items)) (funcs_are 0 (funcs_of m.items) says.Nothing)
      ∙ all_params_are (funcs_of m.items) (or_standing (standing_of q 0 (funcs_of m.items)) says.Nothing)
      ∙ valued (param_of q (funcs_of m.items)) (standing_of q 0 (funcs_of m.items))

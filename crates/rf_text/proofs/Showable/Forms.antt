-- What the forms of a module's printed lines say for the whole text: its kept lines and headers in order.
use Rattle.std.proofs.Common.{◌≡◌, ℕ, ◌+◌, Bool, true, false, List, [], ◌∷◌, ◌++◌, map, Option, Some, None, refl, ◌∙◌, ap}
use Rattle.std.proofs.lemmas.List.{map-append}
use Rattle.std.specs.Prelude.{slice_get}
use Rattle.ir_types.specs.declared.ty.Ty.{Ty}
use Rattle.ir_types.specs.declared.opd.Opd.{Opd}
use Rattle.ir_types.specs.declared.op.Op.{Op}
use Rattle.ir_types.specs.declared.op.Op.TheVariants.{Switch}
use Rattle.ir_types.specs.declared.inst.Inst.{Inst}
use Rattle.ir_types.specs.declared.func.Block.{Block}
use Rattle.ir_types.specs.declared.func.Func.{Func}
use Rattle.ir_draft.specs.declared.line.Line.{Line}
use Rattle.ir_draft.specs.declared.line.Line.TheVariants as line
use Rattle.ir_print.specs.Names.{Names, names_of}
use Rattle.rf_text.proofs.Publics.{publics, publics_append, passed}
use Rattle.rf_text.specs.Written.{first_ty, cases_of, more_forms}
use Rattle.rf_text.specs.ModuleForms.{label_forms, insts_forms, more_blocks_forms, blocks_forms, body_forms, gap_forms}

-- lines in front that say nothing
pub quiet : (fs gs : List Line) → publics (map Some fs) ≡ [] → publics (map Some (fs ++ gs)) ≡ publics (map Some gs)
quiet fs gs e = ap publics (map-append Some fs gs) ∙ passed (map Some fs) (map Some gs) e

label_silent : (name : Option (List ℕ)) → publics (map Some (label_forms name)) ≡ []
label_silent None = refl
label_silent (Some name) = refl

module _ (ns : Names) (gs : List (List ℕ)) where
  cases_silent : (ty : Ty) (cases : List (Option ℕ)) (to : List ℕ) → publics (map Some (cases_of ns ty cases to)) ≡ []
  cases_silent ty [] to = refl
  cases_silent ty (c ∷ cs) [] = refl
  cases_silent ty (c ∷ cs) (t ∷ to) = cases_silent ty cs to

  more_silent : (os : List Opd) (op : Op) → publics (map Some (more_forms ns os op)) ≡ []
  more_silent os (Switch other cases to) = quiet (cases_of ns (first_ty ns os) cases to) (line.CasesEnd ∷ []) (cases_silent (first_ty ns os) cases to)
  more_silent os _ = refl

  pub insts_silent : (is : List Inst) → publics (map Some (insts_forms ns gs is)) ≡ []
  insts_silent [] = refl
  insts_silent (i ∷ is) = quiet (more_forms ns i.opds i.op) (insts_forms ns gs is) (more_silent i.opds i.op) ∙ insts_silent is

  blocks_silent : (at : ℕ) (bs : List Block) → publics (map Some (more_blocks_forms ns gs at bs)) ≡ []
  blocks_silent at [] = refl
  blocks_silent at (b ∷ bs) =
      quiet (label_forms (slice_get ns.labels at)) (insts_forms ns gs b.insts ++ more_blocks_forms ns gs (at + 1) bs) (label_silent (slice_get ns.labels at))
      ∙ quiet (insts_forms ns gs b.insts) (more_blocks_forms ns gs (at + 1) bs) (insts_silent b.insts)
      ∙ blocks_silent (at + 1) bs

  all_silent : (bs : List Block) → publics (map Some (blocks_forms ns gs bs)) ≡ []
  all_silent [] = refl
  all_silent (b ∷ bs) =
      quiet (label_forms b.name) (insts_forms ns gs b.insts ++ more_blocks_forms ns gs 1 bs) (label_silent b.name)
      ∙ quiet (insts_forms ns gs b.insts) (more_blocks_forms ns gs 1 bs) (insts_silent b.insts)
      ∙ blocks_silent 1 bs

-- a function's body says nothing for the whole text
pub body_silent : (gs : List (List ℕ)) (f : Func) (rest : List (Option Line)) → publics (map Some (body_forms gs f ++ line.Close ∷ []) ++ rest) ≡ publics rest
body_silent gs f rest =
    passed (map Some (body_forms gs f ++ line.Close ∷ [])) rest (quiet (body_forms gs f) (line.Close ∷ []) (all_silent (names_of f) gs f.blocks))

pub gap_silent : (before after : Bool) (rest : List (Option Line)) → publics (gap_forms before after ++ rest) ≡ publics rest
gap_silent false false rest = refl
gap_silent false true rest = refl
gap_silent true after rest = refl

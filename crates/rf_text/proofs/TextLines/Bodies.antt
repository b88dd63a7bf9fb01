-- The text of a formed and printable function is lines that are read as its forms.
use Rattle.std.proofs.Common.{◌≡◌, ℕ, ◌+◌, ◌<◌, ◌^◌, Bool, true, false, List, [], ◌∷◌, ◌++◌, length, map, Option, Some, None, refl, ◌∙◌, ap, codes, append_assoc}
use Rattle.std.proofs.lemmas.List.Folds.{list_all-append}
use Rattle.std.proofs.lemmas.Option.{slice_get-get_or}
use Rattle.std.specs.List.{All, list_all, slice_get, slice_index_or}
use Rattle.ir_lex.specs.Tokens.{is_name}
use Rattle.ir_lex.proofs.Classes.{both}
use Rattle.ir_types.specs.declared.ty.Ty.{Ty}
use Rattle.ir_types.specs.declared.opd.Opd.{Opd}
use Rattle.ir_types.specs.declared.op.Op.{Op}
use Rattle.ir_types.specs.declared.op.Op.TheVariants.{Switch}
use Rattle.ir_types.specs.declared.inst.Inst.{Inst}
use Rattle.ir_types.specs.declared.func.Block.{Block}
use Rattle.ir_types.specs.declared.func.Func.{Func}
use Rattle.ir_types.specs.declared.module.Module.{Module}
use Rattle.ir_types.specs.Formed.{IsFormedBlock, IsFormedFunc}
use Rattle.ir_draft.specs.declared.line.Line.{Line}
use Rattle.ir_draft.specs.declared.line.Line.TheVariants as line
use Rattle.ir_print.specs.Names.{Names, named_of, names_of}
use Rattle.ir_print.specs.Text.{blocks_text, func_text}
use Rattle.ir_read.specs.Forms.{form_in, inside_after, forms_from}
use Rattle.rf_text.specs.Headed.{HeaderAgain, header_line, first_name, shown_head}
use Rattle.rf_text.specs.LinesOf.{joined}
use Rattle.rf_text.specs.ModuleForms.{label_forms, insts_forms, more_blocks_forms, blocks_forms, func_forms}
use Rattle.rf_text.proofs.PlainItems.{IsPlainInst, IsPlainFunc}
use Rattle.rf_text.specs.Printed.{Printed, IsReadAgain}
use Rattle.rf_text.specs.Written.{cases_of, first_ty, more_forms, forms_of}
use Rattle.rf_text.proofs.Heads.Again.{header_again}
use Rattle.rf_text.proofs.Insts.Each.{heads, tails, none_more, too_few}
use Rattle.rf_text.proofs.Insts.All.{inst_printed}
use Rattle.rf_text.proofs.Insts.Bodies.{body_printed}
use Rattle.rf_text.proofs.TextLines.Fits.{inst_fits}
use Rattle.rf_text.proofs.TextLines.Names.{func_shown, func_headed, labels_written}
use Rattle.rf_text.proofs.TextLines.Once.{NamedOnce}
use Rattle.rf_text.proofs.TextLines.Types.{in_func}

-- text that is whole lines, outside functions at both ends, of which each is read as its form
pub record Spoken (text : List ℕ) (forms : List Line) : Type 0 where
  pub lines : List (List ℕ)
  pub whole : text ≡ joined lines
  pub each : (rest : List (List ℕ)) → forms_from false (lines ++ rest) ≡ map Some forms ++ forms_from false rest

-- ---- no line of a body ends its function or begins one

abbrev pub keeps_inside : Line → Bool
keeps_inside (line.Define name head) = false
keeps_inside line.Close = false
keeps_inside form = true

abbrev pub Keep : List Line → Type 0
Keep fs = list_all keeps_inside fs ≡ true

keep_both : (fs gs : List Line) → Keep fs → Keep gs → Keep (fs ++ gs)
keep_both fs gs h k = list_all-append keeps_inside fs gs ∙ rw (h, k) refl

cases_keep : (ns : Names) (ty : Ty) (ms : List (Option ℕ)) (bs : List ℕ) → Keep (cases_of ns ty ms bs)
cases_keep ns ty [] bs = refl
cases_keep ns ty (n ∷ ms) [] = refl
cases_keep ns ty (n ∷ ms) (b ∷ bs) = cases_keep ns ty ms bs

more_keep : (ns : Names) (os : List Opd) (op : Op) → Keep (more_forms ns os op)
more_keep ns os (Switch other cases to) = keep_both (cases_of ns (first_ty ns os) cases to) (line.CasesEnd ∷ []) (cases_keep ns (first_ty ns os) cases to) refl
more_keep ns os op = refl

label_keep : (name : Option (List ℕ)) → Keep (label_forms name)
label_keep None = refl
label_keep (Some name) = refl

module _ (ns : Names) (gs : List (List ℕ)) where
  insts_keep : (is : List Inst) → Keep (insts_forms ns gs is)
  insts_keep [] = refl
  insts_keep (i ∷ is) = keep_both (forms_of ns gs i) (insts_forms ns gs is) (more_keep ns i.opds i.op) (insts_keep is)

  more_blocks_keep : (at : ℕ) (bs : List Block) → Keep (more_blocks_forms ns gs at bs)
  more_blocks_keep at [] = refl
  more_blocks_keep at (b ∷ bs) =
      keep_both (label_forms (slice_get ns.labels at)) (insts_forms ns gs b.insts ++ more_blocks_forms ns gs (at + 1) bs) (label_keep (slice_get ns.labels at))
      (keep_both (insts_forms ns gs b.insts) (more_blocks_forms ns gs (at + 1) bs) (insts_keep b.insts) (more_blocks_keep (at + 1) bs))

  pub body_keep : (bs : List Block) → Keep (blocks_forms ns gs bs)
  body_keep [] = refl
  body_keep (b ∷ bs) =
      keep_both (label_forms b.name) (insts_forms ns gs b.insts ++ more_blocks_forms ns gs 1 bs) (label_keep b.name)
      (keep_both (insts_forms ns gs b.insts) (more_blocks_forms ns gs 1 bs) (insts_keep b.insts) (more_blocks_keep 1 bs))

-- ---- lines of a body are read as they are where they stand in a function

stays : (f : Line) → keeps_inside f ≡ true → inside_after true (Some f) ≡ true
stays (line.Define name head) h = refl
stays line.Close h = h
stays f h = refl

within : (fs : List Line) (ls rest : List (List ℕ)) → Keep fs → map (form_in true) ls ≡ map Some (fs ++ line.Close ∷ []) → forms_from true (ls ++ rest) ≡ map Some (fs ++ line.Close ∷ []) ++ forms_from false rest
within [] [] rest h e = too_few e
within [] (l ∷ []) rest h e = rw (heads e) refl
within [] (l ∷ k ∷ ls) rest h e = none_more (tails e)
within (f ∷ fs) [] rest h e = too_few e
within (f ∷ fs) (l ∷ ls) rest h e =
    rw (heads e) (rw (stays f (both (keeps_inside f) _ h).0) (ap (λ (x : List (Option Line)). Some f ∷ x) (within fs ls rest (both (keeps_inside f) _ h).1 (tails e))))

-- ---- functions

module _ (m : Module) (f : Func) (formed : IsFormedFunc m f) (plain : IsPlainFunc f) (once : NamedOnce (named_of f)) (few : length (named_of f) < 2 ^ 64) (globals : All (λ g. is_name g ≡ true) m.globals) where
  again : (number position : ℕ) (b : Block) (i : Inst) → slice_get f.blocks number ≡ Some b → slice_get b.insts position ≡ Some i → IsPlainInst i → IsReadAgain (names_of f) m.globals i
  again number position b i at e is =
      let block : IsFormedBlock m f number b = formed.blocks number b at in
      inst_printed f.ret (names_of f) m.globals i (func_shown f m.globals plain few globals)
      (inst_fits m f once number position i (block.insts position i e) is (λ value other. in_func i value other f b number position at e))

  insts_again : All (λ (b : Block). All (IsReadAgain (names_of f) m.globals) b.insts) f.blocks
  insts_again = λ n d among k e among2.
      again n k (slice_index_or f.blocks n d) (slice_index_or (slice_index_or f.blocks n d).insts k e) (slice_get-get_or f.blocks n d among)
      (slice_get-get_or (slice_index_or f.blocks n d).insts k e among2) ((plain.blocks n d among).insts k e among2)

  body_again : Printed (blocks_text (names_of f) m.globals f.blocks ++ codes "}\n") (blocks_forms (names_of f) m.globals f.blocks ++ line.Close ∷ [])
  body_again = body_printed (names_of f) m.globals (func_shown f m.globals plain few globals).labels f.blocks (labels_written f.blocks plain.blocks) insts_again

  pub func_spoken : Spoken (func_text m.globals f) (func_forms m.globals f)
  func_spoken =
      let ns : Names = names_of f in
      let head : HeaderAgain ns f = header_again ns f (func_headed f plain few) in
      let p : Printed (blocks_text ns m.globals f.blocks ++ codes "}\n") (blocks_forms ns m.globals f.blocks ++ line.Close ∷ []) = body_again in
      let first : Line = line.Define (first_name f) (Some (shown_head ns f)) in
      record {
        lines = header_line ns f ∷ p.lines;
        whole = ap (λ (x : List ℕ). x ++ (blocks_text ns m.globals f.blocks ++ codes "}\n")) head.text
            ∙ ap (λ (x : List ℕ). (header_line ns f ++ codes "\n") ++ x) p.whole ∙ append_assoc (header_line ns f) (codes "\n") (joined p.lines);
        each = λ rest. ap (λ (o : Option Line). o ∷ forms_from (inside_after false o) (p.lines ++ rest)) head.form
            ∙ ap (λ (x : List (Option Line)). Some first ∷ x) (within (blocks_forms ns m.globals f.blocks) p.lines rest (body_keep ns m.globals f.blocks) p.each);
      }

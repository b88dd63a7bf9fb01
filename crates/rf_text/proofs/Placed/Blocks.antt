-- The blocks of a function stand where they are shown, and so does its body.
use Rattle.std.proofs.Common.{◌≡◌, ℕ, ◌+◌, ◌^◌, ◌<◌, true, false, List, [], ◌∷◌, ◌++◌, length, map, Option, Some, None, Result, Ok, nat_eq, refl, ◌∙◌, ap, arith, slice_get}
use Rattle.std.proofs.lemmas.Bool.Decides.{nat_tests}
use Rattle.std.specs.List.{All}
use Rattle.ir_types.specs.declared.op.Op.{Op}
use Rattle.ir_types.specs.declared.op.Op.TheVariants.{Alloca, Call}
use Rattle.ir_types.specs.declared.inst.Inst.{Inst}
use Rattle.ir_types.specs.declared.func.Param.{Param}
use Rattle.ir_types.specs.declared.func.Block.{Block}
use Rattle.ir_types.specs.declared.func.Func.{Func}
use Rattle.ir_types.specs.Formed.{EndsOnce, PhisFirst, block_ids}
use Rattle.ir_draft.specs.declared.line.Line.{Line}
use Rattle.ir_draft.specs.declared.line.Line.TheVariants as form
use Rattle.ir_print.specs.Names.{Names, Named, Label, names_of, named_of, insts_named, blocks_named, shown, counted, labels_from}
use Rattle.ir_read.specs.declared.refusal.ReadRefusal.{ReadRefusal}
use Rattle.ir_read.specs.Answers.{◌>>=◌}
use Rattle.ir_read.specs.Numbers.{after_params}
use Rattle.ir_read.specs.Position.{opened, after_label, after_stmt}
use Rattle.ir_read.specs.Function.{is_foreign, after_inst}
use Rattle.ir_read.proofs.Placing.{Place, no_block, front, place, body_line, body_lines}
use Rattle.rf_text.specs.Headed.{shown_params}
use Rattle.rf_text.specs.Written.{op_of, stmt_of, more_forms}
use Rattle.rf_text.specs.ModuleForms.{label_forms, insts_forms, more_blocks_forms, blocks_forms, body_forms}
use Rattle.ir_types.specs.Formed.{is_plain}
use Rattle.rf_text.proofs.Placed.Names.{Ahead, Apart, values_apart, name_taken, ahead_small, label_found, label_passed}
use Rattle.rf_text.proofs.Placed.Insts.{IsFitting, InstsStand, insts_stand, lines_append, ParamsTaken, params_taken}

-- a block of this number that is of the profile
pub record IsFittingBlock (names gs : List (List ℕ)) (number : ℕ) (b : Block) : Type 0 where
  pub named : is_plain b.name ≡ true
  pub ends : EndsOnce b.insts
  pub phis : PhisFirst true b.insts
  pub insts : All (IsFitting names gs number) b.insts

-- blocks, of which the first has this number
abbrev pub AreFitting : List (List ℕ) → List (List ℕ) → ℕ → List Block → Type 0
AreFitting names gs number [] = Unit {0}
AreFitting names gs number (b ∷ bs) = IsFittingBlock names gs number b × AreFitting names gs (number + 1) bs

pub label_stands : (line n insts blocks : ℕ) (name : Option (List ℕ)) → is_plain name ≡ true → n < 2 ^ 64 → after_label line (place n insts blocks no_block) (shown n name) ≡ Ok (place (counted n name) insts (blocks + 1) front)
unfolding after_label
label_stands line n insts blocks name plain small = rw (name_taken line n name plain small) refl

-- an instruction where no block is open begins one
same_foreign : (n insts : ℕ) (op : Op) → is_foreign (place n insts 0 no_block) op ≡ is_foreign (place (n + 1) insts 1 front) op
unfolding opened
same_foreign n insts (Alloca elem align) = refl
same_foreign n insts (Call site) = refl
same_foreign n insts op = refl

module _ (names : List (List ℕ)) (ns : Names) (gs : List (List ℕ)) where
  unnamed_opens : (line n insts : ℕ) (i : Inst) → body_line names line (place n insts 0 no_block) (form.Stmt (stmt_of ns gs i)) ≡ body_line names line (place (n + 1) insts 1 front) (form.Stmt (stmt_of ns gs i))
  unfolding after_inst after_stmt opened
  unnamed_opens line n insts i = rw (same_foreign n insts (op_of i.op)) refl

  unnamed_block : (line n insts : ℕ) (is : List Inst) (fs : List Line) → EndsOnce is → body_lines names line (place n insts 0 no_block) (insts_forms ns gs is ++ fs) ≡ body_lines names line (place (n + 1) insts 1 front) (insts_forms ns gs is ++ fs)
  unnamed_block line n insts [] fs ends = absurd ends
  unnamed_block line n insts (i ∷ is) fs ends = ap (λ (r : Result Place ReadRefusal). r >>= (λ q. body_lines names (line + 1) q (more_forms ns i.opds i.op ++ insts_forms ns gs is ++ fs))) (unnamed_opens line n insts i)

  block_insts : (line n insts number at : ℕ) (b : Block) (vs : List Named) → IsFittingBlock names gs number b → Ahead ns at n (insts_named b.insts vs) → InstsStand names ns gs line n insts (number + 1) at front b.insts vs
  block_insts line n insts number at b vs fits ahead = here b.insts fits.ends fits.phis fits.insts ahead where
    here : (is : List Inst) → EndsOnce is → PhisFirst true is → All (IsFitting names gs number) is → Ahead ns at n (insts_named is vs) → InstsStand names ns gs line n insts (number + 1) at front is vs
    here [] ends phis all a = absurd ends
    here (i ∷ is) ends phis all a = insts_stand names ns gs true line n insts number at i is vs ends phis all a

  -- lines that stand where no block is open, and leave none open
  pub record LinesStand (line n insts blocks : ℕ) (forms : List Line) : Type 0 where
    pub next : ℕ
    pub insts_after : ℕ
    pub blocks_after : ℕ
    pub stand : body_lines names line (place n insts blocks no_block) forms ≡ Ok (place next insts_after blocks_after no_block)
    pub some : nat_eq blocks_after 0 ≡ false

  -- the instructions of a block, and the blocks after it
  past_label : (line n insts at : ℕ) (b : Block) (bs : List Block) → (block : InstsStand names ns gs line n insts (at + 1) (at + 1) front b.insts (blocks_named bs)) →
      (rest : LinesStand (line + length (insts_forms ns gs b.insts)) block.next block.insts_after (at + 1) (more_blocks_forms ns gs (at + 1) bs)) →
      body_lines names line (place n insts (at + 1) front) (insts_forms ns gs b.insts ++ more_blocks_forms ns gs (at + 1) bs) ≡ Ok (place rest.next rest.insts_after rest.blocks_after no_block)
  past_label line n insts at b bs block rest =
      lines_append names line (place n insts (at + 1) front) (place block.next block.insts_after (at + 1) no_block) (insts_forms ns gs b.insts) (more_blocks_forms ns gs (at + 1) bs) block.stand
      ∙ rest.stand

  some_block : (at : ℕ) → nat_eq (at + 1) 0 ≡ false
  some_block at = grind (arith, nat_tests)

  more_stand : (line n insts at : ℕ) (bs : List Block) → nat_eq at 0 ≡ false → AreFitting names gs at bs → Ahead ns at n (blocks_named bs) → LinesStand line n insts at (more_blocks_forms ns gs at bs)
  more_stand line n insts at [] some fits ahead = record { next = n; insts_after = insts; blocks_after = at; stand = refl; some = some }
  more_stand line n insts at (b ∷ bs) some fits ahead =
      let small : n < 2 ^ 64 = ahead_small ns at n (Label b.name) (insts_named b.insts (blocks_named bs)) ahead in
      let found : slice_get ns.labels at ≡ Some (shown n b.name) = label_found ns at n b.name (insts_named b.insts (blocks_named bs)) ahead in
      let block : InstsStand names ns gs (line + 1 + 1) (counted n b.name) insts (at + 1) (at + 1) front b.insts (blocks_named bs) =
      block_insts (line + 1 + 1) (counted n b.name) insts at (at + 1) b (blocks_named bs) fits.0 (label_passed ns at n b.name (insts_named b.insts (blocks_named bs)) ahead) in
      let rest : LinesStand (line + 1 + 1 + length (insts_forms ns gs b.insts)) block.next block.insts_after (at + 1) (more_blocks_forms ns gs (at + 1) bs) =
      more_stand (line + 1 + 1 + length (insts_forms ns gs b.insts)) block.next block.insts_after (at + 1) bs (some_block at) fits.1 block.ahead in
      let after : List Line = insts_forms ns gs b.insts ++ more_blocks_forms ns gs (at + 1) bs in
      record {
        next = rest.next;
        insts_after = rest.insts_after;
        blocks_after = rest.blocks_after;
        stand =
            ap (λ (name : Option (List ℕ)). body_lines names (line + 1) (place n insts at no_block) (label_forms name ++ after)) found
            ∙ ap (λ (r : Result Place ReadRefusal). r >>= (λ q. body_lines names (line + 1 + 1) q after)) (label_stands (line + 1) n insts at b.name fits.0.named small)
            ∙ past_label (line + 1 + 1) (counted n b.name) insts at b bs block rest;
        some = rest.some;
      }

  -- the first block, which shows its label where that is written
  first_stands : (line n : ℕ) (b : Block) (bs : List Block) (name : Option (List ℕ)) → is_plain name ≡ true → IsFittingBlock names gs 0 b → AreFitting names gs 1 bs → Ahead ns 0 n (Label name ∷ insts_named b.insts (blocks_named bs)) →
      LinesStand line n 0 0 (label_forms name ++ (insts_forms ns gs b.insts ++ more_blocks_forms ns gs 1 bs))
  first_stands line n b bs None plain fits more ahead =
      let block : InstsStand names ns gs line (n + 1) 0 1 1 front b.insts (blocks_named bs) =
      block_insts line (n + 1) 0 0 1 b (blocks_named bs) fits (label_passed ns 0 n None (insts_named b.insts (blocks_named bs)) ahead) in
      let rest : LinesStand (line + length (insts_forms ns gs b.insts)) block.next block.insts_after 1 (more_blocks_forms ns gs 1 bs) =
      more_stand (line + length (insts_forms ns gs b.insts)) block.next block.insts_after 1 bs refl more block.ahead in
      record {
        next = rest.next;
        insts_after = rest.insts_after;
        blocks_after = rest.blocks_after;
        stand =
            unnamed_block line n 0 b.insts (more_blocks_forms ns gs 1 bs) fits.ends
            ∙ past_label line (n + 1) 0 0 b bs block rest;
        some = rest.some;
      }
  first_stands line n b bs (Some name) plain fits more ahead =
      let small : n < 2 ^ 64 = ahead_small ns 0 n (Label (Some name)) (insts_named b.insts (blocks_named bs)) ahead in
      let block : InstsStand names ns gs (line + 1) n 0 1 1 front b.insts (blocks_named bs) =
      block_insts (line + 1) n 0 0 1 b (blocks_named bs) fits (label_passed ns 0 n (Some name) (insts_named b.insts (blocks_named bs)) ahead) in
      let rest : LinesStand (line + 1 + length (insts_forms ns gs b.insts)) block.next block.insts_after 1 (more_blocks_forms ns gs 1 bs) =
      more_stand (line + 1 + length (insts_forms ns gs b.insts)) block.next block.insts_after 1 bs refl more block.ahead in
      record {
        next = rest.next;
        insts_after = rest.insts_after;
        blocks_after = rest.blocks_after;
        stand =
            ap (λ (r : Result Place ReadRefusal). r >>= (λ q. body_lines names (line + 1) q (insts_forms ns gs b.insts ++ more_blocks_forms ns gs 1 bs))) (label_stands line n 0 0 (Some name) plain small)
            ∙ past_label (line + 1) n 0 0 b bs block rest;
        some = rest.some;
      }

  blocks_stand : (line n : ℕ) (bs : List Block) → 0 < length bs → AreFitting names gs 0 bs → Ahead ns 0 n (blocks_named bs) → LinesStand line n 0 0 (blocks_forms ns gs bs)
  blocks_stand line n [] some fits ahead = absurd (omega (arith, some))
  blocks_stand line n (b ∷ bs) some fits ahead = first_stands line n b bs b.name fits.0.named fits.0 fits.1 ahead

-- ---- a function

-- the header in this line is one that opens a function, whose body stands after it
pub record BodyStands (names gs : List (List ℕ)) (line : ℕ) (f : Func) : Type 0 where
  pub next : ℕ
  pub params : after_params line 0 (shown_params (names_of f) 0 f.params) ≡ Ok next
  pub lines : LinesStand names (names_of f) gs (line + 1) next 0 0 (body_forms gs f)

-- a function of the profile
pub record IsFittingFunc (names gs : List (List ℕ)) (f : Func) : Type 0 where
  pub params : All (λ (p : Param). is_plain p.name ≡ true) f.params
  pub some : 0 < length f.blocks
  pub blocks : AreFitting names gs 0 f.blocks
  pub apart : Apart (map (λ (p : Param). p.id) f.params ++ block_ids f.blocks)
  pub small : length (named_of f) < 2 ^ 64

pub all_ahead : (f : Func) → Apart (map (λ (p : Param). p.id) f.params ++ block_ids f.blocks) → length (named_of f) < 2 ^ 64 → Ahead (names_of f) 0 0 (named_of f)
all_ahead f apart small = record {
  past = [];
  locals = refl;
  labels = λ j. let same : 0 + j ≡ j = omega arith in ap (slice_get (labels_from 0 (named_of f))) same;
  small = omega (arith, small);
  apart = values_apart f.params f.blocks apart;
}

pub body_stands : (names gs : List (List ℕ)) (line : ℕ) (f : Func) → IsFittingFunc names gs f → BodyStands names gs line f
body_stands names gs line f fits =
    let taken : ParamsTaken (names_of f) line 0 0 0 f.params (blocks_named f.blocks) = params_taken (names_of f) line 0 0 0 f.params (blocks_named f.blocks) fits.params (all_ahead f fits.apart fits.small) in
    record { next = taken.next; params = taken.taken; lines = blocks_stand names (names_of f) gs (line + 1) taken.next f.blocks fits.some fits.blocks taken.ahead }

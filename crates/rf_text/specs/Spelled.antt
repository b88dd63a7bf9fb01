-- A text that spells a module: each line of the text has the form that the module has there, with the module's own names in the place
-- of ids. It is said of lines and names alone, without a reader's steps. A text that is accepted spells its module; and a formed module
-- that a text spells is the one that it reads as, and the only one (`Spells`).
--
-- From top to bottom: lines of a function, which forms the header and the blocks of a function have, and that the lines of a text are items.
use Rattle.std.specs.Prelude.{◌≡◌, refl, ℕ, ◌+◌, Bool, true, false, Option, None, Some, List, [], ◌∷◌, ◌++◌, map, codes}
use Rattle.std.specs.Fmt.{digits}
use Rattle.std.specs.List.{All, AllZip}
use Rattle.ir_lex.specs.Bytes.{is_blank, is_sigil, is_mark, is_word_byte, is_control, begins_name}
use Rattle.ir_lex.specs.Scan.{cut, texts, fault_of, more_len, name_len}
use Rattle.ir_lex.specs.Words.{word}
use Rattle.ir_types.specs.declared.ty.Ty.TheVariants.{Void, Ptr}
use Rattle.ir_types.specs.declared.op.Op.TheVariants.{Ret}
use Rattle.ir_types.specs.declared.func.Param.{Param}
use Rattle.ir_types.specs.declared.func.Block.{Block}
use Rattle.ir_types.specs.declared.func.Func.{Func}
use Rattle.ir_types.specs.declared.module.Item.{Item}
use Rattle.ir_types.specs.declared.module.Item.TheVariants.{Kept, Opaque, Func as FuncItem}
use Rattle.ir_types.specs.declared.module.Module.{Module}
use Rattle.ir_draft.specs.declared.head.Head.{Head}
use Rattle.ir_draft.specs.declared.line.Line.{Line}
use Rattle.ir_draft.specs.declared.line.Line.TheVariants as line
use Rattle.ir_forms.specs.Forms as form
use Rattle.ir_line.specs.Body.{Spells as SpellsInside, NoWord, Brace, Formed}
use Rattle.ir_line.specs.Outside.{Spells as SpellsOutside}
use Rattle.ir_print.specs.Names.{Names, names_of, local_of}
use Rattle.ir_read.specs.Forms.{form_in}
use Rattle.ir_read.specs.Lines.{lines_of}
use Rattle.ir_read.specs.Opaque.{is_opaque, joined}
use Rattle.ir_read.specs.Outlook.{outlook_of}
use Rattle.rf_text.specs.Headed.{first_name}
use Rattle.rf_text.specs.Written.{shown_text, shown_block}
use Rattle.rf_text.specs.ModuleForms.{insts_forms, kept_at, module_forms}
use Rattle.rf_text.specs.Printable.{IsPrintable, IsNumbered, IsCounted}

-- ---- lines of a function

-- whether a line of this form is the last of a function
abbrev pub closes : Line → Bool
closes line.Close = true
closes _ = false

-- lines that spell these forms inside a function; none of them is the brace
pub data AreInside : List (List ℕ) → List Line → Type 0 where
  NoLine : AreInside [] []
  OneLine : (l : List ℕ) (form : Line) (lines : List (List ℕ)) (forms : List Line) → SpellsInside l (cut l) form → closes form ≡ false → AreInside lines forms → AreInside (l ∷ lines) (form ∷ forms)

-- the line is the brace
abbrev pub IsBrace : List ℕ → Type 0
IsBrace l = SpellsInside l (cut l) line.Close

-- without the empty lines
abbrev pub solid : List Line → List Line
solid [] = []
solid (line.Empty ∷ forms) = solid forms
solid (form ∷ forms) = form ∷ solid forms

-- ---- the lines of a module

-- what may be written for a parameter of this name, for which this is shown: that, and for one without a name nothing
pub data MayWrite : Option (List ℕ) → List ℕ → Option (List ℕ) → Type 0 where
  AsShown : (name : Option (List ℕ)) (text : List ℕ) → MayWrite name text (Some text)
  LeftOut : (text : List ℕ) → MayWrite None text None

-- a parameter as it is written
pub record IsWrittenParam (ns : Names) (p written : Param) : Type 0 where
  pub name : MayWrite p.name (shown_text (local_of p.id ns.locals)) written.name
  pub ty : written.ty ≡ p.ty
  pub attrs : written.attrs ≡ p.attrs
  pub noalias : written.noalias ≡ p.noalias

-- the header of a function
pub record IsHeaderOf (f : Func) (head : Head) : Type 0 where
  pub before : head.before ≡ f.before
  pub ret : head.ret ≡ f.ret
  pub name : head.name ≡ f.name
  pub params : AllZip (IsWrittenParam (names_of f)) f.params head.params
  pub after : head.after ≡ f.after

-- the lines of blocks, of which the first has the number `at`: of each its label, by its name or its number, and its instructions with
-- names in the place of ids (`forms_of` in `Written`); a block without a name may have no label
pub data AreBlocks (ns : Names) (gs : List (List ℕ)) : ℕ → List Block → List Line → Type 0 where
  NoBlock : (at : ℕ) → AreBlocks ns gs at [] []
  Labelled : (at : ℕ) (b : Block) (bs : List Block) (more : List Line) → AreBlocks ns gs (at + 1) bs more → AreBlocks ns gs at (b ∷ bs) (line.Label (shown_block ns at) ∷ (insts_forms ns gs b.insts ++ more))
  Unlabelled : (at : ℕ) (b : Block) (bs : List Block) (more : List Line) → b.name ≡ None → AreBlocks ns gs (at + 1) bs more → AreBlocks ns gs at (b ∷ bs) (insts_forms ns gs b.insts ++ more)

-- ---- a text and a module

-- lines that are items, with empty lines between them, in a text whose lines have the forms `all`: a kept line; a function of the profile
-- from its header to its brace; an opaque function, which is kept as its lines are
pub data Laid (all : List (Option Line)) (gs : List (List ℕ)) : List Item → List (List ℕ) → Type 0 where
  NoItem : Laid all gs [] []
  EmptyLine : (l : List ℕ) (items : List Item) (lines : List (List ℕ)) → SpellsOutside l (cut l) line.Empty → Laid all gs items lines → Laid all gs items (l ∷ lines)
  KeptItem : (l text : List ℕ) (items : List Item) (lines : List (List ℕ)) → SpellsOutside l (cut l) (line.Kept (kept_at text)) → Laid all gs items lines → Laid all gs (Kept text ∷ items) (l ∷ lines)
  Function : (l brace : List ℕ) (f : Func) (head : Head) (body : List (List ℕ)) (forms : List Line) (items : List Item) (lines : List (List ℕ)) → SpellsOutside l (cut l) (line.Define (first_name f) (Some head)) → IsHeaderOf f head →
      AreInside body forms → AreBlocks (names_of f) gs 0 f.blocks (solid forms) → IsBrace brace → Laid all gs items lines → Laid all gs (FuncItem f ∷ items) (l ∷ (body ++ brace ∷ lines))
  OpaqueItem : (l brace : List ℕ) (name : Option (List ℕ)) (head : Option Head) (body : List (List ℕ)) (items : List Item) (lines : List (List ℕ)) → SpellsOutside l (cut l) (line.Define name head) →
      All (λ m. IsBrace m → ⊥) body → IsBrace brace → is_opaque (outlook_of all) head (map (form_in true) body ++ Some line.Close ∷ []) ≡ true → Laid all gs items lines →
      Laid all gs (Opaque (joined (l ∷ (body ++ brace ∷ []))) ∷ items) (l ∷ (body ++ brace ∷ lines))

pub record Spelled (bytes : List ℕ) (m : Module) : Type 0 where
  -- no line has a lexical fault
  pub sound : All (λ l. fault_of l ≡ None) (lines_of bytes)
  -- the lines are the items of the module
  pub laid : Laid (module_forms m) m.globals m.items (lines_of bytes)
  -- whose names are such as text can have, each given once, and whose ids are 0, 1 and so on
  pub printable : IsPrintable m
  pub numbered : IsNumbered m
  -- each function has no more values and blocks than 64 bits can number
  pub counted : IsCounted m

-- ---- an example: a function with one parameter and one block, both without a name

example_lines : List (List ℕ)
example_lines = codes "  ret void ; done" ∷ [] ∷ []

example_forms : List Line
example_forms = line.Stmt (record { result = None; ty = Void; op = Ret; args = []; labels = [] }) ∷ line.Empty ∷ []

-- each line spells its form
example_inside : AreInside example_lines example_forms
unfolding example_lines example_forms cut more_len name_len is_blank is_sigil is_mark is_word_byte is_control begins_name word
example_inside = OneLine _ _ _ _ (Formed form.Return refl (codes "void" ∷ [], refl, ([], refl, refl))) refl (OneLine _ _ _ _ (NoWord refl) refl NoLine)

example_brace : IsBrace (codes " } ")
unfolding cut more_len name_len is_blank is_sigil is_mark is_word_byte is_control begins_name word
example_brace = Brace refl

example : Func
example = record {
  before = [];
  ret = Void;
  name = codes "f";
  params = record { id = record { region = 0; k = 4 }; name = None; ty = Ptr; attrs = []; noalias = false } ∷ [];
  after = [];
  blocks = record { name = None; insts = record { id = record { region = 0; k = 5 }; name = None; ty = Void; op = Ret; opds = [] } ∷ [] } ∷ [];
}

-- and the function has these lines, whether its parameter is written as `ptr` or as `ptr %0`
header_with : Func → List Param → Head
header_with f params = record { before = f.before; ret = f.ret; name = f.name; params = params; after = f.after }

bare : Param
bare = record { id = record { region = 0; k = 0 }; name = None; ty = Ptr; attrs = []; noalias = false }

numbered : Param
numbered = record { id = record { region = 0; k = 0 }; name = Some (codes "0"); ty = Ptr; attrs = []; noalias = false }

bare_header : IsHeaderOf example (header_with example (bare ∷ []))
unfolding example bare header_with digits
bare_header = record { before = refl; ret = refl; name = refl; params = (record { name = LeftOut _; ty = refl; attrs = refl; noalias = refl }, tt); after = refl }

numbered_header : IsHeaderOf example (header_with example (numbered ∷ []))
unfolding example numbered header_with digits
numbered_header = record { before = refl; ret = refl; name = refl; params = (record { name = AsShown None _; ty = refl; attrs = refl; noalias = refl }, tt); after = refl }

example_blocks : AreBlocks (names_of example) [] 0 example.blocks (solid example_forms)
unfolding example example_forms texts digits
example_blocks = Unlabelled 0 _ [] [] refl (NoBlock 1)

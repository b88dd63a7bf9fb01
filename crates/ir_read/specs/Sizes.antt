-- How large the items of a draft are: the instructions, and the most values and blocks of any function.
--
-- A block begins at its label; where none is open, an instruction begins one. A kept line and an opaque function have none of these.
use Rattle.std.specs.Prelude.{◌≡◌, refl, ℕ, ◌+◌, Bool, true, false, cond, None, List, [], ◌∷◌, length, max}
use Rattle.ir_types.specs.declared.ty.Ty.TheVariants.{Void}
use Rattle.ir_types.specs.declared.op.Op.TheVariants.{Ret}
use Rattle.ir_draft.specs.declared.line.Line.{Line}
use Rattle.ir_draft.specs.declared.line.Line.TheVariants as line
use Rattle.ir_draft.specs.declared.draft.Numbered.{Numbered}
use Rattle.ir_draft.specs.declared.draft.DraftItem.{DraftItem}
use Rattle.ir_draft.specs.declared.draft.DraftItem.TheVariants.{Func}
use Rattle.ir_read.specs.declared.size.Size.{Size}
use Rattle.ir_read.specs.Limits.{no_size}
use Rattle.ir_read.specs.Position.{is_between, spot_after}

-- how many instructions a line is
abbrev pub insts_at : Line → ℕ
insts_at (line.Stmt s) = 1
insts_at _ = 0

abbrev pub insts_in : List Numbered → ℕ
insts_in [] = 0
insts_in (x ∷ xs) = insts_at x.form + insts_in xs

-- how many blocks a line begins, where none is open or one is
abbrev pub blocks_at : Bool → Line → ℕ
blocks_at between (line.Label name) = 1
blocks_at between (line.Stmt s) = cond between 1 0
blocks_at between _ = 0

-- whether none is open after it
abbrev pub between_after : Bool → Line → Bool
between_after between (line.Label name) = false
between_after between (line.Stmt s) = is_between (spot_after s.op)
between_after between line.CasesEnd = true
between_after between _ = between

abbrev pub blocks_in : Bool → List Numbered → ℕ
blocks_in between [] = 0
blocks_in between (x ∷ xs) = blocks_at between x.form + blocks_in (between_after between x.form) xs

-- with one more item
abbrev pub sized : Size → DraftItem → Size
sized size (Func n head body) = record {
  insts = size.insts + insts_in body;
  values = max size.values (length head.params + insts_in body);
  blocks = max size.blocks (blocks_in true body);
}
sized size _ = size

abbrev pub sized_all : Size → List DraftItem → Size
sized_all size [] = size
sized_all size (x ∷ xs) = sized_all (sized size x) xs

abbrev pub size_of : List DraftItem → Size
size_of items = sized_all no_size items

-- an unnamed block of one instruction
one_block : blocks_in true (record { line = 2; form = line.Stmt (record { result = None; ty = Void; op = Ret; args = []; labels = [] }) } ∷ []) ≡ 1
one_block = refl

-- What the names that a line uses stand for, or the first that is unknown, in order of text.
--
-- An operand names a value of the function or a global, a label a block of the function, and a call a function of the draft. A
-- label used as a value is unknown, and so is a value used as a label.
use Rattle.std.specs.Prelude.{ℕ, ◌+◌, Option, None, Some, Result, Ok, Err, List, [], ◌∷◌, ◌++◌, map, slice_get, unwrap_or}
use Rattle.ir_types.specs.declared.opd.Opd.{Opd}
use Rattle.ir_types.specs.declared.opd.Opd.TheVariants.{Val, Lit, Sym}
use Rattle.ir_types.specs.declared.op.Op.{Op}
use Rattle.ir_types.specs.declared.op.Op.TheVariants.{Phi, Br, CondBr, Switch, Call}
use Rattle.ir_types.specs.declared.literal.Literal.{Literal}
use Rattle.ir_draft.specs.declared.written.Written.{Written}
use Rattle.ir_draft.specs.declared.written.Written.TheVariants as written
use Rattle.ir_draft.specs.declared.written.Arg.{Arg}
use Rattle.ir_draft.specs.declared.stmt.Stmt.{Stmt}
use Rattle.ir_draft.specs.declared.line.Line.{Line}
use Rattle.ir_draft.specs.declared.line.Line.TheVariants as line
use Rattle.ir_draft.specs.declared.draft.Numbered.{Numbered}
use Rattle.ir_types_check.specs.declared.locals.Meaning.{Meaning}
use Rattle.ir_types_check.specs.declared.locals.Meaning.TheVariants.{Value, Block}
use Rattle.ir_types_check.specs.declared.tops.Top.{Top}
use Rattle.ir_types_check.specs.declared.tops.Top.TheVariants.{Global, Function}
use Rattle.ir_types_check.specs.declared.links.Linked.{Linked}
use Rattle.ir_types_check.specs.declared.links.Cases.{Cases}
use Rattle.ir_types_check.specs.declared.refusal.ResolveRefusal.{ResolveRefusal}
use Rattle.ir_types_check.specs.declared.refusal.ResolveRefusal.TheVariants.{Unknown}
use Rattle.ir_types_check.specs.Answers.{◌>>=◌}
use Rattle.ir_types_check.specs.Scope.{Scope, meaning, of_module, of_function}

-- ---- one name, used in the line n

-- a value; `base` is the number of the function's first parameter or instruction in the module
abbrev pub value_of : ℕ → ℕ → List ℕ → Option Meaning → Result Opd ResolveRefusal
value_of base n name (Some (Value place ty)) = Ok (Val (record { region = 0; k = base + place }))
value_of base n name _ = Err (Unknown n (of_function ∷ name))

abbrev pub global_of : ℕ → List ℕ → Option Top → Result Opd ResolveRefusal
global_of n name (Some (Global number)) = Ok (Sym number)
global_of n name _ = Err (Unknown n (of_module ∷ name))

abbrev pub block_of : ℕ → List ℕ → Option Meaning → Result ℕ ResolveRefusal
block_of n name (Some (Block number)) = Ok number
block_of n name _ = Err (Unknown n (of_function ∷ name))

abbrev pub callee_of : ℕ → List ℕ → Option Top → Result (Unit {0}) ResolveRefusal
callee_of n name (Some (Function signature)) = Ok tt
callee_of n name _ = Err (Unknown n (of_module ∷ name))

-- ---- the names of a line

-- the operand that is written
abbrev pub opd_of : Scope Top → Scope Meaning → ℕ → ℕ → Written → Result Opd ResolveRefusal
opd_of tops locals base n (written.Local name) = value_of base n name (meaning name locals)
opd_of tops locals base n (written.Symbol name) = global_of n name (meaning name tops)
opd_of tops locals base n (written.Lit literal) = Ok (Lit literal)

-- these operands, and after them those that are written
abbrev pub opds_onto : Scope Top → Scope Meaning → ℕ → ℕ → List Opd → List Arg → Result (List Opd) ResolveRefusal
opds_onto tops locals base n done [] = Ok done
opds_onto tops locals base n done (a ∷ args) = opd_of tops locals base n a.opd >>= λ o. opds_onto tops locals base n (done ++ o ∷ []) args

-- these blocks, and after them those of some labels
abbrev pub blocks_onto : Scope Meaning → ℕ → List ℕ → List (List ℕ) → Result (List ℕ) ResolveRefusal
blocks_onto locals n done [] = Ok done
blocks_onto locals n done (l ∷ labels) = block_of n l (meaning l locals) >>= λ b. blocks_onto locals n (done ++ b ∷ []) labels

-- the operands, then the labels
unfoldable pub in_order : Scope Top → Scope Meaning → ℕ → ℕ → Stmt → Result Linked ResolveRefusal
in_order tops locals base n s = opds_onto tops locals base n [] s.args >>= λ opds. blocks_onto locals n [] s.labels >>= λ blocks. Ok (record { opds = opds; blocks = blocks })

-- one operand and one label
unfoldable pub with_pair : Scope Top → Scope Meaning → ℕ → ℕ → Linked → Written → List ℕ → Result Linked ResolveRefusal
with_pair tops locals base n done opd label =
    opd_of tops locals base n opd >>= λ o. block_of n label (meaning label locals) >>= λ b. Ok (record { opds = done.opds ++ o ∷ []; blocks = done.blocks ++ b ∷ [] })

-- operands and labels by turns, as many as there are of both
abbrev pub pairs_onto : Scope Top → Scope Meaning → ℕ → ℕ → Linked → List Arg → List (List ℕ) → Result Linked ResolveRefusal
pairs_onto tops locals base n done (a ∷ args) (l ∷ labels) = with_pair tops locals base n done a.opd l >>= λ after. pairs_onto tops locals base n after args labels
pairs_onto tops locals base n done _ _ = Ok done

-- what the names of a statement stand for: of a `phi` by turns, of a call after its callee
abbrev pub linked_by : Scope Top → Scope Meaning → ℕ → ℕ → Stmt → Op → Result Linked ResolveRefusal
linked_by tops locals base n s (Phi blocks) = pairs_onto tops locals base n (record { opds = []; blocks = [] }) s.args s.labels
linked_by tops locals base n s (Call site) = callee_of n site.callee (meaning site.callee tops) >>= λ _. in_order tops locals base n s
linked_by tops locals base n s _ = in_order tops locals base n s

abbrev pub linked : Scope Top → Scope Meaning → ℕ → ℕ → Stmt → Result Linked ResolveRefusal
linked tops locals base n s = linked_by tops locals base n s s.op

-- ---- the cases of a `switch`, which are the lines after it up to the first that is no case

-- the lane of a case's literal
abbrev pub lane_of : Literal → Option ℕ
lane_of literal = unwrap_or (slice_get literal.lanes 0) None

-- a case: its line, its number, its label
pub record Choice : Type 0 where
  pub line : ℕ
  pub value : Literal
  pub label : List ℕ

abbrev pub choice_before : ℕ → Line → List Choice → List Choice
choice_before n (line.Case value label) rest = record { line = n; value = value; label = label } ∷ rest
choice_before n _ rest = []

abbrev pub choices : List Numbered → List Choice
choices [] = []
choices (x ∷ xs) = choice_before x.line x.form (choices xs)

-- with one more case
unfoldable pub with_choice : Scope Meaning → Cases → Choice → Result Cases ResolveRefusal
with_choice locals done c =
    block_of c.line c.label (meaning c.label locals) >>= λ b. Ok (record { values = done.values ++ lane_of c.value ∷ []; to = done.to ++ b ∷ [] })

abbrev pub cases_onto : Scope Meaning → Cases → List Choice → Result Cases ResolveRefusal
cases_onto locals done [] = Ok done
cases_onto locals done (c ∷ cs) = with_choice locals done c >>= λ after. cases_onto locals after cs

-- the cases of an operation, of which a `switch` alone has some, where these lines follow it
abbrev pub cases_of : Scope Meaning → Op → List Numbered → Result Cases ResolveRefusal
cases_of locals (Switch other cases to) rest = cases_onto locals (record { values = []; to = [] }) (choices rest)
cases_of locals _ rest = Ok (record { values = []; to = [] })

-- ---- operations

-- the block at a place among the labels; what is no place is the first block
abbrev pub block_at : List ℕ → ℕ → ℕ
block_at blocks place = unwrap_or (slice_get blocks place) 0

-- the operation with blocks in place of the places of labels, and with its cases
abbrev pub op_of : List ℕ → Cases → Op → Op
op_of blocks cases (Phi places) = Phi (map (block_at blocks) places)
op_of blocks cases (Br to) = Br (block_at blocks to)
op_of blocks cases (CondBr first second) = CondBr (block_at blocks first) (block_at blocks second)
op_of blocks cases (Switch other values to) = Switch (block_at blocks other) cases.values cases.to
op_of blocks cases op = op

-- The lines of a function: which are outside the profile, and what each makes of the function that is open.
use Rattle.std.specs.Prelude.{ℕ, Bool, true, false, not, ◌||◌, cond, Result, Ok, Err, List, [], ◌∷◌, ◌++◌}
use Rattle.ir_types.specs.declared.op.Op.{Op}
use Rattle.ir_types.specs.declared.op.Op.TheVariants.{Alloca, Call}
use Rattle.ir_draft.specs.declared.written.Written.{Written}
use Rattle.ir_draft.specs.declared.written.Written.TheVariants.{Symbol}
use Rattle.ir_draft.specs.declared.written.Arg.{Arg}
use Rattle.ir_draft.specs.declared.stmt.Stmt.{Stmt}
use Rattle.ir_draft.specs.declared.head.Head.{Head}
use Rattle.ir_draft.specs.declared.line.Line.{Line}
use Rattle.ir_draft.specs.declared.line.Line.TheVariants as line
use Rattle.ir_read.specs.declared.open_function.OpenFunction.{OpenFunction as Open}
use Rattle.ir_read.specs.declared.position.Position.{Position}
use Rattle.ir_read.specs.declared.refusal.ReadRefusal.{ReadRefusal}
use Rattle.ir_read.specs.declared.refusal.ReadRefusal.TheVariants.{NotALine}
use Rattle.ir_read.specs.Answers.{◌>>=◌}
use Rattle.ir_read.specs.Outlook.{has}
use Rattle.ir_read.specs.Numbers.{after_params}
use Rattle.ir_read.specs.Position.{in_first, start, after_label, after_stmt, after_case, after_cases, at_close}

-- whether an operand is one of these names
abbrev pub is_barred : List (List ℕ) → Written → Bool
is_barred names (Symbol name) = has names name
is_barred names _ = false

-- whether one of these operands is
abbrev pub any_barred : List (List ℕ) → List Arg → Bool
any_barred names [] = false
any_barred names (a ∷ args) = is_barred names a.opd || any_barred names args

-- whether an operation is outside the profile: an `alloca` outside the first block, or a call
abbrev pub is_foreign : Position → Op → Bool
is_foreign p (Alloca elem align) = not (in_first p)
is_foreign p (Call site) = true
is_foreign p _ = false

-- whether an instruction is outside the profile
abbrev pub is_outside : List (List ℕ) → Position → Stmt → Bool
is_outside names p s = is_foreign p s.op || any_barred names s.args

-- after the line n, which is an instruction; one that is both outside the profile and misplaced is outside the profile
unfoldable pub after_inst : List (List ℕ) → ℕ → Position → Stmt → Result Position ReadRefusal
after_inst names n p s = cond (is_outside names p s) (Err (NotALine n)) (after_stmt n p s)

-- after the line n of a function, which has this form
abbrev pub after_line : List (List ℕ) → ℕ → Position → Line → Result Position ReadRefusal
after_line names n p line.Empty = Ok p
after_line names n p (line.Label name) = after_label n p name
after_line names n p (line.Stmt stmt) = after_inst names n p stmt
after_line names n p (line.Case value label) = after_case n p
after_line names n p line.CasesEnd = after_cases n p
after_line names n p line.Close = at_close n p
after_line names n p _ = Err (NotALine n)

-- the function that a header in the line n opens
unfoldable pub opened_by : ℕ → Head → Result Open ReadRefusal
opened_by n head = after_params n 0 head.params >>= (λ next. Ok (record { line = n; head = head; body = []; at = start next }))

-- the function with one more line
unfoldable pub with_line : Open → ℕ → Line → Position → Open
with_line o n form p = record { line = o.line; head = o.head; body = o.body ++ record { line = n; form = form } ∷ []; at = p }

-- The names of a function: its parameters, labels and results have one namespace.
use Rattle.std.specs.Prelude.{ℕ, cond, Option, None, Some, Result, Ok, List, [], ◌∷◌}
use Rattle.std.specs.Fmt.{decimal}
use Rattle.ir_types.specs.declared.func.Param.{Param}
use Rattle.ir_draft.specs.declared.head.Head.{Head}
use Rattle.ir_draft.specs.declared.stmt.Stmt.{Stmt}
use Rattle.ir_draft.specs.declared.line.Line.{Line}
use Rattle.ir_draft.specs.declared.line.Line.TheVariants as line
use Rattle.ir_draft.specs.declared.draft.Numbered.{Numbered}
use Rattle.ir_types_check.specs.declared.locals.Meaning.{Meaning}
use Rattle.ir_types_check.specs.declared.locals.Meaning.TheVariants.{Value, Block}
use Rattle.ir_types_check.specs.declared.locals.Locals.{Locals}
use Rattle.ir_types_check.specs.declared.outline.At.{At}
use Rattle.ir_types_check.specs.declared.refusal.ResolveRefusal.{ResolveRefusal}
use Rattle.ir_types_check.specs.Answers.{◌>>=◌}
use Rattle.ir_types_check.specs.Scope.{define, of_function}
use Rattle.ir_types_check.specs.Outline.{start, opened, past_param, after_label, after_inst, param_name}

-- the locals with a name that the line n defines, where the next line then stands there
unfoldable pub with_name : ℕ → Locals → List ℕ → Meaning → At → Result Locals ResolveRefusal
with_name n l name m at = define n of_function name m l.scope >>= λ scope. Ok (record { scope = scope; at = at })

-- with a parameter; the header's line is n
unfoldable pub with_param : ℕ → Locals → Param → Result Locals ResolveRefusal
with_param n l p = with_name n l (param_name l.at.next p.name) (Value l.at.place p.ty) (past_param l.at p)

abbrev pub with_params : ℕ → Locals → List Param → Result Locals ResolveRefusal
with_params n l [] = Ok l
with_params n l (p ∷ ps) = with_param n l p >>= λ after. with_params n after ps

-- with a label
unfoldable pub with_label : ℕ → Locals → List ℕ → Result Locals ResolveRefusal
with_label n l name = with_name n l name (Block l.at.blocks) (after_label l.at name)

-- with a block open: an unnamed one is known by its number
unfoldable pub with_opened : ℕ → Locals → Result Locals ResolveRefusal
with_opened n l = cond l.at.is_open (Ok l) (with_name n l (decimal l.at.next) (Block l.at.blocks) (opened l.at))

-- with the result of an instruction, if it has one
abbrev pub with_result : ℕ → Locals → Stmt → Option (List ℕ) → Result Locals ResolveRefusal
with_result n l s None = Ok (record { scope = l.scope; at = after_inst l.at s })
with_result n l s (Some name) = with_name n l name (Value l.at.place s.ty) (after_inst l.at s)

-- with an instruction; the block that it begins comes before its result
unfoldable pub with_stmt : ℕ → Locals → Stmt → Result Locals ResolveRefusal
with_stmt n l s = with_opened n l >>= λ o. with_result n o s s.result

-- with a line of the body, which has the number n
abbrev pub with_line : ℕ → Locals → Line → Result Locals ResolveRefusal
with_line n l (line.Label name) = with_label n l name
with_line n l (line.Stmt s) = with_stmt n l s
with_line n l _ = Ok l

abbrev pub with_lines : Locals → List Numbered → Result Locals ResolveRefusal
with_lines l [] = Ok l
with_lines l (x ∷ xs) = with_line x.line l x.form >>= λ after. with_lines after xs

-- the names of a function whose header's line is n, and where its end stands; or the first name that is defined twice
unfoldable pub locals_of : ℕ → Head → List Numbered → Result Locals ResolveRefusal
locals_of n head body = with_params n (record { scope = []; at = start }) head.params >>= λ l. with_lines l body

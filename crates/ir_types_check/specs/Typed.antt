-- The first line that is ill typed, in a draft whose names are known.
--
-- A line is ill typed where
-- - an operand that is a local has another type than the one written;
-- - a returned type is not the function's;
-- - a branch goes to the first block;
-- - a case is not of the switch's type, or its number stood in an earlier case;
-- - a phi stands in the first block, its incoming blocks are not the block's predecessors, each as often as it has edges to the
--   block, or one incoming block brings two operands;
-- - a call gives or takes what its callee's header does not.
use Rattle.std.specs.Prelude.{ℕ, Bool, true, false, not, ◌&&◌, cond, Option, None, Some, Result, Ok, List, [], ◌∷◌, ◌++◌, map, bytes_eq, nat_eq, slice_get, unwrap_or, slice_set, replicate}
use Rattle.std.specs.List.{list_all, list_any, count_by}
use Rattle.ir_types.specs.declared.ty.Ty.{Ty}
use Rattle.ir_types.specs.declared.ty.Ty.TheVariants.{Void, Int, Ptr, Row}
use Rattle.ir_types.specs.declared.literal.Literal.{Literal}
use Rattle.ir_types.specs.declared.op.Op.{Op}
use Rattle.ir_types.specs.declared.op.Op.TheVariants.{Phi, Ret, Br, CondBr, Switch, Call}
use Rattle.ir_types.specs.Typed.{same_ty}
use Rattle.ir_draft.specs.declared.head.Head.{Head}
use Rattle.ir_draft.specs.declared.written.Written.{Written}
use Rattle.ir_draft.specs.declared.written.Written.TheVariants as written
use Rattle.ir_draft.specs.declared.written.Arg.{Arg}
use Rattle.ir_draft.specs.declared.stmt.Stmt.{Stmt}
use Rattle.ir_draft.specs.declared.line.Line.{Line}
use Rattle.ir_draft.specs.declared.line.Line.TheVariants as line
use Rattle.ir_draft.specs.declared.draft.Numbered.{Numbered}
use Rattle.ir_draft.specs.declared.draft.DraftItem.{DraftItem}
use Rattle.ir_draft.specs.declared.draft.DraftItem.TheVariants as item
use Rattle.ir_types_check.specs.declared.outline.At.{At}
use Rattle.ir_types_check.specs.declared.locals.Meaning.{Meaning}
use Rattle.ir_types_check.specs.declared.locals.Meaning.TheVariants.{Value, Block}
use Rattle.ir_types_check.specs.declared.locals.Locals.{Locals}
use Rattle.ir_types_check.specs.declared.tops.Top.{Top}
use Rattle.ir_types_check.specs.declared.tops.Top.TheVariants.{Function}
use Rattle.ir_types_check.specs.declared.refusal.ResolveRefusal.{ResolveRefusal}
use Rattle.ir_types_check.specs.Answers.{◌>>=◌, well_typed}
use Rattle.ir_types_check.specs.Scope.{Scope, meaning}
use Rattle.ir_types_check.specs.Outline.{start, past, block_here}
use Rattle.ir_types_check.specs.Locals.{locals_of}
use Rattle.ir_types_check.specs.Links.{Choice, choices, lane_of}

-- ---- types

-- whether what a name means is a value of the type
abbrev pub is_value_of : Ty → Option Meaning → Bool
is_value_of ty (Some (Value place t)) = same_ty t ty
is_value_of ty _ = false

-- whether an operand has the type that is written for it; a literal has, and so has a global
abbrev pub fits_type : Scope Meaning → Ty → Written → Bool
fits_type locals ty (written.Local name) = is_value_of ty (meaning name locals)
fits_type locals ty _ = true

abbrev pub arg_fits : Scope Meaning → Arg → Bool
arg_fits locals a = fits_type locals a.ty a.opd

-- the type of the first operand, if there is one
abbrev pub first_ty : List Arg → Ty
first_ty [] = Void
first_ty (a ∷ args) = a.ty

-- whether operands are written with these types
abbrev pub takes : List Ty → List Arg → Bool
takes [] [] = true
takes (t ∷ ts) (a ∷ args) = same_ty t a.ty && takes ts args
takes _ _ = false

-- whether a call gives and takes what its callee does
abbrev pub calls : Ty → List Arg → Option Top → Bool
calls ty args (Some (Function signature)) = same_ty signature.ret ty && takes signature.params args
calls ty args _ = false

-- ---- targets and edges

-- the number of the block that a name means; what means none goes as the first
abbrev pub number_in : Option Meaning → ℕ
number_in (Some (Block number)) = number
number_in _ = 0

abbrev pub number_of : Scope Meaning → List ℕ → ℕ
number_of locals label = number_in (meaning label locals)

-- the block of the label at a place
abbrev pub number_at : Scope Meaning → List (List ℕ) → ℕ → ℕ
number_at locals labels place = number_of locals (unwrap_or (slice_get labels place) [])

-- the targets that a branch or a `switch` names in its own line
abbrev pub targets : Scope Meaning → List (List ℕ) → Op → List ℕ
targets locals labels (Br to) = number_at locals labels to ∷ []
targets locals labels (CondBr first second) = number_at locals labels first ∷ number_at locals labels second ∷ []
targets locals labels (Switch other cases to) = number_at locals labels other ∷ []
targets locals labels _ = []

-- a target is not the first block
abbrev pub is_target : ℕ → Bool
is_target number = not (nat_eq number 0)

abbrev pub choice_targets : Scope Meaning → List Choice → List ℕ
choice_targets locals cs = map (λ (c : Choice). number_of locals c.label) cs

-- the targets that a `switch` names in the lines after it
abbrev pub case_targets : Scope Meaning → Op → List Numbered → List ℕ
case_targets locals (Switch other cases to) rest = choice_targets locals (choices rest)
case_targets locals _ rest = []

-- sources: for each block the blocks with an edge to it, one for each edge

abbrev pub sources_at : List (List ℕ) → ℕ → List ℕ
sources_at sources to = unwrap_or (slice_get sources to) []

abbrev pub with_edge : ℕ → List (List ℕ) → ℕ → List (List ℕ)
with_edge from sources to = slice_set sources to (sources_at sources to ++ from ∷ [])

abbrev pub with_edges : ℕ → List (List ℕ) → List ℕ → List (List ℕ)
with_edges from sources [] = sources
with_edges from sources (to ∷ rest) = with_edges from (with_edge from sources to) rest

-- with the edges of a line, after which these follow
abbrev pub with_line_edges : Scope Meaning → At → List (List ℕ) → Line → List Numbered → List (List ℕ)
with_line_edges locals at sources (line.Stmt s) rest =
    with_edges (block_here at) (with_edges (block_here at) sources (targets locals s.labels s.op)) (case_targets locals s.op rest)
with_line_edges locals at sources _ rest = sources

abbrev pub sources_from : Scope Meaning → At → List (List ℕ) → List Numbered → List (List ℕ)
sources_from locals at sources [] = sources
sources_from locals at sources (x ∷ xs) = sources_from locals (past at x.form) (with_line_edges locals at sources x.form xs) xs

abbrev pub sources_of : Locals → List Numbered → List (List ℕ)
sources_of l body = sources_from l.scope start (replicate l.at.blocks []) body

-- ---- phis

abbrev pub count : ℕ → List ℕ → ℕ
count b bs = count_by (nat_eq b) bs

-- whether each block stands as often in the one list as in the other
abbrev pub same_blocks : List ℕ → List ℕ → Bool
same_blocks xs ys = list_all (λ b. nat_eq (count b xs) (count b ys)) (xs ++ ys)

abbrev pub same_lane : Option ℕ → Option ℕ → Bool
same_lane None None = true
same_lane (Some a) (Some b) = nat_eq a b
same_lane _ _ = false

abbrev pub same_lanes : List (Option ℕ) → List (Option ℕ) → Bool
same_lanes [] [] = true
same_lanes (a ∷ more) (b ∷ others) = same_lane a b && same_lanes more others
same_lanes _ _ = false

abbrev pub same_literal : Literal → Literal → Bool
same_literal a b = same_ty a.ty b.ty && same_lanes a.lanes b.lanes

-- whether two operands are one; no two names mean one value or one global
abbrev pub same_opd : Written → Written → Bool
same_opd (written.Local a) (written.Local b) = bytes_eq a b
same_opd (written.Symbol a) (written.Symbol b) = bytes_eq a b
same_opd (written.Lit a) (written.Lit b) = same_literal a b
same_opd _ _ = false

-- whether an operand is the one that its block brought before, if it did
abbrev pub is_brought : Option Written → Written → Bool
is_brought None opd = true
is_brought (Some before) opd = same_opd before opd

-- what the blocks brought, with one more
abbrev pub with_brought : Scope Written → List ℕ → Written → Option Written → Scope Written
with_brought brought label opd None = brought ++ (label, opd) ∷ []
with_brought brought label opd (Some before) = brought

-- whether each label brings one operand, where some have brought theirs
abbrev pub agree : Scope Written → List (List ℕ) → List Arg → Bool
agree brought (l ∷ labels) (a ∷ args) =
    is_brought (meaning l brought) a.opd && agree (with_brought brought l a.opd (meaning l brought)) labels args
agree brought _ _ = true

-- whether a phi of the block fits the edges to it; one of the first block never does
abbrev pub phi_fits : Scope Meaning → List (List ℕ) → ℕ → Stmt → List ℕ → Bool
phi_fits locals sources here s places =
    is_target here && same_blocks (map (number_at locals s.labels) places) (sources_at sources here) && agree [] s.labels s.args

-- ---- lines

-- whether a statement of the block does what its operation asks, but for the types of operands
abbrev pub op_fits : Scope Top → Scope Meaning → Ty → List (List ℕ) → ℕ → Stmt → Op → Bool
op_fits tops locals ret sources here s Ret = same_ty (first_ty s.args) ret
op_fits tops locals ret sources here s (Phi places) = phi_fits locals sources here s places
op_fits tops locals ret sources here s (Call site) = calls s.ty s.args (meaning site.callee tops)
op_fits tops locals ret sources here s op = list_all is_target (targets locals s.labels op)

abbrev pub stmt_fits : Scope Top → Scope Meaning → Ty → List (List ℕ) → ℕ → Stmt → Bool
stmt_fits tops locals ret sources here s = list_all (arg_fits locals) s.args && op_fits tops locals ret sources here s s.op

-- the number of a case
abbrev pub lane_number : Option ℕ → ℕ
lane_number None = 0
lane_number (Some n) = n

abbrev pub literal_number : Literal → ℕ
literal_number literal = lane_number (lane_of literal)

abbrev pub case_number : Choice → ℕ
case_number c = literal_number c.value

-- the numbers with one more, each once
abbrev pub with_number : List ℕ → ℕ → List ℕ
with_number numbers n = cond (list_any (nat_eq n) numbers) numbers (numbers ++ n ∷ [])

-- whether a case is of the type, has a number that is not among these, and goes not to the first block
abbrev pub choice_fits : Scope Meaning → Ty → List ℕ → Choice → Bool
choice_fits locals ty numbers c =
    same_ty c.value.ty ty && not (list_any (nat_eq (case_number c)) numbers) && is_target (number_of locals c.label)

abbrev pub choices_typed : Scope Meaning → Ty → List ℕ → List Choice → Result (Unit {0}) ResolveRefusal
choices_typed locals ty numbers [] = Ok tt
choices_typed locals ty numbers (c ∷ cs) = well_typed c.line (choice_fits locals ty numbers c) >>= λ _. choices_typed locals ty (with_number numbers (case_number c)) cs

abbrev pub cases_typed : Scope Meaning → Stmt → Op → List Numbered → Result (Unit {0}) ResolveRefusal
cases_typed locals s (Switch other cases to) rest = choices_typed locals (first_ty s.args) [] (choices rest)
cases_typed locals s _ rest = Ok tt

-- the line n, after which these follow
abbrev pub line_typed : Scope Top → Scope Meaning → Ty → List (List ℕ) → At → ℕ → Line → List Numbered → Result (Unit {0}) ResolveRefusal
line_typed tops locals ret sources at n (line.Stmt s) rest =
    well_typed n (stmt_fits tops locals ret sources (block_here at) s) >>= λ _. cases_typed locals s s.op rest
line_typed tops locals ret sources at n _ rest = Ok tt

abbrev pub lines_typed : Scope Top → Scope Meaning → Ty → List (List ℕ) → At → List Numbered → Result (Unit {0}) ResolveRefusal
lines_typed tops locals ret sources at [] = Ok tt
lines_typed tops locals ret sources at (x ∷ xs) =
    line_typed tops locals ret sources at x.line x.form xs >>= λ _. lines_typed tops locals ret sources (past at x.form) xs

-- ---- functions and items

unfoldable pub function_typed : Scope Top → ℕ → Head → List Numbered → Result (Unit {0}) ResolveRefusal
function_typed tops n head body = locals_of n head body >>= λ l. lines_typed tops l.scope head.ret (sources_of l body) start body

abbrev pub item_typed : Scope Top → DraftItem → Result (Unit {0}) ResolveRefusal
item_typed tops (item.Func n head body) = function_typed tops n head body
item_typed tops _ = Ok tt

-- nothing, or the first line that is ill typed
abbrev pub items_typed : Scope Top → List DraftItem → Result (Unit {0}) ResolveRefusal
items_typed tops [] = Ok tt
items_typed tops (x ∷ xs) = item_typed tops x >>= λ _. items_typed tops xs

-- The functions of a module: blocks and instructions in order, each parameter and instruction with the next id of the module.
use Rattle.std.specs.Prelude.{ℕ, ◌+◌, Bool, true, false, Option, None, Some, Result, Ok, List, [], ◌∷◌, ◌++◌, length}
use Rattle.ir_types.specs.declared.id.Id.{Id}
use Rattle.ir_types.specs.declared.inst.Inst.{Inst}
use Rattle.ir_types.specs.declared.func.Param.{Param}
use Rattle.ir_types.specs.declared.func.Block.{Block}
use Rattle.ir_types.specs.declared.func.Func.{Func}
use Rattle.ir_types.specs.Formed.{is_terminator}
use Rattle.ir_draft.specs.declared.head.Head.{Head}
use Rattle.ir_draft.specs.declared.stmt.Stmt.{Stmt}
use Rattle.ir_draft.specs.declared.line.Line.{Line}
use Rattle.ir_draft.specs.declared.line.Line.TheVariants as line
use Rattle.ir_draft.specs.declared.draft.Numbered.{Numbered}
use Rattle.ir_types_check.specs.declared.locals.Meaning.{Meaning}
use Rattle.ir_types_check.specs.declared.tops.Top.{Top}
use Rattle.ir_types_check.specs.declared.building.Built.{Built}
use Rattle.ir_types_check.specs.declared.refusal.ResolveRefusal.{ResolveRefusal}
use Rattle.ir_types_check.specs.Answers.{◌>>=◌}
use Rattle.ir_types_check.specs.Scope.{Scope}
use Rattle.ir_types_check.specs.Outline.{written, written_name}
use Rattle.ir_types_check.specs.Links.{linked, cases_of, op_of}

-- the id with the number k in the module
abbrev pub id_of : ℕ → Id
id_of k = record { region = 0; k = k }

-- ---- instructions and blocks

-- the instruction in the line n that a statement is, where these lines follow it
unfoldable pub inst_of : Scope Top → Scope Meaning → ℕ → ℕ → ℕ → Stmt → List Numbered → Result Inst ResolveRefusal
inst_of tops locals base k n s rest =
    linked tops locals base n s >>= λ l. cases_of locals s.op rest >>= λ cases.
    Ok (record { id = id_of k; name = written s.result; ty = s.ty; op = op_of l.blocks cases s.op; opds = l.opds })

-- the blocks with the one that is open, if there is one
abbrev pub closed : List Block → Option Block → List Block
closed blocks None = blocks
closed blocks (Some block) = blocks ++ block ∷ []

-- the open block; an unnamed one where there is none
abbrev pub open_block : Option Block → Block
open_block None = record { name = None; insts = [] }
open_block (Some block) = block

abbrev pub with_last : Block → Inst → Block
with_last block inst = record { name = block.name; insts = block.insts ++ inst ∷ [] }

-- after an instruction, which closes its block or leaves it open
abbrev pub settled : Bool → List Block → Block → List ℕ → Built
settled true blocks block lines = record { blocks = blocks ++ block ∷ []; current = None; lines = lines }
settled false blocks block lines = record { blocks = blocks; current = Some block; lines = lines }

-- with an instruction of the line n
unfoldable pub with_inst : ℕ → Built → Inst → Built
with_inst n b inst = settled (is_terminator inst.op) b.blocks (with_last (open_block b.current) inst) (b.lines ++ n ∷ [])

-- with a label, which opens a block
unfoldable pub labelled : Built → List ℕ → Built
labelled b name = record { blocks = closed b.blocks b.current; current = Some (record { name = written_name name; insts = [] }); lines = b.lines }

-- with a statement of the line n
unfoldable pub with_statement : Scope Top → Scope Meaning → ℕ → ℕ → Built → Stmt → List Numbered → Result Built ResolveRefusal
with_statement tops locals base n b s rest = inst_of tops locals base (length b.lines) n s rest >>= λ inst. Ok (with_inst n b inst)

-- with a line of the body, after which these follow
abbrev pub built_line : Scope Top → Scope Meaning → ℕ → ℕ → Built → Line → List Numbered → Result Built ResolveRefusal
built_line tops locals base n b (line.Label name) rest = Ok (labelled b name)
built_line tops locals base n b (line.Stmt s) rest = with_statement tops locals base n b s rest
built_line tops locals base n b _ rest = Ok b

abbrev pub built_lines : Scope Top → Scope Meaning → ℕ → Built → List Numbered → Result Built ResolveRefusal
built_lines tops locals base b [] = Ok b
built_lines tops locals base b (x ∷ xs) = built_line tops locals base x.line b x.form xs >>= λ after. built_lines tops locals base after xs

-- ---- functions

-- a parameter with its id
abbrev pub param_of : ℕ → Param → Param
param_of k p = record { id = id_of k; name = written p.name; ty = p.ty; attrs = p.attrs; noalias = p.noalias }

-- the parameters with their ids, from the number k on
abbrev pub params_from : ℕ → List Param → List Param
params_from k [] = []
params_from k (p ∷ ps) = param_of k p ∷ params_from (k + 1) ps

-- the header's line for each parameter
abbrev pub param_lines : ℕ → List ℕ → List Param → List ℕ
param_lines n lines [] = lines
param_lines n lines (p ∷ ps) = param_lines n (lines ++ n ∷ []) ps

abbrev pub func_of : ℕ → Head → List Block → Func
func_of base head blocks = record {
  before = head.before;
  ret = head.ret;
  name = head.name;
  params = params_from base head.params;
  after = head.after;
  blocks = blocks;
}

-- the blocks of a function whose header's line is n, after these lines of the module's ids
unfoldable pub built_of : Scope Top → Scope Meaning → ℕ → List ℕ → Head → List Numbered → Result Built ResolveRefusal
built_of tops locals n lines head body =
    built_lines tops locals (length lines) (record { blocks = []; current = None; lines = param_lines n lines head.params }) body

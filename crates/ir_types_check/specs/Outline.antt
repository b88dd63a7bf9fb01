-- The outline of a function: where each line stands, which block begins where, and what is known by a number.
--
-- A block begins at its label; where none is open, which is at the start and after a terminator, an instruction begins an unnamed
-- one. Unnamed parameters, blocks and results are numbered from 0 by one counter in order of text, and a number in decimal digits
-- is the name of what has it.
use Rattle.std.specs.Prelude.{ℕ, ◌+◌, ◌-◌, Bool, true, false, not, cond, Option, None, Some, List, [], ◌∷◌}
use Rattle.std.specs.Char.{is_ascii_digit}
use Rattle.std.specs.Fmt.{decimal}
use Rattle.ir_types.specs.declared.func.Param.{Param}
use Rattle.ir_types.specs.Formed.{is_terminator}
use Rattle.ir_draft.specs.declared.stmt.Stmt.{Stmt}
use Rattle.ir_draft.specs.declared.line.Line.{Line}
use Rattle.ir_draft.specs.declared.line.Line.TheVariants as line
use Rattle.ir_types_check.specs.declared.outline.At.{At}

-- whether a name is a number
abbrev pub is_number : List ℕ → Bool
is_number [] = false
is_number (b ∷ bs) = is_ascii_digit b

-- a name, unless it is a number
abbrev pub written_name : List ℕ → Option (List ℕ)
written_name name = cond (is_number name) None (Some name)

-- the name of a thing that is named, and none of a numbered one
abbrev pub written : Option (List ℕ) → Option (List ℕ)
written None = None
written (Some name) = written_name name

-- the counter after a name: a number takes one
abbrev pub after_name : ℕ → List ℕ → ℕ
after_name next name = cond (is_number name) (next + 1) next

-- after a result, if there is one
abbrev pub after_result : ℕ → Option (List ℕ) → ℕ
after_result next None = next
after_result next (Some name) = after_name next name

-- after a parameter: one without a written name takes the next number
abbrev pub after_param : ℕ → Option (List ℕ) → ℕ
after_param next None = next + 1
after_param next (Some name) = after_name next name

-- what a parameter is known by
abbrev pub param_name : ℕ → Option (List ℕ) → List ℕ
param_name next None = decimal next
param_name next (Some name) = name

-- before the header
abbrev pub start : At
start = record { next = 0; place = 0; blocks = 0; is_open = false }

-- after a parameter
unfoldable pub past_param : At → Param → At
past_param at p = record { next = after_param at.next p.name; place = at.place + 1; blocks = at.blocks; is_open = at.is_open }

-- with a block open: an unnamed one begins where there is none, and takes a number
unfoldable pub opened : At → At
opened at = cond at.is_open at (record { next = at.next + 1; place = at.place; blocks = at.blocks + 1; is_open = true })

-- after a label
unfoldable pub after_label : At → List ℕ → At
after_label at name = record { next = after_name at.next name; place = at.place; blocks = at.blocks + 1; is_open = true }

-- after an instruction in the open block, which a terminator closes
unfoldable pub after_inst : At → Stmt → At
after_inst at s = record { next = after_result at.next s.result; place = at.place + 1; blocks = at.blocks; is_open = not (is_terminator s.op) }

-- after a line; the cases of a `switch` and their end change nothing
abbrev pub past : At → Line → At
past at (line.Label name) = after_label at name
past at (line.Stmt s) = after_inst (opened at) s
past at _ = at

-- the number of the block in which an instruction here stands
abbrev pub block_here : At → ℕ
block_here at = (opened at).blocks - 1

-- Where in a function the next line stands, and which lines may stand there.
--
-- A block begins at its label; where none is open, an instruction begins an unnamed block. Its phis come first, and its terminator
-- ends it. The lines of a `switch` are its cases, up to `]`.
use Rattle.std.specs.Prelude.{ℕ, ◌+◌, Bool, true, false, not, ◌&&◌, cond, Result, Ok, Err, List, nat_eq}
use Rattle.ir_types.specs.declared.op.Op.{Op}
use Rattle.ir_types.specs.declared.op.Op.TheVariants.{Phi, Ret, Br, CondBr, Switch, Unreachable}
use Rattle.ir_types.specs.Formed.{is_phi}
use Rattle.ir_draft.specs.declared.stmt.Stmt.{Stmt}
use Rattle.ir_read.specs.declared.position.Position.{Position}
use Rattle.ir_read.specs.declared.position.Spot.{Spot}
use Rattle.ir_read.specs.declared.position.Spot.TheVariants.{Between, Front, After, Cases}
use Rattle.ir_read.specs.declared.refusal.ReadRefusal.{ReadRefusal}
use Rattle.ir_read.specs.declared.refusal.ReadRefusal.TheVariants.{Misplaced}
use Rattle.ir_read.specs.Answers.{◌>>=◌}
use Rattle.ir_read.specs.Numbers.{after_name, after_result}

-- whether no block is open
abbrev pub is_between : Spot → Bool
is_between Between = true
is_between _ = false

-- whether a switch is open
abbrev pub is_cases : Spot → Bool
is_cases Cases = true
is_cases _ = false

-- whether an instruction may stand here: none among the cases of a switch, and a phi after phis alone
abbrev pub may_stand : Spot → Op → Bool
may_stand After op = not (is_phi op)
may_stand Cases op = false
may_stand _ op = true

-- what is open after an instruction
abbrev pub spot_after : Op → Spot
spot_after (Phi blocks) = Front
spot_after Ret = Between
spot_after (Br to) = Between
spot_after (CondBr taken other) = Between
spot_after (Switch default cases to) = Cases
spot_after Unreachable = Between
spot_after _ = After

-- before the first line, where `next` is the next number
abbrev pub start : ℕ → Position
start next = record { next = next; insts = 0; blocks = 0; spot = Between }

-- with a block open: an unnamed one begins where there is none, and takes a number
unfoldable pub opened : Position → Position
opened p = cond (is_between p.spot) (record { next = p.next + 1; insts = p.insts; blocks = p.blocks + 1; spot = Front }) p

-- whether an instruction here stands in the first block
abbrev pub in_first : Position → Bool
in_first p = nat_eq (opened p).blocks 1

-- after the line n, which is a label: the block before it must have its terminator
unfoldable pub after_label : ℕ → Position → List ℕ → Result Position ReadRefusal
after_label n p name =
    cond (is_between p.spot)
    (after_name n p.next name >>= (λ next. Ok (record { next = next; insts = p.insts; blocks = p.blocks + 1; spot = Front })))
    (Err (Misplaced n))

-- after the line n, which is an instruction
unfoldable pub after_stmt : ℕ → Position → Stmt → Result Position ReadRefusal
after_stmt n p s =
    cond (may_stand p.spot s.op)
    (after_result n (opened p).next s.result >>= (λ next. Ok (record { next = next; insts = p.insts + 1; blocks = (opened p).blocks; spot = spot_after s.op })))
    (Err (Misplaced n))

-- after a case of a switch
unfoldable pub after_case : ℕ → Position → Result Position ReadRefusal
after_case n p = cond (is_cases p.spot) (Ok p) (Err (Misplaced n))

-- after the end of a switch
unfoldable pub after_cases : ℕ → Position → Result Position ReadRefusal
after_cases n p = cond (is_cases p.spot) (Ok (record { next = p.next; insts = p.insts; blocks = p.blocks; spot = Between })) (Err (Misplaced n))

-- at the closing brace: there is a block, and the last one has its terminator
unfoldable pub at_close : ℕ → Position → Result Position ReadRefusal
at_close n p = cond (is_between p.spot && not (nat_eq p.blocks 0)) (Ok p) (Err (Misplaced n))

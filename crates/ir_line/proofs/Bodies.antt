-- Bodies of functions whose lines stand where they may: what is open before each line, how many blocks have begun, and what each line is.
use Rattle.std.proofs.Common.{◌≡◌, ℕ, ◌+◌, ◌<◌, true, false, List, [], ◌∷◌}
use Rattle.ir_types.specs.declared.op.Op.{Op}
use Rattle.ir_types.specs.declared.op.Op.TheVariants.{Phi, Ret, Br, CondBr, Switch, Unreachable}
use Rattle.ir_types.specs.Formed.{is_phi, is_alloca}
use Rattle.ir_draft.specs.declared.stmt.Stmt.{Stmt}
use Rattle.ir_draft.specs.declared.line.Line.{Line}
use Rattle.ir_draft.specs.declared.line.Line.TheVariants as line
use Rattle.ir_draft.specs.declared.draft.Numbered.{Numbered}
use Rattle.ir_line.specs.Sound.{IsSound, IsSoundCase, IsCallOp}
use Rattle.ir_line.proofs.WholeLines.{IsWhole}

-- what is open in a function
pub data Stage : Type 0 where
  -- no block
  Between : Stage
  -- a block that has phis alone yet
  Front : Stage
  -- a block after an instruction that is no phi
  After : Stage
  -- a `switch` whose end has not come
  Cases : Stage

abbrev pub IsBetween : Stage → Type 0
IsBetween Between = Unit {0}
IsBetween _ = ⊥

abbrev pub IsCases : Stage → Type 0
IsCases Cases = Unit {0}
IsCases _ = ⊥

-- an instruction may stand there
abbrev pub May : Stage → Op → Type 0
May After op = is_phi op ≡ false
May Cases op = ⊥
May _ op = Unit {0}

abbrev pub stage_after : Op → Stage
stage_after (Phi blocks) = Front
stage_after Ret = Between
stage_after (Br to) = Between
stage_after (CondBr first second) = Between
stage_after (Switch other cases to) = Cases
stage_after Unreachable = Between
stage_after _ = After

-- how many blocks have begun with the one in which an instruction stands
abbrev pub begun : Stage → ℕ → ℕ
begun Between n = n + 1
begun _ n = n

pub record IsStmtAt (stage : Stage) (n : ℕ) (s : Stmt) : Type 0 where
  pub sound : IsSound s
  pub whole : IsWhole s
  pub stands : May stage s.op
  pub first : is_alloca s.op ≡ true → begun stage n ≡ 1
  pub uncalled : IsCallOp s.op → ⊥

-- a line that may stand where n blocks have begun
abbrev pub Stands : Stage → ℕ → Line → Type 0
Stands stage n (line.Label name) = IsBetween stage
Stands stage n (line.Stmt s) = IsStmtAt stage n s
Stands stage n (line.Case value label) = IsSoundCase value
Stands stage n line.CasesEnd = IsCases stage
Stands stage n _ = ⊥

abbrev pub stage_after_line : Stage → Line → Stage
stage_after_line stage (line.Label name) = Front
stage_after_line stage (line.Stmt s) = stage_after s.op
stage_after_line stage line.CasesEnd = Between
stage_after_line stage _ = stage

abbrev pub begun_after : Stage → ℕ → Line → ℕ
begun_after stage n (line.Label name) = n + 1
begun_after stage n (line.Stmt s) = begun stage n
begun_after stage n _ = n

-- lines that may follow one another to the end of a function
abbrev pub IsBodyFrom : Stage → ℕ → List Numbered → Type 0
IsBodyFrom stage n [] = IsBetween stage × (0 < n)
IsBodyFrom stage n (x ∷ xs) = Stands stage n x.form × IsBodyFrom (stage_after_line stage x.form) (begun_after stage n x.form) xs

abbrev pub IsBody : List Numbered → Type 0
IsBody body = IsBodyFrom Between 0 body

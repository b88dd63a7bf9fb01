-- Which texts are modules that the program accepts, and the first cause against each other text, in the order of the checks: a lexical
-- fault; a line that is none of the profile or is misplaced; a limit; a name that is defined twice; an unknown name; a line that is ill
-- typed; a use that is not available along some walk; a big-endian layout.
use Rattle.std.specs.Prelude.{◌≡◌, ℕ, Option, None, Some, Ok, Err, List, [], ◌∷◌, slice_get, unwrap_or, cond}
use Rattle.ir_types.specs.declared.id.Id.{Id}
use Rattle.ir_types.specs.declared.opd.Opd.{Opd}
use Rattle.ir_types.specs.declared.opd.Opd.TheVariants.{Val}
use Rattle.ir_types.specs.declared.inst.Inst.{Inst}
use Rattle.ir_types.specs.declared.func.Block.{Block}
use Rattle.ir_types.specs.declared.func.Func.{Func}
use Rattle.ir_types.specs.declared.module.Item.{Item}
use Rattle.ir_types.specs.declared.module.Item.TheVariants.{Func as FuncItem}
use Rattle.ir_types.specs.declared.module.Module.{Module}
use Rattle.ir_types.specs.Available.{same_id, IsAvailable, IsFirstMiss}
use Rattle.ir_types.specs.Formed.{IsFormed}
use Rattle.ir_draft.specs.declared.draft.Draft.{Draft}
use Rattle.ir_print.specs.Names.{names_of, local_of}
use Rattle.ir_print.specs.Operands.{local_text}
use Rattle.ir_read.specs.declared.refusal.ReadRefusal.TheVariants as unread
use Rattle.ir_read.specs.Draft.{draft_of}
use Rattle.ir_types_check.specs.declared.refusal.ResolveRefusal.{ResolveRefusal}
use Rattle.ir_types_check.specs.declared.refusal.ResolveRefusal.TheVariants as unresolved
use Rattle.ir_types_check.specs.declared.resolved.Resolved.{Resolved}
use Rattle.ir_types_check.specs.Resolved.{resolved_of}
use Rattle.rf_text.specs.Limits.{IsWithinLimits}
use Rattle.rf_text.specs.Reads.{Reads}
use Rattle.rf_text.specs.Spelled.{Spelled}
use Rattle.vec_top.specs.declared.cause.Cause.{Cause}
use Rattle.vec_top.specs.declared.cause.Cause.TheVariants.{Lex, NotALine, Misplaced, Passes, TwiceDefined, Unknown, IllTyped, NotAvailable, BigEndian}

-- the text is the draft, and names and types in it resolve to this
pub record Resolves (bytes : List ℕ) (r : Resolved) : Type 0 where
  pub draft : Draft
  pub drafted : draft_of bytes ≡ Ok draft
  pub resolved : resolved_of draft ≡ Ok r

-- the text is the module, and nothing is wrong with it
pub record Accepts (bytes : List ℕ) (m : Module) : Type 0 where
  -- it reads as the module
  pub reads : Reads bytes m
  -- each line spells what the module has there
  pub spelled : Spelled bytes m
  -- the module is formed, well typed and each use available along every walk; it is within the limits; its layout has the low byte first
  pub formed : IsFormed m
  pub within : IsWithinLimits m
  pub little_endian : m.big_endian_line ≡ None

-- the text is a draft whose names or types do not resolve
pub record IsUnresolved (bytes : List ℕ) (refusal : ResolveRefusal) : Type 0 where
  pub draft : Draft
  pub drafted : draft_of bytes ≡ Ok draft
  pub refused : resolved_of draft ≡ Err refusal

-- the first instruction of an id
abbrev pub inst_among : Id → List Inst → Option Inst
inst_among id [] = None
inst_among id (i ∷ is) = cond (same_id i.id id) (Some i) (inst_among id is)

abbrev pub or_else : {A : Type 0} → Option A → Option A → Option A
or_else None later = later
or_else (Some a) later = Some a

abbrev pub inst_in : Id → List Block → Option Inst
inst_in id [] = None
inst_in id (b ∷ bs) = or_else (inst_among id b.insts) (inst_in id bs)

-- what is shown in a function of an operand that is a value
abbrev pub shown_operand : Func → Option Opd → List ℕ
shown_operand f (Some (Val id)) = local_text (local_of id (names_of f).locals)
shown_operand f _ = []

abbrev pub shown_in : Func → ℕ → Option Inst → Option (List ℕ)
shown_in f slot None = None
shown_in f slot (Some i) = Some (shown_operand f (slice_get i.opds slot))

-- what is shown of the operand in a slot of an instruction, where the items have it
abbrev pub operand_in : Id → ℕ → List Item → Option (List ℕ)
operand_in id slot [] = None
operand_in id slot (FuncItem f ∷ items) = or_else (shown_in f slot (inst_in id f.blocks)) (operand_in id slot items)
operand_in id slot (_ ∷ items) = operand_in id slot items

-- the line of an instruction that was read
abbrev pub line_of : Resolved → Id → ℕ
line_of r id = unwrap_or (slice_get r.lines id.k) 0

-- the first use that is not available, by its line and what is shown of it, and the least walk that misses its definition
pub record IsMissed (r : Resolved) (line : ℕ) (name walk : List ℕ) : Type 0 where
  pub user : Id
  pub slot : ℕ
  pub first : IsFirstMiss user slot walk r.«module»
  pub at : line ≡ line_of r user
  pub shown : name ≡ unwrap_or (operand_in user slot r.«module».items) []

-- the cause is the first against the text
abbrev pub IsCause : List ℕ → Cause → Type 0
IsCause bytes (Lex line byte) = draft_of bytes ≡ Err (unread.Lex line byte)
IsCause bytes (NotALine line) = draft_of bytes ≡ Err (unread.NotALine line)
IsCause bytes (Misplaced line) = draft_of bytes ≡ Err (unread.Misplaced line)
IsCause bytes (Passes limit) = draft_of bytes ≡ Err (unread.Limit limit)
IsCause bytes (TwiceDefined line name) = IsUnresolved bytes (unresolved.TwiceDefined line name)
IsCause bytes (Unknown line name) = IsUnresolved bytes (unresolved.Unknown line name)
IsCause bytes (IllTyped line) = IsUnresolved bytes (unresolved.IllTyped line)
IsCause bytes (NotAvailable line name walk) = (r : Resolved) × Resolves bytes r × IsMissed r line name walk
IsCause bytes (BigEndian line) = (r : Resolved) × Resolves bytes r × IsAvailable r.«module» × (r.«module».big_endian_line ≡ Some line)

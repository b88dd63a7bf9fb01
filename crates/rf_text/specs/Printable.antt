-- Modules whose items are such as text can have, each name given once. Every module that was read is one, as long as its
-- layout has the low byte first; and the text of one that is formed reads as the same module.
use Rattle.std.specs.Prelude.{◌≡◌, ℕ, zero, suc, ◌+◌, ◌^◌, ◌<◌, Bool, true, false, Option, None, Some, List, [], ◌∷◌, length}
use Rattle.std.specs.List.{All, AllPairs}
use Rattle.ir_lex.specs.Tokens.{is_name}
use Rattle.ir_types.specs.declared.id.Id.{Id}
use Rattle.ir_types.specs.declared.inst.Inst.{Inst}
use Rattle.ir_types.specs.declared.opd.Opd.{Opd}
use Rattle.ir_types.specs.declared.opd.Opd.TheVariants.{Sym}
use Rattle.ir_types.specs.declared.func.Param.{Param}
use Rattle.ir_types.specs.declared.func.Block.{Block}
use Rattle.ir_types.specs.declared.func.Func.{Func}
use Rattle.ir_types.specs.declared.module.Item.{Item}
use Rattle.ir_types.specs.declared.module.Item.TheVariants.{Kept, Opaque, Func as FuncItem}
use Rattle.ir_types.specs.declared.module.Module.{Module}
use Rattle.ir_types.specs.Formed.{ids_of}
use Rattle.ir_draft.specs.declared.line.Line.TheVariants as line
use Rattle.ir_print.specs.Names.{Named, Value, Label, named_of}
use Rattle.ir_read.specs.Forms.{form_in}
use Rattle.ir_read.specs.Outlook.{has}
use Rattle.ir_read.specs.Items.{barred_in, has_other_pointers}
use Rattle.rf_text.specs.OpaqueText.{IsOpaqueText, opaque_forms, opaque_name, opaque_in}
use Rattle.rf_text.specs.Shown.{is_call}
use Rattle.rf_text.specs.Written.{shown_global}
use Rattle.rf_text.specs.ModuleForms.{kept_at, module_forms}

-- ---- names in a function

-- the name that is written of a value or a block
abbrev pub name_of : Named → Option (List ℕ)
name_of (Value id ty name) = name
name_of (Label name) = name

-- a name, if there is one, in front of others
abbrev pub in_front : Option (List ℕ) → List (List ℕ) → List (List ℕ)
in_front None rest = rest
in_front (Some name) rest = name ∷ rest

-- the names that are written, in order
abbrev pub written_names : List Named → List (List ℕ)
written_names [] = []
written_names (n ∷ ns) = in_front (name_of n) (written_names ns)

-- no instruction is a call
abbrev pub HasNoCall : Block → Type 0
HasNoCall b = All (λ (i : Inst). is_call i.op ≡ false) b.insts

pub record IsPrintableFunc (f : Func) : Type 0 where
  pub calls : All HasNoCall f.blocks
  -- no name is written twice
  pub once : AllPairs (λ (a b : List ℕ). a ≡ b → ⊥) (written_names (named_of f))

-- ---- items

-- a kept line reads as itself, and says nothing of a byte order with the high byte first
pub record IsPlainLine (text : List ℕ) : Type 0 where
  pub reads : form_in false text ≡ Some (line.Kept (kept_at text))
  pub whole : (kept_at text).text ≡ text
  pub little_endian : (kept_at text).big_endian ≡ false

abbrev pub IsPrintableItem : Item → Type 0
IsPrintableItem (Kept text) = IsPlainLine text
IsPrintableItem (Opaque text) = IsOpaqueText text
IsPrintableItem (FuncItem f) = IsPrintableFunc f

-- the name that a kept line gives, in front of others, where it is a global
abbrev pub global_before : Bool → Option (List ℕ) → List (List ℕ) → List (List ℕ)
global_before true (Some name) rest = name ∷ rest
global_before _ _ rest = rest

-- the globals of kept lines, in order
abbrev pub globals_in : List Item → List (List ℕ)
globals_in [] = []
globals_in (Kept text ∷ items) = global_before (kept_at text).global (kept_at text).symbol (globals_in items)
globals_in (_ ∷ items) = globals_in items

-- the names of kept lines and of functions, opaque ones too, in order
abbrev pub tops_in : List Item → List (List ℕ)
tops_in [] = []
tops_in (Kept text ∷ items) = in_front (kept_at text).symbol (tops_in items)
tops_in (Opaque text ∷ items) = in_front (opaque_name text) (tops_in items)
tops_in (FuncItem f ∷ items) = f.name ∷ tops_in items

-- ---- operands

-- an operand names no function, and no symbol that is no global
abbrev pub IsAllowed : Module → Opd → Type 0
IsAllowed m (Sym g) = has (barred_in (module_forms m)) (shown_global m.globals g) ≡ false
IsAllowed m o = Unit {0}

abbrev pub IsAllowedBlock : Module → Block → Type 0
IsAllowedBlock m b = All (λ (i : Inst). All (IsAllowed m) i.opds) b.insts

abbrev pub IsAllowedItem : Module → Item → Type 0
IsAllowedItem m (FuncItem f) = All (IsAllowedBlock m) f.blocks
IsAllowedItem m _ = Unit {0}

-- an opaque item is opaque among the lines of the module
abbrev pub IsKeptOpaque : Module → Item → Type 0
IsKeptOpaque m (Opaque text) = opaque_in (module_forms m) (opaque_forms text) ≡ true
IsKeptOpaque m _ = Unit {0}

-- whether there is a function of the profile
abbrev pub has_function : List Item → Bool
has_function [] = false
has_function (FuncItem f ∷ items) = true
has_function (_ ∷ items) = has_function items

-- ---- the module

pub record IsPrintable (m : Module) : Type 0 where
  pub items : All IsPrintableItem m.items
  -- the globals are those of the kept lines, by plain names
  pub globals : m.globals ≡ globals_in m.items
  pub named : All (λ g. is_name g ≡ true) m.globals
  -- no name of the module is given twice
  pub once : AllPairs (λ (a b : List ℕ). a ≡ b → ⊥) (tops_in m.items)
  pub operands : All (IsAllowedItem m) m.items
  -- a function is kept as it was only where it is opaque
  pub opaques : All (IsKeptOpaque m) m.items
  -- pointers have 64 bits, where there is a function of the profile
  pub pointers : has_function m.items ≡ true → has_other_pointers (module_forms m) ≡ false
  pub little_endian : m.big_endian_line ≡ None

-- the ids are those of a module that was read: 0, 1 and so on in order of the text
abbrev pub ids_from : ℕ → ℕ → List Id
ids_from k zero = []
ids_from k (suc n) = record { region = 0; k = k } ∷ ids_from (k + 1) n

abbrev pub IsNumbered : Module → Type 0
IsNumbered m = ids_of m ≡ ids_from 0 (length (ids_of m))

-- the values and blocks of each function are few enough to be numbered by 64 bits
abbrev pub IsCountedItem : Item → Type 0
IsCountedItem (FuncItem f) = length (named_of f) < 2 ^ 64
IsCountedItem _ = Unit {0}

abbrev pub IsCounted : Module → Type 0
IsCounted m = All IsCountedItem m.items

-- Formed modules at work: a function that returns nothing, and blocks that end twice or never.
use Rattle.std.specs.Prelude.{◌≡◌, refl, ℕ, zero, suc, Bool, true, false, None, Some, List, [], ◌∷◌, slice_get, codes}
use Rattle.std.proofs.Common.{subst, inl, lit<, arith}
use Rattle.std.proofs.lemmas.List.Elements.{All-nil, All-cons}
use Rattle.ir_lex.specs.Bytes.{begins_name, is_word_byte, is_sigil, is_mark, is_blank, is_control}
use Rattle.ir_lex.specs.Ends.{ends_outside}
use Rattle.ir_lex.specs.Scan.{string_len, more_len, cut, texts, fault_of}
use Rattle.ir_types.specs.declared.id.Id.{Id}
use Rattle.ir_types.specs.declared.ty.Ty.TheVariants.{Void}
use Rattle.ir_types.specs.declared.opd.Opd.{Opd}
use Rattle.ir_types.specs.declared.op.Op.{Op}
use Rattle.ir_types.specs.declared.op.Op.TheVariants.{Ret}
use Rattle.ir_types.specs.declared.inst.Inst.{Inst}
use Rattle.ir_types.specs.declared.func.Param.{Param}
use Rattle.ir_types.specs.declared.func.Block.{Block}
use Rattle.ir_types.specs.declared.func.Func.{Func}
use Rattle.ir_types.specs.declared.module.Item.{Item}
use Rattle.ir_types.specs.declared.module.Item.TheVariants.{Func as FuncItem}
use Rattle.ir_types.specs.declared.module.Module.{Module}
use Rattle.ir_types.specs.Available.{Each, IsAvailableOpd, IsAvailableInst, IsAvailableBlock, IsAvailableItem}
use Rattle.ir_types.specs.KeptParts.{IsKeptPart, IsKeptHeader}
use Rattle.ir_types.specs.Formed.{EndsOnce, IsOpd, IsTarget, IsFormedInst, IsFormedBlock, IsFormedFunc, IsFormedItem, IsFormed, IsPlainFunc, IsPlainBlock, IsPlainInst, IsPlainItem, IsPoisonIfPointer}

-- `define void @f() { ret void }`
abbrev returns : Inst
returns = record { id = record { region = 0; k = 0 }; name = None; ty = Void; op = Ret; opds = [] }

abbrev block : List Inst → Block
block insts = record { name = None; insts = insts }

abbrev func : Func
func = record { before = []; ret = Void; name = codes "f"; params = []; after = []; blocks = block (returns ∷ []) ∷ [] }

abbrev one : Module
one = record { items = FuncItem func ∷ []; globals = []; big_endian_line = None }

-- what is fine at the first place is fine in a list of one
each_one : {X : Type 0} (Fine : ℕ → X → Type 0) (x : X) → Fine 0 x → Each Fine (x ∷ [])
each_one {X} Fine x fine zero y e = subst (Fine 0) (only e) fine
  where
    only : Some x ≡ Some y → x ≡ y
    only e = cc
each_one Fine x fine (suc k) y e = absurd cc

each_none : {X : Type 0} (Fine : ℕ → X → Type 0) → Each Fine []
each_none Fine zero y e = absurd cc
each_none Fine (suc k) y e = absurd cc

-- it is formed
formed : IsFormed one
unfolding begins_name is_word_byte cut texts ends_outside
formed = record {
  items = All-cons (IsFormedItem one) (FuncItem func) [] whole (All-nil (IsFormedItem one));
  plain = record { items = All-cons IsPlainItem (FuncItem func) [] named (All-nil IsPlainItem); names = λ i j d below within. absurd (omega arith) };
  once = λ i j d below within. absurd (omega arith);
  available = each_one IsAvailableItem _ (each_one (IsAvailableBlock func) _ (each_one (IsAvailableInst func 0) _ (each_none (IsAvailableOpd func 0 0 returns))));
} where
  fine : IsFormedInst one func 0 0 returns
  fine = record { operands = All-nil IsOpd; typed = (refl, inl (refl, refl)); targets = All-nil (IsTarget func); incoming = tt; calling = tt; allocas = λ h. absurd cc }

  ends : IsFormedBlock one func 0 (block (returns ∷ []))
  ends = record { ends = refl; phis = ((λ h. absurd cc), tt); insts = each_one (IsFormedInst one func 0) _ fine }

  whole : IsFormedFunc one func
  whole = record { returns = inl refl; params = All-nil _; blocks = each_one (IsFormedBlock one func) _ ends; some = lit< tt }

  silent : IsPlainInst returns
  silent = record { named = refl; silent = λ h. refl; pointers = All-nil IsPoisonIfPointer }

  unnamed : IsPlainBlock (block (returns ∷ []))
  unnamed = record { named = refl; insts = All-cons IsPlainInst returns [] silent (All-nil IsPlainInst) }

  nothing : IsKeptPart []
  nothing = record { sound = refl; ends = refl; tight = refl; ascii = refl }

  kept : IsKeptHeader [] [] []
  kept = record { in_front = record { kept = nothing; passed = refl }; attributed = All-nil _; at_end = nothing }

  named : IsPlainFunc func
  named = record { header = kept; named = refl; params = All-nil _; blocks = All-cons IsPlainBlock _ [] unnamed (All-nil IsPlainBlock) }

-- a function that keeps an open string after its parameters is not formed
unclosed : IsPlainFunc (record { before = []; ret = Void; name = codes "f"; params = []; after = codes "gc \"x"; blocks = [] }) → ⊥
unfolding string_len more_len begins_name is_word_byte is_sigil is_mark is_blank is_control
unclosed h = let sound : fault_of (codes "gc \"x") ≡ None = h.header.at_end.sound in cc

-- a block without an instruction does not end, and none ends twice
never : EndsOnce [] → ⊥
never e = e

twice : EndsOnce (returns ∷ returns ∷ []) → ⊥
twice e = absurd cc

-- Use lists, and what was taken out of them and may come back.
--
-- Where an instruction goes, its slots leave their lists, the first slot first, and each is kept with the use after which it stood. What was
-- kept last comes back first. A slot that holds no value stands in no list, and nothing is kept of it.
use Rattle.std.specs.Prelude.{◌≡◌, refl, ℕ, suc, ◌+◌, ◌-◌, ◌≤◌, true, false, cond, min, List, [], ◌∷◌, length, ⊤}
use Rattle.std.specs.Coded.{Coded, code_by, coded×, coded_ℕ, coded_list, coded_option}
use Rattle.std.specs.declared.option.Option.{Option}
use Rattle.std.specs.declared.option.Option.TheVariants.{None, Some}
use Rattle.ir_types.specs.declared.id.Id.{Id}
use Rattle.ir_types.specs.declared.id.Use.{Use}
use Rattle.ir_types.specs.declared.opd.Opd.{Opd}
use Rattle.ir_types.specs.declared.opd.Opd.TheVariants.{Val, Sym}
use Rattle.vx_view.specs.Answers.{value}
use Rattle.vx_view.specs.Uses.{Lists, same_use}
use Rattle.vx_view.specs.UsesAfter.{with_list, opd_added, opd_taken}
use Rattle.sb_uses.specs.declared.chains.Chains.{Chains}
use Rattle.sb_uses.specs.declared.kept.Kept.{Kept}
use Rattle.sb_uses.specs.Chains.{known, lists, room}
use Rattle.sb_uses.specs.Places.{has, stands, put, three, use_of}
use Rattle.sb_uses.specs.Whole.{Apart}

-- ---- what stands in a slot

abbrev pub slot_use : Id → ℕ → Use
slot_use user slot = record { user = user; slot = slot }

-- a slot is in the list of the value that it holds
abbrev pub HasSlot : Id → ℕ → Opd → Lists → Type 0
HasSlot user slot (Val v) lists = has (slot_use user slot) (lists v) ≡ true
HasSlot user slot _ lists = ⊤

abbrev pub LacksSlot : Id → ℕ → Opd → Lists → Type 0
LacksSlot user slot (Val v) lists = has (slot_use user slot) (lists v) ≡ false
LacksSlot user slot _ lists = ⊤

-- so are the slots of operands from one on
abbrev pub HasSlots : Id → ℕ → List Opd → Lists → Type 0
HasSlots user slot [] lists = ⊤
HasSlots user slot (o ∷ os) lists = HasSlot user slot o lists × HasSlots user (suc slot) os lists

abbrev pub LacksSlots : Id → ℕ → List Opd → Lists → Type 0
LacksSlots user slot [] lists = ⊤
LacksSlots user slot (o ∷ os) lists = LacksSlot user slot o lists × LacksSlots user (suc slot) os lists

-- no list has a use twice
abbrev pub AllApart : Lists → Type 0
AllApart lists = (v : Id) → Apart (lists v)

-- ---- lists with what was taken out of them

-- the newest that was kept stands first; none where a slot held no value
pub record Stock : Type 0 where
  pub lists : Lists
  pub kept : List (Option Kept)

-- the use after which one stands, in a list that comes after `came`
abbrev pub stood_from : Option Use → Use → List Use → Option Use
stood_from came u [] = came
stood_from came u (v ∷ vs) = cond (same_use v u) came (stood_from (Some v) u vs)

-- the use after which one stands; none for the newest
abbrev pub stood_after : Use → List Use → Option Use
stood_after u us = stood_from None u us

abbrev pub opd_kept : Id → ℕ → Opd → Lists → Option Kept
opd_kept user slot (Val v) lists = Some (record { value = v; used = slot_use user slot; spot = record { newer = stood_after (slot_use user slot) (lists v) } })
opd_kept user slot _ lists = None

-- ---- slots that come and go

abbrev pub slot_added : Id → ℕ → Opd → Stock → Stock
slot_added user slot o s = record { lists = opd_added user slot o s.lists; kept = s.kept }

-- a slot goes and is kept
abbrev pub slot_taken : Id → ℕ → Opd → Stock → Stock
slot_taken user slot o s = record { lists = opd_taken user slot o s.lists; kept = opd_kept user slot o s.lists ∷ s.kept }

-- a slot goes for good
abbrev pub slot_withdrawn : Id → ℕ → Opd → Stock → Stock
slot_withdrawn user slot o s = record { lists = opd_taken user slot o s.lists; kept = s.kept }

abbrev pub added : Id → ℕ → List Opd → Stock → Stock
added user slot [] s = s
added user slot (o ∷ os) s = added user (suc slot) os (slot_added user slot o s)

abbrev pub taken : Id → ℕ → List Opd → Stock → Stock
taken user slot [] s = s
taken user slot (o ∷ os) s = taken user (suc slot) os (slot_taken user slot o s)

abbrev pub withdrawn : Id → ℕ → List Opd → Stock → Stock
withdrawn user slot [] s = s
withdrawn user slot (o ∷ os) s = withdrawn user (suc slot) os (slot_withdrawn user slot o s)

-- another operand in a slot: the old one goes and is kept, and the new one comes
abbrev pub replaced : Id → ℕ → Opd → Opd → Stock → Stock
replaced user slot old new s = slot_added user slot new (slot_taken user slot old s)

-- ---- the way back

abbrev pub kept_back : Option Kept → Lists → Lists
kept_back None lists = lists
kept_back (Some k) lists = with_list k.value (put k.spot.newer k.used (lists k.value)) lists

abbrev pub restored_from : List (Option Kept) → Lists → Stock
restored_from [] lists = record { lists = lists; kept = [] }
restored_from (k ∷ ks) lists = record { lists = kept_back k lists; kept = ks }

-- with what was kept last back where it stood
abbrev pub slot_restored : Stock → Stock
slot_restored s = restored_from s.kept s.lists

-- with a slot back for each of some operands
abbrev pub restored : List Opd → Stock → Stock
restored [] s = s
restored (o ∷ os) s = restored os (slot_restored s)

-- and an operand that was set is the one before it again
abbrev pub set_back : Id → ℕ → Opd → Stock → Stock
set_back user slot new s = slot_restored (slot_withdrawn user slot new s)

abbrev pub FitsBack : Option Kept → Lists → Type 0
FitsBack None lists = ⊤
FitsBack (Some k) lists = (has k.used (lists k.value) ≡ false) × (stands k.spot.newer (lists k.value) ≡ true)

abbrev pub FirstFits : List (Option Kept) → Lists → Type 0
FirstFits [] lists = ⊥
FirstFits (k ∷ ks) lists = FitsBack k lists

-- a slot was kept, and its list lacks it and has the use after which it stood
abbrev pub CanRestoreSlot : Stock → Type 0
CanRestoreSlot s = FirstFits s.kept s.lists

abbrev pub CanRestore : List Opd → Stock → Type 0
CanRestore [] s = ⊤
CanRestore (o ∷ os) s = CanRestoreSlot s × CanRestore os (slot_restored s)

-- an operand that was set can go, and the one before it come back
pub record CanSetBack (user : Id) (slot : ℕ) (new : Opd) (s : Stock) : Type 0 where
  pub goes : HasSlot user slot new s.lists
  pub comes : CanRestoreSlot (slot_withdrawn user slot new s)

-- ---- what contracts see of a `Slots`

-- its slots, what it keeps, the newest first, how much it has the space to keep, and how many operands the instructions hold
pub record Holding : Type 0 where
  pub chains : Chains
  pub kept : List (Option Kept)
  pub space : ℕ
  pub held : ℕ

-- it is stored as its fields in turn
abbrev pub holding_code : Coded Chains → Coded Kept → Coded Holding
holding_code chains kept =
    code_by (Chains × (List (Option Kept) × (ℕ × ℕ))) (coded× chains (coded× (coded_list (coded_option kept)) (coded× coded_ℕ coded_ℕ)))
    (λ h. (h.chains, (h.kept, (h.space, h.held)))) (λ p. record { chains = p.0; kept = p.1.0; space = p.1.1.0; held = p.1.1.1 }) (λ _. refl)

abbrev pub stock : Holding → Stock
stock h = record { lists = lists h.chains; kept = h.kept }

-- how many operands can come without more memory; there are fewer than 2^32
abbrev pub spare : Holding → ℕ
spare h = min (room h.chains) (min (h.space - (length h.kept + h.held)) (4294967295 - h.held))

-- what was kept still has a head and a slot
abbrev pub IsKnown : Chains → Option Kept → Type 0
IsKnown s None = ⊤
IsKnown s (Some k) = (known s k.value None ≡ true) × (known s k.value (Some k.used) ≡ true)

abbrev pub AllKnown : Chains → List (Option Kept) → Type 0
AllKnown s [] = ⊤
AllKnown s (k ∷ ks) = IsKnown s k × AllKnown s ks

-- no list has a use twice, what was kept can be found, and there is space to keep whatever is held
pub record IsHolding (h : Holding) : Type 0 where
  pub apart : AllApart (lists h.chains)
  pub known : AllKnown h.chains h.kept
  pub space : length h.kept + h.held ≤ h.space

-- ---- worked examples: the value 0 with the uses 3, 2 and 1, newest first; an instruction 4 that names it twice

abbrev with_three : Stock
with_three = record { lists = λ v. three; kept = [] }

abbrev twice : List Opd
twice = Val (value 0) ∷ Val (value 0) ∷ []

both_come : (added (value 4) 0 twice with_three).lists (value 0) ≡ use_of 4 1 ∷ use_of 4 0 ∷ three
both_come = refl

both_go : (withdrawn (value 4) 0 twice (added (value 4) 0 twice with_three)).lists (value 0) ≡ three
both_go = refl

-- the use 2 is set to a global: 3 and 1 are left; and then it stands between them again
set_to_a_global : (replaced (value 2) 0 (Val (value 0)) (Sym 0) with_three).lists (value 0) ≡ use_of 3 0 ∷ use_of 1 0 ∷ []
set_to_a_global = refl

and_back : (set_back (value 2) 0 (Sym 0) (replaced (value 2) 0 (Val (value 0)) (Sym 0) with_three)).lists (value 0) ≡ three
and_back = refl

-- What is kept of an instruction to compare it with others of its block, without asking anew.
--
-- Of a load or a store its address, what is known of where that begins, its size, and whether it writes; and of any instruction whether it
-- is a call or minds calls. Two that are kept conflict as the instructions do.
use Rattle.std.specs.Prelude.{◌≡◌, refl, ℕ, ◌-ℤ◌, Bool, true, false, not, ◌&&◌, ◌||◌, cond, Option, None, Some, List}
use Rattle.std.specs.Int.{w64, int_wrap}
use Rattle.ir_types.specs.declared.inst.Inst.{Inst}
use Rattle.ir_types.specs.declared.module.Module.{Module}
use Rattle.vx_view.specs.Addresses.{Form, form_in, start, value}
use Rattle.vx_view.specs.Conflicts.{Access, access_of, Kind, Allocated, Unknown, kind_of, never_meet, same_root, same_symbol, is_past, is_call, minds_calls}

pub record Touch : Type 0 where
  pub form : Form
  pub kind : Kind
  pub size : ℕ
  pub writes : Bool

pub record Effect : Type 0 where
  pub call : Bool
  pub minds : Bool
  pub touch : Option Touch

abbrev pub touch_by : Module → Form → Access → Touch
touch_by m f a = record { form = f; kind = kind_of m f.root; size = a.size; writes = a.writes }

abbrev pub touch_of : Module → List Inst → Option Access → Option Touch
touch_of m block None = None
touch_of m block (Some a) = Some (touch_by m (form_in block a.pointer) a)

-- what is kept of an instruction of a block
abbrev pub effect_of : Module → List Inst → Inst → Effect
effect_of m block i = record { call = is_call i.op; minds = minds_calls i.op; touch = touch_of m block (access_of i) }

-- ---- comparing

abbrev pub are_apart : Touch → Touch → Bool
are_apart a b =
    cond (same_root a.form.root b.form.root)
    (same_symbol a.form.offset.symbol b.form.offset.symbol && is_past a.size b.size (int_wrap w64 (b.form.offset.constant -ℤ a.form.offset.constant)))
    (never_meet a.kind b.kind)

abbrev pub touches_meet : Option Touch → Option Touch → Bool
touches_meet (Some a) (Some b) = (a.writes || b.writes) && not (are_apart a b)
touches_meet _ _ = false

abbrev pub effects_conflict : Effect → Effect → Bool
effects_conflict a b = a.call && b.minds || b.call && a.minds || touches_meet a.touch b.touch

-- ---- worked examples: a store and a load through one pointer meet, and through an alloca and another alloca they do not

abbrev touching : ℕ → Kind → Bool → Option Touch
touching k kind writes = Some (record { form = record { root = value k; offset = start }; kind = kind; size = 4; writes = writes })

one_pointer : touches_meet (touching 0 Unknown true) (touching 0 Unknown false) ≡ true
unfolding int_wrap
one_pointer = refl

two_allocas : touches_meet (touching 0 Allocated true) (touching 1 Allocated true) ≡ false
two_allocas = refl

two_loads : touches_meet (touching 0 Unknown false) (touching 0 Unknown false) ≡ false
two_loads = refl

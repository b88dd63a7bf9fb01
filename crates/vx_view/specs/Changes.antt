-- What a change makes of a module, and where it fits.
--
-- A change edits each instruction for itself: the instructions of a block are gone through, and each stays, goes, or gets one beside
-- or in place of it. Ids stand once in a formed module, so an edit that looks for an id acts at one place. `applied` makes a change,
-- `all_applied` one after another; `Fits` says where a change may be made, and `AllFit` that each of a list may be made in its turn.
use Rattle.std.specs.Prelude.{◌≡◌, refl, ℕ, ◌<◌, false, cond, Option, None, Some, List, [], ◌∷◌, ◌++◌, length, map, slice_get, slice_set, ⊤}
use Rattle.std.specs.List.{All}
use Rattle.std.proofs.lemmas.List.Elements.{All-nil, All-cons}
use Rattle.ir_types.specs.declared.id.Id.{Id}
use Rattle.ir_types.specs.declared.ty.Ty.{Ty}
use Rattle.ir_types.specs.declared.opd.Opd.{Opd}
use Rattle.ir_types.specs.declared.opd.Opd.TheVariants.{Val, Lit, Sym}
use Rattle.ir_types.specs.declared.inst.Inst.{Inst}
use Rattle.ir_types.specs.declared.func.Block.{Block}
use Rattle.ir_types.specs.declared.func.Func.{Func}
use Rattle.ir_types.specs.declared.module.Item.{Item}
use Rattle.ir_types.specs.declared.module.Item.TheVariants.{Func as FuncItem}
use Rattle.ir_types.specs.declared.module.Module.{Module}
use Rattle.ir_types.specs.Available.{same_id}
use Rattle.ir_types.specs.Formed.{is_phi, is_alloca, is_terminator, opd_ty}
use Rattle.vx_view.specs.declared.change.Change.{Change}
use Rattle.vx_view.specs.declared.change.Change.TheVariants.{Insert, Remove, Move, Replace, SetOperand}
use Rattle.vx_view.specs.Answers.{funcs_of, param_of, found, Standing, uses_of, after, line, value, doubles}

-- ---- edits

-- what an instruction becomes
abbrev pub Edit : Type 0
Edit = Inst → List Inst

abbrev pub each : Edit → List Inst → List Inst
each f [] = []
each f (i ∷ is) = f i ++ each f is

abbrev pub edited_block : Edit → Block → Block
edited_block f b = record { name = b.name; insts = each f b.insts }

abbrev pub edited_item : Edit → Item → Item
edited_item f (FuncItem g) = FuncItem (record {
  before = g.before;
  ret = g.ret;
  name = g.name;
  params = g.params;
  after = g.after;
  blocks = map (edited_block f) g.blocks;
})
edited_item f other = other

-- the module with each instruction edited
abbrev pub edited : Edit → Module → Module
edited f m = record { items = map (edited_item f) m.items; globals = m.globals; big_endian_line = m.big_endian_line }

-- one instruction before that of an id
abbrev pub inserting : Id → Inst → Edit
inserting x new i = cond (same_id i.id x) (new ∷ i ∷ []) (i ∷ [])

abbrev pub removing : Id → Edit
removing x i = cond (same_id i.id x) [] (i ∷ [])

-- an instruction in the place of the one with its id
abbrev pub putting : Inst → Edit
putting new i = cond (same_id i.id new.id) (new ∷ []) (i ∷ [])

abbrev pub with_operand : Inst → ℕ → Opd → Inst
with_operand i slot o = record { id = i.id; name = i.name; ty = i.ty; op = i.op; opds = slice_set i.opds slot o }

abbrev pub setting : Id → ℕ → Opd → Edit
setting x slot o i = cond (same_id i.id x) (with_operand i slot o ∷ []) (i ∷ [])

-- ---- changes

-- the instruction that was found, taken out and put before that of an id
abbrev pub moved : Id → Module → Option Standing → Module
moved x m None = m
moved x m (Some s) = edited (inserting x s.inst) (edited (removing s.inst.id) m)

-- the module after a change
abbrev pub applied : Change → Module → Module
applied (Insert x new) m = edited (inserting x new) m
applied (Remove x) m = edited (removing x) m
applied (Move y x) m = moved x m (found m y)
applied (Replace new) m = edited (putting new) m
applied (SetOperand x slot o) m = edited (setting x slot o) m

-- after changes, the first of them first
abbrev pub all_applied : List Change → Module → Module
all_applied [] m = m
all_applied (c ∷ cs) m = all_applied cs (applied c m)

-- ---- where a change fits

abbrev pub IsNeither : {A B : Type 0} → Option A → Option B → Type 0
IsNeither None None = ⊤
IsNeither _ _ = ⊥

abbrev pub IsEither : {A B : Type 0} → Option A → Option B → Type 0
IsEither None None = ⊥
IsEither _ _ = ⊤

-- an operand is a literal, or a local or global of the module
abbrev pub IsThere : Module → Opd → Type 0
IsThere m (Lit l) = ⊤
IsThere m (Sym g) = g < length m.globals
IsThere m (Val id) = IsEither (param_of id (funcs_of m.items)) (found m id)

-- an id is that of an instruction of the module of which something holds
abbrev pub Stands : Module → Id → (Standing → Type 0) → Type 0
Stands m id P = (s : Standing) × (found m id ≡ Some s) × P s

abbrev pub IsNoPhi : Standing → Type 0
IsNoPhi s = is_phi s.inst.op ≡ false

-- the type that an operand of the function with a number has
abbrev pub ty_in : Module → Opd → Option Func → Option Ty
ty_in m o None = None
ty_in m o (Some f) = opd_ty m f o

abbrev pub SameType : Module → Standing → Opd → Opd → Type 0
SameType m s old new = ty_in m new (slice_get (funcs_of m.items) s.place.func) ≡ ty_in m old (slice_get (funcs_of m.items) s.place.func)

-- a change may be made in a module
abbrev pub Fits : Module → Change → Type 0
Fits m (Insert x new) = Stands m x IsNoPhi × IsNeither (param_of new.id (funcs_of m.items)) (found m new.id) × All (IsThere m) new.opds
Fits m (Remove x) =
    Stands m x (λ s. (is_phi s.inst.op ≡ false) × (is_alloca s.inst.op ≡ false) × (is_terminator s.inst.op ≡ false))
    × (uses_of x (funcs_of m.items) ≡ [])
Fits m (Move y x) =
    Stands m x (λ s. IsNoPhi s × Stands m y (λ t. (t.place ≡ s.place) × (is_phi t.inst.op ≡ false) × (is_terminator t.inst.op ≡ false)))
    × (same_id y x ≡ false)
Fits m (Replace new) = Stands m new.id (λ s. s.inst.ty ≡ new.ty) × All (IsThere m) new.opds
Fits m (SetOperand x slot o) = Stands m x (λ s. (old : Opd) × (slice_get s.inst.opds slot ≡ Some old) × SameType m s old o) × IsThere m o

-- changes that fit one after another
abbrev pub AllFit : List Change → Module → Type 0
AllFit [] m = ⊤
AllFit (c ∷ cs) m = Fits m c × AllFit cs (applied c m)

-- ---- the way back

-- before what stands after it: where a change is undone, something does
abbrev pub back_before : Option Id → (Id → Change) → List Change
back_before None undo = []
back_before (Some next) undo = undo next ∷ []

abbrev pub back_to : Option Standing → (Standing → List Change) → List Change
back_to None undo = []
back_to (Some s) undo = undo s

abbrev pub old_operand : Id → ℕ → Option Opd → List Change
old_operand x slot None = []
old_operand x slot (Some o) = SetOperand x slot o ∷ []

-- the change that brings back the module in which a change was made, where it fits
abbrev pub inverse : Module → Change → List Change
inverse m (Insert x new) = Remove new.id ∷ []
inverse m (Remove x) = back_to (found m x) (λ s. back_before (after x s.block) (λ next. Insert next s.inst))
inverse m (Move y x) = back_to (found m y) (λ s. back_before (after y s.block) (Move y))
inverse m (Replace new) = back_to (found m new.id) (λ s. Replace s.inst ∷ [])
inverse m (SetOperand x slot o) = back_to (found m x) (λ s. old_operand x slot (slice_get s.inst.opds slot))

-- ---- worked examples, in the function of a sum 1 and a return 2

-- what uses a value does not fit to go, and what nothing uses and ends no block does
sum_is_used : Fits doubles (Remove (value 1)) → ⊥
sum_is_used fits = no_uses fits.1 where
  no_uses : uses_of (value 1) (funcs_of doubles.items) ≡ [] → ⊥
  no_uses e = cc

-- an instruction before the return
insert_fits : Fits doubles (Insert (value 2) (line 9 (Val (value 1) ∷ [])))
insert_fits = ((_, refl, refl), tt, All-cons (IsThere doubles) (Val (value 1)) [] tt (All-nil (IsThere doubles)))

abbrev insts_of : List Func → List (List Inst)
insts_of [] = []
insts_of (f ∷ fs) = map (λ (b : Block). b.insts) f.blocks ++ insts_of fs

inserted : insts_of (funcs_of (applied (Insert (value 2) (line 9 [])) doubles).items) ≡ (line 1 (Val (value 0) ∷ Val (value 0) ∷ []) ∷ line 9 [] ∷ line 2 (Val (value 1) ∷ []) ∷ []) ∷ []
inserted = refl

-- an operand that is set, and set back
set_back : all_applied (SetOperand (value 2) 0 (Val (value 0)) ∷ inverse doubles (SetOperand (value 2) 0 (Val (value 0)))) doubles ≡ doubles
set_back = refl

-- an instruction that is inserted, and goes
gone_again : all_applied (Insert (value 2) (line 9 []) ∷ inverse doubles (Insert (value 2) (line 9 []))) doubles ≡ doubles
gone_again = refl

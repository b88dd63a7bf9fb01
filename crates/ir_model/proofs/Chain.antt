-- Refinement in a chain: what may stand for one that may stand for a third, may stand for the third.
use Rattle.std.proofs.Common.{◌≡◌, refl, sym, ◌∙◌, subst, ℕ, zero, suc, ◌≤◌, Option, None, Some, List, [], ◌∷◌, length, slice_get}
use Rattle.std.specs.List.{AllZip}
use Rattle.std.proofs.Math.Nat.{le_trans}
use Rattle.ir_types.specs.declared.func.Param.{Param}
use Rattle.ir_types.specs.declared.func.Func.{Func}
use Rattle.ir_types.specs.declared.module.Item.{Item}
use Rattle.ir_types.specs.declared.module.Item.TheVariants.{Kept, Opaque, Func as FuncItem}
use Rattle.ir_types.specs.declared.module.Module.{Module}
use Rattle.ir_model.specs.declared.value.Value.{Value}
use Rattle.ir_model.specs.declared.value.Value.TheVariants.{Lane as LaneValue, Row as RowValue, Ptr as PtrValue}
use Rattle.ir_model.specs.declared.outcome.Outcome.{Outcome}
use Rattle.ir_model.specs.declared.outcome.Outcome.TheVariants.{Returned, Undefined, Cut}
use Rattle.ir_model.specs.Values.{MayStandFor, ValueRefines}
use Rattle.ir_model.specs.Memory.{Memory, MemoryRefines}
use Rattle.ir_model.specs.Run.{functions_of, run_of}
use Rattle.ir_model.specs.Fits.{ValueFits, Fits}
use Rattle.ir_model.specs.Refines.{ResultRefines, OutcomeRefines, SameParam, SameHeader, SameItem, ModuleRefines}
use Rattle.ir_model.proofs.Same.{zip_same, outcome_same}

-- ---- values, memories, outcomes

pub stands_chain : {A : Type 0} (x y z : Option A) → MayStandFor x y → MayStandFor y z → MayStandFor x z
stands_chain x y None p q = tt
stands_chain x y (Some z) p q = subst (MayStandFor x) q p

pub zip_chain : {A B C : Type 0} (R : A → B → Type 0) (S : B → C → Type 0) (T : A → C → Type 0) →
    ((x : A) (y : B) (z : C) → R x y → S y z → T x z) →
    (xs : List A) (ys : List B) (zs : List C) → AllZip R xs ys → AllZip S ys zs → AllZip T xs zs
zip_chain R S T h [] [] [] p q = tt
zip_chain R S T h (x ∷ xs) (y ∷ ys) (z ∷ zs) p q = (h x y z p.0 q.0, zip_chain R S T h xs ys zs p.1 q.1)
zip_chain R S T h [] (y ∷ ys) zs p q = elim p [ ]
zip_chain R S T h (x ∷ xs) [] zs p q = elim p [ ]
zip_chain R S T h [] [] (z ∷ zs) p q = elim q [ ]
zip_chain R S T h (x ∷ xs) (y ∷ ys) [] p q = elim q [ ]

pub lanes_chain : {A : Type 0} (xs ys zs : List (Option A)) → AllZip MayStandFor xs ys → AllZip MayStandFor ys zs → AllZip MayStandFor xs zs
lanes_chain xs ys zs p q = zip_chain MayStandFor MayStandFor MayStandFor (λ x y z. stands_chain x y z) xs ys zs p q

pub value_chain : (u v w : Value) → ValueRefines u v → ValueRefines v w → ValueRefines u w
value_chain (LaneValue a) (LaneValue b) (LaneValue c) p q = stands_chain a b c p q
value_chain (RowValue a) (RowValue b) (RowValue c) p q = lanes_chain a b c p q
value_chain (PtrValue a) (PtrValue b) (PtrValue c) p q = stands_chain a b c p q
value_chain (LaneValue a) (LaneValue b) (RowValue c) p q = elim q [ ]
value_chain (LaneValue a) (LaneValue b) (PtrValue c) p q = elim q [ ]
value_chain (RowValue a) (RowValue b) (LaneValue c) p q = elim q [ ]
value_chain (RowValue a) (RowValue b) (PtrValue c) p q = elim q [ ]
value_chain (PtrValue a) (PtrValue b) (LaneValue c) p q = elim q [ ]
value_chain (PtrValue a) (PtrValue b) (RowValue c) p q = elim q [ ]
value_chain (LaneValue a) (RowValue b) w p q = elim p [ ]
value_chain (LaneValue a) (PtrValue b) w p q = elim p [ ]
value_chain (RowValue a) (LaneValue b) w p q = elim p [ ]
value_chain (RowValue a) (PtrValue b) w p q = elim p [ ]
value_chain (PtrValue a) (LaneValue b) w p q = elim p [ ]
value_chain (PtrValue a) (RowValue b) w p q = elim p [ ]

pub memory_chain : (a b c : Memory) → MemoryRefines a b → MemoryRefines b c → MemoryRefines a c
memory_chain a b c p q = zip_chain (AllZip MayStandFor) (AllZip MayStandFor) (AllZip MayStandFor) (λ x y z. lanes_chain x y z) a b c p q

pub result_chain : (a b c : Option Value) → ResultRefines a b → ResultRefines b c → ResultRefines a c
result_chain None None None p q = tt
result_chain (Some u) (Some v) (Some w) p q = value_chain u v w p q
result_chain None (Some v) c p q = elim p [ ]
result_chain (Some u) None c p q = elim p [ ]
result_chain None None (Some w) p q = elim q [ ]
result_chain (Some u) (Some v) None p q = elim q [ ]

pub outcome_chain : (a b c : Outcome) → OutcomeRefines a b → OutcomeRefines b c → OutcomeRefines a c
outcome_chain a b Undefined p q = tt
outcome_chain (Returned u m) (Returned v n) (Returned w o) p q = (result_chain u v w p.0 q.0, memory_chain m n o p.1 q.1)
outcome_chain (Cut m) (Cut n) (Cut o) p q = memory_chain m n o p q
outcome_chain a Undefined (Returned w o) p q = elim q [ ]
outcome_chain a Undefined (Cut o) p q = elim q [ ]
outcome_chain a (Cut n) (Returned w o) p q = elim q [ ]
outcome_chain a (Returned v n) (Cut o) p q = elim q [ ]
outcome_chain Undefined (Returned v n) (Returned w o) p q = elim p [ ]
outcome_chain (Cut m) (Returned v n) (Returned w o) p q = elim p [ ]
outcome_chain Undefined (Cut n) (Cut o) p q = elim p [ ]
outcome_chain (Returned u m) (Cut n) (Cut o) p q = elim p [ ]

-- ---- headers

pub param_same : (p : Param) → SameParam p p
param_same p = record { name = refl; ty = refl; attrs = refl; noalias = refl }

pub header_same : (f : Func) → SameHeader f f
header_same f = record { before = refl; ret = refl; name = refl; params = zip_same SameParam param_same f.params; after = refl }

pub item_same : (i : Item) → SameItem i i
item_same (Kept text) = refl
item_same (Opaque text) = refl
item_same (FuncItem f) = header_same f

param_chain : (p q r : Param) → SameParam p q → SameParam q r → SameParam p r
param_chain p q r a b = record { name = a.name ∙ b.name; ty = a.ty ∙ b.ty; attrs = a.attrs ∙ b.attrs; noalias = a.noalias ∙ b.noalias }

header_chain : (f g h : Func) → SameHeader f g → SameHeader g h → SameHeader f h
header_chain f g h a b = record {
  before = a.before ∙ b.before;
  ret = a.ret ∙ b.ret;
  name = a.name ∙ b.name;
  params = zip_chain SameParam SameParam SameParam param_chain f.params g.params h.params a.params b.params;
  after = a.after ∙ b.after;
}

item_chain : (i j k : Item) → SameItem i j → SameItem j k → SameItem i k
item_chain (Kept a) (Kept b) (Kept c) p q = p ∙ q
item_chain (Opaque a) (Opaque b) (Opaque c) p q = p ∙ q
item_chain (FuncItem f) (FuncItem g) (FuncItem h) p q = header_chain f g h p q
item_chain (Kept a) (Kept b) (Opaque c) p q = elim q [ ]
item_chain (Kept a) (Kept b) (FuncItem c) p q = elim q [ ]
item_chain (Opaque a) (Opaque b) (Kept c) p q = elim q [ ]
item_chain (Opaque a) (Opaque b) (FuncItem c) p q = elim q [ ]
item_chain (FuncItem a) (FuncItem b) (Kept c) p q = elim q [ ]
item_chain (FuncItem a) (FuncItem b) (Opaque c) p q = elim q [ ]
item_chain (Kept a) (Opaque b) k p q = elim p [ ]
item_chain (Kept a) (FuncItem b) k p q = elim p [ ]
item_chain (Opaque a) (Kept b) k p q = elim p [ ]
item_chain (Opaque a) (FuncItem b) k p q = elim p [ ]
item_chain (FuncItem a) (Kept b) k p q = elim p [ ]
item_chain (FuncItem a) (Opaque b) k p q = elim p [ ]

-- ---- functions of two modules with the same items

-- the function with the same header and number
pub record Partner (new : List Item) (func : ℕ) (f : Func) : Type 0 where
  pub partner : Func
  pub found : slice_get (functions_of new) func ≡ Some partner
  pub header : SameHeader partner f

pub partner_of : (new old : List Item) (func : ℕ) (f : Func) → AllZip SameItem new old → slice_get (functions_of old) func ≡ Some f → Partner new func f
partner_of [] [] func f z e = absurd cc
partner_of (Kept a ∷ new) (Kept b ∷ old) func f z e = let p = partner_of new old func f z.1 e in record { partner = p.partner; found = p.found; header = p.header }
partner_of (Opaque a ∷ new) (Opaque b ∷ old) func f z e = let p = partner_of new old func f z.1 e in record { partner = p.partner; found = p.found; header = p.header }
partner_of (FuncItem g ∷ new) (FuncItem h ∷ old) zero f z e = record { partner = g; found = refl; header = subst (SameHeader g) (same e) z.0 } where
  same : Some h ≡ Some f → h ≡ f
  same e = cc
partner_of (FuncItem g ∷ new) (FuncItem h ∷ old) (suc func) f z e = let p = partner_of new old func f z.1 e in record { partner = p.partner; found = p.found; header = p.header }
partner_of [] (i ∷ old) func f z e = elim z [ ]
partner_of (i ∷ new) [] func f z e = elim z [ ]
partner_of (Kept a ∷ new) (Opaque b ∷ old) func f z e = elim z.0 [ ]
partner_of (Kept a ∷ new) (FuncItem b ∷ old) func f z e = elim z.0 [ ]
partner_of (Opaque a ∷ new) (Kept b ∷ old) func f z e = elim z.0 [ ]
partner_of (Opaque a ∷ new) (FuncItem b ∷ old) func f z e = elim z.0 [ ]
partner_of (FuncItem a ∷ new) (Kept b ∷ old) func f z e = elim z.0 [ ]
partner_of (FuncItem a ∷ new) (Opaque b ∷ old) func f z e = elim z.0 [ ]

-- what fits a function fits one with the same header
args_fit : (objects : ℕ) (new old : List Param) (args : List Value) → AllZip SameParam new old →
    AllZip (λ (p : Param) v. ValueFits objects p.ty v) old args → AllZip (λ (p : Param) v. ValueFits objects p.ty v) new args
args_fit objects new old args h z =
    zip_chain SameParam (λ (p : Param) v. ValueFits objects p.ty v) (λ (p : Param) v. ValueFits objects p.ty v)
    (λ p q v same fits. subst (λ t. ValueFits objects t v) (sym same.ty) fits) new old args h z

pub fits_partner : (new old : Module) (g f : Func) (args : List Value) (memory : Memory) → length new.globals ≤ length old.globals →
    SameHeader g f → Fits old f args memory → Fits new g args memory
fits_partner new old g f args memory fewer h fits = record {
  typed = args_fit (length memory) g.params f.params args h.params fits.typed;
  objects = fits.objects;
  globals = le_trans fewer fits.globals;
}

-- ---- modules

pub module_same : (m : Module) → ModuleRefines m m
module_same m = record {
  items = zip_same SameItem item_same m.items;
  runs = λ func f found args memory fits bound. outcome_same (run_of m func args memory bound);
}

pub module_chain : (a b c : Module) → length b.globals ≤ length c.globals → ModuleRefines a b → ModuleRefines b c → ModuleRefines a c
module_chain a b c fewer p q = record {
  items = zip_chain SameItem SameItem SameItem item_chain a.items b.items c.items p.items q.items;
  runs = λ func f found args memory fits bound.
      let g = partner_of b.items c.items func f q.items found in
      outcome_chain (run_of a func args memory bound) (run_of b func args memory bound) (run_of c func args memory bound)
      (p.runs func g.partner g.found args memory (fits_partner b c g.partner f args memory fewer g.header fits) bound)
      (q.runs func f found args memory fits bound);
}

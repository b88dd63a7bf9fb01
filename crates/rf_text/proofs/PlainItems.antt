-- What formed and printable say together of an item, in one record: the lemmas on printing and reading ask for it.
use Rattle.std.proofs.Common.{◌≡◌, refl, sym, ◌∙◌, ℕ, zero, suc, Bool, true, false, not, ◌&&◌, ◌⊎◌, inl, inr, Option, None, Some, List, [], ◌∷◌, arith}
use Rattle.std.specs.List.{All, AllPairs}
use Rattle.std.proofs.lemmas.List.Elements.{All-nil, All-cons, All-head, All-tail, All-weaker}
use Rattle.ir_lex.specs.Tokens.{is_name}
use Rattle.ir_types.specs.declared.ty.Ty.{Ty}
use Rattle.ir_types.specs.declared.ty.Ty.TheVariants.{Void, Int, Ptr, Row}
use Rattle.ir_types.specs.declared.op.Op.{Op}
use Rattle.ir_types.specs.declared.op.Op.TheVariants.{Bin, Icmp, Cast, Select, Extract, Insert, Shuffle, Gep, Load, Store, Alloca, Phi, Ret, Br, CondBr, Switch, Unreachable, Call}
use Rattle.ir_types.specs.declared.inst.Inst.{Inst}
use Rattle.ir_types.specs.declared.func.Param.{Param}
use Rattle.ir_types.specs.declared.func.Block.{Block}
use Rattle.ir_types.specs.declared.func.Func.{Func}
use Rattle.ir_types.specs.declared.module.Item.{Item}
use Rattle.ir_types.specs.declared.module.Item.TheVariants.{Kept, Opaque, Func as FuncItem}
use Rattle.ir_types.specs.declared.module.Module.{Module}
use Rattle.ir_types.specs.Typed.{is_value}
use Rattle.ir_types.specs.Formed as formed
use Rattle.ir_types.specs.Formed.{given_ty, is_plain, IsPoisonIfPointer, IsFormed, IsFormedItem, IsFormedFunc, IsPlain}
use Rattle.ir_print.specs.Names.{named_of, is_store, is_void}
use Rattle.rf_text.specs.Headed.{is_returned, IsParam, IsHeader}
use Rattle.ir_types.specs.KeptParts.{IsAttributes}
use Rattle.rf_text.specs.OpaqueText.{IsOpaqueText}
use Rattle.rf_text.specs.Shown.{is_call}
use Rattle.rf_text.specs.Printable.{written_names, HasNoCall, IsPrintableFunc, IsPlainLine, IsPrintableItem, IsPrintable}

-- whether an instruction gives a value
abbrev pub gives : Inst → Bool
gives i = not (is_void i.ty) && not (is_store i.op)

pub record IsPlainInst (i : Inst) : Type 0 where
  pub named : is_plain i.name ≡ true
  -- what gives no value has no name
  pub silent : gives i ≡ false → i.name ≡ None
  pub pointers : All IsPoisonIfPointer i.opds
  pub other : is_call i.op ≡ false

pub record IsPlainBlock (b : Block) : Type 0 where
  pub named : is_plain b.name ≡ true
  pub insts : All IsPlainInst b.insts

pub record IsPlainFunc (f : Func) : Type 0 where
  pub header : IsHeader f.before f.ret f.name f.params f.after
  pub params : All (λ (p : Param). is_plain p.name ≡ true) f.params
  pub blocks : All IsPlainBlock f.blocks
  pub once : AllPairs (λ (a b : List ℕ). a ≡ b → ⊥) (written_names (named_of f))

abbrev pub IsPlainItem : Item → Type 0
IsPlainItem (Kept text) = IsPlainLine text
IsPlainItem (Opaque text) = IsOpaqueText text
IsPlainItem (FuncItem f) = IsPlainFunc f

-- ---- what gives no value

false_true : false ≡ true → ⊥
false_true e = cc

-- a value is given where the type given is another than void
void_given : (v : Bool) (op : Op) (t : Ty) → is_void t ≡ v → not v && not (is_store op) ≡ false → given_ty op t ≡ Void
void_given true op Void e h = by_op op where
  by_op : (op : Op) → given_ty op Void ≡ Void
  by_op (Store align) = refl
  by_op (Bin o flags) = refl
  by_op (Icmp pred) = refl
  by_op (Cast o nneg) = refl
  by_op Select = refl
  by_op Extract = refl
  by_op Insert = refl
  by_op (Shuffle mask) = refl
  by_op (Gep elem inbounds) = refl
  by_op (Load align) = refl
  by_op (Alloca elem align) = refl
  by_op (Phi blocks) = refl
  by_op Ret = refl
  by_op (Br to) = refl
  by_op (CondBr first second) = refl
  by_op (Switch other cases to) = refl
  by_op Unreachable = refl
  by_op (Call site) = refl
void_given true op (Int w) e h = absurd (false_true e)
void_given true op Ptr e h = absurd (false_true e)
void_given true op (Row n w) e h = absurd (false_true e)
void_given false (Store align) t e h = refl
void_given false (Bin o flags) t e h = absurd (false_true (sym h))
void_given false (Icmp pred) t e h = absurd (false_true (sym h))
void_given false (Cast o nneg) t e h = absurd (false_true (sym h))
void_given false Select t e h = absurd (false_true (sym h))
void_given false Extract t e h = absurd (false_true (sym h))
void_given false Insert t e h = absurd (false_true (sym h))
void_given false (Shuffle mask) t e h = absurd (false_true (sym h))
void_given false (Gep elem inbounds) t e h = absurd (false_true (sym h))
void_given false (Load align) t e h = absurd (false_true (sym h))
void_given false (Alloca elem align) t e h = absurd (false_true (sym h))
void_given false (Phi blocks) t e h = absurd (false_true (sym h))
void_given false Ret t e h = absurd (false_true (sym h))
void_given false (Br to) t e h = absurd (false_true (sym h))
void_given false (CondBr first second) t e h = absurd (false_true (sym h))
void_given false (Switch other cases to) t e h = absurd (false_true (sym h))
void_given false Unreachable t e h = absurd (false_true (sym h))
void_given false (Call site) t e h = absurd (false_true (sym h))

pub gives_void : (i : Inst) → gives i ≡ false → given_ty i.op i.ty ≡ Void
gives_void i h = void_given (is_void i.ty) i.op i.ty refl h

-- and where the type is void no value is given
given_void : (op : Op) (t : Ty) → given_ty op t ≡ Void → not (is_void t) && not (is_store op) ≡ false
given_void op Void h = refl
given_void op (Int w) h = by_op op h where
  by_op : (op : Op) → given_ty op (Int w) ≡ Void → not (is_store op) ≡ false
  by_op (Store align) h = refl
  by_op (Bin o flags) h = absurd cc
  by_op (Icmp pred) h = absurd cc
  by_op (Cast o nneg) h = absurd cc
  by_op Select h = absurd cc
  by_op Extract h = absurd cc
  by_op Insert h = absurd cc
  by_op (Shuffle mask) h = absurd cc
  by_op (Gep elem inbounds) h = absurd cc
  by_op (Load align) h = absurd cc
  by_op (Alloca elem align) h = absurd cc
  by_op (Phi blocks) h = absurd cc
  by_op Ret h = absurd cc
  by_op (Br to) h = absurd cc
  by_op (CondBr first second) h = absurd cc
  by_op (Switch other cases to) h = absurd cc
  by_op Unreachable h = absurd cc
  by_op (Call site) h = absurd cc
given_void op Ptr h = by_op op h where
  by_op : (op : Op) → given_ty op Ptr ≡ Void → not (is_store op) ≡ false
  by_op (Store align) h = refl
  by_op (Bin o flags) h = absurd cc
  by_op (Icmp pred) h = absurd cc
  by_op (Cast o nneg) h = absurd cc
  by_op Select h = absurd cc
  by_op Extract h = absurd cc
  by_op Insert h = absurd cc
  by_op (Shuffle mask) h = absurd cc
  by_op (Gep elem inbounds) h = absurd cc
  by_op (Load align) h = absurd cc
  by_op (Alloca elem align) h = absurd cc
  by_op (Phi blocks) h = absurd cc
  by_op Ret h = absurd cc
  by_op (Br to) h = absurd cc
  by_op (CondBr first second) h = absurd cc
  by_op (Switch other cases to) h = absurd cc
  by_op Unreachable h = absurd cc
  by_op (Call site) h = absurd cc
given_void op (Row n w) h = by_op op h where
  by_op : (op : Op) → given_ty op (Row n w) ≡ Void → not (is_store op) ≡ false
  by_op (Store align) h = refl
  by_op (Bin o flags) h = absurd cc
  by_op (Icmp pred) h = absurd cc
  by_op (Cast o nneg) h = absurd cc
  by_op Select h = absurd cc
  by_op Extract h = absurd cc
  by_op Insert h = absurd cc
  by_op (Shuffle mask) h = absurd cc
  by_op (Gep elem inbounds) h = absurd cc
  by_op (Load align) h = absurd cc
  by_op (Alloca elem align) h = absurd cc
  by_op (Phi blocks) h = absurd cc
  by_op Ret h = absurd cc
  by_op (Br to) h = absurd cc
  by_op (CondBr first second) h = absurd cc
  by_op (Switch other cases to) h = absurd cc
  by_op Unreachable h = absurd cc
  by_op (Call site) h = absurd cc

-- ---- from formed and printable

two_all : {A : Type 0} (P Q R : A → Type 0) → ((x : A) → P x → Q x → R x) → (xs : List A) → All P xs → All Q xs → All R xs
two_all P Q R f [] p q = All-nil R
two_all P Q R f (x ∷ xs) p q = All-cons R x xs (f x (All-head P x xs p) (All-head Q x xs q)) (two_all P Q R f xs (All-tail P x xs p) (All-tail Q x xs q))

inst_of : (i : Inst) → formed.IsPlainInst i → is_call i.op ≡ false → IsPlainInst i
inst_of i p c = record { named = p.named; silent = λ h. p.silent (gives_void i h); pointers = p.pointers; other = c }

block_of : (b : Block) → formed.IsPlainBlock b → HasNoCall b → IsPlainBlock b
block_of b p c = record { named = p.named; insts = two_all formed.IsPlainInst (λ (i : Inst). is_call i.op ≡ false) IsPlainInst inst_of b.insts p.insts c }

returned : (t : Ty) → (t ≡ Void) ⊎ (is_value t ≡ true) → is_returned t ≡ true
returned Void e = refl
returned (Int w) e = elim e [ inl v ↦ absurd cc | inr h ↦ h ]
returned Ptr e = refl
returned (Row n w) e = elim e [ inl v ↦ absurd cc | inr h ↦ h ]

func_of : (m : Module) (f : Func) → IsFormedFunc m f → formed.IsPlainFunc f → IsPrintableFunc f → IsPlainFunc f
func_of m f z p q = record {
  header = record {
    in_front = p.header.in_front;
    returned = returned f.ret z.returns;
    named = p.named;
    typed = two_all (λ (x : Param). is_value x.ty ≡ true) (λ (x : Param). IsAttributes x.noalias x.attrs) IsParam (λ x t a. record { typed = t; attributed = a }) f.params z.params p.header.attributed;
    at_end = p.header.at_end;
  };
  params = p.params;
  blocks = two_all formed.IsPlainBlock HasNoCall IsPlainBlock block_of f.blocks p.blocks q.calls;
  once = q.once;
}

item_of : (m : Module) (i : Item) → IsFormedItem m i → formed.IsPlainItem i → IsPrintableItem i → IsPlainItem i
item_of m (Kept text) z p q = q
item_of m (Opaque text) z p q = q
item_of m (FuncItem f) z p q = func_of m f z p q

items_of : (m : Module) (is : List Item) → All (IsFormedItem m) is → All formed.IsPlainItem is → All IsPrintableItem is → All IsPlainItem is
items_of m [] z p q = All-nil IsPlainItem
items_of m (i ∷ is) z p q =
    All-cons IsPlainItem i is (item_of m i (All-head (IsFormedItem m) i is z) (All-head formed.IsPlainItem i is p) (All-head IsPrintableItem i is q))
    (items_of m is (All-tail (IsFormedItem m) i is z) (All-tail formed.IsPlainItem i is p) (All-tail IsPrintableItem i is q))

pub plain_items : (m : Module) → IsFormed m → IsPrintable m → All IsPlainItem m.items
plain_items m z q = items_of m m.items z.items z.plain.items q.items

-- ---- and back

pub func_printable : (f : Func) → IsPlainFunc f → IsPrintableFunc f
func_printable f p = record {
  calls = All-weaker IsPlainBlock HasNoCall (λ b h. All-weaker IsPlainInst (λ (i : Inst). is_call i.op ≡ false) (λ i k. k.other) b.insts h.insts) f.blocks p.blocks;
  once = p.once;
}

pub item_printable : (i : Item) → IsPlainItem i → IsPrintableItem i
item_printable (Kept text) p = p
item_printable (Opaque text) p = p
item_printable (FuncItem f) p = func_printable f p

inst_formed : (i : Inst) → IsPlainInst i → formed.IsPlainInst i
inst_formed i p = record { named = p.named; silent = λ h. p.silent (given_void i.op i.ty h); pointers = p.pointers }

block_formed : (b : Block) → IsPlainBlock b → formed.IsPlainBlock b
block_formed b p = record { named = p.named; insts = All-weaker IsPlainInst formed.IsPlainInst inst_formed b.insts p.insts }

pub func_formed : (f : Func) → IsPlainFunc f → formed.IsPlainFunc f
func_formed f p = record {
  header = record {
    in_front = p.header.in_front;
    attributed = All-weaker IsParam (λ (x : Param). IsAttributes x.noalias x.attrs) (λ x h. h.attributed) f.params p.header.typed;
    at_end = p.header.at_end;
  };
  named = p.header.named;
  params = p.params;
  blocks = All-weaker IsPlainBlock formed.IsPlainBlock block_formed f.blocks p.blocks;
}

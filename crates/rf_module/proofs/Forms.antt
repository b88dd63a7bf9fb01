-- The vector form of an operation on integers: its types lane by lane, and the flags that all lanes have.
use Rattle.std.proofs.Common.{◌≡◌, refl, sym, ap, ◌∙◌, subst, ℕ, zero, suc, ◌*◌, ◌≤◌, ◌⊎◌, inl, inr, Bool, true, false, not, ◌&&◌, ◌||◌, Option, Some, List, [], ◌∷◌, ◌++◌, map, nat_le, arith, length}
use Rattle.std.specs.Bool.{⊤}
use Rattle.std.specs.List.{list_any, list_all}
use Rattle.std.proofs.lemmas.Bool.Decides.{nat_tests}
use Rattle.vx_num.specs.declared.operations.BinOp.{BinOp}
use Rattle.vx_num.specs.declared.operations.BinOp.TheVariants as bin
use Rattle.vx_num.specs.declared.operations.CastOp.{CastOp}
use Rattle.vx_num.specs.declared.operations.CastOp.TheVariants as conv
use Rattle.vx_num.specs.declared.operations.Flags.{Flags}
use Rattle.ir_types.specs.declared.ty.Ty.{Ty}
use Rattle.ir_types.specs.declared.ty.Ty.TheVariants.{Void, Int, Ptr, Row}
use Rattle.ir_types.specs.declared.opd.Opd.{Opd}
use Rattle.ir_types.specs.declared.op.Op.{Op}
use Rattle.ir_types.specs.declared.op.Op.TheVariants as op
use Rattle.ir_types.specs.declared.inst.Inst.{Inst}
use Rattle.ir_types.specs.Typed.{is_width, is_count, is_vector, is_scalar, is_number, is_stored, lane_width, with_width, has_flags, Converts, IsTyped}
use Rattle.ir_types.specs.Formed.{is_store}
use Rattle.vx_serial.specs.Legal.{is_kind, is_too_wide}
use Rattle.vx_serial.specs.Tree.{slots_of}
use Rattle.vx_serial.specs.Rewriting.{both, common, common_op, pointer_of}
use Rattle.vx_serial.proofs.Decided.{true_false, and_right}

-- ---- fewer flags

abbrev pub Lessened : Op → Op → Type 0
Lessened (op.Bin o f) p = (g : Flags) × (p ≡ op.Bin o (both f g))
Lessened (op.Cast o n) p = (k : Bool) × (p ≡ op.Cast o (n && k))
Lessened o p = p ≡ o

all_flags : Flags
all_flags = record { nuw = true; nsw = true; exact = true; disjoint = true }

and_true : (b : Bool) → (b && true) ≡ b
and_true true = refl
and_true false = refl

and_assoc : (a b c : Bool) → ((a && b) && c) ≡ (a && (b && c))
and_assoc true b c = refl
and_assoc false b c = refl

abbrev flags : Bool → Bool → Bool → Bool → Flags
flags a b c d = record { nuw = a; nsw = b; exact = c; disjoint = d }

flags_same : (a b c d e f g h : Bool) → a ≡ e → b ≡ f → c ≡ g → d ≡ h → flags a b c d ≡ flags e f g h
flags_same a b c d e f g h p q r s = ap (λ x. flags x b c d) p ∙ ap (λ x. flags e x c d) q ∙ ap (λ x. flags e f x d) r ∙ ap (λ x. flags e f g x) s

both_assoc : (f g h : Flags) → both (both f g) h ≡ both f (both g h)
both_assoc f g h =
    flags_same ((f.nuw && g.nuw) && h.nuw) ((f.nsw && g.nsw) && h.nsw) ((f.exact && g.exact) && h.exact) ((f.disjoint && g.disjoint) && h.disjoint)
    (f.nuw && (g.nuw && h.nuw)) (f.nsw && (g.nsw && h.nsw)) (f.exact && (g.exact && h.exact)) (f.disjoint && (g.disjoint && h.disjoint))
    (and_assoc f.nuw g.nuw h.nuw) (and_assoc f.nsw g.nsw h.nsw) (and_assoc f.exact g.exact h.exact) (and_assoc f.disjoint g.disjoint h.disjoint)

lessened_itself : (o : Op) → Lessened o o
lessened_itself (op.Bin o f) = (
  record { nuw = true; nsw = true; exact = true; disjoint = true },
  ap (op.Bin o) (sym (
      flags_same (f.nuw && true) (f.nsw && true) (f.exact && true) (f.disjoint && true) f.nuw f.nsw f.exact f.disjoint (and_true f.nuw) (and_true f.nsw) (and_true f.exact) (and_true f.disjoint))),
)
lessened_itself (op.Cast o n) = (true, ap (op.Cast o) (sym (and_true n)))
lessened_itself (op.Icmp pred) = refl
lessened_itself op.Select = refl
lessened_itself op.Extract = refl
lessened_itself op.Insert = refl
lessened_itself (op.Shuffle mask) = refl
lessened_itself (op.Gep elem inbounds) = refl
lessened_itself (op.Load align) = refl
lessened_itself (op.Store align) = refl
lessened_itself (op.Alloca elem align) = refl
lessened_itself (op.Phi blocks) = refl
lessened_itself op.Ret = refl
lessened_itself (op.Br to) = refl
lessened_itself (op.CondBr first second) = refl
lessened_itself (op.Switch other cases to) = refl
lessened_itself op.Unreachable = refl
lessened_itself (op.Call site) = refl

-- one more lane takes away flags and nothing else
common_bin : (o : BinOp) (f : Flags) (x : Op) → (g : Flags) × (common (op.Bin o f) x ≡ op.Bin o (both f g))
common_bin o f (op.Bin p g) = (g, refl)
common_bin o f (op.Cast p n) = lessened_itself (op.Bin o f)
common_bin o f (op.Icmp pred) = lessened_itself (op.Bin o f)
common_bin o f op.Select = lessened_itself (op.Bin o f)
common_bin o f op.Extract = lessened_itself (op.Bin o f)
common_bin o f op.Insert = lessened_itself (op.Bin o f)
common_bin o f (op.Shuffle mask) = lessened_itself (op.Bin o f)
common_bin o f (op.Gep elem inbounds) = lessened_itself (op.Bin o f)
common_bin o f (op.Load align) = lessened_itself (op.Bin o f)
common_bin o f (op.Store align) = lessened_itself (op.Bin o f)
common_bin o f (op.Alloca elem align) = lessened_itself (op.Bin o f)
common_bin o f (op.Phi blocks) = lessened_itself (op.Bin o f)
common_bin o f op.Ret = lessened_itself (op.Bin o f)
common_bin o f (op.Br to) = lessened_itself (op.Bin o f)
common_bin o f (op.CondBr first second) = lessened_itself (op.Bin o f)
common_bin o f (op.Switch other cases to) = lessened_itself (op.Bin o f)
common_bin o f op.Unreachable = lessened_itself (op.Bin o f)
common_bin o f (op.Call site) = lessened_itself (op.Bin o f)

common_cast : (o : CastOp) (n : Bool) (x : Op) → (k : Bool) × (common (op.Cast o n) x ≡ op.Cast o (n && k))
common_cast o n (op.Cast p k) = (k, refl)
common_cast o n (op.Bin p g) = lessened_itself (op.Cast o n)
common_cast o n (op.Icmp pred) = lessened_itself (op.Cast o n)
common_cast o n op.Select = lessened_itself (op.Cast o n)
common_cast o n op.Extract = lessened_itself (op.Cast o n)
common_cast o n op.Insert = lessened_itself (op.Cast o n)
common_cast o n (op.Shuffle mask) = lessened_itself (op.Cast o n)
common_cast o n (op.Gep elem inbounds) = lessened_itself (op.Cast o n)
common_cast o n (op.Load align) = lessened_itself (op.Cast o n)
common_cast o n (op.Store align) = lessened_itself (op.Cast o n)
common_cast o n (op.Alloca elem align) = lessened_itself (op.Cast o n)
common_cast o n (op.Phi blocks) = lessened_itself (op.Cast o n)
common_cast o n op.Ret = lessened_itself (op.Cast o n)
common_cast o n (op.Br to) = lessened_itself (op.Cast o n)
common_cast o n (op.CondBr first second) = lessened_itself (op.Cast o n)
common_cast o n (op.Switch other cases to) = lessened_itself (op.Cast o n)
common_cast o n op.Unreachable = lessened_itself (op.Cast o n)
common_cast o n (op.Call site) = lessened_itself (op.Cast o n)

bins_lessened : (o : BinOp) (f : Flags) (is : List Inst) → (g : Flags) × (common_op (op.Bin o f) is ≡ op.Bin o (both f g))
bins_lessened o f [] = lessened_itself (op.Bin o f)
bins_lessened o f (i ∷ is) =
    let one = common_bin o f i.op in
    let rest = bins_lessened o (both f one.0) is in
    (both one.0 rest.0, ap (λ p. common_op p is) one.1 ∙ rest.1 ∙ ap (op.Bin o) (both_assoc f one.0 rest.0))

casts_lessened : (o : CastOp) (n : Bool) (is : List Inst) → (k : Bool) × (common_op (op.Cast o n) is ≡ op.Cast o (n && k))
casts_lessened o n [] = lessened_itself (op.Cast o n)
casts_lessened o n (i ∷ is) =
    let one = common_cast o n i.op in
    let rest = casts_lessened o (n && one.0) is in
    (one.0 && rest.0, ap (λ p. common_op p is) one.1 ∙ rest.1 ∙ ap (op.Cast o) (and_assoc n one.0 rest.0))

plain_common : (o : Op) → ((x : Op) → common o x ≡ o) → (is : List Inst) → common_op o is ≡ o
plain_common o h [] = refl
plain_common o h (i ∷ is) = ap (λ p. common_op p is) (h i.op) ∙ plain_common o h is

-- ---- flags and conversions

both_false : (a b : Bool) → not a ≡ true → not (a && b) ≡ true
both_false true b e = absurd cc
both_false false b e = refl

two : (a b c d : Bool) → (not a && not b) ≡ true → (not (a && c) && not (b && d)) ≡ true
two true b c d e = absurd cc
two false true c d e = absurd cc
two false false c d e = refl

three : (a b x c d y : Bool) → (not a && not b && not x) ≡ true → (not (a && c) && not (b && d) && not (x && y)) ≡ true
three true b x c d y e = absurd cc
three false true x c d y e = absurd cc
three false false true c d y e = absurd cc
three false false false c d y e = refl

four : (a b x z c d y w : Bool) → (not a && not b && not x && not z) ≡ true → (not (a && c) && not (b && d) && not (x && y) && not (z && w)) ≡ true
four true b x z c d y w e = absurd cc
four false true x z c d y w e = absurd cc
four false false true z c d y w e = absurd cc
four false false false true c d y w e = absurd cc
four false false false false c d y w e = refl

pub fewer_flags : (o : BinOp) (f g : Flags) → has_flags o f ≡ true → has_flags o (both f g) ≡ true
fewer_flags bin.Add f g e = two f.exact f.disjoint g.exact g.disjoint e
fewer_flags bin.Sub f g e = two f.exact f.disjoint g.exact g.disjoint e
fewer_flags bin.Mul f g e = two f.exact f.disjoint g.exact g.disjoint e
fewer_flags bin.Shl f g e = two f.exact f.disjoint g.exact g.disjoint e
fewer_flags bin.Udiv f g e = three f.nuw f.nsw f.disjoint g.nuw g.nsw g.disjoint e
fewer_flags bin.Sdiv f g e = three f.nuw f.nsw f.disjoint g.nuw g.nsw g.disjoint e
fewer_flags bin.Lshr f g e = three f.nuw f.nsw f.disjoint g.nuw g.nsw g.disjoint e
fewer_flags bin.Ashr f g e = three f.nuw f.nsw f.disjoint g.nuw g.nsw g.disjoint e
fewer_flags bin.Or f g e = three f.nuw f.nsw f.exact g.nuw g.nsw g.exact e
fewer_flags bin.Urem f g e = four f.nuw f.nsw f.exact f.disjoint g.nuw g.nsw g.exact g.disjoint e
fewer_flags bin.Srem f g e = four f.nuw f.nsw f.exact f.disjoint g.nuw g.nsw g.exact g.disjoint e
fewer_flags bin.And f g e = four f.nuw f.nsw f.exact f.disjoint g.nuw g.nsw g.exact g.disjoint e
fewer_flags bin.Xor f g e = four f.nuw f.nsw f.exact f.disjoint g.nuw g.nsw g.exact g.disjoint e

and_none : (n k : Bool) → n ≡ false → (n && k) ≡ false
and_none true k e = absurd cc
and_none false k e = refl

pub fewer_converts : (o : CastOp) (n k : Bool) (from to : ℕ) → Converts o n from to → Converts o (n && k) from to
fewer_converts conv.Zext n k from to h = h
fewer_converts conv.Sext n k from to h = (h.0, and_none n k h.1)
fewer_converts conv.Trunc n k from to h = (h.0, and_none n k h.1)

-- ---- vectors

abbrev pub scalar_tys : List ℕ → List (Option Ty)
scalar_tys ws = map (λ w. Some (Int w)) ws

abbrev pub vector_tys : ℕ → List ℕ → List (Option Ty)
vector_tys n ws = map (λ w. Some (Row n w)) ws

-- a vector form: the widths of the slots, what stands after them, and the types of the vector instruction
pub record Form (ret : Ty) (o wide : Op) (ty : Ty) (slots : ℕ) (tys : List (Option Ty)) (n : ℕ) : Type 0 where
  pub widths : List ℕ
  pub rest : List (Option Ty)
  pub tys_are : tys ≡ scalar_tys widths ++ rest
  pub count : length widths ≡ slots
  pub width : ℕ
  pub ty_is : ty ≡ Int width
  pub typed : IsTyped ret wide (Row n width) (vector_tys n widths ++ rest)

-- a vector is one where its lanes are integers and it is not too wide
pub is_row : (n w : ℕ) → is_count n ≡ true → is_scalar (Int w) ≡ true → is_too_wide n (Some (Int w)) ≡ false → is_vector (Row n w) ≡ true
is_row n w count scalar narrow =
    ap (λ b. b && is_width w && nat_le (n * w) 512) count ∙ ap (λ b. b && nat_le (n * w) 512) scalar ∙ (let le : n * w ≤ 512 = grind (arith, nat_tests) in grind (arith, nat_tests))

number_row : (n w : ℕ) → is_vector (Row n w) ≡ true → is_number (Row n w) ≡ true
number_row n w e = e

scalar_is : (t : Ty) → is_scalar t ≡ true → (w : ℕ) × (t ≡ Int w)
scalar_is (Int w) e = (w, refl)
scalar_is Void e = absurd cc
scalar_is Ptr e = absurd cc
scalar_is (Row n w) e = absurd cc

scalar_number : (t : Ty) → is_number t ≡ true → (w : ℕ) → t ≡ Int w → is_scalar (Int w) ≡ true
scalar_number (Int v) e w same = ap is_scalar (sym same) ∙ scalar_of (is_width v) e
  where
    scalar_of : (b : Bool) → (b || false) ≡ true → b ≡ true
    scalar_of true r = refl
    scalar_of false r = absurd cc
scalar_number Void e w same = absurd cc
scalar_number Ptr e w same = absurd cc
scalar_number (Row n v) e w same = absurd cc

-- the form of an operation whose result and operands are integers
module _ (ret : Ty) (n : ℕ) (count : is_count n ≡ true) where
  abbrev Narrow : List (Option Ty) → Type 0
  Narrow tys = list_any (λ (t : Option Ty). is_too_wide n t) tys ≡ false

  narrow_head : (t : Option Ty) (ts : List (Option Ty)) → Narrow (t ∷ ts) → is_too_wide n t ≡ false
  narrow_head t ts e = by_test (is_too_wide n t) e
    where
      by_test : (b : Bool) → (b || list_any (λ (u : Option Ty). is_too_wide n u) ts) ≡ false → b ≡ false
      by_test true r = absurd cc
      by_test false r = refl

  narrow_rest : (t : Option Ty) (ts : List (Option Ty)) → Narrow (t ∷ ts) → Narrow ts
  narrow_rest t ts e = by_test (is_too_wide n t) e
    where
      by_test : (b : Bool) → (b || list_any (λ (u : Option Ty). is_too_wide n u) ts) ≡ false → list_any (λ (u : Option Ty). is_too_wide n u) ts ≡ false
      by_test true r = absurd cc
      by_test false r = r

  -- what an integer's comparison compares are integers
  icmp_width : (u : Ty) (w : ℕ) → Int w ≡ with_width 1 u → is_number u ≡ true → (v : ℕ) × (u ≡ Int v) × (w ≡ 1)
  icmp_width (Int v) w e num = (v, refl, int_is e)
    where
      int_is : Int w ≡ Int 1 → w ≡ 1
      int_is r = cc
  icmp_width Void w e num = absurd cc
  icmp_width Ptr w e num = absurd cc
  icmp_width (Row k v) w e num = absurd cc

  -- what an integer is converted from is one
  cast_width : (u : Ty) (w : ℕ) → Int w ≡ with_width w u → is_number u ≡ true → (v : ℕ) × (u ≡ Int v)
  cast_width (Int v) w e num = (v, refl)
  cast_width Void w e num = absurd cc
  cast_width Ptr w e num = absurd cc
  cast_width (Row k v) w e num = absurd cc

  stored_row : (w : ℕ) → is_vector (Row n w) ≡ true → is_stored (Int w) ≡ true → is_stored (Row n w) ≡ true
  stored_row w row e = ap (λ b. b && nat_le 8 w) row ∙ and_right (is_number (Int w)) (nat_le 8 w) e

  -- an operation that may be widened, and that has its type
  abbrev pub MayBe : Op → Type 0
  MayBe o = (is_kind o ≡ true) ⊎ (is_store o ≡ true)

  abbrev FormOf : Op → Op → ℕ → List Opd → List (Option Ty) → Type 0
  FormOf o wide w os tys =
      MayBe o → Lessened o wide → is_scalar (Int w) ≡ true → is_too_wide n (Some (Int w)) ≡ false → Narrow tys → length tys ≡ length os → IsTyped ret o (Int w) tys → Form ret o wide (Int w) (slots_of o os) tys n

  never : (o : Op) {A : Type 0} → is_kind o ≡ false → is_store o ≡ false → MayBe o → A
  never o k s (inl h) = absurd (true_false (sym h ∙ k))
  never o k s (inr h) = absurd (true_false (sym h ∙ s))

  form_int : (o wide : Op) (w : ℕ) (os : List Opd) (tys : List (Option Ty)) → FormOf o wide w os tys
  form_int (op.Bin o f) wide w os tys may less scalar narrow thin long typed = record {
    widths = w ∷ w ∷ [];
    rest = [];
    tys_are = typed.2;
    count = sym (ap length typed.2) ∙ long;
    width = w;
    ty_is = refl;
    typed = subst (λ p. IsTyped ret p (Row n w) (Some (Row n w) ∷ Some (Row n w) ∷ [])) (sym less.1) (is_row n w count scalar narrow, fewer_flags o f less.0 typed.1, refl);
  }
  form_int (op.Icmp pred) wide w os tys may less scalar narrow thin long (u, num, same, are) =
      let v = icmp_width u w same num in
      let row = is_row n v.0 count (scalar_number u num v.0 v.1) (subst (λ t. is_too_wide n (Some t) ≡ false) v.1 (narrow_head (Some u) (Some u ∷ []) (subst Narrow are thin))) in
      record {
        widths = v.0 ∷ v.0 ∷ [];
        rest = [];
        tys_are = are ∙ ap (λ t. Some t ∷ Some t ∷ []) v.1;
        count = sym (ap length are) ∙ long;
        width = w;
        ty_is = refl;
        typed = subst (λ p. IsTyped ret p (Row n w) (Some (Row n v.0) ∷ Some (Row n v.0) ∷ [])) (sym less) (Row n v.0, row, ap (Row n) v.2, refl);
      }
  form_int (op.Cast o nneg) wide w os tys may less scalar narrow thin long (u, num, num_ty, same, converts, are) =
      let v = cast_width u w same num in
      let row = is_row n v.0 count (scalar_number u num v.0 v.1) (subst (λ t. is_too_wide n (Some t) ≡ false) v.1 (narrow_head (Some u) [] (subst Narrow are thin))) in
      record {
        widths = v.0 ∷ [];
        rest = [];
        tys_are = are ∙ ap (λ t. Some t ∷ []) v.1;
        count = sym (ap length are) ∙ long;
        width = w;
        ty_is = refl;
        typed = subst (λ p. IsTyped ret p (Row n w) (Some (Row n v.0) ∷ [])) (sym less.1)
            (Row n v.0, row, is_row n w count scalar narrow, refl, subst (λ from. Converts o (nneg && less.0) from w) (ap lane_width v.1) (fewer_converts o nneg less.0 (lane_width u) w converts), refl);
      }
  form_int op.Select wide w os tys may less scalar narrow thin long (c, val, choice, are) = by_choice choice
    where
      by_choice : (c ≡ Int 1) ⊎ ((is_vector (Int w) ≡ true) × (c ≡ with_width 1 (Int w))) → Form ret op.Select wide (Int w) (length os) tys n
      by_choice (inr h) = absurd (true_false (sym h.0))
      by_choice (inl one) =
          let row = is_row n 1 count refl (subst (λ t. is_too_wide n (Some t) ≡ false) one (narrow_head (Some c) (Some (Int w) ∷ Some (Int w) ∷ []) (subst Narrow are thin))) in
          record {
            widths = 1 ∷ w ∷ w ∷ [];
            rest = [];
            tys_are = are ∙ ap (λ t. Some t ∷ Some (Int w) ∷ Some (Int w) ∷ []) one;
            count = sym (ap length are) ∙ long;
            width = w;
            ty_is = refl;
            typed = subst (λ p. IsTyped ret p (Row n w) (Some (Row n 1) ∷ Some (Row n w) ∷ Some (Row n w) ∷ [])) (sym less)
                (Row n 1, is_row n w count scalar narrow, inr (is_row n w count scalar narrow, refl), refl);
          }
  form_int (op.Load align) wide w os tys may less scalar narrow thin long typed = record {
    widths = [];
    rest = Some Ptr ∷ [];
    tys_are = typed.2;
    count = refl;
    width = w;
    ty_is = refl;
    typed = subst (λ p. IsTyped ret p (Row n w) (Some Ptr ∷ [])) (sym less) (stored_row w (is_row n w count scalar narrow) typed.0, typed.1, refl);
  }
  form_int (op.Store align) wide w os tys may less scalar narrow thin long typed = record {
    widths = w ∷ [];
    rest = Some Ptr ∷ [];
    tys_are = typed.2;
    count = refl;
    width = w;
    ty_is = refl;
    typed = subst (λ p. IsTyped ret p (Row n w) (Some (Row n w) ∷ Some Ptr ∷ [])) (sym less) (stored_row w (is_row n w count scalar narrow) typed.0, typed.1, refl);
  }
  form_int op.Extract wide w os tys may less scalar narrow thin long typed = never op.Extract refl refl may
  form_int op.Insert wide w os tys may less scalar narrow thin long typed = never op.Insert refl refl may
  form_int (op.Shuffle mask) wide w os tys may less scalar narrow thin long typed = never (op.Shuffle mask) refl refl may
  form_int (op.Gep elem inbounds) wide w os tys may less scalar narrow thin long typed = never (op.Gep elem inbounds) refl refl may
  form_int (op.Alloca elem align) wide w os tys may less scalar narrow thin long typed = never (op.Alloca elem align) refl refl may
  form_int (op.Phi blocks) wide w os tys may less scalar narrow thin long typed = never (op.Phi blocks) refl refl may
  form_int op.Ret wide w os tys may less scalar narrow thin long typed = never op.Ret refl refl may
  form_int (op.Br to) wide w os tys may less scalar narrow thin long typed = never (op.Br to) refl refl may
  form_int (op.CondBr first second) wide w os tys may less scalar narrow thin long typed = never (op.CondBr first second) refl refl may
  form_int (op.Switch other cases to) wide w os tys may less scalar narrow thin long typed = never (op.Switch other cases to) refl refl may
  form_int op.Unreachable wide w os tys may less scalar narrow thin long typed = never op.Unreachable refl refl may
  form_int (op.Call site) wide w os tys may less scalar narrow thin long typed = never (op.Call site) refl refl may

  -- the operation of the first lane, with the flags that all lanes have
  lessened_common : (o : Op) → MayBe o → (is : List Inst) → Lessened o (common_op o is)
  lessened_common (op.Bin o f) may is = bins_lessened o f is
  lessened_common (op.Cast o k) may is = casts_lessened o k is
  lessened_common (op.Icmp pred) may is = plain_common (op.Icmp pred) (λ x. refl) is
  lessened_common op.Select may is = plain_common op.Select (λ x. refl) is
  lessened_common (op.Load align) may is = plain_common (op.Load align) (λ x. refl) is
  lessened_common (op.Store align) may is = plain_common (op.Store align) (λ x. refl) is
  lessened_common op.Extract may is = never op.Extract refl refl may
  lessened_common op.Insert may is = never op.Insert refl refl may
  lessened_common (op.Shuffle mask) may is = never (op.Shuffle mask) refl refl may
  lessened_common (op.Gep elem inbounds) may is = never (op.Gep elem inbounds) refl refl may
  lessened_common (op.Alloca elem align) may is = never (op.Alloca elem align) refl refl may
  lessened_common (op.Phi blocks) may is = never (op.Phi blocks) refl refl may
  lessened_common op.Ret may is = never op.Ret refl refl may
  lessened_common (op.Br to) may is = never (op.Br to) refl refl may
  lessened_common (op.CondBr first second) may is = never (op.CondBr first second) refl refl may
  lessened_common (op.Switch other cases to) may is = never (op.Switch other cases to) refl refl may
  lessened_common op.Unreachable may is = never op.Unreachable refl refl may
  lessened_common (op.Call site) may is = never (op.Call site) refl refl may

  pub form_of : (o : Op) (w : ℕ) (os : List Opd) (tys : List (Option Ty)) (is : List Inst) → MayBe o → is_scalar (Int w) ≡ true → is_too_wide n (Some (Int w)) ≡ false → Narrow tys → length tys ≡ length os →
      IsTyped ret o (Int w) tys → Form ret o (common_op o is) (Int w) (slots_of o os) tys n
  form_of o w os tys is may scalar narrow thin long typed = form_int o (common_op o is) w os tys may (lessened_common o may is) scalar narrow thin long typed

  -- what may be widened calls nothing, goes nowhere and takes no room
  abbrev Simple : Op → Type 0
  Simple o = ((m : Rattle.ir_types.specs.declared.module.Module.Module) (t : Ty) (tys : List (Option Ty)) → Rattle.ir_types.specs.Formed.IsCalling m o t tys) × (Rattle.ir_types.specs.Available.op_targets o ≡ []) × (Rattle.ir_types.specs.Formed.is_alloca o ≡ false)

  wide_simple : (o wide : Op) → MayBe o → Lessened o wide → Simple wide
  wide_simple (op.Bin o f) wide may less = subst Simple (sym less.1) ((λ m t tys. tt), refl, refl)
  wide_simple (op.Cast o k) wide may less = subst Simple (sym less.1) ((λ m t tys. tt), refl, refl)
  wide_simple (op.Icmp pred) wide may less = subst Simple (sym less) ((λ m t tys. tt), refl, refl)
  wide_simple op.Select wide may less = subst Simple (sym less) ((λ m t tys. tt), refl, refl)
  wide_simple (op.Load align) wide may less = subst Simple (sym less) ((λ m t tys. tt), refl, refl)
  wide_simple (op.Store align) wide may less = subst Simple (sym less) ((λ m t tys. tt), refl, refl)
  wide_simple op.Extract wide may less = never op.Extract refl refl may
  wide_simple op.Insert wide may less = never op.Insert refl refl may
  wide_simple (op.Shuffle mask) wide may less = never (op.Shuffle mask) refl refl may
  wide_simple (op.Gep elem inbounds) wide may less = never (op.Gep elem inbounds) refl refl may
  wide_simple (op.Alloca elem align) wide may less = never (op.Alloca elem align) refl refl may
  wide_simple (op.Phi blocks) wide may less = never (op.Phi blocks) refl refl may
  wide_simple op.Ret wide may less = never op.Ret refl refl may
  wide_simple (op.Br to) wide may less = never (op.Br to) refl refl may
  wide_simple (op.CondBr first second) wide may less = never (op.CondBr first second) refl refl may
  wide_simple (op.Switch other cases to) wide may less = never (op.Switch other cases to) refl refl may
  wide_simple op.Unreachable wide may less = never op.Unreachable refl refl may
  wide_simple (op.Call site) wide may less = never (op.Call site) refl refl may

  pub common_simple : (o : Op) → MayBe o → (is : List Inst) → Simple (common_op o is)
  common_simple o may is = wide_simple o (common_op o is) may (lessened_common o may is)

no_rest : (g : Opd → Option Ty) (os : List Opd) (ws : List ℕ) (rest : List (Option Ty)) → map g os ≡ scalar_tys ws ++ rest → length ws ≡ length os → [] ≡ rest
no_rest g [] [] rest e count = e
no_rest g [] (w ∷ ws) rest e count = absurd cc
no_rest g (o ∷ os) [] rest e count = absurd (omega (arith, count))
no_rest g (o ∷ os) (w ∷ ws) rest e count = no_rest g os ws rest (tail_is e) (omega (arith, count))
  where
    tail_is : {a b : Option Ty} {xs ys : List (Option Ty)} → a ∷ xs ≡ b ∷ ys → xs ≡ ys
    tail_is r = cc

-- the operands after the slots
pub pointer_rest : (g : Opd → Option Ty) (o : Op) (os : List Opd) (ws : List ℕ) (rest : List (Option Ty)) → map g os ≡ scalar_tys ws ++ rest → length ws ≡ slots_of o os → map g (pointer_of o os) ≡ rest
pointer_rest g (op.Load align) os [] rest e count = e
pointer_rest g (op.Load align) os (w ∷ ws) rest e count = absurd (omega (arith, count))
pointer_rest g (op.Store align) [] [] rest e count = absurd (omega (arith, count))
pointer_rest g (op.Store align) [] (w ∷ ws) rest e count = absurd cc
pointer_rest g (op.Store align) (v ∷ p) [] rest e count = absurd (omega (arith, count))
pointer_rest g (op.Store align) (v ∷ p) (w ∷ []) rest e count = tail_is e
  where
    tail_is : {a b : Option Ty} {xs ys : List (Option Ty)} → a ∷ xs ≡ b ∷ ys → xs ≡ ys
    tail_is r = cc
pointer_rest g (op.Store align) (v ∷ p) (w ∷ x ∷ ws) rest e count = absurd (omega (arith, count))
pointer_rest g (op.Bin o f) os ws rest e count = no_rest g os ws rest e count
pointer_rest g (op.Icmp pred) os ws rest e count = no_rest g os ws rest e count
pointer_rest g (op.Cast o k) os ws rest e count = no_rest g os ws rest e count
pointer_rest g op.Select os ws rest e count = no_rest g os ws rest e count
pointer_rest g op.Extract os ws rest e count = no_rest g os ws rest e count
pointer_rest g op.Insert os ws rest e count = no_rest g os ws rest e count
pointer_rest g (op.Shuffle mask) os ws rest e count = no_rest g os ws rest e count
pointer_rest g (op.Gep elem inbounds) os ws rest e count = no_rest g os ws rest e count
pointer_rest g (op.Alloca elem align) os ws rest e count = no_rest g os ws rest e count
pointer_rest g (op.Phi blocks) os ws rest e count = no_rest g os ws rest e count
pointer_rest g op.Ret os ws rest e count = no_rest g os ws rest e count
pointer_rest g (op.Br to) os ws rest e count = no_rest g os ws rest e count
pointer_rest g (op.CondBr first second) os ws rest e count = no_rest g os ws rest e count
pointer_rest g (op.Switch other cases to) os ws rest e count = no_rest g os ws rest e count
pointer_rest g op.Unreachable os ws rest e count = no_rest g os ws rest e count
pointer_rest g (op.Call site) os ws rest e count = no_rest g os ws rest e count

-- an operand at a slot of a width
pub scalar_at : (g : Opd → Option Ty) (os : List Opd) (ws : List ℕ) (rest : List (Option Ty)) (a w : ℕ) → map g os ≡ scalar_tys ws ++ rest → Rattle.std.specs.Prelude.slice_get ws a ≡ Some w →
    (o : Opd) × (Rattle.std.specs.Prelude.slice_get os a ≡ Some o) × (g o ≡ Some (Int w))
scalar_at g os [] rest a w e at = absurd cc
scalar_at g [] (v ∷ ws) rest a w e at = absurd cc
scalar_at g (o ∷ os) (v ∷ ws) rest zero w e at = (o, refl, head_is e ∙ ap (λ x. Some (Int x)) (some_is at))
  where
    head_is : {a b : Option Ty} {xs ys : List (Option Ty)} → a ∷ xs ≡ b ∷ ys → a ≡ b
    head_is r = cc

    some_is : {p q : ℕ} → Some p ≡ Some q → p ≡ q
    some_is r = cc
scalar_at g (o ∷ os) (v ∷ ws) rest (suc a) w e at = scalar_at g os ws rest a w (tail_is e) at
  where
    tail_is : {x y : Option Ty} {xs ys : List (Option Ty)} → x ∷ xs ≡ y ∷ ys → xs ≡ ys
    tail_is r = cc

-- What the rules tell of the lanes of a node: which instructions they are, and that they are alike.
use Rattle.std.proofs.Common.{◌≡◌, refl, sym, ap, ◌∙◌, subst, ℕ, suc, ◌+◌, Bool, true, false, ◌&&◌, Option, None, Some, List, [], ◌∷◌, map, cond, nat_eq, slice_get, option_map, arith, length}
use Rattle.std.specs.Bool.{⊤}
use Rattle.std.specs.List.{list_any, list_all}
use Rattle.std.proofs.lemmas.Bool.Decides.{nat_tests}
use Rattle.ir_types.specs.declared.id.Id.{Id}
use Rattle.ir_types.specs.declared.ty.Ty.{Ty}
use Rattle.ir_types.specs.declared.ty.Ty.TheVariants.{Void, Int, Ptr, Row}
use Rattle.ir_types.specs.declared.opd.Opd.{Opd}
use Rattle.ir_types.specs.declared.opd.Opd.TheVariants.{Val, Lit, Sym}
use Rattle.ir_types.specs.declared.inst.Inst.{Inst}
use Rattle.ir_types.specs.declared.module.Module.{Module}
use Rattle.ir_types.specs.Typed.{same_ty}
use Rattle.ir_types.proofs.Formed.{Every}
use Rattle.ir_types.proofs.Among.{same_is}
use Rattle.vx_serial.specs.declared.cause.Cause.{Cause}
use Rattle.vx_serial.specs.declared.node.How.{How}
use Rattle.vx_serial.specs.declared.node.How.TheVariants.{Widen, Reuse, Ident, Pack}
use Rattle.vx_serial.specs.declared.node.Node.{Node}
use Rattle.vx_serial.specs.Legal.{same_value, same_lanes, is_widened, reused, inst_of, insts_of, with_lane, same_tys, same_op, is_like, are_like, is_wide, may_widen, is_root, is_there, ty_of, of_lanes, element_of, vector_of, whole_vector, are_elements, identity, causes, first_cause, packed, or_else, legal}
use Rattle.vx_serial.proofs.Decided.{and_left, and_right}
use Rattle.rf_rewrite.proofs.Trees.{causes_none, false_of_not}

some_is : {A : Type 0} {p q : A} → Some p ≡ Some q → p ≡ q
some_is e = cc

-- ---- what is told

pub record Widens (root : Bool) (m : Module) (block : List Inst) (lanes : List Opd) : Type 0 where
  pub there : list_all (λ o. is_there (inst_of block o)) lanes ≡ true
  pub kind : list_all (may_widen root) (insts_of block lanes) ≡ true
  pub like : are_like m (insts_of block lanes) ≡ true
  pub narrow : list_any (is_wide m (length lanes)) (insts_of block lanes) ≡ false

-- what legality comes to, rule by rule
abbrev pub Told : Module → List Inst → Id → List Node → List Opd → How → Type 0
Told m block last tree lanes Widen = Widens (is_root tree) m block lanes
Told m block last tree lanes (Reuse k) = reused 0 lanes tree ≡ Some k
Told m block last tree lanes (Ident v) = identity m block lanes ≡ Some v
Told m block last tree lanes (Pack cause) = ⊤

pub told_of : (m : Module) (block : List Inst) (last : Id) (tree : List Node) (lanes : List Opd) → Told m block last tree lanes (legal m block last tree lanes)
told_of m block last tree lanes = by_reuse (reused 0 lanes tree) refl (identity m block lanes) refl (first_cause (causes m block last tree lanes (insts_of block lanes))) refl
  where
    by_reuse : (r : Option ℕ) → reused 0 lanes tree ≡ r → (i : Option Id) → identity m block lanes ≡ i → (c : Option Cause) → first_cause (causes m block last tree lanes (insts_of block lanes)) ≡ c →
        Told m block last tree lanes (or_else (option_map Reuse r) (or_else (option_map Ident i) (packed c)))
    by_reuse (Some k) e i f c g = e
    by_reuse None e (Some v) f c g = f
    by_reuse None e None f (Some d) g = tt
    by_reuse None e None f None g =
        let all = causes_none (causes m block last tree lanes (insts_of block lanes)) g in
        record {
          there = false_of_not (list_all (λ o. is_there (inst_of block o)) lanes) all.1.0;
          kind = false_of_not (list_all (may_widen (is_root tree)) (insts_of block lanes)) all.1.1.0;
          like = false_of_not (are_like m (insts_of block lanes)) all.1.1.1.0;
          narrow = all.1.1.1.1.0;
        }

pub told_as : (m : Module) (block : List Inst) (last : Id) (tree : List Node) (lanes : List Opd) (how : How) → legal m block last tree lanes ≡ how → Told m block last tree lanes how
told_as m block last tree lanes how e = subst (Told m block last tree lanes) e (told_of m block last tree lanes)

-- ---- lanes that are had already

same_value_is : (a b : Opd) → same_value a b ≡ true → a ≡ b
same_value_is (Val x) (Val y) e = ap Val (same_is x y e)
same_value_is (Val x) (Lit l) e = absurd cc
same_value_is (Val x) (Sym g) e = absurd cc
same_value_is (Lit l) b e = absurd cc
same_value_is (Sym g) b e = absurd cc

pub same_lanes_is : (xs ys : List Opd) → same_lanes xs ys ≡ true → xs ≡ ys
same_lanes_is [] [] e = refl
same_lanes_is [] (y ∷ ys) e = absurd cc
same_lanes_is (x ∷ xs) [] e = absurd cc
same_lanes_is (x ∷ xs) (y ∷ ys) e =
    ap (λ u. u ∷ xs) (same_value_is x y (and_left (same_value x y) (same_lanes xs ys) e)) ∙ ap (λ us. y ∷ us) (same_lanes_is xs ys (and_right (same_value x y) (same_lanes xs ys) e))

-- the widened node whose lanes are used again
pub record Reused (tree : List Node) (lanes : List Opd) (k : ℕ) : Type 0 where
  pub node : Node
  pub there : slice_get tree k ≡ Some node
  pub widened : is_widened node.how ≡ true
  pub same : node.lanes ≡ lanes

reused_from : (at : ℕ) (lanes : List Opd) (tree : List Node) (k : ℕ) → reused at lanes tree ≡ Some k → (q : ℕ) × (k ≡ at + q) × Reused tree lanes q
reused_from at [] [] k e = absurd cc
reused_from at (o ∷ os) [] k e = absurd cc
reused_from at lanes (n ∷ ns) k e = by_test (is_widened n.how && same_lanes n.lanes lanes) refl e (reused_from (suc at) lanes ns k)
  where
    by_test : (b : Bool) → (is_widened n.how && same_lanes n.lanes lanes) ≡ b → cond b (Some at) (reused (suc at) lanes ns) ≡ Some k →
        (reused (suc at) lanes ns ≡ Some k → (q : ℕ) × (k ≡ suc at + q) × Reused ns lanes q) → (q : ℕ) × (k ≡ at + q) × Reused (n ∷ ns) lanes q
    by_test true t r more = (
      0,
      sym (some_is r) ∙ plain at,
      record { node = n; there = refl; widened = and_left (is_widened n.how) (same_lanes n.lanes lanes) t; same = same_lanes_is n.lanes lanes (and_right (is_widened n.how) (same_lanes n.lanes lanes) t) },
    )
      where
        plain : (j : ℕ) → j ≡ j + 0
        plain j = omega (arith)
    by_test false t r more =
        let h = more r in
        (suc h.0, h.1 ∙ next at h.0, record { node = h.2.node; there = h.2.there; widened = h.2.widened; same = h.2.same })
      where
        next : (a b : ℕ) → suc a + b ≡ a + suc b
        next a b = omega (arith)

pub reused_is : (tree : List Node) (lanes : List Opd) (k : ℕ) → reused 0 lanes tree ≡ Some k → Reused tree lanes k
reused_is tree lanes k e = let h = reused_from 0 lanes tree k e in subst (Reused tree lanes) (plain h.0 ∙ sym h.1) h.2
  where
    plain : (j : ℕ) → j ≡ 0 + j
    plain j = omega (arith)

-- the vector whose elements lanes are
pub record Elements (m : Module) (block : List Inst) (lanes : List Opd) (v : Id) : Type 0 where
  pub typed : of_lanes (length lanes) (ty_of m (Val v)) ≡ true
  pub are : are_elements block v 0 lanes ≡ true

pub identity_is : (m : Module) (block : List Inst) (lanes : List Opd) (v : Id) → identity m block lanes ≡ Some v → Elements m block lanes v
identity_is m block [] v e = absurd cc
identity_is m block (o ∷ os) v e = by_vector (vector_of (element_of (inst_of block o))) e
  where
    by_vector : (u : Option Id) → whole_vector m block (o ∷ os) u ≡ Some v → Elements m block (o ∷ os) v
    by_vector None r = absurd cc
    by_vector (Some w) r = by_test (of_lanes (length (o ∷ os)) (ty_of m (Val w)) && are_elements block w 0 (o ∷ os)) refl r
      where
        by_test : (b : Bool) → (of_lanes (length (o ∷ os)) (ty_of m (Val w)) && are_elements block w 0 (o ∷ os)) ≡ b → cond b (Some w) None ≡ Some v → Elements m block (o ∷ os) v
        by_test true t q = subst (Elements m block (o ∷ os)) (some_is q)
            (record { typed = and_left (of_lanes (length (o ∷ os)) (ty_of m (Val w))) (are_elements block w 0 (o ∷ os)) t; are = and_right (of_lanes (length (o ∷ os)) (ty_of m (Val w))) (are_elements block w 0 (o ∷ os)) t })
        by_test false t q = absurd cc

-- ---- the instructions that lanes are

abbrev pub LanesAre : List Inst → List Opd → List Inst → Type 0
LanesAre block [] [] = ⊤
LanesAre block (o ∷ os) (i ∷ is) = (inst_of block o ≡ Some i) × LanesAre block os is
LanesAre block _ _ = ⊥

pub lanes_are_insts : (block : List Inst) (lanes : List Opd) → list_all (λ o. is_there (inst_of block o)) lanes ≡ true → LanesAre block lanes (insts_of block lanes)
lanes_are_insts block [] e = tt
lanes_are_insts block (o ∷ os) e = by_inst (inst_of block o) refl e (lanes_are_insts block os)
  where
    by_inst : (i : Option Inst) → inst_of block o ≡ i → (is_there i && list_all (λ u. is_there (inst_of block u)) os) ≡ true →
        (list_all (λ u. is_there (inst_of block u)) os ≡ true → LanesAre block os (insts_of block os)) → LanesAre block (o ∷ os) (with_lane i (insts_of block os))
    by_inst None t r more = absurd cc
    by_inst (Some i) t r more = (t, more (and_right (is_there (Some i)) (list_all (λ u. is_there (inst_of block u)) os) r))

pub lanes_length : (block : List Inst) (lanes : List Opd) (is : List Inst) → LanesAre block lanes is → length lanes ≡ length is
lanes_length block [] [] h = refl
lanes_length block (o ∷ os) (i ∷ is) h = ap suc (lanes_length block os is h.1)
lanes_length block [] (i ∷ is) h = elim h [ ]
lanes_length block (o ∷ os) [] h = elim h [ ]

-- ---- types that are the same

pub same_ty_is : (t u : Ty) → same_ty t u ≡ true → t ≡ u
same_ty_is Void Void e = refl
same_ty_is (Int w) (Int v) e = ap Int (let same : w ≡ v = grind (arith, nat_tests) in same)
same_ty_is Ptr Ptr e = refl
same_ty_is (Row n w) (Row k v) e =
    let first = and_left (nat_eq n k) (nat_eq w v) e in
    let second = and_right (nat_eq n k) (nat_eq w v) e in
    let same_n : n ≡ k = grind (arith, nat_tests) in
    let same_w : w ≡ v = grind (arith, nat_tests) in
    ap (λ j. Row j w) same_n ∙ ap (Row k) same_w
same_ty_is Void (Int v) e = absurd cc
same_ty_is Void Ptr e = absurd cc
same_ty_is Void (Row k v) e = absurd cc
same_ty_is (Int w) Void e = absurd cc
same_ty_is (Int w) Ptr e = absurd cc
same_ty_is (Int w) (Row k v) e = absurd cc
same_ty_is Ptr Void e = absurd cc
same_ty_is Ptr (Int v) e = absurd cc
same_ty_is Ptr (Row k v) e = absurd cc
same_ty_is (Row n w) Void e = absurd cc
same_ty_is (Row n w) (Int v) e = absurd cc
same_ty_is (Row n w) Ptr e = absurd cc

pub same_tys_are : (ts us : List (Option Ty)) → same_tys ts us ≡ true → ts ≡ us
same_tys_are [] [] e = refl
same_tys_are [] (u ∷ us) e = absurd cc
same_tys_are (None ∷ ts) us e = absurd cc
same_tys_are (Some t ∷ ts) [] e = absurd cc
same_tys_are (Some t ∷ ts) (None ∷ us) e = absurd cc
same_tys_are (Some t ∷ ts) (Some u ∷ us) e =
    ap (λ v. Some v ∷ ts) (same_ty_is t u (and_left (same_ty t u) (same_tys ts us) e)) ∙ ap (λ vs. Some u ∷ vs) (same_tys_are ts us (and_right (same_ty t u) (same_tys ts us) e))

-- what is alike has one operation, one type, and operands of the same types
pub record Alike (m : Module) (i j : Inst) : Type 0 where
  pub op : same_op i.op j.op ≡ true
  pub ty : i.ty ≡ j.ty
  pub tys : map (ty_of m) i.opds ≡ map (ty_of m) j.opds

pub like_is : (m : Module) (i j : Inst) → is_like m i j ≡ true → Alike m i j
like_is m i j e = record {
  op = and_left (same_op i.op j.op) (same_ty i.ty j.ty) first;
  ty = same_ty_is i.ty j.ty (and_right (same_op i.op j.op) (same_ty i.ty j.ty) first);
  tys = same_tys_are (map (ty_of m) i.opds) (map (ty_of m) j.opds) (and_right (same_op i.op j.op && same_ty i.ty j.ty) (same_tys (map (ty_of m) i.opds) (map (ty_of m) j.opds)) e);
}
  where
    first : (same_op i.op j.op && same_ty i.ty j.ty) ≡ true
    first = and_left (same_op i.op j.op && same_ty i.ty j.ty) (same_tys (map (ty_of m) i.opds) (map (ty_of m) j.opds)) e

pub all_alike : (m : Module) (i : Inst) (is : List Inst) → are_like m (i ∷ is) ≡ true → Every (Alike m i) is
all_alike m i [] e = tt
all_alike m i (j ∷ is) e = (like_is m i j (and_left (is_like m i j) (list_all (is_like m i) is) e), all_alike m i is (and_right (is_like m i j) (list_all (is_like m i) is) e))

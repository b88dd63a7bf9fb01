-- What each form makes of its parts: a statement whose literals, types and places fit.
use Rattle.std.proofs.Common.{◌≡◌, ℕ, ◌+◌, ◌*◌, ◌^◌, ◌<◌, ◌≤◌, Bool, true, false, not, ◌||◌, List, [], ◌∷◌, ◌++◌, length, Option, Some, None, refl, sym, ◌∙◌, ap, subst, codes, bytes_eq, arith, length-append}
use Rattle.std.specs.Prelude.{nat_eq, nat_lt, nat_le, unwrap_or}
use Rattle.std.specs.List.{All, list_all}
use Rattle.std.proofs.lemmas.Bool.Decides.{nat_tests}
use Rattle.std.proofs.lemmas.List.Elements.{All-nil, All-cons, All-append}
use Rattle.vx_digits.specs.Numbers.{number_of}
use Rattle.vx_digits.specs.Optional.{when}
use Rattle.vx_num.specs.declared.operations.BinOp.{BinOp}
use Rattle.vx_num.specs.declared.operations.BinOp.TheVariants.{Add, Sub, Mul, Shl, Udiv, Sdiv, Urem, Srem, Lshr, Ashr, And, Or as OrOp, Xor}
use Rattle.vx_num.specs.declared.operations.CastOp.{CastOp}
use Rattle.vx_num.specs.declared.operations.CastOp.TheVariants.{Zext, Sext, Trunc}
use Rattle.ir_types.specs.declared.ty.Ty.{Ty}
use Rattle.ir_types.specs.declared.ty.Ty.TheVariants.{Void, Int, Ptr, Row}
use Rattle.ir_types.specs.declared.ty.Elem.{Elem}
use Rattle.ir_types.specs.Typed.{is_width, is_vector, is_number, is_value, is_stored, lane_width, with_width, IsAlign, IsAlignIfAny, IsElem, IsStep, has_flags, Converts, IsEntry}
use Rattle.ir_words.specs.declared.kinds.Kind.{Kind}
use Rattle.ir_words.specs.declared.kinds.Kind.TheVariants as kind
use Rattle.ir_words.specs.declared.flags.FlagSet.{FlagSet}
use Rattle.ir_words.specs.declared.flags.FlagSet.TheVariants.{Plain, Wrap, Exact, Disjoint}
use Rattle.ir_draft.specs.declared.written.Written.{Written}
use Rattle.ir_draft.specs.declared.written.Arg.{Arg}
use Rattle.ir_forms.specs.declared.pairs.Incoming.{Incoming}
use Rattle.ir_words.specs.Kinds.{fits, is_cast}
use Rattle.ir_words.specs.Words.{Words}
use Rattle.ir_words.specs.Values.{width_of}
use Rattle.ir_words.specs.Reading.{has, allows, length_of, item_of, is_row}
use Rattle.ir_forms.specs.Operands.{is_entry, are_entries, both}
use Rattle.ir_forms.specs.Pieces.{Led, SpellsKind, SpellsTyped, SpellsOperand, Named, Global, Literal, SpellsAligned, Absent, Given, SpellsElem, Single, Items, SpellsMask, Entries, SpellsPair, Pair, SpellsPairs, LastPair, MorePairs}
use Rattle.ir_forms.specs.Forms.{arg, flags_of, truth_of, bin_flags, cast_flags, cast_kind}
use Rattle.ir_line.specs.Sound.{IsSoundOpd, written_types}
use Rattle.ir_forms.proofs.Steps.{clash, bind_then, when_then, both_true, not_true, bytes_is}
use Rattle.ir_forms.proofs.LaneValues.{ty_value, width_is, lanes_fit, lanes_count, row_is}
use Rattle.ir_forms.proofs.PowerAligns.{aligned}
use Rattle.ir_forms.proofs.TypesOfKinds as types

-- operands

pub operand : {t : Ty} {o : Written} {ts rest : Words} → is_value t ≡ true → SpellsOperand t o ts rest → IsSoundOpd t o
operand v (Named name word rest e) = tt
operand v (Global name word rest p e) = tt
operand v (Literal ls ts rest s) = (refl, lanes_fit v s)

pub kind_value : {k : Kind} {t : Ty} {ts rest : Words} → SpellsKind k t ts rest → is_value t ≡ true
kind_value s = ty_value s.spelled

-- what an operand after its type is
pub record Fine (k : Kind) (a : Arg) : Type 0 where
  pub value : is_value a.ty ≡ true
  pub fitting : fits k a.ty ≡ true
  pub literal : IsSoundOpd a.ty a.opd

pub typed : {k : Kind} {a : Arg} {ts rest : Words} → SpellsTyped k a ts rest → Fine k a
typed s = record { value = kind_value s.type; fitting = s.type.fitting; literal = operand (kind_value s.type) s.operand }

pub also : {k : Kind} {a : Arg} {ts : Words} (rest : Words) → Led (codes ",") (λ us. SpellsTyped k a us rest) ts → Fine k a
also rest l = typed l.part

pub other : {t : Ty} {o : Written} {ts : Words} (rest : Words) → is_value t ≡ true → Led (codes ",") (λ us. SpellsOperand t o us rest) ts → IsSoundOpd t o
other rest v l = operand v l.part

-- flags

lacks : (set : FlagSet) (v : List ℕ) (fs : Words) → list_all (allows set) fs ≡ true → allows set v ≡ false → has v fs ≡ false
lacks set v [] h n = refl
lacks set v (f ∷ fs) h n =
    let b : (allows set f ≡ true) × (list_all (allows set) fs ≡ true) = both_true _ _ h in
    here (bytes_eq f v) refl b.0 (lacks set v fs b.1 n) where
      here : (t : Bool) → bytes_eq f v ≡ t → allows set f ≡ true → has v fs ≡ false → t || has v fs ≡ false
      here true e yes' rest = let same : f ≡ v = bytes_is f v e in clash (sym yes' ∙ ap (allows set) same ∙ n)
      here false e yes' rest = rest

-- the flags of an operation are its own
pub bin_own : (op : BinOp) (fs : Words) → list_all (allows (bin_flags op)) fs ≡ true → has_flags op (flags_of fs) ≡ true
bin_own Add fs h = rw (lacks Wrap (codes "exact") fs h refl, lacks Wrap (codes "disjoint") fs h refl) refl
bin_own Sub fs h = rw (lacks Wrap (codes "exact") fs h refl, lacks Wrap (codes "disjoint") fs h refl) refl
bin_own Mul fs h = rw (lacks Wrap (codes "exact") fs h refl, lacks Wrap (codes "disjoint") fs h refl) refl
bin_own Shl fs h = rw (lacks Wrap (codes "exact") fs h refl, lacks Wrap (codes "disjoint") fs h refl) refl
bin_own Udiv fs h = rw (lacks Exact (codes "nuw") fs h refl, lacks Exact (codes "nsw") fs h refl, lacks Exact (codes "disjoint") fs h refl) refl
bin_own Sdiv fs h = rw (lacks Exact (codes "nuw") fs h refl, lacks Exact (codes "nsw") fs h refl, lacks Exact (codes "disjoint") fs h refl) refl
bin_own Lshr fs h = rw (lacks Exact (codes "nuw") fs h refl, lacks Exact (codes "nsw") fs h refl, lacks Exact (codes "disjoint") fs h refl) refl
bin_own Ashr fs h = rw (lacks Exact (codes "nuw") fs h refl, lacks Exact (codes "nsw") fs h refl, lacks Exact (codes "disjoint") fs h refl) refl
bin_own OrOp fs h = rw (lacks Disjoint (codes "nuw") fs h refl, lacks Disjoint (codes "nsw") fs h refl, lacks Disjoint (codes "exact") fs h refl) refl
bin_own Urem fs h = rw (lacks Plain (codes "nuw") fs h refl, lacks Plain (codes "nsw") fs h refl, lacks Plain (codes "exact") fs h refl, lacks Plain (codes "disjoint") fs h refl) refl
bin_own Srem fs h = rw (lacks Plain (codes "nuw") fs h refl, lacks Plain (codes "nsw") fs h refl, lacks Plain (codes "exact") fs h refl, lacks Plain (codes "disjoint") fs h refl) refl
bin_own And fs h = rw (lacks Plain (codes "nuw") fs h refl, lacks Plain (codes "nsw") fs h refl, lacks Plain (codes "exact") fs h refl, lacks Plain (codes "disjoint") fs h refl) refl
bin_own Xor fs h = rw (lacks Plain (codes "nuw") fs h refl, lacks Plain (codes "nsw") fs h refl, lacks Plain (codes "exact") fs h refl, lacks Plain (codes "disjoint") fs h refl) refl

-- casts

narrower : (a b : ℕ) → nat_lt a b ≡ true → a < b
narrower a b e = grind (arith, nat_tests)

pub converts : (op : CastOp) (fs : Words) (u t : Ty) → list_all (allows (cast_flags op)) fs ≡ true → is_value u ≡ true → is_value t ≡ true → fits (cast_kind op u) t ≡ true →
    (t ≡ with_width (lane_width t) u) × (is_number u ≡ true) × (is_number t ≡ true) × Converts op (has (codes "nneg") fs) (lane_width u) (lane_width t)
converts Zext fs u t h v w f =
    let b : (is_cast u t ≡ true) × (nat_lt (lane_width u) (lane_width t) ≡ true) = both_true (is_cast u t) (nat_lt (lane_width u) (lane_width t)) f in
    let c : (is_number u ≡ true) × (is_number t ≡ true) × (t ≡ with_width (lane_width t) u) = types.cast u t v w b.0 in
    (c.2, c.0, c.1, narrower (lane_width u) (lane_width t) b.1)
converts Sext fs u t h v w f =
    let b : (is_cast u t ≡ true) × (nat_lt (lane_width u) (lane_width t) ≡ true) = both_true (is_cast u t) (nat_lt (lane_width u) (lane_width t)) f in
    let c : (is_number u ≡ true) × (is_number t ≡ true) × (t ≡ with_width (lane_width t) u) = types.cast u t v w b.0 in
    (c.2, c.0, c.1, (narrower (lane_width u) (lane_width t) b.1, lacks Plain (codes "nneg") fs h refl))
converts Trunc fs u t h v w f =
    let b : (is_cast u t ≡ true) × (nat_lt (lane_width t) (lane_width u) ≡ true) = both_true (is_cast u t) (nat_lt (lane_width t) (lane_width u)) f in
    let c : (is_number u ≡ true) × (is_number t ≡ true) × (t ≡ with_width (lane_width t) u) = types.cast u t v w b.0 in
    (c.2, c.0, c.1, (narrower (lane_width t) (lane_width u) b.1, lacks Wrap (codes "nneg") fs h refl))

-- a comparison gives truth values
pub truth : (t : Ty) → is_number t ≡ true → truth_of t ≡ with_width 1 t
truth Void n = clash (sym n)
truth (Int w) n = refl
truth Ptr n = clash (sym n)
truth (Row n w) e = refl

-- aligns

pub align_is : {n : Option ℕ} {ts rest : Words} → SpellsAligned n ts rest → IsAlign (unwrap_or n 1)
align_is (Absent rest none) = (0, omega arith, refl)
align_is (Given n word rest e) = aligned word n e

pub align_if : {n : Option ℕ} {ts rest : Words} → SpellsAligned n ts rest → IsAlignIfAny n
align_if (Absent rest none) = tt
align_if (Given n word rest e) = aligned word n e

-- elements

length_fits : (count : List ℕ) (n : ℕ) → length_of count ≡ Some n → n ≤ 2 ^ 32
unfolding length_of
length_fits count n e =
    bind_then (number_of count) (λ m. when (nat_le m (2 ^ 32)) m) n e (λ m _ r.
    when_then (nat_le m (2 ^ 32)) m n r (λ few same. subst (λ x. x ≤ 2 ^ 32) same (grind (arith, nat_tests))))

item_fits : (word : List ℕ) (w : ℕ) → item_of word ≡ Some w → is_stored (Int w) ≡ true
unfolding item_of
item_fits word w e =
    bind_then (width_of word) (λ v. when (not (nat_eq v 1)) v) w e (λ v is r.
    when_then (not (nat_eq v 1)) v w r (λ wide same. subst (λ x. is_stored (Int x) ≡ true) same (types.item v (width_is word v is) (not_true (nat_eq v 1) wide))))

pub stepped : {e : Elem} {ts rest : Words} → SpellsElem kind.Byte e ts rest → IsStep e
stepped (Single t ts rest s) = types.byte t (kind_value s) s.fitting
stepped (Items n w count word rest e f) = (item_fits word w f, length_fits count n e)

pub made : {e : Elem} {ts rest : Words} → SpellsElem kind.Stored e ts rest → IsElem e
made (Single t ts rest s) = types.stored t (kind_value s) s.fitting
made (Items n w count word rest e f) = (item_fits word w f, length_fits count n e)

-- masks

entry : (n : ℕ) (l : Option ℕ) → is_entry n l ≡ true → IsEntry n l
entry n None h = tt
entry n (Some e) h = narrower e n h

entries : (n : ℕ) (ls : List (Option ℕ)) → are_entries n ls ≡ true → All (IsEntry n) ls
entries n [] h = All-nil (IsEntry n)
entries n (l ∷ ls) h = let b : (is_entry n l ≡ true) × (are_entries n ls ≡ true) = both_true (is_entry n l) (are_entries n ls) h in All-cons (IsEntry n) l ls (entry n l b.0) (entries n ls b.1)

-- the result of a shuffle of vectors of n lanes of w bits
pub record Shuffled (n w : ℕ) (m : Ty × List (Option ℕ)) : Type 0 where
  pub result : m.0 ≡ Row (length m.1) w
  pub vector : is_vector m.0 ≡ true
  pub within : All (IsEntry (2 * n)) m.1

shuffled_row : (m w : ℕ) → is_row m w ≡ true → is_width w ≡ true → is_vector (Row m w) ≡ true
shuffled_row m w r v = row_is m w r v

pub masked : (n w : ℕ) {m : Ty × List (Option ℕ)} {ts rest : Words} → is_width w ≡ true → SpellsMask (Row n w) m ts rest → Shuffled n w m
masked n w v (Entries m ls ts us rest s t r e) =
    record { result = ap (λ k. Row k w) (sym (lanes_count t)); vector = row_is m w r v; within = entries (2 * n) ls e }

-- pairs

-- the incoming blocks and values of a phi of the type t, of which the first has the place `at`
pub record Paired (t : Ty) (at : ℕ) (i : Incoming) : Type 0 where
  pub some : 0 < length i.args
  pub blocks : length i.blocks ≡ length i.args
  pub labels : length i.labels ≡ length i.args
  pub places : All (λ p. p < at + length i.labels) i.blocks
  pub types : All (λ (u : Option Ty). u ≡ Some t) (written_types i.args)
  pub literals : All (λ (a : Arg). IsSoundOpd a.ty a.opd) i.args

one_pair : {t : Ty} {at : ℕ} {i : Incoming} {ts rest : Words} → is_value t ≡ true → SpellsPair t at i ts rest → Paired t at i
one_pair {t} {at} v (Pair o name word ts rest s e) = record {
  some = omega arith;
  blocks = refl;
  labels = refl;
  places = All-cons (λ p. p < at + 1) at [] (omega arith) (All-nil (λ p. p < at + 1));
  types = All-cons (λ (u : Option Ty). u ≡ Some t) (Some t) [] refl (All-nil (λ (u : Option Ty). u ≡ Some t));
  literals = All-cons (λ (a : Arg). IsSoundOpd a.ty a.opd) (arg t o) [] (operand v s) (All-nil (λ (a : Arg). IsSoundOpd a.ty a.opd));
}

types_append : (xs ys : List Arg) → written_types (xs ++ ys) ≡ written_types xs ++ written_types ys
types_append [] ys = refl
types_append (x ∷ xs) ys = ap (λ (zs : List (Option Ty)). Some x.ty ∷ zs) (types_append xs ys)

all_weaker : {A : Type 0} (P Q : A → Type 0) (xs : List A) → ((x : A) → P x → Q x) → All P xs → All Q xs
all_weaker P Q xs f h = λ k d less. f _ (h k d less)

more_pairs : {t : Ty} (at : ℕ) (i j : Incoming) → length i.labels ≡ 1 → Paired t at i → Paired t (at + 1) j → Paired t at (both i j)
more_pairs {t} at i j one p q = record {
  some = omega (arith, length-append i.args j.args, p.some);
  blocks = omega (arith, length-append i.args j.args, length-append i.blocks j.blocks, p.blocks, q.blocks);
  labels = omega (arith, length-append i.args j.args, length-append i.labels j.labels, p.labels, q.labels);
  places = All-append (λ m. m < at + length (i.labels ++ j.labels)) i.blocks j.blocks
      (all_weaker (λ m. m < at + length i.labels) (λ m. m < at + length (i.labels ++ j.labels)) i.blocks (λ m less. omega (arith, length-append i.labels j.labels)) p.places)
      (all_weaker (λ m. m < at + 1 + length j.labels) (λ m. m < at + length (i.labels ++ j.labels)) j.blocks (λ m less. omega (arith, length-append i.labels j.labels, one)) q.places);
  types = subst (λ us. All (λ (u : Option Ty). u ≡ Some t) us) (sym (types_append i.args j.args)) (All-append (λ (u : Option Ty). u ≡ Some t) (written_types i.args) (written_types j.args) p.types q.types);
  literals = All-append (λ (a : Arg). IsSoundOpd a.ty a.opd) i.args j.args p.literals q.literals;
}

one_label : {t : Ty} {at : ℕ} {i : Incoming} {ts rest : Words} → SpellsPair t at i ts rest → length i.labels ≡ 1
one_label (Pair o name word ts rest s e) = refl

pub pairs : {t : Ty} {at : ℕ} {i : Incoming} {ts rest : Words} → is_value t ≡ true → SpellsPairs t at i ts rest → Paired t at i
pairs v (LastPair at i ts rest s e) = one_pair v s
pairs v (MorePairs at i j ts us rest s more) = more_pairs at i j (one_label s) (one_pair v s) (pairs v more)

pub types_length : (args : List Arg) → length (written_types args) ≡ length args
types_length [] = refl
types_length (a ∷ args) = let e : length (written_types args) ≡ length args = types_length args in omega arith

pub masked_at : (n w : ℕ) {t : Ty} {m : Ty × List (Option ℕ)} {ts rest : Words} → is_width w ≡ true → t ≡ Row n w → SpellsMask t m ts rest → Shuffled n w m
masked_at n w {t} {m} {ts} {rest} v same s = masked n w v (subst (λ u. SpellsMask u m ts rest) same s)

pub from_nothing : (n : ℕ) (ps : List ℕ) → All (λ p. p < 0 + n) ps → All (λ p. p < n) ps
from_nothing n ps h = all_weaker (λ p. p < 0 + n) (λ p. p < n) ps (λ p less. omega arith) h

-- What joining the first pair of stores keeps of straight code: its ids but one, the types of its values, and what stands before a use.
use Rattle.std.proofs.Common.{◌≡◌, refl, sym, ap, ◌∙◌, subst, ℕ, zero, suc, Bool, true, false, not, ◌&&◌, ◌||◌, Option, None, Some, List, [], ◌∷◌, ◌++◌, ◌⊎◌, inl, inr, map, take, length, slice_get, if◌then◌else◌, arith}
use Rattle.std.specs.List.{All, AllPairs}
use Rattle.std.proofs.lemmas.List.Elements.{All-nil, All-cons, All-head, All-tail}
use Rattle.std.proofs.lemmas.List.Kept.{AllPairs-cons}
use Rattle.ir_types.specs.declared.id.Id.{Id}
use Rattle.ir_types.specs.declared.ty.Ty.{Ty}
use Rattle.ir_types.specs.declared.ty.Ty.TheVariants.{Void, Int, Ptr, Row}
use Rattle.ir_types.specs.declared.opd.Opd.{Opd}
use Rattle.ir_types.specs.declared.opd.Opd.TheVariants.{Val, Lit, Sym}
use Rattle.ir_types.specs.declared.op.Op.TheVariants.{Store}
use Rattle.ir_types.specs.declared.inst.Inst.{Inst}
use Rattle.ir_types.specs.Typed.{is_value}
use Rattle.ir_types.specs.Available.{same_id, defines}
use Rattle.ir_types.specs.Formed.{given_ty, ty_in_insts, is_terminator, ends_from, EndsOnce}
use Rattle.ir_types.proofs.Formed.{Every, every_more}
use Rattle.vx_serial.specs.declared.pairing.scan.LedStore.{LedStore}
use Rattle.vx_serial.specs.Pair.{both_stored}
use Rattle.rf_pack.proofs.Statements.{both_true}
use Rattle.rf_pack.proofs.PairShape.{IsLitStore, After, Here, Later, Joined, First, Next}

-- the store of both literals, in either order
abbrev pub IsBoth : LedStore → LedStore → Inst → Inst → Type 0
IsBoth a b j both = (both ≡ both_stored j a b) ⊎ (both ≡ both_stored j b a)

-- ---- what holds of each instruction

after_every : {a : LedStore} {is new : List Inst} (P Q : Inst → Type 0) → ((i : Inst) → P i → Q i) → ((j : Inst) (b : LedStore) (both : Inst) → P j → IsLitStore j b → IsBoth a b j both → Q both) →
    After a is new → Every P is → Every Q new
after_every P Q f make (Here j b both js l s) p = (make j b both p.0 l s, every_more P Q f js p.1)
after_every P Q f make (Later j js new h) p = (f j p.0, after_every P Q f make h p.1)

pub joined_every : {is new : List Inst} (P Q : Inst → Type 0) → ((i : Inst) → P i → Q i) →
    ((i : Inst) (a : LedStore) (j : Inst) (b : LedStore) (both : Inst) → P i → IsLitStore i a → P j → IsLitStore j b → IsBoth a b j both → Q both) → Joined is new → Every P is → Every Q new
joined_every P Q f make (First i a is new l h) p = after_every P Q f (λ j b both q k s. make i a j b both p.0 l q k s) h p.1
joined_every P Q f make (Next i is new h) p = (f i p.0, joined_every P Q f make h p.1)

-- ---- ids

pub data Sub : List Id → List Id → Type 0 where
  Ends : Sub [] []
  Keeps : (x : Id) (xs ys : List Id) → Sub xs ys → Sub (x ∷ xs) (x ∷ ys)
  Drops : (x : Id) (xs ys : List Id) → Sub xs ys → Sub (x ∷ xs) ys

pub sub_same : (xs : List Id) → Sub xs xs
sub_same [] = Ends
sub_same (x ∷ xs) = Keeps x xs xs (sub_same xs)

pub sub_after : (zs : List Id) {xs ys : List Id} → Sub xs ys → Sub (zs ++ xs) (zs ++ ys)
sub_after [] s = s
sub_after (z ∷ zs) {xs} {ys} s = Keeps z (zs ++ xs) (zs ++ ys) (sub_after zs s)

pub sub_before : (zs : List Id) {xs ys : List Id} → Sub xs ys → Sub (xs ++ zs) (ys ++ zs)
sub_before zs Ends = sub_same zs
sub_before zs (Keeps x xs ys s) = Keeps x (xs ++ zs) (ys ++ zs) (sub_before zs s)
sub_before zs (Drops x xs ys s) = Drops x (xs ++ zs) (ys ++ zs) (sub_before zs s)

sub_all : {xs ys : List Id} (P : Id → Type 0) → Sub xs ys → All P xs → All P ys
sub_all P Ends all = all
sub_all P (Keeps x xs ys s) all = All-cons P x ys (All-head P x xs all) (sub_all P s (All-tail P x xs all))
sub_all P (Drops x xs ys s) all = sub_all P s (All-tail P x xs all)

abbrev Apart : Id → Id → Type 0
Apart a b = a ≡ b → ⊥

rest_apart : (x : Id) (xs : List Id) → AllPairs Apart (x ∷ xs) → AllPairs Apart xs
rest_apart x xs all = λ i j d less within. all (suc i) (suc j) d (omega (arith, less)) (omega (arith, within))

first_apart : (x : Id) (xs : List Id) → AllPairs Apart (x ∷ xs) → All (Apart x) xs
first_apart x xs all = λ k d within. all 0 (suc k) d (omega arith) (omega (arith, within))

pub sub_pairs : {xs ys : List Id} → Sub xs ys → AllPairs (λ (a b : Id). a ≡ b → ⊥) xs → AllPairs (λ (a b : Id). a ≡ b → ⊥) ys
sub_pairs Ends all = all
sub_pairs (Keeps x xs ys s) all = AllPairs-cons Apart x ys (sub_all (Apart x) s (first_apart x xs all)) (sub_pairs s (rest_apart x xs all))
sub_pairs (Drops x xs ys s) all = sub_pairs s (rest_apart x xs all)

abbrev pub ids : List Inst → List Id
ids is = map (λ (i : Inst). i.id) is

both_id : (a b : LedStore) (j both : Inst) → IsBoth a b j both → both.id ≡ j.id
both_id a b j both (inl e) = ap (λ (i : Inst). i.id) e
both_id a b j both (inr e) = ap (λ (i : Inst). i.id) e

after_sub : {a : LedStore} {is new : List Inst} → After a is new → Sub (ids is) (ids new)
after_sub {a} (Here j b both js l s) = subst (λ (x : Id). Sub (j.id ∷ ids js) (x ∷ ids js)) (sym (both_id a b j both s)) (sub_same (j.id ∷ ids js))
after_sub (Later j js new h) = Keeps j.id (ids js) (ids new) (after_sub h)

pub joined_sub : {is new : List Inst} → Joined is new → Sub (ids is) (ids new)
joined_sub (First i a is new l h) = Drops i.id (ids is) (ids new) (after_sub h)
joined_sub (Next i is new h) = Keeps i.id (ids is) (ids new) (joined_sub h)

-- ---- types of values

void_value : (t : Ty) → Some Void ≡ Some t → is_value t ≡ true → ⊥
void_value Void e h = cc
void_value Ptr e h = cc
void_value (Int w) e h = cc
void_value (Row n w) e h = cc

pub store_void : (i : Inst) (a : LedStore) → IsLitStore i a → given_ty i.op i.ty ≡ Void
store_void i a l = ap (λ o. given_ty o i.ty) l.stores

pub not_value : (i : Inst) (a : LedStore) (t : Ty) → IsLitStore i a → Some (given_ty i.op i.ty) ≡ Some t → is_value t ≡ true → ⊥
not_value i a t l e h = void_value t (ap (λ (u : Ty). Some u) (sym (store_void i a l)) ∙ e) h

after_ty : {a : LedStore} {is new : List Inst} → After a is new → (x : Id) (t : Ty) → is_value t ≡ true → ty_in_insts x is ≡ Some t → ty_in_insts x new ≡ Some t
after_ty {a} (Here j b both js l s) x t h e = by_both s where
  by_test : (c : Bool) → (if c then Some (given_ty j.op j.ty) else ty_in_insts x js) ≡ Some t → (if c then Some Void else ty_in_insts x js) ≡ Some t
  by_test true e = absurd (not_value j b t l e h)
  by_test false e = e

  by_both : IsBoth a b j both → ty_in_insts x (both ∷ js) ≡ Some t
  by_both (inl is) = subst (λ (z : Inst). ty_in_insts x (z ∷ js) ≡ Some t) (sym is) (by_test (same_id j.id x) e)
  by_both (inr is) = subst (λ (z : Inst). ty_in_insts x (z ∷ js) ≡ Some t) (sym is) (by_test (same_id j.id x) e)
after_ty (Later j js new h) x t v e = by_test (same_id j.id x) (after_ty h x t v) e where
  by_test : (c : Bool) → (ty_in_insts x js ≡ Some t → ty_in_insts x new ≡ Some t) → (if c then Some (given_ty j.op j.ty) else ty_in_insts x js) ≡ Some t → (if c then Some (given_ty j.op j.ty) else ty_in_insts x new) ≡ Some t
  by_test true more e = e
  by_test false more e = more e

pub joined_ty : {is new : List Inst} → Joined is new → (x : Id) (t : Ty) → is_value t ≡ true → ty_in_insts x is ≡ Some t → ty_in_insts x new ≡ Some t
joined_ty (First i a is new l h) x t v e = by_test (same_id i.id x) (after_ty h x t v) e where
  by_test : (c : Bool) → (ty_in_insts x is ≡ Some t → ty_in_insts x new ≡ Some t) → (if c then Some (given_ty i.op i.ty) else ty_in_insts x is) ≡ Some t → ty_in_insts x new ≡ Some t
  by_test true more e = absurd (not_value i a t l e v)
  by_test false more e = more e
joined_ty (Next i is new h) x t v e = by_test (same_id i.id x) (joined_ty h x t v) e where
  by_test : (c : Bool) → (ty_in_insts x is ≡ Some t → ty_in_insts x new ≡ Some t) → (if c then Some (given_ty i.op i.ty) else ty_in_insts x is) ≡ Some t → (if c then Some (given_ty i.op i.ty) else ty_in_insts x new) ≡ Some t
  by_test true more e = e
  by_test false more e = more e

-- ---- one terminator, at the end

store_goes : (i : Inst) (a : LedStore) → IsLitStore i a → is_terminator i.op ≡ false
store_goes i a l = ap is_terminator l.stores

true_false : true ≡ false → ⊥
true_false e = cc

not_true : (b : Bool) → not b ≡ true → b ≡ false
not_true true e = absurd cc
not_true false e = refl

ends_rest : (i : Inst) (is : List Inst) → is_terminator i.op ≡ false → EndsOnce (i ∷ is) → EndsOnce is
ends_rest i [] goes e = absurd (true_false (sym e ∙ goes))
ends_rest i (k ∷ ks) goes e = (both_true (not (is_terminator i.op)) (ends_from k ks) e).1

ends_before : (i : Inst) (is : List Inst) → is_terminator i.op ≡ false → EndsOnce is → EndsOnce (i ∷ is)
ends_before i [] goes e = absurd e
ends_before i (k ∷ ks) goes e = ap (λ b. not b && ends_from k ks) goes ∙ e

ends_goes : (i k : Inst) (ks : List Inst) → EndsOnce (i ∷ k ∷ ks) → is_terminator i.op ≡ false
ends_goes i k ks e = not_true (is_terminator i.op) (both_true (not (is_terminator i.op)) (ends_from k ks) e).0

after_goes : {a : LedStore} {is new : List Inst} → After a is new → (i : Inst) → EndsOnce (i ∷ is) → is_terminator i.op ≡ false
after_goes (Here j b both js l s) i e = ends_goes i j js e
after_goes (Later j js new h) i e = ends_goes i j js e

after_ends : {a : LedStore} {is new : List Inst} → After a is new → EndsOnce is → EndsOnce new
after_ends {a} (Here j b both js l s) e = by_both s where
  rest : EndsOnce js
  rest = ends_rest j js (store_goes j b l) e

  by_both : IsBoth a b j both → EndsOnce (both ∷ js)
  by_both (inl is) = ends_before both js (ap (λ (i : Inst). is_terminator i.op) is) rest
  by_both (inr is) = ends_before both js (ap (λ (i : Inst). is_terminator i.op) is) rest
after_ends (Later j js new h) e = let goes : is_terminator j.op ≡ false = after_goes h j e in ends_before j new goes (after_ends h (ends_rest j js goes e))

joined_goes : {is new : List Inst} → Joined is new → (i : Inst) → EndsOnce (i ∷ is) → is_terminator i.op ≡ false
joined_goes (First j a is new l h) i e = ends_goes i j is e
joined_goes (Next j is new h) i e = ends_goes i j is e

pub joined_ends : {is new : List Inst} → Joined is new → EndsOnce is → EndsOnce new
joined_ends (First i a is new l h) e = after_ends h (ends_rest i is (store_goes i a l) e)
joined_ends (Next i is new h) e = let goes : is_terminator i.op ≡ false = joined_goes h i e in ends_before i new goes (joined_ends h (ends_rest i is goes e))

-- ---- what stands before a use

pub data Uses (i : Inst) (x : Id) : Type 0 where
  At : (slot : ℕ) → slice_get i.opds slot ≡ Some (Val x) → Uses i x

abbrev pub Stands : (Id → Bool) → List Inst → Type 0
Stands seen [] = Unit {0}
Stands seen (i ∷ is) = ((x : Id) → Uses i x → seen x ≡ true) × Stands (λ x. seen x || same_id i.id x) is

or_none : (b : Bool) → b || false ≡ true → b ≡ true
or_none true e = refl
or_none false e = e

or_left : (a b : Bool) → a ≡ true → a || b ≡ true
or_left true b e = refl
or_left false b e = absurd cc

or_over : (a b c : Bool) → a || (b || c) ≡ true → (a || b) || c ≡ true
or_over true b c e = refl
or_over false b c e = e

or_under : (a b c : Bool) → (a || b) || c ≡ true → a || (b || c) ≡ true
or_under true b c e = refl
or_under false b c e = e

pub to_stands : (is : List Inst) (seen : Id → Bool) → ((k : ℕ) (i : Inst) → slice_get is k ≡ Some i → (x : Id) → Uses i x → seen x || defines x (take k is) ≡ true) → Stands seen is
to_stands [] seen h = tt
to_stands (i ∷ is) seen h = (
  λ x u. or_none (seen x) (h 0 i refl x u),
  to_stands is (λ x. seen x || same_id i.id x) (λ k j e x u. or_over (seen x) (same_id i.id x) (defines x (take k is)) (h (suc k) j e x u)),
)

pub from_stands : (is : List Inst) (seen : Id → Bool) → Stands seen is → (k : ℕ) (i : Inst) → slice_get is k ≡ Some i → (x : Id) → Uses i x → seen x || defines x (take k is) ≡ true
from_stands [] seen h k i e x u = absurd cc
from_stands (j ∷ is) seen h zero i e x u = or_left (seen x) false (h.0 x (subst (λ (y : Inst). Uses y x) (sym (some e)) u)) where
  some : Some j ≡ Some i → j ≡ i
  some e = cc
from_stands (j ∷ is) seen h (suc k) i e x u = or_under (seen x) (same_id j.id x) (defines x (take k is)) (from_stands is (λ y. seen y || same_id j.id y) h.1 k i e x u)

pub lit_uses : (i : Inst) (a : LedStore) → IsLitStore i a → Uses i a.pointer
lit_uses i a l = At 1 (ap (λ os. slice_get os 1) l.opds_are)

both_uses : (j : Inst) (low high : LedStore) (x : Id) → Uses (both_stored j low high) x → low.pointer ≡ x
both_uses j low high x (At zero e) = absurd cc
both_uses j low high x (At (suc zero) e) = cc
both_uses j low high x (At (suc (suc n)) e) = absurd cc

module _ (V : Id → Type 0) where
  abbrev Seen : (Id → Bool) → (Id → Bool) → Type 0
  Seen old new = (x : Id) → V x → old x ≡ true → new x ≡ true

  abbrev pub UsesValues : Inst → Type 0
  UsesValues i = (x : Id) → Uses i x → V x

  abbrev pub GivesNone : Inst → Type 0
  GivesNone i = (a : LedStore) → IsLitStore i a → (x : Id) → V x → same_id i.id x ≡ true → ⊥

  seen_more : (old new : Id → Bool) (id : Id) → Seen old new → Seen (λ x. old x || same_id id x) (λ x. new x || same_id id x)
  seen_more old new id h x v e = by_test (old x) (h x v) e where
    by_test : (b : Bool) → (b ≡ true → new x ≡ true) → b || same_id id x ≡ true → new x || same_id id x ≡ true
    by_test true h e = or_left (new x) (same_id id x) (h refl)
    by_test false h e = ap (λ s. new x || s) e ∙ or_true (new x) where
      or_true : (b : Bool) → b || true ≡ true
      or_true true = refl
      or_true false = refl

  stands_more : (is : List Inst) (old new : Id → Bool) → Seen old new → Every UsesValues is → Stands old is → Stands new is
  stands_more [] old new h u s = tt
  stands_more (i ∷ is) old new h u s = (λ x e. h x (u.0 x e) (s.0 x e), stands_more is (λ x. old x || same_id i.id x) (λ x. new x || same_id i.id x) (seen_more old new i.id h) u.1 s.1)

  after_stands : {a : LedStore} {is new : List Inst} → After a is new → (old now : Id → Bool) → Seen old now → now a.pointer ≡ true → Every UsesValues is → Stands old is → Stands now new
  after_stands {a} (Here j b both js l s) old now h p u st = by_both s where
    second : now b.pointer ≡ true
    second = h b.pointer (u.0 b.pointer (lit_uses j b l)) (st.0 b.pointer (lit_uses j b l))

    rest : Stands (λ x. now x || same_id j.id x) js
    rest = stands_more js (λ x. old x || same_id j.id x) (λ x. now x || same_id j.id x) (seen_more old now j.id h) u.1 st.1

    by_both : IsBoth a b j both → Stands now (both ∷ js)
    by_both (inl is) = subst (λ (z : Inst). Stands now (z ∷ js)) (sym is) (λ x e. subst (λ (y : Id). now y ≡ true) (both_uses j a b x e) p, rest)
    by_both (inr is) = subst (λ (z : Inst). Stands now (z ∷ js)) (sym is) (λ x e. subst (λ (y : Id). now y ≡ true) (both_uses j b a x e) second, rest)
  after_stands {a} (Later j js new h) old now seen p u st = (
    λ x e. seen x (u.0 x e) (st.0 x e),
    after_stands h (λ x. old x || same_id j.id x) (λ x. now x || same_id j.id x) (seen_more old now j.id seen) (or_left (now a.pointer) (same_id j.id a.pointer) p) u.1 st.1,
  )

  pub joined_stands : {is new : List Inst} → Joined is new → (old now : Id → Bool) → Seen old now → Every UsesValues is → Every GivesNone is → Stands old is → Stands now new
  joined_stands (First i a is new l h) old now seen u g st = after_stands h (λ x. old x || same_id i.id x) now without pointer u.1 st.1 where
    pointer : now a.pointer ≡ true
    pointer = seen a.pointer (u.0 a.pointer (lit_uses i a l)) (st.0 a.pointer (lit_uses i a l))

    without : Seen (λ x. old x || same_id i.id x) now
    without x v e = by_test (old x) (seen x v) e where
      by_test : (b : Bool) → (b ≡ true → now x ≡ true) → b || same_id i.id x ≡ true → now x ≡ true
      by_test true h e = h refl
      by_test false h e = absurd (g.0 a l x v e)
  joined_stands (Next i is new h) old now seen u g st = (
    λ x e. seen x (u.0 x e) (st.0 x e),
    joined_stands h (λ x. old x || same_id i.id x) (λ x. now x || same_id i.id x) (seen_more old now i.id seen) u.1 g.1 st.1,
  )

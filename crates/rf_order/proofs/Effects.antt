-- Operations in the other order: what only reads, what writes, and what makes objects.
use Rattle.std.proofs.Common.{◌≡◌, refl, sym, ap, ◌∙◌, subst, ℕ, ℤ, pos, negsuc, ◌+◌, ◌*◌, ◌<◌, ◌≤◌, ◌⊎◌, inl, inr, Bool, true, false, ◌&&◌, cond, Option, None, Some, List, [], ◌∷◌, ◌++◌, length, drop, nat_eq, nat_le, slice_get, slice_set, option_map, arith}
use Rattle.ir_types.specs.declared.ty.Ty.{Ty}
use Rattle.ir_types.specs.declared.ty.Ty.TheVariants.{Void, Int, Ptr, Row}
use Rattle.ir_types.specs.declared.ty.Elem.{Elem}
use Rattle.ir_types.specs.declared.ty.Elem.TheVariants.{One, Array}
use Rattle.ir_types.specs.declared.op.Op.{Op}
use Rattle.ir_types.specs.declared.op.Op.TheVariants.{Gep, Load, Store, Alloca}
use Rattle.ir_model.specs.declared.value.Value.{Value}
use Rattle.ir_model.specs.declared.value.Value.TheVariants.{Lane as LaneValue, Row as RowValue, Ptr as PtrValue}
use Rattle.ir_model.specs.Values.{Lane, Pointer, pointer_of}
use Rattle.ir_model.specs.Memory.{Object, Memory, put, place_of, loaded_from, loaded, lane_from}
use Rattle.ir_model.specs.Sizes.{bytes_in, size_of, elem_size}
use Rattle.ir_model.specs.Operations.{narrow}
use Rattle.ir_model.specs.Addresses.{stepped, walked, is_within, is_inside, kept_inside, inbounds_value}
use Rattle.ir_model.specs.Accesses.{Effect, value_effect, lanes_from, typed_load}
use Rattle.ir_model.specs.Step.{result_of, effect_of}
use Rattle.ir_model.proofs.Stores.{place_of-is, IsStored, set_twice}
use Rattle.ir_model.proofs.Lists.{put_comm, length-put}
use Rattle.rf_order.specs.Swaps.{KeepsObjects, Touch, touch_of, AreApart, IsNamed, AreNamed, Acts, MayPass}
use Rattle.rf_order.proofs.Lists.{get_other, set_comm, get_front, get_there, get_set_same, get_drop, put_other, Agree, lane_agrees, lanes_agree}
use Rattle.vx_serial.proofs.Decided.{true_false}

-- ---- operations that only read

abbrev pub loaded_value : ℕ → Ty → Pointer → Memory → Option Value
loaded_value align (Int w) p m = narrow w (option_map (λ bytes. LaneValue (lane_from (bytes_in w) bytes)) (loaded (bytes_in w) align p m))
loaded_value align (Row n w) p m = narrow w (option_map (λ bytes. RowValue (lanes_from n (bytes_in w) bytes)) (loaded (n * bytes_in w) align p m))
loaded_value align _ p m = None

-- what an operation that leaves the memory gives
abbrev pub reads : Op → Ty → List Ty → List Value → Memory → Option Value
reads (Gep elem true) t types vs m = inbounds_value elem t types vs m
reads (Load align) t types (p ∷ []) m = loaded_value align t (pointer_of p) m
reads (Load align) t types vs m = None
reads op t types vs m = result_of op t types vs

abbrev pub changes : Op → Bool
changes (Store align) = true
changes (Alloca elem align) = true
changes _ = false

narrow_effect : (w : ℕ) (v : Option Value) (m : Memory) → narrow w (value_effect v m) ≡ value_effect (narrow w v) m
narrow_effect w v m = by_test (nat_le w 64) where
  by_test : (b : Bool) → cond b (value_effect v m) None ≡ value_effect (cond b v None) m
  by_test true = refl
  by_test false = refl

typed_load_is : (align : ℕ) (t : Ty) (p : Pointer) (m : Memory) → typed_load align t p m ≡ value_effect (loaded_value align t p m) m
typed_load_is align (Int w) p m = narrow_effect w (option_map (λ bytes. LaneValue (lane_from (bytes_in w) bytes)) (loaded (bytes_in w) align p m)) m
typed_load_is align (Row n w) p m = narrow_effect w (option_map (λ bytes. RowValue (lanes_from n (bytes_in w) bytes)) (loaded (n * bytes_in w) align p m)) m
typed_load_is align Void p m = refl
typed_load_is align Ptr p m = refl

pub quiet_is : (op : Op) (t : Ty) (types : List Ty) (vs : List Value) (m : Memory) → changes op ≡ false → effect_of op t types vs m ≡ value_effect (reads op t types vs m) m
quiet_is (Store align) t types vs m h = absurd (true_false h)
quiet_is (Alloca elem align) t types vs m h = absurd (true_false h)
quiet_is (Gep elem true) t types vs m h = refl
quiet_is (Load align) t types (p ∷ []) m h = typed_load_is align t (pointer_of p) m
quiet_is (Load align) t types [] m h = refl
quiet_is (Load align) t types (p ∷ q ∷ vs) m h = refl
quiet_is op t types vs m h = refl

-- a result that leaves the memory
pub record IsRead (v : Option Value) (m : Memory) (e : Effect) : Type 0 where
  pub value : Value
  pub is : v ≡ Some value
  pub effect : e ≡ record { result = Some value; memory = m }

pub read_is : (v : Option Value) (m : Memory) (e : Effect) → value_effect v m ≡ Some e → IsRead v m e
read_is None m e h = absurd cc
read_is (Some x) m e h = record { value = x; is = refl; effect = cc }

abbrev pub reading : (Memory → Option Value) → Acts
reading f m = value_effect (f m) m

pub reading_second : (x : Acts) (g : Memory → Option Value) (m : Memory) → ((a : Effect) → x m ≡ Some a → g a.memory ≡ g m) → MayPass x (reading g) m
reading_second x g m same a b ex ey =
    let r = read_is (g a.memory) a.memory b ey in record {
      between = m;
      before = ap (λ v. value_effect v m) (sym (same a ex) ∙ r.is) ∙ ap (λ v. Some (record { result = v; memory = m })) (sym (ap (λ (e : Effect). e.result) r.effect));
      then = ex ∙ ap (λ n. Some (record { result = a.result; memory = n })) (sym (ap (λ (e : Effect). e.memory) r.effect));
    }

pub reading_first : (f : Memory → Option Value) (y : Acts) (m : Memory) → ((b : Effect) → y m ≡ Some b → f b.memory ≡ f m) → MayPass (reading f) y m
reading_first f y m same a b ex ey =
    let r = read_is (f m) m a ex in
    let here : y m ≡ Some b = ap y (sym (ap (λ (e : Effect). e.memory) r.effect)) ∙ ey in record {
      between = b.memory;
      before = here;
      then = ap (λ v. value_effect v b.memory) (same b here ∙ r.is) ∙ ap (λ v. Some (record { result = v; memory = b.memory })) (sym (ap (λ (e : Effect). e.result) r.effect));
    }

-- ---- what a read finds where objects keep their lengths

pub named_first : (objects : ℕ) (v : Value) (vs : List Value) → AreNamed objects (v ∷ vs) → IsNamed objects (PtrValue (pointer_of v))
named_first objects (LaneValue a) vs h = tt
named_first objects (RowValue a) vs h = tt
named_first objects (PtrValue p) vs h = h.0

inside_kept : (m n : Memory) (p : Pointer) → KeepsObjects m n → IsNamed (length m) (PtrValue p) → is_inside n p ≡ is_inside m p
inside_kept m n None keeps h = refl
inside_kept m n (Some p) keeps h =
    let there = get_there m p.0 h in
    let kept = keeps p.0 there.0 there.1 in
    ap (is_within p.1) kept.1 ∙ by_sign p.1 kept.0 there.0 kept.2 ∙ sym (ap (is_within p.1) there.1)
  where
    by_sign : (z : ℤ) (x y : Object) → length x ≡ length y → is_within z (Some x) ≡ is_within z (Some y)
    by_sign (pos at) x y e = ap (nat_le at) e
    by_sign (negsuc at) x y e = refl

kept_inside_kept : (m n : Memory) (p q : Pointer) → KeepsObjects m n → IsNamed (length m) (PtrValue p) → IsNamed (length m) (PtrValue q) → kept_inside n p q ≡ kept_inside m p q
kept_inside_kept m n p q keeps h k =
    ap (λ b. cond (b && is_inside n q) q None) (inside_kept m n p keeps h) ∙ ap (λ b. cond (is_inside m p && b) q None) (inside_kept m n q keeps k)

stepped_named : (objects w scale : ℕ) (p : Pointer) (i : Lane) → IsNamed objects (PtrValue p) → IsNamed objects (PtrValue (stepped w scale p i))
stepped_named objects w scale None i h = tt
stepped_named objects w scale (Some p) None h = tt
stepped_named objects w scale (Some p) (Some i) h = h

-- where a walk leads, if it does, is named
abbrev LeadsNamed : ℕ → Option Pointer → Type 0
LeadsNamed objects None = Unit {0}
LeadsNamed objects (Some q) = IsNamed objects (PtrValue q)

narrow_named : (objects w : ℕ) (q : Option Pointer) → LeadsNamed objects q → LeadsNamed objects (narrow w q)
narrow_named objects w q h = by_test (nat_le w 64) where
  by_test : (b : Bool) → LeadsNamed objects (cond b q None)
  by_test true = h
  by_test false = tt

walked_named : (objects : ℕ) (elem : Elem) (types : List Ty) (vs : List Value) → AreNamed objects vs → LeadsNamed objects (walked elem types vs)
walked_named objects (One u) (t ∷ Int w ∷ []) (p ∷ LaneValue i ∷ []) h =
    narrow_named objects w (Some (stepped w (elem_size (One u)) (pointer_of p) i)) (stepped_named objects w (elem_size (One u)) (pointer_of p) i (named_first objects p (LaneValue i ∷ []) h))
walked_named objects (Array n e) (t ∷ Int w ∷ []) (p ∷ LaneValue i ∷ []) h =
    narrow_named objects w (Some (stepped w (elem_size (Array n e)) (pointer_of p) i)) (stepped_named objects w (elem_size (Array n e)) (pointer_of p) i (named_first objects p (LaneValue i ∷ []) h))
walked_named objects (Array n e) (t ∷ Int w ∷ Int v ∷ []) (p ∷ LaneValue i ∷ LaneValue j ∷ []) h =
    narrow_named objects w (narrow v (Some (stepped v (bytes_in e) (stepped w (n * bytes_in e) (pointer_of p) i) j)))
    (narrow_named objects v (Some (stepped v (bytes_in e) (stepped w (n * bytes_in e) (pointer_of p) i) j))
    (stepped_named objects v (bytes_in e) (stepped w (n * bytes_in e) (pointer_of p) i) j
    (stepped_named objects w (n * bytes_in e) (pointer_of p) i (named_first objects p (LaneValue i ∷ LaneValue j ∷ []) h))))
walked_named objects elem types vs h = tt

inbounds_kept : (elem : Elem) (t : Ty) (types : List Ty) (vs : List Value) (m n : Memory) → KeepsObjects m n → AreNamed (length m) vs →
    inbounds_value elem t types vs n ≡ inbounds_value elem t types vs m
inbounds_kept elem Ptr types (p ∷ is) m n keeps h = by_walk (walked elem types (p ∷ is)) (walked_named (length m) elem types (p ∷ is) h) where
  by_walk : (q : Option Pointer) → LeadsNamed (length m) q →
      option_map (λ q. PtrValue (kept_inside n (pointer_of p) q)) q ≡ option_map (λ q. PtrValue (kept_inside m (pointer_of p) q)) q
  by_walk None k = refl
  by_walk (Some q) k = ap (λ r. Some (PtrValue r)) (kept_inside_kept m n (pointer_of p) q keeps (named_first (length m) p is h) k)
inbounds_kept elem Ptr types [] m n keeps h = refl
inbounds_kept elem Void types vs m n keeps h = refl
inbounds_kept elem (Int w) types vs m n keeps h = refl
inbounds_kept elem (Row k w) types vs m n keeps h = refl

-- the bytes that an access finds are the same
abbrev pub SameBytes : ℕ → Pointer → Memory → Memory → Type 0
SameBytes size p m n =
    (o at : ℕ) (object : Object) → p ≡ Some (o, pos at) → slice_get m o ≡ Some object → at + size ≤ length object →
    (kept : Object) → slice_get n o ≡ Some kept → Agree size (drop at kept) (drop at object)

-- two loads find the same
abbrev BothAgree : ℕ → Option (List Lane) → Option (List Lane) → Type 0
BothAgree size (Some xs) (Some ys) = Agree size xs ys
BothAgree size None None = Unit {0}
BothAgree size _ _ = ⊥

loaded_kept : (size align : ℕ) (p : Pointer) (m n : Memory) → KeepsObjects m n → IsNamed (length m) (PtrValue p) → SameBytes size p m n →
    BothAgree size (loaded size align p n) (loaded size align p m)
loaded_kept size align None m n keeps h same = tt
loaded_kept size align (Some p) m n keeps h same =
    let there = get_there m p.0 h in
    let kept = keeps p.0 there.0 there.1 in
    subst (λ x. BothAgree size (loaded_from p.1 size align x) (loaded_from p.1 size align (slice_get m p.0))) (sym kept.1)
    (subst (λ x. BothAgree size (loaded_from p.1 size align (Some kept.0)) (loaded_from p.1 size align x)) (sym there.1)
    (subst (λ l. BothAgree size (option_map (λ at. drop at kept.0) (place_of p.1 size align l)) (loaded_from p.1 size align (Some there.0))) (sym kept.2)
    (by_place kept.0 there.0 kept.1 there.1 (place_of p.1 size align (length there.0)) refl)))
  where
    by_place : (x y : Object) → slice_get n p.0 ≡ Some x → slice_get m p.0 ≡ Some y → (at : Option ℕ) → place_of p.1 size align (length y) ≡ at →
        BothAgree size (option_map (λ at. drop at x) at) (option_map (λ at. drop at y) at)
    by_place x y ex ey None e = tt
    by_place x y ex ey (Some at) e =
        let place = place_of-is p.1 size align (length y) at e in
        same p.0 at y (ap (λ z. Some (p.0, z)) place.here) ey place.room x ex

agree_map : {A : Type 0} (f : List Lane → A) (size : ℕ) → ((xs ys : List Lane) → Agree size xs ys → f xs ≡ f ys) → (x y : Option (List Lane)) → BothAgree size x y → option_map f x ≡ option_map f y
agree_map f size h None None z = refl
agree_map f size h (Some xs) (Some ys) z = ap Some (h xs ys z)
agree_map f size h None (Some ys) z = elim z [ ]
agree_map f size h (Some xs) None z = elim z [ ]

loaded_value_kept : (align : ℕ) (t : Ty) (p : Pointer) (m n : Memory) → KeepsObjects m n → IsNamed (length m) (PtrValue p) → SameBytes (size_of t) p m n →
    loaded_value align t p n ≡ loaded_value align t p m
loaded_value_kept align (Int w) p m n keeps h same =
    ap (narrow w) (agree_map (λ bytes. LaneValue (lane_from (bytes_in w) bytes)) (bytes_in w) (λ xs ys z. ap LaneValue (lane_agrees (bytes_in w) xs ys z))
    (loaded (bytes_in w) align p n) (loaded (bytes_in w) align p m) (loaded_kept (bytes_in w) align p m n keeps h same))
loaded_value_kept align (Row k w) p m n keeps h same =
    ap (narrow w) (agree_map (λ bytes. RowValue (lanes_from k (bytes_in w) bytes)) (k * bytes_in w) (λ xs ys z. ap RowValue (lanes_agree k (bytes_in w) xs ys z))
    (loaded (k * bytes_in w) align p n) (loaded (k * bytes_in w) align p m) (loaded_kept (k * bytes_in w) align p m n keeps h same))
loaded_value_kept align Void p m n keeps h same = refl
loaded_value_kept align Ptr p m n keeps h same = refl

-- the bytes of an operation's touch, if it has one
abbrev pub TouchSame : Option Touch → Memory → Memory → Type 0
TouchSame None m n = Unit {0}
TouchSame (Some x) m n = SameBytes x.size x.pointer m n

pub reads_kept : (op : Op) (t : Ty) (types : List Ty) (vs : List Value) (m n : Memory) → changes op ≡ false → KeepsObjects m n → AreNamed (length m) vs → TouchSame (touch_of op t vs) m n →
    reads op t types vs n ≡ reads op t types vs m
reads_kept (Store align) t types vs m n c keeps h same = absurd (true_false c)
reads_kept (Alloca elem align) t types vs m n c keeps h same = absurd (true_false c)
reads_kept (Gep elem true) t types vs m n c keeps h same = inbounds_kept elem t types vs m n keeps h
reads_kept (Load align) t types (p ∷ []) m n c keeps h same = loaded_value_kept align t (pointer_of p) m n keeps (named_first (length m) p [] h) same
reads_kept (Load align) t types [] m n c keeps h same = refl
reads_kept (Load align) t types (p ∷ q ∷ vs) m n c keeps h same = refl
reads_kept op t types vs m n c keeps h same = refl

-- ---- what stores and allocas leave

pub keeps_itself : (m : Memory) → KeepsObjects m m
keeps_itself m o object e = (object, e, refl)

pub stored_keeps : (align : ℕ) (bytes : List Lane) (o : ℕ) (z : ℤ) (m n : Memory) → IsStored align bytes o z m n → KeepsObjects m n
stored_keeps align bytes o z m n s k object e = by_test (nat_eq k o) refl where
  by_test : (b : Bool) → nat_eq k o ≡ b → (kept : Object) × (slice_get n k ≡ Some kept) × (length kept ≡ length object)
  by_test true test =
      let same : k ≡ o = grind arith in
      let found : Some object ≡ Some s.object = sym e ∙ ap (slice_get m) same ∙ s.found in
      let is : object ≡ s.object = cc in (
        put bytes s.at s.object,
        ap (slice_get n) same ∙ ap (λ (l : Memory). slice_get l o) s.left ∙ get_set_same m o s.object (put bytes s.at s.object) s.found,
        length-put bytes s.at s.object ∙ ap length (sym is),
      )
  by_test false test =
      (object, ap (λ (l : Memory). slice_get l k) s.left ∙ get_other m o k (put bytes s.at s.object) (λ same. true_false (let t : nat_eq k o ≡ true = grind arith in sym t ∙ test)) ∙ e, refl)

pub alloca_keeps : (m : Memory) (object : Object) → KeepsObjects m (m ++ object ∷ [])
alloca_keeps m object o old e = (old, get_front m (object ∷ []) o old e, refl)

pub alloca_same : (size : ℕ) (p : Pointer) (m : Memory) (object : Object) → SameBytes size p m (m ++ object ∷ [])
alloca_same size p m object o at old e found room kept there =
    let is : Some kept ≡ Some old = sym there ∙ get_front m (object ∷ []) o old found in
    let same : kept ≡ old = cc in
    λ i less. ap (λ (x : Object). slice_get (drop at x) i) same

pub stored_same : (align : ℕ) (bytes : List Lane) (o : ℕ) (z : ℤ) (m n : Memory) → (s : IsStored align bytes o z m n) → (size : ℕ) (q : Pointer) → AreApart (Some (o, z)) (length bytes) q size → SameBytes size q m n
stored_same align bytes o z m n s size q apart k at old e found room kept there i less = by_test (nat_eq k o) refl where
  by_test : (b : Bool) → nat_eq k o ≡ b → slice_get (drop at kept) i ≡ slice_get (drop at old) i
  by_test true test =
      let same : k ≡ o = grind arith in
      let was : Some old ≡ Some s.object = sym found ∙ ap (slice_get m) same ∙ s.found in
      let is : old ≡ s.object = cc in
      let now : Some kept ≡ Some (put bytes s.at s.object) = sym there ∙ ap (slice_get n) same ∙ ap (λ (l : Memory). slice_get l o) s.left ∙ get_set_same m o s.object (put bytes s.at s.object) s.found in
      let new : kept ≡ put bytes s.at s.object = cc in
      get_drop kept at i ∙ ap (λ (x : Object). slice_get x (at + i)) new
      ∙ put_other bytes s.at s.object (at + i) (outside (apart o s.at at (ap (λ y. Some (o, y)) s.place.here) (e ∙ ap (λ k. Some (k, pos at)) same)))
      ∙ ap (λ (x : Object). slice_get x (at + i)) (sym is) ∙ sym (get_drop old at i)
    where
      outside : (s.at + length bytes ≤ at) ⊎ (at + size ≤ s.at) → (at + i < s.at) ⊎ (s.at + length bytes ≤ at + i)
      outside (inl h) = inr (omega arith)
      outside (inr h) = inl (omega arith)
  by_test false test =
      let left : slice_get n k ≡ slice_get m k = ap (λ (l : Memory). slice_get l k) s.left ∙ get_other m o k (put bytes s.at s.object) (λ same. true_false (let t : nat_eq k o ≡ true = grind arith in sym t ∙ test)) in
      let is : Some kept ≡ Some old = sym there ∙ left ∙ found in
      let same : kept ≡ old = cc in
      ap (λ (x : Object). slice_get (drop at x) i) same

-- ---- two stores

pub stores_swap : (a1 a2 : ℕ) (b1 b2 : List Lane) (o k : ℕ) (z y : ℤ) (m m1 m2 : Memory) → IsStored a1 b1 o z m m1 → IsStored a2 b2 k y m1 m2 → AreApart (Some (o, z)) (length b1) (Some (k, y)) (length b2) →
    (between : Memory) × IsStored a2 b2 k y m between × IsStored a1 b1 o z between m2
stores_swap a1 a2 b1 b2 o k z y m m1 m2 s t apart = by_test (nat_eq o k) refl where
  by_test : (b : Bool) → nat_eq o k ≡ b → (between : Memory) × IsStored a2 b2 k y m between × IsStored a1 b1 o z between m2
  by_test true test =
      let same : o ≡ k = grind arith in
      let again : Some t.object ≡ Some (put b1 s.at s.object) = sym t.found ∙ ap (slice_get m1) (sym same) ∙ ap (λ (l : Memory). slice_get l o) s.left ∙ get_set_same m o s.object (put b1 s.at s.object) s.found in
      let object : t.object ≡ put b1 s.at s.object = cc in
      let len : length t.object ≡ length s.object = ap length object ∙ length-put b1 s.at s.object in (
        slice_set m o (put b2 t.at s.object),
        record {
          object = s.object;
          at = t.at;
          found = ap (slice_get m) (sym same) ∙ s.found;
          place = record { here = t.place.here; room = let r = t.place.room in omega arith; aligned = t.place.aligned };
          left = ap (λ n. slice_set m n (put b2 t.at s.object)) same;
        },
        record {
          object = put b2 t.at s.object;
          at = s.at;
          found = get_set_same m o s.object (put b2 t.at s.object) s.found;
          place = record { here = s.place.here; room = let r = s.place.room in let l = length-put b2 t.at s.object in omega arith; aligned = s.place.aligned };
          left = t.left ∙ ap (λ (n : Memory). slice_set n k (put b2 t.at t.object)) s.left ∙ ap (λ n. slice_set (slice_set m o (put b1 s.at s.object)) n (put b2 t.at t.object)) (sym same)
              ∙ set_twice m o (put b1 s.at s.object) (put b2 t.at t.object) ∙ ap (λ (x : Object). slice_set m o (put b2 t.at x)) object
              ∙ ap (slice_set m o) (by_side (apart o s.at t.at (ap (λ y. Some (o, y)) s.place.here) (ap (λ n. Some (n, y)) (sym same) ∙ ap (λ y. Some (o, y)) t.place.here)))
              ∙ sym (set_twice m o (put b2 t.at s.object) (put b1 s.at (put b2 t.at s.object)));
        },
      )
    where
      by_side : (s.at + length b1 ≤ t.at) ⊎ (t.at + length b2 ≤ s.at) → put b2 t.at (put b1 s.at s.object) ≡ put b1 s.at (put b2 t.at s.object)
      by_side (inl h) = sym (put_comm b1 b2 s.at t.at s.object h)
      by_side (inr h) = put_comm b2 b1 t.at s.at s.object h
  by_test false test =
      let differ : o ≡ k → ⊥ = (λ same. true_false (let t : nat_eq o k ≡ true = grind arith in sym t ∙ test)) in
      let back : k ≡ o → ⊥ = (λ same. differ (sym same)) in (
        slice_set m k (put b2 t.at t.object),
        record {
          object = t.object;
          at = t.at;
          found = sym (get_other m o k (put b1 s.at s.object) differ) ∙ ap (λ (l : Memory). slice_get l k) (sym s.left) ∙ t.found;
          place = t.place;
          left = refl;
        },
        record {
          object = s.object;
          at = s.at;
          found = get_other m k o (put b2 t.at t.object) back ∙ s.found;
          place = s.place;
          left = t.left ∙ ap (λ (n : Memory). slice_set n k (put b2 t.at t.object)) s.left ∙ set_comm m o k (put b1 s.at s.object) (put b2 t.at t.object) differ;
        },
      )

-- Rows and shapes: an instruction whose operands have their types' shapes is undefined for a cause alone, and what it gives has its
-- type's shape.
use Rattle.std.proofs.Common.{◌≡◌, refl, sym, ap, ◌∙◌, subst, ℕ, zero, suc, ℤ, pos, negsuc, ◌+◌, ◌*◌, ◌%◌, ◌<◌, ◌≤◌, Bool, true, false, ◌&&◌, ◌||◌, ◌⊎◌, inl, inr, Option, None, Some, List, [], ◌∷◌, ◌++◌, length, map, drop, cond, nat_eq, nat_le, slice_get, option_map, if◌then◌else◌, ◌^◌, arith}
use Rattle.std.specs.List.{AllZip}
use Rattle.std.proofs.Math.Facts.{sfits_lit}
use Rattle.std.proofs.lemmas.Bool.Decides.{nat_tests}
use Rattle.std.proofs.lemmas.List.{length-append}
use Rattle.vx_num.specs.declared.operations.BinOp.{BinOp}
use Rattle.vx_num.specs.declared.operations.Pred.{Pred}
use Rattle.vx_num.specs.declared.operations.CastOp.{CastOp}
use Rattle.vx_num.specs.declared.operations.Flags.{Flags}
use Rattle.vx_num.specs.declared.lanes.Done.TheVariants.{Value as DoneValue, Undefined}
use Rattle.vx_num.specs.Bin.{is_undefined, lane_of}
use Rattle.vx_num.specs.Cmp.{cmp_of}
use Rattle.vx_num.proofs.Ranges.{advance_of-fits}
use Rattle.ir_types.specs.declared.ty.Ty.{Ty}
use Rattle.ir_types.specs.declared.ty.Ty.TheVariants.{Void, Int, Ptr, Row}
use Rattle.ir_types.specs.declared.ty.Elem.{Elem}
use Rattle.ir_types.specs.declared.ty.Elem.TheVariants.{One, Array}
use Rattle.ir_types.specs.Typed.{is_width, is_count, is_vector, is_number, is_value, lane_width, with_width}
use Rattle.ir_model.specs.declared.value.Value.{Value}
use Rattle.ir_model.specs.declared.value.Value.TheVariants.{Lane as LaneValue, Row as RowValue, Ptr as PtrValue}
use Rattle.ir_model.specs.Values.{Lane, Pointer, pointer_of}
use Rattle.ir_model.specs.Memory.{Object, Memory, lane_bytes, row_bytes, lane_from, place_of, put, with_bytes, stored_in, stored, loaded_from, loaded}
use Rattle.ir_model.specs.Sizes.{bytes_in, size_of, elem_size}
use Rattle.ir_model.specs.Operations.{low, narrow, with_lane, each_pair, done_lane, bin_lane, cmp_lane, cast_lane, bin_value, cmp_value, cast_value, chosen_by, choice, chosen_lanes, select_value, lane_at, with_lane_at, of_length, extract_value, insert_value, shuffle_value}
use Rattle.ir_model.specs.Addresses.{stepped, walked, address_value, is_inside, kept_inside, inbounds_value}
use Rattle.ir_model.specs.Accesses.{Effect, value_effect, memory_effect, bytes_of, store_effect, lanes_from, load_effect, load_row_effect, typed_load, fresh_object, alloca_effect}
use Rattle.ir_model.specs.Fits.{PointerFits}
use Rattle.ir_model.specs.Shapes.{HasShape, ResultHasShape}
use Rattle.ir_model.specs.Causes.{HasNoQuotient, DividesBadly, IsOutside, IsMisaligned, IsBadAccess}
use Rattle.ir_model.proofs.Lists.{length-lane_bytes}
use Rattle.ir_model.proofs.Finer.{length-with_lane_at, length_set, length_map}

-- ---- what a row comes to

-- a value that is undefined for a cause, or has a shape
abbrev pub Gives : Type 0 → ℕ → Ty → Option Value → Type 0
Gives C objects t None = C
Gives C objects t (Some v) = HasShape objects t v

-- an effect that is undefined for a cause, or whose result has a shape and that takes no object away
pub record Kept (t : Ty) (objects : ℕ) (e : Effect) : Type 0 where
  pub result : ResultHasShape (length e.memory) t e.result
  pub stay : objects ≤ length e.memory

abbrev pub EffectRow : Type 0 → Ty → ℕ → Option Effect → Type 0
EffectRow C t objects None = C
EffectRow C t objects (Some e) = Kept t objects e

-- of a type that is not `void` a result is a value
result_shape : (objects : ℕ) (t : Ty) (v : Value) → HasShape objects t v → ResultHasShape objects t (Some v)
result_shape objects Void v h = tt
result_shape objects (Int w) v h = h
result_shape objects (Row n w) v h = h
result_shape objects Ptr v h = h

pub value_row : (C : Type 0) (t : Ty) (m : Memory) (v : Option Value) → Gives C (length m) t v → EffectRow C t (length m) (value_effect v m)
value_row C t m None h = h
value_row C t m (Some v) h = record { result = result_shape (length m) t v h; stay = omega arith }

-- ---- types and values

wide : (w : ℕ) → is_width w ≡ true → nat_le w 64 ≡ true
wide w h = grind (arith, nat_tests)

pub narrow_gives : (C : Type 0) (objects : ℕ) (t : Ty) (w : ℕ) (v : Option Value) → is_width w ≡ true → Gives C objects t v → Gives C objects t (narrow w v)
narrow_gives C objects t w v h g = subst (λ b. Gives C objects t (cond b v None)) (sym (wide w h)) g

and_left : (a b : Bool) → a && b ≡ true → a ≡ true
and_left true b h = refl
and_left false b h = absurd cc

and_right : (a b : Bool) → a && b ≡ true → b ≡ true
and_right true b h = h
and_right false b h = absurd cc

false_true : false ≡ true → ⊥
false_true e = cc

or_false_right : (a : Bool) → (a || false) ≡ true → a ≡ true
or_false_right true h = refl
or_false_right false h = absurd cc

pub vector_width : (n w : ℕ) → is_vector (Row n w) ≡ true → is_width w ≡ true
vector_width n w h = and_right (is_count n) (is_width w) (and_left (is_count n && is_width w) (nat_le (n * w) 512) h)

-- a number is an integer or a vector, of a width
pub by_number : (P : Ty → Type 0) → ((w : ℕ) → is_width w ≡ true → P (Int w)) → ((n w : ℕ) → is_width w ≡ true → P (Row n w)) → (t : Ty) → is_number t ≡ true → P t
by_number P f g (Int w) h = f w (or_false_right (is_width w) h)
by_number P f g (Row n w) h = g n w (vector_width n w h)
by_number P f g Void h = absurd (false_true h)
by_number P f g Ptr h = absurd (false_true h)

pub lane_arg : (P : List Value → Type 0) (o w : ℕ) (ts : List Ty) (vs : List Value) → AllZip (HasShape o) (Int w ∷ ts) vs →
    ((a : Lane) (us : List Value) → AllZip (HasShape o) ts us → P (LaneValue a ∷ us)) → P vs
lane_arg P o w ts (LaneValue a ∷ us) z h = h a us z.1
lane_arg P o w ts (RowValue a ∷ us) z h = elim z.0 [ ]
lane_arg P o w ts (PtrValue a ∷ us) z h = elim z.0 [ ]
lane_arg P o w ts [] z h = elim z [ ]

pub row_arg : (P : List Value → Type 0) (o n w : ℕ) (ts : List Ty) (vs : List Value) → AllZip (HasShape o) (Row n w ∷ ts) vs →
    ((a : List Lane) (us : List Value) → length a ≡ n → AllZip (HasShape o) ts us → P (RowValue a ∷ us)) → P vs
row_arg P o n w ts (RowValue a ∷ us) z h = h a us z.0 z.1
row_arg P o n w ts (LaneValue a ∷ us) z h = elim z.0 [ ]
row_arg P o n w ts (PtrValue a ∷ us) z h = elim z.0 [ ]
row_arg P o n w ts [] z h = elim z [ ]

pub ptr_arg : (P : List Value → Type 0) (o : ℕ) (ts : List Ty) (vs : List Value) → AllZip (HasShape o) (Ptr ∷ ts) vs →
    ((p : Pointer) (us : List Value) → PointerFits o p → AllZip (HasShape o) ts us → P (PtrValue p ∷ us)) → P vs
ptr_arg P o ts (PtrValue p ∷ us) z h = h p us z.0 z.1
ptr_arg P o ts (LaneValue a ∷ us) z h = elim z.0 [ ]
ptr_arg P o ts (RowValue a ∷ us) z h = elim z.0 [ ]
ptr_arg P o ts [] z h = elim z [ ]

pub no_arg : (P : List Value → Type 0) (o : ℕ) (vs : List Value) → AllZip (HasShape o) [] vs → P [] → P vs
no_arg P o [] z h = h
no_arg P o (v ∷ vs) z h = elim z [ ]

-- ---- arithmetic

-- lanes that are defined wherever a test of each pair fails
lane_done : (op : BinOp) (flags : Flags) (w : ℕ) (a b : Lane) → HasNoQuotient op w a b ⊎ ((c : Lane) × (bin_lane op flags w a b ≡ Some c))
lane_done op flags w a b = by_test (is_undefined op w (low w a) (low w b)) refl
  where
    by_test : (u : Bool) → is_undefined op w (low w a) (low w b) ≡ u → HasNoQuotient op w a b ⊎ ((c : Lane) × (bin_lane op flags w a b ≡ Some c))
    by_test true e = inl e
    by_test false e = inr (
      lane_of op flags w (low w a) (low w b),
      ap (λ u. done_lane (if u then Undefined else DoneValue (lane_of op flags w (low w a) (low w b)))) e,
    )

-- where lanes in one place have no result
abbrev Stuck : (Lane → Lane → Type 0) → List Lane → List Lane → Type 0
Stuck Bad xs ys = (k : ℕ) × (a : Lane) × (b : Lane) × (slice_get xs k ≡ Some a) × (slice_get ys k ≡ Some b) × Bad a b

abbrev Lanes : (Lane → Lane → Type 0) → List Lane → List Lane → ℕ → Option (List Lane) → Type 0
Lanes Bad xs ys n None = Stuck Bad xs ys
Lanes Bad xs ys n (Some zs) = length zs ≡ n

pairs_done : (Bad : Lane → Lane → Type 0) (f : Lane → Lane → Option Lane) → ((a b : Lane) → Bad a b ⊎ ((c : Lane) × (f a b ≡ Some c))) →
    (xs ys : List Lane) → length xs ≡ length ys → Lanes Bad xs ys (length xs) (each_pair f xs ys)
pairs_done Bad f h [] [] e = refl
pairs_done Bad f h (x ∷ xs) (y ∷ ys) e = by_first (h x y) (each_pair f xs ys) (pairs_done Bad f h xs ys cc)
  where
    by_rest : (c : Lane) (r : Option (List Lane)) → Lanes Bad xs ys (length xs) r → Lanes Bad (x ∷ xs) (y ∷ ys) (length (x ∷ xs)) (with_lane (Some c) r)
    by_rest c None s = (suc s.0, s.1, s.2, s.3, s.4, s.5)
    by_rest c (Some zs) s = ap suc s

    by_first : Bad x y ⊎ ((c : Lane) × (f x y ≡ Some c)) → (r : Option (List Lane)) → Lanes Bad xs ys (length xs) r →
        Lanes Bad (x ∷ xs) (y ∷ ys) (length (x ∷ xs)) (with_lane (f x y) r)
    by_first (inl bad) r s = by_none (f x y) r s where
      by_none : (o : Option Lane) (r : Option (List Lane)) → Lanes Bad xs ys (length xs) r → Lanes Bad (x ∷ xs) (y ∷ ys) (length (x ∷ xs)) (with_lane o r)
      by_none None r s = (0, x, y, refl, refl, bad)
      by_none (Some c) r s = by_rest c r s
    by_first (inr d) r s = subst (λ o. Lanes Bad (x ∷ xs) (y ∷ ys) (length (x ∷ xs)) (with_lane o r)) (sym d.1) (by_rest d.0 r s)
pairs_done Bad f h [] (y ∷ ys) e = absurd cc
pairs_done Bad f h (x ∷ xs) [] e = absurd cc

row_done : (C : Type 0) (objects n w : ℕ) (Bad : Lane → Lane → Type 0) (xs ys : List Lane) (o : Option (List Lane)) → (Stuck Bad xs ys → C) → Lanes Bad xs ys n o →
    Gives C objects (Row n w) (option_map RowValue o)
row_done C objects n w Bad xs ys None f h = f h
row_done C objects n w Bad xs ys (Some zs) f h = h

lane_gives : (objects w : ℕ) (op : BinOp) (flags : Flags) (a b : Lane) → Gives (HasNoQuotient op w a b) objects (Int w) (option_map LaneValue (bin_lane op flags w a b))
lane_gives objects w op flags a b = by_done (lane_done op flags w a b) (bin_lane op flags w a b) refl
  where
    by_done : HasNoQuotient op w a b ⊎ ((c : Lane) × (bin_lane op flags w a b ≡ Some c)) → (o : Option Lane) → bin_lane op flags w a b ≡ o →
        Gives (HasNoQuotient op w a b) objects (Int w) (option_map LaneValue o)
    by_done d (Some c) e = tt
    by_done (inl bad) None e = bad
    by_done (inr d) None e = absurd (some_none (sym d.1 ∙ e)) where
      some_none : Some d.0 ≡ None → ⊥
      some_none e = cc

abbrev Divided : BinOp → ℕ → Ty → List Value → Option Value → Type 0
Divided op objects t vs v = Gives (DividesBadly op t vs) objects t v

pub bin_row : (op : BinOp) (flags : Flags) (objects : ℕ) (t : Ty) (vs : List Value) → is_number t ≡ true → AllZip (HasShape objects) (t ∷ t ∷ []) vs →
    Divided op objects t vs (bin_value op flags t vs)
bin_row op flags objects t vs h z =
    by_number (λ u. (vs : List Value) → AllZip (HasShape objects) (u ∷ u ∷ []) vs → Divided op objects u vs (bin_value op flags u vs))
    (λ w wd vs z. lane_arg (λ us. Divided op objects (Int w) us (bin_value op flags (Int w) us)) objects w (Int w ∷ []) vs z
    (λ a us more. lane_arg (λ us. Divided op objects (Int w) (LaneValue a ∷ us) (bin_value op flags (Int w) (LaneValue a ∷ us))) objects w [] us more
    (λ b us more. no_arg (λ us. Divided op objects (Int w) (LaneValue a ∷ LaneValue b ∷ us) (bin_value op flags (Int w) (LaneValue a ∷ LaneValue b ∷ us))) objects us more
    (narrow_gives (HasNoQuotient op w a b) objects (Int w) w (option_map LaneValue (bin_lane op flags w a b)) wd (lane_gives objects w op flags a b)))))
    (λ n w wd vs z. row_arg (λ us. Divided op objects (Row n w) us (bin_value op flags (Row n w) us)) objects n w (Row n w ∷ []) vs z
    (λ a us p more. row_arg (λ us. Divided op objects (Row n w) (RowValue a ∷ us) (bin_value op flags (Row n w) (RowValue a ∷ us))) objects n w [] us more
    (λ b us q more. no_arg (λ us. Divided op objects (Row n w) (RowValue a ∷ RowValue b ∷ us) (bin_value op flags (Row n w) (RowValue a ∷ RowValue b ∷ us))) objects us more
    (narrow_gives (DividesBadly op (Row n w) (RowValue a ∷ RowValue b ∷ [])) objects (Row n w) w (option_map RowValue (each_pair (bin_lane op flags w) a b)) wd
    (row_done (DividesBadly op (Row n w) (RowValue a ∷ RowValue b ∷ [])) objects n w (HasNoQuotient op w) a b (each_pair (bin_lane op flags w) a b) (λ s. s)
    (subst (λ k. Lanes (HasNoQuotient op w) a b k (each_pair (bin_lane op flags w) a b)) p
    (pairs_done (HasNoQuotient op w) (bin_lane op flags w) (lane_done op flags w) a b (p ∙ sym q))))))))
    t h vs z

-- ---- comparisons, conversions, choices: these are always defined

abbrev Never : Lane → Lane → Type 0
Never a b = ⊥

abbrev Given : ℕ → Ty → Option Value → Type 0
Given = Gives ⊥

never_stuck : (xs ys : List Lane) → Stuck Never xs ys → ⊥
never_stuck xs ys s = s.5

each_gives : (objects n w : ℕ) (f : Lane → Lane → Option Lane) → ((a b : Lane) → (c : Lane) × (f a b ≡ Some c)) → (xs ys : List Lane) → length xs ≡ n → length ys ≡ n →
    Given objects (Row n w) (option_map RowValue (each_pair f xs ys))
each_gives objects n w f h xs ys p q =
    row_done ⊥ objects n w Never xs ys (each_pair f xs ys) (never_stuck xs ys)
    (subst (λ k. Lanes Never xs ys k (each_pair f xs ys)) p (pairs_done Never f (λ a b. inr (h a b)) xs ys (p ∙ sym q)))

-- types of lanes of another width
int_of : (w v : ℕ) (t : Ty) → t ≡ with_width w (Int v) → t ≡ Int w
int_of w v t e = e

pub cmp_row : (c : Pred) (objects : ℕ) (t u : Ty) (vs : List Value) → is_number u ≡ true → t ≡ with_width 1 u → AllZip (HasShape objects) (u ∷ u ∷ []) vs →
    Given objects t (cmp_value c t u vs)
cmp_row c objects t u vs h e z =
    subst (λ s. Given objects s (cmp_value c s u vs)) (sym e)
    (by_number (λ u. (vs : List Value) → AllZip (HasShape objects) (u ∷ u ∷ []) vs → Given objects (with_width 1 u) (cmp_value c (with_width 1 u) u vs))
    (λ w wd vs z. lane_arg (λ us. Given objects (Int 1) (cmp_value c (Int 1) (Int w) us)) objects w (Int w ∷ []) vs z
    (λ a us more. lane_arg (λ us. Given objects (Int 1) (cmp_value c (Int 1) (Int w) (LaneValue a ∷ us))) objects w [] us more
    (λ b us more. no_arg (λ us. Given objects (Int 1) (cmp_value c (Int 1) (Int w) (LaneValue a ∷ LaneValue b ∷ us))) objects us more
    (narrow_gives ⊥ objects (Int 1) w (Some (LaneValue (cmp_of c w (low w a) (low w b)))) wd tt))))
    (λ n w wd vs z. row_arg (λ us. Given objects (Row n 1) (cmp_value c (Row n 1) (Row n w) us)) objects n w (Row n w ∷ []) vs z
    (λ a us p more. row_arg (λ us. Given objects (Row n 1) (cmp_value c (Row n 1) (Row n w) (RowValue a ∷ us))) objects n w [] us more
    (λ b us q more. no_arg (λ us. Given objects (Row n 1) (cmp_value c (Row n 1) (Row n w) (RowValue a ∷ RowValue b ∷ us))) objects us more
    (narrow_gives ⊥ objects (Row n 1) w (option_map RowValue (each_pair (cmp_lane c w) a b)) wd
    (each_gives objects n 1 (cmp_lane c w) (λ x y. (cmp_of c w (low w x) (low w y), refl)) a b p q)))))
    u h vs z)

pub cast_row : (op : CastOp) (nneg : Bool) (objects : ℕ) (t u : Ty) (vs : List Value) → is_number u ≡ true → is_number t ≡ true → t ≡ with_width (lane_width t) u →
    AllZip (HasShape objects) (u ∷ []) vs → Given objects t (cast_value op nneg t u vs)
cast_row op nneg objects t u vs h k e z = by_width (lane_width t) e
  where
    -- the type by its width
    at_width : (x : ℕ) → is_number (with_width x u) ≡ true → Given objects (with_width x u) (cast_value op nneg (with_width x u) u vs)
    at_width x k =
        by_number (λ u. (vs : List Value) → is_number (with_width x u) ≡ true → AllZip (HasShape objects) (u ∷ []) vs → Given objects (with_width x u) (cast_value op nneg (with_width x u) u vs))
        (λ w wd vs k z. lane_arg (λ us. Given objects (Int x) (cast_value op nneg (Int x) (Int w) us)) objects w [] vs z
        (λ a us more. no_arg (λ us. Given objects (Int x) (cast_value op nneg (Int x) (Int w) (LaneValue a ∷ us))) objects us more
        (narrow_gives ⊥ objects (Int x) w (narrow x (Some (LaneValue (cast_lane op nneg w x a)))) wd
        (narrow_gives ⊥ objects (Int x) x (Some (LaneValue (cast_lane op nneg w x a))) (or_false_right (is_width x) k) tt))))
        (λ n w wd vs k z. row_arg (λ us. Given objects (Row n x) (cast_value op nneg (Row n x) (Row n w) us)) objects n w [] vs z
        (λ a us p more. no_arg (λ us. Given objects (Row n x) (cast_value op nneg (Row n x) (Row n w) (RowValue a ∷ us))) objects us more
        (narrow_gives ⊥ objects (Row n x) w (narrow x (Some (RowValue (map (cast_lane op nneg w x) a)))) wd
        (narrow_gives ⊥ objects (Row n x) x (Some (RowValue (map (cast_lane op nneg w x) a))) (vector_width n x k) (length_map (cast_lane op nneg w x) a ∙ p)))))
        u h vs k z

    by_width : (x : ℕ) → t ≡ with_width x u → Given objects t (cast_value op nneg t u vs)
    by_width x e = subst (λ s. Given objects s (cast_value op nneg s u vs)) (sym e) (at_width x (subst (λ s. is_number s ≡ true) e k))

-- what a pointer that is chosen names is there
chosen_pointer : (objects : ℕ) (c : Lane) (p q : Pointer) → PointerFits objects p → PointerFits objects q → PointerFits objects (chosen_by c p q)
chosen_pointer objects None p q a b = tt
chosen_pointer objects (Some c) p q a b = by_test (nat_eq c 0) where
  by_test : (t : Bool) → PointerFits objects (cond t q p)
  by_test true = b
  by_test false = a

chosen_done : (cs xs ys : List Lane) (n : ℕ) → length cs ≡ n → length xs ≡ n → length ys ≡ n → (zs : List Lane) × (chosen_lanes cs xs ys ≡ Some zs) × (length zs ≡ n)
chosen_done [] [] [] n p q r = ([], refl, p)
chosen_done (c ∷ cs) (x ∷ xs) (y ∷ ys) zero p q r = absurd cc
chosen_done (c ∷ cs) (x ∷ xs) (y ∷ ys) (suc n) p q r =
    let a : length cs ≡ n = cc in
    let b : length xs ≡ n = cc in
    let d : length ys ≡ n = cc in
    let rest = chosen_done cs xs ys n a b d in
    (chosen_by c x y ∷ rest.0, ap (with_lane (choice c x y)) rest.1, ap suc rest.2)
chosen_done [] [] (y ∷ ys) n p q r = absurd cc
chosen_done [] (x ∷ xs) ys n p q r = absurd cc
chosen_done (c ∷ cs) [] ys n p q r = absurd cc
chosen_done (c ∷ cs) (x ∷ xs) [] n p q r = absurd cc

abbrev Chosen : ℕ → Ty → List Value → Type 0
Chosen objects t us = Given objects t (select_value t us)

select_scalar : (objects : ℕ) (t : Ty) (vs : List Value) → is_value t ≡ true → AllZip (HasShape objects) (Int 1 ∷ t ∷ t ∷ []) vs → Chosen objects t vs
select_scalar objects (Int w) vs h z =
    lane_arg (Chosen objects (Int w)) objects 1 (Int w ∷ Int w ∷ []) vs z
    (λ c us more. lane_arg (λ us. Chosen objects (Int w) (LaneValue c ∷ us)) objects w (Int w ∷ []) us more
    (λ a us more. lane_arg (λ us. Chosen objects (Int w) (LaneValue c ∷ LaneValue a ∷ us)) objects w [] us more
    (λ b us more. no_arg (λ us. Chosen objects (Int w) (LaneValue c ∷ LaneValue a ∷ LaneValue b ∷ us)) objects us more tt)))
select_scalar objects Ptr vs h z =
    lane_arg (Chosen objects Ptr) objects 1 (Ptr ∷ Ptr ∷ []) vs z
    (λ c us more. ptr_arg (λ us. Chosen objects Ptr (LaneValue c ∷ us)) objects (Ptr ∷ []) us more
    (λ a us p more. ptr_arg (λ us. Chosen objects Ptr (LaneValue c ∷ PtrValue a ∷ us)) objects [] us more
    (λ b us q more. no_arg (λ us. Chosen objects Ptr (LaneValue c ∷ PtrValue a ∷ PtrValue b ∷ us)) objects us more (chosen_pointer objects c a b p q))))
select_scalar objects (Row n w) vs h z =
    lane_arg (Chosen objects (Row n w)) objects 1 (Row n w ∷ Row n w ∷ []) vs z
    (λ c us more. row_arg (λ us. Chosen objects (Row n w) (LaneValue c ∷ us)) objects n w (Row n w ∷ []) us more
    (λ a us p more. row_arg (λ us. Chosen objects (Row n w) (LaneValue c ∷ RowValue a ∷ us)) objects n w [] us more
    (λ b us q more. no_arg (λ us. Chosen objects (Row n w) (LaneValue c ∷ RowValue a ∷ RowValue b ∷ us)) objects us more
    (each_gives objects n w (choice c) (λ x y. (chosen_by c x y, refl)) a b p q))))
select_scalar objects Void vs h z = absurd (false_true h)

select_vector : (objects n w v : ℕ) (vs : List Value) → AllZip (HasShape objects) (Row n v ∷ Row n w ∷ Row n w ∷ []) vs → Chosen objects (Row n w) vs
select_vector objects n w v vs z =
    row_arg (Chosen objects (Row n w)) objects n v (Row n w ∷ Row n w ∷ []) vs z
    (λ c us r more. row_arg (λ us. Chosen objects (Row n w) (RowValue c ∷ us)) objects n w (Row n w ∷ []) us more
    (λ a us p more. row_arg (λ us. Chosen objects (Row n w) (RowValue c ∷ RowValue a ∷ us)) objects n w [] us more
    (λ b us q more. no_arg (λ us. Chosen objects (Row n w) (RowValue c ∷ RowValue a ∷ RowValue b ∷ us)) objects us more
    (let d = chosen_done c a b n r p q in subst (λ o. Given objects (Row n w) (option_map RowValue o)) (sym d.1) d.2))))

pub select_row : (objects : ℕ) (t c : Ty) (vs : List Value) → is_value t ≡ true → (c ≡ Int 1) ⊎ ((is_vector t ≡ true) × (c ≡ with_width 1 t)) →
    AllZip (HasShape objects) (c ∷ t ∷ t ∷ []) vs → Chosen objects t vs
select_row objects t c vs h (inl e) z = select_scalar objects t vs h (subst (λ c. AllZip (HasShape objects) (c ∷ t ∷ t ∷ []) vs) e z)
select_row objects (Row n w) c vs h (inr e) z = select_vector objects n w 1 vs (subst (λ c. AllZip (HasShape objects) (c ∷ Row n w ∷ Row n w ∷ []) vs) e.1 z)
select_row objects (Int w) c vs h (inr e) z = absurd (false_true e.0)
select_row objects Ptr c vs h (inr e) z = absurd (false_true e.0)
select_row objects Void c vs h (inr e) z = absurd (false_true e.0)

-- ---- lanes of vectors

length_gives : (objects : ℕ) (t : Ty) (n : ℕ) (xs : List Lane) (v : Option Value) → length xs ≡ n → Given objects t v → Given objects t (of_length n xs v)
length_gives objects t n xs v p h = subst (λ b. Given objects t (cond b v None)) (sym same) h where
  same : nat_eq (length xs) n ≡ true
  same = grind (arith, nat_tests)

pub extract_row : (objects n w k : ℕ) (vs : List Value) → AllZip (HasShape objects) (Row n w ∷ Int k ∷ []) vs → Given objects (Int w) (extract_value (Row n w) vs)
extract_row objects n w k vs z =
    row_arg (λ us. Given objects (Int w) (extract_value (Row n w) us)) objects n w (Int k ∷ []) vs z
    (λ a us p more. lane_arg (λ us. Given objects (Int w) (extract_value (Row n w) (RowValue a ∷ us))) objects k [] us more
    (λ i us more. no_arg (λ us. Given objects (Int w) (extract_value (Row n w) (RowValue a ∷ LaneValue i ∷ us))) objects us more
    (length_gives objects (Int w) n a (Some (LaneValue (lane_at a i))) p tt)))

pub insert_row : (objects n w k : ℕ) (vs : List Value) → AllZip (HasShape objects) (Row n w ∷ Int w ∷ Int k ∷ []) vs → Given objects (Row n w) (insert_value (Row n w) vs)
insert_row objects n w k vs z =
    row_arg (λ us. Given objects (Row n w) (insert_value (Row n w) us)) objects n w (Int w ∷ Int k ∷ []) vs z
    (λ a us p more. lane_arg (λ us. Given objects (Row n w) (insert_value (Row n w) (RowValue a ∷ us))) objects w (Int k ∷ []) us more
    (λ x us more. lane_arg (λ us. Given objects (Row n w) (insert_value (Row n w) (RowValue a ∷ LaneValue x ∷ us))) objects k [] us more
    (λ i us more. no_arg (λ us. Given objects (Row n w) (insert_value (Row n w) (RowValue a ∷ LaneValue x ∷ LaneValue i ∷ us))) objects us more
    (length_gives objects (Row n w) n a (Some (RowValue (with_lane_at a x i))) p (length-with_lane_at a x i ∙ p)))))

pub shuffle_row : (objects n w : ℕ) (mask : List Lane) (vs : List Value) → AllZip (HasShape objects) (Row n w ∷ Row n w ∷ []) vs →
    Given objects (Row (length mask) w) (shuffle_value mask (Row n w) vs)
shuffle_row objects n w mask vs z =
    row_arg (λ us. Given objects (Row (length mask) w) (shuffle_value mask (Row n w) us)) objects n w (Row n w ∷ []) vs z
    (λ a us p more. row_arg (λ us. Given objects (Row (length mask) w) (shuffle_value mask (Row n w) (RowValue a ∷ us))) objects n w [] us more
    (λ b us q more. no_arg (λ us. Given objects (Row (length mask) w) (shuffle_value mask (Row n w) (RowValue a ∷ RowValue b ∷ us))) objects us more
    (length_gives objects (Row (length mask) w) n a (of_length n b (Some (RowValue (map (lane_at (a ++ b)) mask)))) p
    (length_gives objects (Row (length mask) w) n b (Some (RowValue (map (lane_at (a ++ b)) mask))) q (length_map (lane_at (a ++ b)) mask)))))

-- ---- addresses

stepped_fits : (objects w scale : ℕ) (p : Pointer) (i : Lane) → PointerFits objects p → PointerFits objects (stepped w scale p i)
stepped_fits objects w scale None i h = tt
stepped_fits objects w scale (Some p) None h = tt
stepped_fits objects w scale (Some p) (Some i) h = (h.0, advance_of-fits p.1 (i % 2 ^ w) w scale)

-- where indices take a pointer
abbrev pub Walks : ℕ → Option Pointer → Type 0
Walks objects None = ⊥
Walks objects (Some p) = PointerFits objects p

narrow_walks : (objects w : ℕ) (p : Option Pointer) → is_width w ≡ true → Walks objects p → Walks objects (narrow w p)
narrow_walks objects w p h z = subst (λ b. Walks objects (cond b p None)) (sym (wide w h)) z

walked_once : (elem : Elem) (objects k : ℕ) (vs : List Value) → is_width k ≡ true → AllZip (HasShape objects) (Ptr ∷ Int k ∷ []) vs →
    Walks objects (walked elem (Ptr ∷ Int k ∷ []) vs)
walked_once elem objects k vs h z =
    ptr_arg (λ us. Walks objects (walked elem (Ptr ∷ Int k ∷ []) us)) objects (Int k ∷ []) vs z
    (λ p us f more. lane_arg (λ us. Walks objects (walked elem (Ptr ∷ Int k ∷ []) (PtrValue p ∷ us))) objects k [] us more
    (λ i us more. no_arg (λ us. Walks objects (walked elem (Ptr ∷ Int k ∷ []) (PtrValue p ∷ LaneValue i ∷ us))) objects us more
    (narrow_walks objects k (Some (stepped k (elem_size elem) p i)) h (stepped_fits objects k (elem_size elem) p i f))))

walked_twice : (n e objects k j : ℕ) (vs : List Value) → is_width k ≡ true → is_width j ≡ true → AllZip (HasShape objects) (Ptr ∷ Int k ∷ Int j ∷ []) vs →
    Walks objects (walked (Array n e) (Ptr ∷ Int k ∷ Int j ∷ []) vs)
walked_twice n e objects k j vs h g z =
    let types = Ptr ∷ Int k ∷ Int j ∷ [] in
    ptr_arg (λ us. Walks objects (walked (Array n e) types us)) objects (Int k ∷ Int j ∷ []) vs z
    (λ p us f more. lane_arg (λ us. Walks objects (walked (Array n e) types (PtrValue p ∷ us))) objects k (Int j ∷ []) us more
    (λ i us more. lane_arg (λ us. Walks objects (walked (Array n e) types (PtrValue p ∷ LaneValue i ∷ us))) objects j [] us more
    (λ l us more. no_arg (λ us. Walks objects (walked (Array n e) types (PtrValue p ∷ LaneValue i ∷ LaneValue l ∷ us))) objects us more
    (narrow_walks objects k (narrow j (Some (stepped j (bytes_in e) (stepped k (n * bytes_in e) p i) l))) h
    (narrow_walks objects j (Some (stepped j (bytes_in e) (stepped k (n * bytes_in e) p i) l)) g
    (stepped_fits objects j (bytes_in e) (stepped k (n * bytes_in e) p i) l (stepped_fits objects k (n * bytes_in e) p i f)))))))

-- the types of a `getelementptr`'s operands
abbrev pub Indices : Elem → List Ty → Type 0
Indices elem types = (k : ℕ) × (is_width k ≡ true) × ((types ≡ Ptr ∷ Int k ∷ []) ⊎ ((n : ℕ) × (e : ℕ) × (j : ℕ) × (elem ≡ Array n e) × (is_width j ≡ true) × (types ≡ Ptr ∷ Int k ∷ Int j ∷ [])))

pub walked_walks : (elem : Elem) (objects : ℕ) (types : List Ty) (vs : List Value) → Indices elem types → AllZip (HasShape objects) types vs → Walks objects (walked elem types vs)
walked_walks elem objects types vs h z = by_shape h.2
  where
    by_shape : (types ≡ Ptr ∷ Int h.0 ∷ []) ⊎ ((n : ℕ) × (e : ℕ) × (j : ℕ) × (elem ≡ Array n e) × (is_width j ≡ true) × (types ≡ Ptr ∷ Int h.0 ∷ Int j ∷ [])) → Walks objects (walked elem types vs)
    by_shape (inl e) = subst (λ ts. Walks objects (walked elem ts vs)) (sym e) (walked_once elem objects h.0 vs h.1 (subst (λ ts. AllZip (HasShape objects) ts vs) e z))
    by_shape (inr a) =
        subst (λ el. Walks objects (walked el types vs)) (sym a.3)
        (subst (λ ts. Walks objects (walked (Array a.0 a.1) ts vs)) (sym a.5)
        (walked_twice a.0 a.1 objects h.0 a.2 vs h.1 a.4 (subst (λ ts. AllZip (HasShape objects) ts vs) a.5 z)))

pub address_row : (elem : Elem) (objects : ℕ) (types : List Ty) (vs : List Value) → Indices elem types → AllZip (HasShape objects) types vs → Given objects Ptr (address_value elem Ptr types vs)
address_row elem objects types vs h z = by_walk (walked elem types vs) (walked_walks elem objects types vs h z)
  where
    by_walk : (p : Option Pointer) → Walks objects p → Given objects Ptr (option_map PtrValue p)
    by_walk None w = elim w [ ]
    by_walk (Some p) w = w

kept_fits : (objects : ℕ) (m : Memory) (base q : Pointer) → PointerFits objects q → PointerFits objects (kept_inside m base q)
kept_fits objects m base q h = by_test (is_inside m base && is_inside m q) where
  by_test : (b : Bool) → PointerFits objects (cond b q None)
  by_test true = h
  by_test false = tt

pub inbounds_row : (elem : Elem) (objects : ℕ) (types : List Ty) (vs : List Value) (m : Memory) → Indices elem types → AllZip (HasShape objects) types vs →
    Given objects Ptr (inbounds_value elem Ptr types vs m)
inbounds_row elem objects types (v ∷ vs) m h z = by_walk (walked elem types (v ∷ vs)) (walked_walks elem objects types (v ∷ vs) h z)
  where
    by_walk : (p : Option Pointer) → Walks objects p → Given objects Ptr (option_map (λ q. PtrValue (kept_inside m (pointer_of v) q)) p)
    by_walk None w = elim w [ ]
    by_walk (Some p) w = kept_fits objects m (pointer_of v) p w
inbounds_row elem objects types [] m h z = by_walk (walked elem types []) (walked_walks elem objects types [] h z) (λ t. walked_nothing elem t)
  where
    walked_nothing : (elem : Elem) (types : List Ty) → walked elem types [] ≡ None
    walked_nothing elem types = by_elem elem types where
      by_elem : (elem : Elem) (types : List Ty) → walked elem types [] ≡ None
      by_elem (One t) (u ∷ Int w ∷ []) = refl
      by_elem (Array n e) (u ∷ Int w ∷ []) = refl
      by_elem (Array n e) (u ∷ Int w ∷ Int v ∷ []) = refl
      by_elem elem types = refl

    by_walk : (p : Option Pointer) → Walks objects p → ((t : List Ty) → walked elem t [] ≡ None) → Given objects Ptr (inbounds_value elem Ptr types [] m)
    by_walk p w e = elim (subst (Walks objects) (e types) (walked_walks elem objects types [] h z)) [ ]

-- ---- loads

-- an object that is there
found : (m : Memory) (o : ℕ) → o < length m → (object : Object) × (slice_get m o ≡ Some object)
found [] o h = absurd (omega arith)
found (x ∷ m) zero h = (x, refl)
found (x ∷ m) (suc o) h = found m o (omega arith)

no_place : (offset : ℤ) (size align len : ℕ) → place_of offset size align len ≡ None → IsOutside offset size len ⊎ IsMisaligned offset align
no_place (negsuc k) size align len e = inl tt
no_place (pos k) size align len e = by_room (nat_le (k + size) len) (nat_eq (k % align) 0) refl refl e
  where
    by_room : (a b : Bool) → nat_le (k + size) len ≡ a → nat_eq (k % align) 0 ≡ b → cond (a && b) (Some k) None ≡ None → IsOutside (pos k) size len ⊎ IsMisaligned (pos k) align
    by_room true true ea eb e = absurd (some_none e) where
      some_none : Some k ≡ None → ⊥
      some_none e = cc
    by_room false b ea eb e = inl (grind (arith, nat_tests))
    by_room true false ea eb e = inr (λ aligned. false_true (sym eb ∙ ap (λ n. nat_eq n 0) aligned))

-- bytes of an access, or a bad one
abbrev pub Loads : ℕ → ℕ → Pointer → Memory → Option (List Lane) → Type 0
Loads size align p m None = IsBadAccess size align p m
Loads size align p m (Some bytes) = Unit {0}

pub loads : (size align : ℕ) (p : Pointer) (m : Memory) → PointerFits (length m) p → Loads size align p m (loaded size align p m)
loads size align None m h = tt
loads size align (Some p) m h =
    let f = found m p.0 h.0 in
    subst (λ o. Loads size align (Some p) m (loaded_from p.1 size align o)) (sym f.1) (by_place f.0 f.1 (place_of p.1 size align (length f.0)) refl)
  where
    by_place : (x : Object) → slice_get m p.0 ≡ Some x → (at : Option ℕ) → place_of p.1 size align (length x) ≡ at → Loads size align (Some p) m (option_map (λ k. drop k x) at)
    by_place x found None e = (x, found, no_place p.1 size align (length x) e)
    by_place x found (Some at) e = tt

length_lanes_from : (n k : ℕ) (bytes : List Lane) → length (lanes_from n k bytes) ≡ n
length_lanes_from zero k bytes = refl
length_lanes_from (suc n) k bytes = ap suc (length_lanes_from n k (drop k bytes))

loaded_row : (C : Type 0) (t : Ty) (m : Memory) (size align : ℕ) (p : Pointer) (read : List Lane → Value) → ((bytes : List Lane) → HasShape (length m) t (read bytes)) →
    (o : Option (List Lane)) → (IsBadAccess size align p m → C) → Loads size align p m o → EffectRow C t (length m) (value_effect (option_map read o) m)
loaded_row C t m size align p read h None f z = f z
loaded_row C t m size align p read h (Some bytes) f z = record { result = result_shape (length m) t (read bytes) (h bytes); stay = omega arith }

narrow_row : (C : Type 0) (t : Ty) (objects w : ℕ) (e : Option Effect) → is_width w ≡ true → EffectRow C t objects e → EffectRow C t objects (narrow w e)
narrow_row C t objects w e h z = subst (λ b. EffectRow C t objects (cond b e None)) (sym (wide w h)) z

pub load_row : (align : ℕ) (t : Ty) (p : Pointer) (m : Memory) → is_number t ≡ true → PointerFits (length m) p → EffectRow (IsBadAccess (size_of t) align p m) t (length m) (typed_load align t p m)
load_row align t p m h f =
    by_number (λ t. EffectRow (IsBadAccess (size_of t) align p m) t (length m) (typed_load align t p m))
    (λ w wd. narrow_row (IsBadAccess (bytes_in w) align p m) (Int w) (length m) w (load_effect (bytes_in w) align p m) wd
    (loaded_row (IsBadAccess (bytes_in w) align p m) (Int w) m (bytes_in w) align p (λ bytes. LaneValue (lane_from (bytes_in w) bytes)) (λ bytes. tt)
    (loaded (bytes_in w) align p m) (λ b. b) (loads (bytes_in w) align p m f)))
    (λ n w wd. narrow_row (IsBadAccess (n * bytes_in w) align p m) (Row n w) (length m) w (load_row_effect n (bytes_in w) align p m) wd
    (loaded_row (IsBadAccess (n * bytes_in w) align p m) (Row n w) m (n * bytes_in w) align p (λ bytes. RowValue (lanes_from n (bytes_in w) bytes)) (length_lanes_from n (bytes_in w))
    (loaded (n * bytes_in w) align p m) (λ b. b) (loads (n * bytes_in w) align p m f)))
    t h

-- ---- stores

length_row_bytes : (k : ℕ) (xs : List Lane) → length (row_bytes k xs) ≡ length xs * k
length_row_bytes k [] = omega arith
length_row_bytes k (x ∷ xs) = length-append (lane_bytes k x) (row_bytes k xs) ∙ ap (λ n. n + length (row_bytes k xs)) (length-lane_bytes k x) ∙ ap (λ n. k + n) (length_row_bytes k xs) ∙ omega arith

stored_row : (bytes : List Lane) (align : ℕ) (p : Pointer) (m : Memory) → PointerFits (length m) p →
    EffectRow (IsBadAccess (length bytes) align p m) Void (length m) (memory_effect (stored align bytes p m))
stored_row bytes align None m h = tt
stored_row bytes align (Some p) m h =
    let f = found m p.0 h.0 in
    subst (λ o. EffectRow (IsBadAccess (length bytes) align (Some p) m) Void (length m) (memory_effect (stored_in m p.0 p.1 align bytes o))) (sym f.1)
    (by_place f.0 f.1 (place_of p.1 (length bytes) align (length f.0)) refl)
  where
    by_place : (x : Object) → slice_get m p.0 ≡ Some x → (at : Option ℕ) → place_of p.1 (length bytes) align (length x) ≡ at →
        EffectRow (IsBadAccess (length bytes) align (Some p) m) Void (length m) (memory_effect (option_map (with_bytes m p.0 x bytes) at))
    by_place x found None e = (x, found, no_place p.1 (length bytes) align (length x) e)
    by_place x found (Some at) e = record { result = tt; stay = let long = length_set m p.0 (put bytes at x) in omega arith }

pub store_row : (align : ℕ) (t : Ty) (v : Value) (p : Pointer) (m : Memory) → is_number t ≡ true → HasShape (length m) t v → PointerFits (length m) p →
    EffectRow (IsBadAccess (size_of t) align p m) Void (length m) (store_effect align (bytes_of t v) p m)
store_row align t v p m h z f =
    by_number (λ t. (v : Value) → HasShape (length m) t v → EffectRow (IsBadAccess (size_of t) align p m) Void (length m) (store_effect align (bytes_of t v) p m))
    (λ w wd v z. lane_arg (λ us. one (Int w) us) (length m) w [] (v ∷ []) (z, tt)
    (λ a us more. no_arg (λ us. one (Int w) (LaneValue a ∷ us)) (length m) us more
    (subst (λ n. EffectRow (IsBadAccess n align p m) Void (length m) (memory_effect (stored align (lane_bytes (bytes_in w) a) p m))) (length-lane_bytes (bytes_in w) a)
    (stored_row (lane_bytes (bytes_in w) a) align p m f))))
    (λ n w wd v z. row_arg (λ us. one (Row n w) us) (length m) n w [] (v ∷ []) (z, tt)
    (λ a us long more. no_arg (λ us. one (Row n w) (RowValue a ∷ us)) (length m) us more
    (subst (λ k. EffectRow (IsBadAccess k align p m) Void (length m) (memory_effect (stored align (row_bytes (bytes_in w) a) p m)))
    (length_row_bytes (bytes_in w) a ∙ ap (λ k. k * bytes_in w) long)
    (stored_row (row_bytes (bytes_in w) a) align p m f))))
    t h v z
  where
    one : Ty → List Value → Type 0
    one t (v ∷ us) = EffectRow (IsBadAccess (size_of t) align p m) Void (length m) (store_effect align (bytes_of t v) p m)
    one t [] = Unit {0}

-- ---- allocas

pub alloca_row : (C : Type 0) (elem : Elem) (m : Memory) → EffectRow C Ptr (length m) (Some (alloca_effect elem m))
alloca_row C elem m = record {
  result = (let long = length-append m (fresh_object (elem_size elem) ∷ []) in omega arith, sfits_lit tt);
  stay = let long = length-append m (fresh_object (elem_size elem) ∷ []) in omega arith;
}

-- Operations on values are monotone: finer operands give a finer result, or the old one is undefined.
use Rattle.std.proofs.Common.{◌≡◌, refl, sym, ap, ◌∙◌, subst, ℕ, zero, suc, ℤ, pos, negsuc, ◌*◌, Bool, true, false, ◌&&◌, Option, None, Some, List, [], ◌∷◌, ◌++◌, length, map, cond, nat_eq, nat_le, nat_lt, slice_get, slice_set, option_map}
use Rattle.std.specs.List.{AllZip}
use Rattle.vx_num.specs.declared.operations.BinOp.{BinOp}
use Rattle.vx_num.specs.declared.operations.Pred.{Pred}
use Rattle.vx_num.specs.declared.operations.CastOp.{CastOp}
use Rattle.vx_num.specs.declared.operations.Flags.{Flags}
use Rattle.vx_num.specs.declared.lanes.Done.{Done}
use Rattle.vx_num.specs.declared.lanes.Done.TheVariants.{Value as DoneValue, Undefined}
use Rattle.vx_num.specs.Bin.{bin_of}
use Rattle.vx_num.specs.Cmp.{cmp_of}
use Rattle.vx_num.specs.Cast.{cast_of}
use Rattle.vx_num.specs.Refines.{LaneRefines, DoneRefines, Fewer}
use Rattle.vx_num.proofs.Finer.{bin_of-finer, cmp_of-finer, cast_of-finer}
use Rattle.ir_types.specs.declared.ty.Ty.{Ty}
use Rattle.ir_types.specs.declared.ty.Ty.TheVariants.{Int, Ptr, Row}
use Rattle.ir_types.specs.declared.ty.Elem.{Elem}
use Rattle.ir_types.specs.declared.ty.Elem.TheVariants.{Array}
use Rattle.ir_types.specs.Typed.{lane_width}
use Rattle.ir_model.specs.declared.value.Value.{Value}
use Rattle.ir_model.specs.declared.value.Value.TheVariants.{Lane as LaneValue, Row as RowValue, Ptr as PtrValue}
use Rattle.ir_model.specs.Values.{Lane, Pointer, MayStandFor, ValueRefines, pointer_of}
use Rattle.ir_model.specs.Memory.{Object, Memory, MemoryRefines}
use Rattle.ir_model.specs.Sizes.{bytes_in, elem_size}
use Rattle.ir_model.specs.Operations.{low, narrow, with_lane, each_pair, paired, single, done_lane, bin_lane, cmp_lane, cast_lane, bin_value, cmp_value, cast_value, chosen_by, choice, chosen_lanes, select_value, lane_or_poison, lane_at, all_poison, with_lane_at, of_length, extract_value, insert_value, shuffle_value}
use Rattle.ir_model.specs.Addresses.{stepped, walked, address_value, is_within, is_inside, kept_inside, inbounds_value}
use Rattle.ir_model.proofs.Same.{stands_for_itself, zip_same}

-- ---- results that may be undefined

-- the old one is undefined, or both are there and the new one is finer
abbrev pub Finer : {A B : Type 0} → (A → B → Type 0) → Option A → Option B → Type 0
Finer R new None = Unit {0}
Finer R (Some new) (Some old) = R new old
Finer R None (Some old) = ⊥

abbrev pub LanesRefine : List Lane → List Lane → Type 0
LanesRefine = AllZip MayStandFor

pub map_finer : {A B C D : Type 0} (R : A → B → Type 0) (S : C → D → Type 0) (g : A → C) (h : B → D) → ((x : A) (y : B) → R x y → S (g x) (h y)) →
    (new : Option A) (old : Option B) → Finer R new old → Finer S (option_map g new) (option_map h old)
map_finer R S g h f new None z = tt
map_finer R S g h f (Some x) (Some y) z = f x y z
map_finer R S g h f None (Some y) z = elim z [ ]

pub cond_finer : {A B : Type 0} (R : A → B → Type 0) (b : Bool) (new : Option A) (old : Option B) → Finer R new old → Finer R (cond b new None) (cond b old None)
cond_finer R true new old z = z
cond_finer R false new old z = tt

pub narrow_finer : {A B : Type 0} (R : A → B → Type 0) (w : ℕ) (new : Option A) (old : Option B) → Finer R new old → Finer R (narrow w new) (narrow w old)
narrow_finer R w new old z = cond_finer R (nat_le w 64) new old z

-- ---- lists

pub zip_length : {A B : Type 0} (R : A → B → Type 0) (xs : List A) (ys : List B) → AllZip R xs ys → length xs ≡ length ys
zip_length R [] [] z = refl
zip_length R (x ∷ xs) (y ∷ ys) z = ap suc (zip_length R xs ys z.1)
zip_length R [] (y ∷ ys) z = elim z [ ]
zip_length R (x ∷ xs) [] z = elim z [ ]

pub zip_append : {A B : Type 0} (R : A → B → Type 0) (xs : List A) (ys : List B) (us : List A) (vs : List B) → AllZip R xs ys → AllZip R us vs → AllZip R (xs ++ us) (ys ++ vs)
zip_append R [] [] us vs p q = q
zip_append R (x ∷ xs) (y ∷ ys) us vs p q = (p.0, zip_append R xs ys us vs p.1 q)
zip_append R [] (y ∷ ys) us vs p q = elim p [ ]
zip_append R (x ∷ xs) [] us vs p q = elim p [ ]

pub zip_map : {A B C D : Type 0} (R : A → B → Type 0) (S : C → D → Type 0) (f : A → C) (g : B → D) → ((x : A) (y : B) → R x y → S (f x) (g y)) →
    (xs : List A) (ys : List B) → AllZip R xs ys → AllZip S (map f xs) (map g ys)
zip_map R S f g h [] [] z = tt
zip_map R S f g h (x ∷ xs) (y ∷ ys) z = (h x y z.0, zip_map R S f g h xs ys z.1)
zip_map R S f g h [] (y ∷ ys) z = elim z [ ]
zip_map R S f g h (x ∷ xs) [] z = elim z [ ]

pub zip_set : {A B : Type 0} (R : A → B → Type 0) (xs : List A) (ys : List B) (at : ℕ) (x : A) (y : B) → AllZip R xs ys → R x y → AllZip R (slice_set xs at x) (slice_set ys at y)
zip_set R [] [] at x y z r = tt
zip_set R (u ∷ xs) (v ∷ ys) zero x y z r = (r, z.1)
zip_set R (u ∷ xs) (v ∷ ys) (suc at) x y z r = (z.0, zip_set R xs ys at x y z.1 r)
zip_set R [] (v ∷ ys) at x y z r = elim z [ ]
zip_set R (u ∷ xs) [] at x y z r = elim z [ ]

-- both have an item, or neither has
abbrev pub Both : {A B : Type 0} → (A → B → Type 0) → Option A → Option B → Type 0
Both R None None = Unit {0}
Both R (Some x) (Some y) = R x y
Both R _ _ = ⊥

pub zip_get : {A B : Type 0} (R : A → B → Type 0) (xs : List A) (ys : List B) (at : ℕ) → AllZip R xs ys → Both R (slice_get xs at) (slice_get ys at)
zip_get R [] [] at z = tt
zip_get R (x ∷ xs) (y ∷ ys) zero z = z.0
zip_get R (x ∷ xs) (y ∷ ys) (suc at) z = zip_get R xs ys at z.1
zip_get R [] (y ∷ ys) at z = elim z [ ]
zip_get R (x ∷ xs) [] at z = elim z [ ]

-- ---- values of a shape have finer values of that shape

pub lane_first : (P : List Value → Type 0) (a : Lane) (ws us : List Value) → AllZip ValueRefines us (LaneValue a ∷ ws) →
    ((x : Lane) (vs : List Value) → MayStandFor x a → AllZip ValueRefines vs ws → P (LaneValue x ∷ vs)) → P us
lane_first P a ws (LaneValue x ∷ us) z h = h x us z.0 z.1
lane_first P a ws (RowValue x ∷ us) z h = elim z.0 [ ]
lane_first P a ws (PtrValue x ∷ us) z h = elim z.0 [ ]
lane_first P a ws [] z h = elim z [ ]

pub row_first : (P : List Value → Type 0) (a : List Lane) (ws us : List Value) → AllZip ValueRefines us (RowValue a ∷ ws) →
    ((x : List Lane) (vs : List Value) → LanesRefine x a → AllZip ValueRefines vs ws → P (RowValue x ∷ vs)) → P us
row_first P a ws (RowValue x ∷ us) z h = h x us z.0 z.1
row_first P a ws (LaneValue x ∷ us) z h = elim z.0 [ ]
row_first P a ws (PtrValue x ∷ us) z h = elim z.0 [ ]
row_first P a ws [] z h = elim z [ ]

pub ptr_first : (P : List Value → Type 0) (a : Pointer) (ws us : List Value) → AllZip ValueRefines us (PtrValue a ∷ ws) →
    ((x : Pointer) (vs : List Value) → MayStandFor x a → AllZip ValueRefines vs ws → P (PtrValue x ∷ vs)) → P us
ptr_first P a ws (PtrValue x ∷ us) z h = h x us z.0 z.1
ptr_first P a ws (LaneValue x ∷ us) z h = elim z.0 [ ]
ptr_first P a ws (RowValue x ∷ us) z h = elim z.0 [ ]
ptr_first P a ws [] z h = elim z [ ]

pub any_first : (P : List Value → Type 0) (a : Value) (ws us : List Value) → AllZip ValueRefines us (a ∷ ws) →
    ((x : Value) (vs : List Value) → ValueRefines x a → AllZip ValueRefines vs ws → P (x ∷ vs)) → P us
any_first P a ws (x ∷ us) z h = h x us z.0 z.1
any_first P a ws [] z h = elim z [ ]

pub no_more : (P : List Value → Type 0) (us : List Value) → AllZip ValueRefines us [] → P [] → P us
no_more P [] z h = h
no_more P (x ∷ us) z h = elim z [ ]

pub pointer_finer : (v w : Value) → ValueRefines v w → MayStandFor (pointer_of v) (pointer_of w)
pointer_finer (PtrValue p) (PtrValue q) z = z
pointer_finer (LaneValue a) (LaneValue b) z = tt
pointer_finer (RowValue a) (RowValue b) z = tt
pointer_finer v (LaneValue b) z = tt
pointer_finer v (RowValue b) z = tt
pointer_finer (LaneValue a) (PtrValue q) z = elim z [ ]
pointer_finer (RowValue a) (PtrValue q) z = elim z [ ]

-- ---- lane by lane

pub to_lane : (x a : Lane) → MayStandFor x a → LaneRefines x a
to_lane x None z = tt
to_lane x (Some a) z = z

pub of_lane : (x a : Lane) → LaneRefines x a → MayStandFor x a
of_lane x None z = tt
of_lane x (Some a) z = z

pub low_finer : (w : ℕ) (x a : Lane) → MayStandFor x a → MayStandFor (low w x) (low w a)
low_finer w x None z = tt
low_finer w x (Some a) z = ap (low w) z

-- an operation on two lanes, and a finer one
abbrev pub PairFiner : (Lane → Lane → Option Lane) → (Lane → Lane → Option Lane) → Type 0
PairFiner g f = (x y a b : Lane) → MayStandFor x a → MayStandFor y b → Finer MayStandFor (g x y) (f a b)

done_finer : (new old : Done) → DoneRefines new old → Finer MayStandFor (done_lane new) (done_lane old)
done_finer new Undefined z = tt
done_finer (DoneValue x) (DoneValue a) z = of_lane x a z
done_finer Undefined (DoneValue a) z = elim z [ ]

pub bin_lane_finer : (op : BinOp) (g f : Flags) (w : ℕ) → Fewer g f → PairFiner (bin_lane op g w) (bin_lane op f w)
bin_lane_finer op g f w fewer x y a b p q =
    done_finer (bin_of op g w (low w x) (low w y)) (bin_of op f w (low w a) (low w b))
    (bin_of-finer op g f w (low w x) (low w a) (low w y) (low w b) fewer (to_lane (low w x) (low w a) (low_finer w x a p)) (to_lane (low w y) (low w b) (low_finer w y b q)))

pub cmp_lane_finer : (p : Pred) (w : ℕ) → PairFiner (cmp_lane p w) (cmp_lane p w)
cmp_lane_finer c w x y a b p q =
    of_lane (cmp_of c w (low w x) (low w y)) (cmp_of c w (low w a) (low w b))
    (cmp_of-finer c w (low w x) (low w a) (low w y) (low w b) (to_lane (low w x) (low w a) (low_finer w x a p)) (to_lane (low w y) (low w b) (low_finer w y b q)))

pub cast_lane_finer : (op : CastOp) (nneg : Bool) (from to : ℕ) (x a : Lane) → MayStandFor x a → MayStandFor (cast_lane op nneg from to x) (cast_lane op nneg from to a)
cast_lane_finer op nneg from to x a p =
    of_lane (cast_of op nneg from to (low from x)) (cast_of op nneg from to (low from a))
    (cast_of-finer op nneg nneg from to (low from x) (low from a) (λ e. e) (to_lane (low from x) (low from a) (low_finer from x a p)))

with_lane_finer : (x a : Option Lane) (xs os : Option (List Lane)) → Finer MayStandFor x a → Finer LanesRefine xs os → Finer LanesRefine (with_lane x xs) (with_lane a os)
with_lane_finer x None xs os p q = tt
with_lane_finer x (Some a) xs None p q = tt
with_lane_finer (Some x) (Some a) (Some xs) (Some os) p q = (p, q)
with_lane_finer None (Some a) xs (Some os) p q = elim p [ ]
with_lane_finer (Some x) (Some a) None (Some os) p q = elim q [ ]

pub each_pair_finer : (g f : Lane → Lane → Option Lane) → PairFiner g f → (xs ys os bs : List Lane) → LanesRefine xs os → LanesRefine ys bs →
    Finer LanesRefine (each_pair g xs ys) (each_pair f os bs)
each_pair_finer g f h [] [] [] [] p q = tt
each_pair_finer g f h (x ∷ xs) (y ∷ ys) (a ∷ os) (b ∷ bs) p q =
    with_lane_finer (g x y) (f a b) (each_pair g xs ys) (each_pair f os bs) (h x y a b p.0 q.0) (each_pair_finer g f h xs ys os bs p.1 q.1)
each_pair_finer g f h xs ys [] (b ∷ bs) p q = tt
each_pair_finer g f h xs ys (a ∷ os) [] p q = tt
each_pair_finer g f h (x ∷ xs) ys [] [] p q = elim p [ ]
each_pair_finer g f h [] (y ∷ ys) [] [] p q = elim q [ ]
each_pair_finer g f h [] ys (a ∷ os) (b ∷ bs) p q = elim p [ ]
each_pair_finer g f h (x ∷ xs) [] (a ∷ os) (b ∷ bs) p q = elim q [ ]

abbrev pub ValuesFiner : Option Value → Option Value → Type 0
ValuesFiner = Finer ValueRefines

pub paired_finer : (g f : Lane → Lane → Option Lane) → PairFiner g f → (t : Ty) (vs ws : List Value) → AllZip ValueRefines vs ws → ValuesFiner (paired g t vs) (paired f t ws)
paired_finer g f h (Int w) vs (LaneValue a ∷ LaneValue b ∷ []) z =
    lane_first (λ us. ValuesFiner (paired g (Int w) us) (paired f (Int w) (LaneValue a ∷ LaneValue b ∷ []))) a (LaneValue b ∷ []) vs z
    (λ x us p more. lane_first (λ us. ValuesFiner (paired g (Int w) (LaneValue x ∷ us)) (paired f (Int w) (LaneValue a ∷ LaneValue b ∷ []))) b [] us more
    (λ y us q more. no_more (λ us. ValuesFiner (paired g (Int w) (LaneValue x ∷ LaneValue y ∷ us)) (paired f (Int w) (LaneValue a ∷ LaneValue b ∷ []))) us more
    (map_finer MayStandFor ValueRefines LaneValue LaneValue (λ u v r. r) (g x y) (f a b) (h x y a b p q))))
paired_finer g f h (Row n w) vs (RowValue a ∷ RowValue b ∷ []) z =
    row_first (λ us. ValuesFiner (paired g (Row n w) us) (paired f (Row n w) (RowValue a ∷ RowValue b ∷ []))) a (RowValue b ∷ []) vs z
    (λ x us p more. row_first (λ us. ValuesFiner (paired g (Row n w) (RowValue x ∷ us)) (paired f (Row n w) (RowValue a ∷ RowValue b ∷ []))) b [] us more
    (λ y us q more. no_more (λ us. ValuesFiner (paired g (Row n w) (RowValue x ∷ RowValue y ∷ us)) (paired f (Row n w) (RowValue a ∷ RowValue b ∷ []))) us more
    (map_finer LanesRefine ValueRefines RowValue RowValue (λ u v r. r) (each_pair g x y) (each_pair f a b) (each_pair_finer g f h x y a b p q))))
paired_finer g f h t vs ws z = tt

pub single_finer : (f : Lane → Lane) → ((x a : Lane) → MayStandFor x a → MayStandFor (f x) (f a)) → (t : Ty) (vs ws : List Value) → AllZip ValueRefines vs ws →
    ValuesFiner (single f t vs) (single f t ws)
single_finer f h (Int w) vs (LaneValue a ∷ []) z =
    lane_first (λ us. ValuesFiner (single f (Int w) us) (single f (Int w) (LaneValue a ∷ []))) a [] vs z
    (λ x us p more. no_more (λ us. ValuesFiner (single f (Int w) (LaneValue x ∷ us)) (single f (Int w) (LaneValue a ∷ []))) us more (h x a p))
single_finer f h (Row n w) vs (RowValue a ∷ []) z =
    row_first (λ us. ValuesFiner (single f (Row n w) us) (single f (Row n w) (RowValue a ∷ []))) a [] vs z
    (λ x us p more. no_more (λ us. ValuesFiner (single f (Row n w) (RowValue x ∷ us)) (single f (Row n w) (RowValue a ∷ []))) us more (zip_map MayStandFor MayStandFor f f h x a p))
single_finer f h t vs ws z = tt

pub bin_value_finer : (op : BinOp) (g f : Flags) → Fewer g f → (t : Ty) (vs ws : List Value) → AllZip ValueRefines vs ws → ValuesFiner (bin_value op g t vs) (bin_value op f t ws)
bin_value_finer op g f fewer t vs ws z =
    narrow_finer ValueRefines (lane_width t) (paired (bin_lane op g (lane_width t)) t vs) (paired (bin_lane op f (lane_width t)) t ws)
    (paired_finer (bin_lane op g (lane_width t)) (bin_lane op f (lane_width t)) (bin_lane_finer op g f (lane_width t) fewer) t vs ws z)

pub cmp_value_finer : (c : Pred) (t u : Ty) (vs ws : List Value) → AllZip ValueRefines vs ws → ValuesFiner (cmp_value c t u vs) (cmp_value c t u ws)
cmp_value_finer c t u vs ws z =
    narrow_finer ValueRefines (lane_width u) (paired (cmp_lane c (lane_width u)) t vs) (paired (cmp_lane c (lane_width u)) t ws)
    (paired_finer (cmp_lane c (lane_width u)) (cmp_lane c (lane_width u)) (cmp_lane_finer c (lane_width u)) t vs ws z)

pub cast_value_finer : (op : CastOp) (nneg : Bool) (t u : Ty) (vs ws : List Value) → AllZip ValueRefines vs ws → ValuesFiner (cast_value op nneg t u vs) (cast_value op nneg t u ws)
cast_value_finer op nneg t u vs ws z =
    narrow_finer ValueRefines (lane_width u) (narrow (lane_width t) (single (cast_lane op nneg (lane_width u) (lane_width t)) t vs)) (narrow (lane_width t) (single (cast_lane op nneg (lane_width u) (lane_width t)) t ws))
    (narrow_finer ValueRefines (lane_width t) (single (cast_lane op nneg (lane_width u) (lane_width t)) t vs) (single (cast_lane op nneg (lane_width u) (lane_width t)) t ws)
    (single_finer (cast_lane op nneg (lane_width u) (lane_width t)) (cast_lane_finer op nneg (lane_width u) (lane_width t)) t vs ws z))

-- ---- choices

pub chosen_finer : {A : Type 0} (c d : Lane) (x a y b : Option A) → MayStandFor c d → MayStandFor x a → MayStandFor y b → MayStandFor (chosen_by c x y) (chosen_by d a b)
chosen_finer c None x a y b h p q = tt
chosen_finer {A} c (Some d) x a y b h p q = subst (λ k. MayStandFor (chosen_by k x y) (chosen_by (Some d) a b)) (sym h) (by_test (nat_eq d 0))
  where
    by_test : (t : Bool) → MayStandFor (cond t y x) (cond t b a)
    by_test true = q
    by_test false = p

choice_finer : (c d : Lane) → MayStandFor c d → PairFiner (choice c) (choice d)
choice_finer c d h x y a b p q = chosen_finer c d x a y b h p q

chosen_lanes_finer : (cs xs ys ds os bs : List Lane) → LanesRefine cs ds → LanesRefine xs os → LanesRefine ys bs → Finer LanesRefine (chosen_lanes cs xs ys) (chosen_lanes ds os bs)
chosen_lanes_finer [] [] [] [] [] [] h p q = tt
chosen_lanes_finer (c ∷ cs) (x ∷ xs) (y ∷ ys) (d ∷ ds) (a ∷ os) (b ∷ bs) h p q =
    with_lane_finer (choice c x y) (choice d a b) (chosen_lanes cs xs ys) (chosen_lanes ds os bs) (choice_finer c d h.0 x y a b p.0 q.0) (chosen_lanes_finer cs xs ys ds os bs h.1 p.1 q.1)
chosen_lanes_finer cs xs ys [] [] (b ∷ bs) h p q = tt
chosen_lanes_finer cs xs ys [] (a ∷ os) bs h p q = tt
chosen_lanes_finer cs xs ys (d ∷ ds) [] bs h p q = tt
chosen_lanes_finer cs xs ys (d ∷ ds) (a ∷ os) [] h p q = tt
chosen_lanes_finer (c ∷ cs) xs ys [] [] [] h p q = elim h [ ]
chosen_lanes_finer [] (x ∷ xs) ys [] [] [] h p q = elim p [ ]
chosen_lanes_finer [] [] (y ∷ ys) [] [] [] h p q = elim q [ ]
chosen_lanes_finer [] xs ys (d ∷ ds) (a ∷ os) (b ∷ bs) h p q = elim h [ ]
chosen_lanes_finer (c ∷ cs) [] ys (d ∷ ds) (a ∷ os) (b ∷ bs) h p q = elim p [ ]
chosen_lanes_finer (c ∷ cs) (x ∷ xs) [] (d ∷ ds) (a ∷ os) (b ∷ bs) h p q = elim q [ ]

pub select_finer : (t : Ty) (vs ws : List Value) → AllZip ValueRefines vs ws → ValuesFiner (select_value t vs) (select_value t ws)
select_finer (Int w) vs (LaneValue c ∷ LaneValue a ∷ LaneValue b ∷ []) z =
    let old = select_value (Int w) (LaneValue c ∷ LaneValue a ∷ LaneValue b ∷ []) in
    lane_first (λ us. ValuesFiner (select_value (Int w) us) old) c (LaneValue a ∷ LaneValue b ∷ []) vs z
    (λ d us h more. lane_first (λ us. ValuesFiner (select_value (Int w) (LaneValue d ∷ us)) old) a (LaneValue b ∷ []) us more
    (λ x us p more. lane_first (λ us. ValuesFiner (select_value (Int w) (LaneValue d ∷ LaneValue x ∷ us)) old) b [] us more
    (λ y us q more. no_more (λ us. ValuesFiner (select_value (Int w) (LaneValue d ∷ LaneValue x ∷ LaneValue y ∷ us)) old) us more
    (chosen_finer d c x a y b h p q))))
select_finer Ptr vs (LaneValue c ∷ PtrValue a ∷ PtrValue b ∷ []) z =
    let old = select_value Ptr (LaneValue c ∷ PtrValue a ∷ PtrValue b ∷ []) in
    lane_first (λ us. ValuesFiner (select_value Ptr us) old) c (PtrValue a ∷ PtrValue b ∷ []) vs z
    (λ d us h more. ptr_first (λ us. ValuesFiner (select_value Ptr (LaneValue d ∷ us)) old) a (PtrValue b ∷ []) us more
    (λ x us p more. ptr_first (λ us. ValuesFiner (select_value Ptr (LaneValue d ∷ PtrValue x ∷ us)) old) b [] us more
    (λ y us q more. no_more (λ us. ValuesFiner (select_value Ptr (LaneValue d ∷ PtrValue x ∷ PtrValue y ∷ us)) old) us more
    (chosen_finer d c x a y b h p q))))
select_finer (Row n w) vs (LaneValue c ∷ RowValue a ∷ RowValue b ∷ []) z =
    let old = select_value (Row n w) (LaneValue c ∷ RowValue a ∷ RowValue b ∷ []) in
    lane_first (λ us. ValuesFiner (select_value (Row n w) us) old) c (RowValue a ∷ RowValue b ∷ []) vs z
    (λ d us h more. row_first (λ us. ValuesFiner (select_value (Row n w) (LaneValue d ∷ us)) old) a (RowValue b ∷ []) us more
    (λ x us p more. row_first (λ us. ValuesFiner (select_value (Row n w) (LaneValue d ∷ RowValue x ∷ us)) old) b [] us more
    (λ y us q more. no_more (λ us. ValuesFiner (select_value (Row n w) (LaneValue d ∷ RowValue x ∷ RowValue y ∷ us)) old) us more
    (map_finer LanesRefine ValueRefines RowValue RowValue (λ u v r. r) (each_pair (choice d) x y) (each_pair (choice c) a b) (each_pair_finer (choice d) (choice c) (choice_finer d c h) x y a b p q)))))
select_finer (Row n w) vs (RowValue c ∷ RowValue a ∷ RowValue b ∷ []) z =
    let old = select_value (Row n w) (RowValue c ∷ RowValue a ∷ RowValue b ∷ []) in
    row_first (λ us. ValuesFiner (select_value (Row n w) us) old) c (RowValue a ∷ RowValue b ∷ []) vs z
    (λ d us h more. row_first (λ us. ValuesFiner (select_value (Row n w) (RowValue d ∷ us)) old) a (RowValue b ∷ []) us more
    (λ x us p more. row_first (λ us. ValuesFiner (select_value (Row n w) (RowValue d ∷ RowValue x ∷ us)) old) b [] us more
    (λ y us q more. no_more (λ us. ValuesFiner (select_value (Row n w) (RowValue d ∷ RowValue x ∷ RowValue y ∷ us)) old) us more
    (map_finer LanesRefine ValueRefines RowValue RowValue (λ u v r. r) (chosen_lanes d x y) (chosen_lanes c a b) (chosen_lanes_finer d x y c a b h p q)))))
select_finer t vs ws z = tt

-- ---- lanes of vectors

lane_or_poison_finer : (x a : Option Lane) → Both MayStandFor x a → MayStandFor (lane_or_poison x) (lane_or_poison a)
lane_or_poison_finer None None z = tt
lane_or_poison_finer (Some x) (Some a) z = z
lane_or_poison_finer None (Some a) z = elim z [ ]
lane_or_poison_finer (Some x) None z = elim z [ ]

pub lane_at_finer : (xs os : List Lane) (i j : Lane) → LanesRefine xs os → MayStandFor i j → MayStandFor (lane_at xs i) (lane_at os j)
lane_at_finer xs os i None z h = tt
lane_at_finer xs os i (Some k) z h =
    subst (λ l. MayStandFor (lane_at xs l) (lane_at os (Some k))) (sym h)
    (lane_or_poison_finer (slice_get xs k) (slice_get os k) (zip_get MayStandFor xs os k z))

-- any lanes may stand for as many poison ones
any_for_poison : (xs os : List Lane) → length xs ≡ length os → LanesRefine xs (all_poison os)
any_for_poison [] [] e = tt
any_for_poison (x ∷ xs) (a ∷ os) e = (tt, any_for_poison xs os cc)
any_for_poison [] (a ∷ os) e = absurd cc
any_for_poison (x ∷ xs) [] e = absurd cc

pub length_set : {A : Type 0} (xs : List A) (at : ℕ) (x : A) → length (slice_set xs at x) ≡ length xs
length_set [] at x = refl
length_set (y ∷ xs) zero x = refl
length_set (y ∷ xs) (suc at) x = ap suc (length_set xs at x)

pub length_map : {A B : Type 0} (f : A → B) (xs : List A) → length (map f xs) ≡ length xs
length_map f [] = refl
length_map f (x ∷ xs) = ap suc (length_map f xs)

pub length-with_lane_at : (xs : List Lane) (x i : Lane) → length (with_lane_at xs x i) ≡ length xs
length-with_lane_at xs x None = length_map (λ _. None) xs
length-with_lane_at xs x (Some k) = by_test (nat_lt k (length xs)) where
  by_test : (b : Bool) → length (cond b (slice_set xs k x) (all_poison xs)) ≡ length xs
  by_test true = length_set xs k x
  by_test false = length_map (λ _. None) xs

pub with_lane_at_finer : (xs os : List Lane) (x a i j : Lane) → LanesRefine xs os → MayStandFor x a → MayStandFor i j → LanesRefine (with_lane_at xs x i) (with_lane_at os a j)
with_lane_at_finer xs os x a i None z p h = any_for_poison (with_lane_at xs x i) os (length-with_lane_at xs x i ∙ zip_length MayStandFor xs os z)
with_lane_at_finer xs os x a i (Some k) z p h =
    subst (λ l. LanesRefine (with_lane_at xs x l) (with_lane_at os a (Some k))) (sym h)
    (subst (λ n. LanesRefine (cond (nat_lt k n) (slice_set xs k x) (all_poison xs)) (with_lane_at os a (Some k))) (sym (zip_length MayStandFor xs os z))
    (by_test (nat_lt k (length os))))
  where
    by_test : (b : Bool) → LanesRefine (cond b (slice_set xs k x) (all_poison xs)) (cond b (slice_set os k a) (all_poison os))
    by_test true = zip_set MayStandFor xs os k x a z p
    by_test false = any_for_poison (all_poison xs) os (length_map (λ _. None) xs ∙ zip_length MayStandFor xs os z)

of_length_finer : {A B : Type 0} (R : A → B → Type 0) (n : ℕ) (xs os : List Lane) (new : Option A) (old : Option B) → LanesRefine xs os → Finer R new old → Finer R (of_length n xs new) (of_length n os old)
of_length_finer R n xs os new old z h =
    subst (λ k. Finer R (cond (nat_eq k n) new None) (of_length n os old)) (sym (zip_length MayStandFor xs os z)) (cond_finer R (nat_eq (length os) n) new old h)

pub extract_finer : (t : Ty) (vs ws : List Value) → AllZip ValueRefines vs ws → ValuesFiner (extract_value t vs) (extract_value t ws)
extract_finer (Row n w) vs (RowValue a ∷ LaneValue j ∷ []) z =
    let old = extract_value (Row n w) (RowValue a ∷ LaneValue j ∷ []) in
    row_first (λ us. ValuesFiner (extract_value (Row n w) us) old) a (LaneValue j ∷ []) vs z
    (λ x us p more. lane_first (λ us. ValuesFiner (extract_value (Row n w) (RowValue x ∷ us)) old) j [] us more
    (λ i us q more. no_more (λ us. ValuesFiner (extract_value (Row n w) (RowValue x ∷ LaneValue i ∷ us)) old) us more
    (of_length_finer ValueRefines n x a (Some (LaneValue (lane_at x i))) (Some (LaneValue (lane_at a j))) p (lane_at_finer x a i j p q))))
extract_finer t vs ws z = tt

pub insert_finer : (t : Ty) (vs ws : List Value) → AllZip ValueRefines vs ws → ValuesFiner (insert_value t vs) (insert_value t ws)
insert_finer (Row n w) vs (RowValue a ∷ LaneValue b ∷ LaneValue j ∷ []) z =
    let old = insert_value (Row n w) (RowValue a ∷ LaneValue b ∷ LaneValue j ∷ []) in
    row_first (λ us. ValuesFiner (insert_value (Row n w) us) old) a (LaneValue b ∷ LaneValue j ∷ []) vs z
    (λ x us p more. lane_first (λ us. ValuesFiner (insert_value (Row n w) (RowValue x ∷ us)) old) b (LaneValue j ∷ []) us more
    (λ y us q more. lane_first (λ us. ValuesFiner (insert_value (Row n w) (RowValue x ∷ LaneValue y ∷ us)) old) j [] us more
    (λ i us r more. no_more (λ us. ValuesFiner (insert_value (Row n w) (RowValue x ∷ LaneValue y ∷ LaneValue i ∷ us)) old) us more
    (of_length_finer ValueRefines n x a (Some (RowValue (with_lane_at x y i))) (Some (RowValue (with_lane_at a b j))) p (with_lane_at_finer x a y b i j p q r)))))
insert_finer t vs ws z = tt

pub shuffle_finer : (mask : List Lane) (t : Ty) (vs ws : List Value) → AllZip ValueRefines vs ws → ValuesFiner (shuffle_value mask t vs) (shuffle_value mask t ws)
shuffle_finer mask (Row n w) vs (RowValue a ∷ RowValue b ∷ []) z =
    let old = shuffle_value mask (Row n w) (RowValue a ∷ RowValue b ∷ []) in
    row_first (λ us. ValuesFiner (shuffle_value mask (Row n w) us) old) a (RowValue b ∷ []) vs z
    (λ x us p more. row_first (λ us. ValuesFiner (shuffle_value mask (Row n w) (RowValue x ∷ us)) old) b [] us more
    (λ y us q more. no_more (λ us. ValuesFiner (shuffle_value mask (Row n w) (RowValue x ∷ RowValue y ∷ us)) old) us more
    (of_length_finer ValueRefines n x a (of_length n y (Some (RowValue (map (lane_at (x ++ y)) mask)))) (of_length n b (Some (RowValue (map (lane_at (a ++ b)) mask)))) p
    (of_length_finer ValueRefines n y b (Some (RowValue (map (lane_at (x ++ y)) mask))) (Some (RowValue (map (lane_at (a ++ b)) mask))) q
    (zip_map MayStandFor MayStandFor (lane_at (x ++ y)) (lane_at (a ++ b))
    (λ i j h. lane_at_finer (x ++ y) (a ++ b) i j (zip_append MayStandFor x a y b p q) h) mask mask (zip_same MayStandFor stands_for_itself mask))))))
shuffle_finer mask t vs ws z = tt

-- ---- addresses

pub stepped_finer : (w scale : ℕ) (p q : Pointer) (i j : Lane) → MayStandFor p q → MayStandFor i j → MayStandFor (stepped w scale p i) (stepped w scale q j)
stepped_finer w scale p None i j z h = tt
stepped_finer w scale p (Some q) i None z h = tt
stepped_finer w scale p (Some q) i (Some j) z h = ap (λ r. stepped w scale r i) z ∙ ap (stepped w scale (Some q)) h

abbrev pub PointerFiner : Option Pointer → Option Pointer → Type 0
PointerFiner = Finer MayStandFor

pub walked_finer : (elem : Elem) (types : List Ty) (vs ws : List Value) → AllZip ValueRefines vs ws → PointerFiner (walked elem types vs) (walked elem types ws)
walked_finer elem (t ∷ Int w ∷ []) vs (p ∷ LaneValue i ∷ []) z =
    any_first (λ us. PointerFiner (walked elem (t ∷ Int w ∷ []) us) (walked elem (t ∷ Int w ∷ []) (p ∷ LaneValue i ∷ []))) p (LaneValue i ∷ []) vs z
    (λ q us h more. lane_first (λ us. PointerFiner (walked elem (t ∷ Int w ∷ []) (q ∷ us)) (walked elem (t ∷ Int w ∷ []) (p ∷ LaneValue i ∷ []))) i [] us more
    (λ j us k more. no_more (λ us. PointerFiner (walked elem (t ∷ Int w ∷ []) (q ∷ LaneValue j ∷ us)) (walked elem (t ∷ Int w ∷ []) (p ∷ LaneValue i ∷ []))) us more
    (narrow_finer MayStandFor w (Some (stepped w (elem_size elem) (pointer_of q) j)) (Some (stepped w (elem_size elem) (pointer_of p) i))
    (stepped_finer w (elem_size elem) (pointer_of q) (pointer_of p) j i (pointer_finer q p h) k))))
walked_finer (Array n e) (t ∷ Int w ∷ Int v ∷ []) vs (p ∷ LaneValue i ∷ LaneValue k ∷ []) z =
    let types = t ∷ Int w ∷ Int v ∷ [] in
    let old = walked (Array n e) (t ∷ Int w ∷ Int v ∷ []) (p ∷ LaneValue i ∷ LaneValue k ∷ []) in
    any_first (λ us. PointerFiner (walked (Array n e) types us) old) p (LaneValue i ∷ LaneValue k ∷ []) vs z
    (λ q us h more. lane_first (λ us. PointerFiner (walked (Array n e) types (q ∷ us)) old) i (LaneValue k ∷ []) us more
    (λ j us r more. lane_first (λ us. PointerFiner (walked (Array n e) types (q ∷ LaneValue j ∷ us)) old) k [] us more
    (λ l us s more. no_more (λ us. PointerFiner (walked (Array n e) types (q ∷ LaneValue j ∷ LaneValue l ∷ us)) old) us more
    (narrow_finer MayStandFor w (narrow v (Some (stepped v (bytes_in e) (stepped w (n * bytes_in e) (pointer_of q) j) l))) (narrow v (Some (stepped v (bytes_in e) (stepped w (n * bytes_in e) (pointer_of p) i) k)))
    (narrow_finer MayStandFor v (Some (stepped v (bytes_in e) (stepped w (n * bytes_in e) (pointer_of q) j) l)) (Some (stepped v (bytes_in e) (stepped w (n * bytes_in e) (pointer_of p) i) k))
    (stepped_finer v (bytes_in e) (stepped w (n * bytes_in e) (pointer_of q) j) (stepped w (n * bytes_in e) (pointer_of p) i) l k
    (stepped_finer w (n * bytes_in e) (pointer_of q) (pointer_of p) j i (pointer_finer q p h) r) s))))))
walked_finer elem types vs ws z = tt

pub address_finer : (elem : Elem) (t : Ty) (types : List Ty) (vs ws : List Value) → AllZip ValueRefines vs ws → ValuesFiner (address_value elem t types vs) (address_value elem t types ws)
address_finer elem Ptr types vs ws z = map_finer MayStandFor ValueRefines PtrValue PtrValue (λ p q h. h) (walked elem types vs) (walked elem types ws) (walked_finer elem types vs ws z)
address_finer elem t types vs ws z = tt

-- memories of which one may stand for the other have the same objects with the same lengths
within_same : (z : ℤ) (x y : Option Object) → Both LanesRefine x y → is_within z x ≡ is_within z y
within_same (pos at) (Some x) (Some y) h = ap (λ n. nat_le at n) (zip_length MayStandFor x y h)
within_same (negsuc at) (Some x) (Some y) h = refl
within_same (pos at) None None h = refl
within_same (negsuc at) None None h = refl
within_same z None (Some y) h = elim h [ ]
within_same z (Some x) None h = elim h [ ]

pub inside_same : (m n : Memory) (p : Pointer) → MemoryRefines m n → is_inside m p ≡ is_inside n p
inside_same m n None z = refl
inside_same m n (Some p) z = within_same p.1 (slice_get m p.0) (slice_get n p.0) (zip_get LanesRefine m n p.0 z)

kept_finer : (m n : Memory) (b c p q : Pointer) → MemoryRefines m n → MayStandFor b c → MayStandFor p q → MayStandFor (kept_inside m b p) (kept_inside n c q)
kept_finer m n b None p q z h k = tt
kept_finer m n b (Some c) p None z h k = by_test (is_inside n (Some c) && false) where
  by_test : (t : Bool) → MayStandFor (kept_inside m b p) (cond t None None)
  by_test true = tt
  by_test false = tt
kept_finer m n b (Some c) p (Some q) z h k =
    subst (λ r. MayStandFor (kept_inside m r p) (kept_inside n (Some c) (Some q))) (sym h)
    (subst (λ r. MayStandFor (kept_inside m (Some c) r) (kept_inside n (Some c) (Some q))) (sym k)
    (subst (λ t. MayStandFor (cond t (Some q) None) (kept_inside n (Some c) (Some q)))
    (sym (ap (λ t. t && is_inside m (Some q)) (inside_same m n (Some c) z) ∙ ap (λ t. is_inside n (Some c) && t) (inside_same m n (Some q) z)))
    (stands_for_itself (kept_inside n (Some c) (Some q)))))

pub inbounds_finer : (elem : Elem) (t : Ty) (types : List Ty) (vs ws : List Value) (m n : Memory) → AllZip ValueRefines vs ws → MemoryRefines m n →
    ValuesFiner (inbounds_value elem t types vs m) (inbounds_value elem t types ws n)
inbounds_finer elem Ptr types (v ∷ vs) (w ∷ ws) m n z h =
    map_finer MayStandFor ValueRefines (λ q. PtrValue (kept_inside m (pointer_of v) q)) (λ q. PtrValue (kept_inside n (pointer_of w) q))
    (λ p q k. kept_finer m n (pointer_of v) (pointer_of w) p q h (pointer_finer v w z.0) k)
    (walked elem types (v ∷ vs)) (walked elem types (w ∷ ws)) (walked_finer elem types (v ∷ vs) (w ∷ ws) z)
inbounds_finer elem Ptr types [] (w ∷ ws) m n z h = elim z [ ]
inbounds_finer elem t types vs ws m n z h = tt

-- Effects are monotone: finer operands and a finer memory give a finer result and memory, or the old one is undefined.
use Rattle.std.proofs.Common.{◌≡◌, refl, sym, ap, ◌∙◌, subst, ℕ, zero, suc, ℤ, pos, ◌*◌, true, false, Option, None, Some, List, [], ◌∷◌, length, drop, slice_get, option_map}
use Rattle.std.specs.List.{AllZip}
use Rattle.vx_num.proofs.Finer.{Fewer-refl}
use Rattle.ir_types.specs.declared.ty.Ty.{Ty}
use Rattle.ir_types.specs.declared.ty.Ty.TheVariants.{Void, Int, Ptr, Row}
use Rattle.ir_types.specs.declared.ty.Elem.{Elem}
use Rattle.ir_types.specs.declared.op.Op.{Op}
use Rattle.ir_types.specs.declared.op.Op.TheVariants.{Bin, Icmp, Cast, Select, Extract, Insert, Shuffle, Gep, Load, Store, Alloca}
use Rattle.ir_model.specs.declared.value.Value.{Value}
use Rattle.ir_model.specs.declared.value.Value.TheVariants.{Lane as LaneValue, Row as RowValue, Ptr as PtrValue}
use Rattle.ir_model.specs.Values.{Lane, Pointer, MayStandFor, ValueRefines, pointer_of}
use Rattle.ir_model.specs.Memory.{Object, Memory, MemoryRefines, lane_bytes, row_bytes, with_low, lane_from, place_of, put, with_bytes, stored_in, stored, loaded_from, loaded}
use Rattle.ir_model.specs.Sizes.{bytes_in, elem_size}
use Rattle.ir_model.specs.Addresses.{inbounds_value}
use Rattle.ir_model.specs.Accesses.{Effect, value_effect, memory_effect, bytes_of, store_effect, lanes_from, load_effect, load_row_effect, typed_load, fresh_object, alloca_effect}
use Rattle.ir_model.specs.Step.{result_of, effect_of}
use Rattle.ir_model.specs.Refines.{ResultRefines}
use Rattle.ir_model.proofs.Lists.{length-lane_bytes}
use Rattle.ir_model.proofs.Same.{stands_for_itself, zip_same, memory_same}
use Rattle.ir_model.proofs.Finer.{Finer, LanesRefine, ValuesFiner, map_finer, narrow_finer, zip_length, zip_append, zip_set, zip_get, Both, any_first, no_more, pointer_finer, bin_value_finer, cmp_value_finer, cast_value_finer, select_finer, extract_finer, insert_finer, shuffle_finer, address_finer, inbounds_finer}

pub record EffectRefines (new old : Effect) : Type 0 where
  pub result : ResultRefines new.result old.result
  pub memory : MemoryRefines new.memory old.memory

abbrev pub EffectsFiner : Option Effect → Option Effect → Type 0
EffectsFiner = Finer EffectRefines

value_effect_finer : (v w : Option Value) (m n : Memory) → ValuesFiner v w → MemoryRefines m n → EffectsFiner (value_effect v m) (value_effect w n)
value_effect_finer v w m n z h =
    map_finer ValueRefines EffectRefines (λ result. record { result = Some result; memory = m }) (λ result. record { result = Some result; memory = n })
    (λ x y k. record { result = k; memory = h }) v w z

memory_effect_finer : (m n : Option Memory) → Finer MemoryRefines m n → EffectsFiner (memory_effect m) (memory_effect n)
memory_effect_finer m n z =
    map_finer MemoryRefines EffectRefines (λ after. record { result = None; memory = after }) (λ after. record { result = None; memory = after })
    (λ x y k. record { result = tt; memory = k }) m n z

-- ---- loads

zip_drop : {A B : Type 0} (R : A → B → Type 0) (k : ℕ) (xs : List A) (ys : List B) → AllZip R xs ys → AllZip R (drop k xs) (drop k ys)
zip_drop R zero xs ys z = z
zip_drop R (suc k) [] [] z = tt
zip_drop R (suc k) (x ∷ xs) (y ∷ ys) z = zip_drop R k xs ys z.1
zip_drop R (suc k) [] (y ∷ ys) z = elim z [ ]
zip_drop R (suc k) (x ∷ xs) [] z = elim z [ ]

loaded_from_finer : (offset : ℤ) (size align : ℕ) (x y : Option Object) → Both LanesRefine x y → Finer LanesRefine (loaded_from offset size align x) (loaded_from offset size align y)
loaded_from_finer offset size align x None z = tt
loaded_from_finer offset size align None (Some y) z = elim z [ ]
loaded_from_finer offset size align (Some x) (Some y) z =
    subst (λ n. Finer LanesRefine (option_map (λ at. drop at x) (place_of offset size align n)) (loaded_from offset size align (Some y)))
    (sym (zip_length MayStandFor x y z)) (by_place (place_of offset size align (length y)))
  where
    by_place : (p : Option ℕ) → Finer LanesRefine (option_map (λ at. drop at x) p) (option_map (λ at. drop at y) p)
    by_place None = tt
    by_place (Some at) = zip_drop MayStandFor at x y z

pub loaded_finer : (size align : ℕ) (p q : Pointer) (m n : Memory) → MayStandFor p q → MemoryRefines m n → Finer LanesRefine (loaded size align p m) (loaded size align q n)
loaded_finer size align p None m n z h = tt
loaded_finer size align p (Some q) m n z h =
    subst (λ r. Finer LanesRefine (loaded size align r m) (loaded size align (Some q) n)) (sym z)
    (loaded_from_finer q.1 size align (slice_get m q.0) (slice_get n q.0) (zip_get LanesRefine m n q.0 h))

with_low_finer : (x a y b : Lane) → MayStandFor x a → MayStandFor y b → MayStandFor (with_low x y) (with_low a b)
with_low_finer x None y b p q = tt
with_low_finer x (Some a) y None p q = tt
with_low_finer x (Some a) y (Some b) p q = ap (λ v. with_low v y) p ∙ ap (with_low (Some a)) q

lane_from_finer : (k : ℕ) (xs ys : List Lane) → LanesRefine xs ys → MayStandFor (lane_from k xs) (lane_from k ys)
lane_from_finer zero xs ys z = refl
lane_from_finer (suc k) xs [] z = tt
lane_from_finer (suc k) (x ∷ xs) (y ∷ ys) z = with_low_finer x y (lane_from k xs) (lane_from k ys) z.0 (lane_from_finer k xs ys z.1)
lane_from_finer (suc k) [] (y ∷ ys) z = elim z [ ]

lanes_from_finer : (n k : ℕ) (xs ys : List Lane) → LanesRefine xs ys → LanesRefine (lanes_from n k xs) (lanes_from n k ys)
lanes_from_finer zero k xs ys z = tt
lanes_from_finer (suc n) k xs ys z = (lane_from_finer k xs ys z, lanes_from_finer n k (drop k xs) (drop k ys) (zip_drop MayStandFor k xs ys z))

typed_load_finer : (align : ℕ) (t : Ty) (p q : Pointer) (m n : Memory) → MayStandFor p q → MemoryRefines m n → EffectsFiner (typed_load align t p m) (typed_load align t q n)
typed_load_finer align (Int w) p q m n z h =
    narrow_finer EffectRefines w (load_effect (bytes_in w) align p m) (load_effect (bytes_in w) align q n)
    (value_effect_finer (option_map (λ bytes. LaneValue (lane_from (bytes_in w) bytes)) (loaded (bytes_in w) align p m))
    (option_map (λ bytes. LaneValue (lane_from (bytes_in w) bytes)) (loaded (bytes_in w) align q n)) m n
    (map_finer LanesRefine ValueRefines (λ bytes. LaneValue (lane_from (bytes_in w) bytes)) (λ bytes. LaneValue (lane_from (bytes_in w) bytes))
    (λ xs ys k. lane_from_finer (bytes_in w) xs ys k) (loaded (bytes_in w) align p m) (loaded (bytes_in w) align q n) (loaded_finer (bytes_in w) align p q m n z h)) h)
typed_load_finer align (Row k w) p q m n z h =
    narrow_finer EffectRefines w (load_row_effect k (bytes_in w) align p m) (load_row_effect k (bytes_in w) align q n)
    (value_effect_finer (option_map (λ bytes. RowValue (lanes_from k (bytes_in w) bytes)) (loaded (k * bytes_in w) align p m))
    (option_map (λ bytes. RowValue (lanes_from k (bytes_in w) bytes)) (loaded (k * bytes_in w) align q n)) m n
    (map_finer LanesRefine ValueRefines (λ bytes. RowValue (lanes_from k (bytes_in w) bytes)) (λ bytes. RowValue (lanes_from k (bytes_in w) bytes))
    (λ xs ys r. lanes_from_finer k (bytes_in w) xs ys r) (loaded (k * bytes_in w) align p m) (loaded (k * bytes_in w) align q n) (loaded_finer (k * bytes_in w) align p q m n z h)) h)
typed_load_finer align t p q m n z h = tt

-- ---- stores

-- any bytes may stand for as many poison ones
any_for_poison_bytes : (xs : List Lane) (k : ℕ) → length xs ≡ k → LanesRefine xs (lane_bytes k None)
any_for_poison_bytes [] zero e = tt
any_for_poison_bytes (x ∷ xs) (suc k) e = (tt, any_for_poison_bytes xs k cc)
any_for_poison_bytes [] (suc k) e = absurd cc
any_for_poison_bytes (x ∷ xs) zero e = absurd cc

lane_bytes_finer : (k : ℕ) (x a : Lane) → MayStandFor x a → LanesRefine (lane_bytes k x) (lane_bytes k a)
lane_bytes_finer k x None z = any_for_poison_bytes (lane_bytes k x) k (length-lane_bytes k x)
lane_bytes_finer k x (Some a) z = subst (λ v. LanesRefine (lane_bytes k v) (lane_bytes k (Some a))) (sym z) (zip_same MayStandFor stands_for_itself (lane_bytes k (Some a)))

row_bytes_finer : (k : ℕ) (xs ys : List Lane) → LanesRefine xs ys → LanesRefine (row_bytes k xs) (row_bytes k ys)
row_bytes_finer k [] [] z = tt
row_bytes_finer k (x ∷ xs) (y ∷ ys) z = zip_append MayStandFor (lane_bytes k x) (lane_bytes k y) (row_bytes k xs) (row_bytes k ys) (lane_bytes_finer k x y z.0) (row_bytes_finer k xs ys z.1)
row_bytes_finer k [] (y ∷ ys) z = elim z [ ]
row_bytes_finer k (x ∷ xs) [] z = elim z [ ]

bytes_of_finer : (t : Ty) (v w : Value) → ValueRefines v w → Finer LanesRefine (bytes_of t v) (bytes_of t w)
bytes_of_finer (Int w) (LaneValue x) (LaneValue a) z = lane_bytes_finer (bytes_in w) x a z
bytes_of_finer (Row n w) (RowValue x) (RowValue a) z = row_bytes_finer (bytes_in w) x a z
bytes_of_finer (Int w) (RowValue x) (LaneValue a) z = elim z [ ]
bytes_of_finer (Int w) (PtrValue x) (LaneValue a) z = elim z [ ]
bytes_of_finer (Row n w) (LaneValue x) (RowValue a) z = elim z [ ]
bytes_of_finer (Row n w) (PtrValue x) (RowValue a) z = elim z [ ]
bytes_of_finer t v w z = tt

zip_put : {A B : Type 0} (R : A → B → Type 0) (xs : List A) (ys : List B) (at : ℕ) (us : List A) (vs : List B) → AllZip R xs ys → AllZip R us vs → AllZip R (put xs at us) (put ys at vs)
zip_put R [] [] at us vs p q = q
zip_put R (x ∷ xs) (y ∷ ys) at [] [] p q = tt
zip_put R (x ∷ xs) (y ∷ ys) zero (u ∷ us) (v ∷ vs) p q = (p.0, zip_put R xs ys zero us vs p.1 q.1)
zip_put R (x ∷ xs) (y ∷ ys) (suc at) (u ∷ us) (v ∷ vs) p q = (q.0, zip_put R (x ∷ xs) (y ∷ ys) at us vs p q.1)
zip_put R [] (y ∷ ys) at us vs p q = elim p [ ]
zip_put R (x ∷ xs) [] at us vs p q = elim p [ ]
zip_put R (x ∷ xs) (y ∷ ys) at [] (v ∷ vs) p q = elim q [ ]
zip_put R (x ∷ xs) (y ∷ ys) at (u ∷ us) [] p q = elim q [ ]

stored_in_finer : (m n : Memory) (o : ℕ) (offset : ℤ) (align : ℕ) (xs ys : List Lane) (x y : Option Object) → MemoryRefines m n → LanesRefine xs ys → Both LanesRefine x y →
    Finer MemoryRefines (stored_in m o offset align xs x) (stored_in n o offset align ys y)
stored_in_finer m n o offset align xs ys x None h k z = tt
stored_in_finer m n o offset align xs ys None (Some y) h k z = elim z [ ]
stored_in_finer m n o offset align xs ys (Some x) (Some y) h k z =
    subst (λ l. Finer MemoryRefines (option_map (with_bytes m o x xs) (place_of offset (length xs) align l)) (stored_in n o offset align ys (Some y)))
    (sym (zip_length MayStandFor x y z))
    (subst (λ l. Finer MemoryRefines (option_map (with_bytes m o x xs) (place_of offset l align (length y))) (stored_in n o offset align ys (Some y)))
    (sym (zip_length MayStandFor xs ys k)) (by_place (place_of offset (length ys) align (length y))))
  where
    by_place : (p : Option ℕ) → Finer MemoryRefines (option_map (with_bytes m o x xs) p) (option_map (with_bytes n o y ys) p)
    by_place None = tt
    by_place (Some at) = zip_set LanesRefine m n o (put xs at x) (put ys at y) h (zip_put MayStandFor xs ys at x y k z)

pub stored_finer : (align : ℕ) (xs ys : List Lane) (p q : Pointer) (m n : Memory) → LanesRefine xs ys → MayStandFor p q → MemoryRefines m n →
    Finer MemoryRefines (stored align xs p m) (stored align ys q n)
stored_finer align xs ys p None m n k z h = tt
stored_finer align xs ys p (Some q) m n k z h =
    subst (λ r. Finer MemoryRefines (stored align xs r m) (stored align ys (Some q) n)) (sym z)
    (stored_in_finer m n q.0 q.1 align xs ys (slice_get m q.0) (slice_get n q.0) h k (zip_get LanesRefine m n q.0 h))

store_effect_finer : (align : ℕ) (xs ys : Option (List Lane)) (p q : Pointer) (m n : Memory) → Finer LanesRefine xs ys → MayStandFor p q → MemoryRefines m n →
    EffectsFiner (store_effect align xs p m) (store_effect align ys q n)
store_effect_finer align xs None p q m n k z h = tt
store_effect_finer align (Some xs) (Some ys) p q m n k z h = memory_effect_finer (stored align xs p m) (stored align ys q n) (stored_finer align xs ys p q m n k z h)
store_effect_finer align None (Some ys) p q m n k z h = elim k [ ]

-- ---- allocas

alloca_finer : (elem : Elem) (m n : Memory) → MemoryRefines m n → EffectRefines (alloca_effect elem m) (alloca_effect elem n)
alloca_finer elem m n h = record {
  result = ap (λ k. Some (k, pos 0)) (zip_length LanesRefine m n h);
  memory = zip_append LanesRefine m n (fresh_object (elem_size elem) ∷ []) (fresh_object (elem_size elem) ∷ []) h (memory_same (fresh_object (elem_size elem) ∷ []));
}

-- ---- all forms

pub result_finer : (op : Op) (t : Ty) (types : List Ty) (vs ws : List Value) → AllZip ValueRefines vs ws → ValuesFiner (result_of op t types vs) (result_of op t types ws)
result_finer (Bin op flags) t types vs ws z = bin_value_finer op flags flags (Fewer-refl flags) t vs ws z
result_finer (Icmp pred) t (u ∷ x ∷ []) vs ws z = cmp_value_finer pred t u vs ws z
result_finer (Cast op nneg) t (u ∷ []) vs ws z = cast_value_finer op nneg t u vs ws z
result_finer Select t types vs ws z = select_finer t vs ws z
result_finer Extract (Int w) (u ∷ x ∷ []) vs ws z = extract_finer u vs ws z
result_finer Insert t types vs ws z = insert_finer t vs ws z
result_finer (Shuffle mask) (Row m w) (u ∷ x ∷ []) vs ws z = shuffle_finer mask u vs ws z
result_finer (Gep elem false) t types vs ws z = address_finer elem t types vs ws z
result_finer op t types vs ws z = tt

pub effect_finer : (op : Op) (t : Ty) (types : List Ty) (vs ws : List Value) (m n : Memory) → AllZip ValueRefines vs ws → MemoryRefines m n →
    EffectsFiner (effect_of op t types vs m) (effect_of op t types ws n)
effect_finer (Gep elem true) t types vs ws m n z h = value_effect_finer (inbounds_value elem t types vs m) (inbounds_value elem t types ws n) m n (inbounds_finer elem t types vs ws m n z h) h
effect_finer (Load align) t types vs (q ∷ []) m n z h =
    any_first (λ us. EffectsFiner (effect_of (Load align) t types us m) (effect_of (Load align) t types (q ∷ []) n)) q [] vs z
    (λ p us k more. no_more (λ us. EffectsFiner (effect_of (Load align) t types (p ∷ us) m) (effect_of (Load align) t types (q ∷ []) n)) us more
    (typed_load_finer align t (pointer_of p) (pointer_of q) m n (pointer_finer p q k) h))
effect_finer (Load align) t types vs [] m n z h = tt
effect_finer (Load align) t types vs (x ∷ y ∷ ws) m n z h = tt
effect_finer (Store align) t types vs (w ∷ q ∷ []) m n z h =
    any_first (λ us. EffectsFiner (effect_of (Store align) t types us m) (effect_of (Store align) t types (w ∷ q ∷ []) n)) w (q ∷ []) vs z
    (λ v us k more. any_first (λ us. EffectsFiner (effect_of (Store align) t types (v ∷ us) m) (effect_of (Store align) t types (w ∷ q ∷ []) n)) q [] us more
    (λ p us l more. no_more (λ us. EffectsFiner (effect_of (Store align) t types (v ∷ p ∷ us) m) (effect_of (Store align) t types (w ∷ q ∷ []) n)) us more
    (store_effect_finer align (bytes_of t v) (bytes_of t w) (pointer_of p) (pointer_of q) m n (bytes_of_finer t v w k) (pointer_finer p q l) h)))
effect_finer (Store align) t types vs [] m n z h = tt
effect_finer (Store align) t types vs (x ∷ []) m n z h = tt
effect_finer (Store align) t types vs (x ∷ y ∷ u ∷ ws) m n z h = tt
effect_finer (Alloca elem align) Ptr types vs [] m n z h =
    no_more (λ us. EffectsFiner (effect_of (Alloca elem align) Ptr types us m) (effect_of (Alloca elem align) Ptr types [] n)) vs z (alloca_finer elem m n h)
effect_finer (Alloca elem align) Ptr types vs (w ∷ ws) m n z h = tt
effect_finer (Alloca elem align) Void types vs ws m n z h = tt
effect_finer (Alloca elem align) (Int w) types vs ws m n z h = tt
effect_finer (Alloca elem align) (Row k w) types vs ws m n z h = tt
effect_finer op t types vs ws m n z h = value_effect_finer (result_of op t types vs) (result_of op t types ws) m n (result_finer op t types vs ws z) h

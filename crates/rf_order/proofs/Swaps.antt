-- Two neighbouring operations in the other order, and two neighbouring instructions.
use Rattle.std.proofs.Common.{◌≡◌, refl, sym, ap, ◌∙◌, subst, ℕ, ℤ, pos, ◌+◌, ◌*◌, ◌<◌, ◌≤◌, ◌⊎◌, inl, inr, Bool, true, false, ◌&&◌, ◌||◌, cond, Option, None, Some, List, [], ◌∷◌, ◌++◌, length, drop, map, slice_get, slice_set, arith, length-append}
use Rattle.std.proofs.Math.Path.{fun_ext}
use Rattle.ir_types.specs.declared.id.Id.{Id}
use Rattle.ir_types.specs.declared.ty.Ty.{Ty}
use Rattle.ir_types.specs.declared.ty.Ty.TheVariants.{Void, Int, Ptr, Row}
use Rattle.ir_types.specs.declared.ty.Elem.{Elem}
use Rattle.ir_types.specs.declared.opd.Opd.{Opd}
use Rattle.ir_types.specs.declared.opd.Opd.TheVariants.{Val, Lit, Sym}
use Rattle.ir_types.specs.declared.op.Op.{Op}
use Rattle.ir_types.specs.declared.op.Op.TheVariants.{Store, Alloca}
use Rattle.ir_types.specs.declared.inst.Inst.{Inst}
use Rattle.ir_types.specs.Formed.{is_alloca}
use Rattle.ir_model.specs.declared.value.Value.{Value}
use Rattle.ir_model.specs.declared.value.Value.TheVariants.{Lane as LaneValue, Row as RowValue, Ptr as PtrValue}
use Rattle.ir_model.specs.Values.{Lane, Pointer, Env, pointer_of, value_of, type_of, same_id}
use Rattle.ir_model.specs.Memory.{Object, Memory, put, lane_bytes, row_bytes, stored}
use Rattle.ir_model.specs.Sizes.{bytes_in, elem_size}
use Rattle.ir_model.specs.Accesses.{Effect, memory_effect, bytes_of, store_effect, fresh_object, alloca_effect}
use Rattle.ir_model.specs.Step.{Went, Lost, Halts, On, then_go, Back, Reached, Calls, effect_of, callee_of, back_with, called_or, set_result, reached_with, step}
use Rattle.ir_model.proofs.Lists.{length-lane_bytes}
use Rattle.ir_model.proofs.Stores.{IsStored, stored-is, is-stored}
use Rattle.ir_model.proofs.Finer.{length_set}
use Rattle.rf_order.specs.Rows.{steps, Instead}
use Rattle.rf_order.specs.Swaps.{KeepsObjects, CallsKeepObjects, Touch, stored_size, touch_of, AreApart, KeepApart, AreNamed, Acts, MayPass, Stays}
use Rattle.rf_order.specs.Steps.{uses, acts_in, AreFree, BothPlain, OverCall, CallOver, StepsSwap}
use Rattle.rf_order.proofs.Lists.{get_front, set_front, get_within}
use Rattle.rf_order.proofs.Effects.{changes, reads, quiet_is, read_is, reading, reading_first, reading_second, TouchSame, reads_kept, keeps_itself, stored_keeps, alloca_keeps, alloca_same, stored_same, stores_swap}
use Rattle.vx_serial.proofs.Decided.{or_left, or_right, true_false}

-- ---- stores

length-row_bytes : (k : ℕ) (lanes : List Lane) → length (row_bytes k lanes) ≡ length lanes * k
length-row_bytes k [] = omega arith
length-row_bytes k (lane ∷ lanes) =
    let long : length (lane_bytes k lane ++ row_bytes k lanes) ≡ length (lane_bytes k lane) + length (row_bytes k lanes) = length-append (lane_bytes k lane) (row_bytes k lanes) in
    let first = length-lane_bytes k lane in
    let more = length-row_bytes k lanes in
    let u : length (lane ∷ lanes) * k ≡ k + length lanes * k = omega arith in omega arith

pub length-bytes : (t : Ty) (v : Value) (bytes : List Lane) → bytes_of t v ≡ Some bytes → length bytes ≡ stored_size t v
length-bytes (Int w) (LaneValue lane) bytes e = let is : lane_bytes (bytes_in w) lane ≡ bytes = cc in ap length (sym is) ∙ length-lane_bytes (bytes_in w) lane
length-bytes (Row n w) (RowValue lanes) bytes e = let is : row_bytes (bytes_in w) lanes ≡ bytes = cc in ap length (sym is) ∙ length-row_bytes (bytes_in w) lanes
length-bytes Void v bytes e = absurd cc
length-bytes Ptr v bytes e = absurd cc
length-bytes (Int w) (RowValue a) bytes e = absurd cc
length-bytes (Int w) (PtrValue a) bytes e = absurd cc
length-bytes (Row n w) (LaneValue a) bytes e = absurd cc
length-bytes (Row n w) (PtrValue a) bytes e = absurd cc

-- a store that is defined
pub record IsStore (align : ℕ) (t : Ty) (vs : List Value) (m : Memory) (e : Effect) : Type 0 where
  pub value : Value
  pub through : Value
  pub bytes : List Lane
  pub object : ℕ
  pub offset : ℤ
  pub operands : vs ≡ value ∷ through ∷ []
  pub pointer : pointer_of through ≡ Some (object, offset)
  pub written : bytes_of t value ≡ Some bytes
  pub stored : IsStored align bytes object offset m e.memory
  pub result : e.result ≡ None

pub store_is : (align : ℕ) (t : Ty) (types : List Ty) (vs : List Value) (m : Memory) (e : Effect) → effect_of (Store align) t types vs m ≡ Some e → IsStore align t vs m e
store_is align t types (v ∷ p ∷ []) m e h = by_bytes (bytes_of t v) refl h where
  by_memory : (bytes : List Lane) (o : ℕ) (z : ℤ) → bytes_of t v ≡ Some bytes → pointer_of p ≡ Some (o, z) → (n : Option Memory) → stored align bytes (Some (o, z)) m ≡ n → memory_effect n ≡ Some e → IsStore align t (v ∷ p ∷ []) m e
  by_memory bytes o z eb ep None es h = absurd cc
  by_memory bytes o z eb ep (Some n) es h =
      let is : record { result = None; memory = n } ≡ e = some h in record {
        value = v;
        through = p;
        bytes = bytes;
        object = o;
        offset = z;
        operands = refl;
        pointer = ep;
        written = eb;
        stored = stored-is align bytes o z m e.memory (es ∙ ap (λ (x : Effect). Some x.memory) is);
        result = sym (ap (λ (x : Effect). x.result) is);
      }
    where
      some : Some (record { result = None; memory = n }) ≡ Some e → record { result = None; memory = n } ≡ e
      some h = cc

  by_pointer : (bytes : List Lane) → bytes_of t v ≡ Some bytes → (q : Pointer) → pointer_of p ≡ q → memory_effect (stored align bytes q m) ≡ Some e → IsStore align t (v ∷ p ∷ []) m e
  by_pointer bytes eb None ep h = absurd cc
  by_pointer bytes eb (Some q) ep h = by_memory bytes q.0 q.1 eb ep (stored align bytes (Some q) m) refl h

  by_bytes : (b : Option (List Lane)) → bytes_of t v ≡ b → store_effect align b (pointer_of p) m ≡ Some e → IsStore align t (v ∷ p ∷ []) m e
  by_bytes None eb h = absurd cc
  by_bytes (Some bytes) eb h = by_pointer bytes eb (pointer_of p) refl h
store_is align t types [] m e h = absurd cc
store_is align t types (v ∷ []) m e h = absurd cc
store_is align t types (v ∷ p ∷ q ∷ vs) m e h = absurd cc

pub is_store : (align : ℕ) (t : Ty) (types : List Ty) (v p : Value) (bytes : List Lane) (o : ℕ) (z : ℤ) (m n : Memory) → bytes_of t v ≡ Some bytes → pointer_of p ≡ Some (o, z) → IsStored align bytes o z m n →
    effect_of (Store align) t types (v ∷ p ∷ []) m ≡ Some (record { result = None; memory = n })
is_store align t types v p bytes o z m n eb ep s =
    ap (λ b. store_effect align b (pointer_of p) m) eb ∙ ap (λ q. memory_effect (stored align bytes q m)) ep ∙ ap memory_effect (is-stored align bytes o z m n s)

-- ---- what an operation leaves

-- what an operation is
pub data Class (op : Op) : Type 0 where
  Reads : changes op ≡ false → Class op
  Stores : (align : ℕ) → op ≡ Store align → Class op
  Makes : (elem : Elem) (align : Option ℕ) → op ≡ Alloca elem align → Class op

pub class_of : (op : Op) → Class op
class_of (Store align) = Stores align refl
class_of (Alloca elem align) = Makes elem align refl
class_of op = Reads refl

apart_swap : (p q : Pointer) (n k : ℕ) → AreApart p n q k → AreApart q k p n
apart_swap p q n k h o a b e d = other (h o b a d e) where
  other : (b + n ≤ a) ⊎ (a + k ≤ b) → (a + k ≤ b) ⊎ (b + n ≤ a)
  other (inl x) = inr x
  other (inr x) = inl x

keep_swap : (x y : Option Touch) → KeepApart x y → KeepApart y x
keep_swap (Some x) (Some y) (inl h) = inl (or_swap x.writes y.writes h) where
  or_swap : (a b : Bool) → a || b ≡ false → b || a ≡ false
  or_swap false b h = by_b b h where
    by_b : (b : Bool) → false || b ≡ false → b || false ≡ false
    by_b false h = refl
    by_b true h = absurd cc
  or_swap true b h = absurd cc
keep_swap (Some x) (Some y) (inr h) = inr (apart_swap x.pointer y.pointer x.size y.size h)
keep_swap None y h = by_y y where
  by_y : (y : Option Touch) → KeepApart y None
  by_y None = tt
  by_y (Some y) = tt
keep_swap (Some x) None h = tt

-- a memory in which objects keep their lengths and a touch finds the same
pub record Leaves (touch : Option Touch) (m n : Memory) : Type 0 where
  pub objects : KeepsObjects m n
  pub bytes : TouchSame touch m n

touch_itself : (touch : Option Touch) (m : Memory) → TouchSame touch m m
touch_itself None m = tt
touch_itself (Some x) m = λ o at object e found room kept there i less.
    (let is : Some kept ≡ Some object = sym there ∙ found in let same : kept ≡ object = cc in ap (λ (x : Object). slice_get (drop at x) i) same)

leaves_itself : (touch : Option Touch) (m : Memory) → Leaves touch m m
leaves_itself touch m = record { objects = keeps_itself m; bytes = touch_itself touch m }

store_touch : (align : ℕ) (t : Ty) (vs : List Value) (m : Memory) (a : Effect) (s : IsStore align t vs m a) → touch_of (Store align) t vs ≡ Some (record { pointer = Some (s.object, s.offset); size = length s.bytes; writes = true })
store_touch align t vs m a s =
    ap (touch_of (Store align) t) s.operands ∙ ap (λ p. Some (record { pointer = p; size = stored_size t s.value; writes = true })) s.pointer
    ∙ ap (λ n. Some (record { pointer = Some (s.object, s.offset); size = n; writes = true })) (sym (length-bytes t s.value s.bytes s.written))

pub effect_leaves : (op : Op) (t : Ty) (types : List Ty) (vs : List Value) (m : Memory) (a : Effect) → effect_of op t types vs m ≡ Some a → (touch : Option Touch) → KeepApart (touch_of op t vs) touch → Leaves touch m a.memory
effect_leaves op t types vs m a e touch apart = by_class (class_of op) where
  by_class : Class op → Leaves touch m a.memory
  by_class (Reads quiet) =
      let r = read_is (reads op t types vs m) m a (sym (quiet_is op t types vs m quiet) ∙ e) in
      subst (Leaves touch m) (sym (ap (λ (x : Effect). x.memory) r.effect)) (leaves_itself touch m)
  by_class (Stores align is) =
      let s = store_is align t types vs m a (ap (λ o. effect_of o t types vs m) (sym is) ∙ e) in
      record {
        objects = stored_keeps align s.bytes s.object s.offset m a.memory s.stored;
        bytes = by_touch s touch (subst (λ x. KeepApart x touch) (ap (λ o. touch_of o t vs) is ∙ store_touch align t vs m a s) apart);
      }
    where
      by_touch : (s : IsStore align t vs m a) → (touch : Option Touch) → KeepApart (Some (record { pointer = Some (s.object, s.offset); size = length s.bytes; writes = true })) touch → TouchSame touch m a.memory
      by_touch s None h = tt
      by_touch s (Some x) (inl h) = absurd (true_false h)
      by_touch s (Some x) (inr h) = stored_same align s.bytes s.object s.offset m a.memory s.stored x.size x.pointer h
  by_class (Makes elem align is) = made t vs (ap (λ o. effect_of o t types vs m) (sym is) ∙ e)
    where
      fresh : record { result = Some (PtrValue (Some (length m, pos 0))); memory = m ++ fresh_object (elem_size elem) ∷ [] } ≡ a → Leaves touch m a.memory
      fresh is = subst (Leaves touch m) (ap (λ (x : Effect). x.memory) is) (record { objects = alloca_keeps m (fresh_object (elem_size elem)); bytes = by_touch touch }) where
        by_touch : (touch : Option Touch) → TouchSame touch m (m ++ fresh_object (elem_size elem) ∷ [])
        by_touch None = tt
        by_touch (Some x) = alloca_same x.size x.pointer m (fresh_object (elem_size elem))

      made : (t : Ty) (vs : List Value) → effect_of (Alloca elem align) t types vs m ≡ Some a → Leaves touch m a.memory
      made Ptr [] h = fresh (some h) where
        some : Some (alloca_effect elem m) ≡ Some a → alloca_effect elem m ≡ a
        some h = cc
      made Ptr (v ∷ vs) h = absurd cc
      made Void vs h = absurd cc
      made (Int w) vs h = absurd cc
      made (Row n w) vs h = absurd cc

-- ---- two operations

may_pass_same : (x u y v : Acts) (m : Memory) → ((n : Memory) → x n ≡ u n) → ((n : Memory) → y n ≡ v n) → MayPass u v m → MayPass x y m
may_pass_same x u y v m ex ey h a b fx fy =
    let s = h a b (sym (ex m) ∙ fx) (sym (ey a.memory) ∙ fy) in
    record { between = s.between; before = ey m ∙ s.before; then = ex s.between ∙ s.then }

same_acts : (x : Acts) (n : Memory) → x n ≡ x n
same_acts x n = refl

-- an alloca beside a store
store_alloca : (align : ℕ) (t : Ty) (types : List Ty) (vs : List Value) (elem : Elem) (m : Memory) → MayPass (effect_of (Store align) t types vs) (λ n. Some (alloca_effect elem n)) m
store_alloca align t types vs elem m a b ex ey =
    let s = store_is align t types vs m a ex in
    let st = s.stored in
    let is : alloca_effect elem a.memory ≡ b = cc in
    let long : length a.memory ≡ length m = ap length st.left ∙ length_set m s.object (put s.bytes st.at st.object) in
    record {
      between = m ++ fresh_object (elem_size elem) ∷ [];
      before = ap (λ k. Some (record { result = Some (PtrValue (Some (k, pos 0))); memory = m ++ fresh_object (elem_size elem) ∷ [] })) (sym long)
          ∙ ap (λ (x : Effect). Some (record { result = x.result; memory = m ++ fresh_object (elem_size elem) ∷ [] })) is;
      then = ap (λ us. effect_of (Store align) t types us (m ++ fresh_object (elem_size elem) ∷ [])) s.operands
          ∙ is_store align t types s.value s.through s.bytes s.object s.offset (m ++ fresh_object (elem_size elem) ∷ []) b.memory s.written s.pointer
          (record {
            object = st.object;
            at = st.at;
            found = get_front m (fresh_object (elem_size elem) ∷ []) s.object st.object st.found;
            place = st.place;
            left = ap (λ (x : Effect). x.memory) (sym is) ∙ ap (λ (n : Memory). n ++ fresh_object (elem_size elem) ∷ []) st.left
                ∙ sym (set_front m (fresh_object (elem_size elem) ∷ []) s.object st.object (put s.bytes st.at st.object) st.found);
          })
          ∙ ap (λ (r : Option Value). Some (record { result = r; memory = b.memory })) (sym s.result);
    }

-- the last of two operands
named_last : (objects : ℕ) (v p : Value) (o : ℕ) (z : ℤ) → AreNamed objects (v ∷ p ∷ []) → pointer_of p ≡ Some (o, z) → o < objects
named_last objects v (PtrValue (Some q)) o z h e = let is : q.0 ≡ o = ap object_of e in subst (λ n. n < objects) is h.1.0 where
  object_of : Pointer → ℕ
  object_of None = 0
  object_of (Some p) = p.0
named_last objects v (PtrValue None) o z h e = absurd cc
named_last objects v (LaneValue a) o z h e = absurd cc
named_last objects v (RowValue a) o z h e = absurd cc

alloca_store : (align : ℕ) (t : Ty) (types : List Ty) (vs : List Value) (elem : Elem) (m : Memory) → AreNamed (length m) vs → MayPass (λ n. Some (alloca_effect elem n)) (effect_of (Store align) t types vs) m
alloca_store align t types vs elem m named a b ex ey =
    let is : alloca_effect elem m ≡ a = cc in
    let made : a.memory ≡ m ++ fresh_object (elem_size elem) ∷ [] = ap (λ (x : Effect). x.memory) (sym is) in
    let s = store_is align t types vs a.memory b ey in
    let st = s.stored in
    let less : s.object < length m = named_last (length m) s.value s.through s.object s.offset (subst (AreNamed (length m)) s.operands named) s.pointer in
    let found : slice_get m s.object ≡ Some st.object = sym (get_within m (fresh_object (elem_size elem) ∷ []) s.object less) ∙ ap (λ (n : Memory). slice_get n s.object) (sym made) ∙ st.found in
    let n = slice_set m s.object (put s.bytes st.at st.object) in
    let long : length n ≡ length m = length_set m s.object (put s.bytes st.at st.object) in
    let left : b.memory ≡ n ++ fresh_object (elem_size elem) ∷ [] =
    st.left ∙ ap (λ (k : Memory). slice_set k s.object (put s.bytes st.at st.object)) made ∙ set_front m (fresh_object (elem_size elem) ∷ []) s.object st.object (put s.bytes st.at st.object) found in
    record {
      between = n;
      before = ap (λ us. effect_of (Store align) t types us m) s.operands
          ∙ is_store align t types s.value s.through s.bytes s.object s.offset m n s.written s.pointer (record { object = st.object; at = st.at; found = found; place = st.place; left = refl })
          ∙ ap (λ (r : Option Value). Some (record { result = r; memory = n })) (sym s.result);
      then = ap (λ k. Some (record { result = Some (PtrValue (Some (k, pos 0))); memory = n ++ fresh_object (elem_size elem) ∷ [] })) long
          ∙ ap (λ (x : Effect). Some (record { result = x.result; memory = n ++ fresh_object (elem_size elem) ∷ [] })) is
          ∙ ap (λ (k : Memory). Some (record { result = a.result; memory = k })) (sym left);
    }

store_store : (a1 a2 : ℕ) (t u : Ty) (ts us : List Ty) (vs ws : List Value) (m : Memory) → KeepApart (touch_of (Store a1) t vs) (touch_of (Store a2) u ws) →
    MayPass (effect_of (Store a1) t ts vs) (effect_of (Store a2) u us ws) m
store_store a1 a2 t u ts us vs ws m apart a b ex ey =
    let s = store_is a1 t ts vs m a ex in
    let r = store_is a2 u us ws a.memory b ey in
    let d = apart_of s r in
    let w = stores_swap a1 a2 s.bytes r.bytes s.object r.object s.offset r.offset m a.memory b.memory s.stored r.stored d in
    record {
      between = w.0;
      before = ap (λ vs. effect_of (Store a2) u us vs m) r.operands ∙ is_store a2 u us r.value r.through r.bytes r.object r.offset m w.0 r.written r.pointer w.1
          ∙ ap (λ (x : Option Value). Some (record { result = x; memory = w.0 })) (sym r.result);
      then = ap (λ vs. effect_of (Store a1) t ts vs w.0) s.operands ∙ is_store a1 t ts s.value s.through s.bytes s.object s.offset w.0 b.memory s.written s.pointer w.2
          ∙ ap (λ (x : Option Value). Some (record { result = x; memory = b.memory })) (sym s.result);
    }
  where
    apart_of : (s : IsStore a1 t vs m a) (r : IsStore a2 u ws a.memory b) → AreApart (Some (s.object, s.offset)) (length s.bytes) (Some (r.object, r.offset)) (length r.bytes)
    apart_of s r = of_keep (subst (λ x. KeepApart x (touch_of (Store a2) u ws)) (store_touch a1 t vs m a s) apart) where
      of_both : KeepApart (Some (record { pointer = Some (s.object, s.offset); size = length s.bytes; writes = true })) (Some (record { pointer = Some (r.object, r.offset); size = length r.bytes; writes = true })) →
          AreApart (Some (s.object, s.offset)) (length s.bytes) (Some (r.object, r.offset)) (length r.bytes)
      of_both (inl h) = absurd (true_false h)
      of_both (inr h) = h

      of_keep : KeepApart (Some (record { pointer = Some (s.object, s.offset); size = length s.bytes; writes = true })) (touch_of (Store a2) u ws) →
          AreApart (Some (s.object, s.offset)) (length s.bytes) (Some (r.object, r.offset)) (length r.bytes)
      of_keep h = of_both (subst (λ x. KeepApart (Some (record { pointer = Some (s.object, s.offset); size = length s.bytes; writes = true })) x) (store_touch a2 u ws a.memory b r) h)

-- an alloca that is defined
alloca_is : (elem : Elem) (align : Option ℕ) (t : Ty) (types : List Ty) (vs : List Value) → ((m : Memory) → effect_of (Alloca elem align) t types vs m ≡ Some (alloca_effect elem m)) ⊎ ((m : Memory) → effect_of (Alloca elem align) t types vs m ≡ None)
alloca_is elem align Ptr types [] = inl (λ m. refl)
alloca_is elem align Ptr types (v ∷ vs) = inr (λ m. refl)
alloca_is elem align Void types vs = inr (λ m. refl)
alloca_is elem align (Int w) types vs = inr (λ m. refl)
alloca_is elem align (Row n w) types vs = inr (λ m. refl)

never_first : (x y : Acts) (m : Memory) → ((n : Memory) → x n ≡ None) → MayPass x y m
never_first x y m h a b ex ey = absurd (let e = sym (h m) ∙ ex in cc)

never_second : (x y : Acts) (m : Memory) → ((n : Memory) → y n ≡ None) → MayPass x y m
never_second x y m h a b ex ey = absurd (let e = sym (h a.memory) ∙ ey in cc)

pub effects_pass : (op other : Op) (t u : Ty) (ts us : List Ty) (vs ws : List Value) (m : Memory) → AreNamed (length m) vs → AreNamed (length m) ws →
    is_alloca op && is_alloca other ≡ false → KeepApart (touch_of op t vs) (touch_of other u ws) → MayPass (effect_of op t ts vs) (effect_of other u us ws) m
effects_pass op other t u ts us vs ws m named also allocas apart = by_class (class_of op) (class_of other) where
  second : changes other ≡ false → MayPass (effect_of op t ts vs) (effect_of other u us ws) m
  second quiet =
      may_pass_same (effect_of op t ts vs) (effect_of op t ts vs) (effect_of other u us ws) (reading (reads other u us ws)) m (λ n. refl) (λ n. quiet_is other u us ws n quiet)
      (reading_second (effect_of op t ts vs) (reads other u us ws) m (λ a e.
      (let l = effect_leaves op t ts vs m a e (touch_of other u ws) apart in reads_kept other u us ws m a.memory quiet l.objects also l.bytes)))

  first : changes op ≡ false → MayPass (effect_of op t ts vs) (effect_of other u us ws) m
  first quiet =
      may_pass_same (effect_of op t ts vs) (reading (reads op t ts vs)) (effect_of other u us ws) (effect_of other u us ws) m (λ n. quiet_is op t ts vs n quiet) (λ n. refl)
      (reading_first (reads op t ts vs) (effect_of other u us ws) m (λ b e.
      (let l = effect_leaves other u us ws m b e (touch_of op t vs) (keep_swap (touch_of op t vs) (touch_of other u ws) apart) in reads_kept op t ts vs m b.memory quiet l.objects named l.bytes)))

  made_last : (align : ℕ) → op ≡ Store align → (elem : Elem) (a : Option ℕ) → other ≡ Alloca elem a →
      ((n : Memory) → effect_of (Alloca elem a) u us ws n ≡ Some (alloca_effect elem n)) ⊎ ((n : Memory) → effect_of (Alloca elem a) u us ws n ≡ None) → MayPass (effect_of op t ts vs) (effect_of other u us ws) m
  made_last align e elem a d (inl is) =
      may_pass_same (effect_of op t ts vs) (effect_of (Store align) t ts vs) (effect_of other u us ws) (λ n. Some (alloca_effect elem n)) m
      (λ n. ap (λ o. effect_of o t ts vs n) e) (λ n. ap (λ o. effect_of o u us ws n) d ∙ is n) (store_alloca align t ts vs elem m)
  made_last align e elem a d (inr is) = never_second (effect_of op t ts vs) (effect_of other u us ws) m (λ n. ap (λ o. effect_of o u us ws n) d ∙ is n)

  made_first : (align : ℕ) → other ≡ Store align → (elem : Elem) (a : Option ℕ) → op ≡ Alloca elem a →
      ((n : Memory) → effect_of (Alloca elem a) t ts vs n ≡ Some (alloca_effect elem n)) ⊎ ((n : Memory) → effect_of (Alloca elem a) t ts vs n ≡ None) → MayPass (effect_of op t ts vs) (effect_of other u us ws) m
  made_first align e elem a d (inl is) =
      may_pass_same (effect_of op t ts vs) (λ n. Some (alloca_effect elem n)) (effect_of other u us ws) (effect_of (Store align) u us ws) m
      (λ n. ap (λ o. effect_of o t ts vs n) d ∙ is n) (λ n. ap (λ o. effect_of o u us ws n) e) (alloca_store align u us ws elem m also)
  made_first align e elem a d (inr is) = never_first (effect_of op t ts vs) (effect_of other u us ws) m (λ n. ap (λ o. effect_of o t ts vs n) d ∙ is n)

  by_class : Class op → Class other → MayPass (effect_of op t ts vs) (effect_of other u us ws) m
  by_class x (Reads quiet) = second quiet
  by_class (Reads quiet) (Stores align e) = first quiet
  by_class (Reads quiet) (Makes elem align e) = first quiet
  by_class (Stores a e) (Stores b d) =
      may_pass_same (effect_of op t ts vs) (effect_of (Store a) t ts vs) (effect_of other u us ws) (effect_of (Store b) u us ws) m
      (λ n. ap (λ o. effect_of o t ts vs n) e) (λ n. ap (λ o. effect_of o u us ws n) d)
      (store_store a b t u ts us vs ws m (subst (λ o. KeepApart (touch_of o t vs) (touch_of (Store b) u ws)) e (subst (λ o. KeepApart (touch_of op t vs) (touch_of o u ws)) d apart)))
  by_class (Stores align e) (Makes elem a d) = made_last align e elem a d (alloca_is elem a u us ws)
  by_class (Makes elem a d) (Stores align e) = made_first align e elem a d (alloca_is elem a t ts vs)
  by_class (Makes elem a e) (Makes other_elem b d) = absurd (true_false (ap (λ o. is_alloca o && is_alloca (Alloca other_elem b)) (sym e) ∙ ap (λ o. is_alloca op && is_alloca o) (sym d) ∙ allocas))

-- ---- two instructions

result_other : (env : Env) (id x : Id) (o : Option Value) → same_id x id ≡ false → set_result env id o x ≡ env x
result_other env id x None e = refl
result_other env id x (Some v) e = ap (λ b. cond b v (env x)) e

pub values_other : (env : Env) (id : Id) (result : Option Value) (os : List Opd) → uses id os ≡ false → map (value_of (set_result env id result)) os ≡ map (value_of env) os
values_other env id result [] h = refl
values_other env id result (Val v ∷ os) h =
    ap (λ x. x ∷ map (value_of (set_result env id result)) os) (result_other env id v result (or_left (same_id v id) (uses id os) h))
    ∙ ap (λ xs. env v ∷ xs) (values_other env id result os (or_right (same_id v id) (uses id os) h))
values_other env id result (Lit l ∷ os) h = ap (λ xs. value_of env (Lit l) ∷ xs) (values_other env id result os h)
values_other env id result (Sym g ∷ os) h = ap (λ xs. value_of env (Sym g) ∷ xs) (values_other env id result os h)

-- results of two ids may be set in either order
pub results_comm : (env : Env) (x y : Id) (v w : Option Value) → ((z : Id) → same_id z x ≡ true → same_id z y ≡ false) → set_result (set_result env x v) y w ≡ set_result (set_result env y w) x v
results_comm env x y None w h = by_w w where
  by_w : (w : Option Value) → set_result (set_result env x None) y w ≡ set_result (set_result env y w) x None
  by_w None = refl
  by_w (Some w) = refl
results_comm env x y (Some v) None h = refl
results_comm env x y (Some v) (Some w) h = fun_ext (λ z. by_test z (same_id z x) (same_id z y) (h z)) where
  by_test : (z : Id) (a b : Bool) → (a ≡ true → b ≡ false) → cond b w (cond a v (env z)) ≡ cond a v (cond b w (env z))
  by_test z true true h = absurd (true_false (h refl))
  by_test z true false h = refl
  by_test z false b h = refl

pub plain_step : (types : Id → Ty) (calls : Calls) (i : Inst) (r : Reached) → callee_of i.op ≡ None →
    step types calls i r ≡ then_go (back_with r.left (acts_in types r.state.env i r.state.memory)) (reached_with r.state.env i.id)
plain_step types calls i r e =
    ap (λ c. then_go (called_or calls (map (value_of r.state.env) i.opds) r.state.memory r.left (acts_in types r.state.env i r.state.memory) c) (reached_with r.state.env i.id)) e

acts_other : (types : Id → Ty) (env : Env) (id : Id) (result : Option Value) (i : Inst) (m : Memory) → uses id i.opds ≡ false → acts_in types (set_result env id result) i m ≡ acts_in types env i m
acts_other types env id result i m h = ap (λ vs. effect_of i.op i.ty (map (type_of types) i.opds) vs m) (values_other env id result i.opds h)

abbrev after : Env → Id → Option Value → Memory → ℕ → Reached
after env id v m left = record { state = record { env = set_result env id v; memory = m }; left = left }

-- where an instruction that is no call comes to an effect
step_on : (types : Id → Ty) (calls : Calls) (i : Inst) (env : Env) (m : Memory) (left : ℕ) (v : Option Value) (n : Memory) → callee_of i.op ≡ None → acts_in types env i m ≡ Some (record { result = v; memory = n }) →
    step types calls i (record { state = record { env = env; memory = m }; left = left }) ≡ On (after env i.id v n left)
step_on types calls i env m left v n e h =
    plain_step types calls i (record { state = record { env = env; memory = m }; left = left }) e ∙ ap (λ x. then_go (back_with left x) (reached_with env i.id)) h

step_lost : (types : Id → Ty) (calls : Calls) (i : Inst) (env : Env) (m : Memory) (left : ℕ) → callee_of i.op ≡ None → acts_in types env i m ≡ None →
    step types calls i (record { state = record { env = env; memory = m }; left = left }) ≡ Lost
step_lost types calls i env m left e h =
    plain_step types calls i (record { state = record { env = env; memory = m }; left = left }) e ∙ ap (λ x. then_go (back_with left x) (reached_with env i.id)) h

two_steps : (types : Id → Ty) (calls : Calls) (x y : Inst) (r q s : Reached) → step types calls x r ≡ On q → step types calls y q ≡ On s → steps types calls (x ∷ y ∷ []) r ≡ On s
two_steps types calls x y r q s e d =
    ap (λ w. then_go w (steps types calls (y ∷ []))) e ∙ ap (λ w. then_go w (steps types calls [])) d

lost_second : (types : Id → Ty) (calls : Calls) (x y : Inst) (r q : Reached) → step types calls x r ≡ On q → step types calls y q ≡ Lost → steps types calls (x ∷ y ∷ []) r ≡ Lost
lost_second types calls x y r q e d =
    ap (λ w. then_go w (steps types calls (y ∷ []))) e ∙ ap (λ w. then_go w (steps types calls [])) d

lost_first : (types : Id → Ty) (calls : Calls) (x y : Inst) (r : Reached) → step types calls x r ≡ Lost → steps types calls (x ∷ y ∷ []) r ≡ Lost
lost_first types calls x y r e = ap (λ w. then_go w (steps types calls (y ∷ []))) e

halts_first : (types : Id → Ty) (calls : Calls) (x y : Inst) (r : Reached) (m : Memory) → step types calls x r ≡ Halts m → steps types calls (x ∷ y ∷ []) r ≡ Halts m
halts_first types calls x y r m e = ap (λ w. then_go w (steps types calls (y ∷ []))) e

halts_second : (types : Id → Ty) (calls : Calls) (x y : Inst) (r q : Reached) (m : Memory) → step types calls x r ≡ On q → step types calls y q ≡ Halts m → steps types calls (x ∷ y ∷ []) r ≡ Halts m
halts_second types calls x y r q m e d =
    ap (λ w. then_go w (steps types calls (y ∷ []))) e ∙ ap (λ w. then_go w (steps types calls [])) d

module _ (types : Id → Ty) (calls : Calls) (x y : Inst) (env : Env) (m : Memory) (left : ℕ) (free : AreFree x y) where
  abbrev Here : Reached
  Here = record { state = record { env = env; memory = m }; left = left }

  -- two that are no calls
  pub plain_swap : callee_of x.op ≡ None → callee_of y.op ≡ None → MayPass (acts_in types env x) (acts_in types env y) m →
      Instead (steps types calls (y ∷ x ∷ []) (record { state = record { env = env; memory = m }; left = left })) (steps types calls (x ∷ y ∷ []) (record { state = record { env = env; memory = m }; left = left }))
  plain_swap ex ey pass = by_first (acts_in types env x m) refl where
    by_second : (a : Effect) → acts_in types env x m ≡ Some a → (b : Option Effect) → acts_in types env y a.memory ≡ b → Instead (steps types calls (y ∷ x ∷ []) Here) (steps types calls (x ∷ y ∷ []) Here)
    by_second a ea None eb = inl (lost_second types calls x y Here (after env x.id a.result a.memory left) (step_on types calls x env m left a.result a.memory ex ea)
        (step_lost types calls y (set_result env x.id a.result) a.memory left ey (acts_other types env x.id a.result y a.memory free.second_free ∙ eb)))
    by_second a ea (Some b) eb =
        let s = pass a b ea eb in
        let old = two_steps types calls x y Here (after env x.id a.result a.memory left) (after (set_result env x.id a.result) y.id b.result b.memory left)
        (step_on types calls x env m left a.result a.memory ex ea)
        (step_on types calls y (set_result env x.id a.result) a.memory left b.result b.memory ey (acts_other types env x.id a.result y a.memory free.second_free ∙ eb)) in
        let new = two_steps types calls y x Here (after env y.id b.result s.between left) (after (set_result env y.id b.result) x.id a.result b.memory left)
        (step_on types calls y env m left b.result s.between ey s.before)
        (step_on types calls x (set_result env y.id b.result) s.between left a.result b.memory ex (acts_other types env y.id b.result x s.between free.first_free ∙ s.then)) in
        inr (new ∙ ap (λ (e : Env). On (record { state = record { env = e; memory = b.memory }; left = left })) (sym (results_comm env x.id y.id a.result b.result free.differ)) ∙ sym old)

    by_first : (a : Option Effect) → acts_in types env x m ≡ a → Instead (steps types calls (y ∷ x ∷ []) Here) (steps types calls (x ∷ y ∷ []) Here)
    by_first None ea = inl (lost_first types calls x y Here (step_lost types calls x env m left ex ea))
    by_first (Some a) ea = by_second a ea (acts_in types env y a.memory) refl

  -- what a call comes to
  call_step : (i : Inst) (callee : List ℕ) (e : Env) (n : Memory) → callee_of i.op ≡ Some callee →
      step types calls i (record { state = record { env = e; memory = n }; left = left }) ≡ then_go (calls callee (map (value_of e) i.opds) n left) (reached_with e i.id)
  call_step i callee e n is =
      ap (λ c. then_go (called_or calls (map (value_of e) i.opds) n left (acts_in types e i n) c) (reached_with e i.id)) is

  -- a call stood first, and now stands last
  pub up_swap : CallsKeepObjects calls → (callee : List ℕ) → callee_of x.op ≡ Some callee → callee_of y.op ≡ None → Stays (acts_in types env y) m →
      Instead (steps types calls (y ∷ x ∷ []) (record { state = record { env = env; memory = m }; left = left })) (steps types calls (x ∷ y ∷ []) (record { state = record { env = env; memory = m }; left = left }))
  up_swap keep callee ex ey stays = by_call (calls callee (map (value_of env) x.opds) m left) refl where
    first : step types calls y Here ≡ On (after env y.id stays.result m left)
    first = step_on types calls y env m left stays.result m ey (stays.same m (keeps_itself m))

    old_step : (w : Went Back) → calls callee (map (value_of env) x.opds) m left ≡ w → step types calls x Here ≡ then_go w (reached_with env x.id)
    old_step w e = call_step x callee env m ex ∙ ap (λ v. then_go v (reached_with env x.id)) e

    new_step : (w : Went Back) → calls callee (map (value_of env) x.opds) m left ≡ w → step types calls x (after env y.id stays.result m left) ≡ then_go w (reached_with (set_result env y.id stays.result) x.id)
    new_step w e =
        call_step x callee (set_result env y.id stays.result) m ex
        ∙ ap (λ vs. then_go (calls callee vs m left) (reached_with (set_result env y.id stays.result) x.id)) (values_other env y.id stays.result x.opds free.first_free)
        ∙ ap (λ v. then_go v (reached_with (set_result env y.id stays.result) x.id)) e

    by_call : (w : Went Back) → calls callee (map (value_of env) x.opds) m left ≡ w → Instead (steps types calls (y ∷ x ∷ []) Here) (steps types calls (x ∷ y ∷ []) Here)
    by_call Lost e = inl (lost_first types calls x y Here (old_step Lost e))
    by_call (Halts n) e =
        inr (halts_second types calls y x Here (after env y.id stays.result m left) n first (new_step (Halts n) e) ∙ sym (halts_first types calls x y Here n (old_step (Halts n) e)))
    by_call (On back) e =
        let old = two_steps types calls x y Here (after env x.id back.result back.memory back.left) (after (set_result env x.id back.result) y.id stays.result back.memory back.left)
        (old_step (On back) e)
        (step_on types calls y (set_result env x.id back.result) back.memory back.left stays.result back.memory ey
        (acts_other types env x.id back.result y back.memory free.second_free ∙ stays.same back.memory (keep callee (map (value_of env) x.opds) m left back e))) in
        let new = two_steps types calls y x Here (after env y.id stays.result m left) (after (set_result env y.id stays.result) x.id back.result back.memory back.left) first (new_step (On back) e) in
        inr (new ∙ ap (λ (e : Env). On (record { state = record { env = e; memory = back.memory }; left = back.left })) (sym (results_comm env x.id y.id back.result stays.result free.differ)) ∙ sym old)

  -- a call stood last, and now stands first
  pub down_swap : CallsKeepObjects calls → (callee : List ℕ) → callee_of x.op ≡ None → callee_of y.op ≡ Some callee → Stays (acts_in types env x) m →
      Instead (steps types calls (y ∷ x ∷ []) (record { state = record { env = env; memory = m }; left = left })) (steps types calls (x ∷ y ∷ []) (record { state = record { env = env; memory = m }; left = left }))
  down_swap keep callee ex ey stays = by_call (calls callee (map (value_of env) y.opds) m left) refl where
    first : step types calls x Here ≡ On (after env x.id stays.result m left)
    first = step_on types calls x env m left stays.result m ex (stays.same m (keeps_itself m))

    new_step : (w : Went Back) → calls callee (map (value_of env) y.opds) m left ≡ w → step types calls y Here ≡ then_go w (reached_with env y.id)
    new_step w e = call_step y callee env m ey ∙ ap (λ v. then_go v (reached_with env y.id)) e

    old_step : (w : Went Back) → calls callee (map (value_of env) y.opds) m left ≡ w → step types calls y (after env x.id stays.result m left) ≡ then_go w (reached_with (set_result env x.id stays.result) y.id)
    old_step w e =
        call_step y callee (set_result env x.id stays.result) m ey
        ∙ ap (λ vs. then_go (calls callee vs m left) (reached_with (set_result env x.id stays.result) y.id)) (values_other env x.id stays.result y.opds free.second_free)
        ∙ ap (λ v. then_go v (reached_with (set_result env x.id stays.result) y.id)) e

    by_call : (w : Went Back) → calls callee (map (value_of env) y.opds) m left ≡ w → Instead (steps types calls (y ∷ x ∷ []) Here) (steps types calls (x ∷ y ∷ []) Here)
    by_call Lost e = inl (lost_second types calls x y Here (after env x.id stays.result m left) first (old_step Lost e))
    by_call (Halts n) e =
        inr (halts_first types calls y x Here n (new_step (Halts n) e) ∙ sym (halts_second types calls x y Here (after env x.id stays.result m left) n first (old_step (Halts n) e)))
    by_call (On back) e =
        let old = two_steps types calls x y Here (after env x.id stays.result m left) (after (set_result env x.id stays.result) y.id back.result back.memory back.left) first (old_step (On back) e) in
        let new = two_steps types calls y x Here (after env y.id back.result back.memory back.left) (after (set_result env y.id back.result) x.id stays.result back.memory back.left)
        (new_step (On back) e)
        (step_on types calls x (set_result env y.id back.result) back.memory back.left stays.result back.memory ex
        (acts_other types env y.id back.result x back.memory free.first_free ∙ stays.same back.memory (keep callee (map (value_of env) y.opds) m left back e))) in
        inr (new ∙ ap (λ (e : Env). On (record { state = record { env = e; memory = back.memory }; left = back.left })) (sym (results_comm env x.id y.id stays.result back.result free.differ)) ∙ sym old)

pub pair_swaps : StepsSwap
pair_swaps types calls keep x y r free (BothPlain ex ey pass) = plain_swap types calls x y r.state.env r.state.memory r.left free ex ey pass
pair_swaps types calls keep x y r free (OverCall callee ex ey stays) = up_swap types calls x y r.state.env r.state.memory r.left free keep callee ex ey stays
pair_swaps types calls keep x y r free (CallOver callee ex ey stays) = down_swap types calls x y r.state.env r.state.memory r.left free keep callee ex ey stays

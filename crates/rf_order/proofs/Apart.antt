-- Accesses that do not conflict are apart, wherever the state is ready.
use Rattle.std.proofs.Common.{◌≡◌, refl, sym, ap, ◌∙◌, subst, ℕ, ℤ, pos, neg_ℤ, ◌+ℤ◌, ◌-ℤ◌, ◌+◌, ◌*◌, ◌≤◌, ◌⊎◌, inl, inr, Bool, true, false, not, ◌&&◌, ◌||◌, cond, Option, None, Some, List, [], ◌∷◌, length, map, nat_eq, int_le, FitsSigned, arith}
use Rattle.std.specs.Int.{w64, int_wrap}
use Rattle.std.specs.List.{AllZip}
use Rattle.std.proofs.lemmas.Int.{int_wrap_fits, int_wrap-add_left, SFits-int_wrap, ints}
use Rattle.std.proofs.lemmas.Bool.Decides.{nat_tests}
use Rattle.ir_types.specs.declared.id.Id.{Id}
use Rattle.ir_types.specs.declared.ty.Ty.{Ty}
use Rattle.ir_types.specs.declared.ty.Ty.TheVariants.{Void, Int, Ptr, Row}
use Rattle.ir_types.specs.declared.opd.Opd.{Opd}
use Rattle.ir_types.specs.declared.opd.Opd.TheVariants.{Val, Lit, Sym}
use Rattle.ir_types.specs.declared.op.Op.{Op}
use Rattle.ir_types.specs.declared.op.Op.TheVariants.{Load, Store}
use Rattle.ir_types.specs.declared.inst.Inst.{Inst}
use Rattle.ir_types.specs.declared.func.Func.{Func}
use Rattle.ir_types.specs.declared.module.Module.{Module}
use Rattle.ir_types.specs.Typed.{is_stored, IsAlign, IsTyped}
use Rattle.ir_types.specs.Formed.{opd_ty, IsFormed}
use Rattle.ir_types.proofs.Among.{same_is}
use Rattle.ir_types.proofs.Formed.{Every, IsValued, typed_valued}
use Rattle.ir_model.proofs.Sound.{params_formed}
use Rattle.ir_model.specs.declared.value.Value.{Value}
use Rattle.ir_model.specs.declared.value.Value.TheVariants.{Lane as LaneValue, Row as RowValue, Ptr as PtrValue}
use Rattle.ir_model.specs.Values.{Lane, Pointer, pointer_of, literal_value, value_of, type_of}
use Rattle.ir_model.specs.Sizes.{bytes_in, size_of}
use Rattle.ir_model.specs.Step.{State}
use Rattle.ir_model.specs.Run.{types_of}
use Rattle.ir_model.specs.Shapes.{HasShape}
use Rattle.ir_model.proofs.Acts.{same_types}
use Rattle.vx_view.specs.Addresses.{Symbol, Form, pointers, start, form_in}
use Rattle.vx_view.specs.Conflicts.{Access, bytes_of, access_by, access_of, kind_of, never_meet, same_root, same_symbol, is_past, is_apart, meet}
use Rattle.rf_order.specs.Swaps.{Touch, stored_size, touch_of, AreApart, KeepApart}
use Rattle.rf_order.specs.Steps.{uses}
use Rattle.rf_order.specs.Ready.{Known, IsStatement, is_known, IsReady}
use Rattle.rf_order.proofs.Shapes.{OpdsShape}
use Rattle.rf_order.proofs.Addresses.{symbol_value, led_to, two_opds, known_opd, uses_here, uses_later, shapes_of, led_pointers}
use Rattle.rf_order.proofs.Sums.{sum_walk}
use Rattle.vx_serial.proofs.Decided.{and_left, and_right, true_false}

abbrev object_at : Pointer → ℕ
object_at None = 0
object_at (Some p) = p.0

abbrev offset_at : Pointer → ℤ
offset_at None = pos 0
offset_at (Some p) = p.1

-- ---- distances

-- places that are a distance apart modulo 2^64 are that distance apart
distance_is : (a b : ℕ) (u c d : ℤ) → FitsSigned w64 (pos a) → FitsSigned w64 (pos b) → pos a ≡ int_wrap w64 (u +ℤ c) → pos b ≡ int_wrap w64 (u +ℤ d) →
    pos b +ℤ neg_ℤ (pos a) ≡ int_wrap w64 (d -ℤ c)
distance_is a b u c d fa fb ea eb =
    sym (int_wrap_fits w64 (pos b +ℤ neg_ℤ (pos a)) (small a b fa fb))
    ∙ ap (λ z. int_wrap w64 (z +ℤ neg_ℤ (pos a))) back
    ∙ int_wrap-add_left w64 (pos a +ℤ (d -ℤ c)) (neg_ℤ (pos a))
    ∙ ap (int_wrap w64) (cancel (pos a) (d -ℤ c))
  where
    small : (a b : ℕ) → FitsSigned w64 (pos a) → FitsSigned w64 (pos b) → FitsSigned w64 (pos b +ℤ neg_ℤ (pos a))
    small a b fa fb = omega (arith, ints)

    cancel : (a e : ℤ) → a +ℤ e +ℤ neg_ℤ a ≡ e
    cancel a e = omega (arith, ints)

    sum : (u c d : ℤ) → u +ℤ d ≡ u +ℤ c +ℤ (d -ℤ c)
    sum u c d = omega (arith, ints)

    back : pos b ≡ int_wrap w64 (pos a +ℤ (d -ℤ c))
    back =
        eb ∙ ap (int_wrap w64) (sum u c d) ∙ sym (int_wrap-add_left w64 (u +ℤ c) (d -ℤ c)) ∙ ap (λ z. int_wrap w64 (z +ℤ (d -ℤ c))) (sym ea)

past_apart : (first second a b : ℕ) (d : ℤ) → pos b +ℤ neg_ℤ (pos a) ≡ d → is_past first second d ≡ true → (a + first ≤ b) ⊎ (b + second ≤ a)
past_apart first second a b d e h = by_case (int_le (pos first) d) refl h where
  by_case : (t : Bool) → int_le (pos first) d ≡ t → t || int_le d (neg_ℤ (pos second)) ≡ true → (a + first ≤ b) ⊎ (b + second ≤ a)
  by_case true t h = inl (grind (arith, ints))
  by_case false t h = inr (grind (arith, ints))

-- ---- forms

module _ (m : Module) (f : Func) (formed : IsFormed m) (block : List Inst) (k : Known) (s : State) (ready : IsReady m f block k s) where
  abbrev types : Id → Ty
  types = types_of f

  -- where a form leads
  abbrev pub form_leads : Form → Pointer
  form_leads g = led_to (pointer_of (value_of s.env g.root)) (symbol_value (types_of f) s.env g.offset.symbol) g.offset.constant

  pub record Formed (p : Opd) (g : Form) : Type 0 where
    pub known : is_known (length m.globals) k.values g.root ≡ true
    pub leads_on : (pointer_of (value_of s.env p) ≡ None) ⊎ (pointer_of (value_of s.env p) ≡ form_leads g)

  led_start : (p : Pointer) → ((q : ℕ × ℤ) → p ≡ Some q → FitsSigned w64 q.1) → p ≡ led_to p (Some (pos 0)) (pos 0)
  led_start None h = refl
  led_start (Some p) h = ap (λ z. Some (p.0, z)) (sym (int_wrap_fits w64 p.1 (h p refl)) ∙ ap (int_wrap w64) (zeros p.1)) where
    zeros : (z : ℤ) → z ≡ z +ℤ pos 0 +ℤ pos 0
    zeros z = omega (arith, ints)

  pub form_formed : (p : Opd) → is_known (length m.globals) k.values p ≡ true → ((q : ℕ × ℤ) → pointer_of (value_of s.env p) ≡ Some q → FitsSigned w64 q.1) → Formed p (form_in block p)
  form_formed p kn fits =
      let w = led_pointers m f formed block k s ready 64 (pointer_of (value_of s.env p)) p start kn tt (inr (led_start (pointer_of (value_of s.env p)) fits)) in
      let e = pointers 64 block p start in
      let r = sum_walk m f formed block k s ready e.left (pointer_of (value_of s.env p)) (pointer_of (value_of s.env e.pointer)) e.offset w.symbol w.leads_on in
      record { known = w.known; leads_on = r.1 }

  root_same : (a b : Opd) → same_root a b ≡ true → (pointer_of (value_of s.env a) ≡ pointer_of (value_of s.env b))
  root_same (Val x) (Val y) h = ap (λ z. pointer_of (s.env z)) (same_is x y h)
  root_same (Sym g) (Sym h) e = let same : g ≡ h = grind (arith, nat_tests) in ap (λ g. Some (g, pos 0)) same
  root_same (Lit l) (Lit j) h = literal l.ty l.lanes ∙ sym (literal j.ty j.lanes) where
    literal : (t : Ty) (lanes : List Lane) → pointer_of (literal_value t lanes) ≡ None
    literal (Int w) [] = refl
    literal (Int w) (a ∷ []) = refl
    literal (Int w) (a ∷ b ∷ lanes) = refl
    literal (Row n w) lanes = refl
    literal Ptr lanes = refl
    literal Void lanes = refl
  root_same (Val x) (Lit l) h = absurd (true_false (sym h))
  root_same (Val x) (Sym g) h = absurd (true_false (sym h))
  root_same (Lit l) (Val x) h = absurd (true_false (sym h))
  root_same (Lit l) (Sym g) h = absurd (true_false (sym h))
  root_same (Sym g) (Val x) h = absurd (true_false (sym h))
  root_same (Sym g) (Lit l) h = absurd (true_false (sym h))

  symbol_same : (a b : Option Symbol) → same_symbol a b ≡ true → symbol_value types s.env a ≡ symbol_value types s.env b
  symbol_same None None h = refl
  symbol_same (Some a) (Some b) h =
      let id : a.0 ≡ b.0 = same_is a.0 b.0 (and_left (Rattle.ir_types.specs.Available.same_id a.0 b.0) (nat_eq a.1 b.1) h) in
      let scale : a.1 ≡ b.1 = number a.1 b.1 (and_right (Rattle.ir_types.specs.Available.same_id a.0 b.0) (nat_eq a.1 b.1) h) in
      ap (λ x. symbol_value types s.env (Some (x, a.1))) id ∙ ap (λ n. symbol_value types s.env (Some (b.0, n))) scale
    where
      number : (x y : ℕ) → nat_eq x y ≡ true → x ≡ y
      number x y e = grind (arith, nat_tests)
  symbol_same None (Some b) h = absurd cc
  symbol_same (Some a) None h = absurd cc

  -- a pointer that leads somewhere
  record Led_by (p : Pointer) (v : Option ℤ) (c : ℤ) (o : ℕ) (z : ℤ) : Type 0 where
    from : ℤ
    value : ℤ
    root : p ≡ Some (o, from)
    symbol : v ≡ Some value
    is : z ≡ int_wrap w64 (from +ℤ value +ℤ c)

  led_by : (p : Pointer) (v : Option ℤ) (c : ℤ) (o : ℕ) (z : ℤ) → Some (o, z) ≡ led_to p v c → Led_by p v c o z
  led_by None v c o z e = absurd cc
  led_by (Some p) None c o z e = absurd cc
  led_by (Some p) (Some v) c o z e = record {
    from = p.1;
    value = v;
    root = ap (λ n. Some (n, p.1)) (sym (ap object_at e));
    symbol = refl;
    is = ap offset_at e;
  }

  pub forms_apart : (p q : Opd) (n l : ℕ) → Formed p (form_in block p) → Formed q (form_in block q) → is_apart m (form_in block p) n (form_in block q) l ≡ true →
      AreApart (pointer_of (value_of s.env p)) n (pointer_of (value_of s.env q)) l
  forms_apart p q n l fp fq h o a b ep eq = by_lead fp.leads_on fq.leads_on where
    g : Form
    g = form_in block p

    r : Form
    r = form_in block q

    same_object : Led_by (pointer_of (value_of s.env g.root)) (symbol_value types s.env g.offset.symbol) g.offset.constant o (pos a) →
        Led_by (pointer_of (value_of s.env r.root)) (symbol_value types s.env r.offset.symbol) r.offset.constant o (pos b) →
        (t : Bool) → same_root g.root r.root ≡ t →
        cond t (same_symbol g.offset.symbol r.offset.symbol && is_past n l (int_wrap w64 (r.offset.constant -ℤ g.offset.constant))) (never_meet (kind_of m g.root) (kind_of m r.root)) ≡ true →
        (a + n ≤ b) ⊎ (b + l ≤ a)
    same_object x y true e h =
        let symbols_are = symbol_same g.offset.symbol r.offset.symbol (and_left (same_symbol g.offset.symbol r.offset.symbol) (is_past n l (int_wrap w64 (r.offset.constant -ℤ g.offset.constant))) h) in
        let past = and_right (same_symbol g.offset.symbol r.offset.symbol) (is_past n l (int_wrap w64 (r.offset.constant -ℤ g.offset.constant))) h in
        let roots : Some (o, x.from) ≡ Some (o, y.from) = sym x.root ∙ root_same g.root r.root e ∙ y.root in
        let from : x.from ≡ y.from = offset_same (o, x.from) (o, y.from) roots in
        let values : Some x.value ≡ Some y.value = sym x.symbol ∙ symbols_are ∙ y.symbol in
        let value : x.value ≡ y.value = value_same x.value y.value values in
        past_apart n l a b (int_wrap w64 (r.offset.constant -ℤ g.offset.constant))
        (distance_is a b (x.from +ℤ x.value) g.offset.constant r.offset.constant
        (subst (FitsSigned w64) (sym x.is) (SFits-int_wrap w64 (x.from +ℤ x.value +ℤ g.offset.constant)))
        (subst (FitsSigned w64) (sym y.is) (SFits-int_wrap w64 (y.from +ℤ y.value +ℤ r.offset.constant)))
        x.is (y.is ∙ ap (λ z. int_wrap w64 (z +ℤ y.value +ℤ r.offset.constant)) (sym from) ∙ ap (λ z. int_wrap w64 (x.from +ℤ z +ℤ r.offset.constant)) (sym value))) past
      where
        offset_same : (p q : ℕ × ℤ) → Some p ≡ Some q → p.1 ≡ q.1
        offset_same p q e = ap offset_at e

        value_same : (v w : ℤ) → Some v ≡ Some w → v ≡ w
        value_same v w e = cc
    same_object x y false e h = elim (ready.roots g.root r.root fp.known fq.known e h o x.from y.from x.root y.root) [ ]

    by_lead : (pointer_of (value_of s.env p) ≡ None) ⊎ (pointer_of (value_of s.env p) ≡ form_leads g) → (pointer_of (value_of s.env q) ≡ None) ⊎ (pointer_of (value_of s.env q) ≡ form_leads r) → (a + n ≤ b) ⊎ (b + l ≤ a)
    by_lead (inl e) y = absurd (let no = sym ep ∙ e in cc)
    by_lead (inr e) (inl d) = absurd (let no = sym eq ∙ d in cc)
    by_lead (inr e) (inr d) =
        same_object (led_by (pointer_of (value_of s.env g.root)) (symbol_value types s.env g.offset.symbol) g.offset.constant o (pos a) (sym ep ∙ e))
        (led_by (pointer_of (value_of s.env r.root)) (symbol_value types s.env r.offset.symbol) r.offset.constant o (pos b) (sym eq ∙ d)) (same_root g.root r.root) refl h

  -- ---- accesses of instructions that may run

  -- an access and its touch
  record Touches (i : Inst) (a : Access) : Type 0 where
    access : access_of i ≡ Some a
    known : is_known (length m.globals) k.values a.pointer ≡ true
    fits : (q : ℕ × ℤ) → pointer_of (value_of s.env a.pointer) ≡ Some q → FitsSigned w64 q.1
    touch : touch_of i.op i.ty (map (value_of s.env) i.opds) ≡ Some (record { pointer = pointer_of (value_of s.env a.pointer); size = a.size; writes = a.writes })

  size_is : (t : Ty) → bytes_of t ≡ size_of t
  size_is (Int w) = refl
  size_is (Row n w) = refl
  size_is Void = refl
  size_is Ptr = refl

  stored_is : (objects : ℕ) (t : Ty) (v : Value) → HasShape objects t v → stored_size t v ≡ bytes_of t
  stored_is objects (Row n w) (RowValue lanes) h = ap (λ n. n * bytes_in w) h
  stored_is objects (Int w) v h = refl
  stored_is objects Ptr v h = refl
  stored_is objects Void v h = elim h [ ]
  stored_is objects (Row n w) (LaneValue a) h = elim h [ ]
  stored_is objects (Row n w) (PtrValue a) h = elim h [ ]

  pointer_fits : (objects : ℕ) (v : Value) → HasShape objects Ptr v → (q : ℕ × ℤ) → pointer_of v ≡ Some q → FitsSigned w64 q.1
  pointer_fits objects (PtrValue (Some p)) h q e = subst (FitsSigned w64) (second_same p q e) h.1 where
    second_same : (p q : ℕ × ℤ) → Some p ≡ Some q → p.1 ≡ q.1
    second_same p q e = ap offset_at e
  pointer_fits objects (PtrValue None) h q e = absurd cc
  pointer_fits objects (LaneValue a) h q e = elim h [ ]
  pointer_fits objects (RowValue a) h q e = elim h [ ]

  one_opd : (os : List Opd) (a : Ty) → map (type_of types) os ≡ a ∷ [] → (x : Opd) × (os ≡ x ∷ []) × (type_of types x ≡ a)
  one_opd [] a e = absurd cc
  one_opd (x ∷ []) a e = (x, refl, cc)
  one_opd (x ∷ y ∷ os) a e = absurd cc

  -- an instruction that touches no bytes, or its access
  touches : (i : Inst) → IsStatement m f block i → ((x : Id) → uses x i.opds ≡ true → k.values x ≡ true) →
      (touch_of i.op i.ty (map (value_of s.env) i.opds) ≡ None) ⊎ ((a : Access) × Touches i a)
  touches i st there = by_op i.op refl where
    shapes : OpdsShape m f s i.opds
    shapes = shapes_of m f formed block k s ready i st there

    valued : (os : List Opd) → i.opds ≡ os → Every IsValued (map (opd_ty m f) os)
    valued os eo = subst (λ os. Every IsValued (map (opd_ty m f) os)) eo (typed_valued m (params_formed m formed) f.ret i.op i.ty (map (opd_ty m f) i.opds) st.typed st.calling)

    by_op : (op : Op) → i.op ≡ op → (touch_of i.op i.ty (map (value_of s.env) i.opds) ≡ None) ⊎ ((a : Access) × Touches i a)
    by_op (Load align) is =
        let typed : (is_stored i.ty ≡ true) × IsAlign align × (map (opd_ty m f) i.opds ≡ Some Ptr ∷ []) = subst (λ op. IsTyped f.ret op i.ty (map (opd_ty m f) i.opds)) is st.typed in
        let os = one_opd i.opds Ptr (same_types (map (type_of types) i.opds) (Ptr ∷ []) (sym shapes.types ∙ typed.2)) in
        let sh : AllZip (HasShape (length s.memory)) (type_of types os.0 ∷ []) (value_of s.env os.0 ∷ []) = subst (λ os. AllZip (HasShape (length s.memory)) (map (type_of types) os) (map (value_of s.env) os)) os.1 shapes.shapes in
        inr (
          record { pointer = os.0; size = bytes_of i.ty; writes = false },
          record {
            access = ap (λ op. access_by op i.ty i.opds) is ∙ ap (access_by (Load align) i.ty) os.1;
            known = known_opd m f formed block k s ready (os.0 ∷ []) os.0 (λ z u. there z (ap (uses z) os.1 ∙ u)) (λ z d. uses_here m f formed block k s ready os.0 [] z d) (valued (os.0 ∷ []) os.1).0;
            fits = pointer_fits (length s.memory) (value_of s.env os.0) (subst (λ t. HasShape (length s.memory) t (value_of s.env os.0)) os.2 sh.0);
            touch = ap (λ op. touch_of op i.ty (map (value_of s.env) i.opds)) is ∙ ap (λ os. touch_of (Load align) i.ty (map (value_of s.env) os)) os.1
                ∙ ap (λ n. Some (record { pointer = pointer_of (value_of s.env os.0); size = n; writes = false })) (sym (size_is i.ty));
          },
        )
    by_op (Store align) is =
        let typed : (is_stored i.ty ≡ true) × IsAlign align × (map (opd_ty m f) i.opds ≡ Some i.ty ∷ Some Ptr ∷ []) = subst (λ op. IsTyped f.ret op i.ty (map (opd_ty m f) i.opds)) is st.typed in
        let os = two_opds (type_of types) i.opds i.ty Ptr (same_types (map (type_of types) i.opds) (i.ty ∷ Ptr ∷ []) (sym shapes.types ∙ typed.2)) in
        let sh : AllZip (HasShape (length s.memory)) (type_of types os.0 ∷ type_of types os.1 ∷ []) (value_of s.env os.0 ∷ value_of s.env os.1 ∷ []) =
        subst (λ os. AllZip (HasShape (length s.memory)) (map (type_of types) os) (map (value_of s.env) os)) os.2 shapes.shapes in
        inr (
          record { pointer = os.1; size = bytes_of i.ty; writes = true },
          record {
            access = ap (λ op. access_by op i.ty i.opds) is ∙ ap (access_by (Store align) i.ty) os.2;
            known = known_opd m f formed block k s ready (os.0 ∷ os.1 ∷ []) os.1 (λ z u. there z (ap (uses z) os.2 ∙ u))
                (λ z d. uses_later m f formed block k s ready os.0 (os.1 ∷ []) z (uses_here m f formed block k s ready os.1 [] z d)) (valued (os.0 ∷ os.1 ∷ []) os.2).1.0;
            fits = pointer_fits (length s.memory) (value_of s.env os.1) (subst (λ t. HasShape (length s.memory) t (value_of s.env os.1)) os.4 sh.1.0);
            touch = ap (λ op. touch_of op i.ty (map (value_of s.env) i.opds)) is ∙ ap (λ os. touch_of (Store align) i.ty (map (value_of s.env) os)) os.2
                ∙ ap (λ n. Some (record { pointer = pointer_of (value_of s.env os.1); size = n; writes = true }))
                (stored_is (length s.memory) i.ty (value_of s.env os.0) (subst (λ t. HasShape (length s.memory) t (value_of s.env os.0)) os.3 sh.0));
          },
        )
    by_op op is = inl (ap (λ op. touch_of op i.ty (map (value_of s.env) i.opds)) is)

  keep_none : (x : Option Touch) → KeepApart x None
  keep_none None = tt
  keep_none (Some x) = tt

  pub keep_apart : (x y : Inst) → IsStatement m f block x → ((z : Id) → uses z x.opds ≡ true → k.values z ≡ true) → IsStatement m f block y → ((z : Id) → uses z y.opds ≡ true → k.values z ≡ true) →
      meet m block (access_of x) (access_of y) ≡ false → KeepApart (touch_of x.op x.ty (map (value_of s.env) x.opds)) (touch_of y.op y.ty (map (value_of s.env) y.opds))
  keep_apart x y sx tx sy ty h = by_touch (touches x sx tx) (touches y sy ty) where
    by_meet : (a b : Access) → Touches x a → Touches y b → (w t : Bool) → (a.writes || b.writes) ≡ w → is_apart m (form_in block a.pointer) a.size (form_in block b.pointer) b.size ≡ t → w && not t ≡ false →
        ((a.writes || b.writes) ≡ false) ⊎ AreApart (pointer_of (value_of s.env a.pointer)) a.size (pointer_of (value_of s.env b.pointer)) b.size
    by_meet a b ta tb false t ew et h = inl ew
    by_meet a b ta tb true true ew et h = inr (forms_apart a.pointer b.pointer a.size b.size (form_formed a.pointer ta.known ta.fits) (form_formed b.pointer tb.known tb.fits) et)
    by_meet a b ta tb true false ew et h = absurd cc

    by_touch : (touch_of x.op x.ty (map (value_of s.env) x.opds) ≡ None) ⊎ ((a : Access) × Touches x a) → (touch_of y.op y.ty (map (value_of s.env) y.opds) ≡ None) ⊎ ((a : Access) × Touches y a) →
        KeepApart (touch_of x.op x.ty (map (value_of s.env) x.opds)) (touch_of y.op y.ty (map (value_of s.env) y.opds))
    by_touch (inl e) b = subst (λ t. KeepApart t (touch_of y.op y.ty (map (value_of s.env) y.opds))) (sym e) tt
    by_touch (inr a) (inl e) = subst (KeepApart (touch_of x.op x.ty (map (value_of s.env) x.opds))) (sym e) (keep_none (touch_of x.op x.ty (map (value_of s.env) x.opds)))
    by_touch (inr (a, ta)) (inr (b, tb)) =
        subst (λ t. KeepApart t (touch_of y.op y.ty (map (value_of s.env) y.opds))) (sym ta.touch)
        (subst (KeepApart (Some (record { pointer = pointer_of (value_of s.env a.pointer); size = a.size; writes = a.writes }))) (sym tb.touch)
        (by_meet a b ta tb (a.writes || b.writes) (is_apart m (form_in block a.pointer) a.size (form_in block b.pointer) b.size) refl refl
        (ap (λ o. meet m block o (Some b)) (sym ta.access) ∙ ap (meet m block (access_of x)) (sym tb.access) ∙ h)))

-- Where the form of an address leads: in a ready state a pointer is poison, or its root with the symbol and the constant added.
use Rattle.std.proofs.Common.{◌≡◌, refl, sym, ap, ◌∙◌, subst, ℕ, ℤ, zero, suc, pos, ◌+ℤ◌, ◌*ℤ◌, ◌*◌, ◌/◌, ◌%◌, ◌^◌, ◌<◌, ◌⊎◌, inl, inr, Bool, true, false, ◌||◌, cond, Option, None, Some, List, [], ◌∷◌, length, map, nat_le, nat_lt, option_map, option_and_then, arith}
use Rattle.std.specs.Int.{w64, int_wrap}
use Rattle.std.specs.List.{AllZip}
use Rattle.std.proofs.lemmas.Int.{int_wrap-add_left, int_wrap-add_right, ints}
use Rattle.std.proofs.Math.Nat.{mod-eq_of_lt}
use Rattle.vx_num.specs.Width.{signed, IsLane}
use Rattle.vx_num.specs.Advance.{advance_of}
use Rattle.ir_types.specs.declared.id.Id.{Id}
use Rattle.ir_types.specs.declared.ty.Ty.{Ty}
use Rattle.ir_types.specs.declared.ty.Ty.TheVariants.{Void, Int, Ptr, Row}
use Rattle.ir_types.specs.declared.ty.Elem.{Elem}
use Rattle.ir_types.specs.declared.ty.Elem.TheVariants.{One, Array}
use Rattle.ir_types.specs.declared.opd.Opd.{Opd}
use Rattle.ir_types.specs.declared.opd.Opd.TheVariants.{Val, Lit, Sym}
use Rattle.ir_types.specs.declared.op.Op.{Op}
use Rattle.ir_types.specs.declared.op.Op.TheVariants.{Gep}
use Rattle.ir_types.specs.declared.inst.Inst.{Inst}
use Rattle.ir_types.specs.declared.func.Func.{Func}
use Rattle.ir_types.specs.declared.module.Module.{Module}
use Rattle.ir_types.specs.Typed.{is_width, lane_width, IsStep, HasTwoIndices, IsTyped}
use Rattle.ir_types.specs.Formed.{opd_ty, IsOpd, IsFormed}
use Rattle.ir_types.proofs.Formed.{Every, every_of_all, IsValued, typed_valued}
use Rattle.ir_types.proofs.Among.{same_is, same_itself}
use Rattle.ir_model.specs.declared.value.Value.{Value}
use Rattle.ir_model.specs.declared.value.Value.TheVariants.{Lane as LaneValue, Row as RowValue, Ptr as PtrValue}
use Rattle.ir_model.specs.Values.{Lane, Pointer, Env, pointer_of, same_id, literal_value, value_of, type_of}
use Rattle.ir_model.specs.Sizes.{bytes_in, elem_size}
use Rattle.ir_model.specs.Operations.{narrow}
use Rattle.ir_model.specs.Addresses.{stepped, walked}
use Rattle.ir_model.specs.Step.{State}
use Rattle.ir_model.specs.Run.{is_phi, types_of}
use Rattle.ir_model.specs.Shapes.{HasShape}
use Rattle.ir_model.proofs.Acts.{same_types}
use Rattle.ir_model.proofs.Sound.{params_formed}
use Rattle.vx_view.specs.Answers.{find}
use Rattle.vx_view.specs.Addresses.{Symbol, Offset, scales_of, beside_symbol, with_lane, with_index, with_indices, Led, led_op, led_by, led_back, or_stay, Walked, pointers}
use Rattle.rf_order.specs.Steps.{uses}
use Rattle.rf_order.specs.Ready.{Known, IsIn, IsStatement, formula, has_formula, is_known, IsReady}
use Rattle.rf_order.proofs.Shapes.{global_there, OpdsShape, opds_shape}
use Rattle.vx_serial.proofs.Decided.{true_false}

-- ---- sums that wrap

wrap_further : (z k v c : ℤ) → int_wrap w64 (int_wrap w64 (z +ℤ k) +ℤ v +ℤ c) ≡ int_wrap w64 (z +ℤ v +ℤ int_wrap w64 (c +ℤ k))
wrap_further z k v c =
    ap (int_wrap w64) (assoc (int_wrap w64 (z +ℤ k)) v c) ∙ int_wrap-add_left w64 (z +ℤ k) (v +ℤ c) ∙ ap (int_wrap w64) (moved z k v c) ∙ sym (int_wrap-add_right w64 (z +ℤ v) (c +ℤ k))
  where
    assoc : (a b c : ℤ) → a +ℤ b +ℤ c ≡ a +ℤ (b +ℤ c)
    assoc a b c = omega (arith, ints)

    moved : (z k v c : ℤ) → z +ℤ k +ℤ (v +ℤ c) ≡ z +ℤ v +ℤ (c +ℤ k)
    moved z k v c = omega (arith, ints)

wrap_inner : (z k c : ℤ) → int_wrap w64 (int_wrap w64 (z +ℤ k) +ℤ pos 0 +ℤ c) ≡ int_wrap w64 (z +ℤ k +ℤ c)
wrap_inner z k c = ap (int_wrap w64) (drop_zero (int_wrap w64 (z +ℤ k)) c) ∙ int_wrap-add_left w64 (z +ℤ k) c where
  drop_zero : (a c : ℤ) → a +ℤ pos 0 +ℤ c ≡ a +ℤ c
  drop_zero a c = omega (arith, ints)

wrap_swap : (z a b : ℤ) → int_wrap w64 (int_wrap w64 (z +ℤ a) +ℤ b) ≡ int_wrap w64 (int_wrap w64 (z +ℤ b) +ℤ a)
wrap_swap z a b = int_wrap-add_left w64 (z +ℤ a) b ∙ ap (int_wrap w64) (turned z a b) ∙ sym (int_wrap-add_left w64 (z +ℤ b) a) where
  turned : (z a b : ℤ) → z +ℤ a +ℤ b ≡ z +ℤ b +ℤ a
  turned z a b = omega (arith, ints)

-- ---- what an offset adds

abbrev pub scaled : Ty → Value → ℕ → Option ℤ
scaled (Int w) (LaneValue (Some n)) scale = Some (signed w (n % 2 ^ w) *ℤ pos scale)
scaled _ _ scale = None

abbrev pub symbol_value : (Id → Ty) → Env → Option Symbol → Option ℤ
symbol_value types env None = Some (pos 0)
symbol_value types env (Some s) = scaled (types s.0) (env s.0) s.1

-- a pointer with a value and a constant added
abbrev pub led_to : Pointer → Option ℤ → ℤ → Pointer
led_to None v c = None
led_to (Some p) None c = None
led_to (Some p) (Some v) c = Some (p.0, int_wrap w64 (p.1 +ℤ v +ℤ c))

pub led_none : (p : Pointer) (c : ℤ) → led_to p None c ≡ None
led_none None c = refl
led_none (Some p) c = refl

stepped_literal : (p : Pointer) (w scale n : ℕ) (v : Option ℤ) (c : ℤ) → n % 2 ^ w ≡ n → led_to (stepped w scale p (Some n)) v c ≡ led_to p v (advance_of c n w scale)
stepped_literal None w scale n v c e = refl
stepped_literal (Some p) w scale n None c e = refl
stepped_literal (Some p) w scale n (Some v) c e =
    ap (λ k. Some (p.0, int_wrap w64 (int_wrap w64 (p.1 +ℤ signed w k *ℤ pos scale) +ℤ v +ℤ c))) e
    ∙ ap (λ z. Some (p.0, z)) (wrap_further p.1 (signed w n *ℤ pos scale) v c)

stepped_symbol : (p : Pointer) (w scale : ℕ) (lane : Lane) (c : ℤ) → led_to (stepped w scale p lane) (Some (pos 0)) c ≡ led_to p (scaled (Int w) (LaneValue lane) scale) c
stepped_symbol None w scale lane c = refl
stepped_symbol (Some p) w scale None c = refl
stepped_symbol (Some p) w scale (Some n) c = ap (λ z. Some (p.0, z)) (wrap_inner p.1 (signed w (n % 2 ^ w) *ℤ pos scale) c)

stepped_swap : (p : Pointer) (w s v u : ℕ) (i j : Lane) → stepped w s (stepped v u p j) i ≡ stepped v u (stepped w s p i) j
stepped_swap None w s v u i j = refl
stepped_swap (Some p) w s v u None None = refl
stepped_swap (Some p) w s v u None (Some j) = refl
stepped_swap (Some p) w s v u (Some i) None = refl
stepped_swap (Some p) w s v u (Some i) (Some j) = ap (λ z. Some (p.0, z)) (wrap_swap p.1 (signed v (j % 2 ^ v) *ℤ pos u) (signed w (i % 2 ^ w) *ℤ pos s))

small_mod : (n k : ℕ) → n < k → n % k ≡ n
small_mod n k h = mod-eq_of_lt h

-- ---- lists of operands

pub two_opds : {A B : Type 0} (g : A → B) (os : List A) (a b : B) → map g os ≡ a ∷ b ∷ [] → (x : A) × (y : A) × (os ≡ x ∷ y ∷ []) × (g x ≡ a) × (g y ≡ b)
two_opds g [] a b e = absurd cc
two_opds g (x ∷ []) a b e = absurd cc
two_opds g (x ∷ y ∷ []) a b e = (x, y, refl, cc, cc)
two_opds g (x ∷ y ∷ z ∷ os) a b e = absurd cc

three_opds : {A B : Type 0} (g : A → B) (os : List A) (a b c : B) → map g os ≡ a ∷ b ∷ c ∷ [] → (x : A) × (y : A) × (z : A) × (os ≡ x ∷ y ∷ z ∷ []) × (g x ≡ a) × (g y ≡ b) × (g z ≡ c)
three_opds g [] a b c e = absurd cc
three_opds g (x ∷ []) a b c e = absurd cc
three_opds g (x ∷ y ∷ []) a b c e = absurd cc
three_opds g (x ∷ y ∷ z ∷ []) a b c e = (x, y, z, refl, cc, cc, cc)
three_opds g (x ∷ y ∷ z ∷ u ∷ os) a b c e = absurd cc

pub lane_shape : (objects w : ℕ) (v : Value) → HasShape objects (Int w) v → (lane : Lane) × (v ≡ LaneValue lane)
lane_shape objects w (LaneValue lane) h = (lane, refl)
lane_shape objects w (RowValue a) h = elim h [ ]
lane_shape objects w (PtrValue a) h = elim h [ ]

pub find_id : (x : Id) (is : List Inst) (i : Inst) → find x is ≡ Some i → same_id i.id x ≡ true
find_id x [] i e = absurd cc
find_id x (j ∷ is) i e = by_test (same_id j.id x) refl e (λ d. find_id x is i d) where
  by_test : (b : Bool) → same_id j.id x ≡ b → cond b (Some j) (find x is) ≡ Some i → (find x is ≡ Some i → same_id i.id x ≡ true) → same_id i.id x ≡ true
  by_test true h e more = let same : j ≡ i = cc in ap (λ (j : Inst). same_id j.id x) (sym same) ∙ h
  by_test false h e more = more e

-- ---- one `getelementptr`

module _ (m : Module) (f : Func) (formed : IsFormed m) (block : List Inst) (k : Known) (s : State) (ready : IsReady m f block k s) where
  abbrev types : Id → Ty
  types = types_of f

  abbrev pointer : Opd → Pointer
  pointer o = pointer_of (value_of s.env o)

  -- where a pointer with an offset leads
  abbrev pub leads : Opd → Offset → Pointer
  leads p o = led_to (pointer_of (value_of s.env p)) (symbol_value (types_of f) s.env o.symbol) o.constant

  abbrev pub KnownSymbol : Option Symbol → Type 0
  KnownSymbol None = Unit {0}
  KnownSymbol (Some x) = k.values x.0 ≡ true

  -- an index, after which an offset leads on
  record Indexed (o q : Offset) (w scale : ℕ) (lane : Lane) : Type 0 where
    same : (p : Pointer) → led_to (stepped w scale p lane) (symbol_value types s.env o.symbol) o.constant ≡ led_to p (symbol_value types s.env q.symbol) q.constant
    symbol : KnownSymbol q.symbol

  indexed : (x : Opd) (w scale : ℕ) (lane : Lane) (o q : Offset) → IsOpd x → is_known (length m.globals) k.values x ≡ true → type_of types x ≡ Int w → value_of s.env x ≡ LaneValue lane → KnownSymbol o.symbol →
      with_index x scale o ≡ Some q → Indexed o q w scale lane
  indexed (Lit l) w scale lane o q lit there t v known e = by_lanes l.ty l.lanes t v e (every_of_all (λ lane. IsLane (lane_width l.ty) lane) l.lanes lit.2) where
    width : (u w : ℕ) → Int u ≡ Int w → u ≡ w
    width u w e = cc

    by_lanes : (t : Ty) (lanes : List (Option ℕ)) → t ≡ Int w → literal_value t lanes ≡ LaneValue lane → with_lane t lanes scale o ≡ Some q → Every (λ lane. IsLane (lane_width t) lane) lanes → Indexed o q w scale lane
    by_lanes (Int u) (Some n ∷ []) t v e h =
        let same : u ≡ w = width u w t in
        let is : Some n ≡ lane = cc in
        let offset : record { symbol = o.symbol; constant = advance_of o.constant n u scale } ≡ q = cc in
        subst (λ q. Indexed o q w scale lane) offset
        (subst (λ lane. Indexed o (record { symbol = o.symbol; constant = advance_of o.constant n u scale }) w scale lane) is
        (subst (λ w. Indexed o (record { symbol = o.symbol; constant = advance_of o.constant n u scale }) w scale (Some n)) same
        (record { same = λ p. stepped_literal p u scale n (symbol_value types s.env o.symbol) o.constant (small_mod n (2 ^ u) h.0); symbol = known })))
    by_lanes (Int u) [] t v e h = absurd cc
    by_lanes (Int u) (None ∷ lanes) t v e h = absurd cc
    by_lanes (Int u) (Some n ∷ b ∷ lanes) t v e h = absurd cc
    by_lanes Void lanes t v e h = absurd cc
    by_lanes Ptr lanes t v e h = absurd cc
    by_lanes (Row n u) lanes t v e h = absurd cc
  indexed (Val id) w scale lane o q lit there t v known e = by_symbol o.symbol refl e where
    by_symbol : (b : Option Symbol) → o.symbol ≡ b → beside_symbol (id, scale) o.constant b ≡ Some q → Indexed o q w scale lane
    by_symbol None none e =
        let offset : record { symbol = Some (id, scale); constant = o.constant } ≡ q = cc in
        subst (λ q. Indexed o q w scale lane) offset
        (record {
          same = λ p. ap (λ b. led_to (stepped w scale p lane) (symbol_value types s.env b) o.constant) none ∙ stepped_symbol p w scale lane o.constant
              ∙ ap (λ t. led_to p (scaled t (LaneValue lane) scale) o.constant) (sym t) ∙ ap (λ v. led_to p (scaled (types id) v scale) o.constant) (sym v);
          symbol = there;
        })
    by_symbol (Some x) some e = absurd cc
  indexed (Sym g) w scale lane o q lit there t v known e = absurd cc

  -- a pointer that leads further back
  pub record LedBack (p : Opd) (o : Offset) (q : Opd) (b : Offset) : Type 0 where
    pub known : is_known (length m.globals) k.values q ≡ true
    pub symbol : KnownSymbol b.symbol
    pub leads_on : (leads p o ≡ None) ⊎ (leads p o ≡ leads q b)

  pub known_opd : (os : List Opd) (o : Opd) → ((x : Id) → uses x os ≡ true → k.values x ≡ true) → ((x : Id) → o ≡ Val x → uses x os ≡ true) → IsValued (opd_ty m f o) → is_known (length m.globals) k.values o ≡ true
  known_opd os (Val x) there h v = there x (h x refl)
  known_opd os (Lit l) there h v = refl
  known_opd os (Sym g) there h v = global_there g (nat_lt g (length m.globals)) refl v

  pub uses_here : (o : Opd) (os : List Opd) (x : Id) → o ≡ Val x → uses x (o ∷ os) ≡ true
  uses_here (Val y) os x e = let same : y ≡ x = cc in ap (λ b. b || uses x os) (ap (λ z. same_id z x) same ∙ same_itself x)
  uses_here (Lit l) os x e = absurd cc
  uses_here (Sym g) os x e = absurd cc

  pub uses_later : (p : Opd) (os : List Opd) (x : Id) → uses x os ≡ true → uses x (p ∷ os) ≡ true
  uses_later (Val y) os x e = or_true (same_id y x) (uses x os) e where
    or_true : (a b : Bool) → b ≡ true → a || b ≡ true
    or_true true b h = refl
    or_true false b h = h
  uses_later (Lit l) os x e = e
  uses_later (Sym g) os x e = e

  pub shapes_of : (i : Inst) → IsStatement m f block i → ((x : Id) → uses x i.opds ≡ true → k.values x ≡ true) → OpdsShape m f s i.opds
  shapes_of i st there =
      opds_shape m f block k s ready i.opds (every_of_all IsOpd i.opds st.operands) there (typed_valued m (params_formed m formed) f.ret i.op i.ty (map (opd_ty m f) i.opds) st.typed st.calling)

  narrow_some : (w : ℕ) (q : Pointer) (v : Value) → option_map PtrValue (narrow w (Some q)) ≡ Some v → v ≡ PtrValue q
  narrow_some w q v e = by_test (nat_le w 64) e where
    by_test : (b : Bool) → option_map PtrValue (cond b (Some q) None) ≡ Some v → v ≡ PtrValue q
    by_test true e = cc
    by_test false e = absurd cc

  narrow_two : (w u : ℕ) (q : Pointer) (v : Value) → option_map PtrValue (narrow w (narrow u (Some q))) ≡ Some v → v ≡ PtrValue q
  narrow_two w u q v e = by_test (nat_le w 64) (nat_le u 64) e where
    by_test : (b c : Bool) → option_map PtrValue (cond b (cond c (Some q) None) None) ≡ Some v → v ≡ PtrValue q
    by_test true true e = cc
    by_test true false e = absurd cc
    by_test false c e = absurd cc

  -- the first scale counts whole elements
  first_scale : (elem : Elem) (x : Opd) (o b : Offset) → with_indices (scales_of elem) (x ∷ []) o ≡ Some b → with_index x (elem_size elem) o ≡ Some b
  first_scale (One (Int w)) x o b e = one (with_index x (w / 8) o) e where
    one : (c : Option Offset) → option_and_then (with_indices [] []) c ≡ Some b → c ≡ Some b
    one None e = absurd cc
    one (Some c) e = e
  first_scale (One Void) x o b e = absurd cc
  first_scale (One Ptr) x o b e = absurd cc
  first_scale (One (Row n w)) x o b e = absurd cc
  first_scale (Array n w) x o b e = one (with_index x (n * (w / 8)) o) e where
    one : (c : Option Offset) → option_and_then (with_indices (w / 8 ∷ []) []) c ≡ Some b → c ≡ Some b
    one None e = absurd cc
    one (Some c) e = e

  one_index : (id : Id) (elem : Elem) (w : ℕ) (p x : Opd) (o b : Offset) → IsOpd x → is_known (length m.globals) k.values p ≡ true → is_known (length m.globals) k.values x ≡ true → type_of types x ≡ Int w → HasShape (length s.memory) (Int w) (value_of s.env x) →
      KnownSymbol o.symbol → with_indices (scales_of elem) (x ∷ []) o ≡ Some b →
      (tp : Ty) → (s.env id ≡ PtrValue None) ⊎ (option_map PtrValue (walked elem (tp ∷ Int w ∷ []) (value_of s.env p ∷ value_of s.env x ∷ [])) ≡ Some (s.env id)) → LedBack (Val id) o p b
  one_index id elem w p x o b lit kp kx t shape known e tp c =
      let lane = lane_shape (length s.memory) w (value_of s.env x) shape in
      let i = indexed x w (elem_size elem) lane.0 o b lit kx t lane.1 known (first_scale elem x o b e) in
      record {
        known = kp;
        symbol = i.symbol;
        leads_on = by_computed c lane.0 lane.1 (λ v. ap (λ v. led_to (pointer_of v) (symbol_value types s.env o.symbol) o.constant) v ∙ i.same (pointer p));
      }
    where
      walked_one : (elem : Elem) (lane : Lane) → option_map PtrValue (narrow w (Some (stepped w (elem_size elem) (pointer p) lane))) ≡ option_map PtrValue (walked elem (tp ∷ Int w ∷ []) (value_of s.env p ∷ LaneValue lane ∷ []))
      walked_one (One u) lane = refl
      walked_one (Array n e) lane = refl

      by_computed : (s.env id ≡ PtrValue None) ⊎ (option_map PtrValue (walked elem (tp ∷ Int w ∷ []) (value_of s.env p ∷ value_of s.env x ∷ [])) ≡ Some (s.env id)) →
          (lane : Lane) → value_of s.env x ≡ LaneValue lane → (s.env id ≡ PtrValue (stepped w (elem_size elem) (pointer p) lane) → leads (Val id) o ≡ leads p b) →
          (leads (Val id) o ≡ None) ⊎ (leads (Val id) o ≡ leads p b)
      by_computed (inl z) lane is more = inl (ap (λ v. led_to (pointer_of v) (symbol_value types s.env o.symbol) o.constant) z)
      by_computed (inr c) lane is more =
          inr (more (narrow_some w (stepped w (elem_size elem) (pointer p) lane) (s.env id)
          (walked_one elem lane ∙ ap (λ v. option_map PtrValue (walked elem (tp ∷ Int w ∷ []) (value_of s.env p ∷ v ∷ []))) (sym is) ∙ c)))

  two_indices : (id : Id) (n e w u : ℕ) (p x y : Opd) (o b : Offset) → IsOpd x → IsOpd y → is_known (length m.globals) k.values p ≡ true → is_known (length m.globals) k.values x ≡ true → is_known (length m.globals) k.values y ≡ true →
      type_of types x ≡ Int w → type_of types y ≡ Int u → HasShape (length s.memory) (Int w) (value_of s.env x) → HasShape (length s.memory) (Int u) (value_of s.env y) →
      KnownSymbol o.symbol → with_indices (scales_of (Array n e)) (x ∷ y ∷ []) o ≡ Some b →
      (tp : Ty) → (s.env id ≡ PtrValue None) ⊎ (option_map PtrValue (walked (Array n e) (tp ∷ Int w ∷ Int u ∷ []) (value_of s.env p ∷ value_of s.env x ∷ value_of s.env y ∷ [])) ≡ Some (s.env id)) → LedBack (Val id) o p b
  two_indices id n e w u p x y o b lx ly kp kx ky tx ty sx sy known h tp c = by_first (with_index x (n * (e / 8)) o) refl h where
    xl : (lane : Lane) × (value_of s.env x ≡ LaneValue lane)
    xl = lane_shape (length s.memory) w (value_of s.env x) sx

    yl : (lane : Lane) × (value_of s.env y ≡ LaneValue lane)
    yl = lane_shape (length s.memory) u (value_of s.env y) sy

    value : option_map PtrValue (walked (Array n e) (tp ∷ Int w ∷ Int u ∷ []) (value_of s.env p ∷ value_of s.env x ∷ value_of s.env y ∷ [])) ≡ Some (s.env id) →
        s.env id ≡ PtrValue (stepped u (bytes_in e) (stepped w (n * bytes_in e) (pointer p) xl.0) yl.0)
    value c = narrow_two w u (stepped u (bytes_in e) (stepped w (n * bytes_in e) (pointer p) xl.0) yl.0) (s.env id)
        (ap (λ v. option_map PtrValue (walked (Array n e) (tp ∷ Int w ∷ Int u ∷ []) (value_of s.env p ∷ v ∷ LaneValue yl.0 ∷ []))) (sym xl.1)
        ∙ ap (λ v. option_map PtrValue (walked (Array n e) (tp ∷ Int w ∷ Int u ∷ []) (value_of s.env p ∷ value_of s.env x ∷ v ∷ []))) (sym yl.1) ∙ c)

    by_computed : (s.env id ≡ PtrValue None) ⊎ (option_map PtrValue (walked (Array n e) (tp ∷ Int w ∷ Int u ∷ []) (value_of s.env p ∷ value_of s.env x ∷ value_of s.env y ∷ [])) ≡ Some (s.env id)) →
        (s.env id ≡ PtrValue (stepped u (bytes_in e) (stepped w (n * bytes_in e) (pointer p) xl.0) yl.0) → leads (Val id) o ≡ leads p b) →
        (leads (Val id) o ≡ None) ⊎ (leads (Val id) o ≡ leads p b)
    by_computed (inl z) more = inl (ap (λ v. led_to (pointer_of v) (symbol_value types s.env o.symbol) o.constant) z)
    by_computed (inr c) more = inr (more (value c))

    by_second : (a : Offset) → with_index x (n * (e / 8)) o ≡ Some a → (q : Option Offset) → with_index y (e / 8) a ≡ q → option_and_then (with_indices [] []) q ≡ Some b → LedBack (Val id) o p b
    by_second a ea None eq h = absurd cc
    by_second a ea (Some q) eq h =
        let same : q ≡ b = cc in
        let first = indexed x w (n * (e / 8)) xl.0 o a lx kx tx xl.1 known ea in
        let second = indexed y u (e / 8) yl.0 a b ly ky ty yl.1 first.symbol (eq ∙ ap Some same) in
        record {
          known = kp;
          symbol = second.symbol;
          leads_on = by_computed c (λ value. ap (λ v. led_to (pointer_of v) (symbol_value types s.env o.symbol) o.constant) value
              ∙ ap (λ q. led_to q (symbol_value types s.env o.symbol) o.constant) (stepped_swap (pointer p) u (bytes_in e) w (n * bytes_in e) yl.0 xl.0)
              ∙ first.same (stepped u (e / 8) (pointer p) yl.0) ∙ second.same (pointer p));
        }

    by_first : (a : Option Offset) → with_index x (n * (e / 8)) o ≡ a → option_and_then (with_indices (e / 8 ∷ []) (y ∷ [])) a ≡ Some b → LedBack (Val id) o p b
    by_first None ea h = absurd cc
    by_first (Some a) ea h = by_second a ea (with_index y (e / 8) a) refl h

  -- what is known of the block and is no phi has run
  pub ran_for : (x : Id) (i : Inst) → k.values x ≡ true → find x block ≡ Some i → is_phi i.op ≡ false → IsIn i k.done
  ran_for x i known e plain = by_case (ready.found x i known e) where
    by_case : (is_phi i.op ≡ true) ⊎ IsIn i k.done → IsIn i k.done
    by_case (inl p) = absurd (true_false (sym p ∙ plain))
    by_case (inr d) = d

  same_led : (p q : Opd) (w : Option Offset) (b : Offset) → option_map {U = Led} (λ (c : Offset). (p, c)) w ≡ Some (q, b) → (p ≡ q) × (w ≡ Some b)
  same_led p q None b e = absurd cc
  same_led p q (Some c) b e = (ap first e, ap second e) where
    first : Option Led → Opd
    first None = p
    first (Some l) = l.0

    second : Option Led → Option Offset
    second None = None
    second (Some l) = Some l.1

  pub led_one : (p q : Opd) (o b : Offset) → is_known (length m.globals) k.values p ≡ true → KnownSymbol o.symbol → led_back block p o ≡ Some (q, b) → LedBack p o q b
  led_one (Lit l) q o b kn known e = absurd cc
  led_one (Sym g) q o b kn known e = absurd cc
  led_one (Val x) q o b kn known e = by_found (find x block) refl e where
    by_gep : (i : Inst) → find x block ≡ Some i → (elem : Elem) (inbounds : Bool) → i.op ≡ Gep elem inbounds → led_op (Gep elem inbounds) i.opds o ≡ Some (q, b) → LedBack (Val x) o q b
    by_gep i fe elem inbounds is e = by_types typed.4 where
      done : IsIn i k.done
      done = ran_for x i kn fe (ap is_phi is)

      st : IsStatement m f block i × ((x : Id) → uses x i.opds ≡ true → k.values x ≡ true)
      st = ready.ran i done

      typed : (w : ℕ) × IsStep elem × (is_width w ≡ true) × (i.ty ≡ Ptr) × ((map (opd_ty m f) i.opds ≡ Some Ptr ∷ Some (Int w) ∷ []) ⊎ HasTwoIndices elem w (map (opd_ty m f) i.opds))
      typed = subst (λ op. IsTyped f.ret op i.ty (map (opd_ty m f) i.opds)) is st.0.typed

      shapes : OpdsShape m f s i.opds
      shapes = shapes_of i st.0 st.1

      same : i.id ≡ x
      same = same_is i.id x (find_id x block i fe)

      -- what it is computed from
      computed : (os : List Opd) → i.opds ≡ os → (s.env x ≡ PtrValue None) ⊎ (option_map PtrValue (walked elem (map (type_of types) os) (map (value_of s.env) os)) ≡ Some (s.env x))
      computed os eo = by_case (ready.computed i done (ap has_formula is)) where
        by_case : (s.env i.id ≡ PtrValue None) ⊎ (formula i.op i.ty (map (type_of types) i.opds) (map (value_of s.env) i.opds) ≡ Some (s.env i.id)) →
            (s.env x ≡ PtrValue None) ⊎ (option_map PtrValue (walked elem (map (type_of types) os) (map (value_of s.env) os)) ≡ Some (s.env x))
        by_case (inl z) = inl (ap s.env (sym same) ∙ z)
        by_case (inr z) =
            inr (ap (λ os. option_map PtrValue (walked elem (map (type_of types) os) (map (value_of s.env) os))) (sym eo)
            ∙ ap (λ t. formula (Gep elem inbounds) t (map (type_of types) i.opds) (map (value_of s.env) i.opds)) (sym typed.3)
            ∙ ap (λ op. formula op i.ty (map (type_of types) i.opds) (map (value_of s.env) i.opds)) (sym is) ∙ z ∙ ap (λ x. Some (s.env x)) same)

      lits : (os : List Opd) → i.opds ≡ os → Every IsOpd os
      lits os eo = subst (Every IsOpd) eo (every_of_all IsOpd i.opds st.0.operands)

      valued : (os : List Opd) → i.opds ≡ os → Every IsValued (map (opd_ty m f) os)
      valued os eo = subst (λ os. Every IsValued (map (opd_ty m f) os)) eo (typed_valued m (params_formed m formed) f.ret i.op i.ty (map (opd_ty m f) i.opds) st.0.typed st.0.calling)

      there : (os : List Opd) → i.opds ≡ os → (x : Id) → uses x os ≡ true → k.values x ≡ true
      there os eo x u = st.1 x (ap (uses x) eo ∙ u)

      all_shapes : (os : List Opd) → i.opds ≡ os → AllZip (HasShape (length s.memory)) (map (type_of types) os) (map (value_of s.env) os)
      all_shapes os eo = subst (λ os. AllZip (HasShape (length s.memory)) (map (type_of types) os) (map (value_of s.env) os)) eo shapes.shapes

      one : (w : ℕ) (p y : Opd) → i.opds ≡ p ∷ y ∷ [] → type_of types y ≡ Int w → LedBack (Val x) o q b
      one w p y eo ty =
          let l = same_led p q (with_indices (scales_of elem) (y ∷ []) o) b (ap (λ os. led_op (Gep elem inbounds) os o) (sym eo) ∙ e) in
          subst (λ q. LedBack (Val x) o q b) l.0
          (one_index x elem w p y o b (lits (p ∷ y ∷ []) eo).1.0
          (known_opd (p ∷ y ∷ []) p (there (p ∷ y ∷ []) eo) (λ z d. uses_here p (y ∷ []) z d) (valued (p ∷ y ∷ []) eo).0)
          (known_opd (p ∷ y ∷ []) y (there (p ∷ y ∷ []) eo) (λ z d. uses_later p (y ∷ []) z (uses_here y [] z d)) (valued (p ∷ y ∷ []) eo).1.0) ty
          (subst (λ t. HasShape (length s.memory) t (value_of s.env y)) ty (all_shapes (p ∷ y ∷ []) eo).1.0) known l.1 (type_of types p)
          (subst (λ t. (s.env x ≡ PtrValue None) ⊎ (option_map PtrValue (walked elem (type_of types p ∷ t ∷ []) (value_of s.env p ∷ value_of s.env y ∷ [])) ≡ Some (s.env x))) ty (computed (p ∷ y ∷ []) eo)))

      two : (n e u w : ℕ) (p y z : Opd) → elem ≡ Array n e → i.opds ≡ p ∷ y ∷ z ∷ [] → type_of types y ≡ Int u → type_of types z ≡ Int w → LedBack (Val x) o q b
      two n c u w p y z ee eo ty tz =
          let l = same_led p q (with_indices (scales_of elem) (y ∷ z ∷ []) o) b (ap (λ os. led_op (Gep elem inbounds) os o) (sym eo) ∙ e) in
          subst (λ q. LedBack (Val x) o q b) l.0
          (two_indices x n c u w p y z o b (lits (p ∷ y ∷ z ∷ []) eo).1.0 (lits (p ∷ y ∷ z ∷ []) eo).1.1.0
          (known_opd (p ∷ y ∷ z ∷ []) p (there (p ∷ y ∷ z ∷ []) eo) (λ v d. uses_here p (y ∷ z ∷ []) v d) (valued (p ∷ y ∷ z ∷ []) eo).0)
          (known_opd (p ∷ y ∷ z ∷ []) y (there (p ∷ y ∷ z ∷ []) eo) (λ v d. uses_later p (y ∷ z ∷ []) v (uses_here y (z ∷ []) v d)) (valued (p ∷ y ∷ z ∷ []) eo).1.0)
          (known_opd (p ∷ y ∷ z ∷ []) z (there (p ∷ y ∷ z ∷ []) eo) (λ v d. uses_later p (y ∷ z ∷ []) v (uses_later y (z ∷ []) v (uses_here z [] v d))) (valued (p ∷ y ∷ z ∷ []) eo).1.1.0) ty tz
          (subst (λ t. HasShape (length s.memory) t (value_of s.env y)) ty (all_shapes (p ∷ y ∷ z ∷ []) eo).1.0)
          (subst (λ t. HasShape (length s.memory) t (value_of s.env z)) tz (all_shapes (p ∷ y ∷ z ∷ []) eo).1.1.0) known
          (ap (λ elem. with_indices (scales_of elem) (y ∷ z ∷ []) o) (sym ee) ∙ l.1) (type_of types p)
          (subst (λ elem. (s.env x ≡ PtrValue None) ⊎ (option_map PtrValue (walked elem (type_of types p ∷ Int u ∷ Int w ∷ []) (value_of s.env p ∷ value_of s.env y ∷ value_of s.env z ∷ [])) ≡ Some (s.env x))) ee
          (subst (λ t. (s.env x ≡ PtrValue None) ⊎ (option_map PtrValue (walked elem (type_of types p ∷ Int u ∷ t ∷ []) (value_of s.env p ∷ value_of s.env y ∷ value_of s.env z ∷ [])) ≡ Some (s.env x))) tz
          (subst (λ t. (s.env x ≡ PtrValue None) ⊎ (option_map PtrValue (walked elem (type_of types p ∷ t ∷ type_of types z ∷ []) (value_of s.env p ∷ value_of s.env y ∷ value_of s.env z ∷ [])) ≡ Some (s.env x))) ty
          (computed (p ∷ y ∷ z ∷ []) eo)))))

      by_two : (elem_is : Elem) → elem ≡ elem_is → HasTwoIndices elem_is typed.0 (map (opd_ty m f) i.opds) → LedBack (Val x) o q b
      by_two (One t) ee h = elim h [ ]
      by_two (Array n c) ee h =
          let os = three_opds (type_of types) i.opds Ptr (Int typed.0) (Int h.0) (same_types (map (type_of types) i.opds) (Ptr ∷ Int typed.0 ∷ Int h.0 ∷ []) (sym shapes.types ∙ h.2)) in
          two n c typed.0 h.0 os.0 os.1 os.2 ee os.3 os.5 os.6

      by_types : (map (opd_ty m f) i.opds ≡ Some Ptr ∷ Some (Int typed.0) ∷ []) ⊎ HasTwoIndices elem typed.0 (map (opd_ty m f) i.opds) → LedBack (Val x) o q b
      by_types (inl h) =
          let os = two_opds (type_of types) i.opds Ptr (Int typed.0) (same_types (map (type_of types) i.opds) (Ptr ∷ Int typed.0 ∷ []) (sym shapes.types ∙ h)) in
          one typed.0 os.0 os.1 os.2 os.4
      by_types (inr h) = by_two elem refl h

    by_op : (i : Inst) → find x block ≡ Some i → (op : Op) → i.op ≡ op → led_op op i.opds o ≡ Some (q, b) → LedBack (Val x) o q b
    by_op i fe (Gep elem inbounds) is e = by_gep i fe elem inbounds is e
    by_op i fe op is e = absurd cc

    by_found : (i : Option Inst) → find x block ≡ i → led_by o i ≡ Some (q, b) → LedBack (Val x) o q b
    by_found None fe e = absurd cc
    by_found (Some i) fe e = by_op i fe i.op refl e

  -- ---- the walk over pointers

  -- a pointer is poison, or leads where the walk ended
  pub record LedTo (p : Pointer) (w : Walked) : Type 0 where
    pub known : is_known (length m.globals) k.values w.pointer ≡ true
    pub symbol : KnownSymbol w.offset.symbol
    pub leads_on : (p ≡ None) ⊎ (p ≡ leads w.pointer w.offset)

  pub led_pointers : (n : ℕ) (at : Pointer) (p : Opd) (o : Offset) → is_known (length m.globals) k.values p ≡ true → KnownSymbol o.symbol → (at ≡ None) ⊎ (at ≡ leads p o) → LedTo at (pointers n block p o)
  led_pointers zero at p o kn known l = record { known = kn; symbol = known; leads_on = l }
  led_pointers (suc n) at p o kn known l = by_back (led_back block p o) refl (λ q b kq kb l. led_pointers n at q b kq kb l) where
    joined : (q : Opd) (b : Offset) → (at ≡ None) ⊎ (at ≡ leads p o) → (leads p o ≡ None) ⊎ (leads p o ≡ leads q b) → (at ≡ None) ⊎ (at ≡ leads q b)
    joined q b (inl e) x = inl e
    joined q b (inr e) (inl d) = inl (e ∙ d)
    joined q b (inr e) (inr d) = inr (e ∙ d)

    by_back : (led : Option Led) → led_back block p o ≡ led → ((q : Opd) (b : Offset) → is_known (length m.globals) k.values q ≡ true → KnownSymbol b.symbol → (at ≡ None) ⊎ (at ≡ leads q b) → LedTo at (pointers n block q b)) →
        LedTo at (or_stay (record { pointer = p; offset = o; left = suc n }) led (λ led. pointers n block led.0 led.1))
    by_back None e more = record { known = kn; symbol = known; leads_on = l }
    by_back (Some led) e more = let r = led_one p led.0 o led.1 kn known e in more led.0 led.1 r.known r.symbol (joined led.0 led.1 l r.leads_on)

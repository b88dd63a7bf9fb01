-- The start of a function on arguments that fit: parameters and globals stand apart where their kinds never meet.
use Rattle.std.proofs.Common.{◌≡◌, refl, sym, ap, ◌∙◌, subst, ℕ, ℤ, zero, suc, ◌<◌, ◌≤◌, ◌⊎◌, inl, inr, Bool, true, false, not, ◌&&◌, ◌||◌, cond, None, Some, List, [], ◌∷◌, ◌++◌, length, map, nat_eq, nat_le, nat_lt, slice_get, if◌then◌else◌, arith}
use Rattle.std.specs.List.{list_any}
use Rattle.std.proofs.lemmas.Bool.Decides.{nat_tests}
use Rattle.ir_types.specs.declared.id.Id.{Id}
use Rattle.ir_types.specs.declared.ty.Ty.{Ty}
use Rattle.ir_types.specs.declared.ty.Ty.TheVariants.{Void, Int, Ptr, Row}
use Rattle.ir_types.specs.declared.opd.Opd.{Opd}
use Rattle.ir_types.specs.declared.opd.Opd.TheVariants.{Val, Lit, Sym}
use Rattle.ir_types.specs.declared.func.Param.{Param}
use Rattle.ir_types.specs.declared.func.Func.{Func}
use Rattle.ir_types.specs.declared.module.Item.{Item}
use Rattle.ir_types.specs.declared.module.Item.TheVariants.{Kept, Opaque, Func as FuncItem}
use Rattle.ir_types.specs.declared.module.Module.{Module}
use Rattle.ir_types.specs.Typed.{is_value}
use Rattle.ir_types.specs.Available.{stands_on}
use Rattle.ir_types.specs.Formed.{or_else, ty_in_params, ty_in_blocks, block_ids, item_ids, ids_of_items, IsFormedItem, IsFormed}
use Rattle.ir_types.proofs.Formed.{Every, every_at, every_of_all}
use Rattle.ir_types.proofs.Among.{among, same_is, swapped, among_left, among_right, Once, once_of_pairs}
use Rattle.ir_model.specs.declared.value.Value.{Value}
use Rattle.ir_model.specs.declared.value.Value.TheVariants.{Lane as LaneValue, Row as RowValue, Ptr as PtrValue}
use Rattle.ir_model.specs.Values.{Lane, Pointer, Env, same_id, pointer_of, literal_value, value_of}
use Rattle.ir_model.specs.Memory.{Memory}
use Rattle.ir_model.specs.Run.{start_env, names, is_unshared, noalias_holds}
use Rattle.ir_model.specs.Fits.{Fits}
use Rattle.ir_model.specs.Shapes.{HasShape}
use Rattle.ir_model.proofs.Ids.{once_right, once_apart}
use Rattle.ir_model.proofs.Walked.{stands_start}
use Rattle.ir_model.proofs.Sound.{start_shape, found_item}
use Rattle.vx_view.specs.Answers.{funcs_of, param_in, either, param_of, found}
use Rattle.vx_view.specs.Conflicts.{Kind, Global, Unknown, param_kind, value_kind, kind_of, never_meet}
use Rattle.vx_view.proofs.Edits.{lacks_left}
use Rattle.rf_order.specs.Ready.{has_kind, NamesOne, NameOthers, is_known, RootsApart}
use Rattle.rf_order.specs.Blocks.{IsEntered, StartsAreEntered}
use Rattle.rf_order.proofs.Shapes.{never_kinds}
use Rattle.vx_serial.proofs.Decided.{and_left, and_right, or_left, or_right, true_false}

-- ---- parameters

abbrev ParamIds : List Param → List Id
ParamIds ps = map (λ (p : Param). p.id) ps

record Parameter (ps : List Param) (x : Id) : Type 0 where
  param : Param
  there : param_in x ps ≡ Some param
  type : ty_in_params x ps ≡ Some param.ty
  valued : is_value param.ty ≡ true
  among_ids : among (ParamIds ps) x ≡ true

parameter : (ps : List Param) (x : Id) → list_any (λ (p : Param). same_id p.id x) ps ≡ true → Every (λ (p : Param). is_value p.ty ≡ true) ps → Parameter ps x
parameter [] x h v = absurd cc
parameter (p ∷ ps) x h v = by_test (same_id p.id x) refl h (λ k. parameter ps x k v.1) where
  by_test : (b : Bool) → same_id p.id x ≡ b → b || list_any (λ (p : Param). same_id p.id x) ps ≡ true → (list_any (λ (p : Param). same_id p.id x) ps ≡ true → Parameter ps x) → Parameter (p ∷ ps) x
  by_test true e h more = record {
    param = p;
    there = ap (λ b. cond b (Some p) (param_in x ps)) e;
    type = ap (λ b. if b then Some p.ty else ty_in_params x ps) e;
    valued = v.0;
    among_ids = ap (λ b. b || among (ParamIds ps) x) e;
  }
  by_test false e h more = let r = more h in record {
    param = r.param;
    there = ap (λ b. cond b (Some p) (param_in x ps)) e ∙ r.there;
    type = ap (λ b. if b then Some p.ty else ty_in_params x ps) e ∙ r.type;
    valued = r.valued;
    among_ids = ap (λ b. b || among (ParamIds ps) x) e ∙ r.among_ids;
  }

in_none : (ps : List Param) (x : Id) → among (ParamIds ps) x ≡ false → param_in x ps ≡ None
in_none [] x h = refl
in_none (p ∷ ps) x h = ap (λ b. cond b (Some p) (param_in x ps)) (or_left (same_id p.id x) (among (ParamIds ps) x) h) ∙ in_none ps x (or_right (same_id p.id x) (among (ParamIds ps) x) h)

item_among : (items : List Item) (k : ℕ) (f : Func) (x : Id) → slice_get items k ≡ Some (FuncItem f) → among (ParamIds f.params) x ≡ true → among (ids_of_items items) x ≡ true
item_among [] k f x e h = absurd cc
item_among (item ∷ items) zero f x e h =
    let same : item ≡ FuncItem f = cc in
    among_left (item_ids item) (ids_of_items items) x (ap (λ i. among (item_ids i) x) same ∙ among_left (ParamIds f.params) (block_ids f.blocks) x h)
item_among (item ∷ items) (suc k) f x e h = among_right (item_ids item) (ids_of_items items) x (item_among items k f x e h)

-- in the module it is that parameter
of_items : (items : List Item) (k : ℕ) (f : Func) (x : Id) (p : Param) → slice_get items k ≡ Some (FuncItem f) → param_in x f.params ≡ Some p → among (ParamIds f.params) x ≡ true → Once (ids_of_items items) →
    param_of x (funcs_of items) ≡ Some p
of_items [] k f x p e h a once = absurd cc
of_items (Kept text ∷ items) zero f x p e h a once = absurd cc
of_items (Opaque text ∷ items) zero f x p e h a once = absurd cc
of_items (FuncItem g ∷ items) zero f x p e h a once =
    let same : g ≡ f = cc in ap (λ o. either o (param_of x (funcs_of items))) (ap (λ (g : Func). param_in x g.params) same ∙ h)
of_items (Kept text ∷ items) (suc k) f x p e h a once = of_items items k f x p e h a once
of_items (Opaque text ∷ items) (suc k) f x p e h a once = of_items items k f x p e h a once
of_items (FuncItem g ∷ items) (suc k) f x p e h a once =
    ap (λ o. either o (param_of x (funcs_of items)))
    (in_none g.params x (lacks_left (ParamIds g.params) (block_ids g.blocks) x (once_apart (item_ids (FuncItem g)) (ids_of_items items) x once (item_among items k f x e a))))
    ∙ of_items items k f x p e h a (once_right (item_ids (FuncItem g)) (ids_of_items items) once)

-- ---- `noalias`

named_in : (ps : List Param) (vs : List Value) (o : ℕ) (y : Id) → list_any (names o) vs ≡ false → names o (start_env ps vs y) ≡ false
named_in [] vs o y h = refl
named_in (p ∷ ps) [] o y h = refl
named_in (p ∷ ps) (v ∷ vs) o y h = by_test (same_id y p.id) (or_left (names o v) (list_any (names o) vs) h) (named_in ps vs o y (or_right (names o v) (list_any (names o) vs) h)) where
  by_test : (b : Bool) → names o v ≡ false → names o (start_env ps vs y) ≡ false → names o (cond b v (start_env ps vs y)) ≡ false
  by_test true h k = h
  by_test false h k = k

any_append : (o : ℕ) (xs ys : List Value) → list_any (names o) (xs ++ ys) ≡ (list_any (names o) xs || list_any (names o) ys)
any_append o [] ys = refl
any_append o (x ∷ xs) ys = ap (λ b. names o x || b) (any_append o xs ys) ∙ or_assoc (names o x) (list_any (names o) xs) (list_any (names o) ys) where
  or_assoc : (a b c : Bool) → (a || (b || c)) ≡ ((a || b) || c)
  or_assoc true b c = refl
  or_assoc false b c = refl

-- a `noalias` argument's object is no global's, and no other argument's
record IsAlone (globals : ℕ) (before : List Value) (ps : List Param) (vs : List Value) (x : Id) (o : ℕ) : Type 0 where
  no_global : globals ≤ o
  none_before : list_any (names o) before ≡ false
  no_other : (y : Id) → same_id x y ≡ false → names o (start_env ps vs y) ≡ false

not_false : (b : Bool) → not b ≡ true → b ≡ false
not_false false h = refl
not_false true h = absurd cc

alone : (globals : ℕ) (ps : List Param) (vs before : List Value) → noalias_holds globals before ps vs ≡ true → (x : Id) (p : Param) → param_in x ps ≡ Some p → p.noalias ≡ true →
    (o : ℕ) (z : ℤ) → start_env ps vs x ≡ PtrValue (Some (o, z)) → IsAlone globals before ps vs x o
alone globals [] vs before h x p e noalias o z v = absurd cc
alone globals (q ∷ ps) [] before h x p e noalias o z v = absurd cc
alone globals (q ∷ ps) (w ∷ vs) before h x p e noalias o z v =
    by_test (same_id q.id x) refl e (swapped x q.id)
    (λ e v. alone globals ps vs (w ∷ before) (and_right (not q.noalias || is_unshared globals w (before ++ vs)) (noalias_holds globals (w ∷ before) ps vs) h) x p e noalias o z v)
  where
    first : q.noalias ≡ true → w ≡ PtrValue (Some (o, z)) → nat_le globals o && not (list_any (names o) (before ++ vs)) ≡ true
    first n is =
        ap (λ w. is_unshared globals w (before ++ vs)) (sym is)
        ∙ ap (λ b. not b || is_unshared globals w (before ++ vs)) (sym n) ∙ and_left (not q.noalias || is_unshared globals w (before ++ vs)) (noalias_holds globals (w ∷ before) ps vs) h

    here : q.id ≡ x → q.noalias ≡ true → w ≡ PtrValue (Some (o, z)) → IsAlone globals before (q ∷ ps) (w ∷ vs) x o
    here same n is =
        let f = first n is in
        let none : list_any (names o) before || list_any (names o) vs ≡ false =
        sym (any_append o before vs) ∙ not_false (list_any (names o) (before ++ vs)) (and_right (nat_le globals o) (not (list_any (names o) (before ++ vs))) f) in
        record {
          no_global = (let l = and_left (nat_le globals o) (not (list_any (names o) (before ++ vs))) f in grind (arith, nat_tests));
          none_before = or_left (list_any (names o) before) (list_any (names o) vs) none;
          no_other = λ y d. ap (λ b. names o (cond b w (start_env ps vs y))) (swapped y q.id ∙ ap (λ z. same_id z y) same ∙ d) ∙ named_in ps vs o y (or_right (list_any (names o) before) (list_any (names o) vs) none);
        }

    later : IsAlone globals (w ∷ before) ps vs x o → IsAlone globals before (q ∷ ps) (w ∷ vs) x o
    later a = record {
      no_global = a.no_global;
      none_before = or_right (names o w) (list_any (names o) before) a.none_before;
      no_other = λ y d. by_id y (same_id y q.id) (or_left (names o w) (list_any (names o) before) a.none_before) (a.no_other y d);
    }
      where
        by_id : (y : Id) (b : Bool) → names o w ≡ false → names o (start_env ps vs y) ≡ false → names o (cond b w (start_env ps vs y)) ≡ false
        by_id y true h k = h
        by_id y false h k = k

    by_test : (b : Bool) → same_id q.id x ≡ b → cond b (Some q) (param_in x ps) ≡ Some p → same_id x q.id ≡ same_id q.id x →
        (param_in x ps ≡ Some p → start_env ps vs x ≡ PtrValue (Some (o, z)) → IsAlone globals (w ∷ before) ps vs x o) → IsAlone globals before (q ∷ ps) (w ∷ vs) x o
    by_test true t e turned more =
        let same : q ≡ p = cc in
        here (same_is q.id x t) (ap (λ (q : Param). q.noalias) same ∙ noalias) (sym (ap (λ b. cond b w (start_env ps vs x)) (turned ∙ t)) ∙ v)
    by_test false t e turned more = later (more e (sym (ap (λ b. cond b w (start_env ps vs x)) (turned ∙ t)) ∙ v))

-- ---- the start

shape_names : (objects : ℕ) (t : Ty) (v : Value) → HasShape objects t v → NamesOne objects (pointer_of v)
shape_names objects Ptr (PtrValue (Some p)) h = h.0
shape_names objects Ptr (PtrValue None) h = tt
shape_names objects t (LaneValue a) h = tt
shape_names objects t (RowValue a) h = tt
shape_names objects Void (PtrValue p) h = elim h [ ]
shape_names objects (Int w) (PtrValue p) h = elim h [ ]
shape_names objects (Row n w) (PtrValue p) h = elim h [ ]

pointer_is : (v : Value) (o : ℕ) (z : ℤ) → pointer_of v ≡ Some (o, z) → v ≡ PtrValue (Some (o, z))
pointer_is (PtrValue p) o z e = ap PtrValue e
pointer_is (LaneValue a) o z e = absurd cc
pointer_is (RowValue a) o z e = absurd cc

-- a parameter that never meets another is `noalias`, or the other is
one_alone : (t u : Ty) (n l : Bool) → never_meet (param_kind t n) (param_kind u l) ≡ true → (n ≡ true) ⊎ (l ≡ true)
one_alone t u true l h = inl refl
one_alone t u false true h = inr refl
one_alone Ptr Ptr false false h = absurd (true_false (sym h))
one_alone Ptr Void false false h = absurd (true_false (sym h))
one_alone Ptr (Int w) false false h = absurd (true_false (sym h))
one_alone Ptr (Row n w) false false h = absurd (true_false (sym h))
one_alone Void u false false h = absurd (true_false (sym h))
one_alone (Int w) u false false h = absurd (true_false (sym h))
one_alone (Row n w) u false false h = absurd (true_false (sym h))

alone_of_global : (t : Ty) (n : Bool) → never_meet (param_kind t n) Global ≡ true → n ≡ true
alone_of_global t true h = refl
alone_of_global Ptr false h = absurd (true_false (sym h))
alone_of_global Void false h = absurd (true_false (sym h))
alone_of_global (Int w) false h = absurd (true_false (sym h))
alone_of_global (Row n w) false h = absurd (true_false (sym h))

global_alone : (t : Ty) (n : Bool) → never_meet Global (param_kind t n) ≡ true → n ≡ true
global_alone t true h = refl
global_alone Ptr false h = absurd (true_false (sym h))
global_alone Void false h = absurd (true_false (sym h))
global_alone (Int w) false h = absurd (true_false (sym h))
global_alone (Row n w) false h = absurd (true_false (sym h))

module _ (m : Module) (formed : IsFormed m) (f : Func) (k : ℕ) (item : slice_get m.items k ≡ Some (FuncItem f)) (params : Every (λ (p : Param). is_value p.ty ≡ true) f.params)
    (args : List Value) (memory : Memory) (fits : Fits m f args memory) (holds : noalias_holds (length m.globals) [] f.params args ≡ true) where
  abbrev Start : Env
  Start = start_env f.params args

  of : (x : Id) → stands_on f x 0 (0 ∷ []) ≡ true → Parameter f.params x
  of x h = parameter f.params x (stands_start f x h) params

  kind : (x : Id) (p : Parameter f.params x) → kind_of m (Val x) ≡ param_kind p.param.ty p.param.noalias
  kind x p = ap (λ o. value_kind o (found m x)) (of_items m.items k f x p.param item p.there p.among_ids (once_of_pairs (ids_of_items m.items) formed.once))

  literal_none : (t : Ty) (lanes : List Lane) → pointer_of (literal_value t lanes) ≡ None
  literal_none (Int w) [] = refl
  literal_none (Int w) (a ∷ []) = refl
  literal_none (Int w) (a ∷ b ∷ lanes) = refl
  literal_none (Row n w) lanes = refl
  literal_none Ptr lanes = refl
  literal_none Void lanes = refl

  within : (a : Opd) → is_known (length m.globals) (λ x. stands_on f x 0 (0 ∷ [])) a ≡ true → has_kind (kind_of m a) ≡ true → NamesOne (length memory) (pointer_of (value_of Start a))
  within (Val x) h hk =
      let p = of x h in
      shape_names (length memory) p.param.ty (Start x)
      ((start_shape m f args memory fits).values x p.param.ty (ap (λ o. or_else o (ty_in_blocks x f.blocks)) p.type) p.valued h)
  within (Lit l) h hk = subst (NamesOne (length memory)) (sym (literal_none l.ty l.lanes)) tt
  within (Sym g) h hk = let less : g < length m.globals = grind (arith, nat_tests) in let some = fits.globals in omega arith

  abbrev object_at : Pointer → ℕ
  object_at None = 0
  object_at (Some p) = p.0

  own_name : (o : ℕ) (v : Value) (y : ℤ) → v ≡ PtrValue (Some (o, y)) → names o v ≡ true
  own_name o v y e = ap (names o) e ∙ itself o where
    itself : (o : ℕ) → nat_eq o o ≡ true
    itself o = grind (arith, nat_tests)

  -- a `noalias` parameter against another
  apart : (x y : Id) (p : Parameter f.params x) → p.param.noalias ≡ true → same_id x y ≡ false → (o : ℕ) (z u : ℤ) → pointer_of (Start x) ≡ Some (o, z) → pointer_of (Start y) ≡ Some (o, u) → ⊥
  apart x y p n d o z u ex ey =
      let a = alone (length m.globals) f.params args [] holds x p.param p.there n o z (pointer_is (Start x) o z ex) in
      true_false (sym (own_name o (Start y) u (pointer_is (Start y) o u ey)) ∙ a.no_other y d)

  from_global : (x : Id) (g : ℕ) (p : Parameter f.params x) → p.param.noalias ≡ true → nat_lt g (length m.globals) ≡ true → (o : ℕ) (z u : ℤ) → pointer_of (Start x) ≡ Some (o, z) → pointer_of (value_of Start (Sym g)) ≡ Some (o, u) → ⊥
  from_global x g p n less o z u ex ey =
      let a = alone (length m.globals) f.params args [] holds x p.param p.there n o z (pointer_is (Start x) o z ex) in
      let same : g ≡ o = ap object_at ey in
      let far = a.no_global in
      let near : g < length m.globals = grind (arith, nat_tests) in
      absurd (omega arith)

  roots : RootsApart m (λ x. stands_on f x 0 (0 ∷ [])) Start
  roots (Val x) (Val y) hx hy differ never = by_alone (one_alone px.param.ty py.param.ty px.param.noalias py.param.noalias kinds) where
    px : Parameter f.params x
    px = of x hx

    py : Parameter f.params y
    py = of y hy

    kinds : never_meet (param_kind px.param.ty px.param.noalias) (param_kind py.param.ty py.param.noalias) ≡ true
    kinds = ap (λ (a : Kind). never_meet a (param_kind py.param.ty py.param.noalias)) (sym (kind x px)) ∙ ap (never_meet (kind_of m (Val x))) (sym (kind y py)) ∙ never

    by_alone : (px.param.noalias ≡ true) ⊎ (py.param.noalias ≡ true) → NameOthers (pointer_of (Start x)) (pointer_of (Start y))
    by_alone (inl n) = λ o z u ex ey. apart x y px n differ o z u ex ey
    by_alone (inr n) = λ o z u ex ey. apart y x py n (swapped y x ∙ differ) o u z ey ex
  roots (Val x) (Sym g) hx hg differ never = λ o z u ex ey.
      from_global x g (of x hx) (alone_of_global (of x hx).param.ty (of x hx).param.noalias (ap (λ (a : Kind). never_meet a Global) (sym (kind x (of x hx))) ∙ never)) hg o z u ex ey
  roots (Sym g) (Val y) hg hy differ never = λ o z u ex ey.
      from_global y g (of y hy) (global_alone (of y hy).param.ty (of y hy).param.noalias (ap (never_meet Global) (sym (kind y (of y hy))) ∙ never)) hg o u z ey ex
  roots (Sym g) (Sym h) hg hh differ never = λ o z u ex ey.
      (let a : g ≡ o = ap object_at ex in
      let b : h ≡ o = ap object_at ey in
      true_false (same_number g h (a ∙ sym b) differ))
    where
      same_number : (g h : ℕ) → g ≡ h → nat_eq g h ≡ false → true ≡ false
      same_number g h e d = grind (arith, nat_tests)
  roots (Lit l) b ha hb differ never = absurd (true_false (sym never))
  roots (Val x) (Lit l) ha hb differ never = absurd (true_false (sym (never_kinds (kind_of m (Val x)) Unknown never).1))
  roots (Sym g) (Lit l) ha hb differ never = absurd (true_false (sym never))

  pub entered : IsEntered m f (0 ∷ []) 0 (record { env = start_env f.params args; memory = memory })
  entered = record { shaped = start_shape m f args memory fits; within = within; roots = roots }

pub starts_entered : StartsAreEntered
starts_entered m formed func f e args memory fits holds =
    let item = found_item m.items func f e in
    let formed_func = every_at (IsFormedItem m) m.items item.0 (FuncItem f) (every_of_all (IsFormedItem m) m.items formed.items) item.1 in
    entered m formed f item.0 item.1 (every_of_all (λ (p : Param). is_value p.ty ≡ true) f.params formed_func.params) args memory fits holds

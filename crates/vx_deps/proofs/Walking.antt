-- What the walks from an instruction's pointer come by is named by the instruction, or by what leads to it.
use Rattle.std.proofs.Common.{◌≡◌, refl, ap, ◌∙◌, subst, ℕ, zero, suc, ℤ, Bool, true, false, ◌||◌, ◌&&◌, Option, None, Some, List, [], ◌∷◌, ◌⊎◌, inl, inr}
use Rattle.std.specs.Prelude.{option_map, option_and_then}
use Rattle.std.specs.List.{list_any}
use Rattle.ir_types.specs.declared.id.Id.{Id}
use Rattle.ir_types.specs.declared.ty.Ty.{Ty}
use Rattle.ir_types.specs.declared.ty.Ty.TheVariants.{Int}
use Rattle.ir_types.specs.declared.opd.Opd.{Opd}
use Rattle.ir_types.specs.declared.opd.Opd.TheVariants.{Val, Lit, Sym}
use Rattle.ir_types.specs.declared.op.Op.{Op}
use Rattle.ir_types.specs.declared.op.Op.TheVariants.{Gep, Load, Store}
use Rattle.ir_types.specs.declared.inst.Inst.{Inst}
use Rattle.ir_types.proofs.Among.{same_is, same_itself}
use Rattle.vx_view.specs.Answers.{find, is_value}
use Rattle.vx_view.specs.Addresses.{Symbol, Offset, Led, Summand, Number, Poison, Value, beside_symbol, with_lane, with_index, with_indices, scales_of, led_op, led_by, led_back, summand_of, summand, summed, summed_by, is_wide, is_sum, sum_back, back_from, symbol_back, or_stay, pointers, start}
use Rattle.vx_view.specs.Conflicts.{Access, access_by, access_of}
use Rattle.vx_addr.specs.Walks.{on_pointers, on_symbols, is_symbol, on_from, on_rest, first, end, on_walks, on_access}
use Rattle.vx_serial.specs.Near.{LeadsTo}
use Rattle.vx_serial.proofs.Decided.{or_case, or_first, or_second}

some_is : {A : Type 0} {a b : A} → Some a ≡ Some b → a ≡ b
some_is e = cc

none_some : {A : Type 0} {a : A} → None ≡ Some a → ⊥
none_some e = cc

false_true : false ≡ true → ⊥
false_true e = cc

module _ (insts : List Inst) (user : Id) where
  -- the user names it, or what leads to it does
  abbrev pub Leads : Id → Type 0
  Leads x = (path : List Id) × LeadsTo insts x path user

  abbrev OfOpd : Opd → Type 0
  OfOpd p = (x : Id) → is_value x p ≡ true → Leads x

  abbrev OfOpds : List Opd → Type 0
  OfOpds os = (x : Id) → list_any (is_value x) os ≡ true → Leads x

  abbrev OfOffset : Offset → Type 0
  OfOffset o = (x : Id) → is_symbol x o.symbol ≡ true → Leads x

  of_operands : (v : Id) (i : Inst) → Leads v → find v insts ≡ Some i → OfOpds i.opds
  of_operands v i (path, l) e x h = (v ∷ path, ((i, e, h), l))

  of_first : (p : Opd) (ps : List Opd) → OfOpds (p ∷ ps) → OfOpd p
  of_first p ps h x e = h x (or_first (is_value x p) (list_any (is_value x) ps) e)

  of_others : (p : Opd) (ps : List Opd) → OfOpds (p ∷ ps) → OfOpds ps
  of_others p ps h x e = h x (or_second (is_value x p) (list_any (is_value x) ps) e)

  -- ---- back over pointers

  lane_keeps : (ty : Ty) (lanes : List (Option ℕ)) (scale : ℕ) (o b : Offset) → with_lane ty lanes scale o ≡ Some b → o.symbol ≡ b.symbol
  lane_keeps (Int w) (Some n ∷ []) scale o b e = ap (λ (q : Offset). q.symbol) (some_is e)
  lane_keeps ty lanes scale o b e = absurd cc

  by_index : (p : Opd) (scale : ℕ) (o b : Offset) → OfOpd p → OfOffset o → with_index p scale o ≡ Some b → OfOffset b
  by_index (Lit l) scale o b p s e = λ x h. s x (ap (is_symbol x) (lane_keeps l.ty l.lanes scale o b e) ∙ h)
  by_index (Sym g) scale o b p s e = absurd (none_some e)
  by_index (Val v) scale o b p s e = by_symbol o.symbol e
    where
      by_symbol : (u : Option Symbol) → beside_symbol (v, scale) o.constant u ≡ Some b → OfOffset b
      by_symbol (Some other) r = absurd (none_some r)
      by_symbol None r = λ x h. p x (ap (λ (q : Offset). is_symbol x q.symbol) (some_is r) ∙ h)

  by_indices : (scales : List ℕ) (xs : List Opd) (o b : Offset) → OfOpds xs → OfOffset o → with_indices scales xs o ≡ Some b → OfOffset b
  by_indices scales [] o b p s e = subst OfOffset (some_is e) s
  by_indices [] (x ∷ xs) o b p s e = absurd (none_some e)
  by_indices (k ∷ ks) (x ∷ xs) o b p s e = by_one (with_index x k o) refl e (λ q r t. by_indices ks xs q b (of_others x xs p) (by_index x k o q (of_first x xs p) s r) t)
    where
      by_one : (u : Option Offset) → with_index x k o ≡ u → option_and_then (with_indices ks xs) u ≡ Some b →
          ((q : Offset) → with_index x k o ≡ Some q → with_indices ks xs q ≡ Some b → OfOffset b) → OfOffset b
      by_one None r t more = absurd (none_some t)
      by_one (Some q) r t more = more q r t

  by_led : (p : Opd) (o : Offset) (led : Led) → OfOpd p → OfOffset o → led_back insts p o ≡ Some led → OfOpd led.0 × OfOffset led.1
  by_led (Lit l) o led p s e = absurd (none_some e)
  by_led (Sym g) o led p s e = absurd (none_some e)
  by_led (Val v) o led p s e = by_found (find v insts) refl e
    where
      by_gep : (os : List Opd) (scales : List ℕ) (y : Opd) (ys : List Opd) → OfOpds (y ∷ ys) → (u : Option Offset) → with_indices scales ys o ≡ u → option_map (λ q. (y, q)) u ≡ Some led → OfOpd led.0 × OfOffset led.1
      by_gep os scales y ys h None r t = absurd (none_some t)
      by_gep os scales y ys h (Some q) r t =
          let same : (y, q) ≡ led = some_is t in (
            subst OfOpd (ap (λ (l : Led). l.0) same) (of_first y ys h),
            subst OfOffset (ap (λ (l : Led). l.1) same) (by_indices scales ys o q (of_others y ys h) s r),
          )

      by_op : (op : Op) (os : List Opd) → OfOpds os → led_op op os o ≡ Some led → OfOpd led.0 × OfOffset led.1
      by_op (Gep elem inbounds) (y ∷ ys) h r = by_gep (y ∷ ys) (scales_of elem) y ys h (with_indices (scales_of elem) ys o) refl r
      by_op op os h r = absurd cc

      by_found : (u : Option Inst) → find v insts ≡ u → led_by o u ≡ Some led → OfOpd led.0 × OfOffset led.1
      by_found None f r = absurd (none_some r)
      by_found (Some i) f r = by_op i.op i.opds (of_operands v i (p v (same_itself v)) f) r

  on_way : (n : ℕ) (p : Opd) (o : Offset) → OfOpd p → OfOffset o → (x : Id) → on_pointers n insts p o x ≡ true → Leads x
  on_way zero p o h s x e = h x e
  on_way (suc n) p o h s x e = by_case (or_case (is_value x p) (or_stay false (led_back insts p o) (λ led. on_pointers n insts led.0 led.1 x)) e) (λ led k l t. on_way n led.0 led.1 k l x t)
    where
      by_back : (u : Option Led) → led_back insts p o ≡ u → or_stay false u (λ led. on_pointers n insts led.0 led.1 x) ≡ true →
          ((led : Led) → OfOpd led.0 → OfOffset led.1 → on_pointers n insts led.0 led.1 x ≡ true → Leads x) → Leads x
      by_back None r t more = absurd (false_true t)
      by_back (Some led) r t more = let k = by_led p o led h s r in more led k.0 k.1 t

      by_case : (is_value x p ≡ true) ⊎ (or_stay false (led_back insts p o) (λ led. on_pointers n insts led.0 led.1 x) ≡ true) →
          ((led : Led) → OfOpd led.0 → OfOffset led.1 → on_pointers n insts led.0 led.1 x ≡ true → Leads x) → Leads x
      by_case (inl r) more = h x r
      by_case (inr r) more = by_back (led_back insts p o) refl r more

  at_end : (n : ℕ) (p : Opd) (o : Offset) → OfOpd p → OfOffset o → OfOffset (pointers n insts p o).offset
  at_end zero p o h s = s
  at_end (suc n) p o h s = by_back (led_back insts p o) refl (λ led k l. at_end n led.0 led.1 k l)
    where
      by_back : (u : Option Led) → led_back insts p o ≡ u → ((led : Led) → OfOpd led.0 → OfOffset led.1 → OfOffset (pointers n insts led.0 led.1).offset) →
          OfOffset (or_stay (record { pointer = p; offset = o; left = suc n }) u (λ led. pointers n insts led.0 led.1)).offset
      by_back None r more = s
      by_back (Some led) r more = let k = by_led p o led h s r in more led k.0 k.1

  -- ---- back over sums

  abbrev OfSummand : Summand → Type 0
  OfSummand (Value v) = Leads v
  OfSummand _ = Unit {0}

  of_lanes : (lanes : List (Option ℕ)) → OfSummand (summand_of lanes)
  of_lanes [] = tt
  of_lanes (Some n ∷ []) = tt
  of_lanes (None ∷ []) = tt
  of_lanes (Some n ∷ (y ∷ ys)) = tt
  of_lanes (None ∷ (y ∷ ys)) = tt

  of_summand : (p : Opd) → OfOpd p → OfSummand (summand p)
  of_summand (Val v) h = h v (same_itself v)
  of_summand (Lit l) h = of_lanes l.lanes
  of_summand (Sym g) h = tt

  by_summands : (a b : Summand) (scale : ℕ) (c : ℤ) (o : Offset) → OfSummand a → OfSummand b → summed a b scale c ≡ Some o → OfOffset o
  by_summands (Number n) (Value v) scale c o h k e x r = subst Leads (same_is v x (ap (λ (q : Offset). is_symbol x q.symbol) (some_is e) ∙ r)) k
  by_summands (Value v) (Number n) scale c o h k e x r = subst Leads (same_is v x (ap (λ (q : Offset). is_symbol x q.symbol) (some_is e) ∙ r)) h
  by_summands (Number n) (Number j) scale c o h k e x r = absurd (false_true (ap (λ (q : Offset). is_symbol x q.symbol) (some_is e) ∙ r))
  by_summands (Number n) Poison scale c o h k e x r = absurd (false_true (ap (λ (q : Offset). is_symbol x q.symbol) (some_is e) ∙ r))
  by_summands Poison (Number n) scale c o h k e x r = absurd (false_true (ap (λ (q : Offset). is_symbol x q.symbol) (some_is e) ∙ r))
  by_summands a b scale c o h k e x r = absurd cc

  by_sum : (o q : Offset) → OfOffset o → symbol_back insts o ≡ Some q → OfOffset q
  by_sum o q s e = by_symbol o.symbol refl e
    where
      by_opds : (t : Bool) (os : List Opd) (scale : ℕ) → OfOpds os → summed_by t os scale o.constant ≡ Some q → OfOffset q
      by_opds true (a ∷ b ∷ []) scale h r =
          by_summands (summand a) (summand b) scale o.constant q (of_summand a (of_first a (b ∷ []) h)) (of_summand b (of_first b [] (of_others a (b ∷ []) h))) r
      by_opds t os scale h r = absurd cc

      by_found : (k : Symbol) → Leads k.0 → (u : Option Inst) → find k.0 insts ≡ u → sum_back k.1 o.constant u ≡ Some q → OfOffset q
      by_found k l None f r = absurd (none_some r)
      by_found k l (Some i) f r = by_opds (is_wide i.ty && is_sum i.op) i.opds k.1 (of_operands k.0 i l f) r

      by_symbol : (u : Option Symbol) → o.symbol ≡ u → back_from insts o.constant u ≡ Some q → OfOffset q
      by_symbol None f r = absurd (none_some r)
      by_symbol (Some k) f r = by_found k (s k.0 (ap (is_symbol k.0) f ∙ same_itself k.0)) (find k.0 insts) refl r

  on_sum : (n : ℕ) (o : Offset) → OfOffset o → (x : Id) → on_symbols n insts o x ≡ true → Leads x
  on_sum zero o s x e = s x e
  on_sum (suc n) o s x e = by_case (or_case (is_symbol x o.symbol) (or_stay false (symbol_back insts o) (λ next. on_symbols n insts next x)) e) (λ q k t. on_sum n q k x t)
    where
      by_back : (u : Option Offset) → symbol_back insts o ≡ u → or_stay false u (λ next. on_symbols n insts next x) ≡ true →
          ((q : Offset) → OfOffset q → on_symbols n insts q x ≡ true → Leads x) → Leads x
      by_back None r t more = absurd (false_true t)
      by_back (Some q) r t more = more q (by_sum o q s r) t

      by_case : (is_symbol x o.symbol ≡ true) ⊎ (or_stay false (symbol_back insts o) (λ next. on_symbols n insts next x) ≡ true) →
          ((q : Offset) → OfOffset q → on_symbols n insts q x ≡ true → Leads x) → Leads x
      by_case (inl r) more = s x r
      by_case (inr r) more = by_back (symbol_back insts o) refl r more

  -- ---- the walks

  walks_lead : (p : Opd) → OfOpd p → (x : Id) → on_walks insts p x ≡ true → Leads x
  walks_lead p h x e = by_case (or_case (on_from insts (first p) x) (on_rest insts (end insts (first p)) x) e)
    where
      none : OfOffset start
      none x r = absurd (false_true r)

      by_case : (on_from insts (first p) x ≡ true) ⊎ (on_rest insts (end insts (first p)) x ≡ true) → Leads x
      by_case (inl r) = on_way 64 p start h none x r
      by_case (inr r) = on_sum (end insts (first p)).left (end insts (first p)).offset (at_end 64 p start h none) x r

  pointer_of : (op : Op) (ty : Ty) (os : List Opd) (a : Access) → access_by op ty os ≡ Some a → (x : Id) → is_value x a.pointer ≡ true → list_any (is_value x) os ≡ true
  pointer_of (Load align) ty (p ∷ []) a e x h = or_first (is_value x p) false (ap (λ (q : Access). is_value x q.pointer) (some_is e) ∙ h)
  pointer_of (Store align) ty (v ∷ p ∷ []) a e x h =
      or_second (is_value x v) (is_value x p || false) (or_first (is_value x p) false (ap (λ (q : Access). is_value x q.pointer) (some_is e) ∙ h))
  pointer_of op ty os a e x h = absurd cc

  -- what is asked of the walks of an instruction's access leads to the instruction
  pub access_leads : (i : Inst) → find user insts ≡ Some i → (x : Id) → on_access insts (access_of i) x ≡ true → Leads x
  access_leads i f x e = by_access (access_of i) refl e
    where
      by_access : (u : Option Access) → access_of i ≡ u → on_access insts u x ≡ true → Leads x
      by_access None r t = absurd (false_true t)
      by_access (Some a) r t = walks_lead a.pointer (λ y h. ([], (i, f, pointer_of i.op i.ty i.opds a r y h))) x t

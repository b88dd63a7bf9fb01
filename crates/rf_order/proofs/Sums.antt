-- Where the symbol of an address leads: back over sums with a literal.
use Rattle.std.proofs.Common.{◌≡◌, refl, sym, ap, ◌∙◌, subst, ℕ, ℤ, zero, suc, pos, ◌+ℤ◌, ◌*ℤ◌, ◌+◌, ◌*◌, ◌%◌, ◌^◌, ◌==◌, ◌⊎◌, inl, inr, Bool, true, false, not, ◌&&◌, ◌||◌, Option, None, Some, List, [], ◌∷◌, length, map, if◌then◌else◌, arith}
use Rattle.std.specs.Int.{w64, int_wrap}
use Rattle.std.specs.List.{AllZip}
use Rattle.std.specs.Int.Bits.{bit_or, bit_and, or_add_and}
use Rattle.std.proofs.lemmas.Int.{int_wrap-add_left, int_wrap-add_right, ints}
use Rattle.std.proofs.lemmas.Bool.Decides.{nat_tests}
use Rattle.vx_num.specs.declared.operations.BinOp.{BinOp}
use Rattle.vx_num.specs.declared.operations.BinOp.TheVariants.{Add, Or}
use Rattle.vx_num.specs.declared.operations.Flags.{Flags}
use Rattle.vx_num.specs.Width.{signed}
use Rattle.vx_num.specs.Flagged.{apart}
use Rattle.vx_num.specs.Sums.{add_of}
use Rattle.vx_num.specs.Bin.{lane_of}
use Rattle.vx_num.specs.Advance.{advance_of}
use Rattle.ir_types.specs.declared.id.Id.{Id}
use Rattle.ir_types.specs.declared.ty.Ty.{Ty}
use Rattle.ir_types.specs.declared.ty.Ty.TheVariants.{Void, Int, Ptr, Row}
use Rattle.ir_types.specs.declared.opd.Opd.{Opd}
use Rattle.ir_types.specs.declared.opd.Opd.TheVariants.{Val, Lit, Sym}
use Rattle.ir_types.specs.declared.op.Op.{Op}
use Rattle.ir_types.specs.declared.op.Op.TheVariants.{Bin}
use Rattle.ir_types.specs.declared.inst.Inst.{Inst}
use Rattle.ir_types.specs.declared.func.Func.{Func}
use Rattle.ir_types.specs.declared.module.Module.{Module}
use Rattle.ir_types.specs.Typed.{is_number, has_flags, IsTyped}
use Rattle.ir_types.specs.Formed.{given_ty, opd_ty, value_ty, IsFormed}
use Rattle.ir_types.proofs.Among.{same_is}
use Rattle.ir_types.proofs.Formed.{Every, IsValued, typed_valued}
use Rattle.ir_model.proofs.Sound.{params_formed}
use Rattle.ir_model.specs.declared.value.Value.{Value}
use Rattle.ir_model.specs.declared.value.Value.TheVariants.{Lane as LaneValue, Ptr as PtrValue}
use Rattle.ir_model.specs.Values.{Lane, Pointer, literal_value, value_of, type_of}
use Rattle.ir_model.specs.Operations.{low, bin_value}
use Rattle.ir_model.specs.Step.{State}
use Rattle.ir_model.specs.Run.{is_phi, types_of}
use Rattle.ir_model.specs.Shapes.{HasShape}
use Rattle.ir_model.proofs.Acts.{same_types}
use Rattle.ir_model.proofs.Indices.{wrap-low, wrap-signed, wrap-factor}
use Rattle.ir_model.proofs.Ids.{types_agree}
use Rattle.vx_view.specs.Answers.{find}
use Rattle.vx_view.specs.Addresses.{Symbol, Offset, Summand, Number, Poison, Value as ValueSummand, Other, summand_of, summand, plus, summed, is_sum, is_wide, summed_by, sum_back, back_from, symbol_back, or_stay, symbols}
use Rattle.rf_order.specs.Steps.{uses}
use Rattle.rf_order.specs.Ready.{Known, IsIn, IsStatement, formula, has_formula, is_known, IsReady}
use Rattle.rf_order.proofs.Shapes.{OpdsShape}
use Rattle.rf_order.proofs.Addresses.{scaled, symbol_value, led_to, led_none, two_opds, lane_shape, find_id, KnownSymbol, known_opd, uses_here, uses_later, shapes_of, ran_for}
use Rattle.vx_serial.proofs.Decided.{and_left, and_right, true_false}

-- ---- numbers

abbrev W : ℤ → ℤ
W z = int_wrap w64 z

low_signed : (n : ℕ) → W (signed 64 (n % 2 ^ 64)) ≡ W (pos n)
low_signed n = wrap-signed (n % 2 ^ 64) ∙ wrap-low n

turn_sums : (z c k : ℤ) → z +ℤ k +ℤ c ≡ z +ℤ c +ℤ k
turn_sums z c k = omega (arith, ints)

split_product : (a b s : ℕ) → pos (a + b) *ℤ pos s ≡ pos (a * s) +ℤ pos (b * s)
split_product a b s = ap pos (add_times a b s) where
  add_times : (a b s : ℕ) → (a + b) * s ≡ a * s + b * s
  add_times a b s = omega arith

-- the symbol's number is the sum of two
sum_wraps : (z c : ℤ) (r p q s : ℕ) → W (pos r) ≡ W (pos (p % 2 ^ 64 + q % 2 ^ 64)) → W (z +ℤ signed 64 (r % 2 ^ 64) *ℤ pos s +ℤ c) ≡ W (z +ℤ c +ℤ (pos (p % 2 ^ 64 * s) +ℤ pos (q % 2 ^ 64 * s)))
sum_wraps z c r p q s e =
    ap W (turn_sums z c (signed 64 (r % 2 ^ 64) *ℤ pos s))
    ∙ wrap-factor (z +ℤ c) (signed 64 (r % 2 ^ 64)) (pos (p % 2 ^ 64 + q % 2 ^ 64)) (pos s) (pos s) (low_signed r ∙ e) refl
    ∙ ap (λ x. W (z +ℤ c +ℤ x)) (split_product (p % 2 ^ 64) (q % 2 ^ 64) s)

-- a number by its low bits
by_low : (base : ℤ) (p s : ℕ) → W (base +ℤ signed 64 p *ℤ pos s) ≡ W (base +ℤ pos (p % 2 ^ 64 * s))
by_low base p s = wrap-factor base (signed 64 p) (pos (p % 2 ^ 64)) (pos s) (pos s) (wrap-signed p ∙ sym (wrap-low p)) refl

by_low_signed : (base : ℤ) (q s : ℕ) → W (base +ℤ signed 64 (q % 2 ^ 64) *ℤ pos s) ≡ W (base +ℤ pos (q % 2 ^ 64 * s))
by_low_signed base q s = wrap-factor base (signed 64 (q % 2 ^ 64)) (pos (q % 2 ^ 64)) (pos s) (pos s) (wrap-signed (q % 2 ^ 64)) refl

-- a value beside a number that went into the constant
beside_number : (z c : ℤ) (p q s : ℕ) → W (z +ℤ signed 64 (q % 2 ^ 64) *ℤ pos s +ℤ W (c +ℤ signed 64 p *ℤ pos s)) ≡ W (z +ℤ c +ℤ (pos (p % 2 ^ 64 * s) +ℤ pos (q % 2 ^ 64 * s)))
beside_number z c p q s =
    int_wrap-add_right w64 (z +ℤ signed 64 (q % 2 ^ 64) *ℤ pos s) (c +ℤ signed 64 p *ℤ pos s)
    ∙ ap W (first z c (signed 64 (q % 2 ^ 64) *ℤ pos s) (signed 64 p *ℤ pos s))
    ∙ by_low_signed (z +ℤ c +ℤ signed 64 p *ℤ pos s) q s
    ∙ ap W (turn_sums (z +ℤ c) (pos (q % 2 ^ 64 * s)) (signed 64 p *ℤ pos s))
    ∙ by_low (z +ℤ c +ℤ pos (q % 2 ^ 64 * s)) p s
    ∙ ap W (last z c (pos (q % 2 ^ 64 * s)) (pos (p % 2 ^ 64 * s)))
  where
    first : (z c q p : ℤ) → z +ℤ q +ℤ (c +ℤ p) ≡ z +ℤ c +ℤ p +ℤ q
    first z c q p = omega (arith, ints)

    last : (z c q p : ℤ) → z +ℤ c +ℤ q +ℤ p ≡ z +ℤ c +ℤ (p +ℤ q)
    last z c q p = omega (arith, ints)

-- two numbers that went into the constant
both_numbers : (z c : ℤ) (p q s : ℕ) → W (z +ℤ pos 0 +ℤ W (W (c +ℤ signed 64 p *ℤ pos s) +ℤ signed 64 q *ℤ pos s)) ≡ W (z +ℤ c +ℤ (pos (p % 2 ^ 64 * s) +ℤ pos (q % 2 ^ 64 * s)))
both_numbers z c p q s =
    ap (λ x. W (z +ℤ pos 0 +ℤ x)) (int_wrap-add_left w64 (c +ℤ signed 64 p *ℤ pos s) (signed 64 q *ℤ pos s))
    ∙ int_wrap-add_right w64 (z +ℤ pos 0) (c +ℤ signed 64 p *ℤ pos s +ℤ signed 64 q *ℤ pos s)
    ∙ ap W (first z c (signed 64 p *ℤ pos s) (signed 64 q *ℤ pos s))
    ∙ by_low (z +ℤ c +ℤ signed 64 p *ℤ pos s) q s
    ∙ ap W (turn_sums (z +ℤ c) (pos (q % 2 ^ 64 * s)) (signed 64 p *ℤ pos s))
    ∙ by_low (z +ℤ c +ℤ pos (q % 2 ^ 64 * s)) p s
    ∙ ap W (last z c (pos (q % 2 ^ 64 * s)) (pos (p % 2 ^ 64 * s)))
  where
    first : (z c p q : ℤ) → z +ℤ pos 0 +ℤ (c +ℤ p +ℤ q) ≡ z +ℤ c +ℤ p +ℤ q
    first z c p q = omega (arith, ints)

    last : (z c q p : ℤ) → z +ℤ c +ℤ q +ℤ p ≡ z +ℤ c +ℤ (p +ℤ q)
    last z c q p = omega (arith, ints)

-- ---- lanes of sums

-- a lane is poison, or the sum of two lanes
abbrev SumOf : Lane → Lane → Lane → Type 0
SumOf x y n = (n ≡ None) ⊎ ((p q r : ℕ) × (x ≡ Some p) × (y ≡ Some q) × (n ≡ Some r) × (W (pos r) ≡ W (pos (p % 2 ^ 64 + q % 2 ^ 64))))

kept_number : (b : Bool) (n : ℕ) → ((if b then Some n else None) ≡ None) ⊎ ((if b then Some n else None) ≡ Some n)
kept_number true n = inr refl
kept_number false n = inl refl

add_sum : (f : Flags) (x y : Lane) → SumOf x y (lane_of Add f 64 (low 64 x) (low 64 y))
add_sum f None y = inl refl
add_sum f (Some p) None = inl refl
add_sum f (Some p) (Some q) = by_kept (lane_of Add f 64 (low 64 (Some p)) (low 64 (Some q))) (kept_of (Rattle.vx_num.specs.Sums.add_of f 64 (p % 2 ^ 64) (q % 2 ^ 64)) refl) where
  kept_of : (n : Lane) → add_of f 64 (p % 2 ^ 64) (q % 2 ^ 64) ≡ n → (n ≡ None) ⊎ (n ≡ Some ((p % 2 ^ 64 + q % 2 ^ 64) % 2 ^ 64))
  kept_of n e = subst (λ n. (n ≡ None) ⊎ (n ≡ Some ((p % 2 ^ 64 + q % 2 ^ 64) % 2 ^ 64))) e (kept_number _ ((p % 2 ^ 64 + q % 2 ^ 64) % 2 ^ 64))

  by_kept : (n : Lane) → (n ≡ None) ⊎ (n ≡ Some ((p % 2 ^ 64 + q % 2 ^ 64) % 2 ^ 64)) → SumOf (Some p) (Some q) n
  by_kept n (inl e) = inl e
  by_kept n (inr e) = inr (p, q, (p % 2 ^ 64 + q % 2 ^ 64) % 2 ^ 64, refl, refl, e, wrap-low (p % 2 ^ 64 + q % 2 ^ 64))

or_sum : (f : Flags) (x y : Lane) → f.disjoint ≡ true → SumOf x y (lane_of Or f 64 (low 64 x) (low 64 y))
or_sum f None y d = inl refl
or_sum f (Some p) None d = inl refl
or_sum f (Some p) (Some q) d = by_test (bit_and (p % 2 ^ 64) (q % 2 ^ 64) == 0) refl where
  number : (bit_and (p % 2 ^ 64) (q % 2 ^ 64) == 0) ≡ true → bit_or (p % 2 ^ 64) (q % 2 ^ 64) ≡ p % 2 ^ 64 + q % 2 ^ 64
  number e = let sum = or_add_and (p % 2 ^ 64) (q % 2 ^ 64) in let none : bit_and (p % 2 ^ 64) (q % 2 ^ 64) ≡ 0 = grind (arith, nat_tests) in omega arith

  by_test : (b : Bool) → (bit_and (p % 2 ^ 64) (q % 2 ^ 64) == 0) ≡ b → SumOf (Some p) (Some q) (apart f (bit_and (p % 2 ^ 64) (q % 2 ^ 64) == 0) (bit_or (p % 2 ^ 64) (q % 2 ^ 64)))
  by_test true e =
      inr (p, q, bit_or (p % 2 ^ 64) (q % 2 ^ 64), refl, refl, ap (λ b. apart f b (bit_or (p % 2 ^ 64) (q % 2 ^ 64))) e ∙ kept f.disjoint, ap (λ n. W (pos n)) (number e)) where
        kept : (b : Bool) → (if not b || true then Some (bit_or (p % 2 ^ 64) (q % 2 ^ 64)) else None) ≡ Some (bit_or (p % 2 ^ 64) (q % 2 ^ 64))
        kept true = refl
        kept false = refl
  by_test false e = inl (ap (λ b. apart f b (bit_or (p % 2 ^ 64) (q % 2 ^ 64))) e ∙ ap (λ b. if not b || false then Some (bit_or (p % 2 ^ 64) (q % 2 ^ 64)) else None) d)

-- what a sum gives
bin_sum : (op : BinOp) (flags : Flags) (x y : Lane) (v : Value) → is_sum (Bin op flags) ≡ true → bin_value op flags (Int 64) (LaneValue x ∷ LaneValue y ∷ []) ≡ Some v → (n : Lane) × (v ≡ LaneValue n) × SumOf x y n
bin_sum Add flags x y v h e = (lane_of Add flags 64 (low 64 x) (low 64 y), some e, add_sum flags x y) where
  some : Some (LaneValue (lane_of Add flags 64 (low 64 x) (low 64 y))) ≡ Some v → v ≡ LaneValue (lane_of Add flags 64 (low 64 x) (low 64 y))
  some e = cc
bin_sum Or flags x y v h e = (lane_of Or flags 64 (low 64 x) (low 64 y), some e, or_sum flags x y h) where
  some : Some (LaneValue (lane_of Or flags 64 (low 64 x) (low 64 y))) ≡ Some v → v ≡ LaneValue (lane_of Or flags 64 (low 64 x) (low 64 y))
  some e = cc
bin_sum op flags x y v h e = absurd (true_false (sym h))

wide_is : (t : Ty) → is_wide t ≡ true → t ≡ Int 64
wide_is (Int w) h = let e : w ≡ 64 = grind (arith, nat_tests) in ap Int e
wide_is Void h = absurd cc
wide_is Ptr h = absurd cc
wide_is (Row n w) h = absurd cc

-- ---- one sum

module _ (m : Module) (f : Func) (formed : IsFormed m) (block : List Inst) (k : Known) (s : State) (ready : IsReady m f block k s) where
  abbrev types : Id → Ty
  types = types_of f

  -- a pointer with what an offset adds
  abbrev pub on_with : Pointer → Offset → Pointer
  on_with p o = led_to p (symbol_value (types_of f) s.env o.symbol) o.constant

  pub record SumBack (o b : Offset) : Type 0 where
    pub symbol : KnownSymbol m f formed block k s ready b.symbol
    pub on : (p : Pointer) → (on_with p o ≡ None) ⊎ (on_with p o ≡ on_with p b)

  -- what a summand says of the lane that is added
  abbrev Means : Summand → Lane → Type 0
  Means (Number n) x = x ≡ Some n
  Means Poison x = x ≡ None
  Means (ValueSummand v) x = (s.env v ≡ LaneValue x) × (types v ≡ Int 64) × (k.values v ≡ true)
  Means Other x = Unit {0}

  means : (o : Opd) (x : Lane) → type_of types o ≡ Int 64 → value_of s.env o ≡ LaneValue x → is_known (length m.globals) k.values o ≡ true → Means (summand o) x
  means (Val v) x t e kn = (e, t, kn)
  means (Sym g) x t e kn = tt
  means (Lit l) x t e kn = by_lanes l.lanes (ap (λ t. literal_value t l.lanes) (sym t) ∙ e) where
    by_lanes : (lanes : List Lane) → literal_value (Int 64) lanes ≡ LaneValue x → Means (summand_of lanes) x
    by_lanes (Some n ∷ []) e = cc
    by_lanes (None ∷ []) e = cc
    by_lanes [] e = tt
    by_lanes (a ∷ b ∷ lanes) e = other a where
      other : (a : Lane) → Means (summand_of (a ∷ b ∷ lanes)) x
      other (Some n) = tt
      other None = tt

  numbers_same : (p q : ℕ) → Some p ≡ Some q → p ≡ q
  numbers_same p q e = cc

  symbol_of : (v : Id) (q scale : ℕ) (t : types v ≡ Int 64) → s.env v ≡ LaneValue (Some q) → symbol_value types s.env (Some (v, scale)) ≡ Some (signed 64 (q % 2 ^ 64) *ℤ pos scale)
  symbol_of v q scale t e = ap (λ t. scaled t (s.env v) scale) t ∙ ap (λ v. scaled (Int 64) v scale) e

  module _ (id : Id) (n x y : Lane) (scale : ℕ) (c : ℤ) (value : s.env id ≡ LaneValue n) (type : types id ≡ Int 64) where
    abbrev Here : Offset
    Here = record { symbol = Some (id, scale); constant = c }

    here : (p : Pointer) → on_with p Here ≡ led_to p (scaled (Int 64) (LaneValue n) scale) c
    here p = ap (λ t. led_to p (scaled t (s.env id) scale) c) type ∙ ap (λ v. led_to p (scaled (Int 64) v scale) c) value

    lost : n ≡ None → (p : Pointer) → on_with p Here ≡ None
    lost e p = here p ∙ ap (λ n. led_to p (scaled (Int 64) (LaneValue n) scale) c) e ∙ led_none p c

    summed_here : (p q r : ℕ) → n ≡ Some r → W (pos r) ≡ W (pos (p % 2 ^ 64 + q % 2 ^ 64)) → (o : ℕ) (z : ℤ) →
        on_with (Some (o, z)) Here ≡ Some (o, W (z +ℤ c +ℤ (pos (p % 2 ^ 64 * scale) +ℤ pos (q % 2 ^ 64 * scale))))
    summed_here p q r en ew o z =
        here (Some (o, z)) ∙ ap (λ n. led_to (Some (o, z)) (scaled (Int 64) (LaneValue n) scale) c) en ∙ ap (λ y. Some (o, y)) (sum_wraps z c r p q scale ew)

    -- both ends with one value
    joined : (b : Offset) → ((o : ℕ) (z : ℤ) → on_with (Some (o, z)) Here ≡ on_with (Some (o, z)) b) → (p : Pointer) → on_with p Here ≡ on_with p b
    joined b h None = refl
    joined b h (Some p) = h p.0 p.1

    sum_cases : (u v : Summand) → Means u x → Means v y → SumOf x y n → (b : Offset) → summed u v scale c ≡ Some b → SumBack Here b
    sum_cases (Number p) (ValueSummand v) mu mv sum b e = subst (SumBack Here) (some e) (record { symbol = mv.2; on = by_sum sum }) where
      some : Some (plus p scale (Some (v, scale)) c) ≡ Some b → plus p scale (Some (v, scale)) c ≡ b
      some e = cc

      by_sum : SumOf x y n → (at : Pointer) → (on_with at Here ≡ None) ⊎ (on_with at Here ≡ on_with at (plus p scale (Some (v, scale)) c))
      by_sum (inl z) at = inl (lost z at)
      by_sum (inr (i, q, r, ei, eq, en, ew)) at =
          let same : i ≡ p = numbers_same i p (sym ei ∙ mu) in
          inr (joined (plus p scale (Some (v, scale)) c) (λ o z.
          summed_here i q r en ew o z ∙ ap (λ i. Some (o, W (z +ℤ c +ℤ (pos (i % 2 ^ 64 * scale) +ℤ pos (q % 2 ^ 64 * scale))))) same
          ∙ ap (λ y. Some (o, y)) (sym (beside_number z c p q scale))
          ∙ ap (λ x. led_to (Some (o, z)) x (advance_of c p 64 scale)) (sym (symbol_of v q scale mv.1 (mv.0 ∙ ap LaneValue eq)))) at)
    sum_cases (ValueSummand v) (Number p) mu mv sum b e = subst (SumBack Here) (some e) (record { symbol = mu.2; on = by_sum sum }) where
      some : Some (plus p scale (Some (v, scale)) c) ≡ Some b → plus p scale (Some (v, scale)) c ≡ b
      some e = cc

      by_sum : SumOf x y n → (at : Pointer) → (on_with at Here ≡ None) ⊎ (on_with at Here ≡ on_with at (plus p scale (Some (v, scale)) c))
      by_sum (inl z) at = inl (lost z at)
      by_sum (inr (q, i, r, eq, ei, en, ew)) at =
          let same : i ≡ p = numbers_same i p (sym ei ∙ mv) in
          inr (joined (plus p scale (Some (v, scale)) c) (λ o z.
          summed_here i q r en (ew ∙ ap (λ n. W (pos n)) (turned (q % 2 ^ 64) (i % 2 ^ 64))) o z
          ∙ ap (λ i. Some (o, W (z +ℤ c +ℤ (pos (i % 2 ^ 64 * scale) +ℤ pos (q % 2 ^ 64 * scale))))) same
          ∙ ap (λ y. Some (o, y)) (sym (beside_number z c p q scale))
          ∙ ap (λ x. led_to (Some (o, z)) x (advance_of c p 64 scale)) (sym (symbol_of v q scale mu.1 (mu.0 ∙ ap LaneValue eq)))) at)
        where
          turned : (a b : ℕ) → a + b ≡ b + a
          turned a b = omega arith
    sum_cases (Number p) (Number q) mu mv sum b e = subst (SumBack Here) (some e) (record { symbol = tt; on = by_sum sum }) where
      some : Some (plus q scale None (advance_of c p 64 scale)) ≡ Some b → plus q scale None (advance_of c p 64 scale) ≡ b
      some e = cc

      by_sum : SumOf x y n → (at : Pointer) → (on_with at Here ≡ None) ⊎ (on_with at Here ≡ on_with at (plus q scale None (advance_of c p 64 scale)))
      by_sum (inl z) at = inl (lost z at)
      by_sum (inr (i, j, r, ei, ej, en, ew)) at =
          let same : i ≡ p = numbers_same i p (sym ei ∙ mu) in
          let also : j ≡ q = numbers_same j q (sym ej ∙ mv) in
          inr (joined (plus q scale None (advance_of c p 64 scale)) (λ o z.
          summed_here i j r en ew o z ∙ ap (λ i. Some (o, W (z +ℤ c +ℤ (pos (i % 2 ^ 64 * scale) +ℤ pos (j % 2 ^ 64 * scale))))) same
          ∙ ap (λ j. Some (o, W (z +ℤ c +ℤ (pos (p % 2 ^ 64 * scale) +ℤ pos (j % 2 ^ 64 * scale))))) also
          ∙ ap (λ y. Some (o, y)) (sym (both_numbers z c p q scale))) at)
    sum_cases (Number p) Poison mu mv sum b e = subst (SumBack Here) (some e) (record { symbol = tt; on = by_sum sum }) where
      some : Some (plus p scale None c) ≡ Some b → plus p scale None c ≡ b
      some e = cc

      by_sum : SumOf x y n → (at : Pointer) → (on_with at Here ≡ None) ⊎ (on_with at Here ≡ on_with at (plus p scale None c))
      by_sum (inl z) at = inl (lost z at)
      by_sum (inr (i, j, r, ei, ej, en, ew)) at = absurd (let no = sym ej ∙ mv in cc)
    sum_cases Poison (Number p) mu mv sum b e = subst (SumBack Here) (some e) (record { symbol = tt; on = by_sum sum }) where
      some : Some (plus p scale None c) ≡ Some b → plus p scale None c ≡ b
      some e = cc

      by_sum : SumOf x y n → (at : Pointer) → (on_with at Here ≡ None) ⊎ (on_with at Here ≡ on_with at (plus p scale None c))
      by_sum (inl z) at = inl (lost z at)
      by_sum (inr (i, j, r, ei, ej, en, ew)) at = absurd (let no = sym ei ∙ mu in cc)
    sum_cases Poison Poison mu mv sum b e = absurd cc
    sum_cases Poison (ValueSummand v) mu mv sum b e = absurd cc
    sum_cases Poison Other mu mv sum b e = absurd cc
    sum_cases (Number p) Other mu mv sum b e = absurd cc
    sum_cases (ValueSummand v) (ValueSummand w) mu mv sum b e = absurd cc
    sum_cases (ValueSummand v) Poison mu mv sum b e = absurd cc
    sum_cases (ValueSummand v) Other mu mv sum b e = absurd cc
    sum_cases Other v mu mv sum b e = absurd cc

  -- back over the definition of a known symbol
  by_sum : (x : Id) (scale : ℕ) (c : ℤ) (b : Offset) (i : Inst) → k.values x ≡ true → find x block ≡ Some i → (op : BinOp) (flags : Flags) → i.op ≡ Bin op flags → is_sum (Bin op flags) ≡ true → is_wide i.ty ≡ true →
      summed_by true i.opds scale c ≡ Some b → SumBack (record { symbol = Some (x, scale); constant = c }) b
  by_sum x scale c b i kn fe op flags is sum wide e = by_computed (ready.computed i done (ap has_formula is)) where
    done : IsIn i k.done
    done = ran_for m f formed block k s ready x i kn fe (ap is_phi is)

    st : IsStatement m f block i × ((x : Id) → uses x i.opds ≡ true → k.values x ≡ true)
    st = ready.ran i done

    ty : i.ty ≡ Int 64
    ty = wide_is i.ty wide

    typed : (is_number i.ty ≡ true) × (has_flags op flags ≡ true) × (map (opd_ty m f) i.opds ≡ Some i.ty ∷ Some i.ty ∷ [])
    typed = subst (λ op. IsTyped f.ret op i.ty (map (opd_ty m f) i.opds)) is st.0.typed

    shapes : OpdsShape m f s i.opds
    shapes = shapes_of m f formed block k s ready i st.0 st.1

    same : i.id ≡ x
    same = same_is i.id x (find_id x block i fe)

    os : (a : Opd) × (b : Opd) × (i.opds ≡ a ∷ b ∷ []) × (type_of types a ≡ Int 64) × (type_of types b ≡ Int 64)
    os = two_opds (type_of types) i.opds (Int 64) (Int 64) (same_types (map (type_of types) i.opds) (Int 64 ∷ Int 64 ∷ []) (sym shapes.types ∙ typed.2 ∙ ap (λ t. Some t ∷ Some t ∷ []) ty))

    two_shapes : AllZip (HasShape (length s.memory)) (type_of types os.0 ∷ type_of types os.1 ∷ []) (value_of s.env os.0 ∷ value_of s.env os.1 ∷ [])
    two_shapes = subst (λ os. AllZip (HasShape (length s.memory)) (map (type_of types) os) (map (value_of s.env) os)) os.2 shapes.shapes

    there : (z : Id) → uses z (os.0 ∷ os.1 ∷ []) ≡ true → k.values z ≡ true
    there z u = st.1 z (ap (uses z) os.2 ∙ u)

    xl : (lane : Lane) × (value_of s.env os.0 ≡ LaneValue lane)
    xl = lane_shape (length s.memory) 64 (value_of s.env os.0) (subst (λ t. HasShape (length s.memory) t (value_of s.env os.0)) os.3 two_shapes.0)

    yl : (lane : Lane) × (value_of s.env os.1 ≡ LaneValue lane)
    yl = lane_shape (length s.memory) 64 (value_of s.env os.1) (subst (λ t. HasShape (length s.memory) t (value_of s.env os.1)) os.4 two_shapes.1.0)

    valued : Every IsValued (map (opd_ty m f) (os.0 ∷ os.1 ∷ []))
    valued = subst (λ os. Every IsValued (map (opd_ty m f) os)) os.2 (typed_valued m (params_formed m formed) f.ret i.op i.ty (map (opd_ty m f) i.opds) st.0.typed st.0.calling)

    known_first : is_known (length m.globals) k.values os.0 ≡ true
    known_first = known_opd m f formed block k s ready (os.0 ∷ os.1 ∷ []) os.0 there (λ z d. uses_here m f formed block k s ready os.0 (os.1 ∷ []) z d) valued.0

    known_last : is_known (length m.globals) k.values os.1 ≡ true
    known_last = known_opd m f formed block k s ready (os.0 ∷ os.1 ∷ []) os.1 there (λ z d. uses_later m f formed block k s ready os.0 (os.1 ∷ []) z (uses_here m f formed block k s ready os.1 [] z d)) valued.1.0

    type : types x ≡ Int 64
    type = types_agree f x (Int 64) (ap (value_ty f) (sym same) ∙ st.0.gives ∙ ap Some (ap (λ op. given_ty op i.ty) is ∙ ty)) refl

    with_value : (n : Lane) → s.env x ≡ LaneValue n → SumOf xl.0 yl.0 n → SumBack (record { symbol = Some (x, scale); constant = c }) b
    with_value n value sums =
        sum_cases x n xl.0 yl.0 scale c value type (summand os.0) (summand os.1) (means os.0 xl.0 os.3 xl.1 known_first) (means os.1 yl.0 os.4 yl.1 known_last) sums b
        (ap (λ os. summed_by true os scale c) (sym os.2) ∙ e)

    -- what is no number gives no address
    plus_is : (p : ℕ) (sy : Option Symbol) (d : ℤ) → Some (plus p scale sy d) ≡ Some b → plus p scale sy d ≡ b
    plus_is p sy d e = cc

    no_number : (u v : Summand) → Means u xl.0 → Means v yl.0 → summed u v scale c ≡ Some b → KnownSymbol m f formed block k s ready b.symbol
    no_number (Number p) (ValueSummand v) mu mv e = subst (λ (b : Offset). KnownSymbol m f formed block k s ready b.symbol) (plus_is p (Some (v, scale)) c e) mv.2
    no_number (ValueSummand v) (Number p) mu mv e = subst (λ (b : Offset). KnownSymbol m f formed block k s ready b.symbol) (plus_is p (Some (v, scale)) c e) mu.2
    no_number (Number p) (Number q) mu mv e = subst (λ (b : Offset). KnownSymbol m f formed block k s ready b.symbol) (plus_is q None (advance_of c p 64 scale) e) tt
    no_number (Number p) Poison mu mv e = subst (λ (b : Offset). KnownSymbol m f formed block k s ready b.symbol) (plus_is p None c e) tt
    no_number Poison (Number p) mu mv e = subst (λ (b : Offset). KnownSymbol m f formed block k s ready b.symbol) (plus_is p None c e) tt
    no_number Poison Poison mu mv e = absurd cc
    no_number Poison (ValueSummand v) mu mv e = absurd cc
    no_number Poison Other mu mv e = absurd cc
    no_number (Number p) Other mu mv e = absurd cc
    no_number (ValueSummand v) (ValueSummand w) mu mv e = absurd cc
    no_number (ValueSummand v) Poison mu mv e = absurd cc
    no_number (ValueSummand v) Other mu mv e = absurd cc
    no_number Other v mu mv e = absurd cc

    by_computed : (s.env i.id ≡ PtrValue None) ⊎ (formula i.op i.ty (map (type_of types) i.opds) (map (value_of s.env) i.opds) ≡ Some (s.env i.id)) → SumBack (record { symbol = Some (x, scale); constant = c }) b
    by_computed (inl z) = record {
      symbol = no_number (summand os.0) (summand os.1) (means os.0 xl.0 os.3 xl.1 known_first) (means os.1 yl.0 os.4 yl.1 known_last) (ap (λ os. summed_by true os scale c) (sym os.2) ∙ e);
      on = λ p. inl (ap (λ t. led_to p (scaled t (s.env x) scale) c) type ∙ ap (λ v. led_to p (scaled (Int 64) v scale) c) (ap s.env (sym same) ∙ z) ∙ led_none p c);
    }
    by_computed (inr z) =
        let v : bin_value op flags (Int 64) (LaneValue xl.0 ∷ LaneValue yl.0 ∷ []) ≡ Some (s.env x) =
        ap (λ v. bin_value op flags (Int 64) (v ∷ LaneValue yl.0 ∷ [])) (sym xl.1) ∙ ap (λ v. bin_value op flags (Int 64) (value_of s.env os.0 ∷ v ∷ [])) (sym yl.1)
        ∙ ap (λ os. bin_value op flags (Int 64) (map (value_of s.env) os)) (sym os.2)
        ∙ ap (λ t. bin_value op flags t (map (value_of s.env) i.opds)) (sym ty)
        ∙ ap (λ op. formula op i.ty (map (type_of types) i.opds) (map (value_of s.env) i.opds)) (sym is) ∙ z ∙ ap (λ x. Some (s.env x)) same in
        let r = bin_sum op flags xl.0 yl.0 (s.env x) sum v in
        with_value r.0 r.1 r.2

  pub sum_one : (o b : Offset) → KnownSymbol m f formed block k s ready o.symbol → symbol_back block o ≡ Some b → SumBack o b
  sum_one o b known e = by_symbol o.symbol refl known e where
    by_op : (x : Symbol) → o.symbol ≡ Some x → k.values x.0 ≡ true → (i : Inst) → find x.0 block ≡ Some i → (op : Op) → i.op ≡ op → (t : Bool) → (is_wide i.ty && is_sum op) ≡ t → summed_by t i.opds x.1 o.constant ≡ Some b → SumBack o b
    by_op x ex kn i fe (Bin op flags) is true h e =
        subst (λ sy. SumBack (record { symbol = sy; constant = o.constant }) b) (sym ex)
        (by_sum x.0 x.1 o.constant b i kn fe op flags is (and_right (is_wide i.ty) (is_sum (Bin op flags)) h) (and_left (is_wide i.ty) (is_sum (Bin op flags)) h) e)
    by_op x ex kn i fe (Bin op flags) is false h e = absurd cc
    by_op x ex kn i fe op is false h e = absurd cc
    by_op x ex kn i fe op is true h e = absurd (true_false (sym (and_right (is_wide i.ty) (is_sum op) h)))

    by_found : (x : Symbol) → o.symbol ≡ Some x → k.values x.0 ≡ true → (i : Option Inst) → find x.0 block ≡ i → sum_back x.1 o.constant i ≡ Some b → SumBack o b
    by_found x ex kn None fe e = absurd cc
    by_found x ex kn (Some i) fe e = by_op x ex kn i fe i.op refl (is_wide i.ty && is_sum i.op) refl e

    by_symbol : (sy : Option Symbol) → o.symbol ≡ sy → KnownSymbol m f formed block k s ready sy → back_from block o.constant sy ≡ Some b → SumBack o b
    by_symbol None ex kn e = absurd cc
    by_symbol (Some x) ex kn e = by_found x ex kn (find x.0 block) refl e

  pub sum_walk : (n : ℕ) (at p : Pointer) (o : Offset) → KnownSymbol m f formed block k s ready o.symbol → (at ≡ None) ⊎ (at ≡ on_with p o) →
      KnownSymbol m f formed block k s ready (symbols n block o).symbol × ((at ≡ None) ⊎ (at ≡ on_with p (symbols n block o)))
  sum_walk zero at p o known l = (known, l)
  sum_walk (suc n) at p o known l = by_back (symbol_back block o) refl (λ b kb l. sum_walk n at p b kb l) where
    joined : (b : Offset) → (at ≡ None) ⊎ (at ≡ on_with p o) → (on_with p o ≡ None) ⊎ (on_with p o ≡ on_with p b) → (at ≡ None) ⊎ (at ≡ on_with p b)
    joined b (inl e) x = inl e
    joined b (inr e) (inl d) = inl (e ∙ d)
    joined b (inr e) (inr d) = inr (e ∙ d)

    by_back : (r : Option Offset) → symbol_back block o ≡ r →
        ((b : Offset) → KnownSymbol m f formed block k s ready b.symbol → (at ≡ None) ⊎ (at ≡ on_with p b) → KnownSymbol m f formed block k s ready (symbols n block b).symbol × ((at ≡ None) ⊎ (at ≡ on_with p (symbols n block b)))) →
        KnownSymbol m f formed block k s ready (or_stay o r (λ b. symbols n block b)).symbol × ((at ≡ None) ⊎ (at ≡ on_with p (or_stay o r (λ b. symbols n block b))))
    by_back None e more = (known, l)
    by_back (Some b) e more = let r = sum_one o b known e in more b r.symbol (joined b l (r.on p))

-- Finer operands and fewer flags give a finer result: where the old operation is defined, so is the
-- new one, and it gives the same lane or the old one was poison.
use Rattle.std.proofs.Common.{◌≡◌, ℕ, Bool, true, false, ◌||◌, ◌&&◌, refl, sym, ap, subst, ◌∙◌, if◌then◌else◌}
use Rattle.std.specs.declared.option.Option.{Option}
use Rattle.std.specs.declared.option.Option.TheVariants.{None, Some}
use Rattle.std.proofs.lemmas.Bool.{and_parts, and_from}
use Rattle.vx_num.specs.declared.lanes.Done.{Done}
use Rattle.vx_num.specs.declared.lanes.Done.TheVariants.{Value, Undefined}
use Rattle.vx_num.specs.declared.operations.BinOp.{BinOp}
use Rattle.vx_num.specs.declared.operations.BinOp.TheVariants.{Add, Sub, Mul, Shl, Udiv, Sdiv, Urem, Srem, Lshr, Ashr, And, Or, Xor}
use Rattle.vx_num.specs.declared.operations.CastOp.{CastOp}
use Rattle.vx_num.specs.declared.operations.CastOp.TheVariants.{Zext, Sext, Trunc}
use Rattle.vx_num.specs.declared.operations.Pred.{Pred}
use Rattle.vx_num.specs.declared.operations.Flags.{Flags}
use Rattle.vx_num.specs.Flagged.{keeps, no_wrap, exactly, apart}
use Rattle.vx_num.specs.Quotients.{no_divisor, is_minus_one, may_be_least, no_quotient}
use Rattle.vx_num.specs.Bin.{number_of, lane_of, is_undefined, bin_of}
use Rattle.vx_num.specs.Cmp.{cmp_of}
use Rattle.vx_num.specs.Cast.{cast_of}
use Rattle.vx_num.specs.Refines.{LaneRefines, DoneRefines, Fewer}

pub LaneRefines-refl : (v : Option ℕ) → LaneRefines v v
LaneRefines-refl None = tt
LaneRefines-refl (Some n) = refl

pub DoneRefines-refl : (d : Done) → DoneRefines d d
DoneRefines-refl (Value v) = LaneRefines-refl v
DoneRefines-refl Undefined = tt

-- what refines a lane is a lane
pub DoneRefines-value : (d : Done) (v : Option ℕ) → DoneRefines d (Value v) → (u : Option ℕ) × (d ≡ Value u) × LaneRefines u v
DoneRefines-value (Value u) v finer = (u, refl, finer)
DoneRefines-value Undefined v finer = absurd finer

-- ---- flags

pub Fewer-refl : (f : Flags) → Fewer f f
Fewer-refl f = record { nuw = λ set. set; nsw = λ set. set; exact = λ set. set; disjoint = λ set. set }

keeps-finer : (g f fact : Bool) → (g ≡ true → f ≡ true) → keeps f fact ≡ true → keeps g fact ≡ true
keeps-finer false f fact fewer kept = refl
keeps-finer true f fact fewer kept = subst (λ (b : Bool). keeps b fact ≡ true) (fewer refl) kept

when-finer : (new old : Bool) (n : ℕ) → (old ≡ true → new ≡ true) → LaneRefines (if new then Some n else None) (if old then Some n else None)
when-finer new false n more = tt
when-finer new true n more = subst (λ (b : Bool). (if b then Some n else None) ≡ Some n) (sym (more refl)) refl

only_if-finer : (b : Bool) (new old : Option ℕ) → LaneRefines new old → LaneRefines (if b then new else None) (if b then old else None)
only_if-finer false new old finer = tt
only_if-finer true new old finer = finer

no_wrap-finer : (g f : Flags) (unsigned signed : Bool) (n : ℕ) → Fewer g f → LaneRefines (no_wrap g unsigned signed n) (no_wrap f unsigned signed n)
no_wrap-finer g f unsigned signed n fewer =
    when-finer (keeps g.nuw unsigned && keeps g.nsw signed) (keeps f.nuw unsigned && keeps f.nsw signed) n
    (λ kept. let parts = and_parts (keeps f.nuw unsigned) (keeps f.nsw signed) kept in
    and_from (keeps g.nuw unsigned) (keeps g.nsw signed)
    (keeps-finer g.nuw f.nuw unsigned fewer.nuw parts.0)
    (keeps-finer g.nsw f.nsw signed fewer.nsw parts.1))

exactly-finer : (g f : Flags) (fact : Bool) (n : ℕ) → Fewer g f → LaneRefines (exactly g fact n) (exactly f fact n)
exactly-finer g f fact n fewer = when-finer (keeps g.exact fact) (keeps f.exact fact) n (keeps-finer g.exact f.exact fact fewer.exact)

apart-finer : (g f : Flags) (fact : Bool) (n : ℕ) → Fewer g f → LaneRefines (apart g fact n) (apart f fact n)
apart-finer g f fact n fewer = when-finer (keeps g.disjoint fact) (keeps f.disjoint fact) n (keeps-finer g.disjoint f.disjoint fact fewer.disjoint)

-- ---- binary operations

pub number_of-finer : (op : BinOp) (g f : Flags) (w a b : ℕ) → Fewer g f → LaneRefines (number_of op g w a b) (number_of op f w a b)
number_of-finer Add g f w a b fewer = no_wrap-finer g f _ _ _ fewer
number_of-finer Sub g f w a b fewer = no_wrap-finer g f _ _ _ fewer
number_of-finer Mul g f w a b fewer = no_wrap-finer g f _ _ _ fewer
number_of-finer Shl g f w a b fewer = only_if-finer _ _ _ (no_wrap-finer g f _ _ _ fewer)
number_of-finer Udiv g f w a b fewer = exactly-finer g f _ _ fewer
number_of-finer Sdiv g f w a b fewer = exactly-finer g f _ _ fewer
number_of-finer Urem g f w a b fewer = refl
number_of-finer Srem g f w a b fewer = refl
number_of-finer Lshr g f w a b fewer = only_if-finer _ _ _ (exactly-finer g f _ _ fewer)
number_of-finer Ashr g f w a b fewer = only_if-finer _ _ _ (exactly-finer g f _ _ fewer)
number_of-finer And g f w a b fewer = refl
number_of-finer Or g f w a b fewer = apart-finer g f _ _ fewer
number_of-finer Xor g f w a b fewer = refl

pub lane_of-finer : (op : BinOp) (g f : Flags) (w : ℕ) (x a y b : Option ℕ) → Fewer g f → LaneRefines x a → LaneRefines y b
    → LaneRefines (lane_of op g w x y) (lane_of op f w a b)
lane_of-finer op g f w x None y b fewer left right = tt
lane_of-finer op g f w x (Some a) y None fewer left right = tt
lane_of-finer op g f w x (Some a) y (Some b) fewer left right =
    subst (λ (v : Option ℕ). LaneRefines (lane_of op g w v y) (number_of op f w a b)) (sym left)
    (subst (λ (v : Option ℕ). LaneRefines (lane_of op g w (Some a) v) (number_of op f w a b)) (sym right)
    (number_of-finer op g f w a b fewer))

no_divisor-finer : (y b : Option ℕ) → LaneRefines y b → no_divisor b ≡ false → no_divisor y ≡ false
no_divisor-finer y None right defined = absurd (cc)
no_divisor-finer y (Some b) right defined = ap no_divisor right ∙ defined

weaker_and : (d m x : Bool) → (d || (m && true)) ≡ false → (d || (m && x)) ≡ false
weaker_and true m x h = h
weaker_and false true x h = absurd (cc)
weaker_and false false x h = refl

no_quotient-finer : (w : ℕ) (x a y b : Option ℕ) → LaneRefines x a → LaneRefines y b → no_quotient w a b ≡ false → no_quotient w x y ≡ false
no_quotient-finer w x a y None left right defined = absurd (cc)
no_quotient-finer w x (Some a) y (Some b) left right defined =
    ap (λ (v : Option ℕ). no_quotient w v y) left ∙ ap (λ (v : Option ℕ). no_quotient w (Some a) v) right ∙ defined
no_quotient-finer w x None y (Some b) left right defined =
    ap (λ (v : Option ℕ). no_quotient w x v) right
    ∙ weaker_and (no_divisor (Some b)) (is_minus_one w (Some b)) (may_be_least w x) defined

pub is_undefined-finer : (op : BinOp) (w : ℕ) (x a y b : Option ℕ) → LaneRefines x a → LaneRefines y b
    → is_undefined op w a b ≡ false → is_undefined op w x y ≡ false
is_undefined-finer Udiv w x a y b left right defined = no_divisor-finer y b right defined
is_undefined-finer Urem w x a y b left right defined = no_divisor-finer y b right defined
is_undefined-finer Sdiv w x a y b left right defined = no_quotient-finer w x a y b left right defined
is_undefined-finer Srem w x a y b left right defined = no_quotient-finer w x a y b left right defined
is_undefined-finer Add w x a y b left right defined = refl
is_undefined-finer Sub w x a y b left right defined = refl
is_undefined-finer Mul w x a y b left right defined = refl
is_undefined-finer Shl w x a y b left right defined = refl
is_undefined-finer Lshr w x a y b left right defined = refl
is_undefined-finer Ashr w x a y b left right defined = refl
is_undefined-finer And w x a y b left right defined = refl
is_undefined-finer Or w x a y b left right defined = refl
is_undefined-finer Xor w x a y b left right defined = refl

ends-finer : (new old : Bool) (u v : Option ℕ) → (old ≡ false → new ≡ false) → LaneRefines u v
    → DoneRefines (if new then Undefined else Value u) (if old then Undefined else Value v)
ends-finer new true u v less finer = tt
ends-finer new false u v less finer =
    subst (λ (b : Bool). DoneRefines (if b then Undefined else Value u) (Value v)) (sym (less refl)) finer

pub bin_of-finer : (op : BinOp) (g f : Flags) (w : ℕ) (x a y b : Option ℕ) → Fewer g f → LaneRefines x a → LaneRefines y b
    → DoneRefines (bin_of op g w x y) (bin_of op f w a b)
bin_of-finer op g f w x a y b fewer left right =
    ends-finer (is_undefined op w x y) (is_undefined op w a b) (lane_of op g w x y) (lane_of op f w a b)
    (is_undefined-finer op w x a y b left right)
    (lane_of-finer op g f w x a y b fewer left right)

-- to clear flags alone
pub bin_of-fewer : (op : BinOp) (g f : Flags) (w : ℕ) (a b : Option ℕ) → Fewer g f → DoneRefines (bin_of op g w a b) (bin_of op f w a b)
bin_of-fewer op g f w a b fewer = bin_of-finer op g f w a a b b fewer (LaneRefines-refl a) (LaneRefines-refl b)

-- ---- comparisons and conversions

pub cmp_of-finer : (p : Pred) (w : ℕ) (x a y b : Option ℕ) → LaneRefines x a → LaneRefines y b → LaneRefines (cmp_of p w x y) (cmp_of p w a b)
cmp_of-finer p w x None y b left right = tt
cmp_of-finer p w x (Some a) y None left right = tt
cmp_of-finer p w x (Some a) y (Some b) left right =
    ap (λ (v : Option ℕ). cmp_of p w v y) left ∙ ap (λ (v : Option ℕ). cmp_of p w (Some a) v) right

pub cast_of-finer : (op : CastOp) (g f : Bool) (from to : ℕ) (x a : Option ℕ) → (g ≡ true → f ≡ true) → LaneRefines x a
    → LaneRefines (cast_of op g from to x) (cast_of op f from to a)
cast_of-finer op g f from to x None fewer operand = tt
cast_of-finer Zext g f from to x (Some a) fewer operand =
    subst (λ (v : Option ℕ). LaneRefines (cast_of Zext g from to v) (cast_of Zext f from to (Some a))) (sym operand)
    (when-finer (keeps g _) (keeps f _) a (keeps-finer g f _ fewer))
cast_of-finer Sext g f from to x (Some a) fewer operand = ap (cast_of Sext g from to) operand
cast_of-finer Trunc g f from to x (Some a) fewer operand = ap (cast_of Trunc g from to) operand

-- What the words of `run` give fits.
use Rattle.std.proofs.Common.{◌≡◌, refl, sym, ap, ◌∙◌, subst, ℕ, zero, suc, ℤ, pos, ◌+◌, ◌-◌, ◌*◌, ◌^◌, ◌<◌, ◌≤◌, Bool, true, false, ◌&&◌, Option, None, Some, Result, Ok, Err, List, [], ◌∷◌, ◌++◌, length, replicate, cond, nat_eq, nat_lt, nat_le, bytes_eq, slice_get, slice_set, codes, FitsSigned, ◌⊎◌, inl, inr, arith}
use Rattle.std.specs.List.{All, AllZip}
use Rattle.std.specs.Int.{w64}
use Rattle.std.proofs.Math.Facts.{sfits_lit}
use Rattle.std.proofs.Math.Pow.{pow-sub-lt}
use Rattle.std.proofs.lemmas.Int.{ints}
use Rattle.std.proofs.lemmas.Bool.Decides.{nat_tests}
use Rattle.std.proofs.lemmas.List.{length-append, length-replicate}
use Rattle.std.proofs.lemmas.List.Elements.{All-nil, All-cons, All-replicate}
use Rattle.vx_digits.specs.Numbers.{fitting, negative}
use Rattle.vx_digits.specs.Optional.{◌>>=◌, when}
use Rattle.vx_num.specs.Width.{IsLane}
use Rattle.ir_types.specs.declared.ty.Ty.{Ty}
use Rattle.ir_types.specs.declared.ty.Ty.TheVariants.{Void, Int, Ptr, Row as RowTy}
use Rattle.ir_types.specs.declared.func.Param.{Param}
use Rattle.ir_types.specs.declared.func.Func.{Func}
use Rattle.ir_types.specs.declared.module.Module.{Module}
use Rattle.ir_types.proofs.Formed.{Every, every_of_all, every_at}
use Rattle.ir_model.specs.declared.value.Value.{Value}
use Rattle.ir_model.specs.declared.value.Value.TheVariants.{Lane as LaneValue, Row as RowValue, Ptr as PtrValue}
use Rattle.ir_model.specs.Memory.{Memory}
use Rattle.ir_model.specs.Run.{functions_of}
use Rattle.ir_model.specs.Fits.{PointerFits, ValueFits, ObjectFits}
use Rattle.vec_words.specs.declared.literal.Lit.{Lit}
use Rattle.vec_words.specs.declared.literal.Lit.TheVariants.{Number, Truth, Poison}
use Rattle.vec_words.specs.declared.call.Arg.{Arg}
use Rattle.vec_words.specs.declared.call.Arg.TheVariants.{One, Zero, Row as RowArg, Made, Within, Global}
use Rattle.vec_words.specs.declared.call.Call.{Call}
use Rattle.vec_words.specs.declared.global.Contents.{Contents}
use Rattle.vec_words.specs.declared.global.Given.{Given}
use Rattle.vec_words.specs.declared.starts.Start.{Start}
use Rattle.vec_words.specs.declared.run_words.Called.{Called}
use Rattle.vec_words.specs.Answers.{choose}
use Rattle.vec_words.specs.Numbers.{offset_of, plain_of}
use Rattle.vec_words.specs.Pieces.{past, cut, closed, piece}
use Rattle.vec_words.specs.Hex.{digit_of, byte_of, bytes_after, bytes_of}
use Rattle.vec_words.specs.Literals.{lit_of, lane_in, lanes_after}
use Rattle.vec_words.specs.Calls.{goes_on_with, name_of, callable_of, lits_within, row_arg, made_arg, makes, within_arg, global_arg, plain_arg, arg_of, args_within, args_of, call_of, contents_of}
use Rattle.vec_words.specs.Arguments.{place_from, int_value, row_lanes, pointer_into, pointer_to, pointer_value, value_in, made_count, values_after}
use Rattle.vec_words.specs.Globals.{untouched, is_free, with_bytes_at, with_word, then_words, with_words}
use Rattle.vec_words.specs.Starts.{named_from, made_after, called_in, started, start_called, start_of, IsFit}

-- ---- readings that find something

bind_some : {A B : Type 0} (o : Option A) (f : A → Option B) (b : B) → (o >>= f) ≡ Some b → (a : A) × (o ≡ Some a) × (f a ≡ Some b)
bind_some None f b e = absurd cc
bind_some (Some a) f b e = (a, refl, e)

when_some : {A : Type 0} (t : Bool) (a b : A) → when t a ≡ Some b → (t ≡ true) × (a ≡ b)
when_some true a b e = (refl, cc)
when_some false a b e = absurd cc

choose_some : {A B : Type 0} (o : Option A) (f : A → Option B) (other : Option B) (b : B) → choose o f other ≡ Some b → ((a : A) × (f a ≡ Some b)) ⊎ (other ≡ Some b)
choose_some None f other b e = inr e
choose_some (Some a) f other b e = inl (a, e)

cond_some : {A : Type 0} (t : Bool) (x y : Option A) (b : A) → cond t x y ≡ Some b → (x ≡ Some b) ⊎ (y ≡ Some b)
cond_some true x y b e = inl e
cond_some false x y b e = inr e

some_same : {A : Type 0} (a b : A) → Some a ≡ Some b → a ≡ b
some_same a b e = cc

-- ---- bytes

digit_small : (b n : ℕ) → digit_of b ≡ Some n → n < 16
unfolding digit_of
digit_small b n e = by_first (nat_le 48 b && nat_le b 57) refl e
  where
    by_letter : (t : Bool) → nat_le 97 b && nat_le b 102 ≡ t → when t (b - 87) ≡ Some n → n < 16
    by_letter true h e = let s : b - 87 ≡ n = cc in grind (arith, nat_tests)
    by_letter false h e = absurd cc

    by_first : (t : Bool) → nat_le 48 b && nat_le b 57 ≡ t → cond t (Some (b - 48)) (when (nat_le 97 b && nat_le b 102) (b - 87)) ≡ Some n → n < 16
    by_first true h e = let s : b - 48 ≡ n = cc in grind (arith, nat_tests)
    by_first false h e = by_letter (nat_le 97 b && nat_le b 102) refl e

byte_fits : (a b : ℕ) (x : Option ℕ) → byte_of a b ≡ Some x → IsLane 8 x
unfolding byte_of
byte_fits a b None e = tt
byte_fits a b (Some n) e = by_first (nat_eq a 63 && nat_eq b 63) e
  where
    by_first : (t : Bool) → cond t (Some None) (digit_of a >>= (λ high. digit_of b >>= (λ low. Some (Some (16 * high + low))))) ≡ Some (Some n) → n < 2 ^ 8
    by_first true e = absurd cc
    by_first false e =
        let h = bind_some (digit_of a) (λ high. digit_of b >>= (λ low. Some (Some (16 * high + low)))) (Some n) e in
        let l = bind_some (digit_of b) (λ low. Some (Some (16 * h.0 + low))) (Some n) h.2 in
        let high = digit_small a h.0 h.1 in
        let low = digit_small b l.0 l.1 in
        let same : 16 * h.0 + l.0 ≡ n = cc in
        omega arith

every_push : {A : Type 0} (P : A → Type 0) (xs : List A) (x : A) → Every P xs → P x → Every P (xs ++ x ∷ [])
every_push P [] x h p = (p, tt)
every_push P (y ∷ xs) x h p = (h.0, every_push P xs x h.1 p)

all_of_every : {A : Type 0} (P : A → Type 0) (xs : List A) → Every P xs → All P xs
all_of_every P [] h = All-nil P
all_of_every P (x ∷ xs) h = All-cons P x xs h.0 (all_of_every P xs h.1)

bytes_fit : (before : List (Option ℕ)) (t : List ℕ) (bs : List (Option ℕ)) → Every (IsLane 8) before → bytes_after before t ≡ Some bs →
    Every (IsLane 8) bs × (2 * length bs ≡ 2 * length before + length t)
bytes_fit before [] bs h e = let s : before ≡ bs = cc in (subst (Every (IsLane 8)) s h, ap (λ xs. 2 * length xs) (sym s) ∙ omega arith)
bytes_fit before (a ∷ []) bs h e = absurd cc
bytes_fit before (a ∷ b ∷ t) bs h e =
    let x = bind_some (byte_of a b) (λ x. bytes_after (before ++ x ∷ []) t) bs e in
    let r = bytes_fit (before ++ x.0 ∷ []) t bs (every_push (IsLane 8) before x.0 h (byte_fits a b x.0 x.1)) x.2 in
    let long = length-append before (x.0 ∷ []) in
    let count = r.1 in
    (r.0, omega arith)

object_fits : (t : List ℕ) (bs : List (Option ℕ)) → bytes_of t ≡ Some bs → ObjectFits bs
object_fits t bs e = by_test (nat_lt 281474976710656 (length t)) refl e
  where
    by_test : (b : Bool) → nat_lt 281474976710656 (length t) ≡ b → cond b None (bytes_after [] t) ≡ Some bs → ObjectFits bs
    by_test true h e = absurd cc
    by_test false h e =
        let r = bytes_fit [] t bs tt e in
        let count = r.1 in
        let few : length t ≤ 281474976710656 = grind (arith, nat_tests) in
        ((omega arith), all_of_every (IsLane 8) bs r.0)

-- ---- lanes

lane_fits : (w : ℕ) (l : Lit) (x : Option ℕ) → lane_in w l ≡ Some x → IsLane w x
unfolding lane_in fitting negative
lane_fits w l None e = tt
lane_fits w Poison (Some n) e = absurd cc
lane_fits w (Truth b) (Some n) e =
    let h = when_some (nat_eq w 1) (Some (cond b 1 0)) (Some n) e in
    let one : w ≡ 1 = (let t = h.0 in grind (arith, nat_tests)) in
    let same : cond b 1 0 ≡ n = some_same (cond b 1 0) n h.1 in
    subst (λ k. n < 2 ^ k) (sym one) (subst (λ k. k < 2 ^ 1) same (small b))
  where
    small : (b : Bool) → cond b 1 0 < 2 ^ 1
    small true = omega arith
    small false = omega arith
lane_fits w (Number minus k) (Some n) e =
    let r = bind_some (cond minus (negative w k) (fitting w k)) (λ x. Some (Some x)) (Some n) e in
    subst (λ m. m < 2 ^ w) (some_same r.0 n (some_same (Some r.0) (Some n) r.2)) (by_sign minus r.0 r.1)
  where
    by_fitting : (t : Bool) (x : ℕ) → cond t None (when (nat_lt k (2 ^ w)) k) ≡ Some x → x < 2 ^ w
    by_fitting true x e = absurd cc
    by_fitting false x e =
        let h = when_some (nat_lt k (2 ^ w)) k x e in
        subst (λ m. m < 2 ^ w) h.1 (let t = h.0 in grind (arith, nat_tests))

    power : 0 < 2 ^ w
    power = let less : 2 ^ w - 1 < 2 ^ w = pow-sub-lt w (omega arith) in omega arith

    by_zero : (z : Bool) (x : ℕ) → nat_eq k 0 ≡ z → cond z (Some 0) (when (nat_le (2 * k) (2 ^ w)) (2 ^ w - k)) ≡ Some x → x < 2 ^ w
    by_zero true x h e = subst (λ m. m < 2 ^ w) (some_same 0 x e) power
    by_zero false x h e =
        let g = when_some (nat_le (2 * k) (2 ^ w)) (2 ^ w - k) x e in
        let some : 0 < k = grind (arith, nat_tests) in
        subst (λ m. m < 2 ^ w) g.1 (pow-sub-lt w some)

    by_negative : (t : Bool) (x : ℕ) → cond t None (cond (nat_eq k 0) (Some 0) (when (nat_le (2 * k) (2 ^ w)) (2 ^ w - k))) ≡ Some x → x < 2 ^ w
    by_negative true x e = absurd cc
    by_negative false x e = by_zero (nat_eq k 0) x refl e

    by_sign : (minus : Bool) (x : ℕ) → cond minus (negative w k) (fitting w k) ≡ Some x → x < 2 ^ w
    by_sign true x e = by_negative (nat_lt 64 w) x e
    by_sign false x e = by_fitting (nat_lt 64 w) x e

lanes_fit : (w : ℕ) (before : List (Option ℕ)) (ls : List Lit) (xs : List (Option ℕ)) → Every (IsLane w) before → lanes_after w before ls ≡ Some xs →
    Every (IsLane w) xs × (length xs ≡ length before + length ls)
lanes_fit w before [] xs h e = let s : before ≡ xs = cc in (subst (Every (IsLane w)) s h, ap length (sym s) ∙ omega arith)
lanes_fit w before (l ∷ ls) xs h e =
    let x = bind_some (lane_in w l) (λ x. lanes_after w (before ++ x ∷ []) ls) xs e in
    let r = lanes_fit w (before ++ x.0 ∷ []) ls xs (every_push (IsLane w) before x.0 h (lane_fits w l x.0 x.1)) x.2 in
    let long = length-append before (x.0 ∷ []) in
    let count = r.1 in
    (r.0, omega arith)

-- ---- arguments as they are spelled

abbrev ArgFits : Arg → Type 0
ArgFits (Made bytes) = ObjectFits bytes
ArgFits (Within i d) = FitsSigned w64 d
ArgFits (Global name d) = FitsSigned w64 d
ArgFits _ = Unit {0}

offset_fits : (t : List ℕ) (d : ℤ) → offset_of t ≡ Some d → FitsSigned w64 d
unfolding offset_of
offset_fits t d e =
    let n = bind_some (plain_of t) (λ n. when (nat_lt n (2 ^ 63)) (pos n)) d e in
    let h = when_some (nat_lt n.0 (2 ^ 63)) (pos n.0) d n.2 in
    subst (FitsSigned w64) h.1 (let less : n.0 < 2 ^ 63 = (let t = h.0 in grind (arith, nat_tests)) in omega (arith, ints))

made_fits : (t : List ℕ) (a : Arg) → made_arg t ≡ Some a → ArgFits a
unfolding made_arg
made_fits t a e = let b = bind_some (bytes_of t) (λ bytes. Some (Made bytes)) a e in subst ArgFits (some_same (Made b.0) a b.2) (object_fits t b.0 b.1)

within_fits : (before : List Arg) (t : List ℕ) (a : Arg) → within_arg before t ≡ Some a → ArgFits a
unfolding within_arg
within_fits before t a e =
    let p = bind_some (cut 43 t) (λ parts. plain_of parts.0 >>= (λ i. offset_of parts.1 >>= (λ d. when (makes (slice_get before i)) (Within i d)))) a e in
    let i = bind_some (plain_of p.0.0) (λ i. offset_of p.0.1 >>= (λ d. when (makes (slice_get before i)) (Within i d))) a p.2 in
    let d = bind_some (offset_of p.0.1) (λ d. when (makes (slice_get before i.0)) (Within i.0 d)) a i.2 in
    subst ArgFits (when_some (makes (slice_get before i.0)) (Within i.0 d.0) a d.2).1 (offset_fits p.0.1 d.0 d.1)

global_fits : (t : List ℕ) (a : Arg) → global_arg t ≡ Some a → ArgFits a
unfolding global_arg
global_fits t a e =
    let p = bind_some (cut 43 t) (λ parts. name_of parts.0 >>= (λ name. offset_of parts.1 >>= (λ d. Some (Global name d)))) a e in
    let n = bind_some (name_of p.0.0) (λ name. offset_of p.0.1 >>= (λ d. Some (Global name d))) a p.2 in
    let d = bind_some (offset_of p.0.1) (λ d. Some (Global n.0 d)) a n.2 in
    subst ArgFits (some_same (Global n.0 d.0) a d.2) (offset_fits p.0.1 d.0 d.1)

row_fits : (t : List ℕ) (a : Arg) → row_arg t ≡ Some a → ArgFits a
unfolding row_arg
row_fits t a e =
    let p = bind_some (closed 62 t) (λ inner. lits_within inner [] inner >>= (λ ls. Some (RowArg ls))) a e in
    let l = bind_some (lits_within p.0 [] p.0) (λ ls. Some (RowArg ls)) a p.2 in
    subst ArgFits (some_same (RowArg l.0) a l.2) tt

plain_fits : (t : List ℕ) (a : Arg) → plain_arg t ≡ Some a → ArgFits a
plain_fits t a e = by_zero (cond_some (bytes_eq t (codes "zeroinitializer")) (Some Zero) (lit_of t >>= (λ l. Some (One l))) a e)
  where
    by_zero : (Some Zero ≡ Some a) ⊎ ((lit_of t >>= (λ l. Some (One l))) ≡ Some a) → ArgFits a
    by_zero (inl e) = subst ArgFits (some_same Zero a e) tt
    by_zero (inr e) = let l = bind_some (lit_of t) (λ l. Some (One l)) a e in subst ArgFits (some_same (One l.0) a l.2) tt

arg_fits : (before : List Arg) (t : List ℕ) (a : Arg) → arg_of before t ≡ Some a → ArgFits a
unfolding arg_of
arg_fits before t a e = by_made (choose_some (past (codes "mem:") t) made_arg after_made a e)
  where
    after_row : Option Arg
    after_row = choose (past (codes "<") t) row_arg (plain_arg t)

    after_made : Option Arg
    after_made = choose (past (codes "arg:") t) (within_arg before) (choose (past (codes "@") t) global_arg (choose (past (codes "<") t) row_arg (plain_arg t)))

    by_row : ((u : List ℕ) × (row_arg u ≡ Some a)) ⊎ (plain_arg t ≡ Some a) → ArgFits a
    by_row (inl r) = row_fits r.0 a r.1
    by_row (inr e) = plain_fits t a e

    by_global : ((u : List ℕ) × (global_arg u ≡ Some a)) ⊎ (choose (past (codes "<") t) row_arg (plain_arg t) ≡ Some a) → ArgFits a
    by_global (inl r) = global_fits r.0 a r.1
    by_global (inr e) = by_row (choose_some (past (codes "<") t) row_arg (plain_arg t) a e)

    by_within : ((u : List ℕ) × (within_arg before u ≡ Some a)) ⊎ (choose (past (codes "@") t) global_arg (choose (past (codes "<") t) row_arg (plain_arg t)) ≡ Some a) → ArgFits a
    by_within (inl r) = within_fits before r.0 a r.1
    by_within (inr e) = by_global (choose_some (past (codes "@") t) global_arg (choose (past (codes "<") t) row_arg (plain_arg t)) a e)

    by_made : ((u : List ℕ) × (made_arg u ≡ Some a)) ⊎ (choose (past (codes "arg:") t) (within_arg before) (choose (past (codes "@") t) global_arg (choose (past (codes "<") t) row_arg (plain_arg t))) ≡ Some a) → ArgFits a
    by_made (inl r) = made_fits r.0 a r.1
    by_made (inr e) = by_within (choose_some (past (codes "arg:") t) (within_arg before) (choose (past (codes "@") t) global_arg (choose (past (codes "<") t) row_arg (plain_arg t))) a e)

args_fit : (bound : List ℕ) (before : List Arg) (t : List ℕ) (args : List Arg) → Every ArgFits before → args_within bound before t ≡ Some args → Every ArgFits args
args_fit [] before t args h e = absurd cc
args_fit (b ∷ bound) before t args h e =
    let a = bind_some (arg_of before (piece t).0) (λ a. goes_on_with (piece t).1 (before ++ a ∷ []) (args_within bound (before ++ a ∷ []))) args e in
    by_rest (before ++ a.0 ∷ []) (every_push ArgFits before a.0 h (arg_fits before (piece t).0 a.0 a.1)) (piece t).1 a.2
    (λ u h e. args_fit bound (before ++ a.0 ∷ []) u args h e)
  where
    by_rest : (more : List Arg) → Every ArgFits more → (rest : Option (List ℕ)) → goes_on_with rest more (args_within bound more) ≡ Some args →
        ((u : List ℕ) → Every ArgFits more → args_within bound more u ≡ Some args → Every ArgFits args) → Every ArgFits args
    by_rest more h None e go = subst (Every ArgFits) (some_same more args e) h
    by_rest more h (Some u) e go = go u h e

all_args_fit : (t : List ℕ) (args : List Arg) → args_of t ≡ Some args → Every ArgFits args
all_args_fit [] args e = subst (Every ArgFits) (some_same [] args e) tt
all_args_fit (b ∷ bs) args e = args_fit (b ∷ bs) [] (b ∷ bs) args tt e

call_fits : (w : List ℕ) (c : Call) → call_of w ≡ Some c → Every ArgFits c.args
unfolding call_of
call_fits w c e =
    let p = bind_some (cut 40 w) (λ parts. callable_of parts.0 >>= (λ name. closed 41 parts.1 >>= (λ inner. args_of inner >>= (λ args. Some (record { name = name; args = args }))))) c e in
    let n = bind_some (callable_of p.0.0) (λ name. closed 41 p.0.1 >>= (λ inner. args_of inner >>= (λ args. Some (record { name = name; args = args })))) c p.2 in
    let i = bind_some (closed 41 p.0.1) (λ inner. args_of inner >>= (λ args. Some (record { name = n.0; args = args }))) c n.2 in
    let a = bind_some (args_of i.0) (λ args. Some (record { name = n.0; args = args })) c i.2 in
    subst (λ (k : Call). Every ArgFits k.args) (some_same (record { name = n.0; args = a.0 }) c a.2) (all_args_fit i.0 a.0 a.1)

-- ---- values

place_small : (at : ℕ) (names : List (List ℕ)) (name : List ℕ) (k : ℕ) → place_from at names name ≡ Some k → k < at + length names
place_small at [] name k e = absurd cc
place_small at (n ∷ names) name k e = by_test (bytes_eq n name) e (λ r. place_small (suc at) names name k r)
  where
    by_test : (b : Bool) → cond b (Some at) (place_from (suc at) names name) ≡ Some k → (place_from (suc at) names name ≡ Some k → k < suc at + length names) → k < at + length (n ∷ names)
    by_test true e more = let s : at ≡ k = cc in omega arith
    by_test false e more = let less = more e in omega arith

-- a value that names one of so many objects, if it is a pointer
abbrev Names : ℕ → Value → Type 0
Names objects (PtrValue p) = PointerFits objects p
Names objects v = Unit {0}

names_more : (few more : ℕ) (v : Value) → few ≤ more → Names few v → Names more v
names_more few more (PtrValue None) h z = tt
names_more few more (PtrValue (Some p)) h z = let less = z.0 in (omega arith, z.1)
names_more few more (LaneValue a) h z = tt
names_more few more (RowValue a) h z = tt

fits_more : (few more : ℕ) (t : Ty) (v : Value) → few ≤ more → ValueFits few t v → ValueFits more t v
fits_more few more (Int w) (LaneValue a) h z = z
fits_more few more (RowTy n w) (RowValue a) h z = z
fits_more few more Ptr (PtrValue p) h z = names_more few more (PtrValue p) h z
fits_more few more Void v h z = elim z [ ]
fits_more few more (Int w) (RowValue a) h z = elim z [ ]
fits_more few more (Int w) (PtrValue p) h z = elim z [ ]
fits_more few more (RowTy n w) (LaneValue a) h z = elim z [ ]
fits_more few more (RowTy n w) (PtrValue p) h z = elim z [ ]
fits_more few more Ptr (LaneValue a) h z = elim z [ ]
fits_more few more Ptr (RowValue a) h z = elim z [ ]

fits_names : (objects : ℕ) (t : Ty) (v : Value) → ValueFits objects t v → Names objects v
fits_names objects t (LaneValue a) z = tt
fits_names objects t (RowValue a) z = tt
fits_names objects Ptr (PtrValue p) z = z
fits_names objects Void (PtrValue p) z = elim z [ ]
fits_names objects (Int w) (PtrValue p) z = elim z [ ]
fits_names objects (RowTy n w) (PtrValue p) z = elim z [ ]

zero_lane : (w : ℕ) → IsLane w (Some 0)
zero_lane w = let less : 2 ^ w - 1 < 2 ^ w = pow-sub-lt w (omega arith) in omega arith

row_lanes_fit : (n w : ℕ) (a : Arg) (xs : List (Option ℕ)) → row_lanes n w a ≡ Some xs → (length xs ≡ n) × All (IsLane w) xs
unfolding row_lanes
row_lanes_fit n w (One Poison) xs e =
    subst (λ (ys : List (Option ℕ)). (length ys ≡ n) × All (IsLane w) ys) (some_same (replicate n None) xs e) (length-replicate n None, All-replicate (IsLane w) n None tt)
row_lanes_fit n w (One (Number minus k)) xs e = absurd cc
row_lanes_fit n w (One (Truth b)) xs e = absurd cc
row_lanes_fit n w Zero xs e =
    subst (λ (ys : List (Option ℕ)). (length ys ≡ n) × All (IsLane w) ys) (some_same (replicate n (Some 0)) xs e) (length-replicate n (Some 0), All-replicate (IsLane w) n (Some 0) (zero_lane w))
row_lanes_fit n w (RowArg ls) xs e = by_test (nat_eq (length ls) n) refl e
  where
    by_test : (b : Bool) → nat_eq (length ls) n ≡ b → cond b (lanes_after w [] ls) None ≡ Some xs → (length xs ≡ n) × All (IsLane w) xs
    by_test true h e =
        let r = lanes_fit w [] ls xs tt e in
        let count = r.1 in
        let long : length ls ≡ n = grind (arith, nat_tests) in
        (omega arith, all_of_every (IsLane w) xs r.0)
    by_test false h e = absurd cc
row_lanes_fit n w (Made bytes) xs e = absurd cc
row_lanes_fit n w (Within i d) xs e = absurd cc
row_lanes_fit n w (Global name d) xs e = absurd cc

int_fits : (objects w : ℕ) (a : Arg) (v : Value) → int_value w a ≡ Some v → ValueFits objects (Int w) v
unfolding int_value
int_fits objects w (One l) v e =
    let x = bind_some (lane_in w l) (λ x. Some (LaneValue x)) v e in
    subst (ValueFits objects (Int w)) (some_same (LaneValue x.0) v x.2) (lane_fits w l x.0 x.1)
int_fits objects w Zero v e = absurd cc
int_fits objects w (RowArg ls) v e = absurd cc
int_fits objects w (Made bytes) v e = absurd cc
int_fits objects w (Within i d) v e = absurd cc
int_fits objects w (Global name d) v e = absurd cc

-- a pointer, where values to the left name objects that are there before an argument makes its own
pointer_fits : (globals : List (List ℕ)) (next : ℕ) (before : List Value) (a : Arg) (v : Value) → length globals ≤ next → Every (Names next) before → ArgFits a →
    pointer_value globals next before a ≡ Some v → ValueFits (next + made_count a) Ptr v
unfolding pointer_value pointer_into
pointer_fits globals next before (One Poison) v few h z e = subst (ValueFits (next + 0) Ptr) (some_same (PtrValue None) v e) tt
pointer_fits globals next before (One (Number minus k)) v few h z e = absurd cc
pointer_fits globals next before (One (Truth b)) v few h z e = absurd cc
pointer_fits globals next before Zero v few h z e = absurd cc
pointer_fits globals next before (RowArg ls) v few h z e = absurd cc
pointer_fits globals next before (Made bytes) v few h z e = subst (ValueFits (next + 1) Ptr) (some_same (PtrValue (Some (next, pos 0))) v e) (omega arith, sfits_lit tt)
pointer_fits globals next before (Within i d) v few h z e = by_value (slice_get before i) refl e
  where
    by_value : (o : Option Value) → slice_get before i ≡ o → pointer_into o d ≡ Some v → ValueFits (next + 0) Ptr v
    by_value (Some (PtrValue (Some p))) at e =
        let inside = (every_at (Names next) before i (PtrValue (Some p)) h at).0 in
        subst (ValueFits (next + 0) Ptr) (some_same (PtrValue (Some (p.0, d))) v e) (omega arith, z)
    by_value (Some (PtrValue None)) at e = absurd cc
    by_value (Some (LaneValue x)) at e = absurd cc
    by_value (Some (RowValue x)) at e = absurd cc
    by_value None at e = absurd cc
pointer_fits globals next before (Global name d) v few h z e =
    let k = bind_some (place_from 0 globals name) (λ k. pointer_to k d) v e in
    let small = place_small 0 globals name k.0 k.1 in
    subst (ValueFits (next + 0) Ptr) (some_same (PtrValue (Some (k.0, d))) v k.2) (omega arith, z)

value_fits : (globals : List (List ℕ)) (next : ℕ) (before : List Value) (t : Ty) (a : Arg) (v : Value) → length globals ≤ next → Every (Names next) before → ArgFits a →
    value_in globals next before t a ≡ Some v → ValueFits (next + made_count a) t v
unfolding value_in
value_fits globals next before Void a v few h z e = absurd cc
value_fits globals next before (Int w) a v few h z e = int_fits (next + made_count a) w a v e
value_fits globals next before (RowTy n w) a v few h z e =
    let r = bind_some (row_lanes n w a) (λ ls. Some (RowValue ls)) v e in
    subst (ValueFits (next + made_count a) (RowTy n w)) (some_same (RowValue r.0) v r.2) (row_lanes_fit n w a r.0 r.1)
value_fits globals next before Ptr a v few h z e = pointer_fits globals next before a v few h z e

-- how many objects arguments make
abbrev all_made : List Arg → ℕ
all_made [] = 0
all_made (a ∷ args) = made_count a + all_made args

abbrev Typed : ℕ → List Param → List Value → Type 0
Typed objects ps vs = AllZip (λ (p : Param) v. ValueFits objects p.ty v) ps vs

every_names : (few more : ℕ) (vs : List Value) → few ≤ more → Every (Names few) vs → Every (Names more) vs
every_names few more [] h z = tt
every_names few more (v ∷ vs) h z = (names_more few more v h z.0, every_names few more vs h z.1)

zip_push : (objects : ℕ) (ps : List Param) (vs : List Value) (p : Param) (v : Value) → Typed objects ps vs → ValueFits objects p.ty v → Typed objects (ps ++ p ∷ []) (vs ++ v ∷ [])
zip_push objects [] [] p v z h = (h, tt)
zip_push objects (q ∷ ps) (u ∷ vs) p v z h = (z.0, zip_push objects ps vs p v z.1 h)
zip_push objects [] (u ∷ vs) p v z h = elim z [ ]
zip_push objects (q ∷ ps) [] p v z h = elim z [ ]

append_one : {A : Type 0} (xs : List A) (y : A) (ys : List A) → (xs ++ y ∷ []) ++ ys ≡ xs ++ y ∷ ys
append_one [] y ys = refl
append_one (x ∷ xs) y ys = ap (λ zs. x ∷ zs) (append_one xs y ys)

append_none : {A : Type 0} (xs : List A) → xs ++ [] ≡ xs
append_none [] = refl
append_none (x ∷ xs) = ap (λ zs. x ∷ zs) (append_none xs)

values_fit : (globals : List (List ℕ)) (next : ℕ) (before : List Value) (done ps : List Param) (args : List Arg) (vs : List Value) (objects : ℕ) → length globals ≤ next →
    next + all_made args ≤ objects → Every (Names next) before → Every ArgFits args → Typed objects done before → values_after globals next before ps args ≡ Some vs → Typed objects (done ++ ps) vs
values_fit globals next before done [] [] vs objects few most h z typed e =
    subst (λ (qs : List Param). Typed objects qs vs) (sym (append_none done)) (subst (Typed objects done) (some_same before vs e) typed)
values_fit globals next before done [] (a ∷ args) vs objects few most h z typed e = absurd cc
values_fit globals next before done (p ∷ ps) [] vs objects few most h z typed e = absurd cc
values_fit globals next before done (p ∷ ps) (a ∷ args) vs objects few most h z typed e =
    let v = bind_some (value_in globals next before p.ty a) (λ v. values_after globals (next + made_count a) (before ++ v ∷ []) ps args) vs e in
    let fits = value_fits globals next before p.ty a v.0 few h z.0 v.1 in
    subst (λ (qs : List Param). Typed objects qs vs) (append_one done p ps)
    (values_fit globals (next + made_count a) (before ++ v.0 ∷ []) (done ++ p ∷ []) ps args vs objects (omega arith) (omega arith)
    (every_push (Names (next + made_count a)) before v.0 (every_names next (next + made_count a) before (omega arith) h) (fits_names (next + made_count a) p.ty v.0 fits))
    z.1 (zip_push objects done before p v.0 typed (fits_more (next + made_count a) objects p.ty v.0 (omega arith) fits)) v.2)

-- ---- memories

made_length : (before : Memory) (args : List Arg) → length (made_after before args) ≡ length before + all_made args
made_length before [] = omega arith
made_length before (Made bytes ∷ args) = let rest = made_length (before ++ bytes ∷ []) args in let long = length-append before (bytes ∷ []) in omega arith
made_length before (One l ∷ args) = let rest = made_length before args in omega arith
made_length before (Zero ∷ args) = let rest = made_length before args in omega arith
made_length before (RowArg ls ∷ args) = let rest = made_length before args in omega arith
made_length before (Within i d ∷ args) = let rest = made_length before args in omega arith
made_length before (Global name d ∷ args) = let rest = made_length before args in omega arith

made_objects : (before : Memory) (args : List Arg) → Every ObjectFits before → Every ArgFits args → Every ObjectFits (made_after before args)
made_objects before [] h z = h
made_objects before (Made bytes ∷ args) h z = made_objects (before ++ bytes ∷ []) args (every_push ObjectFits before bytes h z.0) z.1
made_objects before (One l ∷ args) h z = made_objects before args h z.1
made_objects before (Zero ∷ args) h z = made_objects before args h z.1
made_objects before (RowArg ls ∷ args) h z = made_objects before args h z.1
made_objects before (Within i d ∷ args) h z = made_objects before args h z.1
made_objects before (Global name d ∷ args) h z = made_objects before args h z.1

-- the objects of globals, by so many names
record Objects (count : ℕ) (g : Given) : Type 0 where
  many : length g.memory ≡ count
  fits : Every ObjectFits g.memory

every_set : {A : Type 0} (P : A → Type 0) (xs : List A) (k : ℕ) (x : A) → Every P xs → P x → Every P (slice_set xs k x)
every_set P [] k x h p = tt
every_set P (y ∷ xs) zero x h p = (p, h.1)
every_set P (y ∷ xs) (suc k) x h p = (h.0, every_set P xs k x h.1 p)

length_set : {A : Type 0} (xs : List A) (k : ℕ) (x : A) → length (slice_set xs k x) ≡ length xs
length_set [] k x = refl
length_set (y ∷ xs) zero x = refl
length_set (y ∷ xs) (suc k) x = ap suc (length_set xs k x)

contents_fit : (w : List ℕ) (c : Contents) → contents_of w ≡ Some c → ObjectFits c.bytes
unfolding contents_of
contents_fit w c e =
    let u = bind_some (past (codes "@") w) (λ u. cut 61 u >>= (λ parts. name_of parts.0 >>= (λ name. bytes_of parts.1 >>= (λ bytes. Some (record { name = name; bytes = bytes }))))) c e in
    let p = bind_some (cut 61 u.0) (λ parts. name_of parts.0 >>= (λ name. bytes_of parts.1 >>= (λ bytes. Some (record { name = name; bytes = bytes })))) c u.2 in
    let n = bind_some (name_of p.0.0) (λ name. bytes_of p.0.1 >>= (λ bytes. Some (record { name = name; bytes = bytes }))) c p.2 in
    let b = bind_some (bytes_of p.0.1) (λ bytes. Some (record { name = n.0; bytes = bytes })) c n.2 in
    subst (λ (k : Contents). ObjectFits k.bytes) (some_same (record { name = n.0; bytes = b.0 }) c b.2) (object_fits p.0.1 b.0 b.1)

word_objects : (globals : List (List ℕ)) (count : ℕ) (g h : Given) (w : List ℕ) → Objects count g → with_word globals g w ≡ Some h → Objects count h
unfolding with_word with_bytes_at
word_objects globals count g h w z e =
    let c = bind_some (contents_of w) (λ c. place_from 0 globals c.name >>= (λ k. with_bytes_at g k c.bytes)) h e in
    let k = bind_some (place_from 0 globals c.0.name) (λ k. with_bytes_at g k c.0.bytes) h c.2 in
    let s = when_some (is_free g k.0) (record { memory = slice_set g.memory k.0 c.0.bytes; named = slice_set g.named k.0 true }) h k.2 in
    subst (Objects count) s.1 (record {
      many = length_set g.memory k.0 c.0.bytes ∙ z.many;
      fits = every_set ObjectFits g.memory k.0 c.0.bytes z.fits (contents_fit w c.0 c.1);
    })

words_objects : (globals : List (List ℕ)) (count : ℕ) (g h : Given) (at : ℕ) (ws : List (List ℕ)) → Objects count g → with_words globals g at ws ≡ Ok h → Objects count h
words_objects globals count g h at [] z e = let s : g ≡ h = cc in subst (Objects count) s z
words_objects globals count g h at (w ∷ ws) z e = by_word (with_word globals g w) refl e (λ k y r. words_objects globals count k h (suc at) ws y r)
  where
    by_word : (o : Option Given) → with_word globals g w ≡ o → then_words o at (λ k. with_words globals k (suc at) ws) ≡ Ok h →
        ((k : Given) → Objects count k → with_words globals k (suc at) ws ≡ Ok h → Objects count h) → Objects count h
    by_word None f e more = absurd cc
    by_word (Some k) f e more = more k (word_objects globals count g k w z f) e

untouched_objects : (count : ℕ) → Every ObjectFits (replicate count [])
untouched_objects count = every_of_all ObjectFits (replicate count []) (All-replicate ObjectFits count [] (omega arith, All-nil (IsLane 8)))

-- ---- the start

named_at : (name : List ℕ) (n : ℕ) (fs : List Func) (k : ℕ × Func) → named_from name n fs ≡ Some k → (j : ℕ) × (k.0 ≡ n + j) × (slice_get fs j ≡ Some k.1)
named_at name n [] k e = absurd cc
named_at name n (f ∷ fs) k e = by_test (bytes_eq f.name name) e (λ r. named_at name (suc n) fs k r)
  where
    by_test : (b : Bool) → cond b (Some (n, f)) (named_from name (suc n) fs) ≡ Some k →
        (named_from name (suc n) fs ≡ Some k → (j : ℕ) × (k.0 ≡ suc n + j) × (slice_get fs j ≡ Some k.1)) → (j : ℕ) × (k.0 ≡ n + j) × (slice_get (f ∷ fs) j ≡ Some k.1)
    by_test true e more = let s : (n, f) ≡ k = some_same (n, f) k e in (0, (sym (ap (λ (p : ℕ × Func). p.0) s) ∙ omega arith), ap (λ (p : ℕ × Func). Some p.1) s)
    by_test false e more = let r = more e in (suc r.0, (let c = r.1 in omega arith), r.2)

called_fits : (m : Module) (c : Called) (w : List ℕ) (g : Given) → called_in m w ≡ Some c → Objects (length m.globals) g →
    IsFit m (record { func = c.func; args = c.args; memory = made_after g.memory c.made })
unfolding called_in
called_fits m c w g e z =
    let call = bind_some (call_of w) (λ call. named_from call.name 0 (functions_of m.items) >>= (λ found. values_after m.globals (length m.globals) [] found.1.params call.args >>= (λ values.
    Some (record { func = found.0; made = call.args; args = values })))) c e in
    let found = bind_some (named_from call.0.name 0 (functions_of m.items)) (λ found. values_after m.globals (length m.globals) [] found.1.params call.0.args >>= (λ values.
    Some (record { func = found.0; made = call.0.args; args = values }))) c call.2 in
    let values = bind_some (values_after m.globals (length m.globals) [] found.0.1.params call.0.args) (λ values. Some (record { func = found.0.0; made = call.0.args; args = values })) c found.2 in
    let at = named_at call.0.name 0 (functions_of m.items) found.0 found.1 in
    let long = made_length g.memory call.0.args in
    let many = z.many in
    subst (λ (k : Called). IsFit m (record { func = k.func; args = k.args; memory = made_after g.memory k.made })) (some_same (record { func = found.0.0; made = call.0.args; args = values.0 }) c values.2)
    (record {
      func = found.0.1;
      found = ap (slice_get (functions_of m.items)) (at.1 ∙ omega arith) ∙ at.2;
      fits = record {
        typed = values_fit m.globals (length m.globals) [] [] found.0.1.params call.0.args values.0 (length (made_after g.memory call.0.args)) (omega arith) (omega arith) tt (call_fits w call.0 call.1) tt values.1;
        objects = all_of_every ObjectFits (made_after g.memory call.0.args) (made_objects g.memory call.0.args z.fits (call_fits w call.0 call.1));
        globals = omega arith;
      };
    })

pub start_fits : (m : Module) (ws : List (List ℕ)) (s : Start) → start_of m ws ≡ Ok s → IsFit m s
start_fits m [] s e = absurd cc
start_fits m (w ∷ ws) s e = by_call (called_in m w) refl e
  where
    by_given : (c : Called) → called_in m w ≡ Some c → (g : Result Given ℕ) → with_words m.globals (untouched (length m.globals)) 1 ws ≡ g → started c g ≡ Ok s → IsFit m s
    by_given c f (Err at) h e = absurd cc
    by_given c f (Ok g) h e =
        let same : record { func = c.func; args = c.args; memory = made_after g.memory c.made } ≡ s = cc in
        subst (IsFit m) same
        (called_fits m c w g f
        (words_objects m.globals (length m.globals) (untouched (length m.globals)) g 1 ws
        (record { many = length-replicate (length m.globals) []; fits = untouched_objects (length m.globals) }) h))

    by_call : (o : Option Called) → called_in m w ≡ o → start_called m ws o ≡ Ok s → IsFit m s
    by_call None f e = absurd cc
    by_call (Some c) f e = by_given c f (with_words m.globals (untouched (length m.globals)) 1 ws) refl e

-- Types, literals, operands: what is read is spelled so, and what is spelled so is read.
use Rattle.std.proofs.Common.{◌≡◌, ℕ, ◌≤◌, ◌<◌, Bool, true, false, List, [], ◌∷◌, Option, Some, None, length, replicate, refl, sym, ◌∙◌, ap, subst, arith, nat_eq, codes, bytes_eq, eqb-true, eq-eqb}
use Rattle.vx_digits.specs.Numbers.{number_of, one_more}
use Rattle.ir_types.specs.declared.ty.Ty.{Ty}
use Rattle.ir_types.specs.declared.ty.Ty.TheVariants.{Void, Int, Ptr, Row}
use Rattle.ir_words.specs.declared.kinds.Kind.{Kind}
use Rattle.ir_draft.specs.declared.written.Written.{Written}
use Rattle.ir_draft.specs.declared.written.Written.TheVariants.{Local, Symbol}
use Rattle.ir_draft.specs.declared.written.Arg.{Arg}
use Rattle.ir_words.specs.Kinds.{fits, is_pointer}
use Rattle.ir_words.specs.Values.{width_of, decimal_of, bits_number, lane_of, local_of, symbol_of}
use Rattle.ir_words.specs.Words.{Words, one, expect, is_first, after_first}
use Rattle.ir_words.specs.Reading.{is_row, row_at, int_at, ty_at, kind_at, typed_lane, lanes_within, listed_at, splat_at, row_lanes, lanes_at, literal_at}
use Rattle.ir_forms.specs.Operands.{symbol_at, unnamed_at, operand_at, typed_at}
use Rattle.ir_forms.specs.Pieces as pieces
use Rattle.ir_forms.specs.Pieces.{Says, SpellsFlags, SpellsTy, SpellsKind, SpellsLane, SpellsList, SpellsRow, SpellsLanes, SpellsOperand, SpellsTyped}
use Rattle.ir_forms.proofs.Steps.{nothing, some_is, bind_then, when_then, cond_then, choose_then, expect_is, first_is, one_says, apart}

-- types

abbrev TyRead : Words → Ty × Words → Type 0
TyRead ts z = SpellsTy z.0 ts z.1

row_taken : (ts : Words) (x : Ty × Words) → row_at ts ≡ Some x → SpellsTy x.0 (codes "<" ∷ ts) x.1
unfolding row_at
row_taken ts x e =
    bind_then (one number_of ts) _ x e (λ n en e2.
    bind_then (expect (codes "x") n.1) _ x e2 (λ a ea e3.
    bind_then (one width_of a) _ x e3 (λ w ew e4.
    bind_then (expect (codes ">") w.1) _ x e4 (λ b eb e5.
    when_then (is_row n.0 w.0) _ x e5 (λ row r.
    let sn : Says number_of n.0 ts n.1 = one_says number_of ts n en in
    let sw : Says width_of w.0 a w.1 = one_says width_of a w ew in
    let whole : ts ≡ sn.word ∷ codes "x" ∷ sw.word ∷ codes ">" ∷ b =
    sn.first ∙ ap (λ (y : Words). sn.word ∷ y) (expect_is (codes "x") n.1 a ea ∙ ap (λ (y : Words). codes "x" ∷ y) (sw.first ∙ ap (λ (y : Words). sw.word ∷ y) (expect_is (codes ">") w.1 b eb))) in
    subst (λ (z : Ty × Words). SpellsTy z.0 (codes "<" ∷ ts) z.1) r
    (subst (λ (y : Words). SpellsTy (Row n.0 w.0) (codes "<" ∷ y) b) (sym whole) (pieces.Vector n.0 w.0 sn.word sw.word b sn.says sw.says row)))))))

int_taken : (ts : Words) (x : Ty × Words) → int_at ts ≡ Some x → SpellsTy x.0 ts x.1
int_taken ts x e =
    bind_then (one width_of ts) _ x e (λ w ew r.
    let s : Says width_of w.0 ts w.1 = one_says width_of ts w ew in
    subst (TyRead ts) (some_is r) (subst (λ (y : Words). SpellsTy (Int w.0) y w.1) (sym s.first) (pieces.Integer w.0 s.word w.1 s.says)))

pub ty_taken : (ts : Words) (x : Ty × Words) → ty_at ts ≡ Some x → SpellsTy x.0 ts x.1
unfolding ty_at
ty_taken ts x e =
    cond_then (is_first (codes "ptr") ts) _ _ _ e
    (λ first r. subst (TyRead ts) (some_is r) (subst (λ (y : Words). SpellsTy Ptr y (after_first ts)) (sym (first_is (codes "ptr") ts first)) (pieces.Pointer (after_first ts))))
    (λ _ e2. cond_then (is_first (codes "<") ts) _ _ _ e2
    (λ first r. subst (λ (y : Words). SpellsTy x.0 y x.1) (sym (first_is (codes "<") ts first)) (row_taken (after_first ts) x r))
    (λ _ r. int_taken ts x r))

no_ptr : width_of (codes "ptr") ≡ None
unfolding width_of
no_ptr = refl

no_open : width_of (codes "<") ≡ None
unfolding width_of
no_open = refl

pub ty_takes : {t : Ty} {ts rest : Words} → SpellsTy t ts rest → ty_at ts ≡ Some (t, rest)
unfolding ty_at row_at
ty_takes (pieces.Integer w word rest h) = rw (apart width_of (codes "ptr") word w no_ptr h, apart width_of (codes "<") word w no_open h, h) refl
ty_takes (pieces.Pointer rest) = refl
ty_takes (pieces.Vector n w count word rest hn hw row) = rw (hn, hw, row) refl

-- a word that begins no type
pub record NoTy (v : List ℕ) : Type 0 where
  pub width : width_of v ≡ None
  pub pointer : bytes_eq (codes "ptr") v ≡ false
  pub vector : bytes_eq (codes "<") v ≡ false

pub ty_not : {t : Ty} {ts rest : Words} (v : List ℕ) → NoTy v → SpellsTy t ts rest → is_first v ts ≡ false
ty_not v other (pieces.Integer w word rest h) = apart width_of v word w other.width h
ty_not v other (pieces.Pointer rest) = other.pointer
ty_not v other (pieces.Vector n w count word rest hn hw row) = other.vector

pub ty_shorter : {t : Ty} {ts rest : Words} → SpellsTy t ts rest → length rest < length ts
ty_shorter (pieces.Integer w word rest h) = omega arith
ty_shorter (pieces.Pointer rest) = omega arith
ty_shorter (pieces.Vector n w count word rest hn hw row) = omega arith

pub kind_taken : (k : Kind) (ts : Words) (x : Ty × Words) → kind_at k ts ≡ Some x → SpellsKind k x.0 ts x.1
unfolding kind_at
kind_taken k ts x e =
    bind_then (ty_at ts) _ x e (λ t et e2.
    when_then (fits k t.0) t x e2 (λ f r.
    subst (λ (z : Ty × Words). SpellsKind k z.0 ts z.1) r (record { spelled = ty_taken ts t et; fitting = f })))

pub kind_takes : (k : Kind) (t : Ty) (ts rest : Words) → SpellsKind k t ts rest → kind_at k ts ≡ Some (t, rest)
unfolding kind_at
kind_takes k t ts rest s = rw (ty_takes s.spelled, s.fitting) refl

-- literals

pub lane_taken : (w : ℕ) (ts : Words) (x : Option ℕ × Words) → typed_lane w ts ≡ Some x → SpellsLane w x.0 ts x.1
unfolding typed_lane
lane_taken w ts x e =
    bind_then (one width_of ts) _ x e (λ v ev e2.
    bind_then (one (lane_of w) v.1) _ x e2 (λ l el e3.
    when_then (nat_eq v.0 w) l x e3 (λ same r.
    let sv : Says width_of v.0 ts v.1 = one_says width_of ts v ev in
    let sl : Says (lane_of w) l.0 v.1 l.1 = one_says (lane_of w) v.1 l el in
    let whole : ts ≡ sv.word ∷ sl.word ∷ l.1 = sv.first ∙ ap (λ (y : Words). sv.word ∷ y) sl.first in
    let wide : width_of sv.word ≡ Some w = sv.says ∙ ap Some (eqb-true v.0 w same) in
    subst (λ (z : Option ℕ × Words). SpellsLane w z.0 ts z.1) r (subst (λ (y : Words). SpellsLane w l.0 y l.1) (sym whole) (pieces.Lane sv.word sl.word l.1 wide sl.says)))))

pub lane_takes : {w : ℕ} {l : Option ℕ} {ts rest : Words} → SpellsLane w l ts rest → typed_lane w ts ≡ Some (l, rest)
unfolding typed_lane
lane_takes {w} (pieces.Lane word lane rest hw hl) = rw (hw, hl, eq-eqb w w refl) refl

lane_shorter : {w : ℕ} {l : Option ℕ} {ts rest : Words} → SpellsLane w l ts rest → length rest < length ts
lane_shorter (pieces.Lane word lane rest hw hl) = omega arith

list_taken : (bound : Words) (w : ℕ) (ts : Words) (x : List (Option ℕ) × Words) → lanes_within bound w ts ≡ Some x → SpellsList w x.0 ts x.1
list_taken [] w ts x e = nothing e
list_taken (_ ∷ bound) w ts x e =
    bind_then (typed_lane w ts) _ x e (λ l el e2.
    let sl : SpellsLane w l.0 ts l.1 = lane_taken w ts l el in
    cond_then (is_first (codes ",") l.1) _ _ _ e2
    (λ first e3. bind_then (lanes_within bound w (after_first l.1)) _ x e3 (λ m em r.
    subst (λ (z : List (Option ℕ) × Words). SpellsList w z.0 ts z.1) (some_is r)
    (pieces.MoreLanes l.0 m.0 ts (after_first l.1) m.1 (subst (λ (y : Words). SpellsLane w l.0 ts y) (first_is (codes ",") l.1 first) sl) (list_taken bound w (after_first l.1) m em))))
    (λ _ e3. bind_then (expect (codes ">") l.1) _ x e3 (λ rest er r.
    subst (λ (z : List (Option ℕ) × Words). SpellsList w z.0 ts z.1) (some_is r)
    (pieces.LastLane l.0 ts rest (subst (λ (y : Words). SpellsLane w l.0 ts y) (expect_is (codes ">") l.1 rest er) sl)))))

list_takes : {w : ℕ} {ls : List (Option ℕ)} {ts rest : Words} → SpellsList w ls ts rest → (bound : Words) → length ts ≤ length bound → lanes_within bound w ts ≡ Some (ls, rest)
list_takes (pieces.LastLane l ts rest s) [] h = absurd (omega (arith, lane_shorter s))
list_takes (pieces.LastLane l ts rest s) (_ ∷ bound) h = rw (lane_takes s) refl
list_takes (pieces.MoreLanes l ls ts us rest s more) [] h = absurd (omega (arith, lane_shorter s))
list_takes (pieces.MoreLanes l ls ts us rest s more) (_ ∷ bound) h =
    let short : length us ≤ length bound = omega (arith, lane_shorter s) in
    rw (lane_takes s, list_takes more bound short) refl

list_shorter : {w : ℕ} {ls : List (Option ℕ)} {ts rest : Words} → SpellsList w ls ts rest → length rest < length ts
list_shorter (pieces.LastLane l ts rest s) = omega (arith, lane_shorter s)
list_shorter (pieces.MoreLanes l ls ts us rest s more) = omega (arith, lane_shorter s, list_shorter more)

abbrev RowRead : ℕ → ℕ → Words → List (Option ℕ) × Words → Type 0
RowRead n w ts z = SpellsRow n w z.0 ts z.1

splat_taken : (n w : ℕ) (ts : Words) (x : List (Option ℕ) × Words) → splat_at n w ts ≡ Some x → SpellsRow n w x.0 (codes "splat" ∷ ts) x.1
unfolding splat_at
splat_taken n w ts x e =
    bind_then (expect (codes "(") ts) _ x e (λ a ea e2.
    bind_then (typed_lane w a) _ x e2 (λ l el e3.
    bind_then (expect (codes ")") l.1) _ x e3 (λ b eb r.
    let sl : SpellsLane w l.0 a (codes ")" ∷ b) = subst (λ (y : Words). SpellsLane w l.0 a y) (expect_is (codes ")") l.1 b eb) (lane_taken w a l el) in
    subst (RowRead n w (codes "splat" ∷ ts)) (some_is r) (subst (λ (y : Words). SpellsRow n w (replicate n l.0) (codes "splat" ∷ y) b) (sym (expect_is (codes "(") ts a ea)) (pieces.Splat l.0 a b sl)))))

listed_taken : (n w : ℕ) (ts : Words) (x : List (Option ℕ) × Words) → listed_at n w ts ≡ Some x → SpellsRow n w x.0 (codes "<" ∷ ts) x.1
unfolding listed_at
listed_taken n w ts x e =
    bind_then (lanes_within ts w ts) _ x e (λ m em e2.
    when_then (nat_eq (length m.0) n) m x e2 (λ many r.
    subst (RowRead n w (codes "<" ∷ ts)) r (pieces.Listed m.0 ts m.1 (eqb-true _ n many) (list_taken ts w ts m em))))

row_lanes_taken : (n w : ℕ) (ts : Words) (x : List (Option ℕ) × Words) → row_lanes n w ts ≡ Some x → SpellsRow n w x.0 ts x.1
unfolding row_lanes
row_lanes_taken n w ts x e =
    cond_then (is_first (codes "poison") ts) _ _ _ e
    (λ first r. subst (RowRead n w ts) (some_is r) (subst (λ (y : Words). SpellsRow n w (replicate n None) y (after_first ts)) (sym (first_is (codes "poison") ts first)) (pieces.Poison (after_first ts))))
    (λ _ e2. cond_then (is_first (codes "zeroinitializer") ts) _ _ _ e2
    (λ first r. subst (RowRead n w ts) (some_is r) (subst (λ (y : Words). SpellsRow n w (replicate n (Some 0)) y (after_first ts)) (sym (first_is (codes "zeroinitializer") ts first)) (pieces.Zero (after_first ts))))
    (λ _ e3. cond_then (is_first (codes "splat") ts) _ _ _ e3
    (λ first r. subst (λ (y : Words). SpellsRow n w x.0 y x.1) (sym (first_is (codes "splat") ts first)) (splat_taken n w (after_first ts) x r))
    (λ _ e4. bind_then (expect (codes "<") ts) _ x e4 (λ rest er r.
    subst (λ (y : Words). SpellsRow n w x.0 y x.1) (sym (expect_is (codes "<") ts rest er)) (listed_taken n w rest x r)))))

row_lanes_takes : {n w : ℕ} {ls : List (Option ℕ)} {ts rest : Words} → SpellsRow n w ls ts rest → row_lanes n w ts ≡ Some (ls, rest)
unfolding row_lanes splat_at listed_at
row_lanes_takes (pieces.Poison rest) = refl
row_lanes_takes (pieces.Zero rest) = refl
row_lanes_takes (pieces.Splat l ts rest s) = rw (lane_takes s) refl
row_lanes_takes {n = n} (pieces.Listed ls ts rest many s) =
    let enough : length ts ≤ length ts = omega arith in
    rw (list_takes s ts enough, eq-eqb (length ls) n many) refl

row_shorter : {n w : ℕ} {ls : List (Option ℕ)} {ts rest : Words} → SpellsRow n w ls ts rest → length rest < length ts
row_shorter (pieces.Poison rest) = omega arith
row_shorter (pieces.Zero rest) = omega arith
row_shorter (pieces.Splat l ts rest s) = omega (arith, lane_shorter s)
row_shorter (pieces.Listed ls ts rest many s) = omega (arith, list_shorter s)

abbrev LanesRead : Ty → Words → List (Option ℕ) × Words → Type 0
LanesRead t ts z = SpellsLanes t z.0 ts z.1

pub lanes_taken : (t : Ty) (ts : Words) (x : List (Option ℕ) × Words) → lanes_at t ts ≡ Some x → SpellsLanes t x.0 ts x.1
unfolding lanes_at
lanes_taken Void ts x e = nothing e
lanes_taken Ptr ts x e =
    bind_then (expect (codes "poison") ts) _ x e (λ rest er r.
    subst (LanesRead Ptr ts) (some_is r) (subst (λ (y : Words). SpellsLanes Ptr (None ∷ []) y rest) (sym (expect_is (codes "poison") ts rest er)) (pieces.NoPointer rest)))
lanes_taken (Int w) ts x e =
    bind_then (one (lane_of w) ts) _ x e (λ l el r.
    let s : Says (lane_of w) l.0 ts l.1 = one_says (lane_of w) ts l el in
    subst (LanesRead (Int w) ts) (some_is r) (subst (λ (y : Words). SpellsLanes (Int w) (l.0 ∷ []) y l.1) (sym s.first) (pieces.Scalar w l.0 s.word l.1 s.says)))
lanes_taken (Row n w) ts x e = pieces.Lanes n w x.0 ts x.1 (row_lanes_taken n w ts x e)

pub lanes_takes : {t : Ty} {ls : List (Option ℕ)} {ts rest : Words} → SpellsLanes t ls ts rest → lanes_at t ts ≡ Some (ls, rest)
unfolding lanes_at
lanes_takes (pieces.Scalar w l word rest h) = rw h refl
lanes_takes (pieces.NoPointer rest) = refl
lanes_takes (pieces.Lanes n w ls ts rest s) = row_lanes_takes s

pub lanes_shorter : {t : Ty} {ls : List (Option ℕ)} {ts rest : Words} → SpellsLanes t ls ts rest → length rest < length ts
lanes_shorter (pieces.Scalar w l word rest h) = omega arith
lanes_shorter (pieces.NoPointer rest) = omega arith
lanes_shorter (pieces.Lanes n w ls ts rest s) = row_shorter s

-- operands

-- what is no local: where the first byte is not `%`
pub no_local : (f : List ℕ → Type 0) (word : List ℕ) → ((bs : List ℕ) → f (37 ∷ bs) → local_of (37 ∷ bs) ≡ None) → f word → local_of word ≡ None
unfolding local_of
no_local f [] never h = refl
no_local f (b ∷ bs) never h = here (nat_eq b 37) refl where
  here : (t : Bool) → nat_eq b 37 ≡ t → local_of (b ∷ bs) ≡ None
  here true e =
      let same : b ≡ 37 = eqb-true b 37 e in
      subst (λ (x : ℕ). local_of (x ∷ bs) ≡ None) (sym same) (never bs (subst (λ (x : ℕ). f (x ∷ bs)) same h))
  here false e = rw e refl

lane_percent : (w : ℕ) (bs : List ℕ) → lane_of w (37 ∷ bs) ≡ None
unfolding lane_of bits_number decimal_of number_of one_more
lane_percent w bs = refl

lane_no_local : (w : ℕ) (word : List ℕ) (l : Option ℕ) → lane_of w word ≡ Some l → local_of word ≡ None
lane_no_local w word l h = no_local (λ x. lane_of w x ≡ Some l) word (λ bs e. nothing (sym (lane_percent w bs) ∙ e)) h

symbol_percent : (bs : List ℕ) → symbol_of (37 ∷ bs) ≡ None
unfolding symbol_of
symbol_percent bs = refl

symbol_no_local : (word name : List ℕ) → symbol_of word ≡ Some name → local_of word ≡ None
symbol_no_local word name h = no_local (λ x. symbol_of x ≡ Some name) word (λ bs e. nothing (sym (symbol_percent bs) ∙ e)) h

row_no_local : {n w : ℕ} {ls : List (Option ℕ)} {ts rest : Words} → SpellsRow n w ls ts rest → one local_of ts ≡ None
unfolding local_of
row_no_local (pieces.Poison rest) = refl
row_no_local (pieces.Zero rest) = refl
row_no_local (pieces.Splat l ts rest s) = refl
row_no_local (pieces.Listed ls ts rest many s) = refl

lanes_no_local : {t : Ty} {ls : List (Option ℕ)} {ts rest : Words} → SpellsLanes t ls ts rest → one local_of ts ≡ None
unfolding local_of
lanes_no_local (pieces.Scalar w l word rest h) = rw (lane_no_local w word l h) refl
lanes_no_local (pieces.NoPointer rest) = refl
lanes_no_local (pieces.Lanes n w ls ts rest s) = row_no_local s

lanes_no_symbol : {t : Ty} {ls : List (Option ℕ)} {ts rest : Words} → SpellsLanes t ls ts rest → symbol_at t ts ≡ None
unfolding symbol_at symbol_of
lanes_no_symbol (pieces.Scalar w l word rest h) = refl
lanes_no_symbol (pieces.NoPointer rest) = refl
lanes_no_symbol (pieces.Lanes n w ls ts rest s) = refl

abbrev OperandRead : Ty → Words → Written × Words → Type 0
OperandRead t ts z = SpellsOperand t z.0 ts z.1

unnamed_taken : (t : Ty) (ts : Words) (x : Written × Words) → unnamed_at t ts ≡ Some x → SpellsOperand t x.0 ts x.1
unfolding unnamed_at symbol_at literal_at
unnamed_taken t ts x e =
    choose_then (symbol_at t ts) _ _ x e
    (λ n en r. cond_then (is_pointer t) _ _ _ en
    (λ pointer es. let s : Says symbol_of n.0 ts n.1 = one_says symbol_of ts n es in
    subst (OperandRead t ts) (some_is r) (subst (λ (y : Words). SpellsOperand t (Symbol n.0) y n.1) (sym s.first) (pieces.Global n.0 s.word n.1 pointer s.says)))
    (λ _ none. nothing none))
    (λ _ e2. bind_then (lanes_at t ts) _ x e2 (λ ls el r.
    subst (OperandRead t ts) (some_is r) (pieces.Literal ls.0 ts ls.1 (lanes_taken t ts ls el))))

pub operand_taken : (t : Ty) (ts : Words) (x : Written × Words) → operand_at t ts ≡ Some x → SpellsOperand t x.0 ts x.1
unfolding operand_at
operand_taken t ts x e =
    choose_then (one local_of ts) _ _ x e
    (λ n en r. let s : Says local_of n.0 ts n.1 = one_says local_of ts n en in
    subst (OperandRead t ts) (some_is r) (subst (λ (y : Words). SpellsOperand t (Local n.0) y n.1) (sym s.first) (pieces.Named n.0 s.word n.1 s.says)))
    (λ _ e2. unnamed_taken t ts x e2)

pub operand_takes : {t : Ty} {o : Written} {ts rest : Words} → SpellsOperand t o ts rest → operand_at t ts ≡ Some (o, rest)
unfolding operand_at unnamed_at symbol_at literal_at
operand_takes (pieces.Named name word rest h) = rw h refl
operand_takes (pieces.Global name word rest pointer h) = rw (symbol_no_local word name h, pointer, h) refl
operand_takes (pieces.Literal ls ts rest s) = rw (lanes_no_local s, lanes_no_symbol s, lanes_takes s) refl

pub operand_shorter : {t : Ty} {o : Written} {ts rest : Words} → SpellsOperand t o ts rest → length rest < length ts
operand_shorter (pieces.Named name word rest h) = omega arith
operand_shorter (pieces.Global name word rest pointer h) = omega arith
operand_shorter (pieces.Literal ls ts rest s) = lanes_shorter s

pub typed_taken : (k : Kind) (ts : Words) (x : Arg × Words) → typed_at k ts ≡ Some x → SpellsTyped k x.0 ts x.1
unfolding typed_at
typed_taken k ts x e =
    bind_then (kind_at k ts) _ x e (λ t et e2.
    bind_then (operand_at t.0 t.1) _ x e2 (λ o eo r.
    subst (λ (z : Arg × Words). SpellsTyped k z.0 ts z.1) (some_is r) (record { after = t.1; type = kind_taken k ts t et; operand = operand_taken t.0 t.1 o eo })))

pub typed_takes : (k : Kind) (a : Arg) (ts rest : Words) → SpellsTyped k a ts rest → typed_at k ts ≡ Some (a, rest)
unfolding typed_at
typed_takes k a ts rest s = rw (kind_takes k a.ty ts s.after s.type, operand_takes s.operand) refl

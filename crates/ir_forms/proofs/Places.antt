-- Aligns, elements, masks, blocks, pairs, and so every part: what is read is spelled so, and what is spelled so is read.
use Rattle.std.proofs.Common.{◌≡◌, ℕ, ◌+◌, ◌*◌, ◌≤◌, ◌<◌, List, [], ◌∷◌, Option, Some, length, refl, sym, ◌∙◌, ap, subst, arith, codes, eqb-true}
use Rattle.vx_digits.specs.Optional.{when}
use Rattle.ir_types.specs.declared.ty.Ty.{Ty}
use Rattle.ir_types.specs.declared.ty.Ty.TheVariants.{Void, Int, Ptr, Row}
use Rattle.ir_types.specs.declared.ty.Elem.{Elem}
use Rattle.ir_types.specs.declared.ty.Elem.TheVariants.{Array}
use Rattle.ir_types.specs.Typed.{lane_width}
use Rattle.ir_words.specs.declared.kinds.Kind.{Kind}
use Rattle.ir_words.specs.declared.kinds.Kind.TheVariants as kind
use Rattle.ir_draft.specs.declared.written.Written.{Written}
use Rattle.ir_forms.specs.declared.pairs.Incoming.{Incoming}
use Rattle.ir_words.specs.Kinds.{lanes_of}
use Rattle.ir_words.specs.Values.{width_of, align_of, local_of, label_of}
use Rattle.ir_words.specs.Words.{Words, one, expect, is_first, after_first}
use Rattle.ir_words.specs.Reading.{is_row, length_of, item_of, kind_at, lanes_at, array_at, elem_at}
use Rattle.ir_forms.specs.Operands.{are_entries, operand_at, given_at, aligned_at, masked_by, mask_at, target_at, next_target_at, labelled_at, next_operand_at, next_typed_at, put, pair_at, pairs_within, pairs_at}
use Rattle.ir_forms.specs.Pieces as pieces
use Rattle.ir_forms.specs.Pieces.{Says, Led, SpellsTy, SpellsKind, SpellsLanes, SpellsOperand, SpellsTyped, SpellsAligned, SpellsElem, SpellsMask, SpellsPair, SpellsPairs}
use Rattle.ir_forms.proofs.Steps.{nothing, clash, some_is, bind_then, when_then, cond_then, expect_is, first_is, one_says, says_one}
use Rattle.ir_forms.proofs.Parts.{NoTy, ty_not, kind_taken, kind_takes, lanes_taken, lanes_takes, operand_taken, operand_takes, operand_shorter, typed_taken, typed_takes}

-- a part after a word
led : (v : List ℕ) (P : Words → Type 0) (ts rest : Words) → expect v ts ≡ Some rest → P rest → Led v P ts
led v P ts rest e p = record { follow = rest; first = expect_is v ts rest e; part = p }

pub next_operand_taken : (t : Ty) (ts : Words) (x : Written × Words) → next_operand_at t ts ≡ Some x → Led (codes ",") (λ us. SpellsOperand t x.0 us x.1) ts
unfolding next_operand_at
next_operand_taken t ts x e = bind_then (expect (codes ",") ts) _ x e (λ us eu r. led (codes ",") (λ vs. SpellsOperand t x.0 vs x.1) ts us eu (operand_taken t us x r))

pub next_operand_takes : (t : Ty) (o : Written) (ts rest : Words) → Led (codes ",") (λ us. SpellsOperand t o us rest) ts → next_operand_at t ts ≡ Some (o, rest)
unfolding next_operand_at
next_operand_takes t o ts rest l = rw (l.first, operand_takes l.part) refl

pub next_typed_taken : (k : Kind) (ts : Words) (x : _ × Words) → next_typed_at k ts ≡ Some x → Led (codes ",") (λ us. SpellsTyped k x.0 us x.1) ts
unfolding next_typed_at
next_typed_taken k ts x e = bind_then (expect (codes ",") ts) _ x e (λ us eu r. led (codes ",") (λ vs. SpellsTyped k x.0 vs x.1) ts us eu (typed_taken k us x r))

pub next_typed_takes : (k : Kind) (a : _) (ts rest : Words) → Led (codes ",") (λ us. SpellsTyped k a us rest) ts → next_typed_at k ts ≡ Some (a, rest)
unfolding next_typed_at
next_typed_takes k a ts rest l = rw (l.first, typed_takes k a l.follow rest l.part) refl

-- aligns

pub aligned_taken : (ts : Words) (x : Option ℕ × Words) → aligned_at ts ≡ Some x → SpellsAligned x.0 ts x.1
unfolding aligned_at given_at
aligned_taken ts x e =
    cond_then (is_first (codes ",") ts) _ _ _ e
    (λ first e2. bind_then (expect (codes "align") (after_first ts)) _ x e2 (λ a ea e3.
    bind_then (one align_of a) _ x e3 (λ n en r.
    let s : Says align_of n.0 a n.1 = one_says align_of a n en in
    let whole : ts ≡ codes "," ∷ codes "align" ∷ s.word ∷ n.1 =
    first_is (codes ",") ts first ∙ ap (λ (y : Words). codes "," ∷ y) (expect_is (codes "align") (after_first ts) a ea ∙ ap (λ (y : Words). codes "align" ∷ y) s.first) in
    subst (λ (z : Option ℕ × Words). SpellsAligned z.0 ts z.1) (some_is r) (subst (λ (y : Words). SpellsAligned (Some n.0) y n.1) (sym whole) (pieces.Given n.0 s.word n.1 s.says)))))
    (λ other r. subst (λ (z : Option ℕ × Words). SpellsAligned z.0 ts z.1) (some_is r) (pieces.Absent ts other))

pub aligned_takes : {n : Option ℕ} {ts rest : Words} → SpellsAligned n ts rest → aligned_at ts ≡ Some (n, rest)
unfolding aligned_at given_at
aligned_takes (pieces.Absent rest h) = rw h refl
aligned_takes (pieces.Given n word rest h) = rw h refl

-- elements

array_taken : (k : Kind) (ts : Words) (x : Elem × Words) → array_at ts ≡ Some x → SpellsElem k x.0 (codes "[" ∷ ts) x.1
unfolding array_at
array_taken k ts x e =
    bind_then (one length_of ts) _ x e (λ n en e2.
    bind_then (expect (codes "x") n.1) _ x e2 (λ a ea e3.
    bind_then (one item_of a) _ x e3 (λ w ew e4.
    bind_then (expect (codes "]") w.1) _ x e4 (λ b eb r.
    let sn : Says length_of n.0 ts n.1 = one_says length_of ts n en in
    let sw : Says item_of w.0 a w.1 = one_says item_of a w ew in
    let whole : ts ≡ sn.word ∷ codes "x" ∷ sw.word ∷ codes "]" ∷ b =
    sn.first ∙ ap (λ (y : Words). sn.word ∷ y) (expect_is (codes "x") n.1 a ea ∙ ap (λ (y : Words). codes "x" ∷ y) (sw.first ∙ ap (λ (y : Words). sw.word ∷ y) (expect_is (codes "]") w.1 b eb))) in
    subst (λ (z : Elem × Words). SpellsElem k z.0 (codes "[" ∷ ts) z.1) (some_is r)
    (subst (λ (y : Words). SpellsElem k (Array n.0 w.0) (codes "[" ∷ y) b) (sym whole) (pieces.Items n.0 w.0 sn.word sw.word b sn.says sw.says))))))

pub elem_taken : (k : Kind) (ts : Words) (x : Elem × Words) → elem_at k ts ≡ Some x → SpellsElem k x.0 ts x.1
unfolding elem_at
elem_taken k ts x e =
    cond_then (is_first (codes "[") ts) _ _ _ e
    (λ first r. subst (λ (y : Words). SpellsElem k x.0 y x.1) (sym (first_is (codes "[") ts first)) (array_taken k (after_first ts) x r))
    (λ _ e2. bind_then (kind_at k ts) _ x e2 (λ t et r.
    subst (λ (z : Elem × Words). SpellsElem k z.0 ts z.1) (some_is r) (pieces.Single t.0 ts t.1 (kind_taken k ts t et))))

-- words that begin no type
pub no_bracket : NoTy (codes "[")
unfolding width_of
no_bracket = record { width = refl; pointer = refl; vector = refl }

pub no_colon : NoTy (codes ":")
unfolding width_of
no_colon = record { width = refl; pointer = refl; vector = refl }

pub no_close : NoTy (codes "]")
unfolding width_of
no_close = record { width = refl; pointer = refl; vector = refl }

pub no_void : NoTy (codes "void")
unfolding width_of
no_void = record { width = refl; pointer = refl; vector = refl }

pub no_label : NoTy (codes "label")
unfolding width_of
no_label = record { width = refl; pointer = refl; vector = refl }

pub elem_takes : {k : Kind} {el : Elem} {ts rest : Words} → SpellsElem k el ts rest → elem_at k ts ≡ Some (el, rest)
unfolding elem_at array_at
elem_takes {k} (pieces.Single t ts rest s) = rw (ty_not (codes "[") no_bracket s.spelled, kind_takes k t ts rest s) refl
elem_takes (pieces.Items n w count word rest hn hw) = rw (hn, hw) refl

-- masks

masked : (t : Ty) (u : Ty) (a b ts rest : Words) (m : Ty × List (Option ℕ)) (ls : List (Option ℕ)) → ts ≡ codes "," ∷ a → SpellsKind kind.Mask u a b → SpellsLanes u ls b rest → masked_by t u ls ≡ Some m → SpellsMask t m ts rest
unfolding masked_by
masked t Void a b ts rest m ls e s l r = clash (sym s.fitting)
masked t (Int w) a b ts rest m ls e s l r = clash (sym s.fitting)
masked t Ptr a b ts rest m ls e s l r = clash (sym s.fitting)
masked t (Row n w) a b ts rest m ls e s l r =
    let wide : w ≡ 32 = eqb-true w 32 s.fitting in
    bind_then (when (is_row n (lane_width t)) (Row n (lane_width t))) _ m r (λ v ev r2.
    when_then (is_row n (lane_width t)) (Row n (lane_width t)) v ev (λ row same.
    when_then (are_entries (2 * lanes_of t) ls) (v, ls) m r2 (λ fit whole.
    let spelled : SpellsTy (Row n 32) a b = subst (λ (x : ℕ). SpellsTy (Row n x) a b) wide s.spelled in
    let lanes : SpellsLanes (Row n 32) ls b rest = subst (λ (x : ℕ). SpellsLanes (Row n x) ls b rest) wide l in
    subst (λ (y : Words). SpellsMask t m y rest) (sym e)
    (subst (λ (z : Ty × List (Option ℕ)). SpellsMask t z (codes "," ∷ a) rest) whole
    (subst (λ (z : Ty). SpellsMask t (z, ls) (codes "," ∷ a) rest) same (pieces.Entries n ls a b rest spelled lanes row fit))))))

pub mask_taken : (t : Ty) (ts : Words) (x : (Ty × List (Option ℕ)) × Words) → mask_at t ts ≡ Some x → SpellsMask t x.0 ts x.1
unfolding mask_at
mask_taken t ts x e =
    bind_then (expect (codes ",") ts) _ x e (λ a ea e2.
    bind_then (kind_at kind.Mask a) _ x e2 (λ u eu e3.
    bind_then (lanes_at u.0 u.1) _ x e3 (λ ls el e4.
    bind_then (masked_by t u.0 ls.0) _ x e4 (λ m em r.
    subst (λ (z : (Ty × List (Option ℕ)) × Words). SpellsMask t z.0 ts z.1) (some_is r)
    (masked t u.0 a u.1 ts ls.1 m ls.0 (expect_is (codes ",") ts a ea) (kind_taken kind.Mask a u eu) (lanes_taken u.0 u.1 ls el) em)))))

pub mask_takes : {t : Ty} {m : Ty × List (Option ℕ)} {ts rest : Words} → SpellsMask t m ts rest → mask_at t ts ≡ Some (m, rest)
unfolding mask_at masked_by
mask_takes {t} (pieces.Entries n ls ts us rest spelled lanes row fit) =
    let k : SpellsKind kind.Mask (Row n 32) ts us = record { spelled = spelled; fitting = refl } in
    rw (kind_takes kind.Mask (Row n 32) ts us k, lanes_takes lanes, row, fit) refl

-- blocks, labels and cases

pub target_taken : (ts : Words) (x : List ℕ × Words) → target_at ts ≡ Some x → Led (codes "label") (λ us. Says local_of x.0 us x.1) ts
unfolding target_at
target_taken ts x e = bind_then (expect (codes "label") ts) _ x e (λ us eu r. led (codes "label") (λ vs. Says local_of x.0 vs x.1) ts us eu (one_says local_of us x r))

pub target_takes : (name : List ℕ) (ts rest : Words) → Led (codes "label") (λ us. Says local_of name us rest) ts → target_at ts ≡ Some (name, rest)
unfolding target_at
target_takes name ts rest l = rw (l.first, says_one local_of name l.follow rest l.part) refl

pub next_target_taken : (ts : Words) (x : List ℕ × Words) → next_target_at ts ≡ Some x → Led (codes ",") (λ us. Led (codes "label") (λ vs. Says local_of x.0 vs x.1) us) ts
unfolding next_target_at
next_target_taken ts x e =
    bind_then (expect (codes ",") ts) _ x e (λ us eu r. led (codes ",") (λ vs. Led (codes "label") (λ ws. Says local_of x.0 ws x.1) vs) ts us eu (target_taken us x r))

pub next_target_takes : (name : List ℕ) (ts rest : Words) → Led (codes ",") (λ us. Led (codes "label") (λ vs. Says local_of name vs rest) us) ts → next_target_at ts ≡ Some (name, rest)
unfolding next_target_at
next_target_takes name ts rest l = rw (l.first, target_takes name l.follow rest l.part) refl

pub labelled_taken : (ts : Words) (x : List ℕ × Words) → labelled_at ts ≡ Some x → Says label_of x.0 ts (codes ":" ∷ x.1)
unfolding labelled_at
labelled_taken [] x e = nothing e
labelled_taken (t ∷ ts) x e =
    cond_then (is_first (codes ":") ts) _ _ _ e
    (λ first e2. bind_then (label_of t) _ x e2 (λ name en r.
    subst (λ (z : List ℕ × Words). Says label_of z.0 (t ∷ ts) (codes ":" ∷ z.1)) (some_is r) (record { word = t; first = ap (λ (y : Words). t ∷ y) (first_is (codes ":") ts first); says = en })))
    (λ _ none. nothing none)

pub labelled_takes : (name : List ℕ) (ts rest : Words) → Says label_of name ts (codes ":" ∷ rest) → labelled_at ts ≡ Some (name, rest)
unfolding labelled_at
labelled_takes name ts rest s = rw (s.first, s.says) refl

-- pairs

pair_taken : (t : Ty) (at : ℕ) (ts : Words) (x : Incoming × Words) → pair_at t at ts ≡ Some x → SpellsPair t at x.0 ts x.1
unfolding pair_at
pair_taken t at ts x e =
    bind_then (expect (codes "[") ts) _ x e (λ a ea e2.
    bind_then (operand_at t a) _ x e2 (λ o eo e3.
    bind_then (expect (codes ",") o.1) _ x e3 (λ b eb e4.
    bind_then (one local_of b) _ x e4 (λ l el e5.
    bind_then (expect (codes "]") l.1) _ x e5 (λ c ec r.
    let sl : Says local_of l.0 b l.1 = one_says local_of b l el in
    let after : o.1 ≡ codes "," ∷ sl.word ∷ codes "]" ∷ c = expect_is (codes ",") o.1 b eb ∙ ap (λ (y : Words). codes "," ∷ y) (sl.first ∙ ap (λ (y : Words). sl.word ∷ y) (expect_is (codes "]") l.1 c ec)) in
    let so : SpellsOperand t o.0 a (codes "," ∷ sl.word ∷ codes "]" ∷ c) = subst (λ (y : Words). SpellsOperand t o.0 a y) after (operand_taken t a o eo) in
    subst (λ (z : Incoming × Words). SpellsPair t at z.0 ts z.1) (some_is r)
    (subst (λ (y : Words). SpellsPair t at (put t at o.0 l.0) y c) (sym (expect_is (codes "[") ts a ea)) (pieces.Pair o.0 l.0 sl.word a c so sl.says)))))))

pair_takes : {t : Ty} {at : ℕ} {i : Incoming} {ts rest : Words} → SpellsPair t at i ts rest → pair_at t at ts ≡ Some (i, rest)
unfolding pair_at
pair_takes (pieces.Pair o name word ts rest so h) = rw (operand_takes so, h) refl

pair_shorter : {t : Ty} {at : ℕ} {i : Incoming} {ts rest : Words} → SpellsPair t at i ts rest → length rest < length ts
pair_shorter (pieces.Pair o name word ts rest so h) = omega (arith, operand_shorter so)

within_taken : (bound : Words) (t : Ty) (at : ℕ) (ts : Words) (x : Incoming × Words) → pairs_within bound t at ts ≡ Some x → SpellsPairs t at x.0 ts x.1
within_taken [] t at ts x e = nothing e
within_taken (_ ∷ bound) t at ts x e =
    bind_then (pair_at t at ts) _ x e (λ p ep e2.
    let sp : SpellsPair t at p.0 ts p.1 = pair_taken t at ts p ep in
    cond_then (is_first (codes ",") p.1) _ _ _ e2
    (λ first e3. bind_then (pairs_within bound t (at + 1) (after_first p.1)) _ x e3 (λ m em r.
    subst (λ (z : Incoming × Words). SpellsPairs t at z.0 ts z.1) (some_is r)
    (pieces.MorePairs at p.0 m.0 ts (after_first p.1) m.1 (subst (λ (y : Words). SpellsPair t at p.0 ts y) (first_is (codes ",") p.1 first) sp) (within_taken bound t (at + 1) (after_first p.1) m em))))
    (λ last r. subst (λ (z : Incoming × Words). SpellsPairs t at z.0 ts z.1) (some_is r) (pieces.LastPair at p.0 ts p.1 sp last)))

within_takes : {t : Ty} {at : ℕ} {i : Incoming} {ts rest : Words} → SpellsPairs t at i ts rest → (bound : Words) → length ts ≤ length bound → pairs_within bound t at ts ≡ Some (i, rest)
within_takes (pieces.LastPair at i ts rest s last) [] h = absurd (omega (arith, pair_shorter s))
within_takes (pieces.LastPair at i ts rest s last) (_ ∷ bound) h = rw (pair_takes s, last) refl
within_takes (pieces.MorePairs at i j ts us rest s more) [] h = absurd (omega (arith, pair_shorter s))
within_takes (pieces.MorePairs at i j ts us rest s more) (_ ∷ bound) h =
    let short : length us ≤ length bound = omega (arith, pair_shorter s) in
    rw (pair_takes s, within_takes more bound short) refl

pub pairs_taken : (t : Ty) (ts : Words) (x : Incoming × Words) → pairs_at t ts ≡ Some x → SpellsPairs t 0 x.0 ts x.1
unfolding pairs_at
pairs_taken t ts x e = within_taken ts t 0 ts x e

pub pairs_takes : (t : Ty) (i : Incoming) (ts rest : Words) → SpellsPairs t 0 i ts rest → pairs_at t ts ≡ Some (i, rest)
unfolding pairs_at
pairs_takes t i ts rest s = let enough : length ts ≤ length ts = omega arith in within_takes s ts enough

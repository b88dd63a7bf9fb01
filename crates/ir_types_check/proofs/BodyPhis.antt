-- A phi that is well typed: its incoming blocks are the sources of its block, and equal ones bring equal operands.
use Rattle.std.proofs.Common.{◌≡◌, ℕ, zero, suc, ◌+◌, ◌<◌, Bool, true, false, cond, List, [], ◌∷◌, ◌++◌, length, map, Option, Some, None, refl, sym, ◌∙◌, ap, subst, arith, bytes_eq, eqb-true}
use Rattle.std.proofs.lemmas.Slice.Eq.{bytes_eq-Decides}
use Rattle.std.specs.Prelude.{slice_get, unwrap_or}
use Rattle.std.specs.List.{All, AllZip}
use Rattle.std.proofs.lemmas.List.Elements.{All-head, All-tail}
use Rattle.ir_types.specs.declared.literal.Literal.{Literal}
use Rattle.ir_types.specs.declared.opd.Opd.{Opd}
use Rattle.ir_draft.specs.declared.written.Written.{Written}
use Rattle.ir_draft.specs.declared.written.Written.TheVariants as written
use Rattle.ir_draft.specs.declared.written.Arg.{Arg}
use Rattle.ir_line.proofs.WholeLines.{ArePairsFrom}
use Rattle.ir_types_check.specs.declared.locals.Meaning.{Meaning}
use Rattle.ir_types_check.specs.declared.tops.Top.{Top}
use Rattle.ir_types_check.specs.Scope.{Scope, meaning}
use Rattle.ir_types_check.specs.Links.{opd_of, block_at}
use Rattle.ir_types.specs.Typed.{same_ty}
use Rattle.ir_types_check.specs.Typed.{number_at, count, same_blocks, same_lane, same_lanes, same_literal, same_opd, is_brought, with_brought, agree}
use Rattle.ir_types_check.proofs.Binding.{ok, ok_is, some_is, nothing, clash, both}
use Rattle.ir_types_check.proofs.Counts.{counts_equal}
use Rattle.ir_types_check.proofs.BodyLinks.{Means, IsOpdOf, number_is}
use Rattle.ir_types.proofs.SameTypes.{same_is}
use Rattle.ir_types_check.proofs.BodyEdges.{hits, count_hits}

-- ---- blocks

same_numbers : (locals : Scope Meaning) (labels : List (List ℕ)) (blocks places : List ℕ) → AllZip (Means locals) labels blocks → All (λ p. p < length labels) places →
    map (block_at blocks) places ≡ map (number_at locals labels) places
same_numbers locals labels blocks [] z h = refl
same_numbers locals labels blocks (p ∷ places) z h =
    ap (λ x. x ∷ map (block_at blocks) places) (number_is locals labels blocks p z (All-head (λ p. p < length labels) p places h))
    ∙ ap (λ xs. number_at locals labels p ∷ xs) (same_numbers locals labels blocks places z (All-tail (λ p. p < length labels) p places h))

-- as often as each is a source
pub incoming_counts : (locals : Scope Meaning) (labels : List (List ℕ)) (blocks places sources : List ℕ) → AllZip (Means locals) labels blocks → All (λ p. p < length labels) places →
    same_blocks (map (number_at locals labels) places) sources ≡ true → (c : ℕ) → hits c (map (block_at blocks) places) ≡ count c sources
incoming_counts locals labels blocks places sources z h e c =
    ap (hits c) (same_numbers locals labels blocks places z h) ∙ sym (count_hits c (map (number_at locals labels) places)) ∙ counts_equal (map (number_at locals labels) places) sources e c

-- ---- operands

same_lane_is : (a b : Option ℕ) → same_lane a b ≡ true → a ≡ b
same_lane_is None None e = refl
same_lane_is None (Some b) e = clash (sym e)
same_lane_is (Some a) None e = clash (sym e)
same_lane_is (Some a) (Some b) e = ap (λ x. Some x) (eqb-true a b e)

same_lanes_is : (xs ys : List (Option ℕ)) → same_lanes xs ys ≡ true → xs ≡ ys
same_lanes_is [] [] e = refl
same_lanes_is [] (y ∷ ys) e = clash (sym e)
same_lanes_is (x ∷ xs) [] e = clash (sym e)
same_lanes_is (x ∷ xs) (y ∷ ys) e =
    let p : (same_lane x y ≡ true) × (same_lanes xs ys ≡ true) = both (same_lane x y) (same_lanes xs ys) e in
    ap (λ z. z ∷ xs) (same_lane_is x y p.0) ∙ ap (λ zs. y ∷ zs) (same_lanes_is xs ys p.1)

same_literal_is : (a b : Literal) → same_literal a b ≡ true → a ≡ b
same_literal_is a b e =
    let p : (same_ty a.ty b.ty ≡ true) × (same_lanes a.lanes b.lanes ≡ true) = both (same_ty a.ty b.ty) (same_lanes a.lanes b.lanes) e in
    let first : a ≡ record { ty = b.ty; lanes = a.lanes } = ap (λ t. record { ty = t; lanes = a.lanes }) (same_is a.ty b.ty p.0) in
    let second : record { ty = b.ty; lanes = a.lanes } ≡ b = ap (λ ls. record { ty = b.ty; lanes = ls }) (same_lanes_is a.lanes b.lanes p.1) in
    first ∙ second

same_opd_is : (a b : Written) → same_opd a b ≡ true → a ≡ b
same_opd_is (written.Local a) (written.Local b) e = ap (λ x. written.Local x) ((bytes_eq-Decides a b).0 e)
same_opd_is (written.Symbol a) (written.Symbol b) e = ap (λ x. written.Symbol x) ((bytes_eq-Decides a b).0 e)
same_opd_is (written.Lit a) (written.Lit b) e = ap (λ x. written.Lit x) (same_literal_is a b e)
same_opd_is _ _ e = clash (sym e)

look_front : (l : List ℕ) (xs ys : Scope Written) (w : Written) → meaning l xs ≡ Some w → meaning l (xs ++ ys) ≡ Some w
look_front l [] ys w e = nothing e
look_front l (x ∷ xs) ys w e = here (bytes_eq l x.0) (look_front l xs ys w) e where
  here : (b : Bool) → (meaning l xs ≡ Some w → meaning l (xs ++ ys) ≡ Some w) → cond b (Some x.1) (meaning l xs) ≡ Some w → cond b (Some x.1) (meaning l (xs ++ ys)) ≡ Some w
  here true f e = e
  here false f e = f e

look_back : (l : List ℕ) (xs : Scope Written) (w : Written) → meaning l xs ≡ None → meaning l (xs ++ (l, w) ∷ []) ≡ Some w
look_back l [] w e = ap (λ b. cond b (Some w) None) ((bytes_eq-Decides l l).1 refl)
look_back l (x ∷ xs) w e = here (bytes_eq l x.0) (look_back l xs w) e where
  here : (b : Bool) → (meaning l xs ≡ None → meaning l (xs ++ (l, w) ∷ []) ≡ Some w) → cond b (Some x.1) (meaning l xs) ≡ None → cond b (Some x.1) (meaning l (xs ++ (l, w) ∷ [])) ≡ Some w
  here true f e = nothing (sym e)
  here false f e = f e

stays : (l x : List ℕ) (brought : Scope Written) (o w : Written) → meaning l brought ≡ Some w → meaning l (with_brought brought x o (meaning x brought)) ≡ Some w
stays l x brought o w e = here (meaning x brought) where
  here : (m : Option Written) → meaning l (with_brought brought x o m) ≡ Some w
  here None = look_front l brought ((x, o) ∷ []) w e
  here (Some before) = e

-- what a label brought first it brings again
later : (brought : Scope Written) (labels : List (List ℕ)) (args : List Arg) → agree brought labels args ≡ true → (l : List ℕ) (w : Written) → meaning l brought ≡ Some w →
    (j : ℕ) (a : Arg) → slice_get labels j ≡ Some l → slice_get args j ≡ Some a → w ≡ a.opd
later brought [] args h l w m j a e f = nothing e
later brought (x ∷ labels) [] h l w m j a e f = nothing f
later brought (x ∷ labels) (b ∷ args) h l w m zero a e f =
    let p : (is_brought (meaning x brought) b.opd ≡ true) × (agree (with_brought brought x b.opd (meaning x brought)) labels args ≡ true) = both (is_brought (meaning x brought) b.opd) _ h in
    let there : meaning x brought ≡ Some w = ap (λ y. meaning y brought) (some_is e) ∙ m in
    same_opd_is w b.opd (ap (λ o. is_brought o b.opd) (sym there) ∙ p.0) ∙ ap (λ (y : Arg). y.opd) (some_is f)
later brought (x ∷ labels) (b ∷ args) h l w m (suc j) a e f =
    let p : (is_brought (meaning x brought) b.opd ≡ true) × (agree (with_brought brought x b.opd (meaning x brought)) labels args ≡ true) = both (is_brought (meaning x brought) b.opd) _ h in
    later (with_brought brought x b.opd (meaning x brought)) labels args p.1 l w (stays l x brought b.opd w m) j a e f

-- with its operand, a label has brought one
has_brought : (brought : Scope Written) (x : List ℕ) (o : Written) → is_brought (meaning x brought) o ≡ true → meaning x (with_brought brought x o (meaning x brought)) ≡ Some o
has_brought brought x o h = here (meaning x brought) refl h where
  here : (m : Option Written) → meaning x brought ≡ m → is_brought m o ≡ true → meaning x (with_brought brought x o m) ≡ Some o
  here None e h = look_back x brought o e
  here (Some before) e h = e ∙ ap (λ y. Some y) (same_opd_is before o h)

-- a label brings one operand
pub agreed : (brought : Scope Written) (labels : List (List ℕ)) (args : List Arg) → agree brought labels args ≡ true → (l : List ℕ) (i j : ℕ) (a b : Arg) →
    slice_get labels i ≡ Some l → slice_get args i ≡ Some a → slice_get labels j ≡ Some l → slice_get args j ≡ Some b → a.opd ≡ b.opd
agreed brought [] args h l i j a b e f g k = nothing e
agreed brought (x ∷ labels) [] h l i j a b e f g k = nothing f
agreed brought (x ∷ labels) (c ∷ args) h l zero zero a b e f g k = ap (λ (y : Arg). y.opd) (some_is (sym f ∙ k))
agreed brought (x ∷ labels) (c ∷ args) h l zero (suc j) a b e f g k =
    let p : (is_brought (meaning x brought) c.opd ≡ true) × (agree (with_brought brought x c.opd (meaning x brought)) labels args ≡ true) = both (is_brought (meaning x brought) c.opd) _ h in
    let there : meaning l (with_brought brought x c.opd (meaning x brought)) ≡ Some c.opd =
    ap (λ y. meaning y (with_brought brought x c.opd (meaning x brought))) (sym (some_is e)) ∙ has_brought brought x c.opd p.0 in
    ap (λ (y : Arg). y.opd) (sym (some_is f)) ∙ later (with_brought brought x c.opd (meaning x brought)) labels args p.1 l c.opd there j b g k
agreed brought (x ∷ labels) (c ∷ args) h l (suc i) zero a b e f g k =
    let p : (is_brought (meaning x brought) c.opd ≡ true) × (agree (with_brought brought x c.opd (meaning x brought)) labels args ≡ true) = both (is_brought (meaning x brought) c.opd) _ h in
    let there : meaning l (with_brought brought x c.opd (meaning x brought)) ≡ Some c.opd =
    ap (λ y. meaning y (with_brought brought x c.opd (meaning x brought))) (sym (some_is g)) ∙ has_brought brought x c.opd p.0 in
    sym (later (with_brought brought x c.opd (meaning x brought)) labels args p.1 l c.opd there i a e f) ∙ ap (λ (y : Arg). y.opd) (some_is k)
agreed brought (x ∷ labels) (c ∷ args) h l (suc i) (suc j) a b e f g k =
    let p : (is_brought (meaning x brought) c.opd ≡ true) × (agree (with_brought brought x c.opd (meaning x brought)) labels args ≡ true) = both (is_brought (meaning x brought) c.opd) _ h in
    agreed (with_brought brought x c.opd (meaning x brought)) labels args p.1 l i j a b e f g k

-- ---- places

pub zip_get : {X Y : Type 0} (R : X → Y → Type 0) (xs : List X) (ys : List Y) (i : ℕ) (x : X) → AllZip R xs ys → slice_get xs i ≡ Some x → (y : Y) × (slice_get ys i ≡ Some y) × R x y
zip_get R [] ys i x z e = nothing e
zip_get R (a ∷ xs) [] i x z e = absurd z
zip_get R (a ∷ xs) (b ∷ ys) zero x z e = (b, refl, subst (λ y. R y b) (some_is e) z.0)
zip_get R (a ∷ xs) (b ∷ ys) (suc i) x z e = zip_get R xs ys i x z.1 e

-- the pair at a place of a phi
record PairAt (at : ℕ) (labels : List (List ℕ)) (args : List Arg) (i p : ℕ) : Type 0 where
  is : p ≡ at + i
  label : List ℕ
  label_is : slice_get labels i ≡ Some label
  arg : Arg
  arg_is : slice_get args i ≡ Some arg

pair_at : (at : ℕ) (places : List ℕ) (labels : List (List ℕ)) (args : List Arg) (i p : ℕ) → ArePairsFrom at places labels args → slice_get places i ≡ Some p → PairAt at labels args i p
pair_at at [] labels args i p h e = nothing e
pair_at at (q ∷ places) [] args i p h e = absurd h
pair_at at (q ∷ places) (l ∷ labels) [] i p h e = absurd h
pair_at at (q ∷ places) (l ∷ labels) (a ∷ args) zero p h e = record { is = sym (some_is e) ∙ h.0 ∙ omega arith; label = l; label_is = refl; arg = a; arg_is = refl }
pair_at at (q ∷ places) (l ∷ labels) (a ∷ args) (suc i) p h e =
    let r : PairAt (at + 1) labels args i p = pair_at (at + 1) places labels args i p h.1 e in
    record { is = omega (arith, r.is); label = r.label; label_is = r.label_is; arg = r.arg; arg_is = r.arg_is }

map_get : (f : ℕ → ℕ) (places : List ℕ) (i b : ℕ) → slice_get (map f places) i ≡ Some b → (p : ℕ) × (slice_get places i ≡ Some p) × (f p ≡ b)
map_get f [] i b e = nothing e
map_get f (p ∷ places) zero b e = (p, refl, some_is e)
map_get f (p ∷ places) (suc i) b e = map_get f places i b e

-- the operand that an incoming block brings
record Brings (tops : Scope Top) (locals : Scope Meaning) (base n : ℕ) (labels : List (List ℕ)) (args : List Arg) (opds : List Opd) (i b : ℕ) : Type 0 where
  label : List ℕ
  label_is : slice_get labels i ≡ Some label
  means : Means locals label b
  arg : Arg
  arg_is : slice_get args i ≡ Some arg
  opd : Opd
  opd_is : slice_get opds i ≡ Some opd
  is : IsOpdOf tops locals base n arg opd

module _ (tops : Scope Top) (locals : Scope Meaning) (base n : ℕ) (labels : List (List ℕ)) (args : List Arg) (blocks : List ℕ) (opds : List Opd) (places : List ℕ) where
  brings : ArePairsFrom 0 places labels args → AllZip (Means locals) labels blocks → AllZip (IsOpdOf tops locals base n) args opds → (i b : ℕ) → slice_get (map (block_at blocks) places) i ≡ Some b →
      Brings tops locals base n labels args opds i b
  brings pairs zb zo i b e =
      let g : (p : ℕ) × (slice_get places i ≡ Some p) × (block_at blocks p ≡ b) = map_get (block_at blocks) places i b e in
      let r : PairAt 0 labels args i g.0 = pair_at 0 places labels args i g.0 pairs g.1 in
      let x : (c : ℕ) × (slice_get blocks i ≡ Some c) × Means locals r.label c = zip_get (Means locals) labels blocks i r.label zb r.label_is in
      let o : (c : Opd) × (slice_get opds i ≡ Some c) × IsOpdOf tops locals base n r.arg c = zip_get (IsOpdOf tops locals base n) args opds i r.arg zo r.arg_is in
      let place : g.0 ≡ i = r.is ∙ omega arith in
      let c_is : x.0 ≡ b = sym (ap (λ y. unwrap_or y 0) (ap (slice_get blocks) place ∙ x.1)) ∙ g.2 in
      record { label = r.label; label_is = r.label_is; means = subst (Means locals r.label) c_is x.2; arg = r.arg; arg_is = r.arg_is; opd = o.0; opd_is = o.1; is = o.2 }

  -- equal incoming blocks bring equal operands
  pub bring_equal : ArePairsFrom 0 places labels args → AllZip (Means locals) labels blocks → AllZip (IsOpdOf tops locals base n) args opds →
      ((x y : List ℕ) (k : ℕ) → Means locals x k → Means locals y k → x ≡ y) → agree [] labels args ≡ true → (i j b : ℕ) →
      slice_get (map (block_at blocks) places) i ≡ Some b → slice_get (map (block_at blocks) places) j ≡ Some b → slice_get opds i ≡ slice_get opds j
  bring_equal pairs zb zo once h i j b e f =
      let x : Brings tops locals base n labels args opds i b = brings pairs zb zo i b e in
      let y : Brings tops locals base n labels args opds j b = brings pairs zb zo j b f in
      let same : x.label ≡ y.label = once x.label y.label b x.means y.means in
      let opd : x.arg.opd ≡ y.arg.opd = agreed [] labels args h y.label i j x.arg y.arg (x.label_is ∙ ap (λ l. Some l) same) x.arg_is y.label_is y.arg_is in
      let o : ok x.opd ≡ ok y.opd = sym x.is ∙ ap (λ w. opd_of tops locals base n w) opd ∙ y.is in
      x.opd_is ∙ ap (λ z. Some z) (ok_is o) ∙ sym y.opd_is

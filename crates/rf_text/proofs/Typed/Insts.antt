-- An instruction of a formed function is well typed as its line is written: its operands have the written types, and its targets, its
-- incoming blocks and its cases fit.
use Rattle.std.proofs.Common.{◌≡◌, ℕ, zero, suc, ◌+◌, ◌<◌, ◌⊎◌, inl, inr, Bool, true, false, cond, not, ◌&&◌, ◌||◌, ◌==◌, nat_eq, nat_lt, if◌then◌else◌, List, [], ◌∷◌, ◌++◌, length, map, Option, Some, None, Result, Ok, refl, sym, ◌∙◌, ap, subst, arith, eq-eqb, eqb-true, bytes_eq, append_assoc, option_map, unwrap_or, slice_index_or}
use Rattle.std.proofs.lemmas.Bool.Decides.{nat_tests}
use Rattle.std.proofs.lemmas.Option.{slice_get-get_or}
use Rattle.std.proofs.lemmas.List.Elements.{All-nil, All-cons, All-head, All-tail, All-weaker}
use Rattle.std.specs.List.{All, AllPairs, list_all, list_any, slice_get}
use Rattle.ir_types.specs.declared.id.Id.{Id}
use Rattle.ir_types.specs.declared.ty.Ty.{Ty}
use Rattle.ir_types.specs.declared.ty.Ty.TheVariants.{Void, Int, Ptr, Row}
use Rattle.ir_types.specs.declared.literal.Literal.{Literal}
use Rattle.ir_types.specs.declared.opd.Opd.{Opd}
use Rattle.ir_types.specs.declared.opd.Opd.TheVariants.{Val, Lit, Sym}
use Rattle.ir_types.specs.declared.op.Op.{Op}
use Rattle.ir_types.specs.declared.op.Op.TheVariants.{Phi, Ret, Br, CondBr, Switch, Call}
use Rattle.ir_types.specs.declared.inst.Inst.{Inst}
use Rattle.ir_types.specs.declared.func.Func.{Func}
use Rattle.ir_types.specs.declared.module.Module.{Module}
use Rattle.ir_types.specs.Walks.{targets_at}
use Rattle.ir_types.specs.Available.{op_targets, graph_of}
use Rattle.ir_types.specs.Typed.{is_value, IsCase, IsTyped, same_ty}
use Rattle.ir_types.specs.Formed.{IsTarget, IsIncoming, IsFormedInst, value_ty, opd_ty}
use Rattle.ir_draft.specs.declared.written.Written.{Written as WrittenOpd}
use Rattle.ir_draft.specs.declared.written.Written.TheVariants as written'
use Rattle.ir_draft.specs.declared.written.Arg.{Arg}
use Rattle.ir_draft.specs.declared.stmt.Stmt.{Stmt}
use Rattle.ir_draft.specs.declared.line.Line.{Line}
use Rattle.ir_draft.specs.declared.line.Line.TheVariants as line
use Rattle.ir_draft.specs.declared.draft.Numbered.{Numbered}
use Rattle.ir_forms.proofs.Steps.{bytes_is, bytes_same}
use Rattle.ir_print.specs.declared.names.Local.{Local}
use Rattle.ir_print.specs.Names.{Names, names_of, named_of, locals_from, labels_from, local_of, is_void}
use Rattle.ir_print.specs.Operands.{local_ty}
use Rattle.ir_print.specs.Operands as shown
use Rattle.ir_types_check.specs.declared.refusal.ResolveRefusal.{ResolveRefusal}
use Rattle.ir_types_check.specs.Answers.{◌>>=◌, well_typed}
use Rattle.ir_types_check.specs.Scope.{Scope, meaning}
use Rattle.ir_types_check.specs.Links.{Choice, choices}
use Rattle.ir_types.proofs.SameTypes.{same_itself}
use Rattle.ir_types_check.specs.Typed.{is_value_of, arg_fits, number_in, number_of, number_at, targets, is_target, choice_targets, case_targets, sources_at, count, same_blocks, same_lane, same_lanes, same_literal, same_opd, is_brought, with_brought, agree, phi_fits, op_fits, stmt_fits, lane_number, with_number, choice_fits, choices_typed, cases_typed}
use Rattle.ir_types_check.specs.Typed as typed
use Rattle.ir_types_check.proofs.Handed.{LocalMeaning, TopMeaning, block_at}
use Rattle.ir_types_check.proofs.Counts.{from_counts}
use Rattle.ir_types_check.proofs.BodyEdges.{hits, hits_cons, count_hits}
use Rattle.rf_text.specs.Shown.{shown_ty, is_call}
use Rattle.rf_text.specs.Written.{written, shown_text, shown_block, arg_of, places_from, op_of, line_blocks, stmt_of, first_ty, more_forms, cases_of}
use Rattle.rf_text.proofs.Named.Found.{value_there, labels_many}
use Rattle.rf_text.proofs.Named.Function.{scope_of}
use Rattle.rf_text.proofs.Named.Links.{HasShape, case_blocks}
use Rattle.rf_text.proofs.Named.Places.{Known, IsPlaced, value_placed, block_known, slice_get-append, push_length}
use Rattle.rf_text.proofs.Named.Things.{things_of, things_are, pairs_first}
use Rattle.rf_text.proofs.Named.Typed.{IsReal, Uses, uses}
use Rattle.rf_text.proofs.Spells.Marks.{HasFirst, has_first}
use Rattle.rf_text.proofs.Spells.Order.{form_of}
use Rattle.rf_text.proofs.TextLines.Fits as fitting
use Rattle.rf_text.proofs.TextLines.Once.{NamedOnce}

clash : {P : Type 0} → true ≡ false → P
clash e = cc

nothing : {A P : Type 0} {y : A} → None ≡ Some y → P
nothing e = cc

some_is : {A : Type 0} {x y : A} → Some x ≡ Some y → x ≡ y
some_is e = cc

-- ---- what is the same as itself

lane_itself : (a : Option ℕ) → same_lane a a ≡ true
lane_itself None = refl
lane_itself (Some n) = eq-eqb n n refl

lanes_itself : (xs : List (Option ℕ)) → same_lanes xs xs ≡ true
lanes_itself [] = refl
lanes_itself (x ∷ xs) = rw (lane_itself x) (lanes_itself xs)

opd_itself : (w : WrittenOpd) → same_opd w w ≡ true
opd_itself (written'.Local a) = bytes_same a
opd_itself (written'.Symbol a) = bytes_same a
opd_itself (written'.Lit a) = rw (same_itself a.ty) (lanes_itself a.lanes)

-- ---- lists

map_get : {X Y : Type 0} (g : X → Y) (xs : List X) (k : ℕ) (y : Y) → slice_get (map g xs) k ≡ Some y → (x : X) × (slice_get xs k ≡ Some x) × (g x ≡ y)
map_get g [] k y e = nothing e
map_get g (x ∷ xs) zero y e = (x, refl, some_is e)
map_get g (x ∷ xs) (suc k) y e = map_get g xs k y e

-- ---- one function

module _ (m : Module) (f : Func) (tops : Scope TopMeaning) (base : ℕ) (known : Known base (scope_of f) (names_of f) 0 0 0 (things_of f)) (once : NamedOnce (named_of f)) where
  abbrev IsThere : ℕ → Type 0
  IsThere b = b < length f.blocks

  -- what is shown of a block means that block
  block_means : (b : ℕ) → b < length f.blocks → meaning (shown_block (names_of f) b) (scope_of f) ≡ Some (block_at b)
  block_means b h =
      let within : b < length (names_of f).labels = let many : length (names_of f).labels ≡ length f.blocks = labels_many f in omega (arith, h, many) in
      let there : slice_get (names_of f).labels b ≡ Some (slice_index_or (names_of f).labels b []) = slice_get-get_or (names_of f).labels b [] within in
      ap (λ (o : Option (List ℕ)). meaning (unwrap_or o []) (scope_of f)) there
      ∙ block_known base (scope_of f) (names_of f) (things_of f) (ap (labels_from 0) (sym (things_are f))) known b (slice_index_or (names_of f).labels b []) there

  block_number : (b : ℕ) → b < length f.blocks → number_of (scope_of f) (shown_block (names_of f) b) ≡ b
  block_number b h = ap number_in (block_means b h)

  -- so no two blocks are shown alike
  blocks_apart : (b c : ℕ) → b < length f.blocks → c < length f.blocks → shown_block (names_of f) b ≡ shown_block (names_of f) c → b ≡ c
  blocks_apart b c h k e = sym (block_number b h) ∙ ap (number_of (scope_of f)) e ∙ block_number c k

  -- ---- operands

  local_fits : (id : Id) → IsReal (value_ty f id) → arg_fits (scope_of f) (arg_of (names_of f) m.globals (Val id)) ≡ true
  local_fits id h =
      let there : (l : Local) × (local_of id (names_of f).locals ≡ Some l) = value_there f id h in
      let is : IsPlaced base (scope_of f) (names_of f) id there.0 = value_placed base (scope_of f) (names_of f) id (things_of f) (ap (locals_from 0) (sym (things_are f))) known there.0 there.1 in
      ap (λ (o : Option Local). is_value_of (local_ty o) (meaning (shown_text o) (scope_of f))) there.1 ∙ ap (is_value_of there.0.ty) is.means ∙ same_itself there.0.ty

  opd_fits : (o : Opd) → IsReal (opd_ty m f o) → arg_fits (scope_of f) (arg_of (names_of f) m.globals o) ≡ true
  opd_fits (Val id) h = local_fits id h
  opd_fits (Lit literal) h = refl
  opd_fits (Sym g) h = refl

  opds_fit : (os : List Opd) → All (λ o. IsReal (opd_ty m f o)) os → list_all (arg_fits (scope_of f)) (map (arg_of (names_of f) m.globals) os) ≡ true
  opds_fit [] all = refl
  opds_fit (o ∷ os) all = rw (opd_fits o (All-head (λ o. IsReal (opd_ty m f o)) o os all)) (opds_fit os (All-tail (λ o. IsReal (opd_ty m f o)) o os all))

  -- the written type of the first operand
  first_written : (os : List Opd) → typed.first_ty (map (arg_of (names_of f) m.globals) os) ≡ first_ty (names_of f) os
  first_written [] = refl
  first_written (o ∷ os) = refl

  shown_is : (o : Opd) (t : Ty) → shown_ty (names_of f) m.globals o ≡ Some t → shown.opd_ty (names_of f) o ≡ t
  shown_is (Val id) t e = here (local_of id (names_of f).locals) e where
    here : (l : Option Local) → option_map (λ (l : Local). l.ty) l ≡ Some t → local_ty l ≡ t
    here None e = nothing e
    here (Some l) e = some_is e
  shown_is (Lit literal) t e = some_is e
  shown_is (Sym g) t e = here (nat_lt g (length m.globals)) e where
    here : (b : Bool) → (if b then Some Ptr else None) ≡ Some t → Ptr ≡ t
    here true e = some_is e
    here false e = nothing e

  no_void : (t : Ty) → is_value t ≡ true → is_void t ≡ false
  no_void Void h = cc
  no_void (Int w) h = refl
  no_void Ptr h = refl
  no_void (Row n w) h = refl

  ret_fits : (os : List Opd) → ((f.ret ≡ Void) × (map (opd_ty m f) os ≡ [])) ⊎ ((is_value f.ret ≡ true) × (map (opd_ty m f) os ≡ Some f.ret ∷ [])) → same_ty (typed.first_ty (map (arg_of (names_of f) m.globals) os)) f.ret ≡ true
  ret_fits [] (inl h) = ap (same_ty Void) h.0
  ret_fits [] (inr h) = cc
  ret_fits (o ∷ os) (inl h) = cc
  ret_fits (o ∷ os) (inr h) =
      let ty : opd_ty m f o ≡ Some f.ret = first h.1 in
      ap (λ t. same_ty t f.ret) (shown_is o f.ret (fitting.same_ty m f once o f.ret ty (no_void f.ret h.0))) ∙ same_itself f.ret where
        first : {a b : Option Ty} {xs ys : List (Option Ty)} → a ∷ xs ≡ b ∷ ys → a ≡ b
        first e = cc

  -- ---- targets

  -- the targets that the line names
  abbrev pub line_targets : Op → List ℕ
  line_targets (Br to) = to ∷ []
  line_targets (CondBr first second) = first ∷ second ∷ []
  line_targets (Switch other cases to) = other ∷ []
  line_targets op = []

  pub all_targets : (op : Op) → op_targets op ≡ line_targets op ++ case_blocks op
  all_targets (Br to) = refl
  all_targets (CondBr first second) = refl
  all_targets (Switch other cases to) = refl
  all_targets op = refl

  pub targets_said : (op : Op) → All IsThere (line_blocks op) → targets (scope_of f) (map (shown_block (names_of f)) (line_blocks op)) (op_of op) ≡ line_targets op
  targets_said (Br to) all = ap (λ k. k ∷ []) (block_number to (All-head IsThere to [] all))
  targets_said (CondBr first second) all =
      ap (λ k. k ∷ number_of (scope_of f) (shown_block (names_of f) second) ∷ []) (block_number first (All-head IsThere first (second ∷ []) all))
      ∙ ap (λ k. first ∷ k ∷ []) (block_number second (All-head IsThere second [] (All-tail IsThere first (second ∷ []) all)))
  targets_said (Switch other cases to) all = ap (λ k. k ∷ []) (block_number other (All-head IsThere other [] all))
  targets_said op all = refl

  no_first : (b : ℕ) → 0 < b → is_target b ≡ true
  no_first b h = grind (arith, nat_tests)

  are_targets : (ts : List ℕ) → All (IsTarget f) ts → list_all is_target ts ≡ true
  are_targets [] all = refl
  are_targets (t ∷ ts) all = rw (no_first t (All-head (IsTarget f) t ts all).0) (are_targets ts (All-tail (IsTarget f) t ts all))

  front_targets : (op : Op) → All (IsTarget f) (op_targets op) → All (IsTarget f) (line_targets op)
  front_targets (Br to) all = all
  front_targets (CondBr first second) all = all
  front_targets (Switch other cases to) all = All-cons (IsTarget f) other [] (All-head (IsTarget f) other to all) (All-nil (IsTarget f))
  front_targets op all = All-nil (IsTarget f)

  -- ---- phis

  numbers_again : (labels front : List (List ℕ)) (bs : List ℕ) (k : ℕ) → labels ≡ front ++ map (shown_block (names_of f)) bs → length front ≡ k → All IsThere bs → map (number_at (scope_of f) labels) (places_from k bs) ≡ bs
  numbers_again labels front [] k e many all = refl
  numbers_again labels front (b ∷ bs) k e many all =
      let at : slice_get labels k ≡ Some (shown_block (names_of f) b) = ap (λ (xs : List (List ℕ)). slice_get xs k) e ∙ slice_get-append front (shown_block (names_of f) b) (map (shown_block (names_of f)) bs) k many in
      let first : number_at (scope_of f) labels k ≡ b = ap (λ (o : Option (List ℕ)). number_of (scope_of f) (unwrap_or o [])) at ∙ block_number b (All-head IsThere b bs all) in
      let rest : map (number_at (scope_of f) labels) (places_from (k + 1) bs) ≡ bs =
      numbers_again labels (front ++ shown_block (names_of f) b ∷ []) bs (k + 1) (e ∙ sym (append_assoc front (shown_block (names_of f) b ∷ []) (map (shown_block (names_of f)) bs))) (push_length front (shown_block (names_of f) b) k many) (All-tail IsThere b bs all) in
      ap (λ x. x ∷ map (number_at (scope_of f) labels) (places_from (k + 1) bs)) first ∙ ap (λ xs. b ∷ xs) rest

  -- what was brought is what is brought again
  Consistent : Scope WrittenOpd → List ℕ → List Opd → Type 0
  Consistent brought bs os = (l : List ℕ) (w : WrittenOpd) (j b : ℕ) (o : Opd) → meaning l brought ≡ Some w → slice_get bs j ≡ Some b → slice_get os j ≡ Some o → shown_block (names_of f) b ≡ l → w ≡ written (names_of f) m.globals o

  -- what a name means with one more at the end
  looked : (l k : List ℕ) (xs : Scope WrittenOpd) (v w : WrittenOpd) → meaning l (xs ++ (k, v) ∷ []) ≡ Some w → (meaning l xs ≡ Some w) ⊎ ((l ≡ k) × (v ≡ w))
  looked l k [] v w e = here (bytes_eq l k) refl e where
    here : (b : Bool) → bytes_eq l k ≡ b → cond b (Some v) None ≡ Some w → (meaning l [] ≡ Some w) ⊎ ((l ≡ k) × (v ≡ w))
    here true s e = inr (bytes_is l k s, some_is e)
    here false s e = nothing e
  looked l k (x ∷ xs) v w e = here (bytes_eq l x.0) e (looked l k xs v w) where
    here : (b : Bool) → cond b (Some x.1) (meaning l (xs ++ (k, v) ∷ [])) ≡ Some w → (meaning l (xs ++ (k, v) ∷ []) ≡ Some w → (meaning l xs ≡ Some w) ⊎ ((l ≡ k) × (v ≡ w))) → (cond b (Some x.1) (meaning l xs) ≡ Some w) ⊎ ((l ≡ k) × (v ≡ w))
    here true e more = inl e
    here false e more = more e

  pairs_agree : (brought : Scope WrittenOpd) (bs : List ℕ) (os : List Opd) → All IsThere bs → ((i j b : ℕ) → slice_get bs i ≡ Some b → slice_get bs j ≡ Some b → slice_get os i ≡ slice_get os j) → Consistent brought bs os →
      agree brought (map (shown_block (names_of f)) bs) (map (arg_of (names_of f) m.globals) os) ≡ true
  unfolding Consistent
  pairs_agree brought [] os there same c = refl
  pairs_agree brought (b ∷ bs) [] there same c = refl
  pairs_agree brought (b ∷ bs) (o ∷ os) there same c =
      rw (first (meaning (shown_block (names_of f) b) brought) refl)
      (pairs_agree (with_brought brought (shown_block (names_of f) b) (written (names_of f) m.globals o) (meaning (shown_block (names_of f) b) brought)) bs os (All-tail IsThere b bs there)
      (λ i j k e g. same (suc i) (suc j) k e g) (next (meaning (shown_block (names_of f) b) brought)))
    where
      first : (w : Option WrittenOpd) → meaning (shown_block (names_of f) b) brought ≡ w → is_brought w (written (names_of f) m.globals o) ≡ true
      first None e = refl
      first (Some w) e = ap (λ x. same_opd x (written (names_of f) m.globals o)) (c (shown_block (names_of f) b) w 0 b o e refl refl refl) ∙ opd_itself (written (names_of f) m.globals o)

      next : (w : Option WrittenOpd) → Consistent (with_brought brought (shown_block (names_of f) b) (written (names_of f) m.globals o) w) bs os
      next (Some w) = λ l v j k p e g h s. c l v (suc j) k p e g h s
      next None = λ l v j k p e g h s. elim (looked l (shown_block (names_of f) b) brought (written (names_of f) m.globals o) v e) [
        | inl old ↦ c l v (suc j) k p old g h s
        | inr new ↦
            let there_k : k < length f.blocks = all_at bs j k (All-tail IsThere b bs there) g in
            let one : k ≡ b = blocks_apart k b there_k (All-head IsThere b bs there) (s ∙ new.0) in
            let both : slice_get (o ∷ os) 0 ≡ slice_get (o ∷ os) (suc j) = same 0 (suc j) b refl (g ∙ ap (λ x. Some x) one) in
            sym new.1 ∙ ap (written (names_of f) m.globals) (some_is (both ∙ h))
      ]
        where
          all_at : (xs : List ℕ) (j k : ℕ) → All IsThere xs → slice_get xs j ≡ Some k → k < length f.blocks
          all_at [] j k all e = nothing e
          all_at (x ∷ xs) zero k all e = subst IsThere (some_is e) (All-head IsThere x xs all)
          all_at (x ∷ xs) (suc j) k all e = all_at xs j k (All-tail IsThere x xs all) e

  none_brought : (bs : List ℕ) (os : List Opd) → Consistent [] bs os
  unfolding Consistent
  none_brought bs os l w j b o e g h s = nothing e

  three : (a b c : Bool) → a ≡ true → b ≡ true → c ≡ true → (a && b && c) ≡ true
  three true true c e g h = h
  three true false c e g h = clash (sym g)
  three false b c e g h = clash (sym e)

  -- a phi stands not in the first block, to which no edge leads
  not_first : (number : ℕ) (blocks : List ℕ) → 0 < length blocks → ((c : ℕ) → hits c blocks ≡ hits number (targets_at (graph_of f) c)) → ((c : ℕ) → hits 0 (targets_at (graph_of f) c) ≡ 0) → 0 < number
  not_first number [] some same none = absurd (omega (arith, some))
  not_first zero (b ∷ bs) some same none =
      let none_here : hits b (b ∷ bs) ≡ 0 = same b ∙ none b in
      let one : hits b (b ∷ bs) ≡ cond (b == b) 1 0 + hits b bs = hits_cons b b bs in
      let self : (let x : ℕ = cond (b == b) 1 0 in x ≡ 1) = ap (λ t. (let x : ℕ = cond t 1 0 in x)) (eq-eqb b b refl) in
      absurd (omega (arith, none_here, one, self))
  not_first (suc number) (b ∷ bs) some same none = omega arith

  module _ (S : List (List ℕ)) (number : ℕ) (edges : (c : ℕ) → count c (sources_at S number) ≡ hits number (targets_at (graph_of f) c)) (none : (c : ℕ) → hits 0 (targets_at (graph_of f) c) ≡ 0) where
    phi_said : (t : Ty) (blocks : List ℕ) (os : List Opd) (s : Stmt) → s.labels ≡ map (shown_block (names_of f)) blocks → s.args ≡ map (arg_of (names_of f) m.globals) os → IsTyped f.ret (Phi blocks) t (map (opd_ty m f) os) → IsIncoming f number (Phi blocks) os →
        All IsThere blocks → phi_fits (scope_of f) S number s (places_from 0 blocks) ≡ true
    phi_said t blocks os s labels args ty incoming there =
        let many : 0 < length blocks = let e : length blocks ≡ length (map (opd_ty m f) os) = ty.1 in let p : 0 < length (map (opd_ty m f) os) = ty.2 in omega (arith, e, p) in
        let numbers : map (number_at (scope_of f) s.labels) (places_from 0 blocks) ≡ blocks = numbers_again s.labels [] blocks 0 labels refl there in
        let counts : (c : ℕ) → count c blocks ≡ count c (sources_at S number) = λ c. count_hits c blocks ∙ incoming.0 c ∙ sym (edges c) in
        three (is_target number) _ _ (no_first number (not_first number blocks many incoming.0 none))
        (ap (λ xs. same_blocks xs (sources_at S number)) numbers ∙ from_counts blocks (sources_at S number) counts)
        (ap (λ ls. agree [] ls s.args) labels ∙ ap (agree [] (map (shown_block (names_of f)) blocks)) args ∙ pairs_agree [] blocks os there incoming.1 (none_brought blocks os))

    plain_said : (op : Op) (s : Stmt) → s.labels ≡ map (shown_block (names_of f)) (line_blocks op) → All IsThere (line_blocks op) → All (IsTarget f) (op_targets op) → list_all is_target (targets (scope_of f) s.labels (op_of op)) ≡ true
    plain_said op s labels there all = ap (λ ls. list_all is_target (targets (scope_of f) ls (op_of op))) labels ∙ ap (list_all is_target) (targets_said op there) ∙ are_targets (line_targets op) (front_targets op all)

    op_said : (op : Op) (t : Ty) (os : List Opd) (s : Stmt) → s.labels ≡ map (shown_block (names_of f)) (line_blocks op) → s.args ≡ map (arg_of (names_of f) m.globals) os → IsTyped f.ret op t (map (opd_ty m f) os) → IsIncoming f number op os →
        All IsThere (line_blocks op) → All (IsTarget f) (op_targets op) → is_call op ≡ false → op_fits tops (scope_of f) f.ret S number s (op_of op) ≡ true
    op_said (Phi blocks) t os s labels args ty incoming there all other = phi_said t blocks os s labels args ty incoming there
    op_said Ret t os s labels args ty incoming there all other = ap (λ (as' : List Arg). same_ty (typed.first_ty as') f.ret) args ∙ ret_fits os ty.1
    op_said (Call site) t os s labels args ty incoming there all other = clash other
    op_said op t os s labels args ty incoming there all other = plain_said op s labels there all

    pub inst_typed : (position : ℕ) (i : Inst) → IsFormedInst m f number position i → is_call i.op ≡ false → stmt_fits tops (scope_of f) f.ret S number (stmt_of (names_of f) m.globals i) ≡ true
    inst_typed position i formed other =
        let u : Uses m f i = uses m f number position i formed other in
        rw (opds_fit i.opds u.operands) (op_said i.op i.ty i.opds (stmt_of (names_of f) m.globals i) refl refl formed.typed formed.incoming u.blocks formed.targets other)

  -- ---- cases

  any_more : (n k : ℕ) (numbers : List ℕ) → list_any (nat_eq n) numbers ≡ false → nat_eq n k ≡ false → list_any (nat_eq n) (numbers ++ k ∷ []) ≡ false
  any_more n k [] e g = rw g refl
  any_more n k (x ∷ xs) e g = here (nat_eq n x) e (any_more n k xs) where
    here : (b : Bool) → b || list_any (nat_eq n) xs ≡ false → (list_any (nat_eq n) xs ≡ false → nat_eq n k ≡ false → list_any (nat_eq n) (xs ++ k ∷ []) ≡ false) → b || list_any (nat_eq n) (xs ++ k ∷ []) ≡ false
    here true e more = clash e
    here false e more = more e g

  lanes_apart : (w : ℕ) (c d : Option ℕ) → IsCase w c → IsCase w d → (c ≡ d → ⊥) → nat_eq (lane_number d) (lane_number c) ≡ false
  lanes_apart w None d p q apart = absurd p
  lanes_apart w (Some c) None p q apart = absurd q
  lanes_apart w (Some c) (Some d) p q apart = here (nat_eq d c) refl where
    here : (b : Bool) → nat_eq d c ≡ b → b ≡ false
    here true e = absurd (apart (ap (λ n. Some n) (sym (eqb-true d c e))))
    here false e = refl

  abbrev IsNew : List ℕ → Option ℕ → Type 0
  IsNew numbers c = list_any (nat_eq (lane_number c)) numbers ≡ false

  abbrev IsSome : ℕ → Type 0
  IsSome b = 0 < b

  still_new : (w : ℕ) (c : Option ℕ) (cs : List (Option ℕ)) (numbers : List ℕ) → IsCase w c → All (IsCase w) cs → All (λ d. c ≡ d → ⊥) cs → All (IsNew numbers) cs → All (IsNew (numbers ++ lane_number c ∷ [])) cs
  still_new w c [] numbers p all apart new = All-nil (IsNew (numbers ++ lane_number c ∷ []))
  still_new w c (d ∷ ds) numbers p all apart new =
      All-cons (IsNew (numbers ++ lane_number c ∷ [])) d ds
      (any_more (lane_number d) (lane_number c) numbers (All-head (IsNew numbers) d ds new) (lanes_apart w c d p (All-head (IsCase w) d ds all) (All-head (λ d. c ≡ d → ⊥) d ds apart)))
      (still_new w c ds numbers p (All-tail (IsCase w) d ds all) (All-tail (λ d. c ≡ d → ⊥) d ds apart) (All-tail (IsNew numbers) d ds new))

  choices_said : (ty : Ty) (w : ℕ) (cases : List (Option ℕ)) (to : List ℕ) (rest : List Line) (xs : List Numbered) (numbers : List ℕ) → map form_of xs ≡ cases_of (names_of f) ty cases to ++ (line.CasesEnd ∷ rest) → length cases ≡ length to →
      All (IsCase w) cases → AllPairs (λ (a b : Option ℕ). a ≡ b → ⊥) cases → All (IsNew numbers) cases → All (IsTarget f) to → choices_typed (scope_of f) ty numbers (choices xs) ≡ Ok tt
  choices_said ty w [] [] rest xs numbers e same all apart new to =
      let r : HasFirst line.CasesEnd rest xs = has_first line.CasesEnd rest xs e in
      ap (λ ys. choices_typed (scope_of f) ty numbers (choices ys)) r.whole
  choices_said ty w [] (b ∷ bs) rest xs numbers e same all apart new to = absurd (omega (arith, same))
  choices_said ty w (c ∷ cs) [] rest xs numbers e same all apart new to = absurd (omega (arith, same))
  choices_said ty w (c ∷ cs) (b ∷ bs) rest xs numbers e same all apart new to =
      let r : HasFirst (line.Case (record { ty = ty; lanes = c ∷ [] }) (shown_block (names_of f) b)) (cases_of (names_of f) ty cs bs ++ (line.CasesEnd ∷ rest)) xs = has_first _ _ xs e in
      let here : IsTarget f b = All-head (IsTarget f) b bs to in
      let target : is_target (number_of (scope_of f) (shown_block (names_of f) b)) ≡ true = ap is_target (block_number b here.1) ∙ no_first b here.0 in
      let unused : list_any (nat_eq (lane_number c)) numbers ≡ false = All-head (IsNew numbers) c cs new in
      let fits : choice_fits (scope_of f) ty numbers (record { line = r.n; value = record { ty = ty; lanes = c ∷ [] }; label = shown_block (names_of f) b }) ≡ true =
      three (same_ty ty ty) (not (list_any (nat_eq (lane_number c)) numbers)) _ (same_itself ty) (ap not unused) target in
      let grown : with_number numbers (lane_number c) ≡ numbers ++ lane_number c ∷ [] = ap (λ t. cond t numbers (numbers ++ lane_number c ∷ [])) unused in
      ap (λ ys. choices_typed (scope_of f) ty numbers (choices ys)) r.whole
      ∙ ap (λ t. well_typed r.n t >>= λ _. choices_typed (scope_of f) ty (with_number numbers (lane_number c)) (choices r.rest)) fits
      ∙ ap (λ ns. choices_typed (scope_of f) ty ns (choices r.rest)) grown
      ∙ choices_said ty w cs bs rest r.rest (numbers ++ lane_number c ∷ []) r.forms (omega (arith, same)) (All-tail (IsCase w) c cs all)
      (λ i j d less within. apart (suc i) (suc j) d (omega (arith, less)) (omega (arith, within)))
      (still_new w c cs numbers (All-head (IsCase w) c cs all) (All-tail (IsCase w) c cs all) (pairs_first (λ (a b : Option ℕ). a ≡ b → ⊥) c cs apart) (All-tail (IsNew numbers) c cs new)) (All-tail (IsTarget f) b bs to)

  none_yet : (cs : List (Option ℕ)) → All (IsNew []) cs
  none_yet [] = All-nil (IsNew [])
  none_yet (c ∷ cs) = All-cons (IsNew []) c cs refl (none_yet cs)

  pub cases_said : (op : Op) (t : Ty) (os : List Opd) (s : Stmt) (rest : List Line) (xs : List Numbered) → s.args ≡ map (arg_of (names_of f) m.globals) os → IsTyped f.ret op t (map (opd_ty m f) os) → All (IsTarget f) (op_targets op) →
      map form_of xs ≡ more_forms (names_of f) os op ++ rest → cases_typed (scope_of f) s (op_of op) xs ≡ Ok tt
  cases_said (Switch other cases to) t os s rest xs args ty all e =
      ap (λ (as' : List Arg). choices_typed (scope_of f) (typed.first_ty as') [] (choices xs)) args
      ∙ ap (λ u. choices_typed (scope_of f) u [] (choices xs)) (first_written os)
      ∙ choices_said (first_ty (names_of f) os) ty.0 cases to rest xs [] (e ∙ append_assoc (cases_of (names_of f) (first_ty (names_of f) os) cases to) (line.CasesEnd ∷ []) rest) ty.3 ty.4 ty.5 (none_yet cases) (All-tail (IsTarget f) other to all)
  cases_said (Phi blocks) t os s rest xs args ty all e = refl
  cases_said (Br to) t os s rest xs args ty all e = refl
  cases_said (CondBr first second) t os s rest xs args ty all e = refl
  cases_said op t os s rest xs args ty all e = refl

  -- the targets after the line
  choice_targets_said : (ty : Ty) (cases : List (Option ℕ)) (to : List ℕ) (rest : List Line) (xs : List Numbered) → map form_of xs ≡ cases_of (names_of f) ty cases to ++ (line.CasesEnd ∷ rest) → length cases ≡ length to → All IsThere to →
      choice_targets (scope_of f) (choices xs) ≡ to
  choice_targets_said ty [] [] rest xs e same all = let r : HasFirst line.CasesEnd rest xs = has_first line.CasesEnd rest xs e in ap (λ ys. choice_targets (scope_of f) (choices ys)) r.whole
  choice_targets_said ty [] (b ∷ bs) rest xs e same all = absurd (omega (arith, same))
  choice_targets_said ty (c ∷ cs) [] rest xs e same all = absurd (omega (arith, same))
  choice_targets_said ty (c ∷ cs) (b ∷ bs) rest xs e same all =
      let r : HasFirst (line.Case (record { ty = ty; lanes = c ∷ [] }) (shown_block (names_of f) b)) (cases_of (names_of f) ty cs bs ++ (line.CasesEnd ∷ rest)) xs = has_first _ _ xs e in
      ap (λ ys. choice_targets (scope_of f) (choices ys)) r.whole
      ∙ ap (λ k. k ∷ choice_targets (scope_of f) (choices r.rest)) (block_number b (All-head IsThere b bs all))
      ∙ ap (λ ks. b ∷ ks) (choice_targets_said ty cs bs rest r.rest r.forms (omega (arith, same)) (All-tail IsThere b bs all))

  pub case_targets_said : (op : Op) (os : List Opd) (rest : List Line) (xs : List Numbered) → map form_of xs ≡ more_forms (names_of f) os op ++ rest → HasShape op os → All IsThere (case_blocks op) → case_targets (scope_of f) (op_of op) xs ≡ case_blocks op
  case_targets_said (Switch other cases to) os rest xs e shape all =
      choice_targets_said (first_ty (names_of f) os) cases to rest xs (e ∙ append_assoc (cases_of (names_of f) (first_ty (names_of f) os) cases to) (line.CasesEnd ∷ []) rest) shape all
  case_targets_said (Phi blocks) os rest xs e shape all = refl
  case_targets_said (Br to) os rest xs e shape all = refl
  case_targets_said (CondBr first second) os rest xs e shape all = refl
  case_targets_said op os rest xs e shape all = refl

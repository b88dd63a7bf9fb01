-- The type of an operand in a function of the module is what is kept.
use Rattle.std.proofs.Common.{◌≡◌, refl, sym, ap, ◌∙◌, subst, ℕ, zero, suc, ◌+◌, ◌==◌, Bool, true, false, nat_lt, Option, None, Some, is_some, List, [], ◌∷◌, length, cond, slice_get, option_map, if◌then◌else◌, arith}
use Rattle.std.proofs.lemmas.Bool.Decides.{nat_tests}
use Rattle.ir_types.specs.declared.id.Id.{Id}
use Rattle.ir_types.specs.declared.id.Place.{Place}
use Rattle.ir_types.specs.declared.ty.Ty.{Ty}
use Rattle.ir_types.specs.declared.opd.Opd.{Opd}
use Rattle.ir_types.specs.declared.opd.Opd.TheVariants.{Val, Lit, Sym}
use Rattle.ir_types.specs.declared.inst.Inst.{Inst}
use Rattle.ir_types.specs.declared.func.Param.{Param}
use Rattle.ir_types.specs.declared.func.Block.{Block}
use Rattle.ir_types.specs.declared.func.Func.{Func}
use Rattle.ir_types.specs.Available.{same_id}
use Rattle.ir_types.specs.Formed.{given_ty, or_else, ty_in_insts, ty_in_blocks, ty_in_params, value_ty}
use Rattle.vx_view.specs.Answers.{funcs_of, find, Standing, standing_in, either, param_in}
use Rattle.vx_view.specs.Answers as of_module
use Rattle.vx_view.specs.Changes as change
use Rattle.vx_view.specs.Views.{same_place}
use Rattle.sb_lines.specs.declared.arena.Arena.{Arena}
use Rattle.sb_lines.specs.Filling.{Filling, place_of, blocks_filled, func_filled, block_in, has_block}
use Rattle.sb_lines.specs.Params.{spot_of, param_there}
use Rattle.sb_lines.specs.Types as types
use Rattle.sb_lines.specs.Types.{spot_ty, line_ty}
use Rattle.sb_lines.specs.Arena.{contents, seen, standing, Told}
use Rattle.sb_lines.specs.Whole.{IsWhole}
use Rattle.sb_lines.proofs.Rings.{false-true, eq-is, eq-itself, eq-other, eq-not, hit, miss}
use Rattle.sb_lines.proofs.Standing.{none-some}
use Rattle.sb_lines.proofs.Filled.{funcs_filled, funcs-filled}
use Rattle.sb_lines.proofs.Stood.{StandsAt, stands, told-is}
use Rattle.sb_lines.proofs.Standings.{none-blocks, in-blocks, find-here, find-elsewhere, find-nowhere}

-- ---- types by what is found

abbrev given : Inst → Ty
given i = given_ty i.op i.ty

by-find : (id : Id) (is : List Inst) → ty_in_insts id is ≡ option_map given (find id is)
by-find id [] = refl
by-find id (i ∷ is) = go (same_id i.id id) (by-find id is)
  where
    go : (b : Bool) → ty_in_insts id is ≡ option_map given (find id is) → (if b then Some (given_ty i.op i.ty) else ty_in_insts id is) ≡ option_map given (cond b (Some i) (find id is))
    go true rest = refl
    go false rest = rest

abbrev standing-ty : Standing → Ty
standing-ty s = given s.inst

by-standing : (id : Id) (func n : ℕ) (bs : List Block) → ty_in_blocks id bs ≡ option_map standing-ty (standing_in id func n bs)
by-standing id func n [] = refl
by-standing id func n (b ∷ bs) = ap (λ o. or_else o (ty_in_blocks id bs)) (by-find id b.insts) ∙ go (find id b.insts) (by-standing id func (suc n) bs)
  where
    go : (o : Option Inst) → ty_in_blocks id bs ≡ option_map standing-ty (standing_in id func (suc n) bs) → or_else (option_map given o) (ty_in_blocks id bs) ≡ option_map standing-ty (either (of_module.standing func n b.insts o) (standing_in id func (suc n) bs))
    go None rest = rest
    go (Some i) rest = refl

by-param : (id : Id) (func : ℕ) (ps : List Param) → ty_in_params id ps ≡ option_map spot_ty (option_map (spot_of func) (param_in id ps))
by-param id func [] = refl
by-param id func (p ∷ ps) = go (same_id p.id id) (by-param id func ps)
  where
    go : (b : Bool) → ty_in_params id ps ≡ option_map spot_ty (option_map (spot_of func) (param_in id ps)) → (if b then Some p.ty else ty_in_params id ps) ≡ option_map spot_ty (option_map (spot_of func) (cond b (Some p) (param_in id ps)))
    go true rest = refl
    go false rest = rest

-- ---- functions told anew

pub get-filled : (c : Filling) (n j : ℕ) (fs : List Func) → slice_get (funcs_filled c n fs) j ≡ option_map (func_filled c (n + j)) (slice_get fs j)
get-filled c n j [] = refl
get-filled c n zero (f ∷ fs) = ap (λ k. Some (func_filled c k f)) (add-zero n)
  where
    add-zero : (a : ℕ) → a ≡ a + 0
    add-zero a = omega (arith)
get-filled c n (suc j) (f ∷ fs) = get-filled c (suc n) j fs ∙ ap (λ k. option_map (func_filled c k) (slice_get fs j)) (next n j)
  where
    next : (a b : ℕ) → suc a + b ≡ a + suc b
    next a b = omega (arith)

pub none-past : (A : Type 0) (xs : List A) (k : ℕ) → nat_lt k (length xs) ≡ is_some (slice_get xs k)
none-past A [] k = never k
  where
    never : (a : ℕ) → nat_lt a 0 ≡ false
    never a = grind (arith, nat_tests)
none-past A (x ∷ xs) zero = less (length xs)
  where
    less : (a : ℕ) → nat_lt 0 (suc a) ≡ true
    less a = grind (arith, nat_tests)
none-past A (x ∷ xs) (suc k) = fewer k (length xs) ∙ none-past A xs k
  where
    both-ways : (a b : Bool) → (a ≡ true → b ≡ true) → (b ≡ true → a ≡ true) → a ≡ b
    both-ways true b f g = sym (f refl)
    both-ways false true f g = g refl
    both-ways false false f g = refl

    fewer : (a b : ℕ) → nat_lt (suc a) (suc b) ≡ nat_lt a b
    fewer a b = both-ways (nat_lt (suc a) (suc b)) (nat_lt a b) (λ e. grind (arith, nat_tests)) (λ e. grind (arith, nat_tests))

-- ---- the operand

module _ (a : Arena) (W : IsWhole a) (func : ℕ) where
  abbrev told : Filling
  told q insts = contents a q

  -- in the blocks of a function
  line-in : (id : Id) (f : Func) → slice_get (funcs_of a.frame.items) func ≡ Some f → ty_in_blocks id (blocks_filled told func 0 f.blocks) ≡ line_ty func (standing a id)
  line-in id f there = by-standing id func 0 (blocks_filled told func 0 f.blocks) ∙ by (standing a id) refl
    where
      here : (S : StandsAt a id) (b : Bool) → (S.place.func == func) ≡ b → option_map standing-ty (standing_in id func 0 (blocks_filled told func 0 f.blocks)) ≡ cond b (Some (given_ty S.inst.op S.inst.ty)) None
      here S true e =
          ap (option_map standing-ty) (in-blocks (contents a) id S.place S.inst (find-here a W id S) (find-elsewhere a W id S) func 0 S.place.block f.blocks (λ i. record { func = eq-is S.place.func func e i; block = zero-add S.place.block i })
          (sym (ap (λ o. block_in o S.place.block) (ap (slice_get (funcs_of a.frame.items)) (eq-is S.place.func func e) ∙ there)) ∙ has S))
        where
          zero-add : (k : ℕ) → k ≡ 0 + k
          zero-add k = omega (arith)

          has : (S : StandsAt a id) → has_block a.frame S.place ≡ true
          has S = sym (W.marked S.place) ∙ (W.rings.lines S.at S.place S.inst S.held_is).marked
      here S false e = ap (option_map standing-ty) (none-blocks (contents a) id func 0 f.blocks (λ k. find-elsewhere a W id S (place_of func k) (elsewhere S.place k e)))
        where
          elsewhere : (q : Place) (k : ℕ) → (q.func == func) ≡ false → same_place q (place_of func k) ≡ false
          elsewhere q k ne = Rattle.sb_lines.proofs.Rings.to-false (same_place q (place_of func k)) (λ h. eq-not q.func func ne (ap (λ (p : Place). p.func) (Rattle.sb_lines.proofs.Standing.place-is q (place_of func k) h)))

      by : (o : Option Told) → standing a id ≡ o → option_map standing-ty (standing_in id func 0 (blocks_filled told func 0 f.blocks)) ≡ line_ty func o
      by None e = ap (option_map standing-ty) (none-blocks (contents a) id func 0 f.blocks (λ k. find-nowhere a W id e (place_of func k)))
      by (Some t) e =
          let S = stands a W.rings id (ap is_some e) in
          let is = told-is a id S in
          subst (λ o. option_map standing-ty (standing_in id func 0 (blocks_filled told func 0 f.blocks)) ≡ line_ty func o) (sym is ∙ e) (here S (S.place.func == func) refl)

  opd-in : (opd : Opd) (f : Func) → slice_get (funcs_of a.frame.items) func ≡ Some f → types.opd_ty a func opd ≡ Rattle.ir_types.specs.Formed.opd_ty (seen a) (func_filled told func f) opd
  opd-in (Val id) f there =
      ap (λ o. or_else (option_map spot_ty o) (line_ty func (standing a id))) (W.params id func ∙ ap (param_there id func) there)
      ∙ ap (λ o. or_else o (line_ty func (standing a id))) (sym (by-param id func f.params))
      ∙ ap (or_else (ty_in_params id f.params)) (sym (line-in id f there))
  opd-in (Lit literal) f there = refl
  opd-in (Sym global) f there = refl

  pub ty-is : (opd : Opd) → types.ty_of a func opd ≡ change.ty_in (seen a) opd (slice_get (funcs_of (seen a).items) func)
  ty-is opd =
      ap (λ k. cond (nat_lt func k) (types.opd_ty a func opd) None) W.funcs
      ∙ ap (λ b. cond b (types.opd_ty a func opd) None) (none-past Func (funcs_of a.frame.items) func)
      ∙ by (slice_get (funcs_of a.frame.items) func) refl
      ∙ sym (ap (change.ty_in (seen a) opd) (ap (λ fs. slice_get fs func) (funcs-filled told 0 a.frame.items) ∙ get-filled told 0 func (funcs_of a.frame.items) ∙ ap (λ k. option_map (func_filled told k) (slice_get (funcs_of a.frame.items) func)) (zero-add func)))
    where
      zero-add : (k : ℕ) → 0 + k ≡ k
      zero-add k = omega (arith)

      by : (o : Option Func) → slice_get (funcs_of a.frame.items) func ≡ o → cond (is_some (slice_get (funcs_of a.frame.items) func)) (types.opd_ty a func opd) None ≡ change.ty_in (seen a) opd (option_map (func_filled told func) (slice_get (funcs_of a.frame.items) func))
      by None e = ap (λ o. cond (is_some o) (types.opd_ty a func opd) None) e ∙ sym (ap (λ o. change.ty_in (seen a) opd (option_map (func_filled told func) o)) e)
      by (Some f) e = ap (λ o. cond (is_some o) (types.opd_ty a func opd) None) e ∙ opd-in opd f e ∙ sym (ap (λ o. change.ty_in (seen a) opd (option_map (func_filled told func) o)) e)

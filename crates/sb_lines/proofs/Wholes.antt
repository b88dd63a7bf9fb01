-- The whole of what is held, and what is said of it in the words of its module.
use Rattle.std.proofs.Common.{◌≡◌, refl, sym, ap, ◌∙◌, subst, ℕ, Option, None, Some, IsSome, is_some, length, option_map, option_and_then, slice_get}
use Rattle.ir_types.specs.declared.id.Id.{Id}
use Rattle.ir_types.specs.IdTable.{found as item_of}
use Rattle.vx_view.specs.Answers.{funcs_of, found, Standing}
use Rattle.sb_lines.specs.declared.spot.Before.{Before}
use Rattle.sb_lines.specs.declared.spot.Before.TheVariants.{Line, End}
use Rattle.sb_lines.specs.declared.arena.Arena.{Arena}
use Rattle.sb_lines.specs.Filling.{has_block}
use Rattle.sb_lines.specs.Spots.{HasSpot, inst_of, operand, operand_at}
use Rattle.sb_lines.specs.Arena.{contents, seen, standing, told_of}
use Rattle.sb_lines.specs.Whole.{IsRings, IsWhole}
use Rattle.sb_lines.specs.Params.{of_func, param_there}
use Rattle.sb_lines.specs.Steps.{SameFrame, HasPlace, told_inst, told_operand}
use Rattle.sb_lines.proofs.Standing.{mark-same, none-some}
use Rattle.sb_lines.proofs.Filled.{has-filled}
use Rattle.sb_lines.proofs.Standings.{told-found}

pub whole-kept : (s t : Arena) → IsWhole s → SameFrame s t → IsRings t → IsWhole t
whole-kept s t W same R = record {
  rings = R;
  marked = λ q. ap is_some (mark-same s t same q) ∙ W.marked q ∙ ap (λ f. has_block f q) (sym same.frame);
  params = λ id func. ap (λ p. of_func func (item_of p id)) same.params ∙ W.params id func ∙ ap (λ f. param_there id func (slice_get (funcs_of f.items) func)) (sym same.frame);
  funcs = same.funcs ∙ W.funcs ∙ ap (λ f. length (funcs_of f.items)) (sym same.frame);
}

-- ---- places

map-some : {A B : Type 0} (f : A → B) (o : Option A) → IsSome (option_map f o) → IsSome o
map-some f None n = n
map-some f (Some x) n = refl

some-map : {A B : Type 0} (f : A → B) (o : Option A) → IsSome o → IsSome (option_map f o)
some-map f None n = n
some-map f (Some x) n = refl

map-none : {A B : Type 0} (f : A → B) (o : Option A) → option_map f o ≡ None → o ≡ None
map-none f None n = refl
map-none f (Some x) n = absurd (none-some (sym n))

module _ (a : Arena) (W : IsWhole a) where
  pub stands-there : (id : Id) → IsSome (found (seen a) id) → IsSome (standing a id)
  stands-there id n = subst IsSome (sym (told-found a W id)) (some-map told_of (found (seen a) id) n)

  pub there-stands : (id : Id) → IsSome (standing a id) → IsSome (found (seen a) id)
  there-stands id n = map-some told_of (found (seen a) id) (subst IsSome (told-found a W id) n)

  pub stands-not : (id : Id) → found (seen a) id ≡ None → standing a id ≡ None
  stands-not id e = told-found a W id ∙ ap (option_map told_of) e

  pub not-stands : (id : Id) → standing a id ≡ None → found (seen a) id ≡ None
  not-stands id e = map-none told_of (found (seen a) id) (sym (told-found a W id) ∙ e)

  pub has-place : (before : Before) → HasSpot (seen a) before → HasPlace a before
  has-place (Line x) has = stands-there x has
  has-place (End place) has = W.marked place ∙ sym (has-filled (λ q insts. contents a q) a.frame place) ∙ has

  pub place-has : (before : Before) → HasPlace a before → HasSpot (seen a) before
  place-has (Line x) has = there-stands x has
  place-has (End place) has = has-filled (λ q insts. contents a q) a.frame place ∙ sym (W.marked place) ∙ has

  pub inst-told : (id : Id) → option_map inst_of (found (seen a) id) ≡ option_map told_inst (standing a id)
  inst-told id = by (found (seen a) id) ∙ ap (option_map told_inst) (sym (told-found a W id))
    where
      by : (o : Option Standing) → option_map inst_of o ≡ option_map told_inst (option_map told_of o)
      by None = refl
      by (Some s) = refl

  pub operand-told : (id : Id) (slot : ℕ) → operand (seen a) id slot ≡ told_operand slot (standing a id)
  operand-told id slot = by (found (seen a) id) ∙ ap (told_operand slot) (sym (told-found a W id))
    where
      by : (o : Option Standing) → option_and_then (operand_at slot) o ≡ told_operand slot (option_map told_of o)
      by None = refl
      by (Some s) = refl

-- What the changes say in the words of the module.
use Rattle.std.proofs.Common.{◌≡◌, refl, sym, ap, ◌∙◌, Option, None, Some, IsSome, option_map, option_and_then}
use Rattle.ir_types.specs.declared.id.Id.{Id}
use Rattle.ir_types.specs.declared.id.Place.{Place}
use Rattle.ir_types.specs.declared.inst.Inst.{Inst}
use Rattle.vx_view.specs.Answers.{found, after}
use Rattle.vx_view.specs.Changes.{Edit, each, edited, removing}
use Rattle.sb_lines.specs.declared.nodes.Held.{Held}
use Rattle.sb_lines.specs.declared.nodes.Held.TheVariants.{Block, Line as LineHeld, Gone}
use Rattle.sb_lines.specs.declared.spot.Before.{Before}
use Rattle.sb_lines.specs.declared.spot.Before.TheVariants.{End}
use Rattle.sb_lines.specs.declared.spot.Spot.{Spot}
use Rattle.sb_lines.specs.declared.arena.Arena.{Arena}
use Rattle.sb_lines.specs.Filling.{filled}
use Rattle.sb_lines.specs.Nodes.{held, next}
use Rattle.sb_lines.specs.Spots.{put_in, moved_in, moved_to, spot_of, or_end}
use Rattle.sb_lines.specs.Arena.{node, contents, seen, standing, place_in, before_in, before_held, id_in, Told}
use Rattle.sb_lines.specs.Whole.{IsWhole}
use Rattle.sb_lines.specs.Steps.{SameFrame, IsKept, coming, stood_before, told_inst}
use Rattle.sb_lines.proofs.Standing.{none-some, some-is}
use Rattle.sb_lines.proofs.Unlinked.{after-at}
use Rattle.sb_lines.proofs.Exchanged.{no-new, kept-rings, kept-contents}
use Rattle.sb_lines.proofs.Stood.{StandsAt, stands, told-is}
use Rattle.sb_lines.proofs.Filled.{seen-filled, seen-edited, seen-same, put-filled, filled-again, edited-filled}
use Rattle.sb_lines.proofs.Standings.{found-here, after-there}
use Rattle.sb_lines.proofs.Wholes.{whole-kept}

pub frame-back : (s t : Arena) → SameFrame s t → SameFrame t s
frame-back s t same = record { frame = sym same.frame; funcs = sym same.funcs; params = sym same.params; marks = sym same.marks }

-- ---- what changes nothing

pub reserved-whole : (s t : Arena) → IsWhole s → IsKept s t → ((id : Id) → node t id ≡ node s id) → IsWhole t
reserved-whole s t W K nodes = whole-kept s t W K.same (kept-rings s t W.rings K (no-new s t W.rings K nodes))

pub reserved-seen : (s t : Arena) → IsWhole s → IsKept s t → ((id : Id) → node t id ≡ node s id) → seen t ≡ seen s
reserved-seen s t W K nodes = seen-same s t K.same (kept-contents s t W.rings K (no-new s t W.rings K nodes))

-- ---- ways back

pub edit-back : (s t : Arena) (F : Edit) → SameFrame s t → ((q : Place) → each F (contents t q) ≡ contents s q) → edited F (seen t) ≡ seen s
edit-back s t F same back = sym (seen-edited t s F (frame-back s t same) (λ q. sym (back q)))

pub put-back : (s t : Arena) (before : Before) (inst : Inst) → SameFrame s t → ((q : Place) → coming before inst q (contents t q) ≡ contents s q) → put_in before inst (seen t) ≡ seen s
put-back s t before inst same back = put-filled before inst (seen t) ∙ sym (seen-filled t s (coming before inst) (frame-back s t same) (λ q. sym (back q)))

-- ---- where an instruction stood

before-or-end : (x : Held) (place : Place) (before : Before) → place_in x ≡ Some place → before_in x ≡ Some before → or_end place (id_in x) ≡ before
before-or-end (LineHeld q i) place before e f = some-is f
before-or-end (Block q) place before e f = ap End (sym (some-is e)) ∙ some-is f
before-or-end Gone place before e f = absurd (none-some e)

module _ (a : Arena) (W : IsWhole a) (id : Id) (S : StandsAt a id) where
  pub stood-spot : (before : Before) → stood_before a id ≡ Some before → or_end S.place (after id (contents a S.place)) ≡ before
  stood-spot before e =
      ap (or_end S.place) (after-there a W id S)
      ∙ before-or-end (held a.nodes.items (next a.nodes.items S.at)) S.place before (after-at a W.rings S.at S.place S.inst S.held_is)
      (sym (ap (option_and_then (λ y. before_held a (next a.nodes.items y))) S.node_is) ∙ e)

pub spot-said : (a : Arena) (W : IsWhole a) (id : Id) (spot : Spot) → IsSome (standing a id) → option_map told_inst (standing a id) ≡ Some spot.inst → stood_before a id ≡ Some spot.before → option_map (spot_of id) (found (seen a) id) ≡ Some spot
spot-said a W id spot there inst before =
    let S = stands a W.rings id there in
    let first : S.inst ≡ spot.inst = some-is (sym (ap (option_map told_inst) (told-is a id S)) ∙ inst) in
    let second = stood-spot a W id S spot.before before in
    ap (option_map (spot_of id)) (found-here a W id S) ∙ ap Some (λ i. record { inst = first i; before = second i })

pub before-said : (a : Arena) (W : IsWhole a) (id : Id) (before : Before) → IsSome (standing a id) → stood_before a id ≡ Some before → option_map (λ s. (spot_of id s).before) (found (seen a) id) ≡ Some before
before-said a W id before there e =
    let S = stands a W.rings id there in
    ap (option_map (λ s. (spot_of id s).before)) (found-here a W id S) ∙ ap Some (stood-spot a W id S before e)

-- ---- a move

pub move-said : (s t : Arena) (W : IsWhole s) (id : Id) (before : Before) → SameFrame s t → IsSome (standing s id) → ((inst : Inst) → option_map told_inst (standing s id) ≡ Some inst → (q : Place) → contents t q ≡ coming before inst q (each (removing id) (contents s q))) → seen t ≡ moved_to id before (seen s)
move-said s t W id before same there is = go (stands s W.rings id there)
  where
    go : StandsAt s id → seen t ≡ moved_to id before (seen s)
    go S =
        seen-filled s t (λ q insts. coming before S.inst q (each (removing id) insts)) same (is S.inst (ap (option_map told_inst) (told-is s id S)))
        ∙ sym (filled-again (coming before S.inst) (λ q insts. each (removing id) insts) (seen s))
        ∙ sym (put-filled before S.inst (filled (λ q insts. each (removing id) insts) (seen s)))
        ∙ ap (put_in before S.inst) (sym (edited-filled (removing id) (seen s)))
        ∙ ap (λ x. put_in before S.inst (edited (removing x) (seen s))) (sym S.id_is)
        ∙ sym (ap (moved_in before (seen s)) (found-here s W id S))

-- what stood stands
pub moved-there : (x y : Option Told) → option_map told_inst x ≡ option_map told_inst y → IsSome y → IsSome x
moved-there None None e n = n
moved-there None (Some t) e n = absurd (none-some e)
moved-there (Some s) y e n = refl

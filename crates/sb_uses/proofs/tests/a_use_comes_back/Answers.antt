-- The list grows from none by one use and another.
use Rattle.std.proofs.Common.{◌≡◌, ap, ◌∙◌, [], ◌∷◌}
use Rattle.ir_types.specs.declared.id.Id.{Id}
use Rattle.ir_types.specs.declared.id.Use.{Use}
use Rattle.sb_uses.specs.Chains.{lists}
use Rattle.sb_uses.specs.Places.{has, use_of}
use Rattle.sb_uses.proofs.tests.a_use_comes_back.Goals as goal

abbrev zero : Id
zero = record { region = 0; k = 0 }

pub add-requires : goal.add-requires
add-requires g c = ap (has c.used_by.result) (c.reserve.ensures.same zero ∙ c.new-lists.ensures zero)

pub add-requires-2 : goal.add-requires-2
add-requires-2 g c =
    let none : lists c.reserve.new.self zero ≡ [] = c.reserve.ensures.same zero ∙ c.new-lists.ensures zero in
    let one : lists c.add.new.self zero ≡ c.used_by.result ∷ [] = c.in_ok-add.ensures.ok zero ∙ ap (λ us. c.used_by.result ∷ us) none in
    ap (has c.used_by-2.result) (one ∙ ap (λ (u : Use). u ∷ []) c.used_by.ensures) ∙ ap (λ (u : Use). has u (use_of 1 0 ∷ [])) c.used_by-2.ensures

pub take-spot-requires : goal.take-spot-requires
take-spot-requires g c =
    let none : lists c.reserve.new.self zero ≡ [] = c.reserve.ensures.same zero ∙ c.new-lists.ensures zero in
    let one : lists c.add.new.self zero ≡ c.used_by.result ∷ [] = c.in_ok-add.ensures.ok zero ∙ ap (λ us. c.used_by.result ∷ us) none in
    let two : lists c.add-2.new.self zero ≡ c.used_by-2.result ∷ c.used_by.result ∷ [] = c.in_ok-add-2.ensures.ok zero ∙ ap (λ us. c.used_by-2.result ∷ us) one in
    ap (has c.used_by-3.result) (two ∙ ap (λ (u : Use). u ∷ c.used_by.result ∷ []) c.used_by-2.ensures ∙ ap (λ (u : Use). use_of 2 0 ∷ u ∷ []) c.used_by.ensures)
    ∙ ap (λ (u : Use). has u (use_of 2 0 ∷ use_of 1 0 ∷ [])) c.used_by-3.ensures

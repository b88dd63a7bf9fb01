-- Small worked examples of the definitions: hands after draws, splits and joins, and a state that the rule forbids.
use Rattle.std.proofs.Common.{◌≡◌, ℕ, ◌+◌, min, [], ◌∷◌, refl, arith}
use Rattle.rg_ticket.specs.declared.hand.Hand.{Hand}
use Rattle.rg_ticket.specs.Hands.{times, once_below, first_hand, newcomer, drew, shut, after_draw, after_split, joined}
use Rattle.rg_ticket.specs.Rule.{total, IsKept}

-- 3 stands twice in 1, 3, 3
counted : times 3 (1 ∷ 3 ∷ 3 ∷ []) ≡ 2
counted = refl

-- of the numbers 0 to 2, 2 is one and 3 is none
inside : once_below 2 3 ≡ 1
inside = refl

outside : once_below 3 3 ≡ 0
outside = refl

-- with the limit 2, a draw that finds the word at 1 gives 1, and one that finds it at 2 ends the pass
gives_one : after_draw 1 (first_hand 2) ≡ drew 1 (first_hand 2)
gives_one = refl

gives_none : after_draw 2 (first_hand 2) ≡ shut (first_hand 2)
gives_none = refl

-- the first pass drew 0, was split and drew 1, and the other drew 2 and was ended: joined, the first has all three, and counts one ended pass
mine : Hand
mine = drew 1 (after_split (drew 0 (first_hand 3)))

theirs : Hand
theirs = shut (drew 2 (newcomer 3))

all_numbers : (joined mine theirs).numbers ≡ 0 ∷ 1 ∷ 2 ∷ []
unfolding mine theirs
all_numbers = refl

one_ended : (joined mine theirs).ended_passes ≡ 1
unfolding mine theirs
one_ended = refl

-- it stands for as many passes as were made: one more than it was split
both_stood_for : (joined mine theirs).stands_for ≡ 1 + (joined mine theirs).splits
unfolding mine theirs
both_stood_for = refl

-- before the join the four draws left the word at 4: it passes the limit by the one ended pass
passed : 4 ≡ min 3 4 + total (λ v. v.ended_passes) (mine ∷ theirs ∷ [])
unfolding mine theirs
passed = refl

differ : (a b : ℕ) → a ≡ b → a ≡ 2 → b ≡ 1 → ⊥
differ a b same two one = omega arith

-- no number may stand in two hands
twice : ¬ IsKept 3 2 (drew 0 (after_split (first_hand 3)) ∷ drew 0 (newcomer 3) ∷ [])
twice kept = differ _ _ (kept.each_once 0) refl refl

-- The definitions at work on the groups of the places 0 and 2, and 1.
use Rattle.std.proofs.Common.{◌≡◌, ℕ, zero, suc, ◌<◌, ◌⊎◌, List, [], ◌∷◌, length, true, Some, None, All, refl, subst, inl, inr, arith, slice_get}
use Rattle.std.proofs.lemmas.List.Elements.{All-cons}
use Rattle.vx_order.specs.Groups.{has, owner_of, position_of, IsPartition}
use Rattle.vx_order.specs.Order.{order_of}
use Rattle.vx_order.proofs.Placing.{head_or_more}

abbrev two : List (List ℕ)
two = (0 ∷ 2 ∷ []) ∷ (1 ∷ []) ∷ []

-- the place 2 is of the first group, whose position is 0
an_owner : owner_of two 2 ≡ 0
an_owner = refl

a_position : position_of two 2 ≡ 0
a_position = refl

-- 2 depends on 1
an_order : order_of two ((1, 2) ∷ []) ≡ Some (1 ∷ 0 ∷ [])
an_order = refl

-- 1 depends on 0, and 2 on 1
no_order : order_of two ((0, 1) ∷ (1, 2) ∷ []) ≡ None
no_order = refl

-- 2 depends on 0, a member of its own group
no_order_within : order_of two ((0, 2) ∷ []) ≡ None
no_order_within = refl

of_one : (p a : ℕ) → has (a ∷ []) p ≡ true → a ≡ p
of_one p a h = elim (head_or_more a p [] h) [ inl e ↦ e | inr more ↦ absurd (cc) ]

of_two : (p a b : ℕ) → has (a ∷ b ∷ []) p ≡ true → (a ≡ p) ⊎ (b ≡ p)
of_two p a b h = elim (head_or_more a p (b ∷ []) h) [ inl e ↦ inl e | inr more ↦ inr (of_one p b more) ]

covered : (p : ℕ) → p < 3 → owner_of two p < 2
covered zero h = omega arith
covered (suc zero) h = omega arith
covered (suc (suc zero)) h = omega arith
covered (suc (suc (suc p))) h = absurd (omega arith)

once : (g p : ℕ) (group : List ℕ) → slice_get two g ≡ Some group → has group p ≡ true → owner_of two p ≡ g
once zero p group e h = (let s : group ≡ 0 ∷ 2 ∷ [] = cc in
    elim (of_two p 0 2 (subst (λ (xs : List ℕ). has xs p ≡ true) s h)) [
      | inl q ↦ subst (λ (n : ℕ). owner_of two n ≡ 0) q refl
      | inr q ↦ subst (λ (n : ℕ). owner_of two n ≡ 0) q refl
    ])
once (suc zero) p group e h = (let s : group ≡ 1 ∷ [] = cc in subst (λ (n : ℕ). owner_of two n ≡ 1) (of_one p 1 (subst (λ (xs : List ℕ). has xs p ≡ true) s h)) refl)
once (suc (suc g)) p group e h = absurd (cc)

two_partition : IsPartition two
two_partition = record {
  filled = All-cons (λ group. 0 < length group) (0 ∷ 2 ∷ []) ((1 ∷ []) ∷ []) (omega arith) (All-cons (λ group. 0 < length group) (1 ∷ []) [] (omega arith) (λ k d h. absurd (omega arith)));
  within = All-cons (λ group. All (λ p. p < 3) group) (0 ∷ 2 ∷ []) ((1 ∷ []) ∷ [])
      (All-cons (λ p. p < 3) 0 (2 ∷ []) (omega arith) (All-cons (λ p. p < 3) 2 [] (omega arith) (λ k d h. absurd (omega arith))))
      (All-cons (λ group. All (λ p. p < 3) group) (1 ∷ []) [] (All-cons (λ p. p < 3) 1 [] (omega arith) (λ k d h. absurd (omega arith))) (λ k d h. absurd (omega arith)));
  covered = covered;
  once = once;
  bounded = omega arith;
}

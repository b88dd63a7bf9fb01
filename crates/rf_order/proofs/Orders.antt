-- A row of instructions in another order, from swaps of neighbours: generic in what is known where, and in what is kept.
use Rattle.std.proofs.Common.{◌≡◌, refl, sym, ap, ◌∙◌, subst, inl, inr, Bool, false, List, [], ◌∷◌, ◌++◌}
use Rattle.ir_types.specs.declared.id.Id.{Id}
use Rattle.ir_types.specs.declared.ty.Ty.{Ty}
use Rattle.ir_types.specs.declared.inst.Inst.{Inst}
use Rattle.ir_model.specs.Step.{Went, Lost, Halts, On, then_go, Reached, Calls, step}
use Rattle.rf_order.specs.Rows.{steps, Instead, NoneBefore, Reordered}

pub instead_chain : {A : Type 0} (a b c : Went A) → Instead a b → Instead b c → Instead a c
instead_chain a b c x (inl e) = inl e
instead_chain a b c (inl e) (inr d) = inl (sym d ∙ e)
instead_chain a b c (inr e) (inr d) = inr (e ∙ d)

pub instead_then : {A B : Type 0} (a b : Went A) (f : A → Went B) → Instead a b → Instead (then_go a f) (then_go b f)
instead_then a b f (inl e) = inl (ap (λ w. then_go w f) e)
instead_then a b f (inr e) = inr (ap (λ w. then_go w f) e)

then_assoc : {A B C : Type 0} (a : Went A) (f : A → Went B) (g : B → Went C) → then_go (then_go a f) g ≡ then_go a (λ x. then_go (f x) g)
then_assoc Lost f g = refl
then_assoc (Halts m) f g = refl
then_assoc (On x) f g = refl

module _ (types : Id → Ty) (calls : Calls) where
  -- the same first, and what may stand for the rest
  pub then_rest : (i : Inst) (xs ys : List Inst) (r : Reached) → ((q : Reached) → step types calls i r ≡ On q → Instead (steps types calls xs q) (steps types calls ys q)) →
      Instead (steps types calls (i ∷ xs) r) (steps types calls (i ∷ ys) r)
  then_rest i xs ys r h = by_step (step types calls i r) refl where
    by_step : (w : Went Reached) → step types calls i r ≡ w → Instead (then_go w (steps types calls xs)) (then_go w (steps types calls ys))
    by_step Lost e = inl refl
    by_step (Halts m) e = inr refl
    by_step (On q) e = h q e

  pub steps_append : (xs ys : List Inst) (r : Reached) → steps types calls (xs ++ ys) r ≡ then_go (steps types calls xs r) (steps types calls ys)
  steps_append [] ys r = refl
  steps_append (x ∷ xs) ys r = by_step (step types calls x r) (λ q. steps_append xs ys q) where
    by_step : (w : Went Reached) → ((q : Reached) → steps types calls (xs ++ ys) q ≡ then_go (steps types calls xs q) (steps types calls ys)) →
        then_go w (steps types calls (xs ++ ys)) ≡ then_go (then_go w (steps types calls xs)) (steps types calls ys)
    by_step Lost h = refl
    by_step (Halts m) h = refl
    by_step (On q) h = h q

module _ {K : Type 0} (next : K → Inst → K) (Valid : K → List Inst → Type 0) (Good : K → Reached → Type 0) (types : Id → Ty) (calls : Calls) (depends : Inst → Inst → Bool)
    (tail : (k : K) (i : Inst) (is : List Inst) → Valid k (i ∷ is) → Valid (next k i) is)
    (change : (k : K) (i : Inst) (is js : List Inst) → Valid k (i ∷ is) → Valid (next k i) js → Valid k (i ∷ js))
    (swap_valid : (k : K) (x y : Inst) (is : List Inst) → depends y x ≡ false → Valid k (x ∷ y ∷ is) → Valid k (y ∷ x ∷ is))
    (step_good : (k : K) (i : Inst) (is : List Inst) (r q : Reached) → Valid k (i ∷ is) → Good k r → step types calls i r ≡ On q → Good (next k i) q)
    (swap : (k : K) (x y : Inst) (is : List Inst) (r : Reached) → Valid k (x ∷ y ∷ is) → depends y x ≡ false → Good k r → Instead (steps types calls (y ∷ x ∷ []) r) (steps types calls (x ∷ y ∷ []) r)) where
  front_valid : (front : List Inst) (k : K) (y : Inst) (rest : List Inst) → NoneBefore depends front y → Valid k (front ++ y ∷ rest) → Valid k (y ∷ front ++ rest)
  front_valid [] k y rest none v = v
  front_valid (x ∷ front) k y rest none v =
      swap_valid k x y (front ++ rest) none.0 (change k x (front ++ y ∷ rest) (y ∷ front ++ rest) v (front_valid front (next k x) y rest none.1 (tail k x (front ++ y ∷ rest) v)))

  to_front : (front : List Inst) (k : K) (y : Inst) (rest : List Inst) (r : Reached) → NoneBefore depends front y → Valid k (front ++ y ∷ rest) → Good k r →
      Instead (steps types calls (y ∷ front ++ rest) r) (steps types calls (front ++ y ∷ rest) r)
  to_front [] k y rest r none v g = inr refl
  to_front (x ∷ front) k y rest r none v g =
      instead_chain (steps types calls (y ∷ x ∷ front ++ rest) r) (steps types calls (x ∷ y ∷ front ++ rest) r) (steps types calls (x ∷ front ++ y ∷ rest) r)
      (subst (λ w. Instead w (steps types calls (x ∷ y ∷ front ++ rest) r)) (sym (steps_append types calls (y ∷ x ∷ []) (front ++ rest) r))
      (subst (λ w. Instead (then_go (steps types calls (y ∷ x ∷ []) r) (steps types calls (front ++ rest))) w) (sym (steps_append types calls (x ∷ y ∷ []) (front ++ rest) r))
      (instead_then (steps types calls (y ∷ x ∷ []) r) (steps types calls (x ∷ y ∷ []) r) (steps types calls (front ++ rest))
      (swap k x y (front ++ rest) r (change k x (front ++ y ∷ rest) (y ∷ front ++ rest) v (front_valid front (next k x) y rest none.1 (tail k x (front ++ y ∷ rest) v))) none.0 g))))
      (then_rest types calls x (y ∷ front ++ rest) (front ++ y ∷ rest) r
      (λ q e. to_front front (next k x) y rest q none.1 (tail k x (front ++ y ∷ rest) v) (step_good k x (front ++ y ∷ rest) r q v g e)))

  pub reorder : (new old : List Inst) (k : K) (r : Reached) → Reordered depends old new → Valid k old → Good k r → Instead (steps types calls new r) (steps types calls old r)
  reorder [] old k r e v g = inr (ap (λ l. steps types calls l r) (sym e))
  reorder (y ∷ new) old k r (front, rest, is, none, more) v g =
      let u : Valid k (front ++ y ∷ rest) = subst (Valid k) is v in
      let w : Valid k (y ∷ front ++ rest) = front_valid front k y rest none u in
      subst (λ l. Instead (steps types calls (y ∷ new) r) (steps types calls l r)) (sym is)
      (instead_chain (steps types calls (y ∷ new) r) (steps types calls (y ∷ front ++ rest) r) (steps types calls (front ++ y ∷ rest) r)
      (then_rest types calls y new (front ++ rest) r (λ q e. reorder new (front ++ rest) (next k y) q more (tail k y (front ++ rest) w) (step_good k y (front ++ rest) r q w g e)))
      (to_front front k y rest r none u g))

-- Whole blocks: the phis are the same in both orders, and what is after them runs as it stands.
use Rattle.std.proofs.Common.{◌≡◌, refl, sym, ap, ◌∙◌, subst, ℕ, ◌⊎◌, inl, inr, Bool, false, cond, Option, List, [], ◌∷◌, ◌++◌, length}
use Rattle.ir_types.specs.declared.id.Id.{Id}
use Rattle.ir_types.specs.declared.ty.Ty.{Ty}
use Rattle.ir_types.specs.declared.inst.Inst.{Inst}
use Rattle.ir_model.specs.Values.{Env}
use Rattle.ir_model.specs.Step.{Went, Lost, Halts, On, then_go, Reached, Calls}
use Rattle.ir_model.specs.Run.{is_phi, arm_of, with_phi, reached_if, enter, run_insts, types_of}
use Rattle.vx_view.specs.Conflicts.{depends}
use Rattle.vx_serial.specs.Window.{joined}
use Rattle.rf_order.specs.Rows.{Instead, Reordered}
use Rattle.rf_order.specs.Blocks.{ArePhis, NoPhis, IsEntered, run_phis, WholeBlocksRefine}
use Rattle.rf_order.proofs.Windows.{orders_reordered}
use Rattle.rf_order.proofs.Blocks.{window_once, blocks_refine-proof}

module _ (types : Id → Ty) (calls : Calls) (from : Option ℕ) (edge : Env) where
  -- phis first, then the rest
  pub enter_phis : (phis rest : List Inst) (r : Reached) → ArePhis phis → enter types calls from edge (phis ++ rest) r ≡ then_go (run_phis from edge phis r) (enter types calls from edge rest)
  enter_phis [] rest r are = refl
  enter_phis (i ∷ phis) rest r are =
      ap (λ t. cond t (then_go (reached_if r.left (with_phi edge i.id r.state (arm_of from i.op i.opds))) (enter types calls from edge (phis ++ rest))) (run_insts types calls (i ∷ phis ++ rest) r)) are.0
      ∙ by_step (reached_if r.left (with_phi edge i.id r.state (arm_of from i.op i.opds))) (λ q. enter_phis phis rest q are.1)
    where
      by_step : (w : Went Reached) → ((q : Reached) → enter types calls from edge (phis ++ rest) q ≡ then_go (run_phis from edge phis q) (enter types calls from edge rest)) →
          then_go w (enter types calls from edge (phis ++ rest)) ≡ then_go (then_go w (run_phis from edge phis)) (enter types calls from edge rest)
      by_step Lost more = refl
      by_step (Halts m) more = refl
      by_step (On q) more = more q

  enter_plain : (i : Inst) (is : List Inst) (r : Reached) → is_phi i.op ≡ false → enter types calls from edge (i ∷ is) r ≡ run_insts types calls (i ∷ is) r
  enter_plain i is r h =
      ap (λ t. cond t (then_go (reached_if r.left (with_phi edge i.id r.state (arm_of from i.op i.opds))) (enter types calls from edge is)) (run_insts types calls (i ∷ is) r)) h

  -- a list that begins with no phi, before others
  pub enter_front : (xs ys : List Inst) (r : Reached) → NoPhis xs → (xs ≡ [] → ⊥) → enter types calls from edge (xs ++ ys) r ≡ run_insts types calls (xs ++ ys) r
  enter_front [] ys r h some = absurd (some refl)
  enter_front (x ∷ xs) ys r h some = enter_plain x (xs ++ ys) r h.0

no_phis_out : (front rest : List Inst) (y : Inst) → NoPhis (front ++ y ∷ rest) → (is_phi y.op ≡ false) × NoPhis (front ++ rest)
no_phis_out [] rest y h = h
no_phis_out (x ∷ front) rest y h = let r = no_phis_out front rest y h.1 in (r.0, (h.0, r.1))

no_phis_reordered : (d : Inst → Inst → Bool) (new old : List Inst) → Reordered d old new → NoPhis old → NoPhis new
no_phis_reordered d [] old r h = tt
no_phis_reordered d (y ∷ new) old (front, rest, is, none, more) h =
    let e = no_phis_out front rest y (subst NoPhis is h) in
    (e.0, no_phis_reordered d new (front ++ rest) more e.1)

no_phis_left : (xs ys : List Inst) → NoPhis (xs ++ ys) → NoPhis xs × NoPhis ys
no_phis_left [] ys h = (tt, h)
no_phis_left (x ∷ xs) ys h = let r = no_phis_left xs ys h.1 in ((h.0, r.0), r.1)

no_phis_both : (xs ys : List Inst) → NoPhis xs → NoPhis ys → NoPhis (xs ++ ys)
no_phis_both [] ys h k = k
no_phis_both (x ∷ xs) ys h k = (h.0, no_phis_both xs ys h.1 k)

-- nothing in another order is nothing, and something is something
empty_is : (d : Inst → Inst → Bool) (new old : List Inst) → Reordered d old new → (old ≡ []) ⊎ ((new ≡ [] → ⊥) × (old ≡ [] → ⊥))
empty_is d [] old r = inl r
empty_is d (y ∷ new) old (front, rest, is, none, more) = inr ((λ e. cc), (λ e. filled front (sym is ∙ e))) where
  filled : (front : List Inst) → front ++ y ∷ rest ≡ [] → ⊥
  filled [] e = cc
  filled (x ∷ front) e = cc

none_left : (d : Inst → Inst → Bool) (new : List Inst) → Reordered d [] new → new ≡ []
none_left d [] r = refl
none_left d (y ∷ new) (front, rest, is, none, more) = absurd (filled front (sym is)) where
  filled : (front : List Inst) → front ++ y ∷ rest ≡ [] → ⊥
  filled [] e = cc
  filled (x ∷ front) e = cc

some_append : (xs ys : List Inst) → (ys ≡ [] → ⊥) → xs ++ ys ≡ [] → ⊥
some_append [] ys h e = h e
some_append (x ∷ xs) ys h e = cc

some_front : (x : Inst) (xs ys : List Inst) → (x ∷ xs) ++ ys ≡ [] → ⊥
some_front x xs ys e = cc

pub whole_blocks : WholeBlocksRefine
whole_blocks m f walk at b phis before insts last after cut bundles are groups e calls keep objects from r entered =
    subst (Instead (enter (types_of f) calls from r.state.env (phis ++ ((before ++ joined groups) ++ last ∷ after)) r)) (sym (ap (λ is. enter (types_of f) calls from r.state.env is r) cut.parts))
    (subst (λ w. Instead w (enter (types_of f) calls from r.state.env (phis ++ ((before ++ insts) ++ last ∷ after)) r)) (sym (enter_phis (types_of f) calls from r.state.env phis ((before ++ joined groups) ++ last ∷ after) r cut.phis_first))
    (subst (Instead (then_go (run_phis from r.state.env phis r) (enter (types_of f) calls from r.state.env ((before ++ joined groups) ++ last ∷ after))))
    (sym (enter_phis (types_of f) calls from r.state.env phis ((before ++ insts) ++ last ∷ after) r cut.phis_first))
    (by_phis (run_phis from r.state.env phis r) refl)))
  where
    re : Reordered (depends m b.insts) insts (joined groups)
    re = orders_reordered m b.insts insts bundles (window_once m f walk at b phis before insts last after cut) are groups e

    plain_new : NoPhis (before ++ joined groups)
    plain_new = let parts = no_phis_left before insts cut.no_phis in no_phis_both before (joined groups) parts.0 (no_phis_reordered (depends m b.insts) (joined groups) insts re parts.1)

    inner : (q : Reached) → IsEntered m f walk (length phis) q.state → Instead (run_insts (types_of f) calls ((before ++ joined groups) ++ last ∷ after) q) (run_insts (types_of f) calls ((before ++ insts) ++ last ∷ after) q)
    inner q en = blocks_refine-proof m f walk at b phis before insts last after cut bundles are groups e calls keep objects q en

    by_front : (q : Reached) → IsEntered m f walk (length phis) q.state → (bs : List Inst) → before ≡ bs →
        Instead (enter (types_of f) calls from r.state.env ((before ++ joined groups) ++ last ∷ after) q) (enter (types_of f) calls from r.state.env ((before ++ insts) ++ last ∷ after) q)
    by_front q en [] eb = by_window (empty_is (depends m b.insts) (joined groups) insts re) where
      by_window : (insts ≡ []) ⊎ ((joined groups ≡ [] → ⊥) × (insts ≡ [] → ⊥)) →
          Instead (enter (types_of f) calls from r.state.env ((before ++ joined groups) ++ last ∷ after) q) (enter (types_of f) calls from r.state.env ((before ++ insts) ++ last ∷ after) q)
      by_window (inl none) =
          inr (ap (λ l. enter (types_of f) calls from r.state.env ((before ++ l) ++ last ∷ after) q)
          (none_left (depends m b.insts) (joined groups) (subst (λ l. Reordered (depends m b.insts) l (joined groups)) none re) ∙ sym none))
      by_window (inr some) =
          subst (λ w. Instead w (enter (types_of f) calls from r.state.env ((before ++ insts) ++ last ∷ after) q))
          (sym (enter_front (types_of f) calls from r.state.env (before ++ joined groups) (last ∷ after) q plain_new (some_append before (joined groups) some.0)))
          (subst (Instead (run_insts (types_of f) calls ((before ++ joined groups) ++ last ∷ after) q))
          (sym (enter_front (types_of f) calls from r.state.env (before ++ insts) (last ∷ after) q cut.no_phis (some_append before insts some.1))) (inner q en))
    by_front q en (x ∷ xs) eb =
        subst (λ w. Instead w (enter (types_of f) calls from r.state.env ((before ++ insts) ++ last ∷ after) q))
        (sym (enter_front (types_of f) calls from r.state.env (before ++ joined groups) (last ∷ after) q plain_new (λ d. some_front x xs (joined groups) (ap (λ l. l ++ joined groups) (sym eb) ∙ d))))
        (subst (Instead (run_insts (types_of f) calls ((before ++ joined groups) ++ last ∷ after) q))
        (sym (enter_front (types_of f) calls from r.state.env (before ++ insts) (last ∷ after) q cut.no_phis (λ d. some_front x xs insts (ap (λ l. l ++ insts) (sym eb) ∙ d)))) (inner q en))

    by_phis : (w : Went Reached) → run_phis from r.state.env phis r ≡ w →
        Instead (then_go w (enter (types_of f) calls from r.state.env ((before ++ joined groups) ++ last ∷ after))) (then_go w (enter (types_of f) calls from r.state.env ((before ++ insts) ++ last ∷ after)))
    by_phis Lost d = inl refl
    by_phis (Halts n) d = inr refl
    by_phis (On q) d = by_front q (entered q d) before refl

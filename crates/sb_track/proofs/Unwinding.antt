-- What is undone in turn, after a change that is kept, and where only room changed.
use Rattle.std.proofs.Common.{◌≡◌, sym, ap, ◌∙◌, subst, ℕ, ◌+◌, ◌-◌, ◌≤◌, min, arith, true, false, Option, None, Some, List, [], ◌∷◌, ◌++◌, reverse}
use Rattle.std.specs.Prelude.{IsSome}
use Rattle.std.proofs.lemmas.List.{reverse-append}
use Rattle.vx_view.specs.declared.change.Change.{Change}
use Rattle.vx_view.specs.declared.change.Change.TheVariants.{Insert, Remove, Move, Replace, SetOperand}
use Rattle.vx_view.specs.UsesAfter.{cost}
use Rattle.sb_values.specs.declared.sandbox.Sandbox.{Sandbox}
use Rattle.sb_values.specs.declared.undo.Undo.{Undo}
use Rattle.sb_values.specs.Sandboxes.{State as Inner, state, contents_of, IsWhole}
use Rattle.sb_values.specs.Undoing.{undone, GoesBack, IsKept, CanUndo, KeepsPlaces}
use Rattle.sb_track.specs.declared.track.Track.{Track}
use Rattle.sb_track.specs.Tracking.{unwound, AllUndo, AllKept, base, saved_at, seen, IsIdle, AllAgree, IsTracked, IsLike}

pub kept_still : (us : List Undo) (p q : Sandbox) → KeepsPlaces p q → AllKept us p → AllKept us q
kept_still [] p q keeps h = tt
kept_still (u ∷ us) p q keeps h = (keeps u h.0, kept_still us p q keeps h.1)

pub newest_first : (us : List Undo) (u : Undo) → reverse (us ++ u ∷ []) ≡ u ∷ reverse us
newest_first us u = reverse-append us (u ∷ [])

-- ---- where only room changed

module _ (t u : Track) (like : IsLike t u) where
  pub like_base : base u ≡ base t
  like_base = ap (λ us. unwound (reverse us) (state u.sand)) like.undos ∙ ap (unwound (reverse t.undos.items)) like.sand

  pub like_seen : seen u ≡ seen t
  like_seen = λ i. record { contents = contents_of (like.sand i); notes = like.notes i; saved = saved_at (like.mark i) (like_base i) }

  pub like_tracked : IsTracked t → IsTracked u
  like_tracked h = record {
    undo = subst (λ us. AllUndo (reverse us) (state u.sand)) (sym like.undos) (subst (AllUndo (reverse t.undos.items)) (sym like.sand) h.undo);
    kept = subst (λ us. AllKept (reverse us) u.sand) (sym like.undos) (kept_still (reverse t.undos.items) t.sand u.sand like.keeps h.kept);
    idle = subst (λ us. IsIdle u.mark us) (sym like.undos) (subst (λ m. IsIdle m t.undos.items) (sym like.mark) h.idle);
    agree = subst (λ (s : Inner). AllAgree u.notes s.own) (sym like_base) (subst (λ n. AllAgree n (base t).own) (sym like.notes) h.agree);
  }

-- ---- a change that is kept

pub record IsKeptAfter (t u : Track) (w : Undo) : Type 0 where
  pub undos : u.undos.items ≡ t.undos.items ++ w ∷ []
  pub back : undone w (state u.sand) ≡ state t.sand
  pub can : CanUndo w u.sand
  pub keeps : KeepsPlaces t.sand u.sand
  pub mark : u.mark ≡ t.mark
  pub notes : u.notes ≡ t.notes

never_idle : (m : Option ℕ) (us : List Undo) → IsSome m → IsIdle m us
never_idle None us e = absurd (false_true e) where
  false_true : false ≡ true → ⊥
  false_true r = cc
never_idle (Some m) us e = tt

module _ (t u : Track) (w : Undo) (kept : IsKeptAfter t u w) where
  order : reverse u.undos.items ≡ w ∷ reverse t.undos.items
  order = ap reverse kept.undos ∙ newest_first t.undos.items w

  pub kept_base : base u ≡ base t
  kept_base = ap (λ us. unwound us (state u.sand)) order ∙ ap (unwound (reverse t.undos.items)) kept.back

  pub kept_tracked : IsSome t.mark → IsTracked t → IsTracked u
  kept_tracked marked h = record {
    undo = subst (λ us. AllUndo us (state u.sand)) (sym order) (kept.can.parts, kept.can.whole, subst (AllUndo (reverse t.undos.items)) (sym kept.back) h.undo);
    kept = subst (λ us. AllKept us u.sand) (sym order) (kept.can.kept, kept_still (reverse t.undos.items) t.sand u.sand kept.keeps h.kept);
    idle = never_idle u.mark u.undos.items (subst IsSome (sym kept.mark) marked);
    agree = subst (λ (s : Inner). AllAgree u.notes s.own) (sym kept_base) (subst (λ n. AllAgree n (base t).own) (sym kept.notes) h.agree);
  }

-- ---- one change back

module _ (us vs : List Undo) (u : Undo) (items : us ≡ vs ++ u ∷ []) where
  last_first : reverse us ≡ u ∷ reverse vs
  last_first = ap reverse items ∙ newest_first vs u

  pub one_back : (s t : Inner) → t ≡ undone u s → unwound (reverse vs) t ≡ unwound (reverse us) s
  one_back s t e = ap (unwound (reverse vs)) e ∙ ap (λ ws. unwound ws s) (sym last_first)

  pub one_can : (s : Inner) → AllUndo (reverse us) s → GoesBack u s × IsWhole (undone u s) × AllUndo (reverse vs) (undone u s)
  one_can s h = subst (λ ws. AllUndo ws s) last_first h

  pub one_kept : (p : Sandbox) → AllKept (reverse us) p → IsKept u p × AllKept (reverse vs) p
  one_kept p h = subst (λ ws. AllKept ws p) last_first h

-- ---- room

-- one entry more where room for one was made
pub room_left : (sand now cost room more after len : ℕ) → sand ≤ now + cost → 1 ≤ cost → room ≤ more → more ≤ after → min sand (room - len) ≤ min now (after - (len + 1)) + cost
room_left sand now cost room more after len left one made kept = omega (arith, left, one, made, kept)

pub costs_one : (c : Change) → 1 ≤ cost c
costs_one (Insert x new) = omega (arith)
costs_one (Remove x) = omega (arith)
costs_one (Move y x) = omega (arith)
costs_one (Replace new) = omega (arith)
costs_one (SetOperand x slot o) = omega (arith)

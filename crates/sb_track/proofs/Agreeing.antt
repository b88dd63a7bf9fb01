-- What is noted is answered so in each module that a view then stands for.
use Rattle.std.proofs.Common.{◌≡◌, refl, sym, ap, ◌∙◌, subst, ℕ, Bool, true, false, ◌||◌, Option, None, Some, List, [], ◌∷◌, ◌++◌, cond, reverse}
use Rattle.std.proofs.lemmas.List.Elements.{All-nil, All-cons, All-append}
use Rattle.ir_types.specs.declared.module.Module.{Module}
use Rattle.ir_types.proofs.Formed.{Every, every_of_all}
use Rattle.ir_types.proofs.Among.{same_is}
use Rattle.vx_view.specs.declared.question.Question.{Question}
use Rattle.vx_view.specs.declared.question.Question.TheVariants as ask
use Rattle.vx_view.specs.declared.answer.Answer.{Answer}
use Rattle.vx_view.specs.declared.read.Read.{Read}
use Rattle.vx_view.specs.Answers.{answer, Agrees}
use Rattle.vx_view.specs.UsesAfter.{Contents}
use Rattle.vx_view.specs.Views.{Saved, State, StandsIn, StandsFor, same_question, is_noted, noting, notes_after, after_asking, NotBoth, IsAskable, with_notes}
use Rattle.vx_view.proofs.Blocks.{place_is}
use Rattle.sb_values.specs.Sandboxes.{state, contents}
use Rattle.sb_track.specs.declared.track.Track.{Track}
use Rattle.sb_track.specs.Tracking.{unwound, base, saved_at, seen, IsIdle, AllAgree, IsTracked}

false_true : false ≡ true → ⊥
false_true e = cc

question_is : (p q : Question) → same_question p q ≡ true → p ≡ q
question_is (ask.Inst a) (ask.Inst b) e = ap ask.Inst (same_is a b e)
question_is (ask.Next a) (ask.Next b) e = ap ask.Next (same_is a b e)
question_is (ask.Prev a) (ask.Prev b) e = ap ask.Prev (same_is a b e)
question_is (ask.Users a) (ask.Users b) e = ap ask.Users (same_is a b e)
question_is (ask.First a) (ask.First b) e = ap ask.First (place_is a b e)
question_is _ _ e = cc

abbrev AnswersIn : Module → Read → Type 0
AnswersIn m r = answer m r.question ≡ r.answer

-- what was noted has one answer in both modules
noted_same : (q : Question) (m n : Module) (reads : List Read) → Every (AnswersIn m) reads → Every (AnswersIn n) reads → is_noted q reads ≡ true → answer m q ≡ answer n q
noted_same q m n [] h k e = absurd (false_true e)
noted_same q m n (r ∷ reads) h k e = by_test (same_question r.question q) refl e (noted_same q m n reads h.1 k.1)
  where
    by_test : (b : Bool) → same_question r.question q ≡ b → (b || is_noted q reads) ≡ true → (is_noted q reads ≡ true → answer m q ≡ answer n q) → answer m q ≡ answer n q
    by_test true t f more =
        let is : r.question ≡ q = question_is r.question q t in
        ap (answer m) (sym is) ∙ h.0 ∙ sym k.0 ∙ ap (answer n) is
    by_test false t f more = more f

last_of : (P : Read → Type 0) (reads : List Read) (r : Read) → Every P (reads ++ r ∷ []) → P r
last_of P [] r h = h.0
last_of P (x ∷ reads) r h = last_of P reads r h.1

module _ (q : Question) (a : Answer) where
  abbrev read : Read
  read = record { question = q; answer = a }

  noted_answer : (m n : Module) (reads : List Read) → answer n q ≡ a → Agrees reads n → Agrees (noting q a reads) m → answer m q ≡ a
  noted_answer m n reads e own there = by_test (is_noted q reads) refl there
    where
      by_test : (b : Bool) → is_noted q reads ≡ b → Agrees (cond b reads (reads ++ read ∷ [])) m → answer m q ≡ a
      by_test true t h = noted_same q m n reads (every_of_all (AnswersIn m) reads h) (every_of_all (AnswersIn n) reads own) t ∙ e
      by_test false t h = last_of (AnswersIn m) reads read (every_of_all (AnswersIn m) (reads ++ read ∷ []) h)

  noted_own : (n : Module) (reads : List Read) → answer n q ≡ a → Agrees reads n → Agrees (noting q a reads) n
  noted_own n reads e own = by_test (is_noted q reads)
    where
      by_test : (b : Bool) → Agrees (cond b reads (reads ++ read ∷ [])) n
      by_test true = own
      by_test false = All-append (AnswersIn n) reads (read ∷ []) own (All-cons (AnswersIn n) read [] e (All-nil (AnswersIn n)))

  -- the answer of the own module is that of each
  pub holds_in : (own : Contents) (notes : Option (List Read)) (saved : Option Saved) → answer own.own q ≡ a → StandsIn own notes saved own.own →
      (m : Module) → StandsIn own (notes_after q a notes) saved m → answer m q ≡ a
  holds_in own None saved e here m h = ap (λ n. answer n q) h ∙ e
  holds_in own (Some reads) (Some saved) e here m h = ap (λ n. answer n q) h ∙ e
  holds_in own (Some reads) None e here m h = noted_answer m own.own reads e here.1 h.1

  -- and the view stands for its own module still
  pub stands_still : (own : Contents) (notes : Option (List Read)) (saved : Option Saved) → answer own.own q ≡ a → StandsIn own notes saved own.own → StandsIn own (notes_after q a notes) saved own.own
  stands_still own None saved e here = refl
  stands_still own (Some reads) (Some saved) e here = refl
  stands_still own (Some reads) None e here = (here.0, noted_own own.own reads e here.1)

-- ---- a tracked sandbox

-- what is noted is of the own module where no mark is open
pub stands_own : (t : Track) → IsTracked t → StandsFor (seen t) (seen t).contents.own
stands_own t h = by_both t.notes t.mark h.agree h.idle
  where
    by_both : (notes : Option (List Read)) (mark : Option ℕ) → AllAgree notes (base t).own → IsIdle mark t.undos.items → StandsIn (contents t.sand) notes (saved_at mark (base t)) (contents t.sand).own
    by_both None None agree idle = refl
    by_both None (Some n) agree idle = refl
    by_both (Some reads) (Some n) agree idle = refl
    by_both (Some reads) None agree idle = subst (λ us. AllAgree (Some reads) (unwound (reverse us) (state t.sand)).own) idle agree

-- a question that is answered by the own module
module _ (q : Question) (a : Answer) (t u : Track) (sand : u.sand ≡ t.sand) (undos : u.undos ≡ t.undos) (mark : u.mark ≡ t.mark) (notes : u.notes ≡ notes_after q a t.notes) where
  pub noted_seen : seen u ≡ after_asking q a (seen t)
  noted_seen = λ i. record { contents = contents (sand i); notes = notes i; saved = saved_at (mark i) (unwound (reverse (undos i).items) (state (sand i))) }

  asked_agree : (n : Option (List Read)) (m : Option ℕ) → NotBoth n (saved_at m (base t)) → answer (contents t.sand).own q ≡ a → IsIdle m t.undos.items → AllAgree n (base t).own → AllAgree (notes_after q a n) (base t).own
  asked_agree None m both e idle agree = tt
  asked_agree (Some reads) (Some k) both e idle agree = absurd both
  asked_agree (Some reads) None both e idle agree =
      let here : answer (base t).own q ≡ a = subst (λ us. answer (unwound (reverse us) (state t.sand)).own q ≡ a) (sym idle) e in
      (agree.0, noted_own q a (base t).own reads here agree.1)

  pub asked_tracked : IsTracked t → IsAskable (seen t) → answer (contents t.sand).own q ≡ a → IsTracked u
  asked_tracked h both e = subst IsTracked (sym same) (record { undo = h.undo; kept = h.kept; idle = h.idle; agree = asked_agree t.notes t.mark both e h.idle h.agree })
    where
      same : u ≡ record { sand = t.sand; undos = t.undos; mark = t.mark; notes = notes_after q a t.notes }
      same = λ i. record { sand = sand i; undos = undos i; mark = mark i; notes = notes i }

  pub asked_holds : IsTracked t → answer (contents t.sand).own q ≡ a → (m : Module) → StandsFor (seen u) m → answer m q ≡ a
  asked_holds h e m there = holds_in q a (contents t.sand) t.notes (seen t).saved e (stands_own t h) m (subst (λ (s : State). StandsFor s m) noted_seen there)

  pub asked_own : IsTracked t → answer (contents t.sand).own q ≡ a → StandsFor (seen u) (seen u).contents.own
  asked_own h e = subst (λ (s : State). StandsFor s s.contents.own) (sym noted_seen) (stands_still q a (contents t.sand) t.notes (seen t).saved e (stands_own t h))

-- notes that were opened are open after two questions
pub open_still : (s t u v : State) (q : Question) (a b : Answer) → t ≡ with_notes (Some []) s → u ≡ after_asking q a t → v ≡ after_asking q b u → v.notes ≡ None → ⊥
open_still s t u v q a b e f g h = some_none (sym all ∙ h)
  where
    some_none : {A : Type 0} {x : A} → Some x ≡ None → ⊥
    some_none r = cc

    all : v.notes ≡ Some (noting q b (noting q a []))
    all = ap (λ (w : State). w.notes) g ∙ ap (λ (w : State). notes_after q b w.notes) f ∙ ap (λ (w : State). notes_after q b (notes_after q a w.notes)) e

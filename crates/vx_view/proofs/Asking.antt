-- What asking does to a view: one question, and one call after another.
use Rattle.std.proofs.Common.{◌≡◌, refl, sym, ap, ◌∙◌, subst, Bool, true, false, Option, None, Some, List, [], ◌∷◌, ◌++◌, cond, append_assoc, append-nil, get_or, arith}
use Rattle.std.specs.List.{All}
use Rattle.std.proofs.lemmas.List.Elements.{All-nil, All-cons, All-append, All-tail}
use Rattle.ir_types.specs.declared.module.Module.{Module}
use Rattle.ir_types.specs.Formed.{IsFormed}
use Rattle.vx_view.specs.declared.question.Question.{Question}
use Rattle.vx_view.specs.declared.answer.Answer.{Answer}
use Rattle.vx_view.specs.declared.read.Read.{Read}
use Rattle.vx_view.specs.Answers.{answer, Agrees}
use Rattle.vx_view.specs.Views.{Saved, State, StandsIn, StandsFor, is_noted, notes_after, after_asking, NotBoth, AddsOnly, Asks}
use Rattle.vx_view.specs.UsesAfter.{Contents}

-- ---- notes that grow

module _ (P : Question → Type 0) where
  pub adds_none : (notes : Option (List Read)) → AddsOnly P notes notes
  adds_none None = tt
  adds_none (Some reads) = ([], sym (append-nil reads), All-nil (λ (r : Read). P r.question))

module _ (P Q R : Question → Type 0) (p : (q : Question) → P q → R q) (q : (q : Question) → Q q → R q) where
  abbrev OfP : Read → Type 0
  OfP r = P r.question

  abbrev OfQ : Read → Type 0
  OfQ r = Q r.question

  abbrev OfR : Read → Type 0
  OfR r = R r.question

  more_of : (A B : Read → Type 0) → ((r : Read) → A r → B r) → (xs : List Read) → All A xs → All B xs
  more_of A B f xs h k d less = f (get_or xs k d) (h k d less)

  pub adds_then : (a b c : Option (List Read)) → AddsOnly P a b → AddsOnly Q b c → AddsOnly R a c
  adds_then None None None h k = tt
  adds_then None None (Some z) h k = absurd k
  adds_then None (Some y) c h k = absurd h
  adds_then (Some x) None c h k = absurd h
  adds_then (Some x) (Some y) None h k = absurd k
  adds_then (Some x) (Some y) (Some z) h k = (
    h.0 ++ k.0,
    k.1 ∙ ap (λ l. l ++ k.0) h.1 ∙ append_assoc x h.0 k.0,
    All-append OfR h.0 k.0 (more_of OfP OfR (λ r. p r.question) h.0 h.2) (more_of OfQ OfR (λ r. q r.question) k.0 k.2),
  )

-- ---- one question

module _ (asked : Question) (a : Answer) where
  abbrev IsAsked : Question → Type 0
  IsAsked p = p ≡ asked

  adds_one : (notes : Option (List Read)) → AddsOnly IsAsked notes (notes_after asked a notes)
  adds_one None = tt
  adds_one (Some reads) = by_test (is_noted asked reads)
    where
      by_test : (b : Bool) → AddsOnly IsAsked (Some reads) (Some (cond b reads (reads ++ record { question = asked; answer = a } ∷ [])))
      by_test true = adds_none IsAsked (Some reads)
      by_test false = (record { question = asked; answer = a } ∷ [], refl, All-cons (λ (r : Read). IsAsked r.question) (record { question = asked; answer = a }) [] refl (All-nil (λ (r : Read). IsAsked r.question)))

  agrees_less : (m : Module) (reads : List Read) (b : Bool) → Agrees (cond b reads (reads ++ record { question = asked; answer = a } ∷ [])) m → Agrees reads m
  agrees_less m reads true h = h
  agrees_less m reads false h = front (λ (r : Read). answer m r.question ≡ r.answer) reads (record { question = asked; answer = a } ∷ []) h
    where
      front : (A : Read → Type 0) (xs ys : List Read) → All A (xs ++ ys) → All A xs
      front A [] ys h = All-nil A
      front A (x ∷ xs) ys h = All-cons A x xs (h 0 x (omega arith)) (front A xs ys (All-tail A x (xs ++ ys) h))

  narrows_in : (own : Contents) (notes : Option (List Read)) (saved : Option Saved) (m : Module) → StandsIn own (notes_after asked a notes) saved m → StandsIn own notes saved m
  narrows_in own None None m h = h
  narrows_in own None (Some saved) m h = h
  narrows_in own (Some reads) None m h = (h.0, agrees_less m reads (is_noted asked reads) h.1)
  narrows_in own (Some reads) (Some saved) m h = h

  pub narrows : (s : State) (m : Module) → StandsFor (after_asking asked a s) m → StandsFor s m
  narrows s m h = narrows_in s.contents s.notes s.saved m h

  askable_in : (notes : Option (List Read)) (saved : Option Saved) → NotBoth notes saved → NotBoth (notes_after asked a notes) saved
  askable_in None saved h = tt
  askable_in (Some reads) None h = tt
  askable_in (Some reads) (Some saved) h = absurd h

  pub asks_one : (s new : State) → new ≡ after_asking asked a s → StandsFor new new.contents.own → Asks (λ m p. p ≡ asked) s new
  asks_one s new e own = subst (Asks (λ m p. p ≡ asked) s) (sym e) (record {
    contents = refl;
    saved = refl;
    askable = askable_in s.notes s.saved;
    narrows = narrows s;
    own = λ h. subst (λ (t : State). StandsFor t t.contents.own) e own;
    reads = λ m h f. adds_one s.notes;
  })

-- ---- no question, and one call after another

pub asks_none : (P : Module → Question → Type 0) (s : State) → Asks P s s
asks_none P s = record {
  contents = refl;
  saved = refl;
  askable = λ h. h;
  narrows = λ m h. h;
  own = λ h. h;
  reads = λ m h f. adds_none (P m) s.notes;
}

pub asks_then : (P Q R : Module → Question → Type 0) (s t u : State) → Asks P s t → Asks Q t u →
    ((m : Module) → StandsFor u m → IsFormed m → (q : Question) → P m q → R m q) →
    ((m : Module) → StandsFor u m → IsFormed m → (q : Question) → Q m q → R m q) → Asks R s u
asks_then P Q R s t u a b p q = record {
  contents = b.contents ∙ a.contents;
  saved = b.saved ∙ a.saved;
  askable = λ h. b.askable (a.askable h);
  narrows = λ m h. a.narrows m (b.narrows m h);
  own = λ h. own_of (a.own h);
  reads = λ m h f. adds_then (P m) (Q m) (R m) (p m h f) (q m h f) s.notes t.notes u.notes (a.reads m (b.narrows m h) f) (b.reads m h f);
}
  where
    own_of : StandsFor t t.contents.own → StandsFor u u.contents.own
    own_of h = b.own h

pub asks_more : (P R : Module → Question → Type 0) (s u : State) → Asks P s u →
    ((m : Module) → StandsFor u m → IsFormed m → (q : Question) → P m q → R m q) → Asks R s u
asks_more P R s u a p = asks_then P P R s u u a (asks_none P u) p p

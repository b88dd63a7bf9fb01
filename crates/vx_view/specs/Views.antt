-- What a view of a module holds, which modules it stands for, and what its calls make of it.
--
-- A view has its own module. Where notes are open, it keeps the questions that were asked of it with their answers, and then it stands
-- for every formed module that agrees with these: whatever it answered is true in each. A mark that is open keeps the module and
-- the use lists at its save, and as long as it is open the view stands for its own module alone.
use Rattle.std.specs.Prelude.{◌≡◌, refl, ℕ, ◌<◌, Bool, false, ◌&&◌, nat_eq, cond, Option, None, Some, List, [], ◌∷◌, ◌++◌, ⊤}
use Rattle.std.specs.List.{All, list_any}
use Rattle.ir_types.specs.declared.id.Place.{Place}
use Rattle.ir_types.specs.declared.module.Module.{Module}
use Rattle.ir_types.specs.Available.{same_id}
use Rattle.ir_types.specs.Formed.{IsFormed}
use Rattle.vx_view.specs.declared.question.Question.{Question}
use Rattle.vx_view.specs.declared.question.Question.TheVariants as ask
use Rattle.vx_view.specs.declared.answer.Answer.{Answer}
use Rattle.vx_view.specs.declared.answer.Answer.TheVariants as says
use Rattle.vx_view.specs.declared.read.Read.{Read}
use Rattle.vx_view.specs.declared.change.Change.{Change}
use Rattle.vx_view.specs.declared.refusal.ApplyRefusal.{ApplyRefusal}
use Rattle.vx_view.specs.declared.refusal.ApplyRefusal.TheVariants.{WrongPlace, OutOfMemory}
use Rattle.vx_view.specs.Answers.{Agrees, value}
use Rattle.vx_view.specs.Changes.{Fits}
use Rattle.vx_view.specs.UsesAfter.{Contents, changed, cost}

-- what stood at a save, and the number of its mark
pub record Saved : Type 0 where
  pub mark : ℕ
  pub contents : Contents

pub record State : Type 0 where
  pub contents : Contents
  -- the reads since notes were opened; none where they are not open
  pub notes : Option (List Read)
  -- none where no mark is open
  pub saved : Option Saved

-- ---- modules that a view stands for

abbrev pub StandsIn : Contents → Option (List Read) → Option Saved → Module → Type 0
StandsIn own (Some reads) None m = IsFormed m × Agrees reads m
StandsIn own _ _ m = m ≡ own.own

abbrev pub StandsFor : State → Module → Type 0
StandsFor s m = StandsIn s.contents s.notes s.saved m

-- ---- asking

abbrev pub same_place : Place → Place → Bool
same_place a b = nat_eq a.func b.func && nat_eq a.block b.block

abbrev pub same_question : Question → Question → Bool
same_question (ask.Inst a) (ask.Inst b) = same_id a b
same_question (ask.Next a) (ask.Next b) = same_id a b
same_question (ask.Prev a) (ask.Prev b) = same_id a b
same_question (ask.Users a) (ask.Users b) = same_id a b
same_question (ask.First a) (ask.First b) = same_place a b
same_question _ _ = false

abbrev pub is_noted : Question → List Read → Bool
is_noted q reads = list_any (λ (r : Read). same_question r.question q) reads

-- a question is noted once, where it was first asked
abbrev pub noting : Question → Answer → List Read → List Read
noting q a reads = cond (is_noted q reads) reads (reads ++ record { question = q; answer = a } ∷ [])

abbrev pub notes_after : Question → Answer → Option (List Read) → Option (List Read)
notes_after q a None = None
notes_after q a (Some reads) = Some (noting q a reads)

abbrev pub after_asking : Question → Answer → State → State
after_asking q a s = record { contents = s.contents; notes = notes_after q a s.notes; saved = s.saved }

-- ---- when calls may be made

-- notes and a mark are not both open
abbrev pub NotBoth : Option (List Read) → Option Saved → Type 0
NotBoth (Some reads) (Some saved) = ⊥
NotBoth _ _ = ⊤

abbrev pub IsAskable : State → Type 0
IsAskable s = NotBoth s.notes s.saved

-- where notes are open, a mark is
abbrev pub MarkedIfNoted : Option (List Read) → Option Saved → Type 0
MarkedIfNoted (Some reads) None = ⊥
MarkedIfNoted _ _ = ⊤

abbrev pub IsChangeable : State → Type 0
IsChangeable s = MarkedIfNoted s.notes s.saved

abbrev pub IsMarkOf : ℕ → Option Saved → Type 0
IsMarkOf mark None = ⊥
IsMarkOf mark (Some s) = s.mark ≡ mark

-- ---- what calls make of a state

abbrev pub after_save : ℕ → State → State
after_save mark s = record { contents = s.contents; notes = s.notes; saved = Some (record { mark = mark; contents = s.contents }) }

abbrev pub after_apply : Change → State → State
after_apply c s = record { contents = changed c s.contents; notes = s.notes; saved = s.saved }

abbrev pub after_accept : State → State
after_accept s = record { contents = s.contents; notes = s.notes; saved = None }

abbrev pub saved_contents : Contents → Option Saved → Contents
saved_contents now None = now
saved_contents now (Some saved) = saved.contents

-- as it was at the save
abbrev pub after_revert : State → State
after_revert s = record { contents = saved_contents s.contents s.saved; notes = s.notes; saved = None }

abbrev pub with_notes : Option (List Read) → State → State
with_notes notes s = record { contents = s.contents; notes = notes; saved = s.saved }

-- a refusal hands the change back: it does not fit, or there was no memory, and it costs more than the spare
abbrev pub Refuses : Module → ℕ → Change → ApplyRefusal → Type 0
Refuses m spare c (WrongPlace back) = (back ≡ c) × (Fits m c → ⊥)
Refuses m spare c (OutOfMemory back) = (back ≡ c) × Fits m c × (spare < cost c)

-- ---- reads that a call adds

-- the notes grew by reads of such questions alone; where none are open, none were made
abbrev pub AddsOnly : (Question → Type 0) → Option (List Read) → Option (List Read) → Type 0
AddsOnly P None None = ⊤
AddsOnly P (Some before) (Some after) = (more : List Read) × (after ≡ before ++ more) × All (λ (r : Read). P r.question) more
AddsOnly P _ _ = ⊥

-- what calls over a view do with it: module, use lists and mark stay, it stands for no more than before, and for its own module still, and
-- in a formed module that it then stands for the questions that were added are of that module's kind
pub record Asks (P : Module → Question → Type 0) (old new : State) : Type 0 where
  pub contents : new.contents ≡ old.contents
  pub saved : new.saved ≡ old.saved
  pub askable : IsAskable old → IsAskable new
  pub narrows : (m : Module) → StandsFor new m → StandsFor old m
  pub own : StandsFor old old.contents.own → StandsFor new new.contents.own
  pub reads : (m : Module) → StandsFor new m → IsFormed m → AddsOnly (P m) old.notes new.notes

-- a view with nothing open and no use lists
abbrev pub plain : Module → State
plain m = record { contents = record { own = m; lists = λ v. [] }; notes = None; saved = None }

-- ---- a worked example: a question that is asked twice is noted once

abbrev asked : Read
asked = record { question = ask.Next (value 1); answer = says.At (Some (value 2)) }

noted_once : notes_after (ask.Next (value 1)) (says.At (Some (value 2))) (notes_after (ask.Next (value 1)) (says.At (Some (value 2))) (Some [])) ≡ Some (asked ∷ [])
noted_once = refl

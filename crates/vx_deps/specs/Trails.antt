-- Trails back over a block: what they pass from where they stand.
use Rattle.std.specs.Prelude.{◌≡◌, refl, ℕ, zero, suc, Bool, true, false, Option, None, Some, List, [], ◌∷◌, ◌++◌}
use Rattle.ir_types.specs.declared.id.Id.{Id}
use Rattle.ir_types.specs.declared.inst.Inst.{Inst}
use Rattle.vx_view.specs.declared.question.Question.{Question}
use Rattle.vx_view.specs.declared.question.Question.TheVariants as ask
use Rattle.vx_view.specs.Answers.{before}
use Rattle.vx_serial.specs.Window.{id, block}
use Rattle.vx_deps.specs.declared.trail.Trail.{Trail}
use Rattle.vx_deps.specs.Reach.{IsIn}

-- the ids from one back, so many at most
abbrev pub back : ℕ → List Inst → Option Id → List Id
back zero insts at = []
back (suc n) insts None = []
back (suc n) insts (Some x) = x ∷ back n insts (before x None insts)

-- all that a trail passes in the end
abbrev pub rest : List Inst → Trail → List Id
rest insts t = t.passed.items ++ back t.left insts t.next

-- the trail that begins at an instruction
pub record IsStart (x : Id) (t : Trail) : Type 0 where
  pub passed : t.passed.items ≡ []
  pub next : t.next ≡ Some x
  pub left : t.left ≡ 256

-- an instruction was passed
pub record Passes (x : Id) (before : Option Id) (old new : Trail) : Type 0 where
  pub passed : new.passed.items ≡ old.passed.items ++ x ∷ []
  pub next : new.next ≡ before
  pub left : old.left ≡ suc new.left

-- a step was made, or the trail had ended
abbrev pub IsStep : List Inst → Trail → Trail → Bool → Type 0
IsStep insts old new true = (rest insts old ≡ rest insts new) × IsIn insts new.next
IsStep insts old new false = (rest insts old ≡ old.passed.items) × (new ≡ old)

-- a step asks for the next, which it passes
abbrev pub NamesBack : Trail → Question → Type 0
NamesBack t q = (x : Id) × (q ≡ ask.Prev x) × (t.next ≡ Some x) × ((n : ℕ) × (t.left ≡ suc n))

-- ---- a worked example

two_back : back 2 block (Some (id 5)) ≡ id 5 ∷ id 4 ∷ []
two_back = refl

to_the_first : back 9 block (Some (id 3)) ≡ id 3 ∷ id 2 ∷ []
to_the_first = refl

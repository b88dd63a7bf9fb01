-- How the entry points and their parts answer, and the small tools of reading.
use Rattle.std.specs.Prelude.{◌≡◌, ℕ, Bool, true, false, Option, Some, None, Result, Ok, Err, option_and_then}
use Rattle.vec_words.specs.declared.refusal.Stop.{Stop}
use Rattle.vec_words.specs.declared.refusal.Stop.TheVariants.{Unfit, NoMemory}
use Rattle.vec_words.specs.declared.refusal.WordsRefusal.{WordsRefusal}
use Rattle.vec_words.specs.declared.refusal.WordsRefusal.TheVariants.{Word, OutOfMemory}

-- the first of two readings that finds something
abbrev pub choose : {A B : Type 0} → Option A → (A → Option B) → Option B → Option B
choose None f other = other
choose (Some a) f other = f a

-- a part of a word was not read: there was no memory, or `read` finds no such part
abbrev pub Stops : {Y : Type 0} → Stop → Option Y → Type 0
Stops NoMemory read = Unit {0}
Stops Unfit read = read ≡ None

-- the answer is what `read` finds, or memory ran out
abbrev pub Gives : {X Y : Type 0} → (X → Y) → Result X Stop → Option Y → Type 0
Gives view (Ok x) read = read ≡ Some (view x)
Gives view (Err e) read = Stops e read

-- the refusal is the place that `read` gives, or memory ran out
abbrev pub Refuses : {Y : Type 0} → WordsRefusal → Result Y ℕ → Type 0
Refuses OutOfMemory read = Unit {0}
Refuses (Word place) read = read ≡ Err place

-- the answer is what `read` gives, value or place, or memory ran out
abbrev pub Answers : {X : Type 0} → Result X WordsRefusal → Result X ℕ → Type 0
Answers (Ok x) read = read ≡ Ok x
Answers (Err e) read = Refuses e read

-- The words of a line, and the small tools of reading them from the front.
use Rattle.std.specs.Prelude.{◌≡◌, ℕ, Bool, true, false, cond, Option, Some, None, Result, Ok, Err, option_and_then, List, [], ◌∷◌, bytes_eq, nat_lt}
use Rattle.vx_digits.specs.Optional.{◌>>=◌, when}
use Rattle.ir_draft.specs.declared.refusal.Stop.{Stop}
use Rattle.ir_draft.specs.declared.refusal.Stop.TheVariants.{NotALine, OutOfMemory}

-- a line as the bytes of its tokens
abbrev pub Words : Type 0
Words = List (List ℕ)

-- whether a token is no byte of 128 or above
abbrev pub is_ascii : List ℕ → Bool
is_ascii [] = true
is_ascii (b ∷ bs) = nat_lt b 128

-- the first word and what follows
abbrev pub next : Words → Option (List ℕ × Words)
next [] = None
next (t ∷ ts) = Some (t, ts)

-- the first word, read by `f`, and what follows
abbrev pub one : {A : Type 0} → (List ℕ → Option A) → Words → Option (A × Words)
one f [] = None
one f (t ∷ ts) = f t >>= (λ a. Some (a, ts))

-- what follows the word `v`
abbrev pub expect : List ℕ → Words → Option Words
expect v [] = None
expect v (t ∷ ts) = when (bytes_eq t v) ts

-- whether the word `v` is the first
abbrev pub is_first : List ℕ → Words → Bool
is_first v [] = false
is_first v (t ∷ ts) = bytes_eq t v

-- what follows the first word
abbrev pub after_first : Words → Words
after_first [] = []
after_first (t ∷ ts) = ts

-- the first value of a list whose spelling the word is
abbrev pub by_word : {A : Type 0} → (A → List ℕ) → List A → List ℕ → Option A
by_word spelled [] t = None
by_word spelled (x ∷ xs) t = cond (bytes_eq t (spelled x)) (Some x) (by_word spelled xs t)

-- a part of a line was not read: there was no memory, or `read` finds no such part
abbrev pub Refuses : {Y : Type 0} → Stop → Option Y → Type 0
Refuses OutOfMemory read = Unit {0}
Refuses NotALine read = read ≡ None

-- the answer is what `read` finds, or memory ran out
abbrev pub Gives : {X Y : Type 0} → (X → Y) → Result X Stop → Option Y → Type 0
Gives view (Ok x) read = read ≡ Some (view x)
Gives view (Err e) read = Refuses e read

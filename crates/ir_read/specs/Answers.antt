-- How readers answer, by what their definitions give: the same value, or the same refusal. Want of memory is free.
use Rattle.std.specs.Prelude.{◌≡◌, Result, Ok, Err}
use Rattle.ir_read.specs.declared.refusal.ReadRefusal.{ReadRefusal}
use Rattle.ir_read.specs.declared.refusal.ReadRefusal.TheVariants.{OutOfMemory, Lex, NotALine, Misplaced, Limit}

-- where the first is given, what follows is made of it; a refusal stays
infixl 10 ◌>>=◌
abbrev pub ◌>>=◌ : {A B : Type 0} → Result A ReadRefusal → (A → Result B ReadRefusal) → Result B ReadRefusal
Ok a >>= f = f a
Err refusal >>= f = Err refusal

-- the definition gives this refusal; want of memory is tied to nothing
abbrev pub Refuses : {Y : Type 0} → ReadRefusal → Result Y ReadRefusal → Type 0
Refuses OutOfMemory said = Unit {0}
Refuses (Lex line byte) said = said ≡ Err (Lex line byte)
Refuses (NotALine line) said = said ≡ Err (NotALine line)
Refuses (Misplaced line) said = said ≡ Err (Misplaced line)
Refuses (Limit which) said = said ≡ Err (Limit which)

-- the answer, as `view` shows it, is what the definition gives
abbrev pub Gives : {X Y : Type 0} → (X → Y) → Result X ReadRefusal → Result Y ReadRefusal → Type 0
Gives view (Ok x) said = said ≡ Ok (view x)
Gives view (Err refusal) said = Refuses refusal said

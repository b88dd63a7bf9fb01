-- How the code answers, by what its definitions give: the same value, or the same refusal. Want of memory is free.
use Rattle.std.specs.Prelude.{◌≡◌, ℕ, Bool, cond, Result, Ok, Err}
use Rattle.ir_types_check.specs.declared.refusal.ResolveRefusal.{ResolveRefusal}
use Rattle.ir_types_check.specs.declared.refusal.ResolveRefusal.TheVariants.{TwiceDefined, Unknown, IllTyped, OutOfMemory}

-- where the first is given, what follows is made of it; a refusal stays
infixl 10 ◌>>=◌
abbrev pub ◌>>=◌ : {A B : Type 0} → Result A ResolveRefusal → (A → Result B ResolveRefusal) → Result B ResolveRefusal
Ok a >>= f = f a
Err refusal >>= f = Err refusal

-- nothing where the line n is well typed
abbrev pub well_typed : ℕ → Bool → Result (Unit {0}) ResolveRefusal
well_typed n fits = cond fits (Ok tt) (Err (IllTyped n))

-- the definition gives this refusal; want of memory is tied to nothing
abbrev pub Refuses : {Y : Type 0} → ResolveRefusal → Result Y ResolveRefusal → Type 0
Refuses OutOfMemory said = Unit {0}
Refuses (TwiceDefined line name) said = said ≡ Err (TwiceDefined line name)
Refuses (Unknown line name) said = said ≡ Err (Unknown line name)
Refuses (IllTyped line) said = said ≡ Err (IllTyped line)

-- the answer, as `view` shows it, is what the definition gives
abbrev pub Gives : {X Y : Type 0} → (X → Y) → Result X ResolveRefusal → Result Y ResolveRefusal → Type 0
Gives view (Ok x) said = said ≡ Ok (view x)
Gives view (Err refusal) said = Refuses refusal said

-- What an answer that succeeded says of its steps.
use Rattle.std.proofs.Common.{◌≡◌, ℕ, Bool, true, false, cond, not, ◌&&◌, Some, None, Result, Ok, Err, refl, sym}
use Rattle.ir_types_check.specs.declared.refusal.ResolveRefusal.{ResolveRefusal}
use Rattle.ir_types_check.specs.Answers.{◌>>=◌, well_typed}

pub clash : {P : Type 0} → true ≡ false → P
clash e = cc

pub bind_ok : {A B P : Type 0} (r : Result A ResolveRefusal) (f : A → Result B ResolveRefusal) (y : B) → (r >>= f) ≡ Ok y → ((x : A) → r ≡ Ok x → f x ≡ Ok y → P) → P
bind_ok (Ok x) f y e k = k x refl e
bind_ok (Err refusal) f y e k = cc

abbrev pub ok : {A : Type 0} → A → Result A ResolveRefusal
ok x = Ok x

pub ok_is : {A : Type 0} {x y : A} → ok x ≡ ok y → x ≡ y
ok_is e = cc

pub refused : {A P : Type 0} {refusal : ResolveRefusal} {y : A} → Err refusal ≡ Ok y → P
refused e = cc

pub some_is : {A : Type 0} {x y : A} → Some x ≡ Some y → x ≡ y
some_is e = cc

pub nothing : {A P : Type 0} {y : A} → None ≡ Some y → P
nothing e = cc

pub cond_not : {A P : Type 0} (b : Bool) (r : Result A ResolveRefusal) (refusal : ResolveRefusal) (y : A) → cond b (Err refusal) r ≡ Ok y → (b ≡ false → r ≡ Ok y → P) → P
cond_not true r refusal y e k = refused e
cond_not false r refusal y e k = k refl e

-- a line that is well typed
pub typed_line : (n : ℕ) (b : Bool) (u : Unit {0}) → well_typed n b ≡ Ok u → b ≡ true
typed_line n true u e = refl
typed_line n false u e = refused e

pub both : (a b : Bool) → a && b ≡ true → (a ≡ true) × (b ≡ true)
both true b e = (refl, e)
both false b e = clash (sym e)

pub not_true : (a : Bool) → not a ≡ true → a ≡ false
not_true true h = sym h
not_true false h = refl

pub and_true : (b : Bool) → (b && true) ≡ b
and_true true = refl
and_true false = refl

pub and_more : (a b c : Bool) → ((a && b) && c) ≡ (a && (b && c))
and_more true b c = refl
and_more false b c = refl

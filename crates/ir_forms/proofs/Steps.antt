-- What a reading that succeeded says of its steps, and how words are told apart.
use Rattle.std.proofs.Common.{◌≡◌, ℕ, Bool, true, false, cond, not, ◌&&◌, List, [], ◌∷◌, Option, Some, None, refl, sym, ◌∙◌, ap, subst, bytes_eq}
use Rattle.std.proofs.lemmas.Slice.Eq.{bytes_eq-Decides}
use Rattle.vx_digits.specs.Optional.{◌>>=◌, when}
use Rattle.ir_words.specs.Words.{Words, one, expect, is_first, after_first, by_word}
use Rattle.ir_forms.specs.Operands.{choose}
use Rattle.ir_forms.specs.Pieces.{Says}

pub nothing : {A P : Type 0} {y : A} → None ≡ Some y → P
nothing e = cc

pub clash : {P : Type 0} → true ≡ false → P
clash e = cc

pub some_is : {A : Type 0} {x y : A} → Some x ≡ Some y → x ≡ y
some_is e = cc

pub bind_then : {A B P : Type 0} (o : Option A) (f : A → Option B) (y : B) → (o >>= f) ≡ Some y → ((x : A) → o ≡ Some x → f x ≡ Some y → P) → P
bind_then None f y e k = nothing e
bind_then (Some x) f y e k = k x refl e

pub when_then : {A P : Type 0} (b : Bool) (x y : A) → when b x ≡ Some y → (b ≡ true → x ≡ y → P) → P
when_then true x y e k = k refl (some_is e)
when_then false x y e k = nothing e

pub cond_then : {A P : Type 0} (b : Bool) (x y z : A) → cond b x y ≡ z → (b ≡ true → x ≡ z → P) → (b ≡ false → y ≡ z → P) → P
cond_then true x y z e yes' no' = yes' refl e
cond_then false x y z e yes' no' = no' refl e

pub choose_then : {A B P : Type 0} (o : Option A) (f : A → Option B) (other : Option B) (y : B) → choose o f other ≡ Some y →
    ((x : A) → o ≡ Some x → f x ≡ Some y → P) → (o ≡ None → other ≡ Some y → P) → P
choose_then None f other y e yes' no' = no' refl e
choose_then (Some x) f other y e yes' no' = yes' x refl e

pub both_true : (a b : Bool) → a && b ≡ true → (a ≡ true) × (b ≡ true)
both_true true b h = (refl, h)
both_true false b h = clash (sym h)

pub not_true : (a : Bool) → not a ≡ true → a ≡ false
not_true true h = sym h
not_true false h = refl

-- words that test as equal are
pub bytes_is : (t v : List ℕ) → bytes_eq t v ≡ true → t ≡ v
bytes_is t v h = (bytes_eq-Decides t v).0 h

pub bytes_same : (v : List ℕ) → bytes_eq v v ≡ true
bytes_same v = (bytes_eq-Decides v v).1 refl

pub expect_is : (v : List ℕ) (ts rest : Words) → expect v ts ≡ Some rest → ts ≡ v ∷ rest
expect_is v [] rest e = nothing e
expect_is v (t ∷ ts) rest e = when_then (bytes_eq t v) ts rest e (λ same r. ap (λ (x : List ℕ). x ∷ ts) (bytes_is t v same) ∙ ap (λ (x : Words). v ∷ x) r)

pub expects : (v : List ℕ) (rest : Words) → expect v (v ∷ rest) ≡ Some rest
expects v rest = rw (bytes_same v) refl

pub first_is : (v : List ℕ) (ts : Words) → is_first v ts ≡ true → ts ≡ v ∷ after_first ts
first_is v [] e = clash (sym e)
first_is v (t ∷ ts) e = ap (λ (x : List ℕ). x ∷ ts) (bytes_is t v e)

pub one_says : {A : Type 0} (f : List ℕ → Option A) (ts : Words) (x : A × Words) → one f ts ≡ Some x → Says f x.0 ts x.1
one_says f [] x e = nothing e
one_says f (t ∷ ts) x e = bind_then (f t) (λ a. Some (a, ts)) x e (λ a says r.
    subst (λ (z : _ × Words). Says f z.0 (t ∷ ts) z.1) (some_is r) (record { word = t; first = refl; says = says }))

pub says_one : {A : Type 0} (f : List ℕ → Option A) (v : A) (ts rest : Words) → Says f v ts rest → one f ts ≡ Some (v, rest)
says_one f v ts rest s = rw (s.first, s.says) refl

-- a word that says something is none that does not
pub apart : {A : Type 0} (f : List ℕ → Option A) (v word : List ℕ) (a : A) → f v ≡ None → f word ≡ Some a → bytes_eq word v ≡ false
apart f v word a none some = here (bytes_eq word v) refl where
  here : (b : Bool) → bytes_eq word v ≡ b → b ≡ false
  here true e = nothing (sym none ∙ ap f (sym (bytes_is word v e)) ∙ some)
  here false e = refl

-- a table of words, both ways
pub by_word_is : {A : Type 0} (spelled : A → List ℕ) (xs : List A) (t : List ℕ) (y : A) → by_word spelled xs t ≡ Some y → t ≡ spelled y
by_word_is spelled [] t y e = nothing e
by_word_is spelled (x ∷ xs) t y e = cond_then (bytes_eq t (spelled x)) _ _ _ e (λ same r. bytes_is t (spelled x) same ∙ ap spelled (some_is r)) (λ other r. by_word_is spelled xs t y r)

-- Calls and forms of parts are apart: where a call is read, no form is.
use Rattle.std.proofs.Common.{◌≡◌, ℕ, Bool, true, false, cond, ◌||◌, List, [], ◌∷◌, Option, Some, None, refl, sym, subst, take, drop, codes, bytes_eq}
use Rattle.ir_lex.specs.declared.list.Token.{Token}
use Rattle.ir_lex.specs.Words.{word, words}
use Rattle.ir_lex.specs.Bytes.{begins_name}
use Rattle.ir_draft.specs.declared.line.Line.{Line}
use Rattle.ir_words.specs.Values.{width_of, local_of, label_of, symbol_of, opcode_of, act_of}
use Rattle.ir_words.specs.Words.{Words, one, is_first, after_first}
use Rattle.ir_words.specs.Reading.{ty_at, kind_at}
use Rattle.ir_forms.specs.Operands.{labelled_at}
use Rattle.ir_forms.specs.Grammar.{read}
use Rattle.ir_forms.specs.Forms.{line_of, form, value_line, plain_line, act_line, choices, choice}
use Rattle.ir_line.specs.Calls.{symbol_from, call_after, call_for, call}
use Rattle.ir_forms.proofs.Steps.{nothing, clash, bind_then, cond_then, choose_then, bytes_is, first_is}

-- what a call begins with, after the name of its result
data Begins : Words → Type 0 where
  Plain : (n : ℕ) (rest : Words) → symbol_from 0 0 rest ≡ Some n → Begins (codes "call" ∷ rest)
  Tailed : (rest : Words) → Begins (codes "tail" ∷ codes "call" ∷ rest)
  Untailed : (rest : Words) → Begins (codes "notail" ∷ codes "call" ∷ rest)

-- a call in which so many words stand before `call`
abbrev call_at : List ℕ → Option (List ℕ) → List Token → ℕ → Option Line
call_at line x ts n = cond (is_first (codes "call") (words line (drop n ts))) (call_after line x (take n ts) (drop 1 (drop n ts))) None

plain_begins : (line : List ℕ) (x : Option (List ℕ)) (t : Token) (us : List Token) (l : Line) → call_at line x (t ∷ us) 0 ≡ Some l → Begins (word line t ∷ words line us)
unfolding call_after
plain_begins line x t us l e =
    cond_then (bytes_eq (word line t) (codes "call")) _ _ _ e
    (λ same r. bind_then (symbol_from 0 0 (words line us)) _ l r (λ n en _.
    subst (λ (w : List ℕ). Begins (w ∷ words line us)) (sym (bytes_is (word line t) (codes "call") same)) (Plain n (words line us) en)))
    (λ _ none. nothing none)

tailed_begins : (v : List ℕ) (line : List ℕ) (x : Option (List ℕ)) (t : Token) (us : List Token) (l : Line) → ((rest : Words) → Begins (v ∷ codes "call" ∷ rest)) →
    bytes_eq (word line t) v ≡ true → call_at line x (t ∷ us) 1 ≡ Some l → Begins (word line t ∷ words line us)
tailed_begins v line x t us l k same e =
    cond_then (is_first (codes "call") (words line us)) _ _ _ e
    (λ first _.
    subst (λ (w : List ℕ). Begins (w ∷ words line us)) (sym (bytes_is (word line t) v same))
    (subst (λ (ws : Words). Begins (v ∷ ws)) (sym (first_is (codes "call") (words line us) first)) (k (after_first (words line us)))))
    (λ _ none. nothing none)

call_for_begins : (line : List ℕ) (x : Option (List ℕ)) (ts : List Token) (l : Line) → call_for line x ts ≡ Some l → Begins (words line ts)
unfolding call_for
call_for_begins line x [] l e = nothing e
call_for_begins line x (t ∷ us) l e = here (bytes_eq (word line t) (codes "tail")) (bytes_eq (word line t) (codes "notail")) refl refl e where
  here : (a b : Bool) → bytes_eq (word line t) (codes "tail") ≡ a → bytes_eq (word line t) (codes "notail") ≡ b → call_at line x (t ∷ us) (cond (a || b) 1 0) ≡ Some l → Begins (word line t ∷ words line us)
  here true b ea eb r = tailed_begins (codes "tail") line x t us l Tailed ea r
  here false true ea eb r = tailed_begins (codes "notail") line x t us l Untailed eb r
  here false false ea eb r = plain_begins line x t us l r

-- after `%x =` such words are no form

value_none : (x : List ℕ) (ts : Words) → Begins ts → read line_of (value_line x) (codes "=" ∷ ts) ≡ None
unfolding value_line opcode_of
value_none x ts (Plain n rest e) = refl
value_none x ts (Tailed rest) = refl
value_none x ts (Untailed rest) = refl

-- nor are they without it: `call :` is a label, but names nothing

one_colon : {P : Type 0} (r : List ℕ) (n : ℕ) → r ≡ codes ":" → symbol_from 0 0 (r ∷ []) ≡ Some n → P
unfolding symbol_of
one_colon r n same e = nothing (subst (λ (w : List ℕ). symbol_from 0 0 (w ∷ []) ≡ Some n) same e)

plain_none : (rest : Words) (n : ℕ) → symbol_from 0 0 rest ≡ Some n → read line_of form (codes "call" ∷ rest) ≡ None
unfolding form local_of plain_line labelled_at label_of begins_name act_line act_of choices choice kind_at ty_at width_of
plain_none [] n e = refl
plain_none (r ∷ []) n e = here (bytes_eq r (codes ":")) refl where
  here : (b : Bool) → bytes_eq r (codes ":") ≡ b → read line_of form (codes "call" ∷ r ∷ []) ≡ None
  here true eb = one_colon r n (bytes_is r (codes ":") eb) e
  here false eb = rw eb refl
plain_none (r ∷ s ∷ rs) n e = here (bytes_eq r (codes ":")) refl where
  here : (b : Bool) → bytes_eq r (codes ":") ≡ b → read line_of form (codes "call" ∷ r ∷ s ∷ rs) ≡ None
  here true eb = rw eb refl
  here false eb = rw eb refl

form_none : (ts : Words) → Begins ts → read line_of form ts ≡ None
unfolding form local_of plain_line labelled_at act_line act_of choices choice kind_at ty_at width_of
form_none ts (Plain n rest e) = plain_none rest n e
form_none ts (Tailed rest) = refl
form_none ts (Untailed rest) = refl

named_apart : (line : List ℕ) (ts : List Token) (x : List ℕ × Words) (l : Line) → one local_of (words line ts) ≡ Some x → is_first (codes "=") (words line (drop 1 ts)) ≡ true →
    call_for line (Some x.0) (drop 2 ts) ≡ Some l → read line_of form (words line ts) ≡ None
unfolding form
named_apart line [] x l ex eq r = nothing ex
named_apart line (t ∷ []) x l ex eq r = clash (sym eq)
named_apart line (t ∷ u ∷ us) x l ex eq r =
    bind_then (local_of (word line t)) _ x ex (λ a ea _.
    rw (ea, bytes_is (word line u) (codes "=") eq) (value_none a (words line us) (call_for_begins line (Some x.0) us l r)))

-- where a call is read, no form of parts is
pub call_apart : (line : List ℕ) (ts : List Token) (l : Line) → call line ts ≡ Some l → read line_of form (words line ts) ≡ None
unfolding call
call_apart line ts l e =
    choose_then (one local_of (words line ts)) _ _ l e
    (λ x ex r. cond_then (is_first (codes "=") (words line (drop 1 ts))) _ _ _ r (λ eq r2. named_apart line ts x l ex eq r2) (λ _ none. nothing none))
    (λ _ r. form_none (words line ts) (call_for_begins line None ts l r))

-- one word is no call, and none is none

begins_two : {P : Type 0} (w : List ℕ) → Begins (w ∷ []) → P
begins_two w (Plain n rest e) = nothing e

pub no_token : {P : Type 0} (line : List ℕ) (l : Line) → call line [] ≡ Some l → P
unfolding call call_for
no_token line l e = nothing e

pub one_token : {P : Type 0} (line : List ℕ) (t : Token) (l : Line) → call line (t ∷ []) ≡ Some l → P
unfolding call
one_token line t l e =
    choose_then (one local_of (word line t ∷ [])) _ _ l e
    (λ x ex r. nothing r)
    (λ _ r. begins_two (word line t) (call_for_begins line None (t ∷ []) l r))

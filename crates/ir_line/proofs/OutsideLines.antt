-- Lines outside functions: what is read is spelled, what is spelled is read, and so no line spells two forms.
use Rattle.std.proofs.Common.{◌≡◌, ℕ, Bool, true, false, ◌||◌, List, [], ◌∷◌, Some, refl, sym, ◌∙◌, subst, codes}
use Rattle.ir_lex.specs.declared.list.Token.{Token}
use Rattle.ir_lex.specs.Words.{words}
use Rattle.ir_draft.specs.declared.line.Line.{Line}
use Rattle.ir_words.specs.Words.{Words, is_first}
use Rattle.ir_line.specs.Keeping.{is_kept, keeps_word, keeps_marked, keeps_mark}
use Rattle.ir_line.specs.Outside.{Spells, NoWord, KeptLine, Defined, is_define, read_outside}
use Rattle.ir_forms.proofs.Steps.{nothing, clash, some_is, cond_then, both_true, bytes_is}

-- a `define` line is not kept
define_word : (equals : Bool) → keeps_word (codes "define") || keeps_marked (codes "define") equals ≡ false
unfolding keeps_word keeps_mark
define_word equals = refl

define_not_kept : (ts : Words) → is_first (codes "define") ts ≡ true → is_kept ts ≡ false
define_not_kept [] h = refl
define_not_kept (t ∷ ts) h =
    subst (λ (x : List ℕ). keeps_word x || keeps_marked x (is_first (codes "=") ts) ≡ false) (sym (bytes_is t (codes "define") h)) (define_word (is_first (codes "=") ts))

pub outside_spelled : (line : List ℕ) (ts : List Token) (l : Line) → read_outside line ts ≡ Some l → Spells line ts l
unfolding read_outside
outside_spelled line [] l e = subst (Spells line []) (some_is e) (NoWord refl)
outside_spelled line (t ∷ ts) l e =
    cond_then (is_kept (words line (t ∷ ts))) _ _ _ e
    (λ kept r. subst (Spells line (t ∷ ts)) (some_is r) (KeptLine kept))
    (λ _ e2. cond_then (is_define line (t ∷ ts)) _ _ _ e2
    (λ define r. subst (Spells line (t ∷ ts)) (some_is r) (Defined (both_true _ _ define).0 (both_true _ _ define).1))
    (λ _ none. nothing none))

pub outside_read : (line : List ℕ) (ts : List Token) {l : Line} → Spells line ts l → read_outside line ts ≡ Some l
unfolding read_outside
outside_read line ts (NoWord e) = rw e refl
outside_read line [] (KeptLine kept) = clash (sym kept)
outside_read line (t ∷ ts) (KeptLine kept) = rw kept refl
outside_read line [] (Defined define open_end) = clash (sym define)
outside_read line (t ∷ ts) (Defined define open_end) = rw (define_not_kept (words line (t ∷ ts)) define, define, open_end) refl

-- no line outside functions spells two forms
pub outside_once : (line : List ℕ) (ts : List Token) {l m : Line} → Spells line ts l → Spells line ts m → l ≡ m
outside_once line ts s r = some_is (sym (outside_read line ts s) ∙ outside_read line ts r)

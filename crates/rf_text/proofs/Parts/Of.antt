-- Parts of printed lines: how the words of a part, whatever stops it, follow from those of its pieces, and a line from its parts.
use Rattle.std.proofs.Common.{◌≡◌, ℕ, true, List, [], ◌∷◌, ◌++◌, refl, ◌∙◌, ap, subst, codes, append-nil}
use Rattle.std.specs.List.{list_all}
use Rattle.ir_lex.specs.Bytes.{begins_name, is_word_byte, is_sigil, is_mark, is_blank, is_control}
use Rattle.ir_lex.specs.Scan.{texts, more_len}
use Rattle.ir_lex.proofs.Again.{stops, texts_space}
use Rattle.ir_words.specs.Words.{Words}
use Rattle.ir_forms.specs.Pieces.{Piece, Value, Takes, Led}
use Rattle.ir_forms.specs.Forms.{Slot, slot, word}
use Rattle.rf_text.proofs.Words.Read.{is_plain, plain_append, Told, is_run, run_texts}
use Rattle.rf_text.proofs.Words.Names.{run_is_plain}

-- single signs

pub comma_texts : (rest : List ℕ) → texts (44 ∷ rest) ≡ codes "," ∷ texts rest
unfolding texts more_len is_blank is_sigil is_mark is_word_byte begins_name
comma_texts rest = refl

pub equals_texts : (rest : List ℕ) → texts (61 ∷ rest) ≡ codes "=" ∷ texts rest
unfolding texts more_len is_blank is_sigil is_mark is_word_byte begins_name
equals_texts rest = refl

pub less_texts : (rest : List ℕ) → texts (60 ∷ rest) ≡ codes "<" ∷ texts rest
unfolding texts more_len is_blank is_sigil is_mark is_word_byte begins_name
less_texts rest = refl

pub greater_texts : (rest : List ℕ) → texts (62 ∷ rest) ≡ codes ">" ∷ texts rest
unfolding texts more_len is_blank is_sigil is_mark is_word_byte begins_name
greater_texts rest = refl

pub open_texts : (rest : List ℕ) → texts (91 ∷ rest) ≡ codes "[" ∷ texts rest
unfolding texts more_len is_blank is_sigil is_mark is_word_byte begins_name
open_texts rest = refl

pub close_texts : (rest : List ℕ) → texts (93 ∷ rest) ≡ codes "]" ∷ texts rest
unfolding texts more_len is_blank is_sigil is_mark is_word_byte begins_name
close_texts rest = refl

pub colon_texts : (rest : List ℕ) → texts (58 ∷ rest) ≡ codes ":" ∷ texts rest
unfolding texts more_len is_blank is_sigil is_mark is_word_byte begins_name
colon_texts rest = refl

-- what stops a word

pub space_stops : (rest : List ℕ) → stops (32 ∷ rest) ≡ true
unfolding is_word_byte begins_name
space_stops rest = refl

pub comma_stops : (rest : List ℕ) → stops (44 ∷ rest) ≡ true
unfolding is_word_byte begins_name
comma_stops rest = refl

-- parts

-- these bytes are of a printed line, and in front of what stops them their words are a spelling by P
pub record Cut (P : Words → Words → Type 0) (bs : List ℕ) : Type 0 where
  pub plain : list_all is_plain bs ≡ true
  pub takes : (rest : List ℕ) → stops rest ≡ true → P (texts (bs ++ rest)) (texts rest)

-- a part and what follows it
pub told_part : (p : Piece) (v : Value p) {bs rest : List ℕ} {ss : List Slot} → Cut (Takes p v) bs → stops rest ≡ true → Told ss rest → Told (slot p v ∷ ss) (bs ++ rest)
told_part p v {bs} {rest} cut stop told = record {
  plain = plain_append bs rest cut.plain told.plain;
  spelled = (texts rest, cut.takes rest stop, told.spelled);
}

-- a line ends
pub told_end : Told [] []
unfolding texts
told_end = record { plain = refl; spelled = refl }

-- the last part
pub told_last : (p : Piece) (v : Value p) {bs : List ℕ} → Cut (Takes p v) bs → Told (slot p v ∷ []) bs
told_last p v {bs} cut = subst (Told (slot p v ∷ [])) (append-nil bs) (told_part p v cut refl told_end)

-- a space
pub told_space : {bs : List ℕ} {ss : List Slot} → Told ss bs → Told ss (32 ∷ bs)
unfolding is_control
told_space {bs} {ss} told = record { plain = told.plain; spelled = rw (texts_space bs) told.spelled }

-- a comma and a space in front of a part
pub led_cut : {P : Words → Words → Type 0} {bs : List ℕ} → Cut P bs → Cut (λ ts rest. Led (codes ",") (λ us. P us rest) ts) (44 ∷ 32 ∷ bs)
unfolding is_control
led_cut {P} {bs} cut = record {
  plain = cut.plain;
  takes = λ rest stop. record {
    follow = texts (bs ++ rest);
    first = comma_texts (32 ∷ bs ++ rest) ∙ ap (λ (ws : Words). codes "," ∷ ws) (texts_space (bs ++ rest));
    part = cut.takes rest stop;
  };
}

-- a word of letters
pub word_cut : (w : List ℕ) → is_run w ≡ true → Cut (λ ts rest. ts ≡ w ∷ rest) w
word_cut w h = record { plain = run_is_plain w h; takes = λ rest stop. run_texts w rest h stop }

-- the same with what is between
pub told_word : (w : List ℕ) {rest : List ℕ} {ss : List Slot} → is_run w ≡ true → stops rest ≡ true → Told ss rest → Told (word w ∷ ss) (w ++ rest)
told_word w h stop told = told_part _ _ (word_cut w h) stop told

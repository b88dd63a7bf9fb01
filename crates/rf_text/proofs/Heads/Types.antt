-- The types of the profile as they are printed: what their texts are cut into.
use Rattle.std.proofs.Common.{◌≡◌, ℕ, ◌==◌, ◌*◌, Bool, true, false, not, ◌&&◌, List, [], ◌∷◌, length, Some, None, codes, bytes_eq, nat_le, inl, inr, refl, sym, subst, eqb-true}
use Rattle.std.specs.List.{list_all}
use Rattle.std.specs.Fmt.{digits}
use Rattle.vx_digits.specs.Numbers.{number_of, one_more}
use Rattle.ir_lex.specs.Bytes.{begins_name, is_word_byte, is_digit, is_sigil, is_mark, is_blank, is_control}
use Rattle.ir_lex.specs.Ends.{ends_outside}
use Rattle.ir_lex.specs.Scan.{string_len, name_len, more_len, texts, fault_of}
use Rattle.ir_lex.proofs.Again.{stops}
use Rattle.ir_lex.proofs.Classes.{both, either}
use Rattle.ir_types.specs.declared.ty.Ty.{Ty}
use Rattle.ir_types.specs.declared.ty.Ty.TheVariants.{Void, Int, Ptr, Row}
use Rattle.ir_types.specs.Typed.{is_width, is_count, is_vector, is_value}
use Rattle.ir_words.specs.Values.{width_of, symbol_of, is_some}
use Rattle.ir_words.specs.Words.{is_ascii}
use Rattle.ir_forms.specs.Pieces.{SpellsTy}
use Rattle.ir_words.specs.Reading.{row_at, ty_at}
use Rattle.ir_line.specs.Headers.{ty_len}
use Rattle.ir_forms.proofs.Parts.{ty_taken}
use Rattle.ir_print.specs.Literals.{ty_text}
use Rattle.rf_text.specs.Headed.{is_returned}
use Rattle.rf_text.proofs.HeadWords.{Piece}

-- whether a word is no parenthesis and no plain symbol
abbrev pub is_quiet : List ℕ → Bool
is_quiet t = not (bytes_eq t (codes "(")) && (not (bytes_eq t (codes ")")) && not (is_some (symbol_of t)))

-- a type's text is cut alike after a space, a parenthesis, and a comma and a space, into as many words as a type has
pub record TyText (t : Ty) : Type 0 where
  pub spaced : Piece (32 ∷ ty_text t)
  pub opened : Piece (40 ∷ ty_text t)
  pub listed : Piece (44 ∷ 32 ∷ ty_text t)
  pub opened_words : texts (40 ∷ ty_text t) ≡ codes "(" ∷ texts (ty_text t)
  pub listed_words : texts (44 ∷ 32 ∷ ty_text t) ≡ codes "," ∷ texts (ty_text t)
  pub quiet : list_all is_quiet (texts (ty_text t)) ≡ true
  pub ascii : list_all is_ascii (texts (ty_text t)) ≡ true
  pub size : length (texts (ty_text t)) ≡ ty_len t

-- the facts by which a type's text is so
facts : (t : Ty) → fault_of (32 ∷ ty_text t) ≡ None → ends_outside (32 ∷ ty_text t) ≡ true → stops (32 ∷ ty_text t) ≡ true →
    fault_of (40 ∷ ty_text t) ≡ None → ends_outside (40 ∷ ty_text t) ≡ true → stops (40 ∷ ty_text t) ≡ true →
    fault_of (44 ∷ 32 ∷ ty_text t) ≡ None → ends_outside (44 ∷ 32 ∷ ty_text t) ≡ true → stops (44 ∷ 32 ∷ ty_text t) ≡ true →
    texts (40 ∷ ty_text t) ≡ codes "(" ∷ texts (ty_text t) → texts (44 ∷ 32 ∷ ty_text t) ≡ codes "," ∷ texts (ty_text t) →
    list_all is_quiet (texts (ty_text t)) ≡ true → list_all is_ascii (texts (ty_text t)) ≡ true → length (texts (ty_text t)) ≡ ty_len t → TyText t
facts t a b c d e f g h i j k l m n = record {
  spaced = record { sound = a; ends = b; apart = c };
  opened = record { sound = d; ends = e; apart = f };
  listed = record { sound = g; ends = h; apart = i };
  opened_words = j;
  listed_words = k;
  quiet = l;
  ascii = m;
  size = n;
}

pub by_width : (P : ℕ → Type 0) (w : ℕ) → is_width w ≡ true → P 1 → P 8 → P 16 → P 32 → P 64 → P w
by_width P w h a b c d e =
    elim (either _ (w == 64) h) [
      | inl r ↦ elim (either _ (w == 32) r) [
        | inl r ↦ elim (either _ (w == 16) r) [
          | inl r ↦ elim (either _ (w == 8) r) [
            | inl r ↦ subst P (sym (eqb-true w 1 r)) a
            | inr x ↦ subst P (sym (eqb-true w 8 x)) b
          ]
          | inr x ↦ subst P (sym (eqb-true w 16 x)) c
        ]
        | inr x ↦ subst P (sym (eqb-true w 32 x)) d
      ]
      | inr x ↦ subst P (sym (eqb-true w 64 x)) e
    ]

pub by_count : (P : ℕ → Type 0) (n : ℕ) → is_count n ≡ true → P 2 → P 4 → P 8 → P 16 → P n
by_count P n h a b c d =
    elim (either _ (n == 16) h) [
      | inl r ↦ elim (either _ (n == 8) r) [
        | inl r ↦ elim (either _ (n == 4) r) [
          | inl r ↦ subst P (sym (eqb-true n 2 r)) a
          | inr x ↦ subst P (sym (eqb-true n 4 x)) b
        ]
        | inr x ↦ subst P (sym (eqb-true n 8 x)) c
      ]
      | inr x ↦ subst P (sym (eqb-true n 16 x)) d
    ]

-- what holds of each type of a value holds of all
pub by_value : (P : Ty → Type 0) (t : Ty) → is_value t ≡ true → P Ptr → ((w : ℕ) → is_width w ≡ true → P (Int w)) → ((n w : ℕ) → is_vector (Row n w) ≡ true → P (Row n w)) → P t
by_value P Void h p i r = cc
by_value P Ptr h p i r = p
by_value P (Int w) h p i r =
    i w (elim (either (is_width w) false h) [
      | inl x ↦ x
      | inr x ↦ cc
    ])
by_value P (Row n w) h p i r = r n w h

pub row_parts : (n w : ℕ) → is_vector (Row n w) ≡ true → (is_count n ≡ true) × (is_width w ≡ true)
row_parts n w h = ((both (is_count n) (is_width w) (both (is_count n && is_width w) (nat_le (n * w) 512) h).0).0, (both (is_count n) (is_width w) (both (is_count n && is_width w) (nat_le (n * w) 512) h).0).1)

void_text : TyText Void
unfolding texts ends_outside more_len name_len string_len begins_name is_word_byte is_digit is_sigil is_mark is_blank is_control symbol_of
void_text = facts Void refl refl refl refl refl refl refl refl refl refl refl refl refl refl

pointer_text : TyText Ptr
unfolding texts ends_outside more_len name_len string_len begins_name is_word_byte is_digit is_sigil is_mark is_blank is_control symbol_of
pointer_text = facts Ptr refl refl refl refl refl refl refl refl refl refl refl refl refl refl

int_text : (w : ℕ) → is_width w ≡ true → TyText (Int w)
unfolding digits texts ends_outside more_len name_len string_len begins_name is_word_byte is_digit is_sigil is_mark is_blank is_control symbol_of
int_text w h =
    by_width (λ v. TyText (Int v)) w h (facts (Int 1) refl refl refl refl refl refl refl refl refl refl refl refl refl refl) (facts (Int 8) refl refl refl refl refl refl refl refl refl refl refl refl refl refl)
    (facts (Int 16) refl refl refl refl refl refl refl refl refl refl refl refl refl refl) (facts (Int 32) refl refl refl refl refl refl refl refl refl refl refl refl refl refl)
    (facts (Int 64) refl refl refl refl refl refl refl refl refl refl refl refl refl refl)

of_two : (w : ℕ) → is_width w ≡ true → TyText (Row 2 w)
unfolding digits texts ends_outside more_len name_len string_len begins_name is_word_byte is_digit is_sigil is_mark is_blank is_control symbol_of
of_two w h =
    by_width (λ v. TyText (Row 2 v)) w h (facts (Row 2 1) refl refl refl refl refl refl refl refl refl refl refl refl refl refl) (facts (Row 2 8) refl refl refl refl refl refl refl refl refl refl refl refl refl refl) (facts (Row 2 16) refl refl refl refl refl refl refl refl refl refl refl refl refl refl) (facts (Row 2 32) refl refl refl refl refl refl refl refl refl refl refl refl refl refl) (facts (Row 2 64) refl refl refl refl refl refl refl refl refl refl refl refl refl refl)

of_four : (w : ℕ) → is_width w ≡ true → TyText (Row 4 w)
unfolding digits texts ends_outside more_len name_len string_len begins_name is_word_byte is_digit is_sigil is_mark is_blank is_control symbol_of
of_four w h =
    by_width (λ v. TyText (Row 4 v)) w h (facts (Row 4 1) refl refl refl refl refl refl refl refl refl refl refl refl refl refl) (facts (Row 4 8) refl refl refl refl refl refl refl refl refl refl refl refl refl refl) (facts (Row 4 16) refl refl refl refl refl refl refl refl refl refl refl refl refl refl) (facts (Row 4 32) refl refl refl refl refl refl refl refl refl refl refl refl refl refl) (facts (Row 4 64) refl refl refl refl refl refl refl refl refl refl refl refl refl refl)

of_eight : (w : ℕ) → is_width w ≡ true → TyText (Row 8 w)
unfolding digits texts ends_outside more_len name_len string_len begins_name is_word_byte is_digit is_sigil is_mark is_blank is_control symbol_of
of_eight w h =
    by_width (λ v. TyText (Row 8 v)) w h (facts (Row 8 1) refl refl refl refl refl refl refl refl refl refl refl refl refl refl) (facts (Row 8 8) refl refl refl refl refl refl refl refl refl refl refl refl refl refl) (facts (Row 8 16) refl refl refl refl refl refl refl refl refl refl refl refl refl refl) (facts (Row 8 32) refl refl refl refl refl refl refl refl refl refl refl refl refl refl) (facts (Row 8 64) refl refl refl refl refl refl refl refl refl refl refl refl refl refl)

of_sixteen : (w : ℕ) → is_width w ≡ true → TyText (Row 16 w)
unfolding digits texts ends_outside more_len name_len string_len begins_name is_word_byte is_digit is_sigil is_mark is_blank is_control symbol_of
of_sixteen w h =
    by_width (λ v. TyText (Row 16 v)) w h (facts (Row 16 1) refl refl refl refl refl refl refl refl refl refl refl refl refl refl) (facts (Row 16 8) refl refl refl refl refl refl refl refl refl refl refl refl refl refl) (facts (Row 16 16) refl refl refl refl refl refl refl refl refl refl refl refl refl refl) (facts (Row 16 32) refl refl refl refl refl refl refl refl refl refl refl refl refl refl) (facts (Row 16 64) refl refl refl refl refl refl refl refl refl refl refl refl refl refl)

row_text : (n w : ℕ) → is_count n ≡ true → is_width w ≡ true → TyText (Row n w)
row_text n w hn hw = by_count (λ m. TyText (Row m w)) n hn (of_two w hw) (of_four w hw) (of_eight w hw) (of_sixteen w hw)

pub value_facts : (t : Ty) → is_value t ≡ true → TyText t
value_facts t h = by_value TyText t h pointer_text int_text (λ n w r. row_text n w (row_parts n w r).0 (row_parts n w r).1)

-- the text of every type that may be returned
pub ty_facts : (t : Ty) → is_returned t ≡ true → TyText t
ty_facts Void h = void_text
ty_facts (Int w) h = value_facts (Int w) h
ty_facts Ptr h = value_facts Ptr h
ty_facts (Row n w) h = value_facts (Row n w) h

ty_spelled : (t : Ty) → ty_at (texts (ty_text t)) ≡ Some (t, []) → SpellsTy t (texts (ty_text t)) []
ty_spelled t e = ty_taken (texts (ty_text t)) (t, []) e

pointer_spelled : SpellsTy Ptr (texts (ty_text Ptr)) []
unfolding digits texts more_len name_len string_len begins_name is_word_byte is_digit is_sigil is_mark is_blank ty_at row_at width_of number_of one_more
pointer_spelled = ty_spelled Ptr refl

int_spelled : (w : ℕ) → is_width w ≡ true → SpellsTy (Int w) (texts (ty_text (Int w))) []
unfolding digits texts more_len name_len string_len begins_name is_word_byte is_digit is_sigil is_mark is_blank ty_at row_at width_of number_of one_more
int_spelled w h = by_width (λ v. SpellsTy (Int v) (texts (ty_text (Int v))) []) w h (ty_spelled (Int 1) refl) (ty_spelled (Int 8) refl) (ty_spelled (Int 16) refl) (ty_spelled (Int 32) refl) (ty_spelled (Int 64) refl)

-- a vector of the profile, by its lanes and their width
row_read : (n w : ℕ) → is_vector (Row n w) ≡ true → ty_at (texts (ty_text (Row n w))) ≡ Some (Row n w, [])
unfolding digits texts more_len name_len string_len begins_name is_word_byte is_digit is_sigil is_mark is_blank ty_at row_at width_of number_of one_more
row_read n w h = by_count (λ m. (v : ℕ) → is_width v ≡ true → is_vector (Row m v) ≡ true → ty_at (texts (ty_text (Row m v))) ≡ Some (Row m v, [])) n (row_parts n w h).0
    (λ v k. by_width (λ x. is_vector (Row 2 x) ≡ true → ty_at (texts (ty_text (Row 2 x))) ≡ Some (Row 2 x, [])) v k (λ z. refl) (λ z. refl) (λ z. refl) (λ z. refl) (λ z. refl))
    (λ v k. by_width (λ x. is_vector (Row 4 x) ≡ true → ty_at (texts (ty_text (Row 4 x))) ≡ Some (Row 4 x, [])) v k (λ z. refl) (λ z. refl) (λ z. refl) (λ z. refl) (λ z. refl))
    (λ v k. by_width (λ x. is_vector (Row 8 x) ≡ true → ty_at (texts (ty_text (Row 8 x))) ≡ Some (Row 8 x, [])) v k (λ z. refl) (λ z. refl) (λ z. refl) (λ z. refl) (λ z. refl))
    (λ v k. by_width (λ x. is_vector (Row 16 x) ≡ true → ty_at (texts (ty_text (Row 16 x))) ≡ Some (Row 16 x, [])) v k (λ z. refl) (λ z. refl) (λ z. refl) (λ z. refl) (λ z. cc))
    w (row_parts n w h).1 h

row_spelled : (n w : ℕ) → is_vector (Row n w) ≡ true → SpellsTy (Row n w) (texts (ty_text (Row n w))) []
row_spelled n w h = ty_spelled (Row n w) (row_read n w h)

-- a value's type is spelled by its text
pub value_spelled : (t : Ty) → is_value t ≡ true → SpellsTy t (texts (ty_text t)) []
value_spelled t h = by_value (λ u. SpellsTy u (texts (ty_text u)) []) t h pointer_spelled int_spelled (λ n w r. row_spelled n w r)

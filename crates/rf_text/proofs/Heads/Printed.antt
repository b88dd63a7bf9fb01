-- A header as it is printed: its pieces, their tokens, and what is read from them.
use Rattle.std.proofs.Common.{◌≡◌, ℕ, suc, ◌==◌, true, false, List, [], ◌∷◌, ◌++◌, Option, Some, None, codes, inl, inr, refl, sym, ◌∙◌, ap, arith, append_assoc}
use Rattle.std.proofs.lemmas.Bool.Decides.{nat_tests}
use Rattle.std.proofs.lemmas.List.Folds.{concat-append}
use Rattle.std.specs.List.{All, concat, list_all}
use Rattle.ir_lex.specs.Bytes.{quote, semicolon, begins_name, is_word_byte, is_digit, is_sigil, is_blank, is_control}
use Rattle.ir_lex.specs.Ends.{ends_outside}
use Rattle.ir_lex.specs.Scan.{texts, fault_of}
use Rattle.ir_lex.specs.Tokens.{is_name, is_number, IsToken, Name, Unnamed}
use Rattle.ir_lex.proofs.Again.{stops, texts_space, token_alone}
use Rattle.ir_lex.proofs.Classes.{both, either, name_word, digit_word}
use Rattle.ir_lex.proofs.Standing.{fault_both, ends_both}
use Rattle.ir_types.specs.declared.func.Param.{Param}
use Rattle.ir_types.specs.declared.func.Func.{Func}
use Rattle.ir_print.specs.declared.names.Local.{Local}
use Rattle.ir_print.specs.Literals.{ty_text}
use Rattle.ir_print.specs.Names.{Names}
use Rattle.ir_print.specs.Names as shown
use Rattle.ir_print.specs.Operands.{spaced, local_text}
use Rattle.ir_print.specs.Text.{param_text, more_params, params_text, header_text}
use Rattle.ir_types.specs.KeptParts.{IsKeptPart}
use Rattle.rf_text.specs.Headed.{is_local_name, IsParam, is_shown, IsHeaded, header_line, shown_name}
use Rattle.rf_text.proofs.HeadWords.{Piece, ArePieces, pieces_append}
use Rattle.rf_text.proofs.Heads.Types.{ty_facts, value_facts}

-- ---- the pieces of a header, after `define`

-- parameters after the first
abbrev pub more_pieces : Names → List Param → List (List ℕ)
more_pieces ns [] = []
more_pieces ns (p ∷ ps) = (44 ∷ 32 ∷ ty_text p.ty) ∷ spaced p.attrs ∷ (32 ∷ local_text (shown.local_of p.id ns.locals)) ∷ more_pieces ns ps

-- parameters after their parenthesis
abbrev pub params_pieces : Names → List Param → List (List ℕ)
params_pieces ns [] = (40 ∷ []) ∷ []
params_pieces ns (p ∷ ps) = (40 ∷ ty_text p.ty) ∷ spaced p.attrs ∷ (32 ∷ local_text (shown.local_of p.id ns.locals)) ∷ more_pieces ns ps

-- what stands after the parameters
abbrev pub tail_pieces : List ℕ → List (List ℕ)
tail_pieces after = (41 ∷ []) ∷ spaced after ∷ []

-- what stands between `define` and the last brace
abbrev pub inner_pieces : Names → Func → List (List ℕ)
inner_pieces ns f = spaced f.before ∷ (32 ∷ ty_text f.ret) ∷ (32 ∷ 64 ∷ f.name) ∷ (params_pieces ns f.params ++ tail_pieces f.after)

abbrev pub brace : List ℕ
brace = 32 ∷ 123 ∷ []

param_apart : (ns : Names) (p : Param) (rest : List ℕ) → param_text ns p ++ rest ≡ ty_text p.ty ++ (spaced p.attrs ++ ((32 ∷ local_text (shown.local_of p.id ns.locals)) ++ rest))
param_apart ns p rest =
    append_assoc (ty_text p.ty) (spaced p.attrs ++ (32 ∷ local_text (shown.local_of p.id ns.locals))) rest
    ∙ ap (λ (x : List ℕ). ty_text p.ty ++ x) (append_assoc (spaced p.attrs) (32 ∷ local_text (shown.local_of p.id ns.locals)) rest)

more_text : (ns : Names) (ps : List Param) → more_params ns ps ≡ concat (more_pieces ns ps)
more_text ns [] = refl
more_text ns (p ∷ ps) = ap (λ (x : List ℕ). 44 ∷ 32 ∷ (param_text ns p ++ x)) (more_text ns ps) ∙ ap (λ (x : List ℕ). 44 ∷ 32 ∷ x) (param_apart ns p (concat (more_pieces ns ps)))

params_pieces_text : (ns : Names) (ps : List Param) → 40 ∷ params_text ns ps ≡ concat (params_pieces ns ps)
params_pieces_text ns [] = refl
params_pieces_text ns (p ∷ ps) = ap (λ (x : List ℕ). 40 ∷ (param_text ns p ++ x)) (more_text ns ps) ∙ ap (λ (x : List ℕ). 40 ∷ x) (param_apart ns p (concat (more_pieces ns ps)))

-- the header line is `define` and the pieces after it
pub line_pieces : (ns : Names) (f : Func) → header_line ns f ≡ codes "define" ++ concat (inner_pieces ns f ++ (brace ∷ []))
line_pieces ns f =
    let tail : List ℕ = 41 ∷ (spaced f.after ++ brace) in
    let last : List (List ℕ) = params_pieces ns f.params ++ (tail_pieces f.after ++ (brace ∷ [])) in
    let past : concat (params_pieces ns f.params ++ (tail_pieces f.after ++ (brace ∷ []))) ≡ 40 ∷ (params_text ns f.params ++ tail) =
    concat-append (params_pieces ns f.params) (tail_pieces f.after ++ (brace ∷ [])) ∙ ap (λ (x : List ℕ). x ++ tail) (sym (params_pieces_text ns f.params)) in
    let rest : concat ((params_pieces ns f.params ++ tail_pieces f.after) ++ (brace ∷ [])) ≡ 40 ∷ (params_text ns f.params ++ tail) =
    ap concat (append_assoc (params_pieces ns f.params) (tail_pieces f.after) (brace ∷ [])) ∙ past in
    let front : List ℕ → List ℕ = λ x. codes "define" ++ (spaced f.before ++ (32 ∷ (ty_text f.ret ++ (32 ∷ 64 ∷ (f.name ++ x))))) in
    let apart : header_line ns f ≡ front (40 ∷ (params_text ns f.params ++ tail)) = simp append_assoc refl in
    apart ∙ ap front (sym rest)

-- the printed header is that line and a line feed
pub header_feed : (ns : Names) (f : Func) → header_text ns f ≡ header_line ns f ++ codes "\n"
header_feed ns f = simp append_assoc refl

-- ---- each is a piece

space_stops : (bs : List ℕ) → stops (32 ∷ bs) ≡ true
unfolding is_word_byte begins_name
space_stops bs = refl

space_sound : fault_of (32 ∷ []) ≡ None
unfolding is_control
space_sound = refl

space_ends : ends_outside (32 ∷ []) ≡ true
unfolding ends_outside
space_ends = refl

-- a piece after a space
pub after_space : (bs : List ℕ) → fault_of bs ≡ None → ends_outside bs ≡ true → Piece (32 ∷ bs)
after_space bs sound ends = record { sound = fault_both (32 ∷ []) bs space_sound space_ends sound; ends = ends_both (32 ∷ []) bs space_ends ends; apart = space_stops bs }

nothing_ends : ends_outside [] ≡ true
unfolding ends_outside
nothing_ends = refl

pub spaced_piece : (part : List ℕ) → IsKeptPart part → Piece (spaced part)
spaced_piece [] k = record { sound = refl; ends = nothing_ends; apart = refl }
spaced_piece (b ∷ bs) k = after_space (b ∷ bs) k.sound k.ends

word_no_control : (b : ℕ) → is_word_byte b ≡ true → is_control b ≡ false
unfolding is_word_byte begins_name is_control
word_no_control b h = grind (arith, nat_tests)

word_no_quote : (b : ℕ) → is_word_byte b ≡ true → (b == quote) ≡ false
unfolding is_word_byte begins_name
word_no_quote b h = grind (arith, nat_tests)

word_no_semicolon : (b : ℕ) → is_word_byte b ≡ true → (b == semicolon) ≡ false
unfolding is_word_byte begins_name
word_no_semicolon b h = grind (arith, nat_tests)

byte_ends : (b : ℕ) → is_word_byte b ≡ true → ends_outside (b ∷ []) ≡ true
unfolding ends_outside
byte_ends b h = rw (word_no_quote b h, word_no_semicolon b h) refl

pub word_sound : (bs : List ℕ) → list_all is_word_byte bs ≡ true → (fault_of bs ≡ None) × (ends_outside bs ≡ true)
word_sound [] h = (refl, nothing_ends)
word_sound (b ∷ bs) h =
    let w : is_word_byte b ≡ true = (both (is_word_byte b) _ h).0 in
    let next : (fault_of bs ≡ None) × (ends_outside bs ≡ true) = word_sound bs (both (is_word_byte b) _ h).1 in
    let one : fault_of (b ∷ []) ≡ None = rw (word_no_control b w, word_no_quote b w) refl in
    (fault_both (b ∷ []) bs one (byte_ends b w) next.0, ends_both (b ∷ []) bs (byte_ends b w) next.1)

name_words : (bs : List ℕ) → is_name bs ≡ true → list_all is_word_byte bs ≡ true
name_words [] h = cc
name_words (b ∷ bs) h = rw (name_word b (both _ _ h).0) (both (begins_name b) _ h).1

digit_words : (bs : List ℕ) → list_all is_digit bs ≡ true → list_all is_word_byte bs ≡ true
digit_words [] h = refl
digit_words (b ∷ bs) h = rw (digit_word b (both _ _ h).0) (digit_words bs (both (is_digit b) _ h).1)

number_words : (bs : List ℕ) → is_number bs ≡ true → list_all is_word_byte bs ≡ true
number_words [] h = cc
number_words (b ∷ bs) h = digit_words (b ∷ bs) h

at_sound : fault_of (64 ∷ []) ≡ None
unfolding is_control
at_sound = refl

at_ends : ends_outside (64 ∷ []) ≡ true
unfolding ends_outside
at_ends = refl

percent_sound : fault_of (37 ∷ []) ≡ None
unfolding is_control
percent_sound = refl

percent_ends : ends_outside (37 ∷ []) ≡ true
unfolding ends_outside
percent_ends = refl

-- the function's name
pub name_piece : (name : List ℕ) → is_name name ≡ true → Piece (32 ∷ 64 ∷ name)
name_piece name h =
    let w : (fault_of name ≡ None) × (ends_outside name ≡ true) = word_sound name (name_words name h) in
    after_space (64 ∷ name) (fault_both (64 ∷ []) name at_sound at_ends w.0) (ends_both (64 ∷ []) name at_ends w.1)

pub name_texts : (name : List ℕ) → is_name name ≡ true → texts (32 ∷ 64 ∷ name) ≡ (64 ∷ name) ∷ []
unfolding is_blank is_sigil
name_texts name h = texts_space (64 ∷ name) ∙ token_alone 64 name refl refl (Name refl h)

-- a local's name
local_token : (name : List ℕ) → is_local_name name ≡ true → IsToken 37 name × (list_all is_word_byte name ≡ true)
unfolding is_sigil
local_token name h =
    elim (either (is_name name) _ h) [
      | inl n ↦ (Name refl n, name_words name n)
      | inr r ↦ (Unnamed refl (both (is_number name) _ r).0, number_words name (both (is_number name) _ r).0)
    ]

pub local_piece : (name : List ℕ) → is_local_name name ≡ true → Piece (32 ∷ 37 ∷ name)
local_piece name h =
    let w : (fault_of name ≡ None) × (ends_outside name ≡ true) = word_sound name (local_token name h).1 in
    after_space (37 ∷ name) (fault_both (37 ∷ []) name percent_sound percent_ends w.0) (ends_both (37 ∷ []) name percent_ends w.1)

pub local_texts : (name : List ℕ) → is_local_name name ≡ true → texts (32 ∷ 37 ∷ name) ≡ (37 ∷ name) ∷ []
unfolding is_blank
local_texts name h = texts_space (37 ∷ name) ∙ token_alone 37 name refl refl (local_token name h).0

pub open_piece : Piece (40 ∷ [])
unfolding is_word_byte begins_name is_control ends_outside
open_piece = record { sound = refl; ends = refl; apart = refl }

pub close_piece : Piece (41 ∷ [])
unfolding is_word_byte begins_name is_control ends_outside
close_piece = record { sound = refl; ends = refl; apart = refl }

pub brace_piece : Piece brace
unfolding is_word_byte begins_name is_control ends_outside
brace_piece = record { sound = refl; ends = refl; apart = refl }

-- a parameter that is shown
pub record Shown (ns : Names) (p : Param) : Type 0 where
  pub typed : IsParam p
  pub local : is_shown (shown.local_of p.id ns.locals) ≡ true

abbrev pub AreShown : Names → List Param → Type 0
AreShown ns [] = Unit {0}
AreShown ns (p ∷ ps) = Shown ns p × AreShown ns ps

pub are_shown : (ns : Names) (ps : List Param) → All IsParam ps → All (λ p. is_shown (shown.local_of p.id ns.locals) ≡ true) ps → AreShown ns ps
are_shown ns [] h k = tt
are_shown ns (p ∷ ps) h k = (record { typed = h 0 p (omega arith); local = k 0 p (omega arith) }, are_shown ns ps (λ i d l. h (suc i) d (omega (arith, l))) (λ i d l. k (suc i) d (omega (arith, l))))

-- how a local is shown
pub record ShownLocal (l : Option Local) : Type 0 where
  pub name : List ℕ
  pub text : local_text l ≡ 37 ∷ name
  pub shown : shown_name l ≡ Some name
  pub is_name : is_local_name name ≡ true

pub local_is : (l : Option Local) → is_shown l ≡ true → ShownLocal l
local_is None h = cc
local_is (Some l) h = record { name = l.text; text = refl; shown = refl; is_name = h }

shown_piece : (l : Option Local) → is_shown l ≡ true → Piece (32 ∷ local_text l)
shown_piece l h = let s : ShownLocal l = local_is l h in rw s.text (local_piece s.name s.is_name)

more_are : (ns : Names) (ps : List Param) → AreShown ns ps → ArePieces (more_pieces ns ps)
more_are ns [] h = tt
more_are ns (p ∷ ps) h = ((value_facts p.ty h.0.typed.typed).listed, (spaced_piece p.attrs h.0.typed.attributed.kept, (shown_piece _ h.0.local, more_are ns ps h.1)))

params_are : (ns : Names) (ps : List Param) → AreShown ns ps → ArePieces (params_pieces ns ps)
params_are ns [] h = (open_piece, tt)
params_are ns (p ∷ ps) h = ((value_facts p.ty h.0.typed.typed).opened, (spaced_piece p.attrs h.0.typed.attributed.kept, (shown_piece _ h.0.local, more_are ns ps h.1)))

-- the pieces of a header are pieces
pub inner_are : (ns : Names) (f : Func) → IsHeaded ns f → ArePieces (inner_pieces ns f ++ (brace ∷ []))
inner_are ns f h =
    let params : AreShown ns f.params = are_shown ns f.params h.parts.typed h.shown in
    pieces_append (inner_pieces ns f) (brace ∷ []) (
      spaced_piece f.before h.parts.in_front.kept,
      (
        (ty_facts f.ret h.parts.returned).spaced,
        (
          name_piece f.name h.parts.named,
          pieces_append (params_pieces ns f.params) (tail_pieces f.after) (params_are ns f.params params) (close_piece, (spaced_piece f.after h.parts.at_end, tt)),
        ),
      ),
    )
    (brace_piece, tt)

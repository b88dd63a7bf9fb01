-- A header as it is printed is read as it is shown.
use Rattle.std.proofs.Common.{◌≡◌, ℕ, ◌+◌, ◌-◌, ◌<◌, Bool, true, false, not, List, [], ◌∷◌, ◌++◌, length, take, drop, Option, Some, None, codes, bytes_eq, nat_eq, inl, inr, refl, sym, ◌∙◌, ap, subst, arith, length-append, append_assoc}
use Rattle.std.proofs.Math.Seq.{take-append_seam, drop-append_seam}
use Rattle.std.proofs.lemmas.Bool.Decides.{nat_tests}
use Rattle.std.proofs.lemmas.List.{append-nil, length-map}
use Rattle.std.proofs.lemmas.List.Folds.{list_all-append}
use Rattle.std.specs.Char.{is_ascii_digit}
use Rattle.std.specs.List.{concat, list_all}
use Rattle.ir_lex.specs.Bytes.{quote, begins_name, is_word_byte, is_digit, is_sigil, is_mark, is_blank, is_control}
use Rattle.ir_lex.specs.Ends.{ends_outside}
use Rattle.ir_lex.specs.Scan.{more_len, cut, texts, fault_of}
use Rattle.ir_lex.specs.Tokens.{is_name, is_number}
use Rattle.ir_lex.specs.Words.{word, words}
use Rattle.ir_lex.specs.declared.list.Token.{Token}
use Rattle.ir_lex.proofs.Again.{texts_space}
use Rattle.ir_lex.proofs.Classes.{both, either}
use Rattle.ir_lex.proofs.Standing.{fault_both, Stands, stands_whole, stands_append, Apart, words_stand}
use Rattle.ir_types.specs.declared.ty.Ty.{Ty}
use Rattle.ir_types.specs.declared.ty.Ty.TheVariants.{Void, Int, Ptr, Row}
use Rattle.ir_types.specs.declared.func.Param.{Param}
use Rattle.ir_types.specs.declared.func.Func.{Func}
use Rattle.ir_print.specs.declared.names.Local.{Local}
use Rattle.ir_print.specs.Literals.{ty_text}
use Rattle.ir_print.specs.Names.{Names}
use Rattle.ir_print.specs.Names as shown
use Rattle.ir_print.specs.Operands.{spaced, local_text}
use Rattle.ir_draft.specs.declared.line.Line.TheVariants.{Define}
use Rattle.ir_draft.specs.declared.head.Head.{Head}
use Rattle.ir_words.specs.Values.{named, plain_number, local_of, symbol_of, is_some}
use Rattle.ir_words.specs.Words.{Words, is_first, is_ascii}
use Rattle.ir_forms.specs.Pieces.{SpellsTy}
use Rattle.ir_line.specs.Keeping.{first_symbol, or_later}
use Rattle.ir_line.specs.Headers.{span, stands, is_banned, ty_len, param, param_at, params_at, last_tokens, head_of, inner, header, ends_open}
use Rattle.ir_line.specs.Outside.{Defined, read_outside}
use Rattle.ir_line.proofs.OutsideLines.{outside_read}
use Rattle.ir_forms.proofs.Steps.{bytes_is}
use Rattle.ir_read.specs.Forms.{form_by}
use Rattle.ir_types.specs.HeaderWords.{are_attributes}
use Rattle.ir_types.specs.KeptParts.{IsKeptPart, IsAttributes}
use Rattle.rf_text.proofs.Kept.Words.{are_passed, same_passed, all_ascii}
use Rattle.rf_text.specs.Headed.{is_local_name, is_returned, is_shown, IsHeaded, header_line, shown_param, shown_params, shown_head, first_name, HeaderAgain}
use Rattle.rf_text.proofs.HeadWords.{pieces_sound, pieces_stop, Parts, pieces_stand, spaced_stands, span_stands}
use Rattle.rf_text.proofs.Heads.Types.{is_quiet, TyText, ty_facts, value_facts, value_spelled}
use Rattle.ir_line.specs.CallSpelling.{SpellsRet, NoValue, Valued}
use Rattle.rf_text.proofs.Heads.Read.{words_append, ReadsParams, LastParam, MoreParams, param_reads, params_read, ty_no_close, head_reads}
use Rattle.rf_text.proofs.Heads.Printed.{more_pieces, params_pieces, tail_pieces, inner_pieces, brace, line_pieces, header_feed, inner_are, Shown, AreShown, are_shown, ShownLocal, local_is, name_texts, local_texts}
use Rattle.rf_text.proofs.Kept.Lines.{has_form}

-- ---- tokens by their words

pub one_token : (line : List ℕ) (ts : List Token) (w : List ℕ) → words line ts ≡ w ∷ [] → (t : Token) × (ts ≡ t ∷ []) × (word line t ≡ w)
one_token line [] w e = cc
one_token line (t ∷ []) w e = (t, refl, cc)
one_token line (t ∷ u ∷ ts) w e = cc

pub first_token : (line : List ℕ) (ts : List Token) (w : List ℕ) (ws : Words) → words line ts ≡ w ∷ ws → (t : Token) × (us : List Token) × (ts ≡ t ∷ us) × (word line t ≡ w) × (words line us ≡ ws)
first_token line [] w ws e = cc
first_token line (t ∷ us) w ws e = (t, us, refl, cc, cc)

-- the tokens of pieces, in front and after
pub parts_apart : (line : List ℕ) (ps qs : List (List ℕ)) (ts : List Token) → Parts line (ps ++ qs) ts → (front : List Token) × (back : List Token) × (ts ≡ front ++ back) × Parts line ps front × Parts line qs back
parts_apart line [] qs ts h = ([], ts, refl, refl, h)
parts_apart line (p ∷ ps) qs ts (one, rest, whole, stands, more) = here (parts_apart line ps qs rest more) where
  here : (front : List Token) × (back : List Token) × (rest ≡ front ++ back) × Parts line ps front × Parts line qs back → (front : List Token) × (back : List Token) × (ts ≡ front ++ back) × Parts line (p ∷ ps) front × Parts line qs back
  here (front, back, e, first, last) = (one ++ front, back, whole ∙ ap (λ (x : List Token). one ++ x) e ∙ sym (append_assoc one front back), (one, front, refl, stands, first), last)

-- ---- parameters

-- the name of a local is read as it is shown
name_no_quote : (b : ℕ) → begins_name b ≡ true → nat_eq b quote ≡ false
unfolding begins_name
name_no_quote b h = grind (arith, nat_tests)

name_no_digit : (b : ℕ) → begins_name b ≡ true → is_ascii_digit b ≡ false
unfolding begins_name
name_no_digit b h = grind (arith, nat_tests)

digit_no_quote : (b : ℕ) → is_ascii_digit b ≡ true → nat_eq b quote ≡ false
digit_no_quote b h = grind (arith, nat_tests)

plain_said : (name : List ℕ) → is_name name ≡ true → local_of (37 ∷ name) ≡ Some name
unfolding local_of named
plain_said [] h = cc
plain_said (b ∷ bs) h = let n : begins_name b ≡ true = (both (begins_name b) _ h).0 in rw (name_no_quote b n, name_no_digit b n) refl

number_said : (name : List ℕ) → is_number name ≡ true → plain_number name ≡ name → local_of (37 ∷ name) ≡ Some name
unfolding local_of named is_digit
number_said [] h e = cc
number_said (b ∷ bs) h e = let d : is_ascii_digit b ≡ true = (both (is_ascii_digit b) _ h).0 in rw (digit_no_quote b d, d, e) refl

pub local_said : (name : List ℕ) → is_local_name name ≡ true → local_of (37 ∷ name) ≡ Some name
local_said name h =
    elim (either (is_name name) _ h) [
      | inl n ↦ plain_said name n
      | inr r ↦ number_said name (both (is_number name) _ r).0 (bytes_is (plain_number name) name (both (is_number name) _ r).1)
    ]

-- the tokens of a type, of attributes and of a name are read as the parameter that is shown
param_shown : (ns : Names) (at : ℕ) (p : Param) (line : List ℕ) (attrs : List Token) (l : ShownLocal (shown.local_of p.id ns.locals)) → span line attrs ≡ p.attrs → p.noalias ≡ stands (codes "noalias") 0 (words line attrs) →
    param line at p.ty attrs (Some l.name) ≡ shown_param ns at p
param_shown ns at p line attrs l kept told = rw (kept, ← told, l.shown) refl

-- what is known of one parameter's tokens
param_token : (line : List ℕ) (ns : Names) (at : ℕ) (p : Param) (ty attrs name rest : List Token) → Shown ns p → words line ty ≡ texts (ty_text p.ty) → Stands line (spaced p.attrs) attrs →
    Stands line (32 ∷ local_text (shown.local_of p.id ns.locals)) name → param_at line at (ty ++ (attrs ++ (name ++ rest))) ≡ Some (shown_param ns at p, rest)
param_token line ns at p ty attrs name rest s typed stand called = here (one_token line name (37 ∷ l.name) (words_stand called ∙ ap (λ (x : List ℕ). texts (32 ∷ x)) l.text ∙ local_texts l.name l.is_name)) where
  l : ShownLocal (shown.local_of p.id ns.locals)
  l = local_is (shown.local_of p.id ns.locals) s.local

  here : (t : Token) × (name ≡ t ∷ []) × (word line t ≡ 37 ∷ l.name) → param_at line at (ty ++ (attrs ++ (name ++ rest))) ≡ Some (shown_param ns at p, rest)
  here (t, one, said) =
      let a : IsAttributes p.noalias p.attrs = s.typed.attributed in
      let alone : Stands line p.attrs attrs = spaced_stands p.attrs stand in
      let same : words line attrs ≡ texts p.attrs = words_stand alone in
      let spelled : SpellsTy p.ty (words line ty) [] = subst (λ (x : Words). SpellsTy p.ty x []) (sym typed) (value_spelled p.ty s.typed.typed) in
      let size : length ty ≡ ty_len p.ty = sym (length-map ty (word line)) ∙ ap length typed ∙ (value_facts p.ty s.typed.typed).size in
      let read : param_at line at (ty ++ (attrs ++ (t ∷ rest))) ≡ Some (param line at p.ty attrs (Some l.name), rest) =
      param_reads line at p.ty ty attrs t rest l.name spelled size (ap (are_attributes 0) same ∙ a.attributes) (ap is_banned same ∙ a.allowed) (ap local_of said ∙ local_said l.name l.is_name) in
      ap (λ (x : List Token). param_at line at (ty ++ (attrs ++ (x ++ rest)))) one ∙ read
      ∙ ap (λ (x : Param). Some (x, rest)) (param_shown ns at p line attrs l (span_stands alone ∙ a.kept.tight) (a.told ∙ ap (stands (codes "noalias") 0) (sym same)))

-- parameters that are read up to their parenthesis, with what stands after it
record ReadTo (line : List ℕ) (at : ℕ) (ps : List Param) (ts : List Token) (after : List ℕ) : Type 0 where
  rest : List Token
  read : ReadsParams line at ps ts rest
  stands : Stands line (spaced after) rest

-- the tokens after the parameters
record Closed (line : List ℕ) (ts : List Token) (after : List ℕ) : Type 0 where
  close : Token
  rest : List Token
  whole : ts ≡ close ∷ rest
  is_close : word line close ≡ codes ")"
  stands : Stands line (spaced after) rest

close_texts : texts (41 ∷ []) ≡ codes ")" ∷ []
unfolding texts more_len is_sigil is_mark is_word_byte begins_name is_blank
close_texts = refl

tail_closed : (line : List ℕ) (ts : List Token) (after : List ℕ) → Parts line (tail_pieces after) ts → Closed line ts after
tail_closed line ts after (c, r, whole, close, (a, r2, whole2, stand, none)) = here (one_token line c (codes ")") (words_stand close ∙ close_texts)) where
  here : (t : Token) × (c ≡ t ∷ []) × (word line t ≡ codes ")") → Closed line ts after
  here (t, one, said) = record {
    close = t;
    rest = a;
    whole = whole ∙ ap (λ (x : List Token). x ++ r) one ∙ ap (λ (x : List Token). t ∷ x) (whole2 ∙ ap (λ (x : List Token). a ++ x) none ∙ append-nil a);
    is_close = said;
    stands = stand;
  }

params_tokens : (line : List ℕ) (ns : Names) (after : List ℕ) (at : ℕ) (p : Param) (ps : List Param) (ty ts : List Token) → Shown ns p → AreShown ns ps → words line ty ≡ texts (ty_text p.ty) →
    Parts line (spaced p.attrs ∷ (32 ∷ local_text (shown.local_of p.id ns.locals)) ∷ (more_pieces ns ps ++ tail_pieces after)) ts → ReadTo line at (shown_params ns at (p ∷ ps)) (ty ++ ts) after
params_tokens line ns after at p [] ty ts s ss typed (attrs, r, e, stand, (name, r2, e2, called, more)) =
    let c : Closed line r2 after = tail_closed line r2 after more in
    let whole : ty ++ ts ≡ ty ++ (attrs ++ (name ++ (c.close ∷ c.rest))) = ap (λ (x : List Token). ty ++ x) (e ∙ ap (λ (x : List Token). attrs ++ x) (e2 ∙ ap (λ (x : List Token). name ++ x) c.whole)) in
    let some : 0 < length (ty ++ (attrs ++ (name ++ (c.close ∷ c.rest)))) = omega (arith, length-append ty (attrs ++ (name ++ (c.close ∷ c.rest))), length-append attrs (name ++ (c.close ∷ c.rest)), length-append name (c.close ∷ c.rest)) in
    record {
      rest = c.rest;
      read = subst (λ (x : List Token). ReadsParams line at (shown_param ns at p ∷ []) x c.rest) (sym whole)
          (LastParam at (shown_param ns at p) (ty ++ (attrs ++ (name ++ (c.close ∷ c.rest)))) c.close c.rest (param_token line ns at p ty attrs name (c.close ∷ c.rest) s typed stand called) c.is_close some);
      stands = c.stands;
    }
params_tokens line ns after at p (q ∷ qs) ty ts s ss typed (attrs, r, e, stand, (name, r2, e2, called, (comma, r3, e3, listed, more))) =
    here (first_token line comma (codes ",") (texts (ty_text q.ty)) (words_stand listed ∙ (value_facts q.ty ss.0.typed.typed).listed_words)) (λ us typed2. params_tokens line ns after (at + 1) q qs us r3 ss.0 ss.1 typed2 more) where
      here : (c : Token) × (us : List Token) × (comma ≡ c ∷ us) × (word line c ≡ codes ",") × (words line us ≡ texts (ty_text q.ty)) →
          ((us : List Token) → words line us ≡ texts (ty_text q.ty) → ReadTo line (at + 1) (shown_params ns (at + 1) (q ∷ qs)) (us ++ r3) after) → ReadTo line at (shown_params ns at (p ∷ q ∷ qs)) (ty ++ ts) after
      here (c, us, one, said, typed2) next =
          let n : ReadTo line (at + 1) (shown_params ns (at + 1) (q ∷ qs)) (us ++ r3) after = next us typed2 in
          let past : r2 ≡ c ∷ (us ++ r3) = e3 ∙ ap (λ (x : List Token). x ++ r3) one in
          let rest : List Token = c ∷ (us ++ r3) in
          let whole : ty ++ ts ≡ ty ++ (attrs ++ (name ++ rest)) = ap (λ (x : List Token). ty ++ x) (e ∙ ap (λ (x : List Token). attrs ++ x) (e2 ∙ ap (λ (x : List Token). name ++ x) past)) in
          let less : length (us ++ r3) < length (ty ++ (attrs ++ (name ++ rest))) = omega (arith, length-append ty (attrs ++ (name ++ rest)), length-append attrs (name ++ rest), length-append name rest) in
          record {
            rest = n.rest;
            read = subst (λ (x : List Token). ReadsParams line at (shown_params ns at (p ∷ q ∷ qs)) x n.rest) (sym whole)
                (MoreParams at (shown_param ns at p) (shown_params ns (at + 1) (q ∷ qs)) (ty ++ (attrs ++ (name ++ rest))) c (us ++ r3) n.rest (param_token line ns at p ty attrs name rest s typed stand called) said less n.read);
            stands = n.stands;
          }

-- the parameters after their parenthesis
record Opened (line : List ℕ) (ps : List Param) (ts : List Token) (after : List ℕ) : Type 0 where
  open_paren : Token
  inside : List Token
  rest : List Token
  whole : ts ≡ open_paren ∷ inside
  is_open : word line open_paren ≡ codes "("
  read : params_at line inside ≡ Some (ps, rest)
  stands : Stands line (spaced after) rest

open_texts : texts (40 ∷ []) ≡ codes "(" ∷ []
unfolding texts more_len is_sigil is_mark is_word_byte begins_name is_blank
open_texts = refl

params_opened : (line : List ℕ) (ns : Names) (after : List ℕ) (ps : List Param) (ts : List Token) → AreShown ns ps → Parts line (params_pieces ns ps ++ tail_pieces after) ts → Opened line (shown_params ns 0 ps) ts after
unfolding params_at
params_opened line ns after [] ts s (o, r, e, opened, more) = here (one_token line o (codes "(") (words_stand opened ∙ open_texts)) where
  here : (t : Token) × (o ≡ t ∷ []) × (word line t ≡ codes "(") → Opened line [] ts after
  here (t, one, said) =
      let c : Closed line r after = tail_closed line r after more in
      record {
        open_paren = t;
        inside = c.close ∷ c.rest;
        rest = c.rest;
        whole = e ∙ ap (λ (x : List Token). x ++ r) one ∙ ap (λ (x : List Token). t ∷ x) c.whole;
        is_open = said;
        read = rw c.is_close refl;
        stands = c.stands;
      }
params_opened line ns after (p ∷ ps) ts s (o, r, e, opened, more) = here (first_token line o (codes "(") (texts (ty_text p.ty)) (words_stand opened ∙ (value_facts p.ty s.0.typed.typed).opened_words)) where
  here : (t : Token) × (us : List Token) × (o ≡ t ∷ us) × (word line t ≡ codes "(") × (words line us ≡ texts (ty_text p.ty)) → Opened line (shown_params ns 0 (p ∷ ps)) ts after
  here (t, us, one, said, typed) =
      let n : ReadTo line 0 (shown_params ns 0 (p ∷ ps)) (us ++ r) after = params_tokens line ns after 0 p ps us r s.0 s.1 typed more in
      let spelled : SpellsTy p.ty (words line us) [] = subst (λ (x : Words). SpellsTy p.ty x []) (sym typed) (value_spelled p.ty s.0.typed.typed) in
      let other : is_first (codes ")") (words line (us ++ r)) ≡ false = ap (is_first (codes ")")) (words_append line us r) ∙ ty_no_close spelled (words line r) in
      record {
        open_paren = t;
        inside = us ++ r;
        rest = n.rest;
        whole = e ∙ ap (λ (x : List Token). x ++ r) one;
        is_open = said;
        read = params_read line (shown_params ns 0 (p ∷ ps)) (us ++ r) n.rest other n.read;
        stands = n.stands;
      }

-- ---- the whole

void_spelled : SpellsRet Void (texts (ty_text Void))
unfolding texts more_len is_sigil is_mark is_word_byte begins_name is_blank
void_spelled = NoValue

ret_spelled : (t : Ty) → is_returned t ≡ true → SpellsRet t (texts (ty_text t))
ret_spelled Void h = void_spelled
ret_spelled (Int w) h = Valued (Int w) _ (value_spelled (Int w) h)
ret_spelled Ptr h = Valued Ptr _ (value_spelled Ptr h)
ret_spelled (Row n w) h = Valued (Row n w) _ (value_spelled (Row n w) h)

later_none : (found : Option (List ℕ)) → or_later found None ≡ found
later_none None = refl
later_none (Some name) = refl

later_apart : (a b c : Option (List ℕ)) → or_later (or_later a b) c ≡ or_later a (or_later b c)
later_apart None b c = refl
later_apart (Some name) b c = refl

-- the first plain symbol of words is that of the first of two parts, else that of the second
pub symbol_append : (ws us : Words) → first_symbol (ws ++ us) ≡ or_later (first_symbol ws) (first_symbol us)
symbol_append [] us = refl
symbol_append (w ∷ ws) us = ap (or_later (symbol_of w)) (symbol_append ws us) ∙ sym (later_apart (symbol_of w) (first_symbol ws) (first_symbol us))

none_of : (o : Option (List ℕ)) → is_some o ≡ false → o ≡ None
none_of None h = refl
none_of (Some name) h = cc

no_from : (b : Bool) → not b ≡ true → b ≡ false
no_from true h = cc
no_from false h = refl

pub quiet_symbol : (qs : Words) → list_all is_quiet qs ≡ true → first_symbol qs ≡ None
quiet_symbol [] h = refl
quiet_symbol (q ∷ qs) h =
    let one : is_quiet q ≡ true = (both (is_quiet q) _ h).0 in
    let last : not (is_some (symbol_of q)) ≡ true = (both (not (bytes_eq q (codes ")"))) _ (both (not (bytes_eq q (codes "("))) _ one).1).1 in
    rw (none_of (symbol_of q) (no_from _ last)) (quiet_symbol qs (both (is_quiet q) _ h).1)

symbol_said : (name : List ℕ) → is_name name ≡ true → symbol_of (64 ∷ name) ≡ Some name
unfolding symbol_of
symbol_said [] h = cc
symbol_said (b ∷ bs) h = rw (name_no_quote b (both (begins_name b) _ h).0) refl

-- what is read between `define` and the last brace
record Inner (ns : Names) (f : Func) (line : List ℕ) (ts : List Token) : Type 0 where
  head : head_of line ts ≡ Some (shown_head ns f)
  symbol : first_symbol (words line ts) ≡ first_name f

inner_read : (ns : Names) (f : Func) (line : List ℕ) (ts : List Token) → IsHeaded ns f → Parts line (inner_pieces ns f) ts → Inner ns f line ts
inner_read ns f line ts h (before, r, e, in_front, (ty, r2, e2, typed, (name, r3, e3, called, more))) =
    here (one_token line name (64 ∷ f.name) (words_stand called ∙ name_texts f.name h.parts.named)) where
      here : (n : Token) × (name ≡ n ∷ []) × (word line n ≡ 64 ∷ f.name) → Inner ns f line ts
      here (n, one, said) =
          let o : Opened line (shown_params ns 0 f.params) r3 f.after = params_opened line ns f.after f.params r3 (are_shown ns f.params h.parts.typed h.shown) more in
          let first : Stands line f.before before = spaced_stands f.before in_front in
          let last : Stands line f.after o.rest = spaced_stands f.after o.stands in
          let before_words : words line before ≡ texts f.before = words_stand first in
          let ty_words : words line ty ≡ texts (ty_text f.ret) = words_stand typed ∙ texts_space (ty_text f.ret) in
          let t : TyText f.ret = ty_facts f.ret h.parts.returned in
          let quiet : list_all is_quiet (words line ty) ≡ true = ap (list_all is_quiet) ty_words ∙ t.quiet in
          let size : length ty ≡ ty_len f.ret = sym (length-map ty (word line)) ∙ ap length ty_words ∙ t.size in
          let whole : ts ≡ before ++ (ty ++ (n ∷ o.open_paren ∷ o.inside)) =
          e ∙ ap (λ (x : List Token). before ++ x) (e2 ∙ ap (λ (x : List Token). ty ++ x) (e3 ∙ ap (λ (x : List Token). x ++ r3) one ∙ ap (λ (x : List Token). n ∷ x) o.whole)) in
          let symbol : symbol_of (word line n) ≡ Some f.name = ap symbol_of said ∙ symbol_said f.name h.parts.named in
          let read : head_of line (before ++ (ty ++ (n ∷ o.open_paren ∷ o.inside))) ≡ Some (record { before = span line before; ret = f.ret; name = f.name; params = shown_params ns 0 f.params; after = span line o.rest }) =
          head_reads line before ty n o.open_paren o.inside o.rest f.ret f.name (shown_params ns 0 f.params) (ap (are_passed 0) before_words ∙ sym (same_passed 0 (texts f.before)) ∙ h.parts.in_front.passed) quiet
          (subst (SpellsRet f.ret) (sym ty_words) (ret_spelled f.ret h.parts.returned)) size symbol o.is_open o.read in
          let kept_before : span line before ≡ f.before = span_stands first ∙ h.parts.in_front.kept.tight in
          let kept_after : span line o.rest ≡ f.after = span_stands last ∙ h.parts.at_end.tight in
          let rest : Words = word line n ∷ words line (o.open_paren ∷ o.inside) in
          let rest_symbol : first_symbol rest ≡ Some f.name = rw symbol refl in
          let all_words : words line (before ++ (ty ++ (n ∷ o.open_paren ∷ o.inside))) ≡ words line before ++ (words line ty ++ rest) =
          words_append line before (ty ++ (n ∷ o.open_paren ∷ o.inside)) ∙ ap (λ (x : Words). words line before ++ x) (words_append line ty (n ∷ o.open_paren ∷ o.inside)) in
          record {
            head = ap (head_of line) whole ∙ read ∙ rw (kept_before, kept_after) refl;
            symbol =
                ap (λ (x : List Token). first_symbol (words line x)) whole ∙ ap first_symbol all_words ∙ symbol_append (words line before) (words line ty ++ rest)
                ∙ ap (λ (x : Words). or_later (first_symbol x) (first_symbol (words line ty ++ rest))) before_words
                ∙ ap (or_later (first_symbol (texts f.before))) (symbol_append (words line ty) rest ∙ ap (λ (x : Option (List ℕ)). or_later x (first_symbol rest)) (quiet_symbol (words line ty) quiet) ∙ rest_symbol);
          }

-- no word of a header begins with a byte of 128 or above
abbrev AreAscii : List (List ℕ) → Type 0
AreAscii [] = Unit {0}
AreAscii (p ∷ ps) = (list_all is_ascii (texts p) ≡ true) × AreAscii ps

ascii_append : (ps qs : List (List ℕ)) → AreAscii ps → AreAscii qs → AreAscii (ps ++ qs)
ascii_append [] qs h k = k
ascii_append (p ∷ ps) qs h k = (h.0, ascii_append ps qs h.1 k)

parts_ascii : (line : List ℕ) (ps : List (List ℕ)) (ts : List Token) → Parts line ps ts → AreAscii ps → list_all is_ascii (words line ts) ≡ true
parts_ascii line [] ts e h = ap (λ (x : List Token). list_all is_ascii (words line x)) e
parts_ascii line (p ∷ ps) ts (front, back, e, stand, more) h =
    let first : list_all is_ascii (words line front) ≡ true = ap (list_all is_ascii) (words_stand stand) ∙ h.0 in
    ap (λ (x : List Token). list_all is_ascii (words line x)) e ∙ ap (list_all is_ascii) (words_append line front back) ∙ list_all-append is_ascii (words line front) (words line back)
    ∙ rw (first, parts_ascii line ps back more h.1) refl

spaced_ascii : (part : List ℕ) → IsKeptPart part → list_all is_ascii (texts (spaced part)) ≡ true
spaced_ascii [] k = sym (all_ascii (texts [])) ∙ k.ascii
spaced_ascii (b ∷ bs) k = ap (list_all is_ascii) (texts_space (b ∷ bs)) ∙ sym (all_ascii (texts (b ∷ bs))) ∙ k.ascii

local_ascii : (l : Option Local) → is_shown l ≡ true → list_all is_ascii (texts (32 ∷ local_text l)) ≡ true
local_ascii l h = let s : ShownLocal l = local_is l h in ap (λ (x : List ℕ). list_all is_ascii (texts (32 ∷ x))) s.text ∙ ap (list_all is_ascii) (local_texts s.name s.is_name)

more_ascii : (ns : Names) (ps : List Param) → AreShown ns ps → AreAscii (more_pieces ns ps)
more_ascii ns [] h = tt
more_ascii ns (p ∷ ps) h =
    let t : TyText p.ty = value_facts p.ty h.0.typed.typed in
    (ap (list_all is_ascii) t.listed_words ∙ t.ascii, (spaced_ascii p.attrs h.0.typed.attributed.kept, (local_ascii _ h.0.local, more_ascii ns ps h.1)))

params_ascii : (ns : Names) (ps : List Param) → AreShown ns ps → AreAscii (params_pieces ns ps)
params_ascii ns [] h = (ap (list_all is_ascii) open_texts, tt)
params_ascii ns (p ∷ ps) h =
    let t : TyText p.ty = value_facts p.ty h.0.typed.typed in
    (ap (list_all is_ascii) t.opened_words ∙ t.ascii, (spaced_ascii p.attrs h.0.typed.attributed.kept, (local_ascii _ h.0.local, more_ascii ns ps h.1)))

inner_ascii : (ns : Names) (f : Func) → IsHeaded ns f → AreAscii (inner_pieces ns f)
inner_ascii ns f h =
    let t : TyText f.ret = ty_facts f.ret h.parts.returned in (
      spaced_ascii f.before h.parts.in_front.kept,
      (
        ap (list_all is_ascii) (texts_space (ty_text f.ret)) ∙ t.ascii,
        (
          ap (list_all is_ascii) (name_texts f.name h.parts.named),
          ascii_append (params_pieces ns f.params) (tail_pieces f.after) (params_ascii ns f.params (are_shown ns f.params h.parts.typed h.shown)) (ap (list_all is_ascii) close_texts, (spaced_ascii f.after h.parts.at_end, tt)),
        ),
      ),
    )

define_texts : texts (codes "define") ≡ codes "define" ∷ []
unfolding texts more_len is_sigil is_mark is_word_byte begins_name is_blank
define_texts = refl

define_sound : fault_of (codes "define") ≡ None
unfolding is_control
define_sound = refl

define_ends : ends_outside (codes "define") ≡ true
unfolding ends_outside
define_ends = refl

brace_texts : texts brace ≡ codes "{" ∷ []
unfolding texts more_len is_sigil is_mark is_word_byte begins_name is_blank
brace_texts = refl

no_define : symbol_of (codes "define") ≡ None
unfolding symbol_of
no_define = refl

no_brace : symbol_of (codes "{") ≡ None
unfolding symbol_of
no_brace = refl

-- a line of `define`, what was read, and a brace
defined : (line : List ℕ) (d : Token) (ts : List Token) (b : Token) (head : Head) (name : Option (List ℕ)) → word line d ≡ codes "define" → word line b ≡ codes "{" → list_all is_ascii (words line ts) ≡ true →
    head_of line ts ≡ Some head → first_symbol (words line ts) ≡ name → read_outside line (d ∷ (ts ++ (b ∷ []))) ≡ Some (Define name (Some head))
unfolding header
defined line d ts b head name start end ascii read symbol =
    let all : List Token = d ∷ (ts ++ (b ∷ [])) in
    let size : length all - 1 ≡ length (d ∷ ts) = omega (arith, length-append ts (b ∷ [])) in
    let last : last_tokens 1 all ≡ b ∷ [] = ap (λ (n : ℕ). drop n all) size ∙ drop-append_seam (d ∷ ts) (b ∷ []) in
    let opens : ends_open line all ≡ true = ap (λ (x : List Token). is_first (codes "{") (words line x)) last ∙ rw end refl in
    let starts : is_first (codes "define") (words line all) ≡ true = rw start refl in
    let short : length all - 2 ≡ length ts = omega (arith, length-append ts (b ∷ [])) in
    let middle : inner all ≡ ts = ap (λ (n : ℕ). take n (ts ++ (b ∷ []))) short ∙ take-append_seam ts (b ∷ []) in
    let all_ascii : list_all is_ascii (words line all) ≡ true =
    rw (start) (ap (list_all is_ascii) (words_append line ts (b ∷ [])) ∙ list_all-append is_ascii (words line ts) (words line (b ∷ [])) ∙ rw (ascii, end) refl) in
    let made : header line all ≡ Some head = rw (all_ascii) (ap (head_of line) middle ∙ read) in
    let brace_symbol : symbol_of (word line b) ≡ None = ap symbol_of end ∙ no_brace in
    let named : first_symbol (words line all) ≡ name =
    rw (start, no_define) (ap first_symbol (words_append line ts (b ∷ [])) ∙ symbol_append (words line ts) (words line (b ∷ [])) ∙ rw brace_symbol (later_none (first_symbol (words line ts)) ∙ symbol)) in
    outside_read line all (Defined starts opens) ∙ rw (named, made) refl

pub header_again : (ns : Names) (f : Func) → IsHeaded ns f → HeaderAgain ns f
unfolding form_by
header_again ns f h = record { text = header_feed ns f; form = has_form false line (Define (first_name f) (Some (shown_head ns f))) (record { sound = sound; read = read }) } where
  line : List ℕ
  line = header_line ns f

  rest : List ℕ
  rest = concat (inner_pieces ns f ++ (brace ∷ []))

  sound : fault_of line ≡ None
  sound = subst (λ (x : List ℕ). fault_of x ≡ None) (sym (line_pieces ns f)) (fault_both (codes "define") rest define_sound define_ends (pieces_sound (inner_pieces ns f ++ (brace ∷ [])) (inner_are ns f h)))

  apart : Apart line (codes "define") rest (cut line)
  apart =
      stands_append (codes "define") rest define_sound define_ends (pieces_stop (inner_pieces ns f ++ (brace ∷ [])) (inner_are ns f h))
      (subst (λ (x : List ℕ). Stands line x (cut line)) (line_pieces ns f) (stands_whole line))

  braced : (d : Token) (ts us : List Token) → word line d ≡ codes "define" → cut line ≡ d ∷ (ts ++ us) → Parts line (inner_pieces ns f) ts → Parts line (brace ∷ []) us → read_outside line (cut line) ≡ Some (Define (first_name f) (Some (shown_head ns f)))
  braced d ts us start whole parts (b, r, e, stand, none) = here (one_token line b (codes "{") (words_stand stand ∙ brace_texts)) where
    here : (t : Token) × (b ≡ t ∷ []) × (word line t ≡ codes "{") → read_outside line (cut line) ≡ Some (Define (first_name f) (Some (shown_head ns f)))
    here (t, one, end) =
        let i : Inner ns f line ts = inner_read ns f line ts h parts in
        let last : us ≡ t ∷ [] = e ∙ ap (λ (x : List Token). x ++ r) one ∙ ap (λ (x : List Token). t ∷ x) none in
        ap (read_outside line) (whole ∙ ap (λ (x : List Token). d ∷ (ts ++ x)) last)
        ∙ defined line d ts t (shown_head ns f) (first_name f) start end (parts_ascii line (inner_pieces ns f) ts parts (inner_ascii ns f h)) i.head i.symbol

  started : (d : Token) × (apart.front ≡ d ∷ []) × (word line d ≡ codes "define") →
      (front : List Token) × (back : List Token) × (apart.back ≡ front ++ back) × Parts line (inner_pieces ns f) front × Parts line (brace ∷ []) back → read_outside line (cut line) ≡ Some (Define (first_name f) (Some (shown_head ns f)))
  started (d, one, start) (ts, us, e, parts, last) =
      braced d ts us start (apart.whole ∙ ap (λ (x : List Token). x ++ apart.back) one ∙ ap (λ (x : List Token). d ∷ x) e) parts last

  read : read_outside line (cut line) ≡ Some (Define (first_name f) (Some (shown_head ns f)))
  read =
      started (one_token line apart.front (codes "define") (words_stand apart.one ∙ define_texts))
      (parts_apart line (inner_pieces ns f) (brace ∷ []) apart.back (pieces_stand line (inner_pieces ns f ++ (brace ∷ [])) apart.back (inner_are ns f h) apart.other))

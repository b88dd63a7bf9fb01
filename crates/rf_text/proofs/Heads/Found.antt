-- What a header that is read is: its parts stand from one token to another in its line, and so are parts that may be kept.
use Rattle.std.proofs.Common.{◌≡◌, ℕ, suc, zero, ◌+◌, ◌-◌, ◌≤◌, ◌<◌, ◌==◌, Bool, true, false, cond, not, ◌&&◌, ◌||◌, List, [], ◌∷◌, ◌++◌, length, take, drop, Option, Some, None, codes, bytes_eq, nat_eq, refl, sym, ◌∙◌, ap, subst, arith, eqb-true, length-take, length-drop, append_assoc}
use Rattle.std.proofs.lemmas.Bool.Decides.{nat_tests}
use Rattle.std.proofs.lemmas.List.{append-nil, take-append-drop, length-map, take-map}
use Rattle.std.proofs.lemmas.List.Folds.{list_all-append}
use Rattle.std.specs.Char.{is_ascii_digit}
use Rattle.std.specs.List.{All, list_all}
use Rattle.ir_lex.specs.Bytes.{quote, begins_name, is_word_byte, is_digit, is_mark}
use Rattle.ir_lex.specs.Ends.{ends_outside}
use Rattle.ir_lex.specs.Scan.{cut, texts, fault_of}
use Rattle.ir_lex.specs.Tokens.{IsToken, Name, QuotedName, Unnamed, Text, Mark, Run, Single, is_name, is_number}
use Rattle.ir_lex.specs.Words.{word, words}
use Rattle.ir_lex.specs.declared.list.Token.{Token}
use Rattle.ir_lex.proofs.Classes.{both, clash}
use Rattle.ir_lex.proofs.Laws.{words_of_line}
use Rattle.ir_lex.proofs.Standing.{last_end, Between, between_tokens, words_stand, AreWords, texts_are}
use Rattle.ir_types.specs.declared.ty.Ty.{Ty}
use Rattle.ir_types.specs.declared.func.Param.{Param}
use Rattle.ir_types.specs.Typed.{is_value}
use Rattle.ir_draft.specs.declared.head.Head.{Head}
use Rattle.ir_words.specs.Values.{plain_number, unquoted, named, local_of, symbol_of, is_some}
use Rattle.ir_words.specs.Words.{Words, one, is_first, is_ascii}
use Rattle.ir_forms.specs.Pieces.{Says}
use Rattle.ir_words.specs.Reading.{ty_at}
use Rattle.ir_line.specs.Headers.{last_to, span, depth_after, goes_on, attrs_len, stands, is_banned, ty_len, name_of, after_name, param, attributed, param_at, params_within, params_at, is_callee, name_from, ret_of, head_of, inner, header}
use Rattle.ir_forms.proofs.Parts.{ty_taken}
use Rattle.ir_forms.proofs.Steps.{nothing, some_is, bind_then, cond_then, one_says, bytes_same}
use Rattle.ir_draft.specs.declared.line.Line.{Line}
use Rattle.ir_draft.specs.declared.line.Line.TheVariants as line
use Rattle.ir_line.specs.Outside.{Spells, NoWord, KeptLine, Defined}
use Rattle.ir_line.proofs.OutsideLines.{outside_spelled}
use Rattle.ir_read.specs.Forms.{form_in, form_by}
use Rattle.ir_types.specs.HeaderWords.{are_attributes}
use Rattle.ir_types.specs.KeptParts.{IsKeptPart, IsBefore}
use Rattle.rf_text.proofs.Kept.Words.{are_passed, same_passed, all_ascii}
use Rattle.rf_text.specs.Headed.{is_local_name, is_returned, IsParam, is_written, IsHead}
use Rattle.rf_text.proofs.Kept.Lines.{Formed, formed}
use Rattle.rf_text.proofs.HeadWords.{span_stands}
use Rattle.ir_line.proofs.Returns.{ret_is, ret_size, Ends, ret_ends}
use Rattle.rf_text.proofs.Heads.Read.{words_append, callee_front, passed_front}
use Rattle.rf_text.proofs.Heads.Typed.{spelled_value, ret_quiet, ret_returned}

-- ---- tokens that stand one after the other in a line

-- tokens of a line without a fault, none of which begins with a byte of 128 or above, in one run
pub record TokenRun (line : List ℕ) (ts : List Token) : Type 0 where
  pub front : List Token
  pub back : List Token
  pub whole : cut line ≡ front ++ (ts ++ back)
  pub sound : fault_of line ≡ None
  pub ascii : list_all is_ascii (words line (cut line)) ≡ true

pub run_first : {line : List ℕ} (ts us : List Token) → TokenRun line (ts ++ us) → TokenRun line ts
run_first ts us r = record { front = r.front; back = us ++ r.back; whole = r.whole ∙ ap (λ (x : List Token). r.front ++ x) (append_assoc ts us r.back); sound = r.sound; ascii = r.ascii }

pub run_second : {line : List ℕ} (ts us : List Token) → TokenRun line (ts ++ us) → TokenRun line us
run_second ts us r = record {
  front = r.front ++ ts;
  back = r.back;
  whole = r.whole ∙ ap (λ (x : List Token). r.front ++ x) (append_assoc ts us r.back) ∙ sym (append_assoc r.front ts (us ++ r.back));
  sound = r.sound;
  ascii = r.ascii;
}

pub run_take : {line : List ℕ} (n : ℕ) (ts : List Token) → TokenRun line ts → TokenRun line (take n ts)
run_take {line} n ts r = run_first (take n ts) (drop n ts) (subst (TokenRun line) (sym (take-append-drop n ts)) r)

pub run_drop : {line : List ℕ} (n : ℕ) (ts : List Token) → TokenRun line ts → TokenRun line (drop n ts)
run_drop {line} n ts r = run_second (take n ts) (drop n ts) (subst (TokenRun line) (sym (take-append-drop n ts)) r)

-- its words are tokens, and begin with ASCII

pub words_front : (ws us : Words) → AreWords (ws ++ us) → AreWords ws
words_front [] us h = tt
words_front ([] ∷ ws) us h = h
words_front ((b ∷ bs) ∷ ws) us h = (h.0, words_front ws us h.1)

words_back : (ws us : Words) → AreWords (ws ++ us) → AreWords us
words_back [] us h = h
words_back ([] ∷ ws) us h = absurd h
words_back ((b ∷ bs) ∷ ws) us h = words_back ws us h.1

pub run_words : {line : List ℕ} (ts : List Token) → TokenRun line ts → AreWords (words line ts)
run_words {line} ts r =
    let all : AreWords (words line (cut line)) = subst AreWords (sym (words_of_line line)) (texts_are line) in
    let apart : words line (cut line) ≡ words line r.front ++ (words line ts ++ words line r.back) =
    ap (words line) r.whole ∙ words_append line r.front (ts ++ r.back) ∙ ap (λ (x : Words). words line r.front ++ x) (words_append line ts r.back) in
    words_front (words line ts) (words line r.back) (words_back (words line r.front) (words line ts ++ words line r.back) (subst AreWords apart all))

run_ascii : {line : List ℕ} (ts : List Token) → TokenRun line ts → list_all is_ascii (words line ts) ≡ true
run_ascii {line} ts r =
    let apart : words line (cut line) ≡ words line r.front ++ (words line ts ++ words line r.back) =
    ap (words line) r.whole ∙ words_append line r.front (ts ++ r.back) ∙ ap (λ (x : Words). words line r.front ++ x) (words_append line ts r.back) in
    let all : list_all is_ascii (words line r.front ++ (words line ts ++ words line r.back)) ≡ true = subst (λ (x : Words). list_all is_ascii x ≡ true) apart r.ascii in
    let later : list_all is_ascii (words line ts ++ words line r.back) ≡ true =
    (both (list_all is_ascii (words line r.front)) _ (sym (list_all-append is_ascii (words line r.front) (words line ts ++ words line r.back)) ∙ all)).1 in
    (both (list_all is_ascii (words line ts)) _ (sym (list_all-append is_ascii (words line ts) (words line r.back)) ∙ later)).0

-- the bytes from the first to the last of them may be kept, and alone have their words
pub record KeptRun (line : List ℕ) (ts : List Token) : Type 0 where
  pub kept : IsKeptPart (span line ts)
  pub same : texts (span line ts) ≡ words line ts

end_last : (to : ℕ) (ts : List Token) → last_end to ts ≡ last_to to ts
end_last to [] = refl
end_last to (t ∷ ts) = end_last t.to ts

pub run_kept : {line : List ℕ} (ts : List Token) → TokenRun line ts → KeptRun line ts
unfolding texts cut ends_outside
run_kept [] r = record { kept = record { sound = refl; ends = refl; tight = refl; ascii = refl }; same = refl }
run_kept {line} (t ∷ ts) r =
    let b : Between line (word line (record { from = t.from; to = last_end t.to ts })) (t ∷ ts) = between_tokens line r.front t ts r.back r.sound r.whole in
    let p : Between line (span line (t ∷ ts)) (t ∷ ts) = subst (λ (n : ℕ). Between line (word line (record { from = t.from; to = n })) (t ∷ ts)) (end_last t.to ts) b in
    let same : words line (t ∷ ts) ≡ texts (span line (t ∷ ts)) = words_stand p.stands in
    record {
      kept = record { sound = p.sound; ends = p.ends; tight = sym (span_stands p.stands); ascii = all_ascii (texts (span line (t ∷ ts))) ∙ ap (list_all is_ascii) (sym same) ∙ run_ascii (t ∷ ts) r };
      same = sym same;
    }

-- ---- names

-- the plain name of a symbol
pub symbol_name : (w name : List ℕ) → AreWords (w ∷ []) → symbol_of w ≡ Some name → is_name name ≡ true
unfolding symbol_of is_mark is_word_byte begins_name
symbol_name [] name h e = nothing e
symbol_name (b ∷ bs) name h e = here (nat_eq b 64) refl e where
  token : (c : ℕ) (cs : List ℕ) → nat_eq c quote ≡ false → IsToken 64 (c ∷ cs) → is_name (c ∷ cs) ≡ true
  token c cs q (Name s n) = n
  token c cs q (QuotedName s t) = clash (c == quote) q (both (c == quote) _ t).0
  token c cs q (Unnamed e n) = absurd (omega (arith, e))
  token c cs q (Text t) = cc
  token c cs q (Mark t n) = cc
  token c cs q (Run t) = cc
  token c cs q (Single t) = cc

  unquoted_name : (bs : List ℕ) → IsToken 64 bs → unquoted bs ≡ Some name → is_name name ≡ true
  unquoted_name [] t e = nothing e
  unquoted_name (c ∷ cs) t e = cond_then (nat_eq c quote) None (Some (c ∷ cs)) (Some name) e (λ q none. nothing none) (λ q same. subst (λ (x : List ℕ). is_name x ≡ true) (some_is same) (token c cs q t))

  here : (t : Bool) → nat_eq b 64 ≡ t → cond t (unquoted bs) None ≡ Some name → is_name name ≡ true
  here true s e = unquoted_name bs (subst (λ (x : ℕ). IsToken x bs) (eqb-true b 64 s) h.0) e
  here false s e = nothing e

-- a number without its leading zeros
plain_digits : (d : ℕ) (ds : List ℕ) → is_number (d ∷ ds) ≡ true → is_number (plain_number (d ∷ ds)) ≡ true
plain_digits d [] h = h
plain_digits d (e ∷ ds) h = here (nat_eq d 48) (plain_digits e ds (both (is_digit d) _ h).1) where
  here : (t : Bool) → is_number (plain_number (e ∷ ds)) ≡ true → is_number (cond t (plain_number (e ∷ ds)) (d ∷ e ∷ ds)) ≡ true
  here true next = next
  here false next = h

plain_once : (ds : List ℕ) → plain_number (plain_number ds) ≡ plain_number ds
plain_once [] = refl
plain_once (d ∷ []) = refl
plain_once (d ∷ e ∷ ds) = here (nat_eq d 48) refl (plain_once (e ∷ ds)) where
  here : (t : Bool) → nat_eq d 48 ≡ t → plain_number (plain_number (e ∷ ds)) ≡ plain_number (e ∷ ds) →
      plain_number (cond t (plain_number (e ∷ ds)) (d ∷ e ∷ ds)) ≡ cond t (plain_number (e ∷ ds)) (d ∷ e ∷ ds)
  here true z next = next
  here false z next = rw z refl

first_true : (a b : Bool) → a ≡ true → a || b ≡ true
first_true true b h = refl
first_true false b h = cc

second_true : (a b : Bool) → b ≡ true → a || b ≡ true
second_true true b h = refl
second_true false b h = h

pub name_local : (name : List ℕ) → is_name name ≡ true → is_local_name name ≡ true
name_local name h = first_true (is_name name) _ h

pub number_local : (d : ℕ) (ds : List ℕ) → is_number (d ∷ ds) ≡ true → is_local_name (plain_number (d ∷ ds)) ≡ true
number_local d ds h =
    let n : List ℕ = plain_number (d ∷ ds) in
    let same : bytes_eq (plain_number n) n ≡ true = ap (λ (x : List ℕ). bytes_eq x n) (plain_once (d ∷ ds)) ∙ bytes_same n in
    second_true (is_name n) _ (rw (plain_digits d ds h, same) refl)

pub name_no_digit : (b : ℕ) → begins_name b ≡ true → is_ascii_digit b ≡ false
unfolding begins_name
name_no_digit b h = grind (arith, nat_tests)

-- the name of a local
pub local_name : (w name : List ℕ) → AreWords (w ∷ []) → local_of w ≡ Some name → is_local_name name ≡ true
unfolding local_of named is_mark is_word_byte begins_name is_digit
local_name [] name h e = nothing e
local_name (b ∷ bs) name h e = here (nat_eq b 37) refl e where
  token : (c : ℕ) (cs : List ℕ) → nat_eq c quote ≡ false → IsToken 37 (c ∷ cs) → is_local_name (cond (is_ascii_digit c) (plain_number (c ∷ cs)) (c ∷ cs)) ≡ true
  token c cs q (Name s n) = let none : is_ascii_digit c ≡ false = name_no_digit c (both (begins_name c) _ n).0 in rw none (name_local (c ∷ cs) n)
  token c cs q (QuotedName s t) = clash (c == quote) q (both (c == quote) _ t).0
  token c cs q (Unnamed e n) = let digit : is_ascii_digit c ≡ true = (both (is_ascii_digit c) _ n).0 in rw digit (number_local c cs n)
  token c cs q (Text t) = cc
  token c cs q (Mark t n) = cc
  token c cs q (Run t) = cc
  token c cs q (Single t) = cc

  said : (bs : List ℕ) → IsToken 37 bs → named bs ≡ Some name → is_local_name name ≡ true
  said [] t e = nothing e
  said (c ∷ cs) t e = cond_then (nat_eq c quote) None (Some (cond (is_ascii_digit c) (plain_number (c ∷ cs)) (c ∷ cs))) (Some name) e (λ q none. nothing none) (λ q same. subst (λ (x : List ℕ). is_local_name x ≡ true) (some_is same) (token c cs q t))

  here : (t : Bool) → nat_eq b 37 ≡ t → cond t (named bs) None ≡ Some name → is_local_name name ≡ true
  here true s e = said bs (subst (λ (x : ℕ). IsToken x bs) (eqb-true b 37 s) h.0) e
  here false s e = nothing e

-- ---- attributes and parameters

-- attributes that something follows have their parentheses closed
attrs_closed : (d : ℕ) (ws : Words) → attrs_len d ws < length ws → are_attributes d (take (attrs_len d ws) ws) ≡ true
attrs_closed d [] l = absurd (omega (arith, l))
attrs_closed d (t ∷ ts) l = here (goes_on d t) refl l (attrs_closed (depth_after d t) ts) where
  level : (a b c : Bool) → not a || b || c ≡ false → a ≡ true
  level true b c h = refl
  level false b c h = cc

  here : (g : Bool) → goes_on d t ≡ g → cond g (suc (attrs_len (depth_after d t) ts)) 0 < length (t ∷ ts) →
      (attrs_len (depth_after d t) ts < length ts → are_attributes (depth_after d t) (take (attrs_len (depth_after d t) ts) ts) ≡ true) →
      are_attributes d (take (cond g (suc (attrs_len (depth_after d t) ts)) 0) (t ∷ ts)) ≡ true
  here true e l next = rw e (next (omega (arith, l)))
  here false e l next = level (nat_eq d 0) _ _ e

-- a parameter, whose written name is the name of a local
record Written (p : Param) : Type 0 where
  param : IsParam p
  written : is_written p.name ≡ true

name_written : {line : List ℕ} (ts : List Token) → TokenRun line ts → is_written (name_of (words line ts)) ≡ true
name_written [] r = refl
name_written {line} (t ∷ ts) r = here (local_of (word line t)) refl where
  here : (found : Option (List ℕ)) → local_of (word line t) ≡ found → is_written (name_of (words line (t ∷ ts))) ≡ true
  here None e = rw e refl
  here (Some name) e = rw e (local_name (word line t) name (words_front (word line t ∷ []) (words line ts) (run_words (t ∷ ts) r)) e)

named_run : {line : List ℕ} (name : Option (List ℕ)) (ts : List Token) → TokenRun line ts → TokenRun line (after_name name ts)
named_run None ts r = r
named_run (Some name) ts r = run_drop 1 ts r

named_more : (name : Option (List ℕ)) (ts : List Token) → 0 < length (after_name name ts) → 0 < length ts
named_more None ts l = l
named_more (Some name) [] l = l
named_more (Some name) (t ∷ ts) l = omega arith

-- a parameter that is read, after which more tokens stand
record Found (line : List ℕ) (p : Param × List Token) : Type 0 where
  param : Written p.0
  run : TokenRun line p.1

attributed_found : (line : List ℕ) (at : ℕ) (t : Ty) (ts : List Token) (p : Param × List Token) → is_value t ≡ true → TokenRun line ts → attributed line at t ts ≡ Some p → 0 < length p.1 → Found line p
unfolding attributed
attributed_found line at t ts p value r e more =
    let k : ℕ = attrs_len 0 (words line ts) in
    let attrs : List Token = take k ts in
    let rest : List Token = drop k ts in
    let name : Option (List ℕ) = name_of (words line rest) in
    cond_then (is_banned (words line attrs)) None (Some (param line at t attrs name, after_name name rest)) (Some p) e (λ _ none. nothing none) (λ allowed same.
    let made : (param line at t attrs name, after_name name rest) ≡ p = some_is same in
    let left : 0 < length rest = named_more name rest (subst (λ (x : Param × List Token). 0 < length x.1) (sym made) more) in
    let within : k < length (words line ts) = omega (arith, length-map ts (word line), length-drop k ts, left) in
    let own : words line attrs ≡ take k (words line ts) = sym (take-map (word line) k ts) in
    let kept : KeptRun line attrs = run_kept attrs (run_take k ts r) in
    let p_is : IsParam (param line at t attrs name) = record {
      typed = value;
      attributed = record {
        kept = kept.kept;
        attributes = ap (are_attributes 0) (kept.same ∙ own) ∙ attrs_closed 0 (words line ts) within;
        allowed = ap is_banned kept.same ∙ allowed;
        told = ap (stands (codes "noalias") 0) (sym kept.same);
      };
    } in
    subst (Found line) made (record { param = record { param = p_is; written = name_written rest (run_drop k ts r) }; run = named_run name rest (run_drop k ts r) }))

param_found : (line : List ℕ) (at : ℕ) (ts : List Token) (p : Param × List Token) → TokenRun line ts → param_at line at ts ≡ Some p → 0 < length p.1 → Found line p
unfolding param_at
param_found line at ts p r e more =
    bind_then (ty_at (words line ts)) (λ t. attributed line at t.0 (drop (ty_len t.0) ts)) p e (λ t et e2.
    attributed_found line at t.0 (drop (ty_len t.0) ts) p (spelled_value (ty_taken (words line ts) t et)) (run_drop (ty_len t.0) ts r) e2 more)

pub first_more : (line v : List ℕ) (ts : List Token) → is_first v (words line ts) ≡ true → 0 < length ts
first_more line v [] h = cc
first_more line v (t ∷ ts) h = omega arith

abbrev AreWritten : List Param → Type 0
AreWritten [] = Unit {0}
AreWritten (p ∷ ps) = Written p × AreWritten ps

record AllFound (line : List ℕ) (ps : List Param × List Token) : Type 0 where
  params : AreWritten ps.0
  run : TokenRun line ps.1

params_found_within : (bound : List Token) (line : List ℕ) (at : ℕ) (ts : List Token) (ps : List Param × List Token) → TokenRun line ts → params_within bound line at ts ≡ Some ps → AllFound line ps
params_found_within [] line at ts ps r e = nothing e
params_found_within (_ ∷ bound) line at ts ps r e =
    bind_then (param_at line at ts) _ ps e (λ p ep e2.
    cond_then (is_first (codes ",") (words line p.1)) _ _ _ e2
    (λ comma e3.
    let f : Found line p = param_found line at ts p r ep (first_more line (codes ",") p.1 comma) in
    bind_then (params_within bound line (at + 1) (drop 1 p.1)) _ ps e3 (λ q eq same.
    let more : AllFound line q = params_found_within bound line (at + 1) (drop 1 p.1) q (run_drop 1 p.1 f.run) eq in
    subst (AllFound line) (some_is same) (record { params = (f.param, more.params); run = more.run })))
    (λ _ e3. cond_then (is_first (codes ")") (words line p.1)) _ _ _ e3
    (λ close same.
    let f : Found line p = param_found line at ts p r ep (first_more line (codes ")") p.1 close) in
    subst (AllFound line) (some_is same) (record { params = (f.param, tt); run = run_drop 1 p.1 f.run }))
    (λ _ none. nothing none)))

params_found : (line : List ℕ) (ts : List Token) (ps : List Param × List Token) → TokenRun line ts → params_at line ts ≡ Some ps → AllFound line ps
unfolding params_at
params_found line ts ps r e =
    cond_then (is_first (codes ")") (words line ts)) _ _ _ e
    (λ _ same. subst (AllFound line) (some_is same) (record { params = tt; run = run_drop 1 ts r }))
    (λ _ e2. params_found_within ts line 0 ts ps r e2)

all_params : (ps : List Param) → AreWritten ps → All IsParam ps
all_params [] h k d l = absurd (omega (arith, l))
all_params (p ∷ ps) h zero d l = h.0.param
all_params (p ∷ ps) h (suc k) d l = all_params ps h.1 k d (omega (arith, l))

all_written : (ps : List Param) → AreWritten ps → All (λ p. is_written p.name ≡ true) ps
all_written [] h k d l = absurd (omega (arith, l))
all_written (p ∷ ps) h zero d l = h.0.written
all_written (p ∷ ps) h (suc k) d l = all_written ps h.1 k d (omega (arith, l))

-- ---- what stands before the name

-- the words before the name are passed
pub record NameAt (d : ℕ) (ws : Words) (from n : ℕ) : Type 0 where
  pub count : ℕ
  pub is : n ≡ from + count
  pub within : count ≤ length ws
  pub passed : are_passed d (take count ws) ≡ true

pub name_found : (from d n : ℕ) (ws : Words) → name_from from d ws ≡ Some n → NameAt d ws from n
name_found from d n [] e = nothing e
name_found from d n (t ∷ ts) e =
    cond_then (is_callee d t ts) _ _ _ e
    (λ callee same. record {
      count = 0;
      is = sym (some_is same) ∙ omega arith;
      within = omega arith;
      passed = (both (nat_eq d 0) _ (both (nat_eq d 0 && is_some (symbol_of t)) _ callee).0).0;
    })
    (λ other e2. cond_then (nat_eq d 0 && bytes_eq t (codes ")")) _ _ _ e2
    (λ _ none. nothing none)
    (λ no_close e3. longer other no_close (name_found (from + 1) (depth_after d t) n ts e3))) where
      longer : is_callee d t ts ≡ false → nat_eq d 0 && bytes_eq t (codes ")") ≡ false → NameAt (depth_after d t) ts (from + 1) n → NameAt d (t ∷ ts) from n
      longer other no_close next =
          let k : ℕ = next.count in
          let same : is_callee d t (take k ts ++ drop k ts) ≡ false = subst (λ (x : Words). is_callee d t x ≡ false) (sym (take-append-drop k ts)) other in
          record {
            count = suc k;
            is = next.is ∙ omega arith;
            within = let l = next.within in omega (arith, l);
            passed = rw (callee_front d t (take k ts) (drop k ts) same, no_close, next.passed) refl;
          }

-- ---- the whole

pub take_less : {A : Type 0} (k n : ℕ) (xs : List A) → k ≤ n → take k (take n xs) ≡ take k xs
take_less zero n xs l = refl
take_less (suc k) zero xs l = absurd (omega (arith, l))
take_less (suc k) (suc n) [] l = refl
take_less (suc k) (suc n) (x ∷ xs) l = ap (λ ys. x ∷ ys) (take_less k n xs (omega (arith, l)))

before_found : (line : List ℕ) (ts : List Token) (n : ℕ) (t : Ty) → TokenRun line ts → name_from 0 0 (words line ts) ≡ Some n → ret_of line (take n ts) ≡ Some t → IsBefore (span line (take (n - ty_len t) ts)) × (is_returned t ≡ true)
before_found line ts n t r found returned =
    let at : NameAt 0 (words line ts) 0 n = name_found 0 0 n (words line ts) found in
    let count : at.count ≡ n = sym (at.is ∙ omega arith) in
    let ws : Words = words line (take n ts) in
    let own : take n (words line ts) ≡ ws = take-map (word line) n ts in
    let passed : are_passed 0 ws ≡ true = ap (are_passed 0) (sym own ∙ ap (λ (k : ℕ). take k (words line ts)) (sym count)) ∙ at.passed in
    let end : Ends t ws = ret_ends t ws (sym (ret_is line (take n ts)) ∙ returned) in
    let size : length ws ≡ n = ap length (sym own) ∙ omega (arith, length-take n (words line ts), at.within, count) in
    let ty_size : length (drop end.front ws) ≡ ty_len t = ret_size end.spelled in
    let front : n - ty_len t ≡ end.front = omega (arith, length-drop end.front ws, ty_size, size, end.within) in
    let less : end.front ≤ n = omega (arith, end.within, size) in
    let before : List Token = take end.front ts in
    let before_words : words line before ≡ take end.front ws =
    sym (take-map (word line) end.front ts) ∙ sym (take_less end.front n (words line ts) less) ∙ ap (take end.front) own in
    let kept : KeptRun line before = run_kept before (run_take end.front ts r) in
    let free : are_passed 0 (take end.front ws) ≡ true =
    passed_front 0 (take end.front ws) (drop end.front ws) (subst (λ (x : Words). are_passed 0 x ≡ true) (sym (take-append-drop end.front ws)) passed) (ret_quiet end.spelled) in
    (subst (λ (k : ℕ). IsBefore (span line (take k ts))) (sym front) (record { kept = kept.kept; passed = same_passed 0 (texts (span line before)) ∙ ap (are_passed 0) (kept.same ∙ before_words) ∙ free }), ret_returned end.spelled)

name_is : {line : List ℕ} (ts : List Token) (name : List ℕ × Words) → TokenRun line ts → one symbol_of (words line ts) ≡ Some name → is_name name.0 ≡ true
name_is [] name r e = nothing e
name_is {line} (t ∷ ts) name r e =
    let s : Says symbol_of name.0 (words line (t ∷ ts)) name.1 = one_says symbol_of (words line (t ∷ ts)) name e in
    symbol_name s.word name.0 (words_front (s.word ∷ []) name.1 (subst AreWords s.first (run_words (t ∷ ts) r))) s.says

head_found : (line : List ℕ) (ts : List Token) (h : Head) → TokenRun line ts → head_of line ts ≡ Some h → IsHead h
unfolding head_of
head_found line ts h r e =
    bind_then (name_from 0 0 (words line ts)) _ h e (λ n en e2.
    bind_then (one symbol_of (words line (drop n ts))) _ h e2 (λ name es e3.
    bind_then (ret_of line (take n ts)) _ h e3 (λ t et e4.
    bind_then (params_at line (drop 2 (drop n ts))) _ h e4 (λ ps ep same.
    let b : IsBefore (span line (take (n - ty_len t) ts)) × (is_returned t ≡ true) = before_found line ts n t r en et in
    let p : AllFound line ps = params_found line (drop 2 (drop n ts)) ps (run_drop 2 (drop n ts) (run_drop n ts r)) ep in
    let after : KeptRun line ps.1 = run_kept ps.1 p.run in
    subst IsHead (some_is same) (record {
      parts = record { in_front = b.0; returned = b.1; named = name_is (drop n ts) name (run_drop n ts r) es; typed = all_params ps.0 p.params; at_end = after.kept };
      written = all_written ps.0 p.params;
    })))))

pub header_is_head : (line : List ℕ) (h : Head) → fault_of line ≡ None → header line (cut line) ≡ Some h → IsHead h
unfolding header
header_is_head line h sound e =
    cond_then (list_all is_ascii (words line (cut line))) _ _ _ e
    (λ ascii e2.
    let all : TokenRun line (cut line) = record { front = []; back = []; whole = sym (append-nil (cut line)); sound = sound; ascii = ascii } in
    head_found line (inner (cut line)) h (run_take (length (cut line) - 2) (drop 1 (cut line)) (run_drop 1 (cut line) all)) e2)
    (λ _ none. nothing none)

-- the head of a line that defines
abbrev pub head_in : Line → Option Head
head_in (line.Define name head) = head
head_in _ = None

pub spelled_head : (l : List ℕ) (ts : List Token) (form : Line) (h : Head) → Spells l ts form → head_in form ≡ Some h → header l ts ≡ Some h
spelled_head l ts _ h (NoWord e) same = nothing same
spelled_head l ts _ h (KeptLine k) same = nothing same
spelled_head l ts _ h (Defined d o) same = same

pub head_of_line : (l : List ℕ) (name : Option (List ℕ)) (h : Head) → form_in false l ≡ Some (line.Define name (Some h)) → IsHead h
unfolding form_by
head_of_line l name h e =
    let f : Formed false l (line.Define name (Some h)) = formed false l (line.Define name (Some h)) e in
    let spelled : Spells l (cut l) (line.Define name (Some h)) = outside_spelled l (cut l) (line.Define name (Some h)) f.read in
    header_is_head l h f.sound (spelled_head l (cut l) (line.Define name (Some h)) h spelled refl)

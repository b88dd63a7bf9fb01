-- How a header is read from the tokens of its parts.
use Rattle.std.proofs.Common.{◌≡◌, ℕ, suc, ◌+◌, ◌-◌, ◌≤◌, ◌<◌, Bool, true, false, cond, not, ◌&&◌, List, [], ◌∷◌, ◌++◌, length, take, drop, Option, Some, None, codes, bytes_eq, nat_eq, refl, sym, ◌∙◌, ap, subst, arith, eqb-true, length-append, append_assoc}
use Rattle.std.proofs.Math.Seq.{take-append_seam, drop-append_seam}
use Rattle.std.proofs.lemmas.List.{map-append, length-map, drop-map}
use Rattle.std.specs.List.{list_all}
use Rattle.vx_digits.specs.Optional.{◌>>=◌}
use Rattle.ir_lex.specs.Words.{word, words}
use Rattle.ir_lex.specs.declared.list.Token.{Token}
use Rattle.ir_lex.proofs.Again.{no_from}
use Rattle.ir_lex.proofs.Classes.{both}
use Rattle.ir_types.specs.declared.ty.Ty.{Ty}
use Rattle.ir_types.specs.declared.ty.Ty.TheVariants.{Void}
use Rattle.ir_types.specs.declared.func.Param.{Param}
use Rattle.ir_words.specs.Values.{width_of, named, local_of, symbol_of, is_some}
use Rattle.ir_words.specs.Words.{Words, is_first}
use Rattle.ir_words.specs.Reading.{ty_at}
use Rattle.ir_forms.specs.Pieces.{SpellsTy, Integer, Pointer, Vector}
use Rattle.ir_line.specs.CallSpelling.{SpellsRet}
use Rattle.ir_line.proofs.Returns.{ret_reads}
use Rattle.ir_line.specs.Headers.{span, depth_after, goes_on, attrs_len, is_banned, ty_len, name_of, after_name, param, attributed, param_at, params_within, params_at, is_callee, name_from, last_tokens, whole, ret_of, head_of}
use Rattle.ir_forms.proofs.Parts.{ty_takes, NoTy, ty_not}
use Rattle.ir_forms.proofs.Steps.{nothing, apart}
use Rattle.ir_types.specs.HeaderWords.{are_attributes}
use Rattle.rf_text.proofs.Kept.Words.{are_passed}
use Rattle.rf_text.proofs.Heads.Types.{is_quiet}

pub words_append : (line : List ℕ) (ts us : List Token) → words line (ts ++ us) ≡ words line ts ++ words line us
words_append line ts us = map-append (word line) ts us

-- a type with more words after it
pub spells_more : {t : Ty} {ts rest : Words} (more : Words) → SpellsTy t ts rest → SpellsTy t (ts ++ more) (rest ++ more)
spells_more more (Integer w word rest h) = Integer w word (rest ++ more) h
spells_more more (Pointer rest) = Pointer (rest ++ more)
spells_more more (Vector n w count word rest hn hw row) = Vector n w count word (rest ++ more) hn hw row

-- ---- attributes

-- whether attributes do not go on with these words
abbrev pub end_attributes : Words → Bool
end_attributes [] = true
end_attributes (t ∷ ts) = not (goes_on 0 t)

attrs_end : (d : ℕ) (rest : Words) → nat_eq d 0 ≡ true → end_attributes rest ≡ true → attrs_len d rest ≡ 0
attrs_end d [] z e = refl
attrs_end d (t ∷ ts) z e = subst (λ (x : ℕ). attrs_len x (t ∷ ts) ≡ 0) (sym (eqb-true d 0 z)) (let none : goes_on 0 t ≡ false = no_from _ e in rw none refl)

pub attrs_exact : (d : ℕ) (ws rest : Words) → are_attributes d ws ≡ true → end_attributes rest ≡ true → attrs_len d (ws ++ rest) ≡ length ws
attrs_exact d [] rest h e = attrs_end d rest h e
attrs_exact d (t ∷ ws) rest h e = let goes : goes_on d t ≡ true = (both (goes_on d t) _ h).0 in rw goes (ap suc (attrs_exact (depth_after d t) ws rest (both (goes_on d t) _ h).1 e))

-- attributes do not go on with a local
pub local_stops : (w name : List ℕ) → local_of w ≡ Some name → goes_on 0 w ≡ false
unfolding local_of
local_stops [] name e = nothing e
local_stops (b ∷ bs) name e = here (nat_eq b 37) refl e where
  here : (t : Bool) → nat_eq b 37 ≡ t → cond t (named bs) None ≡ Some name → goes_on 0 (b ∷ bs) ≡ false
  here true p e = subst (λ (x : ℕ). goes_on 0 (x ∷ bs) ≡ false) (sym (eqb-true b 37 p)) refl
  here false p e = nothing e

-- ---- parameters

-- a parameter after its type, with its attributes and its name
attributed_reads : (line : List ℕ) (at : ℕ) (t : Ty) (attrs rest : List Token) (n : Token) (name : List ℕ) → are_attributes 0 (words line attrs) ≡ true → is_banned (words line attrs) ≡ false → local_of (word line n) ≡ Some name →
    attributed line at t (attrs ++ (n ∷ rest)) ≡ Some (param line at t attrs (Some name), rest)
unfolding attributed
attributed_reads line at t attrs rest n name h allowed says =
    let made : List Token → List Token → Option (Param × List Token) = λ us bs. cond (is_banned (words line us)) None (Some (param line at t us (name_of (words line bs)), after_name (name_of (words line bs)) bs)) in
    let stop : end_attributes (words line (n ∷ rest)) ≡ true = rw (local_stops (word line n) name says) refl in
    let size : attrs_len 0 (words line (attrs ++ (n ∷ rest))) ≡ length attrs = ap (attrs_len 0) (words_append line attrs (n ∷ rest)) ∙ attrs_exact 0 (words line attrs) (words line (n ∷ rest)) h stop ∙ length-map attrs (word line) in
    ap (λ (k : ℕ). made (take k (attrs ++ (n ∷ rest))) (drop k (attrs ++ (n ∷ rest)))) size ∙ ap (λ (us : List Token). made us (drop (length attrs) (attrs ++ (n ∷ rest)))) (take-append_seam attrs (n ∷ rest))
    ∙ ap (made attrs) (drop-append_seam attrs (n ∷ rest)) ∙ rw (allowed, says) refl

-- a parameter: type, attributes and name
pub param_reads : (line : List ℕ) (at : ℕ) (t : Ty) (ty attrs : List Token) (n : Token) (rest : List Token) (name : List ℕ) → SpellsTy t (words line ty) [] → length ty ≡ ty_len t →
    are_attributes 0 (words line attrs) ≡ true → is_banned (words line attrs) ≡ false → local_of (word line n) ≡ Some name → param_at line at (ty ++ (attrs ++ (n ∷ rest))) ≡ Some (param line at t attrs (Some name), rest)
unfolding param_at
param_reads line at t ty attrs n rest name spelled size h allowed says =
    let past : List Token = attrs ++ (n ∷ rest) in
    let read : ty_at (words line (ty ++ past)) ≡ Some (t, words line past) = ap ty_at (words_append line ty past) ∙ ty_takes (spells_more (words line past) spelled) in
    let skip : drop (ty_len t) (ty ++ past) ≡ past = ap (λ (k : ℕ). drop k (ty ++ past)) (sym size) ∙ drop-append_seam ty past in
    ap (λ o. o >>= (λ (x : Ty × Words). attributed line at x.0 (drop (ty_len x.0) (ty ++ past)))) read ∙ ap (attributed line at t) skip ∙ attributed_reads line at t attrs rest n name h allowed says

-- parameters joined by commas, with the `)` after them
pub data ReadsParams (line : List ℕ) : ℕ → List Param → List Token → List Token → Type 0 where
  LastParam : (at : ℕ) (p : Param) (ts : List Token) (c : Token) (rest : List Token) → param_at line at ts ≡ Some (p, c ∷ rest) → word line c ≡ codes ")" → 0 < length ts → ReadsParams line at (p ∷ []) ts rest
  MoreParams : (at : ℕ) (p : Param) (ps : List Param) (ts : List Token) (c : Token) (us rest : List Token) → param_at line at ts ≡ Some (p, c ∷ us) → word line c ≡ codes "," → length us < length ts →
      ReadsParams line (at + 1) ps us rest → ReadsParams line at (p ∷ ps) ts rest

params_read_within : {line : List ℕ} {at : ℕ} {ps : List Param} {ts rest : List Token} → ReadsParams line at ps ts rest → (bound : List Token) → length ts ≤ length bound → params_within bound line at ts ≡ Some (ps, rest)
params_read_within (LastParam at p ts c rest e w some) [] l = absurd (omega (arith, l, some))
params_read_within (LastParam at p ts c rest e w some) (_ ∷ bound) l = rw (e, w) refl
params_read_within (MoreParams at p ps ts c us rest e w less more) [] l = absurd (omega (arith, l, less))
params_read_within (MoreParams at p ps ts c us rest e w less more) (_ ∷ bound) l =
    let short : length us ≤ length bound = omega (arith, l, less) in
    rw (e, w, params_read_within more bound short) refl

pub params_read : (line : List ℕ) (ps : List Param) (ts rest : List Token) → is_first (codes ")") (words line ts) ≡ false → ReadsParams line 0 ps ts rest → params_at line ts ≡ Some (ps, rest)
unfolding params_at
params_read line ps ts rest other r = let enough : length ts ≤ length ts = omega arith in rw (other, params_read_within r ts enough) refl

no_close : NoTy (codes ")")
unfolding width_of
no_close = record { width = refl; pointer = refl; vector = refl }

-- a type is no `)`
pub ty_no_close : {t : Ty} {ts : Words} → SpellsTy t ts [] → (more : Words) → is_first (codes ")") (ts ++ more) ≡ false
ty_no_close s more = ty_not (codes ")") no_close (spells_more more s)

-- ---- what stands before the name

and_false : (a b : Bool) → a && b && false ≡ false
and_false true true = refl
and_false true false = refl
and_false false b = refl

callee_more : (d : ℕ) (t : List ℕ) (ws more : Words) → is_callee d t ws ≡ false → is_first (codes "(") more ≡ false → is_callee d t (ws ++ more) ≡ false
callee_more d t [] more h e = rw e (and_false (nat_eq d 0) (is_some (symbol_of t)))
callee_more d t (w ∷ ws) more h e = h

pub callee_front : (d : ℕ) (t : List ℕ) (ws more : Words) → is_callee d t (ws ++ more) ≡ false → is_callee d t ws ≡ false
callee_front d t [] more h = and_false (nat_eq d 0) (is_some (symbol_of t))
callee_front d t (w ∷ ws) more h = h

no_symbol : symbol_of (codes "(") ≡ None
unfolding symbol_of
no_symbol = refl

-- a word of words that are passed, and those after it
record Passed (d : ℕ) (t : List ℕ) (ts : Words) : Type 0 where
  no_callee : is_callee d t ts ≡ false
  no_close : nat_eq d 0 && bytes_eq t (codes ")") ≡ false
  more : are_passed (depth_after d t) ts ≡ true

passed_is : (d : ℕ) (t : List ℕ) (ts : Words) → are_passed d (t ∷ ts) ≡ true → Passed d t ts
passed_is d t ts h =
    let parts : (not (is_callee d t ts) ≡ true) × ((not (nat_eq d 0 && bytes_eq t (codes ")")) && are_passed (depth_after d t) ts) ≡ true) = both (not (is_callee d t ts)) _ h in
    let last : (not (nat_eq d 0 && bytes_eq t (codes ")")) ≡ true) × (are_passed (depth_after d t) ts ≡ true) = both (not (nat_eq d 0 && bytes_eq t (codes ")"))) _ parts.1 in
    record { no_callee = no_from _ parts.0; no_close = no_from _ last.0; more = last.1 }

is_passed : (d : ℕ) (t : List ℕ) (ts : Words) → Passed d t ts → are_passed d (t ∷ ts) ≡ true
is_passed d t ts p = rw (p.no_callee, p.no_close, p.more) refl

-- the first plain name with `(` after it stands after the words that are passed
pub named_after : (n d : ℕ) (ws : Words) (f o name : List ℕ) (rest : Words) → are_passed d ws ≡ true → symbol_of f ≡ Some name → o ≡ codes "(" → name_from n d (ws ++ (f ∷ o ∷ rest)) ≡ Some (n + length ws)
named_after n d [] f o name rest h says e =
    let same : d ≡ 0 = eqb-true d 0 h in
    let none : n + 0 ≡ n = omega arith in
    rw (same, e, says, none) refl
named_after n d (t ∷ ws) f o name rest h says e =
    let p : Passed d t ws = passed_is d t ws h in
    let callee : is_callee d t (ws ++ (f ∷ o ∷ rest)) ≡ false = callee_more d t ws (f ∷ o ∷ rest) p.no_callee (apart symbol_of (codes "(") f name no_symbol says) in
    let more : n + suc (length ws) ≡ n + 1 + length ws = omega arith in
    rw (callee, p.no_close, more) (named_after (n + 1) (depth_after d t) ws f o name rest p.more says e)

-- a quiet word
record Quiet (t : List ℕ) : Type 0 where
  no_open : bytes_eq t (codes "(") ≡ false
  no_close : bytes_eq t (codes ")") ≡ false
  no_name : is_some (symbol_of t) ≡ false

quiet_is : (t : List ℕ) → is_quiet t ≡ true → Quiet t
quiet_is t h =
    let parts : (not (bytes_eq t (codes "(")) ≡ true) × ((not (bytes_eq t (codes ")")) && not (is_some (symbol_of t))) ≡ true) = both (not (bytes_eq t (codes "("))) _ h in
    let last : (not (bytes_eq t (codes ")")) ≡ true) × (not (is_some (symbol_of t)) ≡ true) = both (not (bytes_eq t (codes ")"))) _ parts.1 in
    record { no_open = no_from _ parts.0; no_close = no_from _ last.0; no_name = no_from _ last.1 }

depth_quiet : (d : ℕ) (t : List ℕ) → Quiet t → depth_after d t ≡ d
depth_quiet d t q = rw (q.no_open, q.no_close) refl

quiet_first : (qs : Words) → list_all is_quiet qs ≡ true → is_first (codes "(") qs ≡ false
quiet_first [] h = refl
quiet_first (t ∷ qs) h = (quiet_is t (both (is_quiet t) _ h).0).no_open

and_none : (a b c : Bool) → b ≡ false → a && b && c ≡ false
and_none true true c h = cc
and_none true false c h = refl
and_none false b c h = refl

second_false : (a b : Bool) → b ≡ false → a && b ≡ false
second_false true b h = h
second_false false b h = refl

-- quiet words are passed
quiet_passed : (d : ℕ) (qs : Words) → nat_eq d 0 ≡ true → list_all is_quiet qs ≡ true → are_passed d qs ≡ true
quiet_passed d [] z h = z
quiet_passed d (t ∷ qs) z h =
    let q : Quiet t = quiet_is t (both (is_quiet t) _ h).0 in
    is_passed d t qs (record {
      no_callee = and_none (nat_eq d 0) (is_some (symbol_of t)) (is_first (codes "(") qs) q.no_name;
      no_close = second_false (nat_eq d 0) (bytes_eq t (codes ")")) q.no_close;
      more = rw (depth_quiet d t q) (quiet_passed d qs z (both (is_quiet t) _ h).1);
    })

pub passed_append : (d : ℕ) (ws qs : Words) → are_passed d ws ≡ true → list_all is_quiet qs ≡ true → are_passed d (ws ++ qs) ≡ true
passed_append d [] qs h q = quiet_passed d qs h q
passed_append d (t ∷ ws) qs h q =
    let p : Passed d t ws = passed_is d t ws h in
    is_passed d t (ws ++ qs) (record { no_callee = callee_more d t ws qs p.no_callee (quiet_first qs q); no_close = p.no_close; more = passed_append (depth_after d t) ws qs p.more q })

quiet_level : (d : ℕ) (qs : Words) → are_passed d qs ≡ true → list_all is_quiet qs ≡ true → nat_eq d 0 ≡ true
quiet_level d [] h q = h
quiet_level d (t ∷ qs) h q = quiet_level d qs (rw (depth_quiet d t (quiet_is t (both (is_quiet t) _ q).0)) at (passed_is d t qs h).more) (both (is_quiet t) _ q).1

-- of words that are passed with quiet ones after them, those in front are
pub passed_front : (d : ℕ) (ws qs : Words) → are_passed d (ws ++ qs) ≡ true → list_all is_quiet qs ≡ true → are_passed d ws ≡ true
passed_front d [] qs h q = quiet_level d qs h q
passed_front d (t ∷ ws) qs h q =
    let p : Passed d t (ws ++ qs) = passed_is d t (ws ++ qs) h in
    is_passed d t ws (record { no_callee = callee_front d t ws qs p.no_callee; no_close = p.no_close; more = passed_front (depth_after d t) ws qs p.more q })

-- ---- the whole

pub head_reads : (line : List ℕ) (before ty : List Token) (n o : Token) (inner after : List Token) (t : Ty) (name : List ℕ) (ps : List Param) → are_passed 0 (words line before) ≡ true →
    list_all is_quiet (words line ty) ≡ true → SpellsRet t (words line ty) → length ty ≡ ty_len t → symbol_of (word line n) ≡ Some name → word line o ≡ codes "(" → params_at line inner ≡ Some (ps, after) →
    head_of line (before ++ (ty ++ (n ∷ o ∷ inner))) ≡ Some (record { before = span line before; ret = t; name = name; params = ps; after = span line after })
unfolding head_of
head_reads line before ty n o inner after t name ps passed quiet spelled size says opened read =
    let all : List Token = before ++ (ty ++ (n ∷ o ∷ inner)) in
    let k : ℕ = length (before ++ ty) in
    let apart : all ≡ (before ++ ty) ++ (n ∷ o ∷ inner) = sym (append_assoc before ty (n ∷ o ∷ inner)) in
    let front : Words = words line before ++ words line ty in
    let all_words : words line all ≡ front ++ (word line n ∷ word line o ∷ words line inner) =
    ap (words line) apart ∙ words_append line (before ++ ty) (n ∷ o ∷ inner) ∙ ap (λ (x : Words). x ++ (word line n ∷ word line o ∷ words line inner)) (words_append line before ty) in
    let count : 0 + length front ≡ k = omega (arith, length-append (words line before) (words line ty), length-append before ty, length-map before (word line), length-map ty (word line)) in
    let found : name_from 0 0 (words line all) ≡ Some k =
    ap (name_from 0 0) all_words ∙ named_after 0 0 front (word line n) (word line o) name (words line inner) (passed_append 0 (words line before) (words line ty) passed quiet) says opened ∙ ap Some count in
    let rest : drop k all ≡ n ∷ o ∷ inner = ap (drop k) apart ∙ drop-append_seam (before ++ ty) (n ∷ o ∷ inner) in
    let first : take k all ≡ before ++ ty = ap (take k) apart ∙ take-append_seam (before ++ ty) (n ∷ o ∷ inner) in
    let less : k - ty_len t ≡ length before = omega (arith, length-append before ty, size) in
    let kept : take (k - ty_len t) all ≡ before = ap (λ (x : ℕ). take x all) less ∙ take-append_seam before (ty ++ (n ∷ o ∷ inner)) in
    let returned : ret_of line (take k all) ≡ Some t = ap (ret_of line) first ∙ ret_reads line t before ty spelled in
    rw (found, rest, says, returned, read, kept) refl

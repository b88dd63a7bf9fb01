-- The first plain symbol of a header line that is read: the first of what stands before the function's name, or that name.
use Rattle.std.proofs.Common.{◌≡◌, ℕ, ◌-◌, ◌≤◌, true, false, List, [], ◌∷◌, length, take, drop, Option, Some, None, codes, refl, sym, ◌∙◌, ap, arith, length-take, length-drop}
use Rattle.std.proofs.lemmas.List.{take-append-drop, take-map}
use Rattle.std.proofs.lemmas.Slice.Eq.{bytes_eq-Decides}
use Rattle.std.specs.List.{list_all}
use Rattle.ir_lex.specs.Scan.{cut, texts, fault_of}
use Rattle.ir_lex.specs.Words.{word, words}
use Rattle.ir_lex.specs.declared.list.Token.{Token}
use Rattle.ir_types.specs.declared.ty.Ty.{Ty}
use Rattle.ir_draft.specs.declared.head.Head.{Head}
use Rattle.ir_draft.specs.declared.line.Line.{Line}
use Rattle.ir_draft.specs.declared.line.Line.TheVariants as line
use Rattle.ir_words.specs.Values.{symbol_of}
use Rattle.ir_words.specs.Words.{Words, one, is_first, is_ascii}
use Rattle.ir_forms.specs.Pieces.{Says}
use Rattle.ir_line.specs.Keeping.{first_symbol, or_later}
use Rattle.ir_line.specs.Headers.{span, ty_len, name_from, ret_of, params_at, head_of, inner, header}
use Rattle.ir_line.specs.Outside.{Spells, NoWord, KeptLine, Defined}
use Rattle.ir_line.proofs.OutsideLines.{outside_spelled}
use Rattle.ir_forms.proofs.Steps.{nothing, some_is, bind_then, cond_then, one_says}
use Rattle.ir_read.specs.Forms.{form_in, form_by}
use Rattle.rf_text.proofs.Kept.Lines.{Formed, formed}
use Rattle.rf_text.proofs.Heads.Read.{words_append}
use Rattle.ir_line.proofs.Returns.{ret_is}
use Rattle.ir_line.proofs.Returns.{ret_size, Ends, ret_ends}
use Rattle.rf_text.proofs.Heads.Typed.{ret_quiet}
use Rattle.rf_text.proofs.Heads.Found.{TokenRun, KeptRun, run_kept, run_take, NameAt, name_found, take_less}
use Rattle.rf_text.proofs.Heads.Again.{symbol_append, quiet_symbol}

-- the first plain symbol of a header
abbrev pub first_of : Head → Option (List ℕ)
first_of h = or_later (first_symbol (texts h.before)) (Some h.name)

later_none : (o : Option (List ℕ)) → or_later o None ≡ o
later_none None = refl
later_none (Some name) = refl

later_some : (o : Option (List ℕ)) (name : List ℕ) (later : Option (List ℕ)) → or_later (or_later o (Some name)) later ≡ or_later o (Some name)
later_some None name later = refl
later_some (Some other) name later = refl

-- in front of the name, the type has none
before_symbol : (line : List ℕ) (ts : List Token) (n : ℕ) (t : Ty) → TokenRun line ts → name_from 0 0 (words line ts) ≡ Some n → ret_of line (take n ts) ≡ Some t →
    first_symbol (words line (take n ts)) ≡ first_symbol (texts (span line (take (n - ty_len t) ts)))
before_symbol line ts n t r found returned =
    let at : NameAt 0 (words line ts) 0 n = name_found 0 0 n (words line ts) found in
    let count : at.count ≡ n = sym (at.is ∙ omega arith) in
    let ws : Words = words line (take n ts) in
    let own : take n (words line ts) ≡ ws = take-map (word line) n ts in
    let end : Ends t ws = ret_ends t ws (sym (ret_is line (take n ts)) ∙ returned) in
    let size : length ws ≡ n = ap length (sym own) ∙ omega (arith, length-take n (words line ts), at.within, count) in
    let ty_size : length (drop end.front ws) ≡ ty_len t = ret_size end.spelled in
    let front : n - ty_len t ≡ end.front = omega (arith, length-drop end.front ws, ty_size, size, end.within) in
    let less : end.front ≤ n = omega (arith, end.within, size) in
    let before : List Token = take end.front ts in
    let before_words : words line before ≡ take end.front ws =
    sym (take-map (word line) end.front ts) ∙ sym (take_less end.front n (words line ts) less) ∙ ap (take end.front) own in
    let kept : KeptRun line before = run_kept before (run_take end.front ts r) in
    ap first_symbol (sym (take-append-drop end.front ws))
    ∙ symbol_append (take end.front ws) (drop end.front ws)
    ∙ ap (or_later (first_symbol (take end.front ws))) (quiet_symbol (drop end.front ws) (ret_quiet end.spelled))
    ∙ later_none (first_symbol (take end.front ws))
    ∙ ap first_symbol (sym before_words ∙ sym kept.same)
    ∙ ap (λ k. first_symbol (texts (span line (take k ts)))) (sym front)

head_symbol : (line : List ℕ) (ts : List Token) (h : Head) → TokenRun line ts → head_of line ts ≡ Some h → first_symbol (words line ts) ≡ first_of h
unfolding head_of
head_symbol line ts h r e =
    bind_then (name_from 0 0 (words line ts)) _ h e (λ n en e2.
    bind_then (one symbol_of (words line (drop n ts))) _ h e2 (λ name es e3.
    bind_then (ret_of line (take n ts)) _ h e3 (λ t et e4.
    bind_then (params_at line (drop 2 (drop n ts))) _ h e4 (λ ps _ same.
    let s : Says symbol_of name.0 (words line (drop n ts)) name.1 = one_says symbol_of (words line (drop n ts)) name es in
    let rest : first_symbol (words line (drop n ts)) ≡ Some name.0 = ap first_symbol s.first ∙ ap (λ o. or_later o (first_symbol name.1)) s.says in
    ap (λ x. first_symbol (words line x)) (sym (take-append-drop n ts))
    ∙ ap first_symbol (words_append line (take n ts) (drop n ts))
    ∙ symbol_append (words line (take n ts)) (words line (drop n ts))
    ∙ ap (or_later (first_symbol (words line (take n ts)))) rest
    ∙ ap (λ o. or_later o (Some name.0)) (before_symbol line ts n t r en et)
    ∙ ap first_of (some_is same)))))

no_define : symbol_of (codes "define") ≡ None
unfolding symbol_of
no_define = refl

header_symbol : (line : List ℕ) (h : Head) → fault_of line ≡ None → is_first (codes "define") (words line (cut line)) ≡ true → header line (cut line) ≡ Some h → first_symbol (words line (cut line)) ≡ first_of h
unfolding header
header_symbol line h sound first e =
    cond_then (list_all is_ascii (words line (cut line))) _ _ _ e
    (λ ascii e2. here (cut line) refl ascii first e2)
    (λ _ none. nothing none)
  where
    here : (ts : List Token) → cut line ≡ ts → list_all is_ascii (words line (cut line)) ≡ true → is_first (codes "define") (words line ts) ≡ true → head_of line (inner ts) ≡ Some h → first_symbol (words line ts) ≡ first_of h
    here [] is ascii first e = cc
    here (d ∷ ts) is ascii first e =
        let all : TokenRun line (inner (d ∷ ts)) = record {
          front = d ∷ [];
          back = drop (length (d ∷ ts) - 2) ts;
          whole = is ∙ ap (λ xs. d ∷ xs) (sym (take-append-drop (length (d ∷ ts) - 2) ts));
          sound = sound;
          ascii = ascii;
        } in
        let start : word line d ≡ codes "define" = (bytes_eq-Decides (word line d) (codes "define")).0 first in
        let k : ℕ = length (d ∷ ts) - 2 in
        let own : first_symbol (words line (take k ts)) ≡ first_of h = head_symbol line (take k ts) h all e in
        ap (λ o. or_later o (first_symbol (words line ts))) (ap symbol_of start ∙ no_define)
        ∙ ap (λ x. first_symbol (words line x)) (sym (take-append-drop k ts))
        ∙ ap first_symbol (words_append line (take k ts) (drop k ts))
        ∙ symbol_append (words line (take k ts)) (words line (drop k ts))
        ∙ ap (λ o. or_later o (first_symbol (words line (drop k ts)))) own
        ∙ later_some (first_symbol (texts h.before)) h.name (first_symbol (words line (drop k ts)))
        ∙ refl

-- the name of a line that defines
abbrev name_in : Line → Option (List ℕ)
name_in (line.Define name head) = name
name_in _ = None

record Begins (l : List ℕ) (form : Line) (h : Head) : Type 0 where
  first : is_first (codes "define") (words l (cut l)) ≡ true
  head : header l (cut l) ≡ Some h
  name : first_symbol (words l (cut l)) ≡ name_in form

abbrev head_in : Line → Option Head
head_in (line.Define name head) = head
head_in _ = None

begins : (l : List ℕ) (form : Line) (h : Head) → Spells l (cut l) form → head_in form ≡ Some h → Begins l form h
begins l _ h (NoWord e) same = nothing same
begins l _ h (KeptLine k) same = nothing same
begins l _ h (Defined d o) same = record { first = d; head = same; name = refl }

pub name_of_line : (l : List ℕ) (name : Option (List ℕ)) (h : Head) → form_in false l ≡ Some (line.Define name (Some h)) → name ≡ first_of h
unfolding form_by
name_of_line l name h e =
    let f : Formed false l (line.Define name (Some h)) = formed false l (line.Define name (Some h)) e in
    let b : Begins l (line.Define name (Some h)) h = begins l (line.Define name (Some h)) h (outside_spelled l (cut l) (line.Define name (Some h)) f.read) refl in
    sym b.name ∙ header_symbol l h f.sound b.first b.head

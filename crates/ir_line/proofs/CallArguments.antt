-- The arguments of a call: what is read is spelled, and what is spelled is read.
use Rattle.std.proofs.Common.{◌≡◌, ℕ, suc, zero, ◌+◌, ◌-◌, ◌≤◌, ◌<◌, Bool, true, false, cond, not, ◌&&◌, List, [], ◌∷◌, ◌++◌, length, take, drop, Option, Some, None, codes, bytes_eq, nat_eq, refl, sym, ◌∙◌, ap, subst, arith, length-append, length-drop, append_assoc}
use Rattle.std.proofs.Math.Seq.{take-append_seam, drop-append_seam}
use Rattle.std.proofs.lemmas.List.{append-nil, take-append-drop, length-map, take-map, drop-map}
use Rattle.vx_digits.specs.Optional.{◌>>=◌}
use Rattle.ir_lex.specs.Words.{word, words}
use Rattle.ir_lex.specs.declared.list.Token.{Token}
use Rattle.ir_types.specs.declared.ty.Ty.{Ty}
use Rattle.ir_draft.specs.declared.written.Written.{Written}
use Rattle.ir_draft.specs.declared.written.Arg.{Arg}
use Rattle.ir_words.specs.Values.{width_of}
use Rattle.ir_words.specs.Words.{Words, is_first}
use Rattle.ir_words.specs.Reading.{ty_at}
use Rattle.ir_forms.specs.Pieces.{SpellsTy, Integer, Pointer, Vector, SpellsOperand}
use Rattle.ir_forms.specs.Operands.{operand_at}
use Rattle.ir_line.specs.declared.calls.Arguments.{Arguments}
use Rattle.ir_line.specs.Headers.{span, depth_after, ty_len}
use Rattle.ir_line.specs.Calls.{angles_after, ends_argument, argument_len, argument_at, after_argument, whole_operand, operand_from, are_attributes, argument_of, argument, no_arguments, one_argument, with_arguments, closed_arguments, arguments_within, arguments_at}
use Rattle.ir_line.specs.CallSpelling.{ends_by, SpellsArgument, SpellsArguments, LastArgument, MoreArguments, SpellsInside, NoArgument, SomeArguments}
use Rattle.ir_forms.proofs.Parts.{ty_takes, ty_taken, ty_shorter, NoTy, ty_not, operand_taken, operand_takes, operand_shorter}
use Rattle.ir_forms.proofs.Steps.{nothing, clash, some_is, bind_then, when_then, cond_then, choose_then, both_true, not_true, bytes_is, bytes_same}
use Rattle.ir_line.proofs.Returns.{words_append, spelled_size}

-- ---- where an argument ends

-- the first of the words after an argument ends it
ended : (d a : ℕ) (ws : Words) (by : List ℕ) (rest : Words) → drop (argument_len d a ws) ws ≡ by ∷ rest → ends_by d a (take (argument_len d a ws) ws) by ≡ true
ended d a [] by rest e = cc
ended d a (t ∷ ts) by rest e = here (ends_argument d a t) refl e (ended (depth_after d t) (angles_after d a t) ts by rest) where
  here : (b : Bool) → ends_argument d a t ≡ b → drop (cond b 0 (suc (argument_len (depth_after d t) (angles_after d a t) ts))) (t ∷ ts) ≡ by ∷ rest →
      (drop (argument_len (depth_after d t) (angles_after d a t) ts) ts ≡ by ∷ rest → ends_by (depth_after d t) (angles_after d a t) (take (argument_len (depth_after d t) (angles_after d a t) ts) ts) by ≡ true) →
      ends_by d a (take (cond b 0 (suc (argument_len (depth_after d t) (angles_after d a t) ts))) (t ∷ ts)) by ≡ true
  here true eb e next = let same : t ≡ by = cc in ap (ends_argument d a) (sym same) ∙ eb
  here false eb e next = rw eb (next e)

-- an argument has the words before the first that ends it
ending : (d a : ℕ) (ws : Words) (by : List ℕ) (rest : Words) → ends_by d a ws by ≡ true → argument_len d a (ws ++ by ∷ rest) ≡ length ws
ending d a [] by rest e = rw e refl
ending d a (t ∷ ts) by rest e =
    let p : (not (ends_argument d a t) ≡ true) × (ends_by (depth_after d t) (angles_after d a t) ts by ≡ true) = both_true (not (ends_argument d a t)) _ e in
    rw (not_true (ends_argument d a t) p.0) (ap suc (ending (depth_after d t) (angles_after d a t) ts by rest p.1))

-- ---- the operand, which is the longest end

whole_taken : (t : Ty) (ws : Words) (o : Written) → whole_operand (operand_at t ws) ≡ Some o → SpellsOperand t o ws []
whole_taken t ws o e = here (operand_at t ws) refl e where
  here : (r : Option (Written × Words)) → operand_at t ws ≡ r → whole_operand r ≡ Some o → SpellsOperand t o ws []
  here None er e = nothing e
  here (Some (x, [])) er e = subst (λ y. SpellsOperand t y ws []) (some_is e) (operand_taken t ws (x, []) er)
  here (Some (x, w ∷ more)) er e = nothing e

whole_takes : (t : Ty) (ws : Words) (o : Written) → SpellsOperand t o ws [] → whole_operand (operand_at t ws) ≡ Some o
whole_takes t ws o s = ap whole_operand (operand_takes s)

-- what is found among words, n of them before these
record Longest (t : Ty) (n : ℕ) (ws : Words) (x : ℕ × Written) : Type 0 where
  count : ℕ
  is : x.0 ≡ n + count
  within : count ≤ length ws
  operand : SpellsOperand t x.1 (drop count ws) []
  longest : (m : ℕ) (o : Written) → m < count → SpellsOperand t o (drop m ws) [] → ⊥

none_some : {o : Option Written} {w : Written} → o ≡ None → o ≡ Some w → ⊥
none_some n s = nothing (sym n ∙ s)

longest_taken : (t : Ty) (n : ℕ) (ws : Words) (x : ℕ × Written) → operand_from t n ws ≡ Some x → Longest t n ws x
longest_taken t n [] x e = nothing e
longest_taken t n (w ∷ ws) x e =
    choose_then (whole_operand (operand_at t (w ∷ ws))) (λ o. Some (n, o)) _ x e
    (λ o eo r. subst (Longest t n (w ∷ ws)) (some_is r) (record { count = 0; is = omega arith; within = omega arith; operand = whole_taken t (w ∷ ws) o eo; longest = λ m p less s. omega (arith, less) }))
    (λ none r.
    let next : Longest t (n + 1) ws x = longest_taken t (n + 1) ws x r in
    record { count = suc next.count; is = omega (arith, next.is); within = omega (arith, next.within); operand = next.operand; longest = earlier none next.longest })
  where
    earlier : {k : ℕ} → whole_operand (operand_at t (w ∷ ws)) ≡ None → ((m : ℕ) (o : Written) → m < k → SpellsOperand t o (drop m ws) [] → ⊥) → (m : ℕ) (o : Written) → m < suc k → SpellsOperand t o (drop m (w ∷ ws)) [] → ⊥
    earlier none more zero o less s = none_some none (whole_takes t (w ∷ ws) o s)
    earlier none more (suc m) o less s = more m o (omega (arith, less)) s

longest_takes : (t : Ty) (n k : ℕ) (ws : Words) (o : Written) → k < length ws → SpellsOperand t o (drop k ws) [] → ((m : ℕ) (p : Written) → m < k → SpellsOperand t p (drop m ws) [] → ⊥) → operand_from t n ws ≡ Some (n + k, o)
longest_takes t n k [] o l s longest = absurd (omega (arith, l))
longest_takes t n zero (w ∷ ws) o l s longest = let same : n ≡ n + 0 = omega arith in rw (whole_takes t (w ∷ ws) o s) (ap (λ (x : ℕ). Some (x, o)) same)
longest_takes t n (suc k) (w ∷ ws) o l s longest =
    let same : n + 1 + k ≡ n + suc k = omega arith in
    here (whole_operand (operand_at t (w ∷ ws))) refl (longest_takes t (n + 1) k ws o (omega (arith, l)) s (λ m p less q. longest (suc m) p (omega (arith, less)) q) ∙ ap (λ (x : ℕ). Some (x, o)) same)
  where
    here : (r : Option Written) → whole_operand (operand_at t (w ∷ ws)) ≡ r → operand_from t (n + 1) ws ≡ Some (n + suc k, o) → operand_from t n (w ∷ ws) ≡ Some (n + suc k, o)
    here (Some p) e more = absurd (longest 0 p (omega arith) (whole_taken t (w ∷ ws) p e))
    here None e more = rw e more

-- ---- one argument

-- a type in front is all of its own words
own_type : {t : Ty} {ws rest : Words} → SpellsTy t ws rest → SpellsTy t (take (ty_len t) ws) []
own_type (Integer w word rest h) = Integer w word [] h
own_type (Pointer rest) = Pointer []
own_type (Vector n w count word rest hn hw row) = Vector n w count word [] hn hw row

-- a type with more words after it
type_more : {t : Ty} {ts : Words} (more : Words) → SpellsTy t ts [] → SpellsTy t (ts ++ more) more
type_more more (Integer w word rest h) = Integer w word more h
type_more more (Pointer rest) = Pointer more
type_more more (Vector n w count word rest hn hw row) = Vector n w count word more hn hw row

pub argument_spelled : (line : List ℕ) (ts : List Token) (a : Arg × List ℕ) → argument line ts ≡ Some a → SpellsArgument line a ts
unfolding argument argument_of
argument_spelled line ts a e =
    bind_then (ty_at (words line ts)) _ a e (λ t et e2.
    let rest : List Token = drop (ty_len t.0) ts in
    bind_then (operand_from t.0 0 (words line rest)) _ a e2 (λ o eo e3.
    when_then (are_attributes (words line (take o.0 rest))) _ a e3 (λ attributes same.
    let f : Longest t.0 0 (words line rest) o = longest_taken t.0 0 (words line rest) o eo in
    let back : drop f.count (words line rest) ≡ words line (drop o.0 rest) = drop-map (word line) f.count rest ∙ ap (λ (k : ℕ). words line (drop k rest)) (omega (arith, f.is)) in
    let kept : List Token = take o.0 rest in
    let value : List Token = drop o.0 rest in
    let apart : kept ++ value ≡ rest = take-append-drop o.0 rest in
    let shorter : length kept ≤ f.count = size o.0 rest f.count f.is in
    subst (λ x. SpellsArgument line x ts) same (record {
      type = take (ty_len t.0) ts;
      kept = kept;
      value = value;
      whole = sym (take-append-drop (ty_len t.0) ts) ∙ ap (λ (us : List Token). take (ty_len t.0) ts ++ us) (sym apart);
      typed = subst (λ (x : Words). SpellsTy t.0 x []) (take-map (word line) (ty_len t.0) ts) (own_type (ty_taken (words line ts) t et));
      operand = subst (λ (x : Words). SpellsOperand t.0 o.1 x []) back f.operand;
      longest = λ m p less s. f.longest m p (omega (arith, less, shorter)) (subst (λ (us : List Token). SpellsOperand t.0 p (drop m (words line us)) []) apart s);
      attributes = attributes;
      text = refl;
    }))))
  where
    size : (k : ℕ) (us : List Token) (n : ℕ) → k ≡ 0 + n → length (take k us) ≤ n
    size zero us n e = omega arith
    size (suc k) [] n e = omega arith
    size (suc k) (u ∷ us) zero e = absurd (omega (arith, e))
    size (suc k) (u ∷ us) (suc n) e = let l : length (take k us) ≤ n = size k us n (omega (arith, e)) in omega (arith, l)

pub argument_read : (line : List ℕ) (ts : List Token) (a : Arg × List ℕ) → SpellsArgument line a ts → argument line ts ≡ Some a
unfolding argument argument_of
argument_read line ts a s =
    let rest : List Token = s.kept ++ s.value in
    let t : Ty = a.0.ty in
    let size : length s.type ≡ ty_len t = sym (length-map s.type (word line)) ∙ spelled_size s.typed in
    let typed : ty_at (words line ts) ≡ Some (t, words line rest) = ap ty_at (ap (words line) s.whole ∙ words_append line s.type rest) ∙ ty_takes (type_more (words line rest) s.typed) in
    let skip : drop (ty_len t) ts ≡ rest = ap (λ (k : ℕ). drop k ts) (sym size) ∙ ap (drop (length s.type)) s.whole ∙ drop-append_seam s.type rest in
    let back : drop (length s.kept) (words line rest) ≡ words line s.value = drop-map (word line) (length s.kept) rest ∙ ap (words line) (drop-append_seam s.kept s.value) in
    let some : length s.kept < length (words line rest) =
    (let l : length (drop (length s.kept) (words line rest)) ≡ length (words line s.value) = ap length back in
    omega (arith, l, operand_shorter s.operand, length-drop (length s.kept) (words line rest))) in
    let none_before : 0 + length s.kept ≡ length s.kept = omega arith in
    let found : operand_from t 0 (words line rest) ≡ Some (length s.kept, a.0.opd) =
    longest_takes t 0 (length s.kept) (words line rest) a.0.opd some (subst (λ (x : Words). SpellsOperand t a.0.opd x []) (sym back) s.operand) s.longest ∙ ap (λ (k : ℕ). Some (k, a.0.opd)) none_before in
    let kept : take (length s.kept) rest ≡ s.kept = take-append_seam s.kept s.value in
    rw (typed, skip, found, kept, s.attributes) (ap (λ (x : List ℕ). Some (a.0, x)) (sym s.text))

-- ---- the arguments

-- the words of tokens of which the first is known
first_token : (line v : List ℕ) (ts : List Token) → is_first v (words line ts) ≡ true → (t : Token) × (ts ≡ t ∷ drop 1 ts) × (word line t ≡ v)
first_token line v [] e = clash (sym e)
first_token line v (t ∷ ts) e = (t, refl, bytes_is (word line t) v e)

own_ends : (line : List ℕ) (ts : List Token) (t : Token) (v : List ℕ) → after_argument line ts ≡ t ∷ drop 1 (after_argument line ts) → word line t ≡ v → ends_by 0 0 (words line (argument_at line ts)) v ≡ true
own_ends line ts t v e w =
    let k : ℕ = argument_len 0 0 (words line ts) in
    let back : drop k (words line ts) ≡ v ∷ words line (drop 1 (after_argument line ts)) = drop-map (word line) k ts ∙ ap (words line) e ∙ ap (λ (x : List ℕ). x ∷ words line (drop 1 (after_argument line ts))) w in
    ap (λ (x : Words). ends_by 0 0 x v) (sym (take-map (word line) k ts)) ∙ ended 0 0 (words line ts) v _ back

own_apart : (line : List ℕ) (ts : List Token) (t : Token) → after_argument line ts ≡ t ∷ drop 1 (after_argument line ts) → argument_at line ts ++ t ∷ drop 1 (after_argument line ts) ≡ ts
own_apart line ts t e = ap (λ (us : List Token). argument_at line ts ++ us) (sym e) ∙ take-append-drop (argument_len 0 0 (words line ts)) ts

arguments_taken : (bound : List Token) (line : List ℕ) (ts : List Token) (x : Arguments × List Token) → arguments_within bound line ts ≡ Some x → SpellsArguments line x.0 ts x.1
arguments_taken [] line ts x e = nothing e
arguments_taken (_ ∷ bound) line ts x e =
    bind_then (argument line (argument_at line ts)) _ x e (λ a ea e2.
    let own : SpellsArgument line a (argument_at line ts) = argument_spelled line (argument_at line ts) a ea in
    let us : List Token = after_argument line ts in
    cond_then (is_first (codes ",") (words line us)) _ _ _ e2
    (λ first e3.
    let t : (t : Token) × (us ≡ t ∷ drop 1 us) × (word line t ≡ codes ",") = first_token line (codes ",") us first in
    bind_then (arguments_within bound line (drop 1 us)) _ x e3 (λ y ey same.
    let more : SpellsArguments line y.0 (drop 1 us) y.1 = arguments_taken bound line (drop 1 us) y ey in
    subst (λ z. SpellsArguments line z.0 ts z.1) (some_is same)
    (subst (λ (z : List Token). SpellsArguments line (record { args = a.0 ∷ y.0.args; attrs = a.1 ∷ y.0.attrs }) z y.1) (own_apart line ts t.0 t.1)
    (MoreArguments a y.0 (argument_at line ts) t.0 (drop 1 us) y.1 own t.2 (own_ends line ts t.0 (codes ",") t.1 t.2) more))))
    (λ _ e3. cond_then (is_first (codes ")") (words line us)) _ _ _ e3
    (λ first same.
    let t : (t : Token) × (us ≡ t ∷ drop 1 us) × (word line t ≡ codes ")") = first_token line (codes ")") us first in
    subst (λ z. SpellsArguments line z.0 ts z.1) (some_is same)
    (subst (λ (z : List Token). SpellsArguments line (one_argument a) z (drop 1 us)) (own_apart line ts t.0 t.1)
    (LastArgument a (argument_at line ts) t.0 (drop 1 us) own t.2 (own_ends line ts t.0 (codes ")") t.1 t.2))))
    (λ _ none. nothing none)))

-- an argument has a word
some_argument : {line : List ℕ} {a : Arg × List ℕ} {ts : List Token} → SpellsArgument line a ts → 0 < length ts
some_argument {line} {a} {ts} s =
    let size : length (words line s.type) ≡ length s.type = length-map s.type (word line) in
    let l : length ts ≡ length (s.type ++ (s.kept ++ s.value)) = ap length s.whole in
    omega (arith, l, length-append s.type (s.kept ++ s.value), size, ty_shorter s.typed)

-- where an argument stands before a word that ends it
record Split (line : List ℕ) (own : List Token) (t : Token) (rest : List Token) : Type 0 where
  at : argument_at line (own ++ t ∷ rest) ≡ own
  after : after_argument line (own ++ t ∷ rest) ≡ t ∷ rest

split : (line : List ℕ) (own : List Token) (t : Token) (rest : List Token) (v : List ℕ) → word line t ≡ v → ends_by 0 0 (words line own) v ≡ true → Split line own t rest
split line own t rest v w e =
    let size : argument_len 0 0 (words line (own ++ t ∷ rest)) ≡ length own =
    ap (argument_len 0 0) (words_append line own (t ∷ rest)) ∙ ending 0 0 (words line own) (word line t) (words line rest) (ap (ends_by 0 0 (words line own)) w ∙ e) ∙ length-map own (word line) in
    record {
      at = ap (λ (k : ℕ). take k (own ++ t ∷ rest)) size ∙ take-append_seam own (t ∷ rest);
      after = ap (λ (k : ℕ). drop k (own ++ t ∷ rest)) size ∙ drop-append_seam own (t ∷ rest);
    }

arguments_take : {line : List ℕ} {i : Arguments} {ts rest : List Token} → SpellsArguments line i ts rest → (bound : List Token) → length ts ≤ length bound → arguments_within bound line ts ≡ Some (i, rest)
arguments_take {line} (LastArgument a own close rest s w e) [] l = absurd (omega (arith, l, length-append own (close ∷ rest)))
arguments_take {line} (LastArgument a own close rest s w e) (_ ∷ bound) l =
    let p : Split line own close rest = split line own close rest (codes ")") w e in
    rw (p.at, p.after, argument_read line own a s, w) refl
arguments_take {line} (MoreArguments a i own comma us rest s w e more) [] l = absurd (omega (arith, l, length-append own (comma ∷ us)))
arguments_take {line} (MoreArguments a i own comma us rest s w e more) (_ ∷ bound) l =
    let p : Split line own comma us = split line own comma us (codes ",") w e in
    let less : length us ≤ length bound = omega (arith, l, length-append own (comma ∷ us)) in
    rw (p.at, p.after, argument_read line own a s, w, arguments_take more bound less) refl

no_type : NoTy (codes ")")
unfolding width_of
no_type = record { width = refl; pointer = refl; vector = refl }

begins : (line : List ℕ) (own : List Token) (a : Arg × List ℕ) → SpellsArgument line a own → (more : List Token) → is_first (codes ")") (words line (own ++ more)) ≡ false
begins line own a s more =
    let rest : List Token = (s.kept ++ s.value) ++ more in
    let same : own ++ more ≡ s.type ++ rest = ap (λ (x : List Token). x ++ more) s.whole ∙ append_assoc s.type (s.kept ++ s.value) more in
    ap (λ (x : List Token). is_first (codes ")") (words line x)) same ∙ ap (is_first (codes ")")) (words_append line s.type rest) ∙ ty_not (codes ")") no_type (type_more (words line rest) s.typed)

-- no argument begins with `)`
not_closed : {line : List ℕ} {i : Arguments} {ts rest : List Token} → SpellsArguments line i ts rest → is_first (codes ")") (words line ts) ≡ false
not_closed {line} (LastArgument a own close rest s w e) = begins line own a s (close ∷ rest)
not_closed {line} (MoreArguments a i own comma us rest s w e more) = begins line own a s (comma ∷ us)

-- ---- after the `(`

pub inside_spelled : (line : List ℕ) (o : Token) (ts : List Token) (x : Arguments × List Token) → arguments_at line (o ∷ ts) ≡ Some x → (word line o ≡ codes "(") × SpellsInside line x.0 ts x.1
unfolding arguments_at
inside_spelled line o ts x e =
    cond_then (bytes_eq (word line o) (codes "(")) _ _ _ e
    (λ opened e2. (
      bytes_is (word line o) (codes "(") opened,
      cond_then (is_first (codes ")") (words line ts)) _ _ _ e2
          (λ close same. subst (λ z. SpellsInside line z.0 ts z.1) (some_is same) (nothing_inside close))
          (λ _ e3. SomeArguments x.0 ts x.1 (arguments_taken ts line ts x e3)),
    ))
    (λ _ none. nothing none)
  where
    nothing_inside : is_first (codes ")") (words line ts) ≡ true → SpellsInside line no_arguments ts (drop 1 ts)
    nothing_inside close =
        let t : (t : Token) × (ts ≡ t ∷ drop 1 ts) × (word line t ≡ codes ")") = first_token line (codes ")") ts close in
        subst (λ (z : List Token). SpellsInside line no_arguments z (drop 1 ts)) (sym t.1) (NoArgument t.0 (drop 1 ts) t.2)

pub inside_read : {line : List ℕ} {i : Arguments} {ts rest : List Token} → SpellsInside line i ts rest → (o : Token) → word line o ≡ codes "(" → arguments_at line (o ∷ ts) ≡ Some (i, rest)
unfolding arguments_at
inside_read {line} (NoArgument close rest w) o opened = rw (opened, w) refl
inside_read {line} (SomeArguments i ts rest s) o opened = let enough : length ts ≤ length ts = omega arith in rw (opened, not_closed s, arguments_take s ts enough) refl

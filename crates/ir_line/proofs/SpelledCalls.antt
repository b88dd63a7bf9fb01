-- A call that is read is spelled, and a call that is spelled is read: so no tokens spell two.
use Rattle.std.proofs.Common.{◌≡◌, ℕ, suc, zero, ◌+◌, ◌-◌, ◌≤◌, ◌<◌, Bool, true, false, cond, not, ◌&&◌, ◌||◌, List, [], ◌∷◌, ◌++◌, length, take, drop, Option, Some, None, codes, bytes_eq, nat_eq, refl, sym, ◌∙◌, ap, subst, arith, eqb-true, length-append, length-drop, length-take, append_assoc}
use Rattle.std.proofs.Math.Seq.{take-append_seam, drop-append_seam}
use Rattle.std.proofs.lemmas.List.{take-append-drop, length-map, take-map, drop-map}
use Rattle.ir_lex.specs.Words.{word, words}
use Rattle.ir_lex.specs.declared.list.Token.{Token}
use Rattle.ir_types.specs.declared.ty.Ty.{Ty}
use Rattle.ir_draft.specs.declared.line.Line.{Line}
use Rattle.ir_words.specs.Values.{local_of, symbol_of, is_some}
use Rattle.ir_words.specs.Words.{Words, one, is_first}
use Rattle.ir_forms.specs.Pieces.{Says}
use Rattle.ir_line.specs.declared.calls.Arguments.{Arguments}
use Rattle.ir_line.specs.Headers.{depth_after, ty_len, ret_of}
use Rattle.ir_line.specs.Calls.{symbol_from, arguments_at, may_follow, names_result, called, call_after, tail_len, tail_of, after_tail, call_for, call}
use Rattle.ir_line.specs.CallSpelling.{SpellsResult, Unnamed, Named, SpellsTail, Untold, Tail, NoTail, SpellsRet, are_unnamed, SpellsInside, SpellsCall}
use Rattle.ir_forms.proofs.Steps.{nothing, clash, some_is, bind_then, when_then, cond_then, choose_then, both_true, not_true, bytes_is, one_says, says_one}
use Rattle.ir_line.proofs.CallArguments.{inside_spelled, inside_read}
use Rattle.ir_line.proofs.Returns.{words_append, ret_is, ret_reads, ret_size, Ends, ret_ends}

-- ---- the callee

-- a plain symbol stands after so many words that name none
record NamedAt (d : ℕ) (ws : Words) (from n : ℕ) : Type 0 where
  count : ℕ
  is : n ≡ from + count
  within : count ≤ length ws
  unnamed : are_unnamed d (take count ws) ≡ true

or_none : (z a b : Bool) → z && a ≡ false → z && b ≡ false → not (z && (a || b)) ≡ true
or_none true true b e f = clash e
or_none true false b e f = ap not f
or_none false a b e f = refl

none_or : (z a b : Bool) → not (z && (a || b)) ≡ true → (z && a ≡ false) × (z && b ≡ false)
none_or true true b e = clash (sym e)
none_or true false b e = (refl, not_true b e)
none_or false a b e = (refl, refl)

symbol_found : (from d n : ℕ) (ws : Words) → symbol_from from d ws ≡ Some n → NamedAt d ws from n
symbol_found from d n [] e = nothing e
symbol_found from d n (t ∷ ts) e =
    cond_then (nat_eq d 0 && is_some (symbol_of t)) _ _ _ e
    (λ here same. record { count = 0; is = sym (some_is same) ∙ omega arith; within = omega arith; unnamed = (both_true (nat_eq d 0) _ here).0 })
    (λ other e2. cond_then (nat_eq d 0 && bytes_eq t (codes ")")) _ _ _ e2
    (λ _ none. nothing none)
    (λ no_close e3.
    let next : NamedAt (depth_after d t) ts (from + 1) n = symbol_found (from + 1) (depth_after d t) n ts e3 in
    record {
      count = suc next.count;
      is = next.is ∙ omega arith;
      within = omega (arith, next.within);
      unnamed = rw (or_none (nat_eq d 0) (is_some (symbol_of t)) (bytes_eq t (codes ")")) other no_close) next.unnamed;
    }))

symbol_after : (from d : ℕ) (ws : Words) (s : List ℕ) (name : List ℕ) (rest : Words) → are_unnamed d ws ≡ true → symbol_of s ≡ Some name → symbol_from from d (ws ++ s ∷ rest) ≡ Some (from + length ws)
symbol_after from d [] s name rest e says = let same : from ≡ from + 0 = omega arith in rw (e, says) (ap Some same)
symbol_after from d (t ∷ ts) s name rest e says =
    let p : (not (nat_eq d 0 && (is_some (symbol_of t) || bytes_eq t (codes ")"))) ≡ true) × (are_unnamed (depth_after d t) ts ≡ true) = both_true (not (nat_eq d 0 && (is_some (symbol_of t) || bytes_eq t (codes ")")))) _ e in
    let q : (nat_eq d 0 && is_some (symbol_of t) ≡ false) × (nat_eq d 0 && bytes_eq t (codes ")") ≡ false) = none_or (nat_eq d 0) (is_some (symbol_of t)) (bytes_eq t (codes ")")) p.0 in
    let same : from + 1 + length ts ≡ from + suc (length ts) = omega arith in
    rw (q.0, q.1) (symbol_after (from + 1) (depth_after d t) ts s name rest p.1 says ∙ ap Some same)

-- ---- after the word `call`

-- the parts after the word `call`, for a name and a TAIL
record After (line : List ℕ) (name : Option (List ℕ)) (tail ts : List Token) (l : Line) : Type 0 where
  ret : Ty
  callee : List ℕ
  found : Arguments
  pre : List Token
  type : List Token
  symbol : Token
  paren : Token
  inside : List Token
  post : List Token
  whole : ts ≡ (pre ++ type) ++ (symbol ∷ paren ∷ inside)
  unnamed : are_unnamed 0 (words line (pre ++ type)) ≡ true
  returned : SpellsRet ret (words line type)
  named : symbol_of (word line symbol) ≡ Some callee
  opens : word line paren ≡ codes "("
  arguments : SpellsInside line found inside post
  gives : names_result name ret ≡ true
  follows : may_follow (words line post) ≡ true
  is : l ≡ called line name tail pre ret callee found post

-- a token that says a plain symbol, and another that opens the arguments
record Called (line : List ℕ) (ts : List Token) (callee : List ℕ) (i : Arguments × List Token) : Type 0 where
  symbol : Token
  paren : Token
  inside : List Token
  whole : ts ≡ symbol ∷ paren ∷ inside
  named : symbol_of (word line symbol) ≡ Some callee
  opens : word line paren ≡ codes "("
  arguments : SpellsInside line i.0 inside i.1

callee_found : (line : List ℕ) (ts : List Token) (f : List ℕ × Words) (i : Arguments × List Token) → one symbol_of (words line ts) ≡ Some f → arguments_at line (drop 1 ts) ≡ Some i → Called line ts f.0 i
unfolding arguments_at
callee_found line [] f i ef ei = nothing ef
callee_found line (s ∷ []) f i ef ei = nothing ei
callee_found line (s ∷ o ∷ ts) f i ef ei =
    let inside : (word line o ≡ codes "(") × SpellsInside line i.0 ts i.1 = inside_spelled line o ts i ei in
    record { symbol = s; paren = o; inside = ts; whole = refl; named = says (symbol_of (word line s)) refl; opens = inside.0; arguments = inside.1 }
  where
    says : (r : Option (List ℕ)) → symbol_of (word line s) ≡ r → symbol_of (word line s) ≡ Some f.0
    says r er = bind_then (symbol_of (word line s)) _ f ef (λ a ea same. ea ∙ ap Some (ap (λ (z : List ℕ × Words). z.0) (some_is same)))

-- the type at the end of tokens
record Returned (line : List ℕ) (t : Ty) (ts : List Token) : Type 0 where
  type : List Token
  whole : take (length ts - ty_len t) ts ++ type ≡ ts
  spelled : SpellsRet t (words line type)

ret_found : (line : List ℕ) (t : Ty) (ts : List Token) → ret_of line ts ≡ Some t → Returned line t ts
ret_found line t ts e =
    let end : Ends t (words line ts) = ret_ends t (words line ts) (sym (ret_is line ts) ∙ e) in
    let size : length (drop end.front (words line ts)) ≡ ty_len t = ret_size end.spelled in
    let front : length ts - ty_len t ≡ end.front = omega (arith, size, length-drop end.front (words line ts), end.within, length-map ts (word line)) in
    record {
      type = drop end.front ts;
      whole = ap (λ (k : ℕ). take k ts ++ drop end.front ts) front ∙ take-append-drop end.front ts;
      spelled = subst (SpellsRet t) (drop-map (word line) end.front ts) end.spelled;
    }

after_spelled : (line : List ℕ) (x : Option (List ℕ)) (tail ts : List Token) (l : Line) → call_after line x tail ts ≡ Some l → After line x tail ts l
unfolding call_after
after_spelled line x tail ts l e =
    bind_then (symbol_from 0 0 (words line ts)) _ l e (λ n en e1.
    bind_then (one symbol_of (words line (drop n ts))) _ l e1 (λ f ef e2.
    bind_then (ret_of line (take n ts)) _ l e2 (λ t et e3.
    bind_then (arguments_at line (drop 1 (drop n ts))) _ l e3 (λ i ei e4.
    when_then (names_result x t && may_follow (words line i.1)) _ l e4 (λ allowed same.
    let at : NamedAt 0 (words line ts) 0 n = symbol_found 0 0 n (words line ts) en in
    let c : Called line (drop n ts) f.0 i = callee_found line (drop n ts) f i ef ei in
    let r : Returned line t (take n ts) = ret_found line t (take n ts) et in
    let size : length (take n ts) ≡ n = omega (arith, length-take n ts, at.is, at.within, length-map ts (word line)) in
    let pre : List Token = take (n - ty_len t) (take n ts) in
    let both : pre ++ r.type ≡ take n ts = ap (λ (k : ℕ). take (k - ty_len t) (take n ts) ++ r.type) (sym size) ∙ r.whole in
    let own : take (n - ty_len t) ts ≡ pre = shorter (n - ty_len t) n ts (omega arith) in
    let ok : (names_result x t ≡ true) × (may_follow (words line i.1) ≡ true) = both_true (names_result x t) _ allowed in
    let counted : n ≡ at.count = omega (arith, at.is) in
    record {
      ret = t;
      callee = f.0;
      found = i.0;
      pre = pre;
      type = r.type;
      symbol = c.symbol;
      paren = c.paren;
      inside = c.inside;
      post = i.1;
      whole = sym (take-append-drop n ts) ∙ ap (λ (u : List Token). u ++ drop n ts) (sym both) ∙ ap (λ (u : List Token). (pre ++ r.type) ++ u) c.whole;
      unnamed = ap (λ (u : List Token). are_unnamed 0 (words line u)) both ∙ ap (are_unnamed 0) (sym (take-map (word line) n ts)) ∙ ap (λ (k : ℕ). are_unnamed 0 (take k (words line ts))) counted ∙ at.unnamed;
      returned = r.spelled;
      named = c.named;
      opens = c.opens;
      arguments = c.arguments;
      gives = ok.0;
      follows = ok.1;
      is = sym same ∙ ap (λ (u : List Token). called line x tail u t f.0 i.0 i.1) own;
    })))))
  where
    shorter : (k n : ℕ) (us : List Token) → k ≤ n → take k us ≡ take k (take n us)
    shorter zero n us l = refl
    shorter (suc k) zero us l = absurd (omega (arith, l))
    shorter (suc k) (suc n) [] l = refl
    shorter (suc k) (suc n) (u ∷ us) l = ap (λ (z : List Token). u ∷ z) (shorter k n us (omega (arith, l)))

after_read : (line : List ℕ) (x : Option (List ℕ)) (tail ts : List Token) (l : Line) → After line x tail ts l → call_after line x tail ts ≡ Some l
unfolding call_after
after_read line x tail ts l b =
    let front : List Token = b.pre ++ b.type in
    let rest : List Token = b.symbol ∷ b.paren ∷ b.inside in
    let k : ℕ = length front in
    let all_words : words line ts ≡ words line front ++ (word line b.symbol ∷ words line (b.paren ∷ b.inside)) = ap (words line) b.whole ∙ words_append line front rest in
    let count : 0 + length (words line front) ≡ k = omega (arith, length-map front (word line)) in
    let found : symbol_from 0 0 (words line ts) ≡ Some k =
    ap (symbol_from 0 0) all_words ∙ symbol_after 0 0 (words line front) (word line b.symbol) b.callee (words line (b.paren ∷ b.inside)) b.unnamed b.named ∙ ap Some count in
    let back : drop k ts ≡ rest = ap (drop k) b.whole ∙ drop-append_seam front rest in
    let first : take k ts ≡ front = ap (take k) b.whole ∙ take-append_seam front rest in
    let returned : ret_of line (take k ts) ≡ Some b.ret = ap (ret_of line) first ∙ ret_reads line b.ret b.pre b.type b.returned in
    let less : k - ty_len b.ret ≡ length b.pre = omega (arith, length-append b.pre b.type, length-map b.type (word line), ret_size b.returned) in
    let kept : take (k - ty_len b.ret) ts ≡ b.pre = ap (λ (n : ℕ). take n ts) less ∙ ap (take (length b.pre)) (b.whole ∙ append_assoc b.pre b.type rest) ∙ take-append_seam b.pre (b.type ++ rest) in
    let arguments : arguments_at line (b.paren ∷ b.inside) ≡ Some (b.found, b.post) = inside_read b.arguments b.paren b.opens in
    rw (found, back, b.named, returned, arguments, b.gives, b.follows, kept) (ap Some (sym b.is))

-- ---- after the name of the result

-- a TAIL with `call` after it, and the rest
record For (line : List ℕ) (name : Option (List ℕ)) (ts : List Token) (l : Line) : Type 0 where
  tail : List Token
  call : Token
  rest : List Token
  whole : ts ≡ tail ++ call ∷ rest
  tailed : SpellsTail line tail
  calls : word line call ≡ codes "call"
  after : After line name tail rest l

-- so many words of TAIL
for_at : (line : List ℕ) (x : Option (List ℕ)) (n : ℕ) (ts : List Token) (l : Line) → SpellsTail line (take n ts) → cond (is_first (codes "call") (words line (drop n ts))) (call_after line x (take n ts) (drop 1 (drop n ts))) None ≡ Some l → For line x ts l
for_at line x n ts l tailed e =
    cond_then (is_first (codes "call") (words line (drop n ts))) _ _ _ e
    (λ first r. here (drop n ts) refl first r)
    (λ _ none. nothing none)
  where
    here : (us : List Token) → drop n ts ≡ us → is_first (codes "call") (words line (drop n ts)) ≡ true → call_after line x (take n ts) (drop 1 (drop n ts)) ≡ Some l → For line x ts l
    here [] eu first r = clash (sym (ap (λ (z : List Token). is_first (codes "call") (words line z)) (sym eu) ∙ first))
    here (c ∷ us) eu first r = record {
      tail = take n ts;
      call = c;
      rest = us;
      whole = sym (take-append-drop n ts) ∙ ap (λ (z : List Token). take n ts ++ z) eu;
      tailed = tailed;
      calls = bytes_is (word line c) (codes "call") (ap (λ (z : List Token). is_first (codes "call") (words line z)) (sym eu) ∙ first);
      after = after_spelled line x (take n ts) us l (ap (λ (z : List Token). call_after line x (take n ts) (drop 1 z)) (sym eu) ∙ r);
    }

for_spelled : (line : List ℕ) (x : Option (List ℕ)) (ts : List Token) (l : Line) → call_for line x ts ≡ Some l → For line x ts l
unfolding call_for
for_spelled line x [] l e = nothing e
for_spelled line x (t ∷ ts) l e = here (bytes_eq (word line t) (codes "tail")) (bytes_eq (word line t) (codes "notail")) refl refl e where
  here : (a b : Bool) → bytes_eq (word line t) (codes "tail") ≡ a → bytes_eq (word line t) (codes "notail") ≡ b →
      cond (is_first (codes "call") (words line (drop (cond (a || b) 1 0) (t ∷ ts)))) (call_after line x (take (cond (a || b) 1 0) (t ∷ ts)) (drop 1 (drop (cond (a || b) 1 0) (t ∷ ts)))) None ≡ Some l → For line x (t ∷ ts) l
  here true b ea eb r = for_at line x 1 (t ∷ ts) l (Tail t (bytes_is (word line t) (codes "tail") ea)) r
  here false true ea eb r = for_at line x 1 (t ∷ ts) l (NoTail t (bytes_is (word line t) (codes "notail") eb)) r
  here false false ea eb r = for_at line x 0 (t ∷ ts) l Untold r

-- so many words of TAIL, with `call` after them
for_words : (line : List ℕ) (x : Option (List ℕ)) (n : ℕ) (ts tail : List Token) (c : Token) (rest : List Token) (l : Line) → tail_len (words line ts) ≡ n → take n ts ≡ tail → drop n ts ≡ c ∷ rest → word line c ≡ codes "call" →
    call_after line x tail rest ≡ Some l → call_for line x ts ≡ Some l
unfolding call_for
for_words line x n ts tail c rest l size own back calls e =
    ap (λ (k : ℕ). cond (is_first (codes "call") (words line (drop k ts))) (call_after line x (take k ts) (drop 1 (drop k ts))) None) size
    ∙ ap (λ (us : List Token). cond (is_first (codes "call") (words line us)) (call_after line x (take n ts) (drop 1 us)) None) back
    ∙ ap (λ (us : List Token). cond (bytes_eq (word line c) (codes "call")) (call_after line x us rest) None) own
    ∙ ap (λ (w : List ℕ). cond (bytes_eq w (codes "call")) (call_after line x tail rest) None) calls
    ∙ e

for_read : (line : List ℕ) (x : Option (List ℕ)) (ts : List Token) (l : Line) → For line x ts l → call_for line x ts ≡ Some l
for_read line x ts l f = ap (call_for line x) f.whole ∙ here f.tail f.tailed f.after where
  here : (tail : List Token) → SpellsTail line tail → After line x tail f.rest l → call_for line x (tail ++ f.call ∷ f.rest) ≡ Some l
  here _ Untold b = for_words line x 0 (f.call ∷ f.rest) [] f.call f.rest l (rw f.calls refl) refl refl f.calls (after_read line x [] f.rest l b)
  here _ (Tail t w) b = for_words line x 1 (t ∷ f.call ∷ f.rest) (t ∷ []) f.call f.rest l (rw w refl) refl refl f.calls (after_read line x (t ∷ []) f.rest l b)
  here _ (NoTail t w) b = for_words line x 1 (t ∷ f.call ∷ f.rest) (t ∷ []) f.call f.rest l (rw w refl) refl refl f.calls (after_read line x (t ∷ []) f.rest l b)

-- ---- the whole

spelled_of : (line : List ℕ) (x : Option (List ℕ)) (front ts : List Token) (l : Line) → SpellsResult line x front → For line x ts l → SpellsCall line (front ++ ts) l
spelled_of line x front ts l r f = record {
  name = x;
  ret = f.after.ret;
  callee = f.after.callee;
  found = f.after.found;
  front = front;
  tail = f.tail;
  call = f.call;
  pre = f.after.pre;
  type = f.after.type;
  symbol = f.after.symbol;
  paren = f.after.paren;
  inside = f.after.inside;
  post = f.after.post;
  whole = ap (λ (z : List Token). front ++ z) (f.whole ∙ ap (λ (z : List Token). f.tail ++ f.call ∷ z) f.after.whole);
  result = r;
  tailed = f.tailed;
  calls = f.calls;
  unnamed = f.after.unnamed;
  returned = f.after.returned;
  named = f.after.named;
  opens = f.after.opens;
  arguments = f.after.arguments;
  gives = f.after.gives;
  follows = f.after.follows;
  is = f.after.is;
}

pub call_spelled : (line : List ℕ) (ts : List Token) (l : Line) → call line ts ≡ Some l → SpellsCall line ts l
unfolding call
call_spelled line ts l e =
    choose_then (one local_of (words line ts)) _ _ l e
    (λ x ex r. cond_then (is_first (codes "=") (words line (drop 1 ts))) _ _ _ r (λ equals r2. named ts x ex equals r2) (λ _ none. nothing none))
    (λ _ r. spelled_of line None [] ts l Unnamed (for_spelled line None ts l r))
  where
    named : (ts : List Token) (x : List ℕ × Words) → one local_of (words line ts) ≡ Some x → is_first (codes "=") (words line (drop 1 ts)) ≡ true → call_for line (Some x.0) (drop 2 ts) ≡ Some l → SpellsCall line ts l
    named [] x ex equals r = nothing ex
    named (t ∷ []) x ex equals r = clash (sym equals)
    named (t ∷ u ∷ us) x ex equals r =
        bind_then (local_of (word line t)) _ x ex (λ a ea same.
        let is : a ≡ x.0 = ap (λ (z : List ℕ × Words). z.0) (some_is same) in
        spelled_of line (Some x.0) (t ∷ u ∷ []) us l (Named x.0 t u (ea ∙ ap Some is) (bytes_is (word line u) (codes "=") equals)) (for_spelled line (Some x.0) us l r))

for_of : {line : List ℕ} {ts : List Token} {l : Line} → (s : SpellsCall line ts l) → For line s.name (s.tail ++ (s.call ∷ (s.pre ++ s.type) ++ (s.symbol ∷ s.paren ∷ s.inside))) l
for_of s = record {
  tail = s.tail;
  call = s.call;
  rest = (s.pre ++ s.type) ++ (s.symbol ∷ s.paren ∷ s.inside);
  whole = refl;
  tailed = s.tailed;
  calls = s.calls;
  after = record {
    ret = s.ret;
    callee = s.callee;
    found = s.found;
    pre = s.pre;
    type = s.type;
    symbol = s.symbol;
    paren = s.paren;
    inside = s.inside;
    post = s.post;
    whole = refl;
    unnamed = s.unnamed;
    returned = s.returned;
    named = s.named;
    opens = s.opens;
    arguments = s.arguments;
    gives = s.gives;
    follows = s.follows;
    is = s.is;
  };
}

-- neither TAIL nor `call` is the name of a local
no_local : (line : List ℕ) (tail : List Token) (c : Token) (rest : List Token) → SpellsTail line tail → word line c ≡ codes "call" → one local_of (words line (tail ++ c ∷ rest)) ≡ None
unfolding local_of
no_local line _ c rest Untold w = rw w refl
no_local line _ c rest (Tail t v) w = rw v refl
no_local line _ c rest (NoTail t v) w = rw v refl

result_read : (line : List ℕ) (x : Option (List ℕ)) (front ts : List Token) (l : Line) → SpellsResult line x front → one local_of (words line ts) ≡ None → call_for line x ts ≡ Some l → call line (front ++ ts) ≡ Some l
unfolding call
result_read line _ _ ts l Unnamed none r = rw none r
result_read line _ _ ts l (Named name t u says equals) none r = rw (says, equals) r

pub call_read : {line : List ℕ} {ts : List Token} {l : Line} → SpellsCall line ts l → call line ts ≡ Some l
call_read {line} {ts} {l} s =
    ap (call line) s.whole
    ∙ result_read line s.name s.front _ l s.result (no_local line s.tail s.call _ s.tailed s.calls) (for_read line s.name _ l (for_of s))

-- The first line of a text, by the number of bytes before its first line feed.
use Rattle.std.proofs.Common.{◌≡◌, ℕ, suc, ◌+◌, ◌-◌, ◌<◌, ◌≤◌, ◌==◌, Bool, true, false, ◌&&◌, cond, List, [], ◌∷◌, length, get_or, take, drop, refl, ap, sym, ◌∙◌, arith}
use Rattle.std.proofs.lemmas.List.{take_rest}
use Rattle.ir_read.specs.Lines.{lines_of, onto, line_len, without_return}

-- a text with a line feed: its first line stands before that
abbrev pub IsSplit : List ℕ → Type 0
IsSplit bs = lines_of bs ≡ without_return (take (line_len bs) bs) ∷ lines_of (drop (suc (line_len bs)) bs)

-- a byte that is no feed, in front of the line that ends at a feed at once
at_feed : (h : Bool) (b : ℕ) (rest : List (List ℕ)) (ls : List (List ℕ)) → ls ≡ [] ∷ rest → cond (h && true) ls (onto b ls) ≡ cond h [] (b ∷ []) ∷ rest
at_feed true b rest ls e = e
at_feed false b rest ls e = ap (onto b) e

-- a byte that is no feed, in front of a longer line
in_line : (h : Bool) (b c : ℕ) (xs : List ℕ) (rest : List (List ℕ)) (ls : List (List ℕ)) → ls ≡ without_return (c ∷ xs) ∷ rest → cond (h && false) ls (onto b ls) ≡ (b ∷ without_return (c ∷ xs)) ∷ rest
in_line true b c xs rest ls e = ap (onto b) e
in_line false b c xs rest ls e = ap (onto b) e

after : (b c : ℕ) (cs : List ℕ) (g : Bool) → (c == 10) ≡ g → IsSplit (c ∷ cs) → cond ((b == 13) && (c == 10)) (lines_of (c ∷ cs)) (onto b (lines_of (c ∷ cs))) ≡ without_return (b ∷ take (line_len (c ∷ cs)) (c ∷ cs)) ∷ lines_of (drop (suc (line_len (c ∷ cs))) (c ∷ cs))
after b c cs true feed ih = rw feed (at_feed (b == 13) b _ _ (rw feed at ih))
after b c cs false other ih = rw other (in_line (b == 13) b c _ _ _ (rw other at ih))

split_one : (b : ℕ) (f : Bool) → (b == 10) ≡ f → line_len (b ∷ []) < 1 → IsSplit (b ∷ [])
split_one b true feed within = rw feed refl
split_one b false other within = absurd (let h : 1 < 1 = rw other at within in omega (arith, h))

split_more : (b c : ℕ) (cs : List ℕ) (f : Bool) → (b == 10) ≡ f → (line_len (c ∷ cs) < length (c ∷ cs) → IsSplit (c ∷ cs)) → line_len (b ∷ c ∷ cs) < length (b ∷ c ∷ cs) → IsSplit (b ∷ c ∷ cs)
split_more b c cs true feed ih within = rw feed refl
split_more b c cs false other ih within =
    let less : suc (line_len (c ∷ cs)) < suc (length (c ∷ cs)) = rw other at within in
    rw other (after b c cs (c == 10) refl (ih (omega (arith, less))))

-- where a line feed comes, the first line stands before it
pub split_at_feed : (bs : List ℕ) → line_len bs < length bs → IsSplit bs
split_at_feed [] within = absurd (omega arith)
split_at_feed (b ∷ []) within = split_one b (b == 10) refl within
split_at_feed (b ∷ c ∷ cs) within = split_more b c cs (b == 10) refl (split_at_feed (c ∷ cs)) within

onto_none : (h : Bool) (b : ℕ) (ls : List (List ℕ)) → cond (h && false) ls (onto b ls) ≡ onto b ls
onto_none true b ls = refl
onto_none false b ls = refl

last_one : (b : ℕ) (f : Bool) → (b == 10) ≡ f → 1 ≤ line_len (b ∷ []) → lines_of (b ∷ []) ≡ (b ∷ []) ∷ []
last_one b true feed all = absurd (let h : 1 ≤ 0 = rw feed at all in omega (arith, h))
last_one b false other all = rw other (onto_none (b == 13) b [])

last_more : (b c : ℕ) (cs : List ℕ) (f g : Bool) → (b == 10) ≡ f → (c == 10) ≡ g → (length (c ∷ cs) ≤ line_len (c ∷ cs) → lines_of (c ∷ cs) ≡ (c ∷ cs) ∷ []) → length (b ∷ c ∷ cs) ≤ line_len (b ∷ c ∷ cs) → lines_of (b ∷ c ∷ cs) ≡ (b ∷ c ∷ cs) ∷ []
last_more b c cs true g feed e ih all = absurd (let h : suc (length (c ∷ cs)) ≤ 0 = rw feed at all in omega (arith, h))
last_more b c cs false true other feed ih all =
    absurd (let h : suc (suc (length cs)) ≤ suc (line_len (c ∷ cs)) = rw other at all in let k : suc (suc (length cs)) ≤ 1 = rw feed at h in omega (arith, k))
last_more b c cs false false other apart ih all =
    let less : suc (length (c ∷ cs)) ≤ suc (line_len (c ∷ cs)) = rw other at all in
    let rest : lines_of (c ∷ cs) ≡ (c ∷ cs) ∷ [] = ih (omega (arith, less)) in
    rw other (ap (λ g. cond ((b == 13) && g) (lines_of (c ∷ cs)) (onto b (lines_of (c ∷ cs)))) apart ∙ onto_none (b == 13) b (lines_of (c ∷ cs)) ∙ ap (onto b) rest)

-- where none comes, the whole is one line
pub last_line : (bs : List ℕ) → 0 < length bs → length bs ≤ line_len bs → lines_of bs ≡ bs ∷ []
last_line [] some all = absurd (omega arith)
last_line (b ∷ []) some all = last_one b (b == 10) refl all
last_line (b ∷ c ∷ cs) some all = last_more b c cs (b == 10) (c == 10) refl refl (last_line (c ∷ cs) (omega arith)) all

cons_cond : (t : Bool) (b : ℕ) (xs ys : List ℕ) → b ∷ cond t xs ys ≡ cond t (b ∷ xs) (b ∷ ys)
cons_cond true b xs ys = refl
cons_cond false b xs ys = refl

-- a carriage return at the end goes, any other byte there stays
pub stripped : (xs : List ℕ) → 1 ≤ length xs → without_return xs ≡ cond (get_or xs (length xs - 1) 0 == 13) (take (length xs - 1) xs) xs
stripped [] some = absurd (omega arith)
stripped (b ∷ []) some = refl
stripped (b ∷ c ∷ cs) some =
    let last : length (b ∷ c ∷ cs) - 1 ≡ suc (length (c ∷ cs) - 1) = omega arith in
    rw last (ap (λ xs. b ∷ xs) (stripped (c ∷ cs) (omega arith)) ∙ cons_cond (get_or (c ∷ cs) (length (c ∷ cs) - 1) 0 == 13) b (take (length (c ∷ cs) - 1) (c ∷ cs)) (c ∷ cs))

pub shorter : (xs : List ℕ) → length (without_return xs) ≤ length xs
shorter [] = omega arith
shorter (b ∷ []) = one (b == 13)
  where
    one : (t : Bool) → length (cond t [] (b ∷ [])) ≤ 1
    one true = omega arith
    one false = omega arith
shorter (b ∷ c ∷ cs) = omega (arith, shorter (c ∷ cs))

pub cut_at : (bs line : List ℕ) (at : ℕ) → at ≡ line_len bs → line ≡ without_return (take at bs) → at < length bs → lines_of bs ≡ line ∷ lines_of (take (length bs - (at + 1)) (drop (at + 1) bs))
cut_at bs line at here said within =
    let split : IsSplit bs = split_at_feed bs (omega arith) in
    let same : line ≡ without_return (take (line_len bs) bs) = said ∙ ap (λ n. without_return (take n bs)) here in
    let next : at + 1 ≡ suc (line_len bs) = omega arith in
    let rest : take (length bs - (at + 1)) (drop (at + 1) bs) ≡ drop (suc (line_len bs)) bs = take_rest bs (at + 1) ∙ ap (λ n. drop n bs) next in
    split ∙ ap (λ l. l ∷ lines_of (drop (suc (line_len bs)) bs)) (sym same) ∙ ap (λ r. line ∷ lines_of r) (sym rest)

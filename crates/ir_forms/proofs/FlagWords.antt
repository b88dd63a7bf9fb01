-- Flags: what is read is spelled so, and what is spelled so is read.
use Rattle.std.proofs.Common.{◌≡◌, ℕ, suc, Bool, true, false, cond, List, [], ◌∷◌, ◌++◌, Some, refl, ap, subst}
use Rattle.std.specs.List.{list_all}
use Rattle.ir_words.specs.declared.flags.FlagSet.{FlagSet}
use Rattle.ir_words.specs.Words.{Words}
use Rattle.ir_words.specs.Reading.{allows, is_distinct, flags_len, split, flags_at}
use Rattle.ir_forms.specs.Pieces.{SpellsFlags}
use Rattle.ir_forms.proofs.Steps.{when_then, both_true}

-- what stands in front of the words that are no flags
record Front (set : FlagSet) (ts : Words) (x : Words × Words) : Type 0 where
  front : ts ≡ x.0 ++ x.1
  of_set : list_all (allows set) x.0 ≡ true
  no_more : (word : List ℕ) (more : Words) → x.1 ≡ word ∷ more → allows set word ≡ false

no_first : (set : FlagSet) (t word : List ℕ) (ts more : Words) → t ∷ ts ≡ word ∷ more → allows set t ≡ false → allows set word ≡ false
no_first set t word ts more e h = let same : t ≡ word = cc in subst (λ (x : List ℕ). allows set x ≡ false) same h

front_of : (set : FlagSet) (ts : Words) → Front set ts (split (flags_len set ts) ts)
front_of set [] = record { front = refl; of_set = refl; no_more = λ word more e. empty word more e } where
  empty : (word : List ℕ) (more : Words) → [] ≡ word ∷ more → allows set word ≡ false
  empty word more e = cc
front_of set (t ∷ ts) = here (allows set t) refl (front_of set ts) where
  here : (b : Bool) → allows set t ≡ b → Front set ts (split (flags_len set ts) ts) → Front set (t ∷ ts) (split (cond b (suc (flags_len set ts)) 0) (t ∷ ts))
  here true e more = record { front = ap (λ (y : Words). t ∷ y) more.front; of_set = rw (e, more.of_set) refl; no_more = more.no_more }
  here false e more = record { front = refl; of_set = refl; no_more = λ word rest same. no_first set t word ts rest same e }

pub flags_taken : (set : FlagSet) (ts : Words) (x : Words × Words) → flags_at set ts ≡ Some x → SpellsFlags set x.0 ts x.1
unfolding flags_at
flags_taken set ts x e =
    when_then (is_distinct (split (flags_len set ts) ts).0) (split (flags_len set ts) ts) x e (λ once r.
    let f : Front set ts (split (flags_len set ts) ts) = front_of set ts in
    subst (λ (z : Words × Words). SpellsFlags set z.0 ts z.1) r (record { front = f.front; of_set = f.of_set; once = once; no_more = f.no_more }))

len_is : (set : FlagSet) (fs rest : Words) → list_all (allows set) fs ≡ true → ((word : List ℕ) (more : Words) → rest ≡ word ∷ more → allows set word ≡ false) → split (flags_len set (fs ++ rest)) (fs ++ rest) ≡ (fs, rest)
len_is set [] [] all no_more = refl
len_is set [] (t ∷ ts) all no_more = rw (no_more t ts refl) refl
len_is set (f ∷ fs) rest all no_more =
    let here : allows set f ≡ true = (both_true _ _ all).0 in
    rw here (ap (λ (p : Words × Words). (f ∷ p.0, p.1)) (len_is set fs rest (both_true _ _ all).1 no_more))

pub flags_takes : (set : FlagSet) (fs ts rest : Words) → SpellsFlags set fs ts rest → flags_at set ts ≡ Some (fs, rest)
unfolding flags_at
flags_takes set fs ts rest s =
    let e : split (flags_len set (fs ++ rest)) (fs ++ rest) ≡ (fs, rest) = len_is set fs rest s.of_set s.no_more in
    rw (s.front, e, s.once) refl

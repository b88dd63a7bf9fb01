-- What is known after some of the words were read without a fault.
use Rattle.std.proofs.Common.{◌≡◌, ◌≢◌, ℕ, zero, suc, ◌+◌, ◌<◌, ◌⊎◌, List, [], ◌∷◌, length, Bool, true, false, Some, refl, sym, ◌∙◌, ap, subst, inl, inr, arith, slice_get, slice_set, replicate, length-set, map, get_or}
use Rattle.std.proofs.lemmas.Option.{slice_get_within, slice_get_read, slice_get-map}
use Rattle.ir_types.specs.declared.table.Table.{Table}
use Rattle.vx_cost.specs.Keys.{place_of}
use Rattle.vx_cost.specs.Settings.{IsSetting, SetsAt, IsBadAt, IsTwiceAt, IsFaultyAt, IsFirstFault, IsTableWith}
use Rattle.vx_cost.specs.declared.key.Key.{Key}
use Rattle.vx_cost.specs.declared.key.Key.TheVariants.{Int, Vint, Mul, Vmul, Div, Vdiv, Cmp, Vcmp, Cast, Vcast, Select, Vselect, Load, Vload, Store, Vstore, Addr, Insert, Extract, Shuffle}
use Rattle.vx_cost.proofs.Spelling.{SameSetting, same_at, place_bound, place_of_injective}

-- the first `i` words are settings of different keys; `taken` marks these keys, and `new` has their costs
pub record IsAfter (words : List (List ℕ)) (i : ℕ) (taken : List Bool) (old new : List ℕ) : Type 0 where
  pub marks : length taken ≡ 20
  pub costs : length new ≡ 20
  pub quiet : (k : ℕ) → k < i → IsFaultyAt words k → ⊥
  pub sound : (key : Key) → slice_get taken (place_of key) ≡ Some true → (k : ℕ) × (n : ℕ) × (k < i) × SetsAt words k key n
  pub complete : (k : ℕ) (key : Key) (n : ℕ) → k < i → SetsAt words k key n → slice_get taken (place_of key) ≡ Some true
  pub set : (k : ℕ) (key : Key) (n : ℕ) → k < i → SetsAt words k key n → slice_get new (place_of key) ≡ Some n
  pub kept : (key : Key) → ((k n : ℕ) → k < i → SetsAt words k key n → ⊥) → slice_get new (place_of key) ≡ slice_get old (place_of key)

slice_get-set_same : {A : Type 0} (xs : List A) (i : ℕ) (v : A) → i < length xs → slice_get (slice_set xs i v) i ≡ Some v
slice_get-set_same [] i v h = absurd (omega arith)
slice_get-set_same (x ∷ xs) zero v h = refl
slice_get-set_same (x ∷ xs) (suc i) v h = slice_get-set_same xs i v (omega arith)

slice_get-set_other : {A : Type 0} (xs : List A) (i j : ℕ) (v : A) → j ≢ i → slice_get (slice_set xs i v) j ≡ slice_get xs j
slice_get-set_other [] i j v h = refl
slice_get-set_other (x ∷ xs) zero zero v h = absurd (h refl)
slice_get-set_other (x ∷ xs) zero (suc j) v h = refl
slice_get-set_other (x ∷ xs) (suc i) zero v h = refl
slice_get-set_other (x ∷ xs) (suc i) (suc j) v h = slice_get-set_other xs i j v (λ e. h (ap suc e))

unmarked : (key : Key) → slice_get (replicate 20 false) (place_of key) ≡ Some false
unmarked Int = refl
unmarked Vint = refl
unmarked Mul = refl
unmarked Vmul = refl
unmarked Div = refl
unmarked Vdiv = refl
unmarked Cmp = refl
unmarked Vcmp = refl
unmarked Cast = refl
unmarked Vcast = refl
unmarked Select = refl
unmarked Vselect = refl
unmarked Load = refl
unmarked Vload = refl
unmarked Store = refl
unmarked Vstore = refl
unmarked Addr = refl
unmarked Insert = refl
unmarked Extract = refl
unmarked Shuffle = refl

-- before the first word
pub no_word_yet : (words : List (List ℕ)) (old : List ℕ) → length old ≡ 20 → IsAfter words 0 (replicate 20 false) old old
no_word_yet words old few = record {
  marks = refl;
  costs = few;
  quiet = λ k h. absurd (omega arith);
  sound = λ key e. (let no : slice_get (replicate 20 false) (place_of key) ≡ Some false = unmarked key in cc);
  complete = λ k key n h. absurd (omega arith);
  set = λ k key n h. absurd (omega arith);
  kept = λ key none. refl;
}

-- whether two numbers are one
one_or_other : (a b : ℕ) → (a ≡ b) ⊎ (a ≢ b)
one_or_other a b = grind arith

before_or_at : (k i : ℕ) → k < i + 1 → (k < i) ⊎ (k ≡ i)
before_or_at k i h = grind arith

-- a word that sets a key which is not taken is not faulty
fresh_is_fine : (words : List (List ℕ)) (i : ℕ) (taken : List Bool) (old new : List ℕ) (key : Key) (n : ℕ) → IsAfter words i taken old new → SetsAt words i key n → slice_get taken (place_of key) ≡ Some false → IsFaultyAt words i → ⊥
fresh_is_fine words i taken old new key n a s free (inl bad) = bad.no_setting key n s
fresh_is_fine words i taken old new key n a s free (inr twice) =
    let same : SameSetting key twice.key n twice.second_cost = same_at words i key twice.key n twice.second_cost s twice.second in
    let marked : slice_get taken (place_of twice.key) ≡ Some true = a.complete twice.earlier twice.key twice.first_cost twice.before twice.first in
    let one : key ≡ twice.key = same.key in
    let free_too : slice_get taken (place_of twice.key) ≡ Some false = subst (λ (k : Key). slice_get taken (place_of k) ≡ Some false) one free in cc

-- one more word, which sets a key that is not taken
pub one_more : (words : List (List ℕ)) (i : ℕ) (taken : List Bool) (old new : List ℕ) (key : Key) (n : ℕ) → IsAfter words i taken old new → SetsAt words i key n → slice_get taken (place_of key) ≡ Some false → IsAfter words (i + 1) (slice_set taken (place_of key) true) old (slice_set new (place_of key) n)
one_more words i taken old new key n a s free = record {
  marks = length-set taken (place_of key) true ∙ a.marks;
  costs = length-set new (place_of key) n ∙ a.costs;
  quiet = λ k h fault. elim (before_or_at k i h) [ inl low ↦ a.quiet k low fault | inr e ↦ fresh_is_fine words i taken old new key n a s free (subst (IsFaultyAt words) e fault) ];
  sound = λ other e. elim (one_or_other (place_of other) (place_of key)) [
    | inl p ↦ (i, n, omega arith, subst (λ (q : Key). SetsAt words i q n) (sym (place_of_injective other key p)) s)
    | inr p ↦ (let old_mark : slice_get taken (place_of other) ≡ Some true = sym (slice_get-set_other taken (place_of key) (place_of other) true p) ∙ e in
        let found : (k : ℕ) × (m : ℕ) × (k < i) × SetsAt words k other m = a.sound other old_mark in
        (found.0, found.1, omega (arith, found.2), found.3))
  ];
  complete = λ k other m h t. elim (one_or_other (place_of other) (place_of key)) [
    | inl p ↦ rw p (slice_get-set_same taken (place_of key) true (omega (arith, place_bound key, a.marks)))
    | inr p ↦ slice_get-set_other taken (place_of key) (place_of other) true p ∙ elim (before_or_at k i h) [
      | inl low ↦ a.complete k other m low t
      | inr e ↦ absurd (p (ap place_of (same_at words i other key m n (subst (λ (j : ℕ). SetsAt words j other m) e t) s).key))
    ]
  ];
  set = λ k other m h t. elim (before_or_at k i h) [
    | inl low ↦ elim (one_or_other (place_of other) (place_of key)) [
      | inl p ↦ (let marked : slice_get taken (place_of other) ≡ Some true = a.complete k other m low t in
          let unmarked_too : slice_get taken (place_of other) ≡ Some false = rw p free in cc)
      | inr p ↦ slice_get-set_other new (place_of key) (place_of other) n p ∙ a.set k other m low t
    ]
    | inr e ↦ (let same : SameSetting other key m n = same_at words i other key m n (subst (λ (j : ℕ). SetsAt words j other m) e t) s in
        rw (ap place_of same.key, same.number) (slice_get-set_same new (place_of key) n (omega (arith, place_bound key, a.costs))))
  ];
  kept = λ other none. slice_get-set_other new (place_of key) (place_of other) n (λ p. none i n (omega arith) (subst (λ (q : Key). SetsAt words i q n) (sym (place_of_injective other key p)) s))
      ∙ a.kept other (λ k m h t. none k m (omega (arith, h)) t);
}

at_within : (words : List (List ℕ)) (k : ℕ) (key : Key) (n : ℕ) → SetsAt words k key n → k < length words
at_within words k key n t = slice_get_within words k t.word t.there

-- no word is left
pub all_read : (words : List (List ℕ)) (taken : List Bool) (old new : Table) → IsAfter words (length words) taken old.costs new.costs → IsTableWith words old new
all_read words taken old new a = record {
  set = λ k key n t. a.set k key n (at_within words k key n t) t;
  kept = λ key none. a.kept key (λ k n h t. none k n t);
}

three_ways : (j k : ℕ) → (j < k) ⊎ ((j ≡ k) ⊎ (k < j))
three_ways j k = grind arith

-- the first faulty word is one word, with one fault
pub same_first : (words : List (List ℕ)) (j k : ℕ) → IsFirstFault words j → IsFirstFault words k → j ≡ k
same_first words j k f g = elim (three_ways j k) [
  | inl low ↦ absurd (g.first j low f.fault)
  | inr more ↦ elim more [ inl e ↦ e | inr high ↦ absurd (f.first k high g.fault) ]
]

one_fault : (words : List (List ℕ)) (k : ℕ) → IsBadAt words k → IsTwiceAt words k → ⊥
one_fault words k bad twice = bad.no_setting twice.key twice.second_cost twice.second

-- the bytes of a word that a loop over the words has come to
pub word_there : {X : Type 0} (bytes : X → List ℕ) (words : List X) (i j : ℕ) (w : X) → j ≡ i → i < length words → w ≡ get_or words i w → slice_get (map bytes words) j ≡ Some (bytes w)
word_there bytes words i j w e h is =
    let at : slice_get words i ≡ Some w = slice_get_read words (length words) i w refl h is in
    rw (e, slice_get-map, at) refl

-- a word that is no setting is the first fault
pub bad_there : (words : List (List ℕ)) (i : ℕ) (w : List ℕ) → slice_get words i ≡ Some w → ((key : Key) (n : ℕ) → IsSetting w key n → ⊥) → IsBadAt words i
bad_there words i w at none = record {
  there = slice_get_within words i w at;
  no_setting = λ key n s. (let first : slice_get words i ≡ Some w = at in
      let second : slice_get words i ≡ Some s.word = s.there in
      let e : s.word ≡ w = cc in
      none key n (subst (λ v. IsSetting v key n) e s.setting));
}

-- a key that is marked was set before
pub twice_there : (words : List (List ℕ)) (i : ℕ) (taken : List Bool) (old new : List ℕ) (key : Key) (n : ℕ) → IsAfter words i taken old new → SetsAt words i key n → slice_get taken (place_of key) ≡ Some true → IsTwiceAt words i
twice_there words i taken old new key n a s marked =
    let found : (k : ℕ) × (m : ℕ) × (k < i) × SetsAt words k key m = a.sound key marked in
    record { key = key; earlier = found.0; before = found.2; first_cost = found.1; first = found.3; second_cost = n; second = s }

-- what the refusal of a word that is no setting means
pub record RefusesBad (words : List (List ℕ)) (i : ℕ) : Type 0 where
  pub first : IsFirstFault words i
  pub bad : IsBadAt words i

pub record RefusesTwice (words : List (List ℕ)) (i : ℕ) : Type 0 where
  pub first : IsFirstFault words i
  pub twice : IsTwiceAt words i

pub bad_same : (words : List (List ℕ)) (i k : ℕ) → RefusesBad words i → IsFirstFault words k → i ≡ k
bad_same words i k r f = same_first words i k r.first f

pub refuses_bad : (words : List (List ℕ)) (i : ℕ) (taken : List Bool) (old new : List ℕ) (w : List ℕ) → IsAfter words i taken old new → slice_get words i ≡ Some w → ((key : Key) (n : ℕ) → IsSetting w key n → ⊥) → RefusesBad words i
refuses_bad words i taken old new w a at none =
    let bad : IsBadAt words i = bad_there words i w at none in
    record { first = record { fault = inl bad; first = a.quiet }; bad = bad }

pub refuses_twice : (words : List (List ℕ)) (i : ℕ) (taken : List Bool) (old new : List ℕ) (key : Key) (n : ℕ) → IsAfter words i taken old new → SetsAt words i key n → slice_get taken (place_of key) ≡ Some true → RefusesTwice words i
refuses_twice words i taken old new key n a s marked =
    let twice : IsTwiceAt words i = twice_there words i taken old new key n a s marked in
    record { first = record { fault = inr twice; first = a.quiet }; twice = twice }

-- one first fault is not of both kinds
pub not_twice : (words : List (List ℕ)) (i k : ℕ) → RefusesBad words i → IsFirstFault words k → IsTwiceAt words k → ⊥
not_twice words i k r f t = one_fault words i r.bad (subst (IsTwiceAt words) (sym (same_first words i k r.first f)) t)

pub not_bad : (words : List (List ℕ)) (i k : ℕ) → RefusesTwice words i → IsFirstFault words k → IsBadAt words k → ⊥
not_bad words i k r f b = one_fault words i (subst (IsBadAt words) (sym (same_first words i k r.first f)) b) r.twice

-- where all words were read, none is faulty
pub none_faulty : (words : List (List ℕ)) (taken : List Bool) (old new : List ℕ) (k : ℕ) → IsAfter words (length words) taken old new → IsFaultyAt words k → ⊥
none_faulty words taken old new k a (inl bad) = a.quiet k bad.there (inl bad)
none_faulty words taken old new k a (inr twice) = a.quiet k (at_within words k twice.key twice.second_cost twice.second) (inr twice)

-- A setting's word shows its key and its number.
use Rattle.std.proofs.Common.{◌≡◌, ℕ, ◌<◌, ◌^◌, ◌==◌, List, ◌∷◌, ◌++◌, length, Some, Option, refl, sym, ◌∙◌, subst, arith, find, bytes_eq, slice_get}
use Rattle.std.proofs.lemmas.Fmt.{decimal_injective}
use Rattle.std.specs.Fmt.{decimal}
use Rattle.std.specs.List.{position_or_len, before_first, after_first}
use Rattle.vx_cost.specs.Keys.{place_of, name_of}
use Rattle.vx_cost.specs.Settings.{IsSetting, SetsAt}
use Rattle.vx_cost.specs.declared.key.Key.{Key}
use Rattle.vx_cost.specs.declared.key.Key.TheVariants.{Int, Vint, Mul, Vmul, Div, Vdiv, Cmp, Vcmp, Cast, Vcast, Select, Vselect, Load, Vload, Store, Vstore, Addr, Insert, Extract, Shuffle}
use Rattle.vx_cost.specs.declared.key.TheConstants.{KEYS}

-- the parts of a text round its first `=`
pub record HasParts (word name rest : List ℕ) : Type 0 where
  pub there : position_or_len (λ b. b == 61) word < length word
  pub before : before_first (λ b. b == 61) word ≡ name
  pub after : after_first (λ b. b == 61) word ≡ rest

-- no name has a `=`
pub parts_of : (key : Key) (rest : List ℕ) → HasParts (name_of key ++ (61 ∷ rest)) (name_of key) rest
parts_of Int rest = record { there = omega arith; before = refl; after = refl }
parts_of Vint rest = record { there = omega arith; before = refl; after = refl }
parts_of Mul rest = record { there = omega arith; before = refl; after = refl }
parts_of Vmul rest = record { there = omega arith; before = refl; after = refl }
parts_of Div rest = record { there = omega arith; before = refl; after = refl }
parts_of Vdiv rest = record { there = omega arith; before = refl; after = refl }
parts_of Cmp rest = record { there = omega arith; before = refl; after = refl }
parts_of Vcmp rest = record { there = omega arith; before = refl; after = refl }
parts_of Cast rest = record { there = omega arith; before = refl; after = refl }
parts_of Vcast rest = record { there = omega arith; before = refl; after = refl }
parts_of Select rest = record { there = omega arith; before = refl; after = refl }
parts_of Vselect rest = record { there = omega arith; before = refl; after = refl }
parts_of Load rest = record { there = omega arith; before = refl; after = refl }
parts_of Vload rest = record { there = omega arith; before = refl; after = refl }
parts_of Store rest = record { there = omega arith; before = refl; after = refl }
parts_of Vstore rest = record { there = omega arith; before = refl; after = refl }
parts_of Addr rest = record { there = omega arith; before = refl; after = refl }
parts_of Insert rest = record { there = omega arith; before = refl; after = refl }
parts_of Extract rest = record { there = omega arith; before = refl; after = refl }
parts_of Shuffle rest = record { there = omega arith; before = refl; after = refl }

-- the key of a name
abbrev pub named : List ℕ → Option Key
named name = find (λ key. bytes_eq (name_of key) name) KEYS

named-name_of : (key : Key) → named (name_of key) ≡ Some key
named-name_of Int = refl
named-name_of Vint = refl
named-name_of Mul = refl
named-name_of Vmul = refl
named-name_of Div = refl
named-name_of Vdiv = refl
named-name_of Cmp = refl
named-name_of Vcmp = refl
named-name_of Cast = refl
named-name_of Vcast = refl
named-name_of Select = refl
named-name_of Vselect = refl
named-name_of Load = refl
named-name_of Vload = refl
named-name_of Store = refl
named-name_of Vstore = refl
named-name_of Addr = refl
named-name_of Insert = refl
named-name_of Extract = refl
named-name_of Shuffle = refl

-- a key stands in its place
pub keys-place_of : (key : Key) → slice_get KEYS (place_of key) ≡ Some key
keys-place_of Int = refl
keys-place_of Vint = refl
keys-place_of Mul = refl
keys-place_of Vmul = refl
keys-place_of Div = refl
keys-place_of Vdiv = refl
keys-place_of Cmp = refl
keys-place_of Vcmp = refl
keys-place_of Cast = refl
keys-place_of Vcast = refl
keys-place_of Select = refl
keys-place_of Vselect = refl
keys-place_of Load = refl
keys-place_of Vload = refl
keys-place_of Store = refl
keys-place_of Vstore = refl
keys-place_of Addr = refl
keys-place_of Insert = refl
keys-place_of Extract = refl
keys-place_of Shuffle = refl

pub place_bound : (key : Key) → place_of key < 20
place_bound Int = omega arith
place_bound Vint = omega arith
place_bound Mul = omega arith
place_bound Vmul = omega arith
place_bound Div = omega arith
place_bound Vdiv = omega arith
place_bound Cmp = omega arith
place_bound Vcmp = omega arith
place_bound Cast = omega arith
place_bound Vcast = omega arith
place_bound Select = omega arith
place_bound Vselect = omega arith
place_bound Load = omega arith
place_bound Vload = omega arith
place_bound Store = omega arith
place_bound Vstore = omega arith
place_bound Addr = omega arith
place_bound Insert = omega arith
place_bound Extract = omega arith
place_bound Shuffle = omega arith

pub place_of_injective : (a b : Key) → place_of a ≡ place_of b → a ≡ b
place_of_injective a b e =
    let at_a : slice_get KEYS (place_of a) ≡ Some a = keys-place_of a in
    let at_b : slice_get KEYS (place_of b) ≡ Some b = keys-place_of b in cc

name_of_injective : (a b : Key) → name_of a ≡ name_of b → a ≡ b
name_of_injective a b e =
    let at_a : named (name_of a) ≡ Some a = named-name_of a in
    let at_b : named (name_of b) ≡ Some b = named-name_of b in cc

-- the parts of a setting's word
pub setting_parts : (word : List ℕ) (key : Key) (n : ℕ) → IsSetting word key n → HasParts word (name_of key) (decimal n)
setting_parts word key n s = subst (λ w. HasParts w (name_of key) (decimal n)) (sym s.spelled) (parts_of key (decimal n))

-- a word sets one key to one number
pub record SameSetting (a b : Key) (m n : ℕ) : Type 0 where
  pub key : a ≡ b
  pub number : m ≡ n

pub same_setting : (word : List ℕ) (a b : Key) (m n : ℕ) → IsSetting word a m → IsSetting word b n → SameSetting a b m n
same_setting word a b m n s t =
    let p : HasParts word (name_of a) (decimal m) = setting_parts word a m s in
    let q : HasParts word (name_of b) (decimal n) = setting_parts word b n t in
    let names : name_of a ≡ name_of b = sym p.before ∙ q.before in
    let digits : decimal m ≡ decimal n = sym p.after ∙ q.after in
    let low : m < 2 ^ 64 = omega (arith, s.bounded) in
    let small : n < 2 ^ 64 = omega (arith, t.bounded) in
    record { key = name_of_injective a b names; number = decimal_injective m n low small digits }

pub same_at : (words : List (List ℕ)) (k : ℕ) (a b : Key) (m n : ℕ) → SetsAt words k a m → SetsAt words k b n → SameSetting a b m n
same_at words k a b m n s t =
    let first : slice_get words k ≡ Some s.word = s.there in
    let second : slice_get words k ≡ Some t.word = t.there in
    let e : s.word ≡ t.word = cc in
    same_setting s.word a b m n s.setting (subst (λ w. IsSetting w b n) (sym e) t.setting)

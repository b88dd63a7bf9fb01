-- What a function has in order of its text: parameters and results, instructions that give nothing, and blocks. What is shown of
-- them is a scope in which each has its place, and no name twice.
use Rattle.std.proofs.Common.{◌≡◌, ℕ, suc, ◌+◌, ◌^◌, ◌≤◌, ◌<◌, Bool, true, false, List, [], ◌∷◌, length, Option, Some, None, bytes_eq, refl, ◌∙◌, ap, arith}
use Rattle.std.proofs.lemmas.List.Elements.{All-head, All-tail}
use Rattle.std.specs.List.{All, AllPairs}
use Rattle.std.specs.Fmt.{decimal}
use Rattle.ir_types.specs.declared.id.Id.{Id}
use Rattle.ir_types.specs.declared.ty.Ty.{Ty}
use Rattle.ir_types.specs.declared.inst.Inst.{Inst}
use Rattle.ir_types.specs.declared.func.Param.{Param}
use Rattle.ir_types.specs.declared.func.Block.{Block}
use Rattle.ir_types.specs.declared.func.Func.{Func}
use Rattle.ir_lex.specs.Tokens.{is_name}
use Rattle.ir_forms.proofs.Steps.{bytes_is}
use Rattle.ir_print.specs.Names.{Named, Value, Label, named_of, params_named, blocks_named, insts_named, result_named, shown, counted, is_store, is_void}
use Rattle.ir_types_check.specs.Scope.{Scope, meaning}
use Rattle.ir_types_check.proofs.Handed.{LocalMeaning, value_at, block_at}
use Rattle.rf_text.specs.Printable.{in_front, written_names}
use Rattle.ir_types.specs.Formed.{is_plain}
use Rattle.rf_text.proofs.Named.Scope.{Once}
use Rattle.rf_text.proofs.Named.Shown.{numbers_apart, kinds_apart, apart_kinds, counted_most, counted_least}

-- ---- things

pub data Thing : Type 0 where
  -- a parameter, or an instruction that gives a value
  Gives : Id → Ty → Option (List ℕ) → Thing
  -- an instruction that gives none
  Silent : Id → Thing
  -- the begin of a block
  Begins : Option (List ℕ) → Thing

abbrev pub inst_thing : Bool → Bool → Inst → Thing
inst_thing false false i = Gives i.id i.ty i.name
inst_thing _ _ i = Silent i.id

-- things in front of others

abbrev pub insts_things : List Inst → List Thing → List Thing
insts_things [] rest = rest
insts_things (i ∷ is) rest = inst_thing (is_void i.ty) (is_store i.op) i ∷ insts_things is rest

abbrev pub blocks_things : List Block → List Thing
blocks_things [] = []
blocks_things (b ∷ bs) = Begins b.name ∷ insts_things b.insts (blocks_things bs)

abbrev pub params_things : List Param → List Thing → List Thing
params_things [] rest = rest
params_things (p ∷ ps) rest = Gives p.id p.ty p.name ∷ params_things ps rest

abbrev pub things_of : Func → List Thing
things_of f = params_things f.params (blocks_things f.blocks)

-- ---- what is named

abbrev pub named_things : List Thing → List Named
named_things [] = []
named_things (Gives id ty name ∷ ts) = Value id ty name ∷ named_things ts
named_things (Silent id ∷ ts) = named_things ts
named_things (Begins name ∷ ts) = Label name ∷ named_things ts

insts_are : (is : List Inst) (rest : List Thing) → named_things (insts_things is rest) ≡ insts_named is (named_things rest)
insts_are [] rest = refl
insts_are (i ∷ is) rest = go (is_void i.ty) (is_store i.op) (insts_are is rest) where
  go : (v s : Bool) → named_things (insts_things is rest) ≡ insts_named is (named_things rest) →
      named_things (inst_thing v s i ∷ insts_things is rest) ≡ result_named v s i (insts_named is (named_things rest))
  go false false e = ap (λ ns. Value i.id i.ty i.name ∷ ns) e
  go false true e = e
  go true s e = e

blocks_are : (bs : List Block) → named_things (blocks_things bs) ≡ blocks_named bs
blocks_are [] = refl
blocks_are (b ∷ bs) = ap (λ ns. Label b.name ∷ ns) (insts_are b.insts (blocks_things bs) ∙ ap (insts_named b.insts) (blocks_are bs))

params_are : (ps : List Param) (rest : List Thing) → named_things (params_things ps rest) ≡ params_named ps (named_things rest)
params_are [] rest = refl
params_are (p ∷ ps) rest = ap (λ ns. Value p.id p.ty p.name ∷ ns) (params_are ps rest)

pub things_are : (f : Func) → named_things (things_of f) ≡ named_of f
things_are f = params_are f.params (blocks_things f.blocks) ∙ ap (params_named f.params) (blocks_are f.blocks)

-- ---- the scope

-- what is shown of things, with what it means, where n is the next number, p the next place and b the number of the next block
abbrev pub scope_from : ℕ → ℕ → ℕ → List Thing → Scope LocalMeaning
scope_from n p b [] = []
scope_from n p b (Gives id ty name ∷ ts) = (shown n name, value_at p ty) ∷ scope_from (counted n name) (p + 1) b ts
scope_from n p b (Silent id ∷ ts) = scope_from n (p + 1) b ts
scope_from n p b (Begins name ∷ ts) = (shown n name, block_at b) ∷ scope_from (counted n name) p (b + 1) ts

-- ---- no name twice

abbrev pub IsPlainThing : Thing → Type 0
IsPlainThing (Gives id ty name) = is_plain name ≡ true
IsPlainThing (Silent id) = Unit {0}
IsPlainThing (Begins name) = is_plain name ≡ true

abbrev Differ : List ℕ → List ℕ → Type 0
Differ a b = a ≡ b → ⊥

not_in : (name : List ℕ) (key : Option (List ℕ)) (n : ℕ) → is_name name ≡ true → n < 2 ^ 64 → (rest : List (List ℕ)) → All (Differ name) (in_front key rest) →
    (bytes_eq name (shown n key) ≡ false) × All (Differ name) rest
not_in name None n h small rest all = (kinds_apart name n h small, all)
not_in name (Some key) n h small rest all = (go (bytes_eq name key) refl, All-tail (Differ name) key rest all) where
  go : (t : Bool) → bytes_eq name key ≡ t → t ≡ false
  go false e = refl
  go true e = absurd (All-head (Differ name) key rest all (bytes_is name key e))

-- a plain name that is written nowhere is shown nowhere
name_new : (name : List ℕ) → is_name name ≡ true → (n p b : ℕ) (ts : List Thing) → n + length (named_things ts) ≤ 2 ^ 64 → All (Differ name) (written_names (named_things ts)) → meaning name (scope_from n p b ts) ≡ None
name_new name h n p b [] small all = refl
name_new name h n p b (Gives id ty key ∷ ts) small all =
    let is : (bytes_eq name (shown n key) ≡ false) × All (Differ name) (written_names (named_things ts)) = not_in name key n h (omega (arith, small)) (written_names (named_things ts)) all in
    rw is.0 (name_new name h (counted n key) (p + 1) b ts (omega (arith, small, counted_most n key)) is.1)
name_new name h n p b (Silent id ∷ ts) small all = name_new name h n (p + 1) b ts small all
name_new name h n p b (Begins key ∷ ts) small all =
    let is : (bytes_eq name (shown n key) ≡ false) × All (Differ name) (written_names (named_things ts)) = not_in name key n h (omega (arith, small)) (written_names (named_things ts)) all in
    rw is.0 (name_new name h (counted n key) p (b + 1) ts (omega (arith, small, counted_most n key)) is.1)

number_not : (k n : ℕ) (key : Option (List ℕ)) → k < n → n < 2 ^ 64 → is_plain key ≡ true → bytes_eq (decimal k) (shown n key) ≡ false
number_not k n None less small h = numbers_apart k n less small
number_not k n (Some key) less small h = apart_kinds key k h (omega (arith, less, small))

-- nor is a number that the counter has passed
number_new : (k n p b : ℕ) (ts : List Thing) → k < n → n + length (named_things ts) ≤ 2 ^ 64 → All IsPlainThing ts → meaning (decimal k) (scope_from n p b ts) ≡ None
number_new k n p b [] less small plain = refl
number_new k n p b (Gives id ty key ∷ ts) less small plain =
    rw (number_not k n key less (omega (arith, small)) (All-head IsPlainThing (Gives id ty key) ts plain))
    (number_new k (counted n key) (p + 1) b ts (omega (arith, less, counted_least n key)) (omega (arith, small, counted_most n key)) (All-tail IsPlainThing (Gives id ty key) ts plain))
number_new k n p b (Silent id ∷ ts) less small plain = number_new k n (p + 1) b ts less small (All-tail IsPlainThing (Silent id) ts plain)
number_new k n p b (Begins key ∷ ts) less small plain =
    rw (number_not k n key less (omega (arith, small)) (All-head IsPlainThing (Begins key) ts plain))
    (number_new k (counted n key) p (b + 1) ts (omega (arith, less, counted_least n key)) (omega (arith, small, counted_most n key)) (All-tail IsPlainThing (Begins key) ts plain))

-- the first of names, each written once, and the rest
pairs_split : (name : Option (List ℕ)) (rest : List (List ℕ)) → AllPairs Differ (in_front name rest) → AllPairs Differ rest
pairs_split None rest all = all
pairs_split (Some name) rest all = λ i j d less within. all (suc i) (suc j) d (omega (arith, less)) (omega (arith, within))

pub pairs_first : {X : Type 0} (R : X → X → Type 0) (x : X) (rest : List X) → AllPairs R (x ∷ rest) → All (R x) rest
pairs_first R x rest all = λ k d within. all 0 (suc k) d (omega arith) (omega (arith, within))

shown_new : (name : Option (List ℕ)) (n p b : ℕ) (ts : List Thing) → n + 1 + length (named_things ts) ≤ 2 ^ 64 → is_plain name ≡ true → All IsPlainThing ts → AllPairs Differ (in_front name (written_names (named_things ts))) →
    meaning (shown n name) (scope_from (counted n name) p b ts) ≡ None
shown_new None n p b ts small h plain pairs = number_new n (n + 1) p b ts (omega arith) small plain
shown_new (Some name) n p b ts small h plain pairs = name_new name h n p b ts (omega (arith, small)) (pairs_first Differ name (written_names (named_things ts)) pairs)

-- no name is shown twice
pub once_from : (n p b : ℕ) (ts : List Thing) → n + length (named_things ts) ≤ 2 ^ 64 → All IsPlainThing ts → AllPairs Differ (written_names (named_things ts)) → Once (scope_from n p b ts)
once_from n p b [] small plain pairs = tt
once_from n p b (Gives id ty name ∷ ts) small plain pairs =
    let rest : All IsPlainThing ts = All-tail IsPlainThing (Gives id ty name) ts plain in (
      shown_new name n (p + 1) b ts (omega (arith, small)) (All-head IsPlainThing (Gives id ty name) ts plain) rest pairs,
      once_from (counted n name) (p + 1) b ts (omega (arith, small, counted_most n name)) rest (pairs_split name (written_names (named_things ts)) pairs),
    )
once_from n p b (Silent id ∷ ts) small plain pairs = once_from n (p + 1) b ts small (All-tail IsPlainThing (Silent id) ts plain) pairs
once_from n p b (Begins name ∷ ts) small plain pairs =
    let rest : All IsPlainThing ts = All-tail IsPlainThing (Begins name) ts plain in (
      shown_new name n p (b + 1) ts (omega (arith, small)) (All-head IsPlainThing (Begins name) ts plain) rest pairs,
      once_from (counted n name) p (b + 1) ts (omega (arith, small, counted_most n name)) rest (pairs_split name (written_names (named_things ts)) pairs),
    )

-- Names and numbers, as far as they are shown: those that are still ahead, each of which takes the counter as a reader takes it.
use Rattle.std.proofs.Common.{◌≡◌, ℕ, suc, zero, ◌+◌, ◌^◌, ◌<◌, Bool, true, false, List, [], ◌∷◌, ◌++◌, length, map, Option, Some, None, Ok, nat_eq, refl, sym, ◌∙◌, ap, arith, eq-eqb, if◌then◌else◌, slice_get}
use Rattle.std.proofs.lemmas.Bool.Decides.{nat_tests}
use Rattle.std.proofs.lemmas.List.{append_assoc}
use Rattle.std.proofs.lemmas.List.Elements.{All-head, All-tail}
use Rattle.std.specs.Char.{is_ascii_digit}
use Rattle.std.specs.Fmt.{decimal}
use Rattle.std.specs.List.{All, AllPairs}
use Rattle.ir_lex.specs.Bytes.{begins_name, is_digit}
use Rattle.ir_lex.specs.Tokens.{is_name}
use Rattle.ir_lex.proofs.Classes.{both, clash, digit_no_name}
use Rattle.ir_types.specs.declared.id.Id.{Id}
use Rattle.ir_types.specs.declared.ty.Ty.{Ty}
use Rattle.ir_types.specs.declared.inst.Inst.{Inst}
use Rattle.ir_types.specs.declared.func.Param.{Param}
use Rattle.ir_types.specs.declared.func.Block.{Block}
use Rattle.ir_types.specs.Formed.{block_ids}
use Rattle.ir_print.specs.declared.names.Local.{Local}
use Rattle.ir_print.specs.Names.{Names, Named, Value, Label, result_named, insts_named, blocks_named, params_named, shown, counted, locals_from, labels_from, same_id, last_of, local_of, is_store, is_void}
use Rattle.ir_read.specs.Numbers.{is_unnamed, after_name}
use Rattle.ir_types.specs.Formed.{is_plain}
use Rattle.rf_text.proofs.Words.Numbers.{IsDecimal, decimal_is, decimal_read}

-- ---- one name

plain_unnamed : (name : List ℕ) → is_name name ≡ true → is_unnamed name ≡ false
unfolding is_digit
plain_unnamed [] h = refl
plain_unnamed (b ∷ bs) h = here b (both (begins_name b) _ h).0 (is_ascii_digit b) refl where
  here : (b : ℕ) → begins_name b ≡ true → (t : Bool) → is_ascii_digit b ≡ t → is_ascii_digit b ≡ false
  here b first true e = clash (begins_name b) (digit_no_name b e) first
  here b first false e = e

decimal_unnamed : (n : ℕ) → n < 2 ^ 64 → is_unnamed (decimal n) ≡ true
unfolding is_digit
decimal_unnamed n small = here (decimal n) (decimal_is n small) where
  here : (ds : List ℕ) → IsDecimal n ds → is_unnamed ds ≡ true
  here [] d = clash false refl d.number
  here (c ∷ ds) d = (both (is_digit c) _ d.number).0

-- what is shown takes the counter on as its printing did
pub name_taken : (line n : ℕ) (name : Option (List ℕ)) → is_plain name ≡ true → n < 2 ^ 64 → after_name line n (shown n name) ≡ Ok (counted n name)
unfolding after_name
name_taken line n None plain small = rw (decimal_unnamed n small, decimal_read n small, eq-eqb n n refl) refl
name_taken line n (Some name) plain small = rw (plain_unnamed name plain) refl

counted_most : (n k : ℕ) (name : Option (List ℕ)) → n + suc k < 2 ^ 64 → counted n name + k < 2 ^ 64
counted_most n k None h = omega (arith, h)
counted_most n k (Some name) h = omega (arith, h)

-- ---- ids that are apart

abbrev pub IsNone : Id → List Id → Type 0
IsNone id [] = Unit {0}
IsNone id (x ∷ xs) = (id ≡ x → ⊥) × IsNone id xs

abbrev pub Apart : List Id → Type 0
Apart [] = Unit {0}
Apart (x ∷ xs) = IsNone x xs × Apart xs

all_none : (id : Id) (xs : List Id) → All (λ (x : Id). id ≡ x → ⊥) xs → IsNone id xs
all_none id [] h = tt
all_none id (x ∷ xs) h = (All-head (λ (x : Id). id ≡ x → ⊥) x xs h, all_none id xs (All-tail (λ (x : Id). id ≡ x → ⊥) x xs h))

pub pairs_apart : (xs : List Id) → AllPairs (λ (a b : Id). a ≡ b → ⊥) xs → Apart xs
pairs_apart [] h = tt
pairs_apart (x ∷ xs) h = (
  all_none x xs (λ k d within. h zero (suc k) d (omega arith) (omega (arith, within))),
  pairs_apart xs (λ i j d less within. h (suc i) (suc j) d (omega (arith, less)) (omega (arith, within))),
)

-- ids that are some of others, in order
record Among (xs ys : List Id) : Type 0 where
  none : (id : Id) → IsNone id ys → IsNone id xs
  apart : Apart ys → Apart xs

with_both : (x : Id) (xs ys : List Id) → Among xs ys → Among (x ∷ xs) (x ∷ ys)
with_both x xs ys a = record { none = λ id h. (h.0, a.none id h.1); apart = λ h. (a.none x h.0, a.apart h.1) }

with_more : (y : Id) (xs ys : List Id) → Among xs ys → Among xs (y ∷ ys)
with_more y xs ys a = record { none = λ id h. a.none id h.1; apart = λ h. a.apart h.1 }

-- the ids of values that are named
abbrev pub value_ids : List Named → List Id
value_ids [] = []
value_ids (Value id ty name ∷ vs) = id ∷ value_ids vs
value_ids (Label name ∷ vs) = value_ids vs

inst_among : (void store : Bool) (i : Inst) (vs : List Named) (ys : List Id) → Among (value_ids vs) ys → Among (value_ids (result_named void store i vs)) (i.id ∷ ys)
inst_among false false i vs ys a = with_both i.id (value_ids vs) ys a
inst_among false true i vs ys a = with_more i.id (value_ids vs) ys a
inst_among true store i vs ys a = with_more i.id (value_ids vs) ys a

insts_among : (is : List Inst) (vs : List Named) (ys : List Id) → Among (value_ids vs) ys → Among (value_ids (insts_named is vs)) (map (λ (i : Inst). i.id) is ++ ys)
insts_among [] vs ys a = a
insts_among (i ∷ is) vs ys a = inst_among (is_void i.ty) (is_store i.op) i (insts_named is vs) (map (λ (i : Inst). i.id) is ++ ys) (insts_among is vs ys a)

blocks_among : (bs : List Block) → Among (value_ids (blocks_named bs)) (block_ids bs)
blocks_among [] = record { none = λ id h. h; apart = λ h. h }
blocks_among (b ∷ bs) = insts_among b.insts (blocks_named bs) (block_ids bs) (blocks_among bs)

params_among : (ps : List Param) (vs : List Named) (ys : List Id) → Among (value_ids vs) ys → Among (value_ids (params_named ps vs)) (map (λ (p : Param). p.id) ps ++ ys)
params_among [] vs ys a = a
params_among (p ∷ ps) vs ys a = with_both p.id (value_ids (params_named ps vs)) (map (λ (p : Param). p.id) ps ++ ys) (params_among ps vs ys a)

pub values_apart : (ps : List Param) (bs : List Block) → Apart (map (λ (p : Param). p.id) ps ++ block_ids bs) → Apart (value_ids (params_named ps (blocks_named bs)))
values_apart ps bs h = (params_among ps (blocks_named bs) (block_ids bs) (blocks_among bs)).apart h

-- ---- look-ups

id_same : (id : Id) → same_id id id ≡ true
id_same id = rw (eq-eqb id.region id.region refl, eq-eqb id.k id.k refl) refl

abbrev made : ℕ → ℕ → Id
made r k = record { region = r; k = k }

equal_parts : (r s k l : ℕ) → r ≡ s → k ≡ l → made r k ≡ made s l
equal_parts r s k l e f = cc

same_number : (a b : ℕ) → nat_eq a b ≡ true → a ≡ b
same_number a b h = grind (arith, nat_tests)

same_is : (a b : Id) → same_id a b ≡ true → b ≡ a
same_is a b h =
    let parts : (nat_eq a.region b.region ≡ true) × (nat_eq a.k b.k ≡ true) = both (nat_eq a.region b.region) _ h in
    equal_parts b.region a.region b.k a.k (sym (same_number a.region b.region parts.0)) (sym (same_number a.k b.k parts.1))

last_append : (id : Id) (xs ys : List Local) (before : Option Local) → last_of id (xs ++ ys) before ≡ last_of id ys (last_of id xs before)
last_append id [] ys before = refl
last_append id (x ∷ xs) ys before = last_append id xs ys _

-- what is not there is not found
last_none : (id : Id) (n : ℕ) (vs : List Named) (before : Option Local) → IsNone id (value_ids vs) → last_of id (locals_from n vs) before ≡ before
last_none id n [] before none = refl
last_none id n (Value x ty name ∷ vs) before none = here (same_id x id) refl (last_none id (counted n name) vs) where
  here : (t : Bool) → same_id x id ≡ t → ((before : Option Local) → IsNone id (value_ids vs) → last_of id (locals_from (counted n name) vs) before ≡ before) →
      last_of id (locals_from (counted n name) vs) (if same_id x id then Some (record { id = x; ty = ty; text = shown n name }) else before) ≡ before
  here true e next = absurd (none.0 (same_is x id e))
  here false e next = rw e (next before none.1)
last_none id n (Label name ∷ vs) before none = last_none id (counted n name) vs before none

-- ---- what is ahead, where n is the next number and `at` the number of the next block

pub record Ahead (ns : Names) (at n : ℕ) (vs : List Named) : Type 0 where
  pub past : List Local
  pub locals : ns.locals ≡ past ++ locals_from n vs
  pub labels : (j : ℕ) → slice_get ns.labels (at + j) ≡ slice_get (labels_from n vs) j
  pub small : n + length vs < 2 ^ 64
  pub apart : Apart (value_ids vs)

pub ahead_small : (ns : Names) (at n : ℕ) (v : Named) (vs : List Named) → Ahead ns at n (v ∷ vs) → n < 2 ^ 64
ahead_small ns at n v vs a = let most : n + length (v ∷ vs) < 2 ^ 64 = a.small in omega (arith, most)

-- the next value is found
pub value_found : (ns : Names) (at n : ℕ) (id : Id) (ty : Ty) (name : Option (List ℕ)) (vs : List Named) → Ahead ns at n (Value id ty name ∷ vs) →
    local_of id ns.locals ≡ Some (record { id = id; ty = ty; text = shown n name })
value_found ns at n id ty name vs a =
    ap (λ (ls : List Local). local_of id ls) a.locals ∙ last_append id a.past (locals_from n (Value id ty name ∷ vs)) None ∙ here (same_id id id) (id_same id) (last_of id a.past None) where
      here : (t : Bool) → t ≡ true → (before : Option Local) → last_of id (locals_from (counted n name) vs) (if t then Some (record { id = id; ty = ty; text = shown n name }) else before) ≡ Some (record { id = id; ty = ty; text = shown n name })
      here true e before = last_none id (counted n name) vs _ a.apart.0
      here false e before = cc

pub value_passed : (ns : Names) (at n : ℕ) (id : Id) (ty : Ty) (name : Option (List ℕ)) (vs : List Named) → Ahead ns at n (Value id ty name ∷ vs) → Ahead ns at (counted n name) vs
value_passed ns at n id ty name vs a = record {
  past = a.past ++ record { id = id; ty = ty; text = shown n name } ∷ [];
  locals = a.locals ∙ sym (append_assoc a.past (record { id = id; ty = ty; text = shown n name } ∷ []) (locals_from (counted n name) vs));
  labels = a.labels;
  small = counted_most n (length vs) name a.small;
  apart = a.apart.1;
}

-- so is the next block
pub label_found : (ns : Names) (at n : ℕ) (name : Option (List ℕ)) (vs : List Named) → Ahead ns at n (Label name ∷ vs) → slice_get ns.labels at ≡ Some (shown n name)
label_found ns at n name vs a = let same : at + 0 ≡ at = omega arith in ap (slice_get ns.labels) (sym same) ∙ a.labels 0

pub label_passed : (ns : Names) (at n : ℕ) (name : Option (List ℕ)) (vs : List Named) → Ahead ns at n (Label name ∷ vs) → Ahead ns (at + 1) (counted n name) vs
label_passed ns at n name vs a = record {
  past = a.past;
  locals = a.locals;
  labels = λ j. let same : at + 1 + j ≡ at + suc j = omega arith in ap (slice_get ns.labels) same ∙ a.labels (suc j);
  small = counted_most n (length vs) name a.small;
  apart = a.apart;
}

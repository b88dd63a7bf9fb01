-- Where ids are given once, the last value of an id is the first: what is shown of a value has the type that it has.
use Rattle.std.proofs.Common.{◌≡◌, ℕ, suc, zero, ◌<◌, Bool, true, false, ◌||◌, List, [], ◌∷◌, ◌++◌, length, map, nat_eq, Option, Some, None, refl, sym, ◌∙◌, ap, subst, arith, if◌then◌else◌}
use Rattle.std.proofs.lemmas.Bool.Decides.{nat_tests}
use Rattle.std.specs.List.{AllPairs, list_any, slice_index_or}
use Rattle.ir_lex.proofs.Classes.{both, neither}
use Rattle.ir_types.specs.declared.id.Id.{Id}
use Rattle.ir_types.specs.declared.ty.Ty.{Ty}
use Rattle.ir_types.specs.declared.inst.Inst.{Inst}
use Rattle.ir_types.specs.declared.func.Param.{Param}
use Rattle.ir_types.specs.declared.func.Block.{Block}
use Rattle.ir_types.specs.declared.func.Func.{Func}
use Rattle.ir_types.specs.Formed.{block_ids}
use Rattle.ir_print.specs.declared.names.Local.{Local}
use Rattle.ir_print.specs.Names.{Named, Value, Label, result_named, insts_named, blocks_named, params_named, named_of, shown, counted, locals_from, same_id, last_of, is_store, is_void}
use Rattle.rf_text.proofs.TextLines.Types.{first_in, gives_id}

-- ---- ids that are given once

abbrev pub has_id : Id → List Id → Bool
has_id id xs = list_any (λ (x : Id). same_id x id) xs

abbrev pub Once : List Id → Type 0
Once [] = Unit {0}
Once (x ∷ xs) = (has_id x xs ≡ false) × Once xs

same_is : (a b : Id) → same_id a b ≡ true → a ≡ b
same_is a b h =
    let region : a.region ≡ b.region = grind (arith, nat_tests, (both (nat_eq a.region b.region) _ h).0) in
    let k : a.k ≡ b.k = grind (arith, nat_tests, (both (nat_eq a.region b.region) _ h).1) in
    ap (λ (r : ℕ). record { region = r; k = a.k }) region ∙ ap (λ (n : ℕ). record { region = b.region; k = n }) k

abbrev Differ : Id → Id → Type 0
Differ a b = a ≡ b → ⊥

differs : (a b : Id) (same : Bool) → same_id a b ≡ same → (b ≡ a → ⊥) → same_id a b ≡ false
differs a b true s h = absurd (h (sym (same_is a b s)))
differs a b false s h = s

none_of : (x : Id) (xs : List Id) → ((j : ℕ) (d : Id) → j < length xs → Differ x (slice_index_or xs j d)) → has_id x xs ≡ false
none_of x [] h = refl
none_of x (y ∷ ys) h =
    rw (differs y x (same_id y x) refl (h zero x (omega arith))) (none_of x ys (λ j d l. h (suc j) d (omega (arith, l))))

pub once_ids : (xs : List Id) → AllPairs (λ (a b : Id). a ≡ b → ⊥) xs → Once xs
once_ids [] h = tt
once_ids (x ∷ xs) h =
    (none_of x xs (λ j d l. h zero (suc j) d (omega arith) (omega (arith, l))), once_ids xs (λ i j d l m. h (suc i) (suc j) d (omega (arith, l)) (omega (arith, m))))

front_none : (id : Id) (xs ys : List Id) → has_id id (xs ++ ys) ≡ false → has_id id xs ≡ false
front_none id [] ys h = refl
front_none id (x ∷ xs) ys h = rw ((neither (same_id x id) _ h).0) (front_none id xs ys (neither (same_id x id) _ h).1)

pub once_front : (xs ys : List Id) → Once (xs ++ ys) → Once xs
once_front [] ys h = tt
once_front (x ∷ xs) ys h = (front_none x xs ys h.0, once_front xs ys h.1)

pub once_back : (xs ys : List Id) → Once (xs ++ ys) → Once ys
once_back [] ys h = h
once_back (x ∷ xs) ys h = once_back xs ys h.1

-- ---- the ids of what is named are some of those of parameters and instructions, in their order

data Part : List Named → List Id → Type 0 where
  none : Part [] []
  kept : {v : Id} {ty : Ty} {name : Option (List ℕ)} {vs : List Named} {ids : List Id} → Part vs ids → Part (Value v ty name ∷ vs) (v ∷ ids)
  label : {name : Option (List ℕ)} {vs : List Named} {ids : List Id} → Part vs ids → Part (Label name ∷ vs) ids
  passed : {v : Id} {vs : List Named} {ids : List Id} → Part vs ids → Part vs (v ∷ ids)

result_part : (void store : Bool) (i : Inst) {vs : List Named} {ids : List Id} → Part vs ids → Part (result_named void store i vs) (i.id ∷ ids)
result_part false false i p = kept p
result_part false true i p = passed p
result_part true store i p = passed p

insts_part : (is : List Inst) {vs : List Named} {ids : List Id} → Part vs ids → Part (insts_named is vs) (map (λ (i : Inst). i.id) is ++ ids)
insts_part [] p = p
insts_part (i ∷ is) p = result_part (is_void i.ty) (is_store i.op) i (insts_part is p)

blocks_part : (bs : List Block) → Part (blocks_named bs) (block_ids bs)
blocks_part [] = none
blocks_part (b ∷ bs) = label (insts_part b.insts (blocks_part bs))

params_part : (ps : List Param) {vs : List Named} {ids : List Id} → Part vs ids → Part (params_named ps vs) (map (λ (p : Param). p.id) ps ++ ids)
params_part [] p = p
params_part (q ∷ qs) p = kept (params_part qs p)

part_none : (id : Id) {vs : List Named} {ids : List Id} → Part vs ids → has_id id ids ≡ false → gives_id id vs ≡ false
part_none id none h = refl
part_none id (kept {v} p) h = rw ((neither (same_id v id) _ h).0) (part_none id p (neither (same_id v id) _ h).1)
part_none id (label p) h = part_none id p h
part_none id (passed {v} p) h = part_none id p (neither (same_id v id) _ h).1

-- each value that is named is named once
abbrev pub NamedOnce : List Named → Type 0
NamedOnce [] = Unit {0}
NamedOnce (Value v ty name ∷ vs) = (gives_id v vs ≡ false) × NamedOnce vs
NamedOnce (Label name ∷ vs) = NamedOnce vs

part_once : {vs : List Named} {ids : List Id} → Part vs ids → Once ids → NamedOnce vs
part_once none h = tt
part_once (kept {v} p) h = (part_none v p h.0, part_once p h.1)
part_once (label p) h = part_once p h
part_once (passed p) h = part_once p h.1

pub func_once : (f : Func) → Once (map (λ (p : Param). p.id) f.params ++ block_ids f.blocks) → NamedOnce (named_of f)
func_once f h = part_once (params_part f.params (blocks_part f.blocks)) h

-- ---- the last value of an id

-- one value more
step : (id : Id) (l : Local) (ls : List Local) (before : Option Local) (same : Bool) → same_id l.id id ≡ same → last_of id (l ∷ ls) before ≡ last_of id ls (if same then Some l else before)
step id l ls before same s = ap (λ (b : Bool). last_of id ls (if b then Some l else before)) s

abbrev local : ℕ → Id → Ty → Option (List ℕ) → Local
local n v ty name = record { id = v; ty = ty; text = shown n name }

-- among values without the id, what was found stays
stays : (id : Id) (n : ℕ) (vs : List Named) (before : Option Local) → gives_id id vs ≡ false → last_of id (locals_from n vs) before ≡ before
stays id n [] before h = refl
stays id n (Value v ty name ∷ vs) before h =
    step id (local n v ty name) (locals_from (counted n name) vs) before false ((neither (same_id v id) _ h).0) ∙ stays id (counted n name) vs before (neither (same_id v id) _ h).1
stays id n (Label name ∷ vs) before h = stays id (counted n name) vs before h

-- what is found of an id, with its type
abbrev pub Found : Id → List Local → Option Local → Ty → Type 0
Found id ls before t = (l : Local) × (last_of id ls before ≡ Some l) × (l.ty ≡ t)

absent : {P : Type 0} {t : Ty} → None ≡ Some t → P
absent e = cc

here_found : (id : Id) (n : ℕ) (v : Id) (ty : Ty) (name : Option (List ℕ)) (vs : List Named) (before : Option Local) (t : Ty) (same : Bool) → same_id v id ≡ same → gives_id v vs ≡ false → (if same then Some ty else first_in id vs) ≡ Some t →
    (first_in id vs ≡ Some t → Found id (locals_from (counted n name) vs) before t) → Found id (local n v ty name ∷ locals_from (counted n name) vs) before t
here_found id n v ty name vs before t true s once e more =
    let after : gives_id id vs ≡ false = subst (λ (x : Id). gives_id x vs ≡ false) (same_is v id s) once in
    (local n v ty name, step id (local n v ty name) (locals_from (counted n name) vs) before true s ∙ stays id (counted n name) vs (Some (local n v ty name)) after, cc)
here_found id n v ty name vs before t false s once e more =
    let found : Found id (locals_from (counted n name) vs) before t = more e in
    (found.0, step id (local n v ty name) (locals_from (counted n name) vs) before false s ∙ found.1, found.2)

pub found : (id : Id) (n : ℕ) (vs : List Named) (before : Option Local) (t : Ty) → NamedOnce vs → first_in id vs ≡ Some t → Found id (locals_from n vs) before t
found id n [] before t once e = absent e
found id n (Label name ∷ vs) before t once e = found id (counted n name) vs before t once e
found id n (Value v ty name ∷ vs) before t once e =
    here_found id n v ty name vs before t (same_id v id) refl once.0 e (λ (x : first_in id vs ≡ Some t). found id (counted n name) vs before t once.1 x)

-- what was found, or a later one
abbrev pub AnyFound : Id → List Local → Option Local → Type 0
AnyFound id ls before = (l : Local) × (last_of id ls before ≡ Some l)

some_chosen : (id : Id) (ls : List Local) (l x : Local) (same : Bool) → ((y : Local) → AnyFound id ls (Some y)) → AnyFound id ls (if same then Some x else Some l)
some_chosen id ls l x true h = h x
some_chosen id ls l x false h = h l

some_stays : (id : Id) (ls : List Local) (l : Local) → AnyFound id ls (Some l)
some_stays id [] l = (l, refl)
some_stays id (x ∷ xs) l = some_chosen id xs l x (same_id x.id id) (λ y. some_stays id xs y)

no : {P : Type 0} → false ≡ true → P
no e = cc

here_given : (id : Id) (l : Local) (ls : List Local) (vs : List Named) (before : Option Local) (same : Bool) → same_id l.id id ≡ same → (same || gives_id id vs) ≡ true → (gives_id id vs ≡ true → AnyFound id ls before) → AnyFound id (l ∷ ls) before
here_given id l ls vs before true s h more =
    let found : AnyFound id ls (Some l) = some_stays id ls l in
    (found.0, step id l ls before true s ∙ found.1)
here_given id l ls vs before false s h more =
    let found : AnyFound id ls before = more h in
    (found.0, step id l ls before false s ∙ found.1)

pub given_shown : (id : Id) (n : ℕ) (vs : List Named) (before : Option Local) → gives_id id vs ≡ true → AnyFound id (locals_from n vs) before
given_shown id n [] before h = no h
given_shown id n (Label name ∷ vs) before h = given_shown id (counted n name) vs before h
given_shown id n (Value v ty name ∷ vs) before h =
    here_given id (local n v ty name) (locals_from (counted n name) vs) vs before (same_id v id) refl h (λ (g : gives_id id vs ≡ true). given_shown id (counted n name) vs before g)

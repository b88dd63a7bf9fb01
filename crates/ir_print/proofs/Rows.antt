-- Rows of places.
use Rattle.std.proofs.Common.{◌≡◌, ℕ, zero, suc, ◌-◌, ◌<◌, ◌≤◌, Bool, true, false, ◌&&◌, cond, List, [], ◌∷◌, Some, None, Option, length, get_or, set, refl, ap, sym, ◌∙◌, nat_eq, nat_lt, eqb-true, eq-eqb, ne_eqb, ltb-false, arith, length-set, ⊎_elim, ◌++◌}
use Rattle.std.proofs.lemmas.Bool.Decides.{eqb_tells}
use Rattle.std.proofs.lemmas.List.{get_or-set_other}
use Rattle.std.proofs.lemmas.Grind.{get_or-set_at}
use Rattle.std.specs.HashMap.{get_by}
use Rattle.ir_types.specs.declared.id.Id.{Id}
use Rattle.ir_print.specs.declared.index.Index.{Index}
use Rattle.ir_print.specs.Names.{same_id}
use Rattle.ir_print.specs.Index.{offset, slot_of, place_by, place_in}

clash : {P : Type 0} → true ≡ false → P
clash e = cc

nothing : {A P : Type 0} {y : A} → None ≡ Some y → P
nothing e = cc

some_is : {A : Type 0} {x y : A} → Some x ≡ Some y → x ≡ y
some_is e = cc

-- a written place is read back, and the others are as before
get_set : (xs : List (Option ℕ)) (i j : ℕ) (v : Option ℕ) → i < length xs → get_or (set xs i v) j None ≡ cond (nat_eq i j) v (get_or xs j None)
get_set xs i j v within = ⊎_elim
    (λ same. get_or-set_at xs i j v None (sym same.1) within ∙ sym (ap (λ b. cond b v (get_or xs j None)) same.0))
    (λ other. get_or-set_other xs i j v None (λ e. other.1 (sym e)) ∙ sym (ap (λ b. cond b v (get_or xs j None)) other.0))
    (eqb_tells i j)

-- an offset is how far a number is from the first
far : (b c : Bool) (n i : ℕ) → cond b None (cond c (Some n) None) ≡ Some i → (b ≡ false) × (n ≡ i)
far true c n i e = nothing e
far false true n i e = (refl, some_is e)
far false false n i e = nothing e

-- numbers stand in one slot where they are one
same_offset : (len first a b i j : ℕ) → offset len first a ≡ Some i → offset len first b ≡ Some j → nat_eq i j ≡ nat_eq a b
same_offset len first a b i j e f =
    let p : (nat_lt a first ≡ false) × (a - first ≡ i) = far (nat_lt a first) (nat_lt (a - first) len) (a - first) i e in
    let q : (nat_lt b first ≡ false) × (b - first ≡ j) = far (nat_lt b first) (nat_lt (b - first) len) (b - first) j f in
    let u : first ≤ a = ltb-false a first p.0 in
    let v : first ≤ b = ltb-false b first q.0 in
    let d : a - first ≡ i = p.1 in
    let g : b - first ≡ j = q.1 in
    ⊎_elim
    (λ same. same.0 ∙ sym (eq-eqb a b (let one : i ≡ j = same.1 in omega arith)))
    (λ other. other.0 ∙ sym (ne_eqb a b (λ one. other.1 (sym d ∙ ap (λ n. n - first) one ∙ g))))
    (eqb_tells i j)

same_slot : (x : Index) (id other : Id) (i : ℕ) → slot_of x id ≡ Some i → (j : ℕ) → slot_of x other ≡ Some j → nat_eq i j ≡ same_id id other
same_slot x id other i e j f = by_region (nat_eq id.region x.region) refl (nat_eq other.region x.region) refl e f where
  by_region : (b : Bool) → nat_eq id.region x.region ≡ b → (c : Bool) → nat_eq other.region x.region ≡ c →
      cond b (offset (length x.row.items) x.first id.k) None ≡ Some i → cond c (offset (length x.row.items) x.first other.k) None ≡ Some j → nat_eq i j ≡ same_id id other
  by_region true r true s e f =
      let one : id.region ≡ other.region = eqb-true id.region x.region r ∙ sym (eqb-true other.region x.region s) in
      let both : nat_eq id.region other.region ≡ true = eq-eqb id.region other.region one in
      same_offset (length x.row.items) x.first id.k other.k i j e f ∙ sym (ap (λ b. b && nat_eq id.k other.k) both)
  by_region true r false s e f = nothing f
  by_region false r c s e f = nothing e

and_parts : (a b : Bool) → (a && b) ≡ true → (a ≡ true) × (b ≡ true)
and_parts true b e = (refl, e)
and_parts false b e = clash (sym e)

-- one id stands in one slot
slots_same : (x : Index) (id other : Id) → same_id id other ≡ true → slot_of x id ≡ slot_of x other
slots_same x id other same =
    let parts : (nat_eq id.region other.region ≡ true) × (nat_eq id.k other.k ≡ true) = and_parts (nat_eq id.region other.region) (nat_eq id.k other.k) same in
    ap (λ r. cond (nat_eq r x.region) (offset (length x.row.items) x.first id.k) None) (eqb-true id.region other.region parts.0)
    ∙ ap (λ k. cond (nat_eq other.region x.region) (offset (length x.row.items) x.first k) None) (eqb-true id.k other.k parts.1)

apart : (x : Index) (id other : Id) (i : ℕ) → slot_of x id ≡ Some i → slot_of x other ≡ None → same_id id other ≡ false
apart x id other i e f = told (same_id id other) refl where
  told : (same : Bool) → same_id id other ≡ same → same_id id other ≡ false
  told true is = nothing (sym f ∙ sym (slots_same x id other is) ∙ e)
  told false is = is

apart_too : (x : Index) (id other : Id) (j : ℕ) → slot_of x id ≡ None → slot_of x other ≡ Some j → same_id id other ≡ false
apart_too x id other j e f = told (same_id id other) refl where
  told : (same : Bool) → same_id id other ≡ same → same_id id other ≡ false
  told true is = nothing (sym e ∙ slots_same x id other is ∙ f)
  told false is = is

slots_stay : (x y : Index) (other : Id) → y.region ≡ x.region → y.first ≡ x.first → length y.row.items ≡ length x.row.items → slot_of y other ≡ slot_of x other
slots_stay x y other r f l =
    ap (λ n. cond (nat_eq other.region n) (offset (length y.row.items) y.first other.k) None) r
    ∙ ap (λ n. cond (nat_eq other.region x.region) (offset (length y.row.items) n other.k) None) f
    ∙ ap (λ n. cond (nat_eq other.region x.region) (offset n x.first other.k) None) l

-- a place that is put in the row
pub put_in_row : (x y : Index) (id other : Id) (i p : ℕ) → slot_of x id ≡ Some i → i < length x.row.items → y.region ≡ x.region → y.first ≡ x.first → y.others ≡ x.others →
    y.row.items ≡ set x.row.items i (Some p) → place_in y other ≡ cond (same_id id other) (Some p) (place_in x other)
put_in_row x y id other i p at within r f o row = by_slot (slot_of x other) refl where
  stay : slot_of y other ≡ slot_of x other
  stay = slots_stay x y other r f (ap length row ∙ length-set x.row.items i (Some p))

  by_slot : (slot : Option ℕ) → slot_of x other ≡ slot → place_in y other ≡ cond (same_id id other) (Some p) (place_in x other)
  by_slot (Some j) e =
      ap (place_by y other) (stay ∙ e) ∙ ap (λ xs. get_or xs j None) row ∙ get_set x.row.items i j (Some p) within
      ∙ ap (λ b. cond b (Some p) (get_or x.row.items j None)) (same_slot x id other i at j e) ∙ ap (cond (same_id id other) (Some p)) (sym (ap (place_by x other) e))
  by_slot None e =
      ap (place_by y other) (stay ∙ e) ∙ ap (get_by (same_id other)) o ∙ sym (ap (place_by x other) e) ∙ ap (λ b. cond b (Some p) (place_in x other)) (sym (apart x id other i at e))

-- a place that is put beside the row
pub put_aside : (x y : Index) (id other : Id) (p : ℕ) → slot_of x id ≡ None → y.region ≡ x.region → y.first ≡ x.first → y.row ≡ x.row →
    get_by (same_id other) y.others ≡ cond (same_id id other) (Some p) (get_by (same_id other) x.others) → place_in y other ≡ cond (same_id id other) (Some p) (place_in x other)
put_aside x y id other p at r f row here = by_slot (slot_of x other) refl where
  stay : slot_of y other ≡ slot_of x other
  stay = slots_stay x y other r f (ap (λ v. length v.items) row)

  by_slot : (slot : Option ℕ) → slot_of x other ≡ slot → place_in y other ≡ cond (same_id id other) (Some p) (place_in x other)
  by_slot (Some j) e =
      ap (place_by y other) (stay ∙ e) ∙ ap (λ v. get_or v.items j None) row ∙ sym (ap (place_by x other) e) ∙ ap (λ b. cond b (Some p) (place_in x other)) (sym (apart_too x id other j at e))
  by_slot None e = ap (place_by y other) (stay ∙ e) ∙ here ∙ ap (cond (same_id id other) (Some p)) (sym (ap (place_by x other) e))

-- a row that grows by no place has none
pub none_more : (xs : List (Option ℕ)) → ((slot : ℕ) → get_or xs slot None ≡ None) → (slot : ℕ) → get_or (xs ++ None ∷ []) slot None ≡ None
none_more [] none zero = refl
none_more [] none (suc slot) = refl
none_more (x ∷ xs) none zero = none zero
none_more (x ∷ xs) none (suc slot) = none_more xs (λ at. none (suc at)) slot

-- an index of nothing has no place
pub no_place : (x : Index) → ((slot : ℕ) → get_or x.row.items slot None ≡ None) → ((id : Id) → get_by (same_id id) x.others ≡ None) → (id : Id) → place_in x id ≡ None
no_place x row others id = by_slot (slot_of x id) refl where
  by_slot : (slot : Option ℕ) → slot_of x id ≡ slot → place_in x id ≡ None
  by_slot (Some slot) e = ap (place_by x id) e ∙ row slot
  by_slot None e = ap (place_by x id) e ∙ others id

-- The ids of a module: whether an id is one of them, and that in a formed module each operand names one.
use Rattle.std.proofs.Common.{◌≡◌, refl, sym, ap, ◌∙◌, subst, ℕ, suc, ◌+◌, ◌<◌, ◌≤◌, Bool, true, false, ◌&&◌, ◌||◌, Option, None, Some, List, [], ◌∷◌, ◌++◌, map, cond, nat_eq, slice_get, if◌then◌else◌, ◌⊎◌, inl, inr, arith, get_or, length}
use Rattle.std.specs.List.{AllPairs}
use Rattle.std.proofs.lemmas.Bool.Decides.{nat_tests}
use Rattle.ir_types.specs.declared.id.Id.{Id}
use Rattle.ir_types.specs.declared.ty.Ty.{Ty}
use Rattle.ir_types.specs.declared.opd.Opd.{Opd}
use Rattle.ir_types.specs.declared.opd.Opd.TheVariants.{Val, Lit, Sym}
use Rattle.ir_types.specs.declared.inst.Inst.{Inst}
use Rattle.ir_types.specs.declared.func.Param.{Param}
use Rattle.ir_types.specs.declared.func.Block.{Block}
use Rattle.ir_types.specs.declared.func.Func.{Func}
use Rattle.ir_types.specs.declared.module.Item.{Item}
use Rattle.ir_types.specs.declared.module.Item.TheVariants.{Kept, Opaque, Func as FuncItem}
use Rattle.ir_types.specs.declared.module.Module.{Module}
use Rattle.ir_types.specs.Available.{same_id}
use Rattle.ir_types.specs.Formed.{given_ty, ty_in_insts, or_else, ty_in_blocks, ty_in_params, value_ty, opd_ty, block_ids, item_ids, ids_of_items, ids_of, IsFormedBlock, IsFormedItem, IsFormed}
use Rattle.ir_types.specs.Renumbered.{new_id}
use Rattle.ir_types.proofs.Formed.{Every, every_of_all, every_of_each, IsThere, opds_there}

-- ---- ids

-- whether an id is one of these
abbrev pub among : List Id → Id → Bool
among [] x = false
among (y ∷ ys) x = same_id y x || among ys x

pub same_is : (x y : Id) → same_id x y ≡ true → x ≡ y
same_is x y h =
    let region : x.region ≡ y.region = grind (arith, nat_tests) in
    let k : x.k ≡ y.k = grind (arith, nat_tests) in
    λ i. record { region = region i; k = k i }

pub same_itself : (x : Id) → same_id x x ≡ true
same_itself x = grind (arith, nat_tests)

or_split : (a b : Bool) → (a || b) ≡ true → (a ≡ true) ⊎ (b ≡ true)
or_split true b h = inl refl
or_split false b h = inr h

or_left : (a b : Bool) → a ≡ true → (a || b) ≡ true
or_left true b h = refl
or_left false b h = absurd cc

or_right : (a b : Bool) → b ≡ true → (a || b) ≡ true
or_right true b h = refl
or_right false b h = h

pub among_left : (xs ys : List Id) (x : Id) → among xs x ≡ true → among (xs ++ ys) x ≡ true
among_left [] ys x h = absurd cc
among_left (z ∷ xs) ys x h = by_first (or_split (same_id z x) (among xs x) h) (λ r. among_left xs ys x r)
  where
    by_first : (same_id z x ≡ true) ⊎ (among xs x ≡ true) → (among xs x ≡ true → among (xs ++ ys) x ≡ true) → (same_id z x || among (xs ++ ys) x) ≡ true
    by_first (inl e) more = or_left (same_id z x) (among (xs ++ ys) x) e
    by_first (inr e) more = or_right (same_id z x) (among (xs ++ ys) x) (more e)

pub among_right : (xs ys : List Id) (x : Id) → among ys x ≡ true → among (xs ++ ys) x ≡ true
among_right [] ys x h = h
among_right (z ∷ xs) ys x h = or_right (same_id z x) (among (xs ++ ys) x) (among_right xs ys x h)

-- the new id of one of these is a number from k on
new_number : (k : ℕ) (ids : List Id) (x : Id) → among ids x ≡ true → (j : ℕ) × (k ≤ j) × (new_id k ids x ≡ record { region = 0; k = j })
new_number k [] x h = absurd cc
new_number k (y ∷ ys) x h = by_first (same_id y x) refl h (λ r. new_number (k + 1) ys x r)
  where
    by_first : (b : Bool) → same_id y x ≡ b → (b || among ys x) ≡ true → (among ys x ≡ true → (j : ℕ) × (k + 1 ≤ j) × (new_id (k + 1) ys x ≡ record { region = 0; k = j })) →
        (j : ℕ) × (k ≤ j) × (cond b (record { region = 0; k = k }) (new_id (k + 1) ys x) ≡ record { region = 0; k = j })
    by_first true e h more = (k, omega arith, refl)
    by_first false e h more = let r = more h in (r.0, omega arith, r.2)

apart : (k j : ℕ) (x : Id) → k < j → x ≡ record { region = 0; k = j } → same_id (record { region = 0; k = k }) x ≡ false
apart k j x less e = ap (same_id (record { region = 0; k = k })) e ∙ different where
  different : nat_eq 0 0 && nat_eq k j ≡ false
  different = grind (arith, nat_tests)

pub swapped : (x y : Id) → same_id x y ≡ same_id y x
swapped x y = by_test (same_id x y) (same_id y x) refl refl where
  by_test : (a b : Bool) → same_id x y ≡ a → same_id y x ≡ b → a ≡ b
  by_test true true e f = refl
  by_test false false e f = refl
  by_test true false e f = absurd (false_true (sym f ∙ ap (λ z. same_id y z) (same_is x y e) ∙ same_itself y)) where
    false_true : false ≡ true → ⊥
    false_true e = cc
  by_test false true e f = absurd (false_true (sym e ∙ ap (λ z. same_id x z) (same_is y x f) ∙ same_itself x)) where
    false_true : false ≡ true → ⊥
    false_true e = cc

-- different ids get different numbers
pub new_apart : (k : ℕ) (ids : List Id) (x y : Id) → among ids x ≡ true → among ids y ≡ true → same_id (new_id k ids x) (new_id k ids y) ≡ same_id x y
new_apart k [] x y hx hy = absurd cc
new_apart k (z ∷ zs) x y hx hy = by_test (same_id z x) (same_id z y) refl refl hx hy (λ p q. new_apart (k + 1) zs x y p q)
  where
    first : Id
    first = record { region = 0; k = k }

    later : (v : Id) → among zs v ≡ true → same_id first (new_id (k + 1) zs v) ≡ false
    later v h = let r = new_number (k + 1) zs v h in apart k r.0 (new_id (k + 1) zs v) (let less = r.1 in omega arith) r.2

    by_test : (a b : Bool) → same_id z x ≡ a → same_id z y ≡ b → (a || among zs x) ≡ true → (b || among zs y) ≡ true →
        (among zs x ≡ true → among zs y ≡ true → same_id (new_id (k + 1) zs x) (new_id (k + 1) zs y) ≡ same_id x y) →
        same_id (cond a first (new_id (k + 1) zs x)) (cond b first (new_id (k + 1) zs y)) ≡ same_id x y
    by_test true true e f p q more = same_itself first ∙ sym (ap (λ v. same_id v y) (sym (same_is z x e)) ∙ f)
    by_test true false e f p q more = later y q ∙ sym (ap (λ v. same_id v y) (sym (same_is z x e)) ∙ f)
    by_test false true e f p q more =
        swapped (new_id (k + 1) zs x) first ∙ later x p ∙ sym (swapped x y ∙ ap (λ v. same_id v x) (sym (same_is z y f)) ∙ e)
    by_test false false e f p q more = more p q

-- each id once
abbrev pub Once : List Id → Type 0
Once [] = Unit {0}
Once (x ∷ xs) = (among xs x ≡ false) × Once xs

pub not_among : (x : Id) (xs : List Id) → ((k : ℕ) (d : Id) → k < length xs → x ≡ get_or xs k d → ⊥) → among xs x ≡ false
not_among x [] h = refl
not_among x (y ∷ ys) h = by_test (same_id y x) refl (not_among x ys (λ k d less e. h (suc k) d (omega arith) e))
  where
    by_test : (b : Bool) → same_id y x ≡ b → among ys x ≡ false → (b || among ys x) ≡ false
    by_test true e rest = elim (h 0 y (omega arith) (sym (same_is y x e))) [ ]
    by_test false e rest = rest

pub once_of_pairs : (xs : List Id) → AllPairs (λ (a b : Id). a ≡ b → ⊥) xs → Once xs
once_of_pairs [] h = tt
once_of_pairs (x ∷ xs) h =
    (not_among x xs (λ k d less e. h 0 (suc k) d (omega arith) (omega arith) e), once_of_pairs xs (λ i j d less more. h (suc i) (suc j) d (omega arith) (omega arith)))

module _ (ids : List Id) where
  abbrev pub In : Id → Type 0
  In x = among ids x ≡ true

  abbrev pub OpdIn : Opd → Type 0
  OpdIn (Val x) = In x
  OpdIn (Lit l) = Unit {0}
  OpdIn (Sym g) = Unit {0}

  pub record InstIn (i : Inst) : Type 0 where
    pub id : In i.id
    pub opds : Every OpdIn i.opds

  abbrev pub BlockIn : Block → Type 0
  BlockIn b = Every InstIn b.insts

  pub record FuncIn (f : Func) : Type 0 where
    pub params : Every (λ (p : Param). In p.id) f.params
    pub blocks : Every BlockIn f.blocks

  abbrev pub ItemIn : Item → Type 0
  ItemIn (FuncItem f) = FuncIn f
  ItemIn _ = Unit {0}

-- ---- each id of a formed module is one of its ids

in_insts : (x : Id) (is : List Inst) → IsThere (ty_in_insts x is) → among (map (λ (i : Inst). i.id) is) x ≡ true
in_insts x [] h = elim h [ ]
in_insts x (i ∷ is) h = by_test (same_id i.id x) h (λ r. in_insts x is r)
  where
    by_test : (b : Bool) → IsThere (if b then Some (given_ty i.op i.ty) else ty_in_insts x is) → (IsThere (ty_in_insts x is) → among (map (λ (j : Inst). j.id) is) x ≡ true) →
        (b || among (map (λ (j : Inst). j.id) is) x) ≡ true
    by_test true h more = refl
    by_test false h more = more h

or_there : (a b : Option Ty) → IsThere (or_else a b) → IsThere a ⊎ IsThere b
or_there (Some t) b h = inl tt
or_there None b h = inr h

in_blocks : (x : Id) (bs : List Block) → IsThere (ty_in_blocks x bs) → among (block_ids bs) x ≡ true
in_blocks x [] h = elim h [ ]
in_blocks x (b ∷ bs) h = by_first (or_there (ty_in_insts x b.insts) (ty_in_blocks x bs) h) (λ r. in_blocks x bs r)
  where
    by_first : IsThere (ty_in_insts x b.insts) ⊎ IsThere (ty_in_blocks x bs) → (IsThere (ty_in_blocks x bs) → among (block_ids bs) x ≡ true) →
        among (map (λ (i : Inst). i.id) b.insts ++ block_ids bs) x ≡ true
    by_first (inl e) more = among_left (map (λ (i : Inst). i.id) b.insts) (block_ids bs) x (in_insts x b.insts e)
    by_first (inr e) more = among_right (map (λ (i : Inst). i.id) b.insts) (block_ids bs) x (more e)

in_params : (x : Id) (ps : List Param) → IsThere (ty_in_params x ps) → among (map (λ (p : Param). p.id) ps) x ≡ true
in_params x [] h = elim h [ ]
in_params x (p ∷ ps) h = by_test (same_id p.id x) h (λ r. in_params x ps r)
  where
    by_test : (b : Bool) → IsThere (if b then Some p.ty else ty_in_params x ps) → (IsThere (ty_in_params x ps) → among (map (λ (q : Param). q.id) ps) x ≡ true) →
        (b || among (map (λ (q : Param). q.id) ps) x) ≡ true
    by_test true h more = refl
    by_test false h more = more h

in_func : (f : Func) (x : Id) → IsThere (value_ty f x) → among (item_ids (FuncItem f)) x ≡ true
in_func f x h = by_first (or_there (ty_in_params x f.params) (ty_in_blocks x f.blocks) h)
  where
    by_first : IsThere (ty_in_params x f.params) ⊎ IsThere (ty_in_blocks x f.blocks) → among (map (λ (p : Param). p.id) f.params ++ block_ids f.blocks) x ≡ true
    by_first (inl e) = among_left (map (λ (p : Param). p.id) f.params) (block_ids f.blocks) x (in_params x f.params e)
    by_first (inr e) = among_right (map (λ (p : Param). p.id) f.params) (block_ids f.blocks) x (in_blocks x f.blocks e)

module _ (m : Module) (ids : List Id) where
  opds_in : (f : Func) → ((x : Id) → among (item_ids (FuncItem f)) x ≡ true → among ids x ≡ true) → (os : List Opd) → Every IsThere (map (opd_ty m f) os) → Every (OpdIn ids) os
  opds_in f more [] h = tt
  opds_in f more (Val x ∷ os) h = (more x (in_func f x h.0), opds_in f more os h.1)
  opds_in f more (Lit l ∷ os) h = (tt, opds_in f more os h.1)
  opds_in f more (Sym g ∷ os) h = (tt, opds_in f more os h.1)

  insts_in : (f : Func) (number : ℕ) → ((x : Id) → among (item_ids (FuncItem f)) x ≡ true → among ids x ≡ true) → (is : List Inst) →
      ((x : Id) → among (map (λ (i : Inst). i.id) is) x ≡ true → among ids x ≡ true) →
      Every (λ (i : Inst). Every IsThere (map (opd_ty m f) i.opds)) is → Every (InstIn ids) is
  insts_in f number more [] here h = tt
  insts_in f number more (i ∷ is) here h = (
    record { id = here i.id (or_left (same_id i.id i.id) (among (map (λ (j : Inst). j.id) is) i.id) (same_itself i.id)); opds = opds_in f more i.opds h.0 },
    insts_in f number more is (λ x e. here x (or_right (same_id i.id x) (among (map (λ (j : Inst). j.id) is) x) e)) h.1,
  )

  blocks_in : (f : Func) → ((x : Id) → among (item_ids (FuncItem f)) x ≡ true → among ids x ≡ true) → (bs : List Block) (number : ℕ) →
      ((x : Id) → among (block_ids bs) x ≡ true → among ids x ≡ true) →
      ((k : ℕ) (b : Block) → slice_get bs k ≡ Some b → IsFormedBlock m f (number + k) b) → Every (BlockIn ids) bs
  blocks_in f more [] number here h = tt
  blocks_in f more (b ∷ bs) number here h = (
    insts_in f number more b.insts (λ x e. here x (among_left (map (λ (i : Inst). i.id) b.insts) (block_ids bs) x e))
        (every_of_each (λ (i : Inst). Every IsThere (map (opd_ty m f) i.opds)) b.insts (λ k i e. opds_there m f (number + 0) k i ((h 0 b refl).insts k i e))),
    blocks_in f more bs (number + 1) (λ x e. here x (among_right (map (λ (i : Inst). i.id) b.insts) (block_ids bs) x e))
        (λ k c e. subst (λ n. IsFormedBlock m f n c) (omega arith) (h (suc k) c e)),
  )

  params_in : (ps : List Param) → ((x : Id) → among (map (λ (p : Param). p.id) ps) x ≡ true → among ids x ≡ true) → Every (λ (p : Param). among ids p.id ≡ true) ps
  params_in [] here = tt
  params_in (p ∷ ps) here = (
    here p.id (or_left (same_id p.id p.id) (among (map (λ (q : Param). q.id) ps) p.id) (same_itself p.id)),
    params_in ps (λ x e. here x (or_right (same_id p.id x) (among (map (λ (q : Param). q.id) ps) x) e)),
  )

  pub items_in : (items : List Item) → ((x : Id) → among (ids_of_items items) x ≡ true → among ids x ≡ true) → Every (IsFormedItem m) items → Every (ItemIn ids) items
  items_in [] here h = tt
  items_in (Kept text ∷ items) here h = (tt, items_in items here h.1)
  items_in (Opaque text ∷ items) here h = (tt, items_in items here h.1)
  items_in (FuncItem f ∷ items) here h = (
    record {
      params = params_in f.params (λ x e. more x (among_left (map (λ (p : Param). p.id) f.params) (block_ids f.blocks) x e));
      blocks = blocks_in f more f.blocks 0 (λ x e. more x (among_right (map (λ (p : Param). p.id) f.params) (block_ids f.blocks) x e)) (λ k b e. subst (λ n. IsFormedBlock m f n b) (omega arith) (h.0.blocks k b e));
    },
    items_in items (λ x e. here x (among_right (item_ids (FuncItem f)) (ids_of_items items) x e)) h.1,
  )
    where
      more : (x : Id) → among (item_ids (FuncItem f)) x ≡ true → among ids x ≡ true
      more x e = here x (among_left (item_ids (FuncItem f)) (ids_of_items items) x e)

-- each id that a formed module names is one of its ids
pub module_in : (m : Module) → IsFormed m → Every (ItemIn (ids_of m)) m.items
module_in m h = items_in m (ids_of m) m.items (λ x e. e) (every_of_all (IsFormedItem m) m.items h.items)

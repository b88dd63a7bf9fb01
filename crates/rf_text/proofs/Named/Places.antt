-- Where the things of a function stand: what is shown of each means its place or its number, and is shown of nothing else.
use Rattle.std.proofs.Common.{◌≡◌, ℕ, suc, zero, ◌+◌, ◌^◌, ◌≤◌, ◌<◌, Bool, true, false, if◌then◌else◌, List, [], ◌∷◌, ◌++◌, length, nat_eq, Option, Some, None, refl, sym, ◌∙◌, ap, arith, append_assoc, eq-eqb, eqb-true}
use Rattle.std.proofs.lemmas.Bool.Decides.{nat_tests}
use Rattle.std.proofs.lemmas.List.Elements.{All-head, All-tail}
use Rattle.std.specs.List.{All, slice_get}
use Rattle.ir_types.specs.declared.id.Id.{Id}
use Rattle.ir_types.specs.declared.ty.Ty.{Ty}
use Rattle.ir_lex.proofs.Classes.{both}
use Rattle.ir_print.specs.declared.names.Local.{Local}
use Rattle.ir_print.specs.Names.{Names, locals_from, labels_from, shown, counted, same_id, last_of, local_of}
use Rattle.ir_types_check.specs.Scope.{Scope, meaning}
use Rattle.ir_types_check.proofs.Handed.{LocalMeaning, value_at, block_at}
use Rattle.rf_text.specs.Printable.{ids_from}
use Rattle.rf_text.proofs.Named.Scope.{Once, found, moved}
use Rattle.rf_text.proofs.Named.Shown.{Again, again, counted_most}
use Rattle.rf_text.proofs.Named.Things.{Thing, Gives, Silent, Begins, named_things, scope_from, IsPlainThing}

-- ---- ids

-- the id of a place of a function whose first number is `base`
abbrev pub id_at : ℕ → ℕ → Id
id_at base p = record { region = 0; k = base + p }

abbrev pub ids_things : List Thing → List Id
ids_things [] = []
ids_things (Gives id ty name ∷ ts) = id ∷ ids_things ts
ids_things (Silent id ∷ ts) = id ∷ ids_things ts
ids_things (Begins name ∷ ts) = ids_things ts

-- the id of each thing is that of its place, where p is the first
abbrev pub Placed : ℕ → ℕ → List Thing → Type 0
Placed base p [] = Unit {0}
Placed base p (Gives id ty name ∷ ts) = (id ≡ id_at base p) × Placed base (p + 1) ts
Placed base p (Silent id ∷ ts) = (id ≡ id_at base p) × Placed base (p + 1) ts
Placed base p (Begins name ∷ ts) = Placed base p ts

-- ids in order are those of places
pub ids_split : (id : Id) (ids : List Id) (k m : ℕ) → id ∷ ids ≡ ids_from k m → (j : ℕ) × (id ≡ record { region = 0; k = k }) × (ids ≡ ids_from (k + 1) j)
ids_split id ids k zero e = cc
ids_split id ids k (suc m) e = (m, cc, cc)

pub placed_from : (base p : ℕ) (ts : List Thing) (rest : List Id) (k m : ℕ) → k ≡ base + p → ids_things ts ++ rest ≡ ids_from k m → Placed base p ts
placed_from base p [] rest k m is e = tt
placed_from base p (Gives id ty name ∷ ts) rest k m is e =
    let parts : (j : ℕ) × (id ≡ record { region = 0; k = k }) × (ids_things ts ++ rest ≡ ids_from (k + 1) j) = ids_split id (ids_things ts ++ rest) k m e in
    (parts.1 ∙ ap (λ (x : ℕ). record { region = 0; k = x }) is, placed_from base (p + 1) ts rest (k + 1) parts.0 (omega (arith, is)) parts.2)
placed_from base p (Silent id ∷ ts) rest k m is e =
    let parts : (j : ℕ) × (id ≡ record { region = 0; k = k }) × (ids_things ts ++ rest ≡ ids_from (k + 1) j) = ids_split id (ids_things ts ++ rest) k m e in
    (parts.1 ∙ ap (λ (x : ℕ). record { region = 0; k = x }) is, placed_from base (p + 1) ts rest (k + 1) parts.0 (omega (arith, is)) parts.2)
placed_from base p (Begins name ∷ ts) rest k m is e = placed_from base p ts rest k m is e

-- ---- values by their ids

id_same : (id : Id) → same_id id id ≡ true
id_same id = rw (eq-eqb id.region id.region refl, eq-eqb id.k id.k refl) refl

pub same_ids : (a b : Id) → same_id a b ≡ true → a ≡ b
same_ids a b h =
    let parts : (nat_eq a.region b.region ≡ true) × (nat_eq a.k b.k ≡ true) = both (nat_eq a.region b.region) (nat_eq a.k b.k) h in
    let r : a.region ≡ b.region = eqb-true a.region b.region parts.0 in
    let k : a.k ≡ b.k = eqb-true a.k b.k parts.1 in
    ap (λ (x : ℕ). record { region = x; k = a.k }) r ∙ ap (λ (x : ℕ). record { region = b.region; k = x }) k

ids_apart : (base p j : ℕ) → j < p → same_id (id_at base p) (id_at base j) ≡ false
ids_apart base p j less = grind (arith, nat_tests)

-- no value after has the id of an earlier place
pub later : (base n p j : ℕ) (ts : List Thing) → j < p → Placed base p ts → (before : Option Local) → last_of (id_at base j) (locals_from n (named_things ts)) before ≡ before
later base n p j [] less placed before = refl
later base n p j (Gives id ty name ∷ ts) less placed before =
    let apart : same_id id (id_at base j) ≡ false = ap (λ (x : Id). same_id x (id_at base j)) placed.0 ∙ ids_apart base p j less in
    let l : Local = record { id = id; ty = ty; text = shown n name } in
    let others : List Local = locals_from (counted n name) (named_things ts) in
    ap (λ (t : Bool). last_of (id_at base j) others (if t then Some l else before)) apart ∙ later base (counted n name) (p + 1) j ts (omega (arith, less)) placed.1 before
later base n p j (Silent id ∷ ts) less placed before = later base n (p + 1) j ts (omega (arith, less)) placed.1 before
later base n p j (Begins name ∷ ts) less placed before = later base (counted n name) p j ts less placed before

last_of-append : (id : Id) (ls ms : List Local) (before : Option Local) → last_of id (ls ++ ms) before ≡ last_of id ms (last_of id ls before)
last_of-append id [] ms before = refl
last_of-append id (l ∷ ls) ms before = last_of-append id ls ms (if same_id l.id id then Some l else before)

last_here : (l : Local) (before : Option Local) → (if same_id l.id l.id then Some l else before) ≡ Some l
last_here l before = rw (id_same l.id) refl

-- a value is found by its id
pub value_found : (base n p : ℕ) (ls : List Local) (l : Local) (ts : List Thing) → l.id ≡ id_at base p → Placed base (p + 1) ts → local_of l.id (ls ++ l ∷ locals_from n (named_things ts)) ≡ Some l
value_found base n p ls l ts is placed =
    let tail : last_of l.id (locals_from n (named_things ts)) (Some l) ≡ Some l =
    ap (λ (x : Id). last_of x (locals_from n (named_things ts)) (Some l)) is ∙ later base n (p + 1) p ts (omega arith) placed (Some l) in
    last_of-append l.id ls (l ∷ locals_from n (named_things ts)) None
    ∙ ap (last_of l.id (locals_from n (named_things ts))) (last_here l (last_of l.id ls None))
    ∙ tail

pub slice_get-append : {X : Type 0} (xs : List X) (y : X) (ys : List X) (k : ℕ) → length xs ≡ k → slice_get (xs ++ y ∷ ys) k ≡ Some y
slice_get-append [] y ys zero e = refl
slice_get-append [] y ys (suc k) e = absurd (omega (arith, e))
slice_get-append (x ∷ xs) y ys zero e = absurd (omega (arith, e))
slice_get-append (x ∷ xs) y ys (suc k) e = slice_get-append xs y ys k (omega (arith, e))

pub push_length : {X : Type 0} (xs : List X) (y : X) (k : ℕ) → length xs ≡ k → length (xs ++ y ∷ []) ≡ k + 1
push_length [] y k e = omega (arith, e)
push_length (x ∷ xs) y k e = let less : length (xs ++ y ∷ []) ≡ length xs + 1 = push_length xs y (length xs) refl in omega (arith, less, e)

-- ---- things

module _ (base : ℕ) (scope : Scope LocalMeaning) (ns : Names) where
  -- a value of the place p, where n is the next number
  pub record IsValue (n p : ℕ) (id : Id) (ty : Ty) (name : Option (List ℕ)) : Type 0 where
    pub shows : local_of id ns.locals ≡ Some (record { id = id; ty = ty; text = shown n name })
    pub means : meaning (shown n name) scope ≡ Some (value_at p ty)
    pub placed : id ≡ id_at base p
    pub once_more : Again n name

  -- a block of the number b
  pub record IsBlock (n b : ℕ) (name : Option (List ℕ)) : Type 0 where
    pub shows : slice_get ns.labels b ≡ Some (shown n name)
    pub means : meaning (shown n name) scope ≡ Some (block_at b)
    pub once_more : Again n name

  -- all things from the next number, the next place and the next block on
  abbrev pub Known : ℕ → ℕ → ℕ → List Thing → Type 0
  Known n p b [] = Unit {0}
  Known n p b (Gives id ty name ∷ ts) = IsValue n p id ty name × Known (counted n name) (p + 1) b ts
  Known n p b (Silent id ∷ ts) = (id ≡ id_at base p) × Known n (p + 1) b ts
  Known n p b (Begins name ∷ ts) = IsBlock n b name × Known (counted n name) p (b + 1) ts

  meant : (done : Scope LocalMeaning) (name : List ℕ) (m : LocalMeaning) (rest : Scope LocalMeaning) → scope ≡ done ++ (name, m) ∷ rest → Once scope → meaning name scope ≡ Some m
  meant done name m rest whole once = rw whole (found done name m rest (rw whole at once))

  -- what stands after others is known
  pub known_from : (n p b : ℕ) (ts : List Thing) (done : Scope LocalMeaning) (ls : List Local) (bs : List (List ℕ)) → scope ≡ done ++ scope_from n p b ts → ns.locals ≡ ls ++ locals_from n (named_things ts) →
      ns.labels ≡ bs ++ labels_from n (named_things ts) → length bs ≡ b → n + length (named_things ts) ≤ 2 ^ 64 → All IsPlainThing ts → Placed base p ts → Once scope → Known n p b ts
  known_from n p b [] done ls bs whole locals labels many small plain placed once = tt
  known_from n p b (Gives id ty name ∷ ts) done ls bs whole locals labels many small plain placed once =
      let l : Local = record { id = id; ty = ty; text = shown n name } in (
        record {
          shows = ap (local_of id) locals ∙ (value_found base (counted n name) p ls (record { id = id; ty = ty; text = shown n name }) ts placed.0 placed.1);
          means = meant done (shown n name) (value_at p ty) (scope_from (counted n name) (p + 1) b ts) whole once;
          placed = placed.0;
          once_more = again n name (omega (arith, small)) (All-head IsPlainThing (Gives id ty name) ts plain);
        },
        known_from (counted n name) (p + 1) b ts (done ++ (shown n name, value_at p ty) ∷ []) (ls ++ l ∷ []) bs
            (moved scope done (shown n name, value_at p ty) (scope_from (counted n name) (p + 1) b ts) whole)
            (locals ∙ sym (append_assoc ls (l ∷ []) (locals_from (counted n name) (named_things ts)))) labels many (omega (arith, small, counted_most n name)) (All-tail IsPlainThing (Gives id ty name) ts plain) placed.1 once,
      )
  known_from n p b (Silent id ∷ ts) done ls bs whole locals labels many small plain placed once =
      (placed.0, known_from n (p + 1) b ts done ls bs whole locals labels many small (All-tail IsPlainThing (Silent id) ts plain) placed.1 once)
  known_from n p b (Begins name ∷ ts) done ls bs whole locals labels many small plain placed once = (
    record {
      shows = ap (λ (ls : List (List ℕ)). slice_get ls b) labels ∙ (slice_get-append bs (shown n name) (labels_from (counted n name) (named_things ts)) b many);
      means = meant done (shown n name) (block_at b) (scope_from (counted n name) p (b + 1) ts) whole once;
      once_more = again n name (omega (arith, small)) (All-head IsPlainThing (Begins name) ts plain);
    },
    known_from (counted n name) p (b + 1) ts (done ++ (shown n name, block_at b) ∷ []) ls (bs ++ shown n name ∷ [])
        (moved scope done (shown n name, block_at b) (scope_from (counted n name) p (b + 1) ts) whole) locals
        (labels ∙ sym (append_assoc bs (shown n name ∷ []) (labels_from (counted n name) (named_things ts)))) (push_length bs (shown n name) b many) (omega (arith, small, counted_most n name))
        (All-tail IsPlainThing (Begins name) ts plain) placed once,
  )

  -- ---- what is found

  -- the value of an id means its place
  pub record IsPlaced (id : Id) (l : Local) : Type 0 where
    pub place : ℕ
    pub means : meaning l.text scope ≡ Some (value_at place l.ty)
    pub is : id ≡ id_at base place

  last_placed : (id : Id) (n p b : ℕ) (ts : List Thing) (before : Option Local) → ((l : Local) → before ≡ Some l → IsPlaced id l) → Known n p b ts → (l : Local) → last_of id (locals_from n (named_things ts)) before ≡ Some l → IsPlaced id l
  last_placed id n p b [] before all known l e = all l e
  last_placed id n p b (Gives key ty name ∷ ts) before all known l e =
      let k : Local = record { id = key; ty = ty; text = shown n name } in
      last_placed id (counted n name) (p + 1) b ts (if same_id key id then Some k else before) (λ l e. here (same_id key id) refl l e) known.1 l e where
        here : (t : Bool) → same_id key id ≡ t → (l : Local) → (if t then Some (record { id = key; ty = ty; text = shown n name }) else before) ≡ Some l → IsPlaced id l
        here true same l e =
            let is : record { id = key; ty = ty; text = shown n name } ≡ l = cc in
            let one : id ≡ id_at base p = sym (same_ids key id same) ∙ known.0.placed in
            rw (← is) (record { place = p; means = known.0.means; is = one })
        here false same l e = all l e
  last_placed id n p b (Silent key ∷ ts) before all known l e = last_placed id n (p + 1) b ts before all known.1 l e
  last_placed id n p b (Begins name ∷ ts) before all known l e = last_placed id (counted n name) p (b + 1) ts before all known.1 l e

  pub value_placed : (id : Id) (ts : List Thing) → ns.locals ≡ locals_from 0 (named_things ts) → Known 0 0 0 ts → (l : Local) → local_of id ns.locals ≡ Some l → IsPlaced id l
  value_placed id ts locals known l e = last_placed id 0 0 0 ts None (λ l e. cc) known l (rw locals at e)

  block_in : (n p b : ℕ) (ts : List Thing) (k : ℕ) (name : List ℕ) → Known n p b ts → slice_get (labels_from n (named_things ts)) k ≡ Some name → (j : ℕ) → j ≡ b + k → meaning name scope ≡ Some (block_at j)
  block_in n p b [] k name known e j is = cc
  block_in n p b (Gives id ty key ∷ ts) k name known e j is = block_in (counted n key) (p + 1) b ts k name known.1 e j is
  block_in n p b (Silent id ∷ ts) k name known e j is = block_in n (p + 1) b ts k name known.1 e j is
  block_in n p b (Begins key ∷ ts) zero name known e j is =
      let same : shown n key ≡ name = cc in
      let here : b ≡ j = omega (arith, is) in
      rw (← same, ← here) known.0.means
  block_in n p b (Begins key ∷ ts) (suc k) name known e j is = block_in (counted n key) p (b + 1) ts k name known.1 e j (omega (arith, is))

  -- what is shown of a block means that block
  pub block_known : (ts : List Thing) → ns.labels ≡ labels_from 0 (named_things ts) → Known 0 0 0 ts → (k : ℕ) (name : List ℕ) → slice_get ns.labels k ≡ Some name → meaning name scope ≡ Some (block_at k)
  block_known ts labels known k name e = block_in 0 0 0 ts k name known (rw labels at e) k (omega arith)

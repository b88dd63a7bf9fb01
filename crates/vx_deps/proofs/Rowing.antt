-- What is held in block order: its ids, its window, and the edges that it has.
use Rattle.std.proofs.Common.{◌≡◌, refl, sym, ap, ◌∙◌, subst, ℕ, suc, Bool, true, false, ◌||◌, cond, Some, List, [], ◌∷◌, ◌++◌, map, reverse}
use Rattle.std.specs.List.{list_any}
use Rattle.std.proofs.lemmas.List.{reverse-append, map-append}
use Rattle.ir_types.specs.declared.id.Id.{Id}
use Rattle.ir_types.specs.Available.{same_id}
use Rattle.ir_types.proofs.Among.{same_is, same_itself, swapped}
use Rattle.vx_serial.specs.Window.{is_member}
use Rattle.vx_serial.specs.Bundles as bundle
use Rattle.vx_serial.specs.Bundles.{AreOnce}
use Rattle.vx_serial.proofs.Decided.{or_left, or_right, neither, not_true, true_false}
use Rattle.vx_deps.specs.Graphs.{Kept, ids_of, kept_of, between, keeps, depends_on}
use Rattle.vx_deps.specs.Orders.{from_member, edges_from, edges_in, window_ids}
use Rattle.vx_deps.specs.Rows as rows
use Rattle.vx_deps.specs.Rows.{row, row_ids, edges_of, edges_between}

-- ---- ids

abbrev id_of : Kept → Id
id_of k = k.inst.id

pub ids_are : (kept : List Kept) → row_ids (row kept) ≡ ids_of kept
ids_are [] = refl
ids_are (k ∷ ks) =
    ap row_ids (reverse-append (k ∷ []) ks) ∙ map-append id_of (reverse ks) (k ∷ []) ∙ ap (λ l. l ++ k.inst.id ∷ []) (ids_are ks)
    ∙ sym (reverse-append (k.inst.id ∷ []) (map id_of ks))

pub window_are : (bundles : List (List Id)) (r : List Kept) → row_ids (rows.from_member bundles r) ≡ from_member bundles (row_ids r)
window_are bundles [] = refl
window_are bundles (k ∷ ks) = by_test (is_member bundles k.inst.id) (window_are bundles ks)
  where
    by_test : (b : Bool) → row_ids (rows.from_member bundles ks) ≡ from_member bundles (row_ids ks) →
        row_ids (cond b (k ∷ ks) (rows.from_member bundles ks)) ≡ cond b (k.inst.id ∷ row_ids ks) (from_member bundles (row_ids ks))
    by_test true r = refl
    by_test false r = r

-- the ids of the window are those of its row
pub window_row : (held : List Kept) (bundles : List (List Id)) → row_ids (rows.from_member bundles (row held)) ≡ window_ids held bundles
window_row held bundles = window_are bundles (row held) ∙ ap (from_member bundles) (ids_are held)

pub row_insts : (r : List Kept) → bundle.ids_of (map (λ (k : Kept). k.inst) r) ≡ row_ids r
row_insts [] = refl
row_insts (k ∷ ks) = ap (λ l. k.inst.id ∷ l) (row_insts ks)

-- ---- each once

apart_last : (x : Id) (xs : List Id) (z : Id) → list_any (same_id x) (xs ++ z ∷ []) ≡ false → same_id x z ≡ false
apart_last x [] z e = or_left (same_id x z) false e
apart_last x (y ∷ ys) z e = apart_last x ys z (or_right (same_id x y) (list_any (same_id x) (ys ++ z ∷ [])) e)

apart_front : (x : Id) (xs : List Id) (z : Id) → list_any (same_id x) (xs ++ z ∷ []) ≡ false → list_any (same_id x) xs ≡ false
apart_front x [] z e = refl
apart_front x (y ∷ ys) z e =
    neither (same_id x y) (list_any (same_id x) ys) (or_left (same_id x y) (list_any (same_id x) (ys ++ z ∷ [])) e)
    (apart_front x ys z (or_right (same_id x y) (list_any (same_id x) (ys ++ z ∷ [])) e))

once_front : (xs : List Id) (z : Id) → AreOnce (xs ++ z ∷ []) → AreOnce xs
once_front [] z o = tt
once_front (x ∷ xs) z o = (apart_front x xs z o.0, once_front xs z o.1)

pub once_window : (bundles : List (List Id)) (ids : List Id) → AreOnce ids → AreOnce (from_member bundles ids)
once_window bundles [] o = tt
once_window bundles (x ∷ xs) o = by_test (is_member bundles x) (once_window bundles xs o.1)
  where
    by_test : (b : Bool) → AreOnce (from_member bundles xs) → AreOnce (cond b (x ∷ xs) (from_member bundles xs))
    by_test true more = o
    by_test false more = more

-- members stand in the window
pub members_window : (bundles : List (List Id)) (ids : List Id) (x : Id) → is_member bundles x ≡ true → list_any (same_id x) ids ≡ true → list_any (same_id x) (from_member bundles ids) ≡ true
members_window bundles [] x m h = h
members_window bundles (y ∷ ys) x m h = by_test (is_member bundles y) refl (λ r. members_window bundles ys x m r)
  where
    differ : is_member bundles y ≡ false → same_id x y ≡ false
    differ e = not_true (same_id x y) (λ s. true_false (sym m ∙ ap (is_member bundles) (same_is x y s) ∙ e))

    by_test : (b : Bool) → is_member bundles y ≡ b → (list_any (same_id x) ys ≡ true → list_any (same_id x) (from_member bundles ys) ≡ true) →
        list_any (same_id x) (cond b (y ∷ ys) (from_member bundles ys)) ≡ true
    by_test true e more = h
    by_test false e more = more (sym (ap (λ b. b || list_any (same_id x) ys) (differ e)) ∙ h)

-- ---- what is kept of each

-- of each of a row's ids what is kept is found
abbrev pub AreFound : List Kept → List Kept → Type 0
AreFound kept [] = Unit {0}
AreFound kept (k ∷ ks) = (kept_of k.inst.id kept ≡ Some k) × AreFound kept ks

found_more : (k : Kept) (ks js : List Kept) → AreOnce (row_ids js ++ k.inst.id ∷ []) → AreFound ks js → AreFound (k ∷ ks) js
found_more k ks [] o h = tt
found_more k ks (j ∷ js) o h = (
  ap (λ b. cond b (Some k) (kept_of j.inst.id ks)) (swapped k.inst.id j.inst.id ∙ apart_last j.inst.id (row_ids js) k.inst.id o.0) ∙ h.0,
  found_more k ks js o.1 h.1,
)

found_append : (kept xs ys : List Kept) → AreFound kept xs → AreFound kept ys → AreFound kept (xs ++ ys)
found_append kept [] ys h k = k
found_append kept (x ∷ xs) ys h k = (h.0, found_append kept xs ys h.1 k)

pub found_all : (kept : List Kept) → AreOnce (row_ids (row kept)) → AreFound kept (row kept)
found_all [] o = tt
found_all (k ∷ ks) o =
    let cut : row (k ∷ ks) ≡ row ks ++ k ∷ [] = reverse-append (k ∷ []) ks in
    let once : AreOnce (row_ids (row ks) ++ k.inst.id ∷ []) = subst AreOnce (ap row_ids cut ∙ map-append id_of (row ks) (k ∷ [])) o in
    let here : kept_of k.inst.id (k ∷ ks) ≡ Some k = ap (λ b. cond b (Some k) (kept_of k.inst.id ks)) (same_itself k.inst.id) in
    subst (AreFound (k ∷ ks)) (sym cut)
    (found_append (k ∷ ks) (row ks) (k ∷ []) (found_more k ks (row ks) once (found_all ks (once_front (row_ids (row ks)) k.inst.id once))) (here, tt))

pub found_window : (bundles : List (List Id)) (kept r : List Kept) → AreFound kept r → AreFound kept (rows.from_member bundles r)
found_window bundles kept [] h = h
found_window bundles kept (k ∷ ks) h = by_test (is_member bundles k.inst.id) (found_window bundles kept ks h.1)
  where
    by_test : (b : Bool) → AreFound kept (rows.from_member bundles ks) → AreFound kept (cond b (k ∷ ks) (rows.from_member bundles ks))
    by_test true more = h
    by_test false more = more

-- ---- edges

module _ (kept : List Kept) where
  same_of : (from : ℕ) (k : Kept) (at : ℕ) (js : List Kept) → kept_of k.inst.id kept ≡ Some k → AreFound kept js →
      edges_from (keeps kept) from k.inst.id at (row_ids js) ≡ edges_of from k at js
  same_of from k at [] e h = refl
  same_of from k at (j ∷ js) e h =
      ap (λ b. cond b ((from, at) ∷ edges_from (keeps kept) from k.inst.id (suc at) (row_ids js)) (edges_from (keeps kept) from k.inst.id (suc at) (row_ids js)))
      (ap (λ u. between u (kept_of j.inst.id kept)) e ∙ ap (between (Some k)) h.0)
      ∙ ap (λ l. cond (depends_on j k) ((from, at) ∷ l) l) (same_of from k (suc at) js e h.1)

  pub same_between : (at : ℕ) (r : List Kept) → AreFound kept r → edges_in (keeps kept) at (row_ids r) ≡ edges_between at r
  same_between at [] h = refl
  same_between at (k ∷ ks) h =
      ap (λ l. l ++ edges_in (keeps kept) (suc at) (row_ids ks)) (same_of at k (suc at) ks h.0 h.1) ∙ ap (λ l. edges_of at k (suc at) ks ++ l) (same_between (suc at) ks h.1)

-- the edges of the window are told by what is kept
pub edges_are : (held : List Kept) (bundles : List (List Id)) → AreOnce (ids_of held) →
    edges_in (keeps held) 0 (window_ids held bundles) ≡ edges_between 0 (rows.from_member bundles (row held))
edges_are held bundles once =
    ap (edges_in (keeps held) 0) (sym (window_row held bundles))
    ∙ same_between held 0 (rows.from_member bundles (row held)) (found_window bundles held (row held) (found_all held (subst AreOnce (sym (ids_are held)) once)))

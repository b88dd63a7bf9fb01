-- The groups of a window of what is held partition its places, and its edges name these.
use Rattle.std.proofs.Common.{◌≡◌, refl, sym, ap, ◌∙◌, subst, ℕ, suc, ◌+◌, ◌<◌, ◌≤◌, ◌^◌, Bool, true, false, cond, List, [], ◌∷◌, length, map, arith}
use Rattle.std.specs.List.{All, list_any}
use Rattle.std.proofs.lemmas.List.Elements.{All-nil, All-cons, All-append}
use Rattle.ir_types.specs.declared.id.Id.{Id}
use Rattle.ir_types.specs.declared.inst.Inst.{Inst}
use Rattle.ir_types.specs.Available.{same_id}
use Rattle.vx_order.specs.Groups.{size, IsPartition}
use Rattle.vx_serial.specs.Window as window
use Rattle.vx_serial.specs.Window.{is_member, joined}
use Rattle.vx_serial.specs.Bundles as bundle
use Rattle.vx_serial.specs.Bundles.{AreOnce, AreBundles}
use Rattle.vx_serial.proofs.Places.{member_joined}
use Rattle.vx_serial.proofs.Partitions.{groups_partition, many}
use Rattle.vx_deps.specs.Graphs.{Kept, ids_of, depends_on}
use Rattle.vx_deps.specs.Orders.{groups_in, window_ids}
use Rattle.vx_deps.specs.Cycles.{AreBundlesOf}
use Rattle.vx_deps.specs.Rows as rows
use Rattle.vx_deps.specs.Rows.{row, row_ids, edges_of, edges_between}
use Rattle.vx_deps.proofs.Orders.{same_groups}
use Rattle.vx_deps.proofs.Rowing.{row_insts, window_row, once_window, members_window}

mapped_long : {A B : Type 0} (f : A → B) (xs : List A) → length (map f xs) ≡ length xs
mapped_long f [] = refl
mapped_long f (x ∷ xs) = ap suc (mapped_long f xs)

-- ---- edges below the number of places

abbrev pub AreBelow : ℕ → ℕ × ℕ → Type 0
AreBelow n e = (e.0 < n) × (e.1 < n)

of_below : (n from : ℕ) (k : Kept) (at : ℕ) (js : List Kept) → from < n → at + length js ≤ n → All (AreBelow n) (edges_of from k at js)
of_below n from k at [] f h = All-nil (AreBelow n)
of_below n from k at (j ∷ js) f h = by_test (depends_on j k) (of_below n from k (suc at) js f (omega arith))
  where
    by_test : (b : Bool) → All (AreBelow n) (edges_of from k (suc at) js) → All (AreBelow n) (cond b ((from, at) ∷ edges_of from k (suc at) js) (edges_of from k (suc at) js))
    by_test true more = All-cons (AreBelow n) (from, at) (edges_of from k (suc at) js) (f, omega arith) more
    by_test false more = more

pub between_below : (n at : ℕ) (r : List Kept) → at + length r ≤ n → All (AreBelow n) (edges_between at r)
between_below n at [] h = All-nil (AreBelow n)
between_below n at (k ∷ ks) h =
    All-append (AreBelow n) (edges_of at k (suc at) ks) (edges_between (suc at) ks) (of_below n at k (suc at) ks (omega arith) (omega arith)) (between_below n (suc at) ks (omega arith))

-- ---- groups

module _ (held : List Kept) (bundles : List (List Id)) (once : AreOnce (ids_of held)) (are : AreBundlesOf (ids_of held) bundles) where
  abbrev in_window : List Kept
  in_window = rows.from_member bundles (row held)

  abbrev insts : List Inst
  insts = map (λ (k : Kept). k.inst) in_window

  ids_there : bundle.ids_of insts ≡ window_ids held bundles
  ids_there = row_insts in_window ∙ window_row held bundles

  once_there : AreOnce (bundle.ids_of insts)
  once_there = subst AreOnce (sym ids_there) (once_window bundles (ids_of held) once)

  pub members_there : (x : Id) → is_member bundles x ≡ true → list_any (same_id x) (window_ids held bundles) ≡ true
  members_there x h = members_window bundles (ids_of held) x h (are.members x h)

  bundles_there : AreBundles insts bundles
  bundles_there = record {
    members = λ x h. subst (λ l. list_any (same_id x) l ≡ true) (sym ids_there) (members_there x (member_joined bundles x ∙ h));
    once = are.once;
  }

  groups_are : window.groups_in bundles insts ≡ groups_in bundles (window_ids held bundles)
  groups_are = same_groups bundles insts ∙ ap (groups_in bundles) ids_there

  long : length insts ≡ length (window_ids held bundles)
  long = sym (mapped_long (λ (i : Inst). i.id) insts) ∙ ap length ids_there

  pub partition : length (window_ids held bundles) < 2 ^ 32 → IsPartition (groups_in bundles (window_ids held bundles))
  partition few = subst IsPartition groups_are (groups_partition insts bundles once_there bundles_there are.filled (let l = long in omega arith))

  pub as_many : size (groups_in bundles (window_ids held bundles)) ≡ length (window_ids held bundles)
  as_many = ap size (sym groups_are) ∙ many insts bundles once_there bundles_there ∙ long

  pub edges_below : All (AreBelow (size (groups_in bundles (window_ids held bundles)))) (edges_between 0 in_window)
  edges_below =
      let size_is = as_many in
      let count : length insts ≡ length in_window = mapped_long (λ (k : Kept). k.inst) in_window in
      let same = long in
      between_below (size (groups_in bundles (window_ids held bundles))) 0 in_window (omega arith)

-- The ids of a reach are answered as instructions that follow one another, and a graph that grows over them asks for each.
use Rattle.std.proofs.Common.{◌≡◌, refl, sym, ap, ◌∙◌, subst, ℕ, Bool, true, false, ◌||◌, cond, Option, None, Some, List, [], ◌∷◌, ◌++◌, append_assoc, length, take, drop, ◌-◌}
use Rattle.std.proofs.lemmas.List.{take-append-drop}
use Rattle.ir_types.specs.declared.id.Id.{Id}
use Rattle.ir_types.specs.declared.id.Place.{Place}
use Rattle.ir_types.specs.declared.inst.Inst.{Inst}
use Rattle.ir_types.specs.declared.module.Module.{Module}
use Rattle.ir_types.specs.Available.{same_id}
use Rattle.ir_types.specs.Formed.{IsFormed}
use Rattle.ir_types.proofs.Among.{Once, same_itself}
use Rattle.vx_view.specs.declared.question.Question.{Question}
use Rattle.vx_view.specs.declared.question.Question.TheVariants as ask
use Rattle.vx_view.specs.Addresses.{block_of}
use Rattle.vx_view.specs.Answers.{answer, find, found, after, id_of, beside, Standing}
use Rattle.vx_view.specs.Blocks.{block_at}
use Rattle.vx_view.proofs.Blocks.{found_block, found_alone}
use Rattle.vx_view.proofs.Edits.{inst_ids}
use Rattle.vx_serial.specs.Near.{looked_at}
use Rattle.vx_serial.specs.Window.{is_member, up_to}
use Rattle.vx_deps.specs.Reach.{reach, has, ids_of, is_answered, id_answered, is_there}
use Rattle.vx_deps.specs.Graphs.{Precedes, NamesNode}
use Rattle.vx_deps.specs.Orders.{from_member}
use Rattle.vx_deps.specs.Ordered.{FollowOn, NamesRow}
use Rattle.vx_deps.proofs.Standings.{stood_in, there, block_once}
use Rattle.vx_deps.proofs.Growing.{find_once, among_at}
use Rattle.vx_deps.proofs.Trailing.{apart}
use Rattle.vx_deps.proofs.Stores.{near_is}

-- ---- one of some ids

pub follow_at : (m : Module) (xs : List Id) (x : Id) (ys : List Id) → FollowOn m (xs ++ x ∷ ys) → (is_answered (answer m (ask.Inst x)) ≡ true) × Precedes (id_answered (answer m (ask.Next x))) ys
follow_at m [] x ys f = (f.0, f.1)
follow_at m (z ∷ xs) x ys f = follow_at m xs x ys f.2

has_at : (xs : List Id) (x : Id) (ys : List Id) → has (xs ++ x ∷ ys) x ≡ true
has_at [] x ys = ap (λ b. b || has ys x) (same_itself x)
has_at (z ∷ xs) x ys = by_test (same_id x z) (has_at xs x ys)
  where
    by_test : (b : Bool) → has (xs ++ x ∷ ys) x ≡ true → (b || has (xs ++ x ∷ ys) x) ≡ true
    by_test true h = refl
    by_test false h = h

pub names_row : (m : Module) (ids xs : List Id) (x : Id) (ys : List Id) → xs ++ x ∷ ys ≡ ids → (q : Question) → NamesNode m x q → NamesRow m ids q
names_row m ids xs x ys e q n = (x, ap (λ l. has l x) (sym e) ∙ has_at xs x ys, n)

pub follow_window : (m : Module) (bundles : List (List Id)) (ids : List Id) → FollowOn m ids → FollowOn m (from_member bundles ids)
follow_window m bundles [] f = f
follow_window m bundles (x ∷ xs) f = by_test (is_member bundles x) (follow_window m bundles xs f.2)
  where
    by_test : (b : Bool) → FollowOn m (from_member bundles xs) → FollowOn m (cond b (x ∷ xs) (from_member bundles xs))
    by_test true more = f
    by_test false more = more

-- ---- a row of a block

after_at : (front : List Inst) (i j : Inst) (rest : List Inst) → Once (inst_ids (front ++ i ∷ (j ∷ rest))) → after i.id (front ++ i ∷ (j ∷ rest)) ≡ Some j.id
after_at [] i j rest o = ap (λ b. cond b (Some j.id) (after i.id (j ∷ rest))) (same_itself i.id)
after_at (k ∷ front) i j rest o =
    ap (λ b. cond b (id_of (front ++ i ∷ (j ∷ rest))) (after i.id (front ++ i ∷ (j ∷ rest))))
    (apart k.id i.id (inst_ids (front ++ i ∷ (j ∷ rest))) o.0 (among_at front i (j ∷ rest)))
    ∙ after_at front i j rest o.1

module _ (m : Module) (formed : IsFormed m) (place : Place) where
  next_of : (front : List Inst) (i : Inst) (is rest : List Inst) (s : Standing) → found m i.id ≡ Some s → s.block ≡ front ++ i ∷ (is ++ rest) → Once (inst_ids (front ++ i ∷ (is ++ rest))) →
      Precedes (id_answered (answer m (ask.Next i.id))) (ids_of is)
  next_of front i [] rest s e b o = tt
  next_of front i (j ∷ is) rest s e b o =
      ap (λ p. id_answered (beside p (found m i.id) (after i.id))) (found_alone i.id s m formed e) ∙ ap (λ u. id_answered (beside None u (after i.id))) e
      ∙ ap (after i.id) b ∙ after_at front i j (is ++ rest) o

  row_follows : (front is rest : List Inst) → block_at m place ≡ front ++ (is ++ rest) → FollowOn m (ids_of is)
  row_follows front [] rest e = tt
  row_follows front (i ∷ is) rest e =
      let once : Once (inst_ids (front ++ i ∷ (is ++ rest))) = subst (λ l. Once (inst_ids l)) e (block_once m formed place) in
      let here : find i.id (block_at m place) ≡ Some i = ap (find i.id) e ∙ find_once front i (is ++ rest) once in
      let w = stood_in m formed place i.id i here in (
        there m formed i.id (answer m (ask.Inst i.id)) refl ∙ ap is_there w.1,
        next_of front i is rest w.0 w.1 (sym w.2 ∙ e) once,
        row_follows (front ++ i ∷ []) is rest (e ∙ sym (append_assoc front (i ∷ []) (is ++ rest))),
      )

-- ---- a reach

up_front : (at : Id) (is : List Inst) → (rest : List Inst) × (is ≡ up_to at is ++ rest)
up_front at [] = ([], refl)
up_front at (i ∷ is) = by_test (same_id i.id at) (up_front at is)
  where
    by_test : (b : Bool) → (rest : List Inst) × (is ≡ up_to at is ++ rest) → (rest : List Inst) × (i ∷ is ≡ (i ∷ cond b [] (up_to at is)) ++ rest)
    by_test true r = (is, refl)
    by_test false r = (r.0, ap (λ l. i ∷ l) r.1)

-- what is looked at stands in the block
pub looked_cut : (insts : List Inst) (at : Id) → (before : List Inst) × (after : List Inst) × (insts ≡ before ++ (looked_at insts at ++ after))
looked_cut insts at =
    let up : List Inst = up_to at insts in
    let r = up_front at insts in
    let n : ℕ = length up - 256 in
    (take n up, r.0, r.1 ∙ ap (λ l. l ++ r.0) (sym (take-append-drop n up)) ∙ append_assoc (take n up) (drop n up) r.0)

looked_follows : (m : Module) → IsFormed m → (store : Id) (u : Option Standing) → found m store ≡ u → FollowOn m (ids_of (looked_at (block_of u) store))
looked_follows m formed store None e = tt
looked_follows m formed store (Some s) e =
    let c = looked_cut s.block store in
    row_follows m formed s.place c.0 (looked_at s.block store) c.1 ((found_block store s m e).0 ∙ c.2)

pub reach_follows : (m : Module) → IsFormed m → (stores ids : List Id) → reach m stores ≡ Some ids → FollowOn m ids
reach_follows m formed stores ids e =
    let n = near_is m stores stores ids e in
    subst (FollowOn m) (sym n.2) (looked_follows m formed n.0 (found m n.0) refl)

-- What is asked for a reach is of the neighbourhood of the stores.
use Rattle.std.proofs.Common.{◌≡◌, refl, sym, ap, ◌∙◌, subst, suc, Bool, true, false, ◌||◌, cond, None, Some, List, [], ◌∷◌, ◌++◌, arith, inl, inr}
use Rattle.std.specs.List.{Contains}
use Rattle.ir_types.specs.declared.id.Id.{Id}
use Rattle.ir_types.specs.declared.inst.Inst.{Inst}
use Rattle.ir_types.specs.declared.module.Module.{Module}
use Rattle.ir_types.specs.Available.{same_id}
use Rattle.ir_types.specs.Formed.{IsFormed}
use Rattle.ir_types.proofs.Among.{same_is, swapped}
use Rattle.vx_view.specs.declared.question.Question.{Question}
use Rattle.vx_view.specs.Addresses.{block_of}
use Rattle.vx_view.specs.Answers.{before, find, found, Standing}
use Rattle.vx_view.specs.Conflicts.{access_of}
use Rattle.vx_view.proofs.Blocks.{found_block}
use Rattle.vx_addr.specs.Walks.{on_access}
use Rattle.vx_view.specs.Blocks.{block_at}
use Rattle.vx_serial.specs.Near.{looked_at, LeadsTo, IsReachedFrom}
use Rattle.vx_deps.specs.Reach.{reach, has, ids_of, looked_ids, LooksFor, Stand, NamesNear}
use Rattle.vx_deps.specs.Graphs.{on_node}
use Rattle.vx_deps.specs.Ordered.{NamesRow}
use Rattle.vx_deps.proofs.Standings.{stood_in}
use Rattle.vx_deps.proofs.Stores.{near_is}
use Rattle.vx_deps.proofs.Following.{looked_cut}
use Rattle.vx_deps.proofs.Walking.{access_leads}
use Rattle.vx_deps.specs.Trails.{back}
use Rattle.vx_deps.proofs.Steps.{has_first, has_reversed, looked_by}

-- ---- elements

head : {A : Type 0} (x : A) (xs : List A) → Contains (x ∷ xs) x
head x xs = (0, omega arith, refl)

tail : {A : Type 0} (x y : A) (xs : List A) → Contains xs x → Contains (y ∷ xs) x
tail x y xs h = let less = h.1 in (suc h.0, omega arith, h.2)

of_has : (ids : List Id) (x : Id) → has ids x ≡ true → Contains ids x
of_has [] x h = absurd cc
of_has (y ∷ ys) x h = by_test (same_id x y) refl h (λ r. of_has ys x r)
  where
    by_test : (b : Bool) → same_id x y ≡ b → (b || has ys x) ≡ true → (has ys x ≡ true → Contains ys x) → Contains (y ∷ ys) x
    by_test true s r more = subst (λ z. Contains (z ∷ ys) x) (same_is x y s) (head x ys)
    by_test false s r more = tail x y ys (more r)

inst_of : (insts : List Inst) (x : Id) → has (ids_of insts) x ≡ true → (i : Inst) × Contains insts i × (x ≡ i.id)
inst_of [] x h = absurd cc
inst_of (j ∷ js) x h = by_test (same_id x j.id) refl h (λ r. inst_of js x r)
  where
    by_test : (b : Bool) → same_id x j.id ≡ b → (b || has (ids_of js) x) ≡ true → (has (ids_of js) x ≡ true → (i : Inst) × Contains js i × (x ≡ i.id)) → (i : Inst) × Contains (j ∷ js) i × (x ≡ i.id)
    by_test true s r more = (j, head j js, same_is x j.id s)
    by_test false s r more = let q = more r in (q.0, tail q.0 j js q.1, q.2)

-- ---- within a block

has_back : (xs ys : List Inst) (x : Id) → has (ids_of ys) x ≡ true → has (ids_of (xs ++ ys)) x ≡ true
has_back [] ys x h = h
has_back (i ∷ is) ys x h = by_test (same_id x i.id) (has_back is ys x h)
  where
    by_test : (b : Bool) → has (ids_of (is ++ ys)) x ≡ true → (b || has (ids_of (is ++ ys)) x) ≡ true
    by_test true r = refl
    by_test false r = r

has_front : (xs ys : List Inst) (x : Id) → has (ids_of xs) x ≡ true → has (ids_of (xs ++ ys)) x ≡ true
has_front [] ys x h = absurd cc
has_front (i ∷ is) ys x h = by_test (same_id x i.id) h (λ r. has_front is ys x r)
  where
    by_test : (b : Bool) → (b || has (ids_of is) x) ≡ true → (has (ids_of is) x ≡ true → has (ids_of (is ++ ys)) x ≡ true) → (b || has (ids_of (is ++ ys)) x) ≡ true
    by_test true r more = refl
    by_test false r more = more r

has_looked : (insts : List Inst) (at x : Id) → has (ids_of (looked_at insts at)) x ≡ true → has (ids_of insts) x ≡ true
has_looked insts at x h = let c = looked_cut insts at in ap (λ l. has (ids_of l) x) c.2 ∙ has_back c.0 (looked_at insts at ++ c.1) x (has_front (looked_at insts at) c.1 x h)

find_of : (insts : List Inst) (x : Id) → has (ids_of insts) x ≡ true → (i : Inst) × (find x insts ≡ Some i)
find_of [] x h = absurd cc
find_of (j ∷ js) x h = by_test (same_id j.id x) (swapped x j.id) (λ r. find_of js x (ap (λ b. b || has (ids_of js) x) r ∙ h))
  where
    by_test : (b : Bool) → same_id x j.id ≡ b → (false ≡ same_id x j.id → (i : Inst) × (find x js ≡ Some i)) → (i : Inst) × (cond b (Some j) (find x js) ≡ Some i)
    by_test true e more = (j, refl)
    by_test false e more = more (sym e)

-- ---- what is looked at is near

module _ (m : Module) (formed : IsFormed m) (insts : List Inst) (stores : List Id) (stand : Stand m insts stores) where
  reached : (at x : Id) → has stores at ≡ true → has (looked_ids m at) x ≡ true → IsReachedFrom insts stores x
  reached at x s h =
      let w = stand at s in
      let i = inst_of (looked_at insts at) x (ap (λ l. has (ids_of (looked_at l at)) x) (sym (ap block_of w.1 ∙ w.2)) ∙ h) in
      (at, of_has stores at s, (i.0, i.1, inl i.2))

  itself : (at : Id) → has stores at ≡ true → has (looked_ids m at) at ≡ true
  itself at s =
      let w = stand at s in
      let block = block_at m (w.0).place in
      subst (λ ids. has ids at ≡ true) (looked_by m formed at w.0 w.1)
      (has_reversed (back 256 block (Some at)) at (has_first at (back 255 block (before at None block))))

  pub near : (q : Question) → LooksFor m stores q → NamesNear m insts stores q
  near q (at, s, inl e) = (at, inl e, inl (inl (reached at at s (itself at s))))
  near q (at, s, inr (x, e, h)) = (x, inr (inl e), inl (inl (reached at x s h)))

  -- ---- what a graph that grows over a reach asks for

  row_reached : (ids : List Id) → reach m stores ≡ Some ids → (x : Id) → has ids x ≡ true → IsReachedFrom insts stores x
  row_reached ids e x h = let n = near_is m stores stores ids e in reached n.0 x n.1 (ap (λ l. has l x) (sym n.2) ∙ h)

  -- an instruction of the reach, as it stands in the block
  stands : (ids : List Id) → reach m stores ≡ Some ids → (x : Id) → has ids x ≡ true → (s : Standing) × (found m x ≡ Some s) × (s.block ≡ insts)
  stands ids e x h =
      let n = near_is m stores stores ids e in
      let w = stand n.0 n.1 in
      let looked : has (ids_of (looked_at insts n.0)) x ≡ true =
      ap (λ l. has (ids_of (looked_at l n.0)) x) (sym (ap block_of w.1 ∙ w.2)) ∙ ap (λ l. has l x) (sym n.2) ∙ h
      in
      let whole : block_at m (w.0).place ≡ insts = (found_block n.0 w.0 m w.1).0 ∙ w.2 in
      let f = find_of insts x (has_looked insts n.0 x looked) in
      let t = stood_in m formed (w.0).place x f.0 (ap (find x) whole ∙ f.1) in
      (t.0, t.1, sym t.2 ∙ whole)

  walked : (ids : List Id) → reach m stores ≡ Some ids → (x : Id) → has ids x ≡ true → (y : Id) → on_node (found m x) y ≡ true → IsReachedFrom insts stores y
  walked ids e x h y on =
      let n = near_is m stores stores ids e in
      let w = stand n.0 n.1 in
      let i = inst_of (looked_at insts n.0) x (ap (λ l. has (ids_of (looked_at l n.0)) x) (sym (ap block_of w.1 ∙ w.2)) ∙ ap (λ l. has l x) (sym n.2) ∙ h) in
      let t = stands ids e x h in
      let s : Standing = t.0 in
      let there : find x insts ≡ Some s.inst = ap (find x) (sym t.2) ∙ (found_block x s m t.1).1 in
      let on_there : on_access insts (access_of s.inst) y ≡ true = ap (λ l. on_access l (access_of s.inst) y) (sym t.2) ∙ ap (λ u. on_node u y) (sym t.1) ∙ on in
      let l = access_leads insts x s.inst there y on_there in
      (n.0, of_has stores n.0 n.1, (i.0, i.1, inr (l.0, subst (LeadsTo insts y l.0) i.2 l.1)))

  pub grows_near : (ids : List Id) → reach m stores ≡ Some ids → (q : Question) → NamesRow m ids q → NamesNear m insts stores q
  grows_near ids e q (x, h, inl r) = (x, inr (inr r), inl (inl (row_reached ids e x h)))
  grows_near ids e q (x, h, inr (inl r)) = (x, inl r, inl (inl (row_reached ids e x h)))
  grows_near ids e q (x, h, inr (inr (y, r, on))) = (y, inl r, inl (inl (walked ids e x h y on)))

-- A graph that is right stays right when it grows, and what it keeps is so.
use Rattle.std.proofs.Common.{◌≡◌, refl, sym, ap, ◌∙◌, subst, Bool, true, false, ◌&&◌, ◌||◌, cond, Option, None, Some, List, [], ◌∷◌, ◌++◌, map, reverse, append_assoc}
use Rattle.std.proofs.lemmas.List.{reverse-append, map-append}
use Rattle.ir_types.specs.declared.id.Id.{Id}
use Rattle.ir_types.specs.declared.id.Place.{Place}
use Rattle.ir_types.specs.declared.inst.Inst.{Inst}
use Rattle.ir_types.specs.declared.module.Module.{Module}
use Rattle.ir_types.specs.Available.{same_id}
use Rattle.std.specs.List.{list_any}
use Rattle.ir_types.specs.declared.opd.Opd.{Opd}
use Rattle.ir_types.specs.Formed.{IsFormed, is_alloca}
use Rattle.ir_types.proofs.Among.{among, Once, same_is, same_itself}
use Rattle.ir_types.specs.declared.func.Param.{Param}
use Rattle.vx_view.specs.declared.answer.Answer.TheVariants as says
use Rattle.vx_view.specs.declared.question.Question.{Question}
use Rattle.vx_view.specs.declared.question.Question.TheVariants as ask
use Rattle.vx_view.specs.Answers.{funcs_of, param_of, find, found, after, id_of, beside, of_value, answer, is_value, Standing}
use Rattle.vx_view.specs.Blocks.{block_at}
use Rattle.vx_view.specs.Conflicts.{access_of, depends}
use Rattle.vx_view.proofs.Blocks.{found_block, found_alone}
use Rattle.vx_addr.specs.Effects.{effect_of, effects_conflict}
use Rattle.vx_addr.proofs.Comparing.{effects_are}
use Rattle.vx_addr.specs.Walks.{Names, on_access}
use Rattle.vx_view.proofs.Edits.{inst_ids}
use Rattle.vx_deps.specs.Graphs.{Kept, TellsOf, IsHeld, uses, kept_of, between, depends_on, as_node, insts_of, ids_of, IsKeptOf, AreKept, IsPart, IsRight, IsNodeOf, Precedes, on_node}
use Rattle.vx_deps.specs.Reach.{id_answered}
use Rattle.vx_deps.specs.declared.node.Node.{Node}
use Rattle.vx_deps.proofs.Standings.{stood_in, block_once}
use Rattle.vx_deps.proofs.Trailing.{apart}

pub some_is : {A : Type 0} {a b : A} → Some a ≡ Some b → a ≡ b
some_is e = cc

none_some : {A : Type 0} {a : A} → None ≡ Some a → ⊥
none_some e = cc

false_true : false ≡ true → ⊥
false_true e = cc

-- ---- splits of a block

-- it is some instructions, one, and others
pub record Split (insts : List Inst) (i : Inst) : Type 0 where
  pub before : List Inst
  pub after : List Inst
  pub whole : insts ≡ before ++ i ∷ after

find_split : (x : Id) (i : Inst) (insts : List Inst) → find x insts ≡ Some i → Split insts i × (i.id ≡ x)
find_split x i [] e = absurd (none_some e)
find_split x i (j ∷ js) e = by_test (same_id j.id x) refl e (λ r. find_split x i js r)
  where
    by_test : (b : Bool) → same_id j.id x ≡ b → cond b (Some j) (find x js) ≡ Some i → (find x js ≡ Some i → Split js i × (i.id ≡ x)) → Split (j ∷ js) i × (i.id ≡ x)
    by_test true s r more =
        let same : j ≡ i = some_is r in
        (record { before = []; after = js; whole = ap (λ (k : Inst). k ∷ js) same }, ap (λ (k : Inst). k.id) (sym same) ∙ same_is j.id x s)
    by_test false s r more =
        let m = more r in
        let split = m.0 in
        (record { before = j ∷ split.before; after = split.after; whole = ap (λ l. j ∷ l) split.whole }, m.1)

-- an instruction and the one after it
pub record Pair (insts : List Inst) (i : Inst) (y : Id) : Type 0 where
  pub before : List Inst
  pub next : Inst
  pub after : List Inst
  pub whole : insts ≡ before ++ i ∷ (next ∷ after)
  pub id : next.id ≡ y

after_split : (x y : Id) (i : Inst) (insts : List Inst) → find x insts ≡ Some i → after x insts ≡ Some y → Pair insts i y
after_split x y i [] e a = absurd (none_some e)
after_split x y i (j ∷ js) e a = by_test (same_id j.id x) e a (λ r t. after_split x y i js r t)
  where
    first : (l : List Inst) → id_of l ≡ Some y → j ≡ i → Pair (j ∷ l) i y
    first [] t same = absurd (none_some t)
    first (k ∷ ks) t same = record { before = []; next = k; after = ks; whole = ap (λ (v : Inst). v ∷ (k ∷ ks)) same; id = some_is t }

    by_test : (b : Bool) → cond b (Some j) (find x js) ≡ Some i → cond b (id_of js) (after x js) ≡ Some y → (find x js ≡ Some i → after x js ≡ Some y → Pair js i y) → Pair (j ∷ js) i y
    by_test true r t more = first js t (some_is r)
    by_test false r t more =
        let p = more r t in
        record { before = j ∷ p.before; next = p.next; after = p.after; whole = ap (λ l. j ∷ l) p.whole; id = p.id }

-- what stands at a split is found by its id
found_at : (before : List Inst) (i : Inst) (after : List Inst) → (k : Inst) × (find i.id (before ++ i ∷ after) ≡ Some k)
found_at [] i after = (i, ap (λ b. cond b (Some i) (find i.id after)) (same_itself i.id))
found_at (j ∷ js) i after = by_test (same_id j.id i.id) (found_at js i after)
  where
    by_test : (b : Bool) → (k : Inst) × (find i.id (js ++ i ∷ after) ≡ Some k) → (k : Inst) × (cond b (Some j) (find i.id (js ++ i ∷ after)) ≡ Some k)
    by_test true r = (j, refl)
    by_test false r = r

pub among_at : (before : List Inst) (i : Inst) (after : List Inst) → among (inst_ids (before ++ i ∷ after)) i.id ≡ true
among_at [] i after = ap (λ b. b || among (inst_ids after) i.id) (same_itself i.id)
among_at (j ∷ js) i after = by_test (same_id j.id i.id) (among_at js i after)
  where
    by_test : (b : Bool) → among (inst_ids (js ++ i ∷ after)) i.id ≡ true → (b || among (inst_ids (js ++ i ∷ after)) i.id) ≡ true
    by_test true r = refl
    by_test false r = r

-- where ids stand once, there is one split at an id
same_split : (xs : List Inst) (i : Inst) (ys us : List Inst) (j : Inst) (vs : List Inst) → Once (inst_ids (xs ++ i ∷ ys)) → i.id ≡ j.id → xs ++ i ∷ ys ≡ us ++ j ∷ vs → xs ≡ us
same_split [] i ys [] j vs o e h = refl
same_split [] i ys (u ∷ us) j vs o e h =
    let rest : ys ≡ us ++ j ∷ vs = ap tail_of h in
    absurd (false_true (sym o.0 ∙ ap (λ l. among (inst_ids l) i.id) rest ∙ ap (among (inst_ids (us ++ j ∷ vs))) e ∙ among_at us j vs))
  where
    tail_of : List Inst → List Inst
    tail_of [] = []
    tail_of (x ∷ xs) = xs
same_split (x ∷ xs) i ys [] j vs o e h =
    let first : x ≡ j = ap (head_or j) h in
    absurd (false_true (sym o.0 ∙ ap (λ (k : Inst). among (inst_ids (xs ++ i ∷ ys)) k.id) first ∙ ap (among (inst_ids (xs ++ i ∷ ys))) (sym e) ∙ among_at xs i ys))
  where
    head_or : Inst → List Inst → Inst
    head_or d [] = d
    head_or d (z ∷ zs) = z
same_split (x ∷ xs) i ys (u ∷ us) j vs o e h = ap (λ l. x ∷ l) (same_split xs i ys us j vs o.1 e (ap tail_of h)) ∙ ap (λ (k : Inst). k ∷ us) (ap (head_or u) h)
  where
    tail_of : List Inst → List Inst
    tail_of [] = []
    tail_of (z ∷ zs) = zs

    head_or : Inst → List Inst → Inst
    head_or d [] = d
    head_or d (z ∷ zs) = z

-- ---- what is held, one more

pub insts_more : (kept : List Kept) (k : Kept) → insts_of (kept ++ k ∷ []) ≡ k.inst ∷ insts_of kept
insts_more kept k =
    ap reverse (map-append (λ (n : Kept). n.inst) kept (k ∷ [])) ∙ reverse-append (map (λ (n : Kept). n.inst) kept) (k.inst ∷ [])

pub ids_more : (kept : List Kept) (k : Kept) → ids_of (kept ++ k ∷ []) ≡ k.inst.id ∷ ids_of kept
ids_more kept k =
    ap reverse (map-append (λ (n : Kept). n.inst.id) kept (k ∷ [])) ∙ reverse-append (map (λ (n : Kept). n.inst.id) kept) (k.inst.id ∷ [])

are_more : (insts : List Inst) (m : Module) (kept : List Kept) (k : Kept) → AreKept insts m kept → IsKeptOf insts m k.inst k → AreKept insts m (kept ++ k ∷ [])
are_more insts m [] k h n = (n, tt)
are_more insts m (j ∷ js) k h n = (h.0, are_more insts m js k h.1 n)

pub held_more : (nodes : List Node) (n : Node) → map as_node (nodes ++ n ∷ []) ≡ map as_node nodes ++ as_node n ∷ []
held_more nodes n = map-append as_node nodes (n ∷ [])

-- ---- one more

pub ids_are : (kept : List Kept) → ids_of kept ≡ map (λ (i : Inst). i.id) (insts_of kept)
ids_are [] = refl
ids_are (k ∷ ks) =
    reverse-append (k.inst.id ∷ []) (map (λ (n : Kept). n.inst.id) ks) ∙ ap (λ l. l ++ k.inst.id ∷ []) (ids_are ks)
    ∙ sym (map-append (λ (i : Inst). i.id) (insts_of ks) (k.inst ∷ []))
    ∙ ap (map (λ (i : Inst). i.id)) (sym (reverse-append (k.inst ∷ []) (map (λ (n : Kept). n.inst) ks)))

not_none : (kept : List Kept) (k : Kept) → insts_of (k ∷ kept) ≡ [] → ⊥
not_none kept k e = ends (insts_of kept) (sym (reverse-append (k.inst ∷ []) (map (λ (n : Kept). n.inst) kept)) ∙ e)
  where
    ends : (l : List Inst) → l ++ k.inst ∷ [] ≡ [] → ⊥
    ends [] h = cc
    ends (i ∷ is) h = cc

module _ (m : Module) (formed : IsFormed m) (x : Id) (successor : Option Id) (k : Kept) (n : IsNodeOf m x successor k) where
  abbrev s : Standing
  s = n.standing

  abbrev block : List Inst
  block = block_at m s.place

  same_block : block ≡ s.block
  same_block = (found_block x s m n.found).0

  found_here : find x block ≡ Some s.inst
  found_here = ap (find x) same_block ∙ (found_block x s m n.found).1

  kept_here : IsKeptOf block m k.inst k
  kept_here = record {
    inst = refl;
    effect = n.kept.effect ∙ ap (λ l. effect_of m l s.inst) (sym same_block) ∙ ap (effect_of m block) (sym n.kept.inst);
  }

  alone : IsPart m (k ∷ [])
  alone =
      let split = (find_split x s.inst block found_here).0 in
      record {
        place = s.place;
        before = split.before;
        after = split.after;
        whole = split.whole ∙ ap (λ i. split.before ++ i ∷ split.after) (sym n.kept.inst);
        are = (kept_here, tt);
      }

  module _ (kept : List Kept) (p : IsPart m kept) (j : Inst) (js : List Inst) (e : insts_of kept ≡ j ∷ js) (follows : successor ≡ Some j.id) where
    abbrev pair : Pair block s.inst j.id
    pair = after_split x j.id s.inst block found_here (ap (after x) same_block ∙ n.next ∙ follows)

    abbrev front : List Inst
    front = pair.before ++ s.inst ∷ []

    abbrev other : List Inst
    other = block_at m p.place

    split_here : block ≡ front ++ pair.next ∷ pair.after
    split_here = pair.whole ∙ sym (append_assoc pair.before (s.inst ∷ []) (pair.next ∷ pair.after))

    split_other : other ≡ p.before ++ j ∷ (js ++ p.after)
    split_other = p.whole ∙ ap (λ l. p.before ++ (l ++ p.after)) e

    one_block : block ≡ other
    one_block =
        let a = found_at front pair.next pair.after in
        let b = found_at p.before j (js ++ p.after) in
        let here = stood_in m formed s.place pair.next.id a.0 (ap (find pair.next.id) split_here ∙ a.1) in
        let there = stood_in m formed p.place j.id b.0 (ap (find j.id) split_other ∙ b.1) in
        let same : here.0 ≡ there.0 = some_is (sym here.1 ∙ ap (found m) pair.id ∙ there.1) in
        here.2 ∙ ap (λ (t : Standing). t.block) same ∙ sym there.2

    front_is : front ≡ p.before
    front_is =
        same_split front pair.next pair.after p.before j (js ++ p.after) (subst (λ l. Once (inst_ids l)) split_here (block_once m formed s.place)) pair.id
        (sym split_here ∙ one_block ∙ split_other)

    more : IsPart m (kept ++ k ∷ [])
    more = record {
      place = p.place;
      before = pair.before;
      after = p.after;
      whole = p.whole ∙ ap (λ l. l ++ (insts_of kept ++ p.after)) (sym front_is) ∙ append_assoc pair.before (s.inst ∷ []) (insts_of kept ++ p.after)
          ∙ ap (λ i. pair.before ++ (i ∷ (insts_of kept ++ p.after))) (sym n.kept.inst) ∙ ap (λ l. pair.before ++ (l ++ p.after)) (sym (insts_more kept k));
      are = are_more other m kept k p.are (subst (λ l. IsKeptOf l m k.inst k) one_block kept_here);
    }

  pub grown : (kept : List Kept) → Precedes successor (ids_of kept) → IsRight m kept → IsRight m (kept ++ k ∷ [])
  grown [] follows right = alone
  grown (h ∷ hs) follows right = by_insts (insts_of (h ∷ hs)) refl (subst (Precedes successor) (ids_are (h ∷ hs)) follows)
    where
      by_insts : (l : List Inst) → insts_of (h ∷ hs) ≡ l → Precedes successor (map (λ (i : Inst). i.id) (insts_of (h ∷ hs))) → IsPart m ((h ∷ hs) ++ k ∷ [])
      by_insts [] e f = absurd (not_none hs h e)
      by_insts (j ∷ js) e f = more (h ∷ hs) right j js e (subst (λ l. Precedes successor (map (λ (i : Inst). i.id) l)) e f)

-- ---- what the answers tell of one more

pub stood : (m : Module) (x : Id) (place : Place) (inst : Inst) → answer m (ask.Inst x) ≡ says.Inst place inst →
    (s : Standing) × (found m x ≡ Some s) × (s.place ≡ place) × (s.inst ≡ inst)
stood m x place inst e = by_both (param_of x (funcs_of m.items)) (found m x) refl e
  where
    by_both : (p : Option Param) (u : Option Standing) → found m x ≡ u → of_value p u ≡ says.Inst place inst → (s : Standing) × (found m x ≡ Some s) × (s.place ≡ place) × (s.inst ≡ inst)
    by_both (Some p) u t r = absurd cc
    by_both None None t r = absurd cc
    by_both None (Some s) t r = (s, t, cc, cc)

-- what is answered has the id
pub id_stands : (m : Module) (x : Id) (place : Place) (inst : Inst) → answer m (ask.Inst x) ≡ says.Inst place inst → inst.id ≡ x
id_stands m x place inst e =
    let w = stood m x place inst e in
    ap (λ (i : Inst). i.id) (sym w.3) ∙ (find_split x (w.0).inst (w.0).block (found_block x w.0 m w.1).1).1

pub node_is : (m : Module) → IsFormed m → (x : Id) (place : Place) (inst : Inst) (successor : Option Id) (k : Kept) → answer m (ask.Inst x) ≡ says.Inst place inst →
    id_answered (answer m (ask.Next x)) ≡ successor → IsKeptOf (block_at m place) m inst k → IsNodeOf m x successor k
node_is m formed x place inst successor k e next h =
    let w = stood m x place inst e in
    let s = w.0 in
    let b : block_at m place ≡ s.block = ap (block_at m) (sym w.2) ∙ (found_block x s m w.1).0 in
    record {
      standing = s;
      found = w.1;
      kept = record { inst = h.inst ∙ sym w.3; effect = h.effect ∙ ap (λ l. effect_of m l inst) b ∙ ap (effect_of m s.block) (sym w.3) };
      next = sym (ap (λ p. id_answered (beside p (found m x) (after x))) (found_alone x s m formed w.1) ∙ ap (λ u. id_answered (beside None u (after x))) w.1) ∙ next;
    }

pub node_names : (m : Module) (x : Id) (place : Place) (inst : Inst) → answer m (ask.Inst x) ≡ says.Inst place inst → (q : Question) → Names (on_access (block_at m place) (access_of inst)) q →
    Names (on_node (found m x)) q
node_names m x place inst e q names =
    let w = stood m x place inst e in
    let s = w.0 in
    let b : block_at m place ≡ s.block = ap (block_at m) (sym w.2) ∙ (found_block x s m w.1).0 in (
      names.0,
      names.1,
      ap (λ u. on_node u names.0) w.1 ∙ ap (λ i. on_access s.block (access_of i) names.0) w.3 ∙ ap (λ l. on_access l (access_of inst) names.0) (sym b) ∙ names.2,
    )

-- ---- what is kept is so

uses_are : (x : Id) (os : List Opd) → uses x os ≡ list_any (is_value x) os
uses_are x [] = refl
uses_are x (o ∷ os) = ap (λ b. is_value x o || b) (uses_are x os)

split_last : (k : Kept) (ks : List Kept) → Split (insts_of (k ∷ ks)) k.inst
split_last k ks = record { before = insts_of ks; after = []; whole = reverse-append (k.inst ∷ []) (map (λ (n : Kept). n.inst) ks) }

split_more : (k : Kept) (ks : List Kept) (i : Inst) → Split (insts_of ks) i → Split (insts_of (k ∷ ks)) i
split_more k ks i s = record {
  before = s.before;
  after = s.after ++ k.inst ∷ [];
  whole = reverse-append (k.inst ∷ []) (map (λ (n : Kept). n.inst) ks) ∙ ap (λ l. l ++ k.inst ∷ []) s.whole ∙ append_assoc s.before (i ∷ s.after) (k.inst ∷ []);
}

-- one that is held is an instruction of the block, and what is kept of it is so
pub record Holds (insts : List Inst) (m : Module) (kept : List Kept) (x : Id) (k : Kept) : Type 0 where
  pub split : Split (insts_of kept) k.inst
  pub id : k.inst.id ≡ x
  pub effect : k.effect ≡ effect_of m insts k.inst

holds : (insts : List Inst) (m : Module) (kept : List Kept) (x : Id) (k : Kept) → AreKept insts m kept → kept_of x kept ≡ Some k → Holds insts m kept x k
holds insts m [] x k are e = absurd (none_some e)
holds insts m (j ∷ js) x k are e = by_test (same_id j.inst.id x) refl e (λ r. holds insts m js x k are.1 r)
  where
    by_test : (b : Bool) → same_id j.inst.id x ≡ b → cond b (Some j) (kept_of x js) ≡ Some k → (kept_of x js ≡ Some k → Holds insts m js x k) → Holds insts m (j ∷ js) x k
    by_test true s r more =
        subst (Holds insts m (j ∷ js) x) (some_is r) (record { split = split_last j js; id = same_is j.inst.id x s; effect = (are.0).effect })
    by_test false s r more = let h = more r in record { split = split_more j js k.inst h.split; id = h.id; effect = h.effect }

pub find_once : (before : List Inst) (i : Inst) (after : List Inst) → Once (inst_ids (before ++ i ∷ after)) → find i.id (before ++ i ∷ after) ≡ Some i
find_once [] i after o = ap (λ b. cond b (Some i) (find i.id after)) (same_itself i.id)
find_once (j ∷ js) i after o =
    ap (λ b. cond b (Some j) (find i.id (js ++ i ∷ after))) (apart j.id i.id (inst_ids (js ++ i ∷ after)) o.0 (among_at js i after)) ∙ find_once js i after o.1

module _ (m : Module) (formed : IsFormed m) (kept : List Kept) (p : IsPart m kept) where
  abbrev whole_block : List Inst
  whole_block = block_at m p.place

  stands_there : (x : Id) (k : Kept) → Holds whole_block m kept x k → (s : Standing) × (found m x ≡ Some s) × (whole_block ≡ s.block) × (s.inst ≡ k.inst)
  stands_there x k h =
      let split = h.split in
      let cut : whole_block ≡ (p.before ++ split.before) ++ k.inst ∷ (split.after ++ p.after) =
      p.whole ∙ ap (λ l. p.before ++ (l ++ p.after)) split.whole ∙ ap (λ l. p.before ++ l) (append_assoc split.before (k.inst ∷ split.after) p.after)
      ∙ sym (append_assoc p.before split.before (k.inst ∷ (split.after ++ p.after)))
      in
      let once = subst (λ l. Once (inst_ids l)) cut (block_once m formed p.place) in
      let e : find x whole_block ≡ Some k.inst =
      ap (λ y. find y whole_block) (sym h.id) ∙ ap (find k.inst.id) cut ∙ find_once (p.before ++ split.before) k.inst (split.after ++ p.after) once
      in
      let w = stood_in m formed p.place x k.inst e in
      (w.0, w.1, w.2, some_is (sym (found_block x w.0 m w.1).1 ∙ ap (find x) (sym w.2) ∙ e))

  depends_is : (x y : Id) (a b : Kept) → Holds whole_block m kept x a → Holds whole_block m kept y b → depends_on b a ≡ depends m whole_block b.inst a.inst
  depends_is x y a b h g =
      ap (λ r. r || effects_conflict a.effect b.effect || is_alloca a.inst.op && is_alloca b.inst.op) (uses_are a.inst.id b.inst.opds)
      ∙ ap (λ r. list_any (is_value a.inst.id) b.inst.opds || r || is_alloca a.inst.op && is_alloca b.inst.op)
      (ap (λ e. effects_conflict e b.effect) h.effect ∙ ap (effects_conflict (effect_of m whole_block a.inst)) g.effect ∙ effects_are m whole_block a.inst b.inst)

  pub tells : (x y : Id) (a b : Kept) → kept_of x kept ≡ Some a → kept_of y kept ≡ Some b → TellsOf m kept x y
  tells x y a b e f =
      let h = holds whole_block m kept x a p.are e in
      let g = holds whole_block m kept y b p.are f in
      let s = stands_there x a h in
      let t = stands_there y b g in
      record {
        earlier = s.0;
        later = t.0;
        earlier_found = s.1;
        later_found = t.1;
        one_block = sym s.2 ∙ t.2;
        same = ap (λ u. between u (kept_of y kept)) e ∙ ap (between (Some a)) f ∙ depends_is x y a b h g
            ∙ ap (λ l. depends m l b.inst a.inst) s.2 ∙ ap (λ i. depends m (s.0).block i a.inst) (sym t.3) ∙ ap (depends m (s.0).block (t.0).inst) (sym s.3);
      }

pub told : (m : Module) (kept : List Kept) → IsFormed m → IsRight m kept → (x y : Id) → IsHeld kept x → IsHeld kept y → TellsOf m kept x y
told m [] formed right x y h g = absurd (none_some h.1)
told m (k ∷ ks) formed right x y h g = tells m formed (k ∷ ks) right x y h.0 g.0 h.1 g.1

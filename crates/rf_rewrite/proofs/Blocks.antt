-- What a formed module tells of the block of lawful stores, and of what is around it.
use Rattle.std.proofs.Common.{◌≡◌, refl, sym, ap, ◌∙◌, subst, ℕ, zero, suc, ◌+◌, ◌<◌, ◌≤◌, Bool, true, false, not, ◌&&◌, ◌||◌, None, Some, List, [], ◌∷◌, ◌++◌, map, cond, nat_lt, get_or, slice_get, if◌then◌else◌, arith, length}
use Rattle.std.specs.List.{Contains}
use Rattle.std.proofs.lemmas.Bool.Decides.{nat_tests}
use Rattle.ir_types.specs.declared.id.Id.{Id}
use Rattle.ir_types.specs.declared.ty.Ty.{Ty}
use Rattle.ir_types.specs.declared.opd.Opd.{Opd}
use Rattle.ir_types.specs.declared.opd.Opd.TheVariants.{Val, Lit, Sym}
use Rattle.ir_types.specs.declared.inst.Inst.{Inst}
use Rattle.ir_types.specs.declared.func.Func.{Func}
use Rattle.ir_types.specs.declared.module.Item.TheVariants.{Func as FuncItem}
use Rattle.ir_types.specs.declared.module.Module.{Module}
use Rattle.ir_types.specs.Walks.{IsReached}
use Rattle.ir_types.specs.Available.{same_id, graph_of}
use Rattle.ir_types.specs.Formed.{is_phi, is_terminator, ends_from, EndsOnce, PhisFirst, opd_ty, IsFormed, IsFormedItem, IsFormedFunc, IsFormedBlock, IsLawful, IsStoreIn, ids_of}
use Rattle.ir_types.proofs.Formed.{Every, every_of_all, IsThere, opds_there}
use Rattle.ir_types.proofs.Among.{among, same_is, same_itself, OpdIn, InstIn, BlockIn, ItemIn, module_in}
use Rattle.vx_view.specs.Answers.{find}
use Rattle.sb_uses.specs.Totals.{id_times}
use Rattle.sb_uses.proofs.Totals.{formed_apart}
use Rattle.vx_serial.specs.Rewriting.{created}
use Rattle.rf_rewrite.proofs.Contexts.{Context, func_with, block_with, items_with, plug, one_of, times, times_append, ids_plug, ids_sum, around}
use Rattle.rf_rewrite.proofs.Window.{Known, find_append}

-- ---- lists

pub every_split : {A : Type 0} (P : A → Type 0) (xs ys : List A) (x : A) → Every P (xs ++ x ∷ ys) → P x
every_split P [] ys x h = h.0
every_split P (y ∷ xs) ys x h = every_split P xs ys x h.1

pub get_split : {A : Type 0} (xs ys : List A) (x : A) → slice_get (xs ++ x ∷ ys) (length xs) ≡ Some x
get_split [] ys x = refl
get_split (y ∷ xs) ys x = get_split xs ys x

-- a list, parted at a member
pub record Parts {A : Type 0} (xs : List A) (x : A) : Type 0 where
  pub front : List A
  pub rest : List A
  pub are : xs ≡ front ++ x ∷ rest

pub parts_get : {A : Type 0} (xs : List A) (k : ℕ) (x : A) → slice_get xs k ≡ Some x → (p : Parts xs x) × (length p.front ≡ k)
parts_get [] k x e = absurd cc
parts_get (y ∷ xs) zero x e = (record { front = []; rest = xs; are = ap (λ u. u ∷ xs) (some_is e) }, refl)
  where
    some_is : Some y ≡ Some x → y ≡ x
    some_is e = cc
parts_get (y ∷ xs) (suc k) x e = let p = parts_get xs k x e in (record { front = y ∷ p.0.front; rest = p.0.rest; are = ap (λ u. y ∷ u) p.0.are }, ap suc p.1)

pub parts_at : {A : Type 0} (xs : List A) (k : ℕ) (x : A) → k < length xs → get_or xs k x ≡ x → Parts xs x
parts_at [] k x h e = absurd (omega (arith, h))
parts_at (y ∷ xs) zero x h e = record { front = []; rest = xs; are = ap (λ u. u ∷ xs) e }
parts_at (y ∷ xs) (suc k) x h e = let p = parts_at xs k x (omega (arith, h)) e in record { front = y ∷ p.front; rest = p.rest; are = ap (λ u. y ∷ u) p.are }

pub parts_in : {A : Type 0} (xs : List A) (x : A) → Contains xs x → Parts xs x
parts_in xs x h = parts_at xs h.0 x h.1 h.2

-- ---- the block of a lawful store

abbrev pub func_in : Context → List Inst → Func
func_in c l = func_with c.func (c.blocks_before ++ block_with c l ∷ c.blocks_after)

pub record Here (m : Module) (s : Id) (stores : List Id) : Type 0 where
  pub context : Context
  pub insts : List Inst
  pub whole : plug context insts ≡ m
  pub store : Inst
  pub finds : find s insts ≡ Some store
  pub each : Every (λ x. 1 ≤ times x insts) (s ∷ stores)
  pub reached : IsReached (graph_of (func_in context insts)) (length context.blocks_before)

find_once : (x : Id) (front rest : List Inst) (i : Inst) → i.id ≡ x → times x (front ++ i ∷ rest) ≤ 1 → find x (front ++ i ∷ rest) ≡ Some i
find_once x front rest i e le =
    let sum = times_append x front (i ∷ rest) in
    let one : one_of i.id x ≡ 1 = ap (λ v. one_of v x) e ∙ ap (λ b. cond b 1 0) (same_itself x) in
    find_append x front (i ∷ rest) (omega (arith, le, sum, one)) ∙ ap (λ b. cond b (Some i) (find x rest)) (ap (λ v. same_id v x) e ∙ same_itself x)

pub here_of : (m : Module) (s : Id) (stores : List Id) → IsFormed m → IsLawful m (s ∷ stores) → Here m s stores
here_of m s stores formed law =
    let item = parts_in m.items (FuncItem law.func) law.here in
    let block = parts_get law.func.blocks law.number law.block law.there in
    let store = (every_of_all (IsStoreIn law.block) (s ∷ stores) law.each).0 in
    let at = parts_in law.block.insts store.0 store.1 in
    let c : Context = context item block.0 in
    let whole : plug c law.block.insts ≡ m = is item block.0 in
    record {
      context = c;
      insts = law.block.insts;
      whole = whole;
      store = store.0;
      finds = ap (find s) at.are ∙ find_once s at.front at.rest store.0 store.2 (few c whole at);
      each = all_stand (s ∷ stores) (every_of_all (IsStoreIn law.block) (s ∷ stores) law.each);
      reached = subst (λ f. IsReached (graph_of f) (length block.0.front)) (ap (func_with law.func) block.0.are) (subst (IsReached (graph_of law.func)) (sym block.1) law.reached);
    }
  where
    stands : (x : Id) → IsStoreIn law.block x → 1 ≤ times x law.block.insts
    stands x h =
        let at = parts_in law.block.insts h.0 h.1 in
        let whole = ap (times x) at.are in
        let sum = times_append x at.front (h.0 ∷ at.rest) in
        let one : one_of h.0.id x ≡ 1 = ap (λ v. one_of v x) h.2 ∙ ap (λ b. cond b 1 0) (same_itself x) in
        omega (arith, whole, sum, one)

    all_stand : (xs : List Id) → Every (IsStoreIn law.block) xs → Every (λ x. 1 ≤ times x law.block.insts) xs
    all_stand [] h = tt
    all_stand (x ∷ xs) h = (stands x h.0, all_stand xs h.1)

    context : Parts m.items (FuncItem law.func) → Parts law.func.blocks law.block → Context
    context item block = record {
      items_before = item.front;
      func = law.func;
      blocks_before = block.front;
      name = law.block.name;
      blocks_after = block.rest;
      items_after = item.rest;
      globals = m.globals;
      big = m.big_endian_line;
    }

    is : (item : Parts m.items (FuncItem law.func)) (block : Parts law.func.blocks law.block) → plug (context item block) law.block.insts ≡ m
    is item block =
        ap (λ bs. record { items = item.front ++ FuncItem (func_with law.func bs) ∷ item.rest; globals = m.globals; big_endian_line = m.big_endian_line }) (sym block.are)
        ∙ ap (λ items. record { items = items; globals = m.globals; big_endian_line = m.big_endian_line }) (sym item.are)

    few : (c : Context) → plug c law.block.insts ≡ m → {i : Inst} (at : Parts law.block.insts i) → times s (at.front ++ i ∷ at.rest) ≤ 1
    few c whole {i} at =
        let all = formed_apart m formed s in
        let ids = ids_plug c law.block.insts s in
        let same = ap (λ n. id_times s (ids_of n)) whole in
        let parts = ap (times s) at.are in
        omega (arith, all, ids, same, parts)

-- ---- formed modules, in a context

module _ (c : Context) (l : List Inst) (formed : IsFormed (plug c l)) where
  pub times_few : (y : Id) → around c y + times y l ≤ 1
  times_few y = let all = formed_apart (plug c l) formed y in let ids = ids_plug c l y in omega (arith, all, ids)

  func_formed : IsFormedFunc (plug c l) (func_in c l)
  func_formed = every_split (IsFormedItem (plug c l)) c.items_before c.items_after (FuncItem (func_in c l)) (every_of_all (IsFormedItem (plug c l)) (items_with c l) formed.items)

  pub block_formed : IsFormedBlock (plug c l) (func_in c l) (length c.blocks_before) (block_with c l)
  block_formed = func_formed.blocks (length c.blocks_before) (block_with c l) (get_split c.blocks_before c.blocks_after (block_with c l))

  insts_in : Every (InstIn (ids_of (plug c l))) l
  insts_in =
      every_split (BlockIn (ids_of (plug c l))) c.blocks_before c.blocks_after (block_with c l)
      (every_split (ItemIn (ids_of (plug c l))) c.items_before c.items_after (FuncItem (func_in c l)) (module_in (plug c l) formed)).blocks

  among_times : (x : Id) (ids : List Id) → among ids x ≡ true → 1 ≤ id_times x ids
  among_times x [] h = absurd cc
  among_times x (y ∷ ys) h = by_test (same_id y x) h (among_times x ys)
    where
      by_test : (b : Bool) → (b || among ys x) ≡ true → (among ys x ≡ true → 1 ≤ id_times x ys) → 1 ≤ cond b (1 + id_times x ys) (id_times x ys)
      by_test true r more = omega (arith)
      by_test false r more = more r

  global_below : (g : ℕ) → IsThere (opd_ty (plug c l) (func_in c l) (Sym g)) → g < length c.globals
  global_below g h = by_test (nat_lt g (length c.globals)) refl h
    where
      by_test : (b : Bool) → nat_lt g (length c.globals) ≡ b → IsThere (if b then Some Rattle.ir_types.specs.declared.ty.Ty.TheVariants.Ptr else None) → g < length c.globals
      by_test true e t = grind (arith, nat_tests)
      by_test false e t = elim t [ ]

  opds_known : (os : List Opd) → Every (OpdIn (ids_of (plug c l))) os → Every IsThere (map (opd_ty (plug c l) (func_in c l)) os) → Every (Known (length c.globals) (λ y. id_times y (ids_of (plug c l)))) os
  opds_known [] h k = tt
  opds_known (Lit a ∷ os) h k = (tt, opds_known os h.1 k.1)
  opds_known (Sym g ∷ os) h k = (global_below g k.0, opds_known os h.1 k.1)
  opds_known (Val v ∷ os) h k = (among_times v (ids_of (plug c l)) h.0, opds_known os h.1 k.1)

  known_in : (is : List Inst) (x : Id) (i : Inst) → Every (InstIn (ids_of (plug c l))) is → ((k : ℕ) (j : Inst) → slice_get is k ≡ Some j → Every IsThere (map (opd_ty (plug c l) (func_in c l)) j.opds)) →
      find x is ≡ Some i → Every (Known (length c.globals) (λ y. id_times y (ids_of (plug c l)))) i.opds
  known_in [] x i h k e = absurd cc
  known_in (j ∷ is) x i h k e = by_test (same_id j.id x) e (known_in is x i h.1 (λ n q f. k (suc n) q f))
    where
      some_is : Some j ≡ Some i → j ≡ i
      some_is e = cc

      by_test : (b : Bool) → cond b (Some j) (find x is) ≡ Some i → (find x is ≡ Some i → Every (Known (length c.globals) (λ y. id_times y (ids_of (plug c l)))) i.opds) →
          Every (Known (length c.globals) (λ y. id_times y (ids_of (plug c l)))) i.opds
      by_test true r more = subst (λ (q : Inst). Every (Known (length c.globals) (λ y. id_times y (ids_of (plug c l)))) q.opds) (some_is r) (opds_known j.opds h.0.opds (k 0 j refl))
      by_test false r more = more r

  -- the operands of what stands in the block are there
  pub operands_known : (x : Id) (i : Inst) → find x l ≡ Some i → Every (Known (length c.globals) (λ y. id_times y (ids_of (plug c l)))) i.opds
  operands_known x i e = known_in l x i insts_in (λ k j f. opds_there (plug c l) (func_in c l) (length c.blocks_before) k j (block_formed.insts k j f)) e

-- ---- ids of later regions

pub fresh_times : (r k : ℕ) (ids : List Id) → Every (λ (id : Id). id.region ≤ r) ids → id_times (created r k) ids ≡ 0
fresh_times r k [] h = refl
fresh_times r k (y ∷ ys) h =
    let sum = ids_sum (created r k) y ys in
    let rest = fresh_times r k ys h.1 in
    let one = none (same_id y (created r k)) refl in
    omega (arith, sum, rest, one)
  where
    count : Bool → ℕ
    count b = cond b 1 0

    none : (b : Bool) → same_id y (created r k) ≡ b → count b ≡ 0
    none true e = let same : y.region ≡ suc r = ap (λ (v : Id). v.region) (same_is y (created r k) e) in let le = h.0 in absurd (omega (arith, same, le))
    none false e = refl

-- ---- phis and terminators

pub ends_front : (front rest : List Inst) (x : Inst) → EndsOnce (front ++ x ∷ rest) → Every (λ (i : Inst). is_terminator i.op ≡ false) front
ends_front [] rest x h = tt
ends_front (i ∷ front) rest x h = ends_more i front h
  where
    not_true : (b d : Bool) → (not b && d) ≡ true → (b ≡ false) × (d ≡ true)
    not_true true d e = absurd cc
    not_true false d e = (refl, e)

    ends_more : (i : Inst) (front : List Inst) → ends_from i (front ++ x ∷ rest) ≡ true → Every (λ (j : Inst). is_terminator j.op ≡ false) (i ∷ front)
    ends_more i [] e = ((not_true (is_terminator i.op) (ends_from x rest) e).0, tt)
    ends_more i (j ∷ front) e = let both = not_true (is_terminator i.op) (ends_from j (front ++ x ∷ rest)) e in (both.0, ends_more j front both.1)

-- what ends no block is not the last
pub ends_after : (front : List Inst) (x : Inst) (rest : List Inst) → EndsOnce (front ++ x ∷ rest) → is_terminator x.op ≡ false → (y : Inst) × (more : List Inst) × (rest ≡ y ∷ more)
ends_after [] x [] h e = absurd cc
ends_after [] x (y ∷ more) h e = (y, more, refl)
ends_after (i ∷ front) x rest h e = further i front h
  where
    not_true : (b d : Bool) → (not b && d) ≡ true → d ≡ true
    not_true true d e = absurd cc
    not_true false d e = e

    further : (i : Inst) (front : List Inst) → ends_from i (front ++ x ∷ rest) ≡ true → (y : Inst) × (more : List Inst) × (rest ≡ y ∷ more)
    further i [] r = last rest (not_true (is_terminator i.op) (ends_from x rest) r)
      where
        last : (rest : List Inst) → ends_from x rest ≡ true → (y : Inst) × (more : List Inst) × (rest ≡ y ∷ more)
        last [] q = absurd cc
        last (y ∷ more) q = (y, more, refl)
    further i (j ∷ front) r = further j front (not_true (is_terminator i.op) (ends_from j (front ++ x ∷ rest)) r)

-- after what is no phi there is none
pub phis_after : (b : Bool) (front : List Inst) (x : Inst) (rest : List Inst) → PhisFirst b (front ++ x ∷ rest) → is_phi x.op ≡ false → Every (λ (i : Inst). is_phi i.op ≡ false) rest
phis_after b (i ∷ front) x rest h e = phis_after (b && is_phi i.op) front x rest h.1 e
phis_after b [] x rest h e = no_more (b && is_phi x.op) (none b e) rest h.1
  where
    none : (b : Bool) → is_phi x.op ≡ false → (b && is_phi x.op) ≡ false
    none true e = e
    none false e = refl

    no_more : (b : Bool) → b ≡ false → (rest : List Inst) → PhisFirst b rest → Every (λ (i : Inst). is_phi i.op ≡ false) rest
    no_more b f [] h = tt
    no_more b f (i ∷ rest) h = (by_phi (is_phi i.op) refl, no_more (b && is_phi i.op) (still b f) rest h.1)
      where
        still : (b : Bool) → b ≡ false → (b && is_phi i.op) ≡ false
        still true f = absurd cc
        still false f = refl

        by_phi : (p : Bool) → is_phi i.op ≡ p → p ≡ false
        by_phi true g = sym (h.0 g) ∙ f
        by_phi false g = refl

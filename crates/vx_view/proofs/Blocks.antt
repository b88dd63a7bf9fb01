-- In a formed module an id stands in the block of a place exactly where the module answers so.
use Rattle.std.proofs.Common.{◌≡◌, refl, sym, ap, ◌∙◌, subst, ℕ, zero, suc, ◌+◌, Bool, true, false, ◌||◌, Option, None, Some, List, [], ◌∷◌, map, cond, slice_get, arith}
use Rattle.std.proofs.lemmas.Bool.Decides.{nat_tests}
use Rattle.ir_types.specs.declared.id.Id.{Id}
use Rattle.ir_types.specs.declared.id.Place.{Place}
use Rattle.ir_types.specs.declared.inst.Inst.{Inst}
use Rattle.ir_types.specs.declared.func.Param.{Param}
use Rattle.ir_types.specs.declared.func.Block.{Block}
use Rattle.ir_types.specs.declared.func.Func.{Func}
use Rattle.ir_types.specs.declared.opd.Opd.{Opd}
use Rattle.ir_types.specs.declared.module.Item.{Item}
use Rattle.ir_types.specs.declared.module.Item.TheVariants.{Kept, Opaque, Func as FuncItem}
use Rattle.ir_types.specs.declared.module.Module.{Module}
use Rattle.ir_types.specs.Available.{same_id}
use Rattle.ir_types.specs.Formed.{block_ids, item_ids, ids_of_items, ids_of, IsFormedInst, IsFormedFunc, IsFormedItem, IsFormed}
use Rattle.ir_types.proofs.Formed.{Every, every_of_all}
use Rattle.ir_types.proofs.Among.{among, among_left, among_right, Once, once_of_pairs}
use Rattle.vx_view.specs.Answers.{funcs_of, param_in, param_of, find, found, Standing, standing, either, standing_in, standing_of, of_inst, of_value}
use Rattle.vx_view.specs.Addresses.{form, form_in, block_of}
use Rattle.vx_view.specs.Views.{same_place}
use Rattle.vx_view.specs.Blocks.{insts_of, insts_in, block_at, in_place, standing_at}
use Rattle.vx_view.proofs.Edits.{once_left, once_right, once_apart, lacks_left, lacks_right, inst_ids}
use Rattle.vx_view.proofs.Removed.{some_is, no_none, once_before}

-- ---- what lacks an id does not have it

or_false_left : (a b : Bool) → (a || b) ≡ false → a ≡ false
or_false_left true b h = absurd cc
or_false_left false b h = refl

or_false_right : (a b : Bool) → (a || b) ≡ false → b ≡ false
or_false_right true b h = absurd cc
or_false_right false b h = h

module _ (x : Id) where
  lacks_find : (l : List Inst) → among (inst_ids l) x ≡ false → find x l ≡ None
  lacks_find [] e = refl
  lacks_find (i ∷ is) e =
      ap (λ b. cond b (Some i) (find x is)) (or_false_left (same_id i.id x) (among (inst_ids is) x) e) ∙ lacks_find is (or_false_right (same_id i.id x) (among (inst_ids is) x) e)

  lacks_standing : (k n : ℕ) (bs : List Block) → among (block_ids bs) x ≡ false → standing_in x k n bs ≡ None
  lacks_standing k n [] e = refl
  lacks_standing k n (b ∷ bs) e =
      ap (λ u. either (standing k n b.insts u) (standing_in x k (suc n) bs)) (lacks_find b.insts (lacks_left (inst_ids b.insts) (block_ids bs) x e))
      ∙ lacks_standing k (suc n) bs (lacks_right (inst_ids b.insts) (block_ids bs) x e)

  lacks_param : (ps : List Param) → among (map (λ (p : Param). p.id) ps) x ≡ false → param_in x ps ≡ None
  lacks_param [] e = refl
  lacks_param (p ∷ ps) e =
      let rest = map (λ (q : Param). q.id) ps in
      ap (λ b. cond b (Some p) (param_in x ps)) (or_false_left (same_id p.id x) (among rest x) e) ∙ lacks_param ps (or_false_right (same_id p.id x) (among rest x) e)

  lacks_params : (items : List Item) → among (ids_of_items items) x ≡ false → param_of x (funcs_of items) ≡ None
  lacks_params [] e = refl
  lacks_params (Kept text ∷ items) e = lacks_params items e
  lacks_params (Opaque text ∷ items) e = lacks_params items e
  lacks_params (FuncItem f ∷ items) e =
      let params = map (λ (p : Param). p.id) f.params in
      ap (λ u. either u (param_of x (funcs_of items))) (lacks_param f.params (lacks_left params (block_ids f.blocks) x (lacks_left (item_ids (FuncItem f)) (ids_of_items items) x e)))
      ∙ lacks_params items (lacks_right (item_ids (FuncItem f)) (ids_of_items items) x e)

  find_among : (i : Inst) (l : List Inst) → find x l ≡ Some i → among (inst_ids l) x ≡ true
  find_among i [] e = absurd (no_none e)
  find_among i (j ∷ js) e = by_test (same_id j.id x) e (λ r. find_among i js r)
    where
      by_test : (b : Bool) → cond b (Some j) (find x js) ≡ Some i → (find x js ≡ Some i → among (inst_ids js) x ≡ true) → (b || among (inst_ids js) x) ≡ true
      by_test true r more = refl
      by_test false r more = more r

-- ---- what stands in a block is found there

abbrev stands : ℕ → ℕ → List Inst → Inst → Standing
stands func block insts i = record { place = record { func = func; block = block }; block = insts; inst = i }

module _ (x : Id) (i : Inst) where
  in_blocks : (k n j : ℕ) (bs : List Block) → Once (block_ids bs) → find x (insts_of (slice_get bs j)) ≡ Some i →
      (standing_in x k n bs ≡ Some (stands k (n + j) (insts_of (slice_get bs j)) i)) × (among (block_ids bs) x ≡ true)
  in_blocks k n j [] o e = absurd (no_none e)
  in_blocks k n zero (b ∷ bs) o e = (
    ap (λ u. either (standing k n b.insts u) (standing_in x k (suc n) bs)) e ∙ ap (λ v. Some (stands k v b.insts i)) (omega arith),
    among_left (inst_ids b.insts) (block_ids bs) x (find_among x i b.insts e),
  )
  in_blocks k n (suc j) (b ∷ bs) o e =
      let more = in_blocks k (suc n) j bs (once_right (inst_ids b.insts) (block_ids bs) o) e in (
        ap (λ u. either (standing k n b.insts u) (standing_in x k (suc n) bs)) (lacks_find x b.insts (once_before (inst_ids b.insts) (block_ids bs) x o more.1))
            ∙ more.0 ∙ ap (λ v. Some (stands k v (insts_of (slice_get bs j)) i)) (omega arith),
        among_right (inst_ids b.insts) (block_ids bs) x more.1,
      )

  in_items : (k j n : ℕ) (items : List Item) → Once (ids_of_items items) → find x (insts_in (slice_get (funcs_of items) j) n) ≡ Some i →
      (standing_of x k (funcs_of items) ≡ Some (stands (k + j) n (insts_in (slice_get (funcs_of items) j) n) i))
      × (param_of x (funcs_of items) ≡ None) × (among (ids_of_items items) x ≡ true)
  in_items k j n [] o e = absurd (no_none e)
  in_items k j n (Kept text ∷ items) o e = in_items k j n items o e
  in_items k j n (Opaque text ∷ items) o e = in_items k j n items o e
  in_items k zero n (FuncItem f ∷ items) o e =
      let params = map (λ (p : Param). p.id) f.params in
      let own = item_ids (FuncItem f) in
      let here = in_blocks k 0 n f.blocks (once_right params (block_ids f.blocks) (once_left own (ids_of_items items) o)) e in
      let in_own : among own x ≡ true = among_right params (block_ids f.blocks) x here.1 in (
        ap (λ u. either u (standing_of x (suc k) (funcs_of items))) here.0
            ∙ ap (λ v. Some (stands v (0 + n) (insts_of (slice_get f.blocks n)) i)) (omega arith)
            ∙ ap (λ v. Some (stands (k + 0) v (insts_of (slice_get f.blocks n)) i)) (omega arith),
        ap (λ u. either u (param_of x (funcs_of items))) (lacks_param x f.params (once_before params (block_ids f.blocks) x (once_left own (ids_of_items items) o) here.1))
            ∙ lacks_params x items (once_apart own (ids_of_items items) x o in_own),
        among_left own (ids_of_items items) x in_own,
      )
  in_items k (suc j) n (FuncItem f ∷ items) o e =
      let params = map (λ (p : Param). p.id) f.params in
      let own = item_ids (FuncItem f) in
      let more = in_items (suc k) j n items (once_right own (ids_of_items items) o) e in
      let not_own : among own x ≡ false = once_before own (ids_of_items items) x o more.2 in (
        ap (λ u. either u (standing_of x (suc k) (funcs_of items))) (lacks_standing x k 0 f.blocks (lacks_right params (block_ids f.blocks) x not_own))
            ∙ more.0 ∙ ap (λ v. Some (stands v n (insts_in (slice_get (funcs_of items) j) n) i)) (omega arith),
        ap (λ u. either u (param_of x (funcs_of items))) (lacks_param x f.params (lacks_left params (block_ids f.blocks) x not_own)) ∙ more.1,
        among_right own (ids_of_items items) x more.2,
      )

-- ---- where something is found, the block of its place has it

module _ (x : Id) (s : Standing) where
  of_blocks : (k n : ℕ) (bs : List Block) → standing_in x k n bs ≡ Some s →
      (j : ℕ) × (s.place ≡ record { func = k; block = n + j }) × (insts_of (slice_get bs j) ≡ s.block) × (find x s.block ≡ Some s.inst)
  of_blocks k n [] e = absurd (no_none e)
  of_blocks k n (b ∷ bs) e = by_find (find x b.insts) refl e (λ r. of_blocks k (suc n) bs r)
    where
      by_find : (u : Option Inst) → find x b.insts ≡ u → either (standing k n b.insts u) (standing_in x k (suc n) bs) ≡ Some s →
          (standing_in x k (suc n) bs ≡ Some s → (j : ℕ) × (s.place ≡ record { func = k; block = suc n + j }) × (insts_of (slice_get bs j) ≡ s.block) × (find x s.block ≡ Some s.inst)) →
          (j : ℕ) × (s.place ≡ record { func = k; block = n + j }) × (insts_of (slice_get (b ∷ bs) j) ≡ s.block) × (find x s.block ≡ Some s.inst)
      by_find (Some i) t r more = (
        0,
        sym (ap (λ (v : Standing). v.place) (some_is r)) ∙ ap (place_of k) (omega arith),
        ap (λ (v : Standing). v.block) (some_is r),
        ap (find x) (sym (ap (λ (v : Standing). v.block) (some_is r))) ∙ t ∙ ap Some (ap (λ (v : Standing). v.inst) (some_is r)),
      )
        where
          place_of : ℕ → ℕ → Place
          place_of func block = record { func = func; block = block }
      by_find None t r more = let m = more r in (suc m.0, m.1 ∙ ap (place_of k) (omega arith), m.2, m.3)
        where
          place_of : ℕ → ℕ → Place
          place_of func block = record { func = func; block = block }

  of_items : (k : ℕ) (items : List Item) → standing_of x k (funcs_of items) ≡ Some s →
      (j : ℕ) × (s.place.func ≡ k + j) × (insts_in (slice_get (funcs_of items) j) s.place.block ≡ s.block) × (find x s.block ≡ Some s.inst)
  of_items k [] e = absurd (no_none e)
  of_items k (Kept text ∷ items) e = of_items k items e
  of_items k (Opaque text ∷ items) e = of_items k items e
  of_items k (FuncItem f ∷ items) e = by_blocks (standing_in x k 0 f.blocks) refl e (λ r. of_items (suc k) items r)
    where
      by_blocks : (u : Option Standing) → standing_in x k 0 f.blocks ≡ u → either u (standing_of x (suc k) (funcs_of items)) ≡ Some s →
          (standing_of x (suc k) (funcs_of items) ≡ Some s → (j : ℕ) × (s.place.func ≡ suc k + j) × (insts_in (slice_get (funcs_of items) j) s.place.block ≡ s.block) × (find x s.block ≡ Some s.inst)) →
          (j : ℕ) × (s.place.func ≡ k + j) × (insts_in (slice_get (f ∷ funcs_of items) j) s.place.block ≡ s.block) × (find x s.block ≡ Some s.inst)
      by_blocks (Some q) t r more =
          let here = of_blocks k 0 f.blocks (t ∙ r) in
          let number : s.place.block ≡ here.0 = ap (λ (p : Place). p.block) here.1 ∙ omega arith in (
            0,
            ap (λ (p : Place). p.func) here.1 ∙ omega arith,
            ap (λ v. insts_of (slice_get f.blocks v)) number ∙ here.2,
            here.3,
          )
      by_blocks None t r more = let m = more r in (suc m.0, m.1 ∙ omega arith, m.2, m.3)

  pub found_block : (m : Module) → found m x ≡ Some s → (block_at m s.place ≡ s.block) × (find x s.block ≡ Some s.inst)
  found_block m e =
      let r = of_items 0 m.items e in
      let number : s.place.func ≡ r.0 = r.1 ∙ omega arith in
      (ap (λ v. insts_in (slice_get (funcs_of m.items) v) s.place.block) number ∙ r.2, r.3)

-- ---- answers

pub place_itself : (p : Place) → same_place p p ≡ true
place_itself p = grind (arith, nat_tests)

pub place_is : (p q : Place) → same_place p q ≡ true → p ≡ q
place_is p q h =
    let func : p.func ≡ q.func = grind (arith, nat_tests) in
    let block : p.block ≡ q.block = grind (arith, nat_tests) in
    λ i. record { func = func i; block = block i }

none_some : {A : Type 0} {a : A} → None ≡ Some a → ⊥
none_some e = cc

module _ (m : Module) (o : Once (ids_of m)) (place : Place) (x : Id) where
  there : (i : Inst) → find x (block_at m place) ≡ Some i → in_place place (of_value (param_of x (funcs_of m.items)) (found m x)) ≡ Some i
  there i e =
      let r = in_items x i 0 place.func place.block m.items o e in
      ap (λ u. in_place place (of_value u (found m x))) r.1
      ∙ ap (λ u. in_place place (of_inst u)) r.0
      ∙ ap (λ b. cond b (Some i) None) (ap (λ v. same_place (record { func = v; block = place.block }) place) (omega arith) ∙ place_itself place)

  not_there : (p : Option Param) (u : Option Standing) → found m x ≡ u → find x (block_at m place) ≡ None → in_place place (of_value p u) ≡ None
  not_there (Some p) u t e = refl
  not_there None None t e = refl
  not_there None (Some s) t e = by_test (same_place s.place place) refl where
    by_test : (b : Bool) → same_place s.place place ≡ b → cond b (Some s.inst) None ≡ None
    by_test true q =
        let r = found_block x s m t in
        absurd (none_some (sym e ∙ ap (λ v. find x (block_at m v)) (sym (place_is s.place place q)) ∙ ap (find x) r.0 ∙ r.1))
    by_test false q = refl

  answered : standing_at m place x ≡ find x (block_at m place)
  answered = by_find (find x (block_at m place)) refl where
    by_find : (u : Option Inst) → find x (block_at m place) ≡ u → standing_at m place x ≡ u
    by_find (Some i) e = there i e
    by_find None e = not_there (param_of x (funcs_of m.items)) (found m x) refl e

-- in a formed module, what a place's block has of an id is what the module answers
pub standing_is : (m : Module) → IsFormed m → (place : Place) (x : Id) → standing_at m place x ≡ find x (block_at m place)
standing_is m h place x = answered m (once_of_pairs (ids_of m) h.once) place x

-- the form of a pointer, by the block of its user's place
pub form_at : (m : Module) (user : Id) (s : Standing) → found m user ≡ Some s → (p : Opd) → form m user p ≡ form_in (block_at m s.place) p
form_at m user s e p = ap (λ u. form_in (block_of u) p) e ∙ ap (λ l. form_in l p) (sym (found_block user s m e).0)

-- ---- what stands in a block of a formed module is formed

find_at : (x : Id) (i : Inst) (l : List Inst) → find x l ≡ Some i → (k : ℕ) × (slice_get l k ≡ Some i)
find_at x i [] e = absurd (no_none e)
find_at x i (j ∷ js) e = by_test (same_id j.id x) e (λ r. find_at x i js r)
  where
    by_test : (b : Bool) → cond b (Some j) (find x js) ≡ Some i → (find x js ≡ Some i → (k : ℕ) × (slice_get js k ≡ Some i)) → (k : ℕ) × (slice_get (j ∷ js) k ≡ Some i)
    by_test true r more = (0, r)
    by_test false r more = let q = more r in (suc q.0, q.1)

func_formed : (m : Module) (items : List Item) (k : ℕ) (f : Func) → Every (IsFormedItem m) items → slice_get (funcs_of items) k ≡ Some f → IsFormedFunc m f
func_formed m [] k f h e = absurd (no_none e)
func_formed m (Kept text ∷ items) k f h e = func_formed m items k f h.1 e
func_formed m (Opaque text ∷ items) k f h e = func_formed m items k f h.1 e
func_formed m (FuncItem g ∷ items) zero f h e = subst (IsFormedFunc m) (some_is e) h.0
func_formed m (FuncItem g ∷ items) (suc k) f h e = func_formed m items k f h.1 e

-- an instruction of a formed function
pub record Formedness (m : Module) (i : Inst) : Type 0 where
  pub func : Func
  pub number : ℕ
  pub position : ℕ
  pub formed : IsFormedInst m func number position i

pub standing_formed : (m : Module) → IsFormed m → (place : Place) (x : Id) (i : Inst) → find x (block_at m place) ≡ Some i → Formedness m i
standing_formed m h place x i e = by_func (slice_get (funcs_of m.items) place.func) refl e
  where
    by_func : (u : Option Func) → slice_get (funcs_of m.items) place.func ≡ u → find x (insts_in u place.block) ≡ Some i → Formedness m i
    by_func None t r = absurd (no_none r)
    by_func (Some f) t r = by_block (slice_get f.blocks place.block) refl r
      where
        by_block : (u : Option Block) → slice_get f.blocks place.block ≡ u → find x (insts_of u) ≡ Some i → Formedness m i
        by_block None q r = absurd (no_none r)
        by_block (Some b) q r =
            let at = find_at x i b.insts r in
            let formed = func_formed m m.items place.func f (every_of_all (IsFormedItem m) m.items h.items) t in
            record { func = f; number = place.block; position = at.0; formed = (formed.blocks place.block b q).insts at.0 i at.1 }

-- an instruction's id is no parameter's
pub found_alone : (x : Id) (s : Standing) (m : Module) → IsFormed m → found m x ≡ Some s → param_of x (funcs_of m.items) ≡ None
found_alone x s m h e =
    let r = found_block x s m e in
    (in_items x s.inst 0 s.place.func s.place.block m.items (once_of_pairs (ids_of m) h.once) (ap (find x) r.0 ∙ r.1)).1

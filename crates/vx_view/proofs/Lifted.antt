-- The use lists of a module as it was read are exact.
use Rattle.std.proofs.Common.{◌≡◌, refl, sym, ap, ◌∙◌, subst, ℕ, suc, ◌+◌, ◌<◌, ◌≤◌, Bool, true, false, ◌&&◌, ◌||◌, List, [], ◌∷◌, ◌++◌, map, cond, nat_eq, arith}
use Rattle.std.proofs.lemmas.Bool.Decides.{nat_tests}
use Rattle.ir_types.specs.declared.id.Id.{Id}
use Rattle.ir_types.specs.declared.id.Use.{Use}
use Rattle.ir_types.specs.declared.opd.Opd.{Opd}
use Rattle.ir_types.specs.declared.inst.Inst.{Inst}
use Rattle.ir_types.specs.declared.func.Param.{Param}
use Rattle.ir_types.specs.declared.func.Block.{Block}
use Rattle.ir_types.specs.declared.module.Item.{Item}
use Rattle.ir_types.specs.declared.module.Item.TheVariants.{Kept, Opaque, Func as FuncItem}
use Rattle.ir_types.specs.declared.module.Module.{Module}
use Rattle.ir_types.specs.Available.{same_id}
use Rattle.ir_types.specs.Formed.{block_ids, item_ids, ids_of_items, ids_of, IsFormed}
use Rattle.ir_types.proofs.Among.{among, same_is, Once, once_of_pairs}
use Rattle.vx_view.specs.Answers.{funcs_of, is_value, slots_from, uses_in, uses_in_blocks, uses_of}
use Rattle.vx_view.specs.Uses.{same_use, times, newest_first, IsExact, lifted}
use Rattle.vx_view.proofs.Edits.{once_left, once_right, once_apart, lacks_left, lacks_right, inst_ids}

times_append : (u : Use) (xs ys : List Use) → times u (xs ++ ys) ≡ times u xs + times u ys
times_append u [] ys = omega arith
times_append u (x ∷ xs) ys = by_test (same_use x u) (times_append u xs ys)
  where
    by_test : (b : Bool) → times u (xs ++ ys) ≡ times u xs + times u ys → cond b (1 + times u (xs ++ ys)) (times u (xs ++ ys)) ≡ cond b (1 + times u xs) (times u xs) + times u ys
    by_test true e = omega arith
    by_test false e = e

-- turned round a list has each use as often
times_newest : (u : Use) (us done : List Use) → times u (newest_first us done) ≡ times u us + times u done
times_newest u [] done = omega arith
times_newest u (x ∷ us) done = times_newest u us (x ∷ done) ∙ by_test (same_use x u)
  where
    by_test : (b : Bool) → times u us + cond b (1 + times u done) (times u done) ≡ cond b (1 + times u us) (times u us) + times u done
    by_test true = omega arith
    by_test false = refl

module _ (v : Id) (u : Use) where
  -- ---- one instruction

  -- the slots of another user, and the slots before one, are not there
  other_user : (user : Id) (slot : ℕ) (os : List Opd) → same_id user u.user ≡ false → times u (slots_from v user slot os) ≡ 0
  other_user user slot [] e = refl
  other_user user slot (o ∷ os) e = by_test (is_value v o) (other_user user (suc slot) os e)
    where
      by_test : (b : Bool) → times u (slots_from v user (suc slot) os) ≡ 0 → times u (cond b (record { user = user; slot = slot } ∷ slots_from v user (suc slot) os) (slots_from v user (suc slot) os)) ≡ 0
      by_test true z = ap (λ b. cond (b && nat_eq slot u.slot) (1 + times u (slots_from v user (suc slot) os)) (times u (slots_from v user (suc slot) os))) e ∙ z
      by_test false z = z

  later_slots : (user : Id) (slot : ℕ) (os : List Opd) → u.slot < slot → times u (slots_from v user slot os) ≡ 0
  later_slots user slot [] e = refl
  later_slots user slot (o ∷ os) e = by_test (is_value v o) (later_slots user (suc slot) os (omega arith))
    where
      not_here : same_id user u.user && nat_eq slot u.slot ≡ false
      not_here = by_first (same_id user u.user) where
        differ : nat_eq slot u.slot ≡ false
        differ = grind (arith, nat_tests)

        by_first : (b : Bool) → b && nat_eq slot u.slot ≡ false
        by_first true = differ
        by_first false = refl

      by_test : (b : Bool) → times u (slots_from v user (suc slot) os) ≡ 0 → times u (cond b (record { user = user; slot = slot } ∷ slots_from v user (suc slot) os) (slots_from v user (suc slot) os)) ≡ 0
      by_test true z = ap (λ b. cond b (1 + times u (slots_from v user (suc slot) os)) (times u (slots_from v user (suc slot) os))) not_here ∙ z
      by_test false z = z

  slots_once : (user : Id) (slot : ℕ) (os : List Opd) → times u (slots_from v user slot os) ≤ 1
  slots_once user slot [] = omega arith
  slots_once user slot (o ∷ os) = by_test (is_value v o) (slots_once user (suc slot) os)
    where
      by_use : (b : Bool) → same_id user u.user && nat_eq slot u.slot ≡ b → times u (slots_from v user (suc slot) os) ≤ 1 →
          cond b (1 + times u (slots_from v user (suc slot) os)) (times u (slots_from v user (suc slot) os)) ≤ 1
      by_use true t h = let none = later_slots user (suc slot) os (at_slot (same_id user u.user) t) in omega arith where
        at_slot : (a : Bool) → a && nat_eq slot u.slot ≡ true → u.slot < suc slot
        at_slot true e = grind (arith, nat_tests)
        at_slot false e = absurd cc
      by_use false t h = h

      by_test : (b : Bool) → times u (slots_from v user (suc slot) os) ≤ 1 → times u (cond b (record { user = user; slot = slot } ∷ slots_from v user (suc slot) os) (slots_from v user (suc slot) os)) ≤ 1
      by_test true h = by_use (same_id user u.user && nat_eq slot u.slot) refl h
      by_test false h = h

  -- ---- blocks and functions: what is not among the ids uses nothing, and each id once uses it once

  insts_lack : (l : List Inst) → among (inst_ids l) u.user ≡ false → times u (uses_in v l) ≡ 0
  insts_lack [] e = refl
  insts_lack (i ∷ is) e = by_test (same_id i.id u.user) refl e (λ r. insts_lack is r)
    where
      by_test : (b : Bool) → same_id i.id u.user ≡ b → (b || among (inst_ids is) u.user) ≡ false → (among (inst_ids is) u.user ≡ false → times u (uses_in v is) ≡ 0) →
          times u (slots_from v i.id 0 i.opds ++ uses_in v is) ≡ 0
      by_test true t r more = absurd cc
      by_test false t r more =
          let here = other_user i.id 0 i.opds t in
          let rest = more r in
          times_append u (slots_from v i.id 0 i.opds) (uses_in v is) ∙ (omega arith)

  insts_once : (l : List Inst) → Once (inst_ids l) → times u (uses_in v l) ≤ 1
  insts_once [] o = omega arith
  insts_once (i ∷ is) o = by_test (same_id i.id u.user) refl (insts_once is o.1)
    where
      sum : times u (slots_from v i.id 0 i.opds ++ uses_in v is) ≡ times u (slots_from v i.id 0 i.opds) + times u (uses_in v is)
      sum = times_append u (slots_from v i.id 0 i.opds) (uses_in v is)

      by_test : (b : Bool) → same_id i.id u.user ≡ b → times u (uses_in v is) ≤ 1 → times u (slots_from v i.id 0 i.opds ++ uses_in v is) ≤ 1
      by_test true t h =
          let rest = insts_lack is (subst (λ x. among (inst_ids is) x ≡ false) (same_is i.id u.user t) o.0) in
          let here = slots_once i.id 0 i.opds in
          let all = sum in omega arith
      by_test false t h =
          let here = other_user i.id 0 i.opds t in
          let all = sum in omega arith

  blocks_lack : (bs : List Block) → among (block_ids bs) u.user ≡ false → times u (uses_in_blocks v bs) ≡ 0
  blocks_lack [] e = refl
  blocks_lack (b ∷ bs) e =
      let here = insts_lack b.insts (lacks_left (inst_ids b.insts) (block_ids bs) u.user e) in
      let rest = blocks_lack bs (lacks_right (inst_ids b.insts) (block_ids bs) u.user e) in
      times_append u (uses_in v b.insts) (uses_in_blocks v bs) ∙ (omega arith)

  blocks_once : (bs : List Block) → Once (block_ids bs) → times u (uses_in_blocks v bs) ≤ 1
  blocks_once [] o = omega arith
  blocks_once (b ∷ bs) o = by_test (among (inst_ids b.insts) u.user) refl (blocks_once bs (once_right (inst_ids b.insts) (block_ids bs) o))
    where
      sum : times u (uses_in v b.insts ++ uses_in_blocks v bs) ≡ times u (uses_in v b.insts) + times u (uses_in_blocks v bs)
      sum = times_append u (uses_in v b.insts) (uses_in_blocks v bs)

      by_test : (c : Bool) → among (inst_ids b.insts) u.user ≡ c → times u (uses_in_blocks v bs) ≤ 1 → times u (uses_in v b.insts ++ uses_in_blocks v bs) ≤ 1
      by_test true t h =
          let rest = blocks_lack bs (once_apart (inst_ids b.insts) (block_ids bs) u.user o t) in
          let here = insts_once b.insts (once_left (inst_ids b.insts) (block_ids bs) o) in
          let all = sum in omega arith
      by_test false t h =
          let here = insts_lack b.insts t in
          let all = sum in omega arith

  items_lack : (items : List Item) → among (ids_of_items items) u.user ≡ false → times u (uses_of v (funcs_of items)) ≡ 0
  items_lack [] e = refl
  items_lack (Kept text ∷ items) e = items_lack items e
  items_lack (Opaque text ∷ items) e = items_lack items e
  items_lack (FuncItem f ∷ items) e =
      let here = blocks_lack f.blocks (lacks_right (map (λ (p : Param). p.id) f.params) (block_ids f.blocks) u.user (lacks_left (item_ids (FuncItem f)) (ids_of_items items) u.user e)) in
      let rest = items_lack items (lacks_right (item_ids (FuncItem f)) (ids_of_items items) u.user e) in
      times_append u (uses_in_blocks v f.blocks) (uses_of v (funcs_of items)) ∙ (omega arith)

  items_once : (items : List Item) → Once (ids_of_items items) → times u (uses_of v (funcs_of items)) ≤ 1
  items_once [] o = omega arith
  items_once (Kept text ∷ items) o = items_once items o
  items_once (Opaque text ∷ items) o = items_once items o
  items_once (FuncItem f ∷ items) o = by_test (among (item_ids (FuncItem f)) u.user) refl (items_once items (once_right (item_ids (FuncItem f)) (ids_of_items items) o))
    where
      params : List Id
      params = map (λ (p : Param). p.id) f.params

      sum : times u (uses_in_blocks v f.blocks ++ uses_of v (funcs_of items)) ≡ times u (uses_in_blocks v f.blocks) + times u (uses_of v (funcs_of items))
      sum = times_append u (uses_in_blocks v f.blocks) (uses_of v (funcs_of items))

      by_test : (c : Bool) → among (item_ids (FuncItem f)) u.user ≡ c → times u (uses_of v (funcs_of items)) ≤ 1 → times u (uses_in_blocks v f.blocks ++ uses_of v (funcs_of items)) ≤ 1
      by_test true t h =
          let rest = items_lack items (once_apart (item_ids (FuncItem f)) (ids_of_items items) u.user o t) in
          let here = blocks_once f.blocks (once_right (map (λ (p : Param). p.id) f.params) (block_ids f.blocks) (once_left (item_ids (FuncItem f)) (ids_of_items items) o)) in
          let all = sum in omega arith
      by_test false t h =
          let here = blocks_lack f.blocks (lacks_right (map (λ (p : Param). p.id) f.params) (block_ids f.blocks) u.user t) in
          let all = sum in omega arith

plus_zero : (n : ℕ) → n + 0 ≡ n
plus_zero n = omega arith

pub lifted_exact : (m : Module) → IsFormed m → IsExact m (lifted m)
lifted_exact m formed = record {
  same = λ v u. times_newest u (uses_of v (funcs_of m.items)) [] ∙ plus_zero (times u (uses_of v (funcs_of m.items)));
  once = λ v u. subst (λ n. n ≤ 1) (sym (times_newest u (uses_of v (funcs_of m.items)) [] ∙ plus_zero (times u (uses_of v (funcs_of m.items)))))
      (items_once v u m.items (once_of_pairs (ids_of m) formed.once));
}

-- What an instruction of a block uses that stands in the block stands before it, where a walk comes to the block.
use Rattle.std.proofs.Common.{◌≡◌, refl, sym, ap, ◌∙◌, subst, ℕ, zero, suc, ◌+◌, ◌≤◌, Bool, true, false, ◌||◌, Some, List, [], ◌∷◌, ◌++◌, cond, nat_eq, slice_get, take, arith, length}
use Rattle.std.specs.List.{list_any}
use Rattle.std.proofs.lemmas.Bool.Decides.{nat_tests}
use Rattle.ir_types.specs.declared.id.Id.{Id}
use Rattle.ir_types.specs.declared.opd.Opd.{Opd}
use Rattle.ir_types.specs.declared.opd.Opd.TheVariants.{Val, Lit, Sym}
use Rattle.ir_types.specs.declared.op.Op.{Op}
use Rattle.ir_types.specs.declared.op.Op.TheVariants as op
use Rattle.ir_types.specs.declared.inst.Inst.{Inst}
use Rattle.ir_types.specs.declared.func.Param.{Param}
use Rattle.ir_types.specs.declared.func.Block.{Block}
use Rattle.ir_types.specs.declared.func.Func.{Func}
use Rattle.ir_types.specs.declared.module.Item.TheVariants.{Func as FuncItem}
use Rattle.ir_types.specs.Walks.{IsWalk, EndsAt, EndsFrom, GoesOn, IsReached}
use Rattle.ir_types.specs.Available.{same_id, graph_of, is_param, defines, insts_of, insts_at, stands_from, stands_on, walk_end, before_use, IsAvailableFunc}
use Rattle.ir_types.specs.Formed.{is_phi, block_ids, IsFormed}
use Rattle.ir_types.proofs.Among.{same_is}
use Rattle.vx_view.specs.Answers.{is_value}
use Rattle.sb_uses.specs.Totals.{id_times}
use Rattle.rf_rewrite.proofs.Contexts.{Context, block_with, plug, times, times_append, inst_ids, param_ids, ids_append, times_ids, around}
use Rattle.rf_rewrite.proofs.Parts.{defines_none}
use Rattle.rf_rewrite.proofs.Gone.{uses_id}
use Rattle.rf_rewrite.proofs.Blocks.{get_split, func_in, times_few}

pub plain_end : (o : Op) (slot block : ℕ) → is_phi o ≡ false → walk_end o slot block ≡ Some block
plain_end (op.Bin o flags) slot block e = refl
plain_end (op.Icmp pred) slot block e = refl
plain_end (op.Cast o nneg) slot block e = refl
plain_end op.Select slot block e = refl
plain_end op.Extract slot block e = refl
plain_end op.Insert slot block e = refl
plain_end (op.Shuffle mask) slot block e = refl
plain_end (op.Gep elem inbounds) slot block e = refl
plain_end (op.Load align) slot block e = refl
plain_end (op.Store align) slot block e = refl
plain_end (op.Alloca elem align) slot block e = refl
plain_end (op.Phi blocks) slot block e = absurd cc
plain_end op.Ret slot block e = refl
plain_end (op.Br to) slot block e = refl
plain_end (op.CondBr first second) slot block e = refl
plain_end (op.Switch other cases to) slot block e = refl
plain_end op.Unreachable slot block e = refl
plain_end (op.Call site) slot block e = refl

pub plain_before : (o : Op) (last : List Inst) (p : ℕ) → is_phi o ≡ false → before_use o last p ≡ p
plain_before (op.Bin o flags) last p e = refl
plain_before (op.Icmp pred) last p e = refl
plain_before (op.Cast o nneg) last p e = refl
plain_before op.Select last p e = refl
plain_before op.Extract last p e = refl
plain_before op.Insert last p e = refl
plain_before (op.Shuffle mask) last p e = refl
plain_before (op.Gep elem inbounds) last p e = refl
plain_before (op.Load align) last p e = refl
plain_before (op.Store align) last p e = refl
plain_before (op.Alloca elem align) last p e = refl
plain_before (op.Phi blocks) last p e = absurd cc
plain_before op.Ret last p e = refl
plain_before (op.Br to) last p e = refl
plain_before (op.CondBr first second) last p e = refl
plain_before (op.Switch other cases to) last p e = refl
plain_before op.Unreachable last p e = refl
plain_before (op.Call site) last p e = refl

-- a slot that holds a value
used_slot : (v : Id) (os : List Opd) → list_any (is_value v) os ≡ true → (k : ℕ) × (slice_get os k ≡ Some (Val v))
used_slot v [] e = absurd cc
used_slot v (Val w ∷ os) e = by_test (same_id w v) refl e (used_slot v os)
  where
    by_test : (b : Bool) → same_id w v ≡ b → (b || list_any (is_value v) os) ≡ true → (list_any (is_value v) os ≡ true → (k : ℕ) × (slice_get os k ≡ Some (Val v))) →
        (k : ℕ) × (slice_get (Val w ∷ os) k ≡ Some (Val v))
    by_test true t r more = (0, ap (λ x. Some (Val x)) (same_is w v t))
    by_test false t r more = let h = more r in (suc h.0, h.1)
used_slot v (Lit l ∷ os) e = let h = used_slot v os e in (suc h.0, h.1)
used_slot v (Sym g ∷ os) e = let h = used_slot v os e in (suc h.0, h.1)

no_param : (v : Id) (ps : List Param) → id_times v (param_ids ps) ≡ 0 → list_any (λ (p : Param). same_id p.id v) ps ≡ false
no_param v [] e = refl
no_param v (p ∷ ps) e = by_test (same_id p.id v) e (no_param v ps)
  where
    by_test : (b : Bool) → cond b (1 + id_times v (param_ids ps)) (id_times v (param_ids ps)) ≡ 0 → (id_times v (param_ids ps) ≡ 0 → list_any (λ (q : Param). same_id q.id v) ps ≡ false) →
        (b || list_any (λ (q : Param). same_id q.id v) ps) ≡ false
    by_test true r more = absurd (omega (arith, r))
    by_test false r more = more r

blocks_lack : (v : Id) (bs : List Block) → id_times v (block_ids bs) ≡ 0 → (a : ℕ) → defines v (insts_of (slice_get bs a)) ≡ false
blocks_lack v [] e a = refl
blocks_lack v (b ∷ bs) e zero =
    let sum = ids_append v (inst_ids b.insts) (block_ids bs) in
    let own = times_ids v b.insts in
    defines_none v b.insts (omega (arith, sum, own, e))
blocks_lack v (b ∷ bs) e (suc a) = let sum = ids_append v (inst_ids b.insts) (block_ids bs) in blocks_lack v bs (omega (arith, sum, e)) a

others_lack : (v : Id) (bs cs : List Block) (b : Block) → id_times v (block_ids bs) ≡ 0 → id_times v (block_ids cs) ≡ 0 → (a : ℕ) → (a ≡ length bs → ⊥) →
    defines v (insts_of (slice_get (bs ++ b ∷ cs) a)) ≡ false
others_lack v [] cs b e f zero apart = absurd (apart refl)
others_lack v [] cs b e f (suc a) apart = blocks_lack v cs f a
others_lack v (d ∷ bs) cs b e f zero apart =
    let sum = ids_append v (inst_ids d.insts) (block_ids bs) in
    let own = times_ids v d.insts in
    defines_none v d.insts (omega (arith, sum, own, e))
others_lack v (d ∷ bs) cs b e f (suc a) apart =
    let sum = ids_append v (inst_ids d.insts) (block_ids bs) in
    others_lack v bs cs b (omega (arith, sum, e)) f a (λ same. apart (ap suc same))

defines_times : (v : Id) (l : List Inst) → defines v l ≡ true → 1 ≤ times v l
defines_times v l h = by_number (times v l) refl
  where
    true_false : true ≡ false → ⊥
    true_false e = cc

    by_number : (n : ℕ) → times v l ≡ n → 1 ≤ times v l
    by_number zero e = absurd (true_false (sym h ∙ defines_none v l e))
    by_number (suc n) e = omega (arith, e)

take_front : (front rest : List Inst) → take (length front) (front ++ rest) ≡ front
take_front [] rest = refl
take_front (i ∷ front) rest = ap (λ u. i ∷ u) (take_front front rest)

module _ (c : Context) (l : List Inst) (formed : IsFormed (plug c l)) (reached : IsReached (graph_of (func_in c l)) (length c.blocks_before)) where
  abbrev func : Func
  func = func_in c l

  abbrev number : ℕ
  number = length c.blocks_before

  own_block : slice_get (func_in c l).blocks number ≡ Some (block_with c l)
  own_block = get_split c.blocks_before c.blocks_after (block_with c l)

  -- a walk that comes to the block for the first time at its end
  pub record First (v : Id) (p a : ℕ) : Type 0 where
    pub rest : List ℕ
    pub goes : GoesOn (graph_of (func_in c l)) a rest
    pub ends : EndsFrom a rest number
    pub stands : stands_from (func_in c l) v p a rest ≡ defines v (take p l)

  first : (v : Id) (p : ℕ) → around c v ≡ 0 → (a : ℕ) (rest : List ℕ) → GoesOn (graph_of (func_in c l)) a rest → EndsFrom a rest number → First v p a
  first v p none a [] goes ends =
      record { rest = []; goes = tt; ends = ends; stands = ap (λ n. defines v (take p (insts_at (func_in c l) n))) ends ∙ ap (λ o. defines v (take p (insts_of o))) own_block }
  first v p none a (b ∷ rest) goes ends = by_test (nat_eq a number) refl (first v p none b rest goes.1 ends)
    where
      by_test : (t : Bool) → nat_eq a number ≡ t → First v p b → First v p a
      by_test true e more =
          let at : a ≡ number = grind (arith, nat_tests) in
          record { rest = []; goes = tt; ends = at; stands = ap (λ n. defines v (take p (insts_at (func_in c l) n))) at ∙ ap (λ o. defines v (take p (insts_of o))) own_block }
      by_test false e more = record {
        rest = b ∷ more.rest;
        goes = (goes.0, more.goes);
        ends = more.ends;
        stands = ap (λ t. t || stands_from (func_in c l) v p b more.rest) (others_lack v c.blocks_before c.blocks_after (block_with c l) (omega (arith, none)) (omega (arith, none)) a apart) ∙ more.stands;
      }
        where
          apart : a ≡ number → ⊥
          apart same = absurd (grind (arith, nat_tests))

  available : IsAvailableFunc (func_in c l)
  available = formed.available (length c.items_before) (FuncItem (func_in c l)) (get_split c.items_before c.items_after (FuncItem (func_in c l)))

  stands_before : (p : ℕ) (i : Inst) (v : Id) → slice_get l p ≡ Some i → is_phi i.op ≡ false → uses_id v i ≡ true → around c v ≡ 0 → defines v (take p l) ≡ true
  stands_before p i v at plain uses none = by_walk reached.0 reached.1 reached.2
    where
      slot : (k : ℕ) × (slice_get i.opds k ≡ Some (Val v))
      slot = used_slot v i.opds uses

      on_walks : (walk : List ℕ) → IsWalk (graph_of (func_in c l)) walk → EndsAt walk number → stands_on (func_in c l) v p walk ≡ true
      on_walks = subst (λ n. (walk : List ℕ) → IsWalk (graph_of (func_in c l)) walk → EndsAt walk number → stands_on (func_in c l) v n walk ≡ true)
          (plain_before i.op (insts_at (func_in c l) number) p plain)
          (available number (block_with c l) own_block p i at slot.0 (Val v) slot.1 number (plain_end i.op slot.0 number plain))

      no_params : is_param v (func_in c l) ≡ false
      no_params = no_param v c.func.params (omega (arith, none))

      by_walk : (walk : List ℕ) → IsWalk (graph_of (func_in c l)) walk → EndsAt walk number → defines v (take p l) ≡ true
      by_walk [] w e = elim w [ ]
      by_walk (a ∷ rest) w e =
          let f = first v p none a rest w.2 e in
          sym f.stands ∙ ap (λ t. t || stands_from (func_in c l) v p a f.rest) (sym no_params) ∙ on_walks (a ∷ f.rest) (w.0, w.1, f.goes) f.ends

  -- what an instruction uses does not stand from it on
  pub stands_earlier : (front rest : List Inst) (i : Inst) (v : Id) → l ≡ front ++ i ∷ rest → is_phi i.op ≡ false → uses_id v i ≡ true → around c v ≡ 0 → times v (i ∷ rest) ≡ 0
  stands_earlier front rest i v are plain uses none =
      let at : slice_get l (length front) ≡ Some i = ap (λ u. slice_get u (length front)) are ∙ get_split front rest i in
      let before : defines v front ≡ true =
      ap (defines v) (sym (ap (take (length front)) are ∙ take_front front (i ∷ rest))) ∙ stands_before (length front) i v at plain uses none in
      let some = defines_times v front before in
      let all = times_few c l formed v in
      let parts = ap (times v) are in
      let sum = times_append v front (i ∷ rest) in
      omega (arith, some, all, parts, sum)

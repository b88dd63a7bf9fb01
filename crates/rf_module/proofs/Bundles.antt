-- A widened bundle: its slots, its vector instruction and its extracts are fine where they stand.
use Rattle.std.proofs.Common.{◌≡◌, refl, sym, ap, ◌∙◌, subst, ℕ, zero, suc, ◌+◌, ◌≤◌, Bool, true, false, ◌||◌, Option, None, Some, List, [], ◌∷◌, map, nat_eq, nat_lt, slice_get, take, if◌then◌else◌, arith, length}
use Rattle.std.specs.List.{list_any}
use Rattle.std.proofs.lemmas.Bool.Decides.{nat_tests}
use Rattle.ir_types.specs.declared.id.Id.{Id}
use Rattle.ir_types.specs.declared.ty.Ty.{Ty}
use Rattle.ir_types.specs.declared.ty.Ty.TheVariants.{Int, Ptr, Row}
use Rattle.ir_types.specs.declared.literal.Literal.{Literal}
use Rattle.ir_types.specs.declared.opd.Opd.{Opd}
use Rattle.ir_types.specs.declared.opd.Opd.TheVariants.{Val, Lit, Sym}
use Rattle.ir_types.specs.declared.op.Op.{Op}
use Rattle.ir_types.specs.declared.op.Op.TheVariants as op
use Rattle.ir_types.specs.declared.inst.Inst.{Inst}
use Rattle.ir_types.specs.declared.func.Func.{Func}
use Rattle.ir_types.specs.declared.module.Module.{Module}
use Rattle.ir_types.specs.Available.{same_id}
use Rattle.ir_types.specs.Typed.{is_count, is_vector, is_scalar, IsLiteral, IsTyped}
use Rattle.ir_types.specs.Formed.{given_ty, value_ty, opd_ty, IsOpd, IsFormedInst}
use Rattle.ir_types.proofs.Formed.{Every, every_of_all, every_at}
use Rattle.ir_types.proofs.Among.{same_is, same_itself}
use Rattle.vx_view.specs.Answers.{find, is_value as holds}
use Rattle.vx_serial.specs.declared.node.How.{How}
use Rattle.vx_serial.specs.declared.node.How.TheVariants.{Widen, Reuse, Ident, Pack}
use Rattle.vx_serial.specs.declared.node.Node.{Node}
use Rattle.vx_serial.specs.Legal.{is_widened, of_lanes, element_by, element_of, indexed, is_element, are_elements}
use Rattle.vx_serial.specs.Rewriting.{row_of, first_ty, vector_of, is_id_in, uses_value}
use Rattle.vx_serial.proofs.Decided.{and_left}
use Rattle.rf_rewrite.proofs.Contexts.{Context, plug, times, around}
use Rattle.rf_rewrite.proofs.Window.{find_times}
use Rattle.rf_rewrite.proofs.Gone.{uses_id}
use Rattle.rf_rewrite.proofs.Blocks.{func_in}
use Rattle.rf_module.proofs.Lines.{Known}
use Rattle.rf_module.proofs.Types.{ty_is}
use Rattle.rf_module.specs.Trees.{Complete, AllComplete}
use Rattle.rf_module.proofs.Nodes.{Told, told_as, reused_is, Elements, identity_is}
use Rattle.rf_module.proofs.Steps.{ReadyIf}
use Rattle.rf_module.proofs.Slots.{SlotReady}

some_is : {A : Type 0} {p q : A} → Some p ≡ Some q → p ≡ q
some_is e = cc

get_take : (p q : ℕ) (tree : List Node) (k : Node) → slice_get (take p tree) q ≡ Some k → slice_get tree q ≡ Some k
get_take zero q tree k e = absurd cc
get_take (suc p) q [] k e = absurd cc
get_take (suc p) zero (x ∷ tree) k e = e
get_take (suc p) (suc q) (x ∷ tree) k e = get_take p q tree k e

complete_at : (m : Module) (block : List Inst) (last : Id) (tree ns : List Node) (from q : ℕ) (k : Node) → AllComplete m block last tree from ns → slice_get ns q ≡ Some k → Complete m block last tree (from + q) k
complete_at m block last tree [] from q k h e = absurd cc
complete_at m block last tree (x ∷ ns) from zero k h e = subst (λ j. Complete m block last tree j k) (plain from) (subst (Complete m block last tree from) (some_is e) h.0)
  where
    plain : (j : ℕ) → j ≡ j + 0
    plain j = omega (arith)
complete_at m block last tree (x ∷ ns) from (suc q) k h e = subst (λ j. Complete m block last tree j k) (next from q) (complete_at m block last tree ns (suc from) q k h.1 e)
  where
    next : (a b : ℕ) → suc a + b ≡ a + suc b
    next a b = omega (arith)

-- an operand at a slot is used
slot_used : (y : Id) (os : List Opd) (j : ℕ) → slice_get os j ≡ Some (Val y) → list_any (holds y) os ≡ true
slot_used y [] j e = absurd cc
slot_used y (o ∷ os) zero e = ap (λ u. holds y u || list_any (holds y) os) (some_is e) ∙ ap (λ b. b || list_any (holds y) os) (same_itself y)
slot_used y (o ∷ os) (suc j) e = later (holds y o) (slot_used y os j e)
  where
    later : (b : Bool) → list_any (holds y) os ≡ true → (b || list_any (holds y) os) ≡ true
    later true r = refl
    later false r = r

module _ (c : Context) (block window : List Inst) (lanes gone : List Id) (wanted : Id → Bool) (new : List Inst) (n : ℕ) (tree : List Node) (last : Id) (region : ℕ) where
  abbrev m : Module
  m = plug c block

  abbrev f : Func
  f = func_in c block

  abbrev number : ℕ
  number = length c.blocks_before

  -- a value that does not go, and is extracted where it is a lane
  abbrev pub Stays : Id → Type 0
  Stays y = (is_id_in gone y ≡ false) × (is_id_in lanes y ≡ true → wanted y ≡ true)

  abbrev pub LaneIn : Opd → Type 0
  LaneIn o = (y : Id) × (o ≡ Val y) × ((i : Inst) × (find y window ≡ Some i))

  -- what holds of the block, the window and the tree
  pub record Facts : Type 0 where
    pub count : is_count n ≡ true
    pub some : 1 ≤ n
    pub small : n ≤ 16
    pub few : (y : Id) → around c y + times y block ≤ 1
    pub typed : (y : Id) (i : Inst) → find y block ≡ Some i → IsFormedInst (plug c block) (func_in c block) (length c.blocks_before) 0 i
    pub in_block : (y : Id) (i : Inst) → find y window ≡ Some i → find y block ≡ Some i
    pub complete : AllComplete (plug c block) block last tree 0 tree
    pub long : (q : ℕ) (k : Node) → slice_get tree q ≡ Some k → length k.lanes ≡ n
    pub widened_in : (q : ℕ) (k : Node) → slice_get tree q ≡ Some k → is_widened k.how ≡ true → Every LaneIn k.lanes
    pub created_stays : (y : Id) → uses_value y new ≡ true → Stays y

  -- what is known once some of the window is placed
  pub record Good (known : Known) (vectors : List (ℕ × Id)) (placed : List Inst) : Type 0 where
    -- what a member of the window that comes next uses, or what that uses, where it stays
    pub uses : (x : Inst) → find x.id window ≡ Some x → ((v : Id) → uses_id v x ≡ true → 1 ≤ times v window → 1 ≤ times v placed) → (y : Id) → uses_id y x ≡ true →
        ((t : Ty) → Stays y → value_ty (func_in c block) y ≡ Some t → known y ≡ Some t)
        × ((e : Inst) → find y block ≡ Some e → (v : Id) → uses_id v e ≡ true → (t : Ty) → Stays v → value_ty (func_in c block) v ≡ Some t → known v ≡ Some t)
    pub vector : (q : ℕ) (k : Node) → slice_get tree q ≡ Some k → is_widened k.how ≡ true → (y : Id) (os : List Opd) (i : Inst) → k.lanes ≡ Val y ∷ os → find y window ≡ Some i → 1 ≤ times y placed →
        (v : Id) × (vector_of q vectors ≡ Some v) × (known v ≡ Some (given_ty i.op (row_of n (Some i.ty))))

  module _ (facts : Facts) (known : Known) (vectors : List (ℕ × Id)) (placed : List Inst) (good : Good known vectors placed) where
    -- a member of the group that comes next
    abbrev pub Member : Inst → Type 0
    Member x = (find x.id window ≡ Some x) × ((v : Id) → uses_id v x ≡ true → 1 ≤ times v window → 1 ≤ times v placed)

    -- an operand of one, of a type
    pub record OperandOf (j : ℕ) (t : Ty) (o : Opd) : Type 0 where
      pub member : Inst
      pub next : Member member
      pub here : slice_get member.opds j ≡ Some o
      pub typed : opd_ty (plug c block) (func_in c block) o ≡ Some t

    operand_ok : (j : ℕ) (t : Ty) (o : Opd) → OperandOf j t o → IsOpd o
    operand_ok j t o h =
        every_at IsOpd h.member.opds j o (every_of_all IsOpd h.member.opds (facts.typed h.member.id h.member (facts.in_block h.member.id h.member h.next.0)).operands) h.here

    module _ (w : ℕ) (row : is_vector (Row n w) ≡ true) (scalar : is_scalar (Int w) ≡ true) where
      lane_ready : (j : ℕ) (o : Opd) → OperandOf j (Int w) o → ReadyIf (plug c block) (func_in c block) (length c.blocks_before) region new n w row scalar facts.small known o
      lane_ready j (Val y) h = λ u. (good.uses h.member h.next.0 h.next.1 y (slot_used y h.member.opds j h.here)).0 (Int w) (facts.created_stays y u) h.typed
      lane_ready j (Lit l) h = (some_is h.typed, operand_ok j (Int w) (Lit l) h)
      lane_ready j (Sym g) h = never (nat_lt g (length c.globals)) h.typed
        where
          never : (b : Bool) → (if b then Some Ptr else None) ≡ Some (Int w) → ⊥
          never true e = cc
          never false e = cc

      lanes_ready : (j : ℕ) (os : List Opd) → Every (OperandOf j (Int w)) os → Every (ReadyIf (plug c block) (func_in c block) (length c.blocks_before) region new n w row scalar facts.small known) os
      lanes_ready j [] h = tt
      lanes_ready j (o ∷ os) h = (lane_ready j o h.0, lanes_ready j os h.1)

      -- the vector of a node whose lanes these are
      node_vector : (j q : ℕ) (k : Node) → slice_get tree q ≡ Some k → is_widened k.how ≡ true → Every (OperandOf j (Int w)) k.lanes → (v : Id) × (vector_of q vectors ≡ Some v) × (known v ≡ Some (Row n w))
      node_vector j q k e wide all = by_lanes k.lanes refl (facts.widened_in q k e wide) all (facts.long q k e)
        where
          by_lanes : (os : List Opd) → k.lanes ≡ os → Every LaneIn os → Every (OperandOf j (Int w)) os → length os ≡ n → (v : Id) × (vector_of q vectors ≡ Some v) × (known v ≡ Some (Row n w))
          by_lanes [] r h a long = (let some = facts.some in absurd (omega (arith, long, some)))
          by_lanes (o ∷ os) r h a long =
              let y = h.0.0 in
              let i = h.0.2.0 in
              let at : slice_get a.0.member.opds j ≡ Some (Val h.0.0) = a.0.here ∙ ap Some h.0.1 in
              let stands = a.0.next.1 h.0.0 (slot_used h.0.0 a.0.member.opds j at) (find_times h.0.0 window h.0.2.0 h.0.2.1) in
              let v = good.vector q k e wide h.0.0 os h.0.2.0 (r ∙ ap (λ u. u ∷ os) h.0.1) h.0.2.1 stands in
              (v.0, v.1, v.2 ∙ ap Some (typed_row h.0.2.0 (gives h.0.0 h.0.2.0 (facts.in_block h.0.0 h.0.2.0 h.0.2.1) (subst (λ u. opd_ty (plug c block) (func_in c block) u ≡ Some (Int w)) h.0.1 a.0.typed))))
            where
              -- the type of what an instruction of the block gives
              gives : (y : Id) (i : Inst) → find y block ≡ Some i → value_ty (func_in c block) y ≡ Some (Int w) → given_ty i.op i.ty ≡ Int w
              gives y i at t =
                  let le = facts.few y in
                  let some = find_times y block i at in
                  some_is (sym (Rattle.rf_module.proofs.Exchange.own_ty c block y i (omega (arith, le, some)) at) ∙ t)

              typed_row : (i : Inst) → given_ty i.op i.ty ≡ Int w → given_ty i.op (row_of n (Some i.ty)) ≡ Row n w
              typed_row i g = by_op i.op g
                where
                  by_op : (o : Op) → given_ty o i.ty ≡ Int w → given_ty o (row_of n (Some i.ty)) ≡ Row n w
                  by_op (op.Store align) t = absurd cc
                  by_op (op.Bin o flags) t = ap (λ u. row_of n (Some u)) t
                  by_op (op.Icmp pred) t = ap (λ u. row_of n (Some u)) t
                  by_op (op.Cast o nneg) t = ap (λ u. row_of n (Some u)) t
                  by_op op.Select t = ap (λ u. row_of n (Some u)) t
                  by_op op.Extract t = ap (λ u. row_of n (Some u)) t
                  by_op op.Insert t = ap (λ u. row_of n (Some u)) t
                  by_op (op.Shuffle mask) t = ap (λ u. row_of n (Some u)) t
                  by_op (op.Gep elem inbounds) t = ap (λ u. row_of n (Some u)) t
                  by_op (op.Load align) t = ap (λ u. row_of n (Some u)) t
                  by_op (op.Alloca elem align) t = ap (λ u. row_of n (Some u)) t
                  by_op (op.Phi blocks) t = ap (λ u. row_of n (Some u)) t
                  by_op op.Ret t = ap (λ u. row_of n (Some u)) t
                  by_op (op.Br to) t = ap (λ u. row_of n (Some u)) t
                  by_op (op.CondBr first second) t = ap (λ u. row_of n (Some u)) t
                  by_op (op.Switch other cases to) t = ap (λ u. row_of n (Some u)) t
                  by_op op.Unreachable t = ap (λ u. row_of n (Some u)) t
                  by_op (op.Call site) t = ap (λ u. row_of n (Some u)) t

      -- a vector whose elements these are
      element_parts : (o : Op) (os : List Opd) (v : Id) (at : ℕ) → is_element v at (element_by o os) ≡ true → (o ≡ op.Extract) × ((l : Literal) × (os ≡ Val v ∷ Lit l ∷ []))
      element_parts op.Extract (Val x ∷ Lit l ∷ []) v at e = by_lanes l.lanes e
        where
          by_lanes : (ls : List (Option ℕ)) → is_element v at (indexed x ls) ≡ true → (op.Extract ≡ op.Extract) × ((a : Literal) × (Val x ∷ Lit l ∷ [] ≡ Val v ∷ Lit a ∷ []))
          by_lanes (Some k ∷ []) r = (refl, (l, ap (λ u. Val u ∷ Lit l ∷ []) (sym (same_is v x (and_left (same_id v x) (nat_eq at k) r)))))
          by_lanes [] r = absurd cc
          by_lanes (None ∷ ls) r = absurd cc
          by_lanes (Some k ∷ a ∷ ls) r = absurd cc
      element_parts op.Extract [] v at e = absurd cc
      element_parts op.Extract (Val x ∷ []) v at e = absurd cc
      element_parts op.Extract (Val x ∷ Val y ∷ os) v at e = absurd cc
      element_parts op.Extract (Val x ∷ Sym g ∷ os) v at e = absurd cc
      element_parts op.Extract (Val x ∷ Lit l ∷ o ∷ os) v at e = absurd cc
      element_parts op.Extract (Lit l ∷ os) v at e = absurd cc
      element_parts op.Extract (Sym g ∷ os) v at e = absurd cc
      element_parts (op.Bin o flags) os v at e = absurd cc
      element_parts (op.Icmp pred) os v at e = absurd cc
      element_parts (op.Cast o nneg) os v at e = absurd cc
      element_parts op.Select os v at e = absurd cc
      element_parts op.Insert os v at e = absurd cc
      element_parts (op.Shuffle mask) os v at e = absurd cc
      element_parts (op.Gep elem inbounds) os v at e = absurd cc
      element_parts (op.Load align) os v at e = absurd cc
      element_parts (op.Store align) os v at e = absurd cc
      element_parts (op.Alloca elem align) os v at e = absurd cc
      element_parts (op.Phi blocks) os v at e = absurd cc
      element_parts op.Ret os v at e = absurd cc
      element_parts (op.Br to) os v at e = absurd cc
      element_parts (op.CondBr first second) os v at e = absurd cc
      element_parts (op.Switch other cases to) os v at e = absurd cc
      element_parts op.Unreachable os v at e = absurd cc
      element_parts (op.Call site) os v at e = absurd cc

      ident_known : (j q : ℕ) (k : Node) (v : Id) → slice_get tree q ≡ Some k → Elements (plug c block) block k.lanes v → uses_value v new ≡ true → Every (OperandOf j (Int w)) k.lanes → known v ≡ Some (Row n w)
      ident_known j q k v e el u all = by_lanes k.lanes refl el.are all (facts.long q k e)
        where
          by_lanes : (os : List Opd) → k.lanes ≡ os → are_elements block v 0 os ≡ true → Every (OperandOf j (Int w)) os → length os ≡ n → known v ≡ Some (Row n w)
          by_lanes [] r h a long = (let some = facts.some in absurd (omega (arith, long, some)))
          by_lanes (Lit l ∷ os) r h a long = absurd cc
          by_lanes (Sym g ∷ os) r h a long = absurd cc
          by_lanes (Val y ∷ os) r h a long = by_inst (find y block) refl (and_left (is_element v 0 (element_of (find y block))) (are_elements block v 1 os) h)
            where
              by_inst : (o : Option Inst) → find y block ≡ o → is_element v 0 (element_of o) ≡ true → known v ≡ Some (Row n w)
              by_inst None at d = absurd cc
              by_inst (Some i) at d = extracted i at (element_parts i.op i.opds v 0 d)
                where
                  extracted : (i : Inst) → find y block ≡ Some i → (i.op ≡ op.Extract) × ((l : Literal) × (i.opds ≡ Val v ∷ Lit l ∷ [])) → known v ≡ Some (Row n w)
                  extracted i at parts =
                      (good.uses a.0.member a.0.next.0 a.0.next.1 y (slot_used y a.0.member.opds j a.0.here)).1 i at v
                      (ap (list_any (holds v)) parts.1.1 ∙ ap (λ b. b || (holds v (Lit parts.1.0) || false)) (same_itself v)) (Row n w) (facts.created_stays v u)
                      (vector_ty (subst (λ o. IsTyped c.func.ret o i.ty (map (opd_ty (plug c block) (func_in c block)) i.opds)) parts.0 (facts.typed y i at).typed))
                    where
                      gives : i.ty ≡ Int w
                      gives =
                          let le = facts.few y in
                          let some = find_times y block i at in
                          sym (ap (λ o. given_ty o i.ty) parts.0) ∙ some_is (sym (Rattle.rf_module.proofs.Exchange.own_ty c block y i (omega (arith, le, some)) at) ∙ a.0.typed)

                      vector_ty : (n2 w2 k2 : ℕ) × (is_vector (Row n2 w2) ≡ true) × (Rattle.ir_types.specs.Typed.is_width k2 ≡ true) × (i.ty ≡ Int w2) × (map (opd_ty (plug c block) (func_in c block)) i.opds ≡ Some (Row n2 w2) ∷ Some (Int k2) ∷ []) →
                          value_ty (func_in c block) v ≡ Some (Row n w)
                      vector_ty (n2, w2, k2, vec, wid, ity, tys) =
                          let same_w : w2 ≡ w = int_is (sym ity ∙ gives) in
                          let own : value_ty (func_in c block) v ≡ Some (Row n2 w2) = head_is (sym (ap (map (opd_ty (plug c block) (func_in c block))) parts.1.1) ∙ tys) in
                          let same_n : length k.lanes ≡ n2 = count_is (ap (of_lanes (length k.lanes)) (sym (ty_is c block facts.few (Val v) (Row n2 w2) own)) ∙ el.typed) in
                          own ∙ ap (λ a. Some (Row a w2)) (sym same_n ∙ facts.long q k e) ∙ ap (λ b. Some (Row n b)) same_w
                        where
                          int_is : {a b : ℕ} → Int a ≡ Int b → a ≡ b
                          int_is r = cc

                          head_is : {p q : Option Ty} {ps qs : List (Option Ty)} → p ∷ ps ≡ q ∷ qs → p ≡ q
                          head_is r = cc

                          count_is : {a b : ℕ} → nat_eq a b ≡ true → a ≡ b
                          count_is {a} {b} r = (let same : a ≡ b = grind (arith, nat_tests) in same)

      -- how the vector of a slot is had
      pub slot_ready : (j p : ℕ) (k : Node) → slice_get tree p ≡ Some k → ((v : Id) → k.how ≡ Ident v → uses_value v new ≡ true) → Every (OperandOf j (Int w)) k.lanes →
          SlotReady (plug c block) (func_in c block) (length c.blocks_before) region new n facts.small tree w row scalar known vectors p k.lanes k.how
      slot_ready j p k e idents all = by_how k.how refl
        where
          complete : Complete (plug c block) block last tree p k
          complete = subst (λ q. Complete (plug c block) block last tree q k) (plain p) (complete_at (plug c block) block last tree tree 0 p k facts.complete e)
            where
              plain : (q : ℕ) → 0 + q ≡ q
              plain q = omega (arith)

          told : (how : How) → k.how ≡ how → Told (plug c block) block last (take p tree) k.lanes how
          told how h = told_as (plug c block) block last (take p tree) k.lanes how (complete.told ∙ h)

          by_how : (how : How) → k.how ≡ how → SlotReady (plug c block) (func_in c block) (length c.blocks_before) region new n facts.small tree w row scalar known vectors p k.lanes how
          by_how Widen h = node_vector j p k e (ap is_widened h) all
          by_how (Reuse r) h =
              let u = reused_is (take p tree) k.lanes r (told (Reuse r) h) in
              node_vector j r u.node (get_take p r tree u.node u.there) u.widened (subst (Every (OperandOf j (Int w))) (sym u.same) all)
          by_how (Ident v) h = ident_known j p k v e (identity_is (plug c block) block k.lanes v (told (Ident v) h)) (idents v h) all
          by_how (Pack cause) h = (lanes_ready j k.lanes all, facts.long p k e, first k.lanes all (facts.long p k e))
            where
              first : (os : List Opd) → Every (OperandOf j (Int w)) os → length os ≡ n → first_ty (plug c block) os ≡ Some (Int w)
              first [] a long = (let some = facts.some in absurd (omega (arith, long, some)))
              first (o ∷ os) a long = ty_is c block facts.few o (Int w) a.0.typed

-- Statements of the first forms: how they step, and what they keep.
use Rattle.std.proofs.Common.{◌≡◌, refl, sym, subst, ℕ, Bool, true, false, not, ◌&&◌, Option, None, Some, List, [], ◌∷◌, map, cond, nat_eq, nat_le, option_map, arith}
use Rattle.std.proofs.lemmas.Bool.Decides.{nat_tests}
use Rattle.vx_num.specs.declared.operations.BinOp.TheVariants.{Add}
use Rattle.vx_num.specs.declared.operations.Flags.{Flags}
use Rattle.ir_types.specs.declared.id.Id.{Id}
use Rattle.ir_types.specs.declared.ty.Elem.{Elem}
use Rattle.ir_model.specs.declared.value.Value.TheVariants.{Lane as LaneValue, Ptr as PtrValue}
use Rattle.ir_types.specs.declared.ty.Ty.{Ty}
use Rattle.ir_types.specs.declared.ty.Ty.TheVariants.{Void, Int, Ptr, Row}
use Rattle.ir_types.specs.declared.ty.Elem.TheVariants.{One, Array}
use Rattle.ir_types.specs.declared.literal.Literal.{Literal}
use Rattle.ir_types.specs.declared.opd.Opd.{Opd}
use Rattle.ir_types.specs.declared.opd.Opd.TheVariants.{Val, Lit, Sym}
use Rattle.ir_types.specs.declared.op.Op.{Op}
use Rattle.ir_types.specs.declared.op.Op.TheVariants.{Bin, Gep, Load, Store}
use Rattle.ir_model.specs.declared.value.Value.{Value}
use Rattle.ir_model.specs.Values.{Lane, Env, Pointer, pointer_of, with_value, value_of, type_of}
use Rattle.ir_model.specs.Memory.{Memory, lane_bytes, lane_from, stored, loaded}
use Rattle.ir_model.specs.Sizes.{bytes_in}
use Rattle.ir_model.specs.Addresses.{stepped}
use Rattle.ir_model.specs.Accesses.{Effect, memory_effect, value_effect, store_effect, bytes_of}
use Rattle.ir_model.specs.Step.{State, result_of, effect_of}
use Rattle.ir_model.specs.Run.{is_terminator, is_phi}
use Rattle.ir_model.specs.CallFree.{after_effect}
use Rattle.vx_serial.specs.declared.pairing.scan.LedStore.{LedStore}
use Rattle.vx_serial.specs.Pair.{is_int, is_ptr, is_byte, is_number, is_local, is_plain, is_operand, is_literal, is_statement_of, is_memory, Lead, Leads, set_lead, lead_on, leads_by, led_store, led_store_by}
use Rattle.rf_pack.proofs.Known.{Known, known-set, lead_on-holds}

-- the effect of an instruction in an environment
abbrev pub effect_in : (Id → Ty) → Op → Ty → List Opd → Env → Memory → Option Effect
effect_in types op ty opds env m = effect_of op ty (map (type_of types) opds) (map (value_of env) opds) m

-- ---- Booleans

pub both_true : (a b : Bool) → a && b ≡ true → (a ≡ true) × (b ≡ true)
both_true true b e = (refl, e)
both_true false b e = absurd cc

pub true_of : false ≡ true → ⊥
true_of e = cc

-- ---- what any statement does

pub record Plain (op : Op) (ty : Ty) (opds : List Opd) : Type 0 where
  -- it is neither terminator nor phi, and what it does does not depend on the types of ids
  pub goes_on : is_terminator op ≡ false
  pub no_phi : is_phi op ≡ false
  pub untyped : (t u : Id → Ty) (env : Env) (m : Memory) → effect_in t op ty opds env m ≡ effect_in u op ty opds env m
  -- what is known of pointers stays known
  pub known : (t : Id → Ty) (start : Env) (leads : Leads) (id : Id) (env : Env) (m : Memory) (s : State) →
      Known start leads env → after_effect env id (effect_in t op ty opds env m) ≡ Some s → Known start (leads_by leads id op opds) s.env
  -- and what it does depends on no memory, unless it is a load or a store
  pub quiet : is_memory op ≡ false → (types : List Ty) (vs : List Value) (m : Memory) → effect_of op ty types vs m ≡ value_effect (result_of op ty types vs) m

-- a result that leads nowhere
pub known_nowhere : (start : Env) (leads : Leads) (id : Id) (env : Env) (r : Option Value) (m : Memory) (s : State) →
    Known start leads env → after_effect env id (value_effect r m) ≡ Some s → Known start (set_lead leads id None) s.env
known_nowhere start leads id env None m s k e = absurd cc
known_nowhere start leads id env (Some v) m s k e =
    subst (λ (u : State). Known start (set_lead leads id None) u.env) (some e) (known-set start leads env id None v k tt)
  where
    some : Some (record { env = with_value env id v; memory = m }) ≡ Some s → record { env = with_value env id v; memory = m } ≡ s
    some e = cc

-- a store changes no value
pub known_store : (start : Env) (leads : Leads) (id : Id) (env : Env) (align : ℕ) (bytes : Option (List Lane)) (p : Pointer) (m : Memory) (s : State) →
    Known start leads env → after_effect env id (store_effect align bytes p m) ≡ Some s → Known start leads s.env
known_store start leads id env align None p m s k e = absurd cc
known_store start leads id env align (Some bytes) p m s k e = by_memory (stored align bytes p m) e
  where
    by_memory : (after : Option Memory) → after_effect env id (memory_effect after) ≡ Some s → Known start leads s.env
    by_memory None e = absurd cc
    by_memory (Some n) e = let same : record { env = env; memory = n } ≡ s = cc in subst (λ (u : State). Known start leads u.env) same k

-- a form of a width leads nowhere
known_narrow : (start : Env) (leads : Leads) (id : Id) (env : Env) (b : Bool) (r : Option Value) (m : Memory) (s : State) →
    Known start leads env → after_effect env id (cond b (value_effect r m) None) ≡ Some s → Known start (set_lead leads id None) s.env
known_narrow start leads id env true r m s k e = known_nowhere start leads id env r m s k e
known_narrow start leads id env false r m s k e = absurd cc

plain_load : (align : ℕ) (ty : Ty) (p : Opd) → is_int 32 ty ≡ true → Plain (Load align) ty (p ∷ [])
plain_load align (Int w) p h = record {
  quiet = λ h types vs m. absurd (true_of (sym h));
  goes_on = refl;
  no_phi = refl;
  untyped = λ t u env m. refl;
  known = λ t start leads id env m s k e.
      known_narrow start leads id env (nat_le w 64)
      (option_map (λ bytes. LaneValue (lane_from (bytes_in w) bytes)) (loaded (bytes_in w) align (pointer_of (value_of env p)) m)) m s k e;
}
plain_load align Void p h = absurd cc
plain_load align Ptr p h = absurd cc
plain_load align (Row n w) p h = absurd cc

plain_add : (flags : Flags) (ty : Ty) (a b : Opd) → is_int 32 ty ≡ true → Plain (Bin Add flags) ty (a ∷ b ∷ [])
plain_add flags (Int w) a b h = record {
  quiet = λ h types vs m. refl;
  goes_on = refl;
  no_phi = refl;
  untyped = λ t u env m. refl;
  known = λ t start leads id env m s k e. known_nowhere start leads id env _ m s k e;
}
plain_add flags Void a b h = absurd cc
plain_add flags Ptr a b h = absurd cc
plain_add flags (Row n w) a b h = absurd cc

plain_store : (align : ℕ) (ty : Ty) (v p : Opd) → Plain (Store align) ty (v ∷ p ∷ [])
plain_store align ty v p = record {
  quiet = λ h types vs m. absurd (true_of (sym h));
  goes_on = refl;
  no_phi = refl;
  untyped = λ t u env m. refl;
  known = λ t start leads id env m s k e. known_store start leads id env align (bytes_of ty (value_of env v)) (pointer_of (value_of env p)) m s k e;
}

-- a pointer some bytes further, of bytes and with an index of 64 bits
plain_step : (elem : Elem) (inbounds : Bool) (ty : Ty) (p : Id) (l : Literal) →
    is_ptr ty ≡ true → is_byte elem ≡ true → not inbounds ≡ true → is_int 64 l.ty ≡ true → is_number l.lanes ≡ true →
    Plain (Gep elem inbounds) ty (Val p ∷ Lit l ∷ [])
plain_step elem inbounds ty p l of_ptr of_bytes plainly of_64 number = by_shape elem inbounds ty l.ty l.lanes of_ptr of_bytes plainly of_64 number
  where
    by_shape : (elem : Elem) (inbounds : Bool) (ty index : Ty) (lanes : List Lane) →
        is_ptr ty ≡ true → is_byte elem ≡ true → not inbounds ≡ true → is_int 64 index ≡ true → is_number lanes ≡ true →
        Plain (Gep elem inbounds) ty (Val p ∷ Lit (record { ty = index; lanes = lanes }) ∷ [])
    by_shape (One (Int e)) false Ptr (Int w) (Some c ∷ []) a b d f g =
        subst (λ (n : ℕ). Plain (Gep (One (Int n)) false) Ptr (Val p ∷ Lit (record { ty = Int w; lanes = Some c ∷ [] }) ∷ [])) (sym e8)
        (subst (λ (n : ℕ). Plain (Gep (One (Int 8)) false) Ptr (Val p ∷ Lit (record { ty = Int n; lanes = Some c ∷ [] }) ∷ [])) (sym w64)
        (record {
          quiet = λ h types vs m. refl;
          goes_on = refl;
          no_phi = refl;
          untyped = λ t u env m. refl;
          known = λ t start leads id env m s k e.
              subst (λ (u : State). Known start (set_lead leads id (lead_on (leads p) (Some c ∷ []))) u.env) (some env id m s c e)
              (known-set start leads env id (lead_on (leads p) (Some c ∷ [])) (PtrValue (stepped 64 1 (pointer_of (env p)) (Some c))) k
              (lead_on-holds start (leads p) (env p) c (k.at p)));
        }))
      where
        e8 : e ≡ 8
        e8 = grind (arith, nat_tests)

        w64 : w ≡ 64
        w64 = grind (arith, nat_tests)

        some : (env : Env) (id : Id) (m : Memory) (s : State) (c : ℕ) →
            Some (record { env = with_value env id (PtrValue (stepped 64 1 (pointer_of (env p)) (Some c))); memory = m }) ≡ Some s →
            record { env = with_value env id (PtrValue (stepped 64 1 (pointer_of (env p)) (Some c))); memory = m } ≡ s
        some env id m s c e = cc
    by_shape (One (Int e)) false Ptr (Int w) [] a b d f g = absurd cc
    by_shape (One (Int e)) false Ptr (Int w) (None ∷ lanes) a b d f g = absurd cc
    by_shape (One (Int e)) false Ptr (Int w) (Some c ∷ x ∷ lanes) a b d f g = absurd cc
    by_shape (One (Int e)) false Ptr _ lanes a b d f g = absurd cc
    by_shape (One (Int e)) false _ index lanes a b d f g = absurd cc
    by_shape (One (Int e)) true ty index lanes a b d f g = absurd cc
    by_shape (One _) inbounds ty index lanes a b d f g = absurd cc
    by_shape (Array n w) inbounds ty index lanes a b d f g = absurd cc

plain_gep : (elem : Elem) (inbounds : Bool) (ty : Ty) (p c : Opd) →
    is_ptr ty && is_byte elem && not inbounds && is_local p && is_literal 64 c ≡ true → Plain (Gep elem inbounds) ty (p ∷ c ∷ [])
plain_gep elem inbounds ty (Val p) (Lit l) h =
    let a = both_true (is_ptr ty && is_byte elem && not inbounds && true) (is_int 64 l.ty && is_number l.lanes) h in
    let b = both_true (is_ptr ty && is_byte elem && not inbounds) true a.0 in
    let d = both_true (is_ptr ty && is_byte elem) (not inbounds) b.0 in
    let e = both_true (is_ptr ty) (is_byte elem) d.0 in
    let f = both_true (is_int 64 l.ty) (is_number l.lanes) a.1 in
    plain_step elem inbounds ty p l e.0 e.1 d.1 f.0 f.1
plain_gep elem inbounds ty (Val p) (Val q) h = absurd (true_of (both_true (is_ptr ty && is_byte elem && not inbounds && true) false h).1)
plain_gep elem inbounds ty (Val p) (Sym g) h = absurd (true_of (both_true (is_ptr ty && is_byte elem && not inbounds && true) false h).1)
plain_gep elem inbounds ty (Lit l) c h = absurd (true_of (both_true (is_ptr ty && is_byte elem && not inbounds) false (both_true (is_ptr ty && is_byte elem && not inbounds && false) (is_literal 64 c) h).0).1)
plain_gep elem inbounds ty (Sym g) c h = absurd (true_of (both_true (is_ptr ty && is_byte elem && not inbounds) false (both_true (is_ptr ty && is_byte elem && not inbounds && false) (is_literal 64 c) h).0).1)

pub plain : (op : Op) (ty : Ty) (opds : List Opd) → is_statement_of op ty opds ≡ true → Plain op ty opds
plain (Load align) ty (p ∷ []) h = plain_load align ty p (both_true (is_int 32 ty) (is_local p) h).0
plain (Bin Add flags) ty (a ∷ b ∷ []) h =
    let f = both_true (is_int 32 ty && is_plain flags && is_operand a) (is_operand b) h in
    let g = both_true (is_int 32 ty && is_plain flags) (is_operand a) f.0 in
    plain_add flags ty a b (both_true (is_int 32 ty) (is_plain flags) g.0).0
plain (Gep elem inbounds) ty (p ∷ c ∷ []) h = plain_gep elem inbounds ty p c h
plain (Store align) ty (v ∷ p ∷ []) h = plain_store align ty v p
plain op ty opds h = absurd (true_of h)

-- ---- stores of literals

pub record IsLed (leads : Leads) (op : Op) (ty : Ty) (opds : List Opd) (a : LedStore) : Type 0 where
  pub effect : (t : Id → Ty) (env : Env) (m : Memory) →
      effect_in t op ty opds env m ≡ memory_effect (stored a.align (lane_bytes 4 a.lane) (pointer_of (env a.pointer)) m)
  pub lead : leads a.pointer ≡ Some (a.base, a.constant)

led_literal : (leads : Leads) (align w : ℕ) (ty : Ty) (lanes : List Lane) (p : Id) (to : Lead) (a : LedStore) →
    w ≡ 32 → is_int 32 ty ≡ true → leads p ≡ to → led_store align lanes p to ≡ Some a →
    IsLed leads (Store align) (Int w) (Lit (record { ty = ty; lanes = lanes }) ∷ Val p ∷ []) a
led_literal leads align w (Int v) (lane ∷ []) p (Some to) a w32 h is e =
    subst (λ (n : ℕ). IsLed leads (Store align) (Int n) (Lit (record { ty = Int v; lanes = lane ∷ [] }) ∷ Val p ∷ []) a) (sym w32)
    (subst (λ (b : LedStore). IsLed leads (Store align) (Int 32) (Lit (record { ty = Int v; lanes = lane ∷ [] }) ∷ Val p ∷ []) b) (same e)
    (record { effect = λ t env m. refl; lead = is }))
  where
    same : led_store align (lane ∷ []) p (Some to) ≡ Some a → record { lane = lane; pointer = p; align = align; base = to.0; constant = to.1 } ≡ a
    same e = cc
led_literal leads align w (Int v) (lane ∷ []) p None a w32 h is e = absurd cc
led_literal leads align w (Int v) [] p to a w32 h is e = absurd cc
led_literal leads align w (Int v) (lane ∷ x ∷ lanes) p to a w32 h is e = absurd cc
led_literal leads align w Void lanes p to a w32 h is e = absurd cc
led_literal leads align w Ptr lanes p to a w32 h is e = absurd cc
led_literal leads align w (Row n v) lanes p to a w32 h is e = absurd cc

none_of : (a : LedStore) → None ≡ Some a → ⊥
none_of a e = cc

pub led-is : (leads : Leads) (op : Op) (ty : Ty) (opds : List Opd) (a : LedStore) →
    is_statement_of op ty opds ≡ true → led_store_by leads op ty opds ≡ Some a → IsLed leads op ty opds a
led-is leads (Store align) (Int w) (Lit l ∷ Val p ∷ []) a h e =
    let f = both_true (nat_eq w 32 && (is_int 32 l.ty && is_number l.lanes)) true h in
    let g = both_true (nat_eq w 32) (is_int 32 l.ty && is_number l.lanes) f.0 in
    let w32 : w ≡ 32 = wide g.0 in
    led_literal leads align w l.ty l.lanes p (leads p) a w32 (both_true (is_int 32 l.ty) (is_number l.lanes) g.1).0 refl e
  where
    wide : nat_eq w 32 ≡ true → w ≡ 32
    wide e = grind (arith, nat_tests)
led-is leads op ty opds a h e = absurd (none_of a e)

-- The shape of straight code with its first pair joined: one store is gone, and a later one is the store of both literals.
use Rattle.std.proofs.Common.{◌≡◌, refl, sym, ap, ◌∙◌, subst, ℕ, ℤ, pos, ◌+ℤ◌, Bool, true, false, ◌&&◌, Option, None, Some, List, [], ◌∷◌, ◌⊎◌, inl, inr, cond, nat_eq, option_map, option_and_then, int_eq, arith}
use Rattle.std.specs.Option.{option_or}
use Rattle.std.proofs.lemmas.Bool.Decides.{nat_tests}
use Rattle.ir_types.specs.declared.id.Id.{Id}
use Rattle.ir_types.specs.declared.ty.Ty.{Ty}
use Rattle.ir_types.specs.declared.ty.Ty.TheVariants.{Void, Int, Ptr, Row}
use Rattle.ir_types.specs.declared.literal.Literal.{Literal}
use Rattle.ir_types.specs.declared.opd.Opd.{Opd}
use Rattle.ir_types.specs.declared.opd.Opd.TheVariants.{Val, Lit, Sym}
use Rattle.ir_types.specs.declared.op.Op.{Op}
use Rattle.ir_types.specs.declared.op.Op.TheVariants.{Store}
use Rattle.ir_types.specs.declared.inst.Inst.{Inst}
use Rattle.ir_types.proofs.Formed.{Every}
use Rattle.ir_model.specs.Values.{Lane, same_id}
use Rattle.vx_serial.specs.declared.pairing.scan.LedStore.{LedStore}
use Rattle.vx_serial.specs.Pair.{is_int, is_number, is_statement_of, is_straight, is_memory, Lead, Leads, leads_after, led_store, led_store_by, led_store_of, both_stored, joined_by_distance, is_lead, joined, joined_to, paired_with, paired}
use Rattle.rf_pack.proofs.Statements.{both_true, true_of}
use Rattle.rf_pack.proofs.Straight.{StraightFrom, Last, More, straight_from, return-is}

-- ---- stores of one literal of 32 bits

pub record IsLitOf (op : Op) (ty : Ty) (opds : List Opd) (a : LedStore) : Type 0 where
  pub stores : op ≡ Store a.align
  pub stored : ty ≡ Int 32
  pub literal : Literal
  pub wide : literal.ty ≡ Int 32
  pub lanes : literal.lanes ≡ a.lane ∷ []
  pub opds_are : opds ≡ Lit literal ∷ Val a.pointer ∷ []

abbrev pub IsLitStore : Inst → LedStore → Type 0
IsLitStore i a = IsLitOf i.op i.ty i.opds a

lit_literal : (align w v : ℕ) (lanes : List Lane) (p : Id) (to : Lead) (a : LedStore) → w ≡ 32 → v ≡ 32 → led_store align lanes p to ≡ Some a →
    IsLitOf (Store align) (Int w) (Lit (record { ty = Int v; lanes = lanes }) ∷ Val p ∷ []) a
lit_literal align w v (lane ∷ []) p (Some to) a w32 v32 e =
    subst (λ (b : LedStore). IsLitOf (Store align) (Int w) (Lit (record { ty = Int v; lanes = lane ∷ [] }) ∷ Val p ∷ []) b) (same e)
    (record { stores = refl; stored = ap Int w32; literal = record { ty = Int v; lanes = lane ∷ [] }; wide = ap Int v32; lanes = refl; opds_are = refl })
  where
    same : led_store align (lane ∷ []) p (Some to) ≡ Some a → record { lane = lane; pointer = p; align = align; base = to.0; constant = to.1 } ≡ a
    same e = cc
lit_literal align w v (lane ∷ []) p None a w32 v32 e = absurd cc
lit_literal align w v [] p to a w32 v32 e = absurd cc
lit_literal align w v (lane ∷ x ∷ lanes) p to a w32 v32 e = absurd cc

none_of : (a : LedStore) → None ≡ Some a → ⊥
none_of a e = cc

wide : (w : ℕ) → nat_eq w 32 ≡ true → w ≡ 32
wide w e = grind (arith, nat_tests)

lit_typed : (align w : ℕ) (ty : Ty) (lanes : List Lane) (p : Id) (to : Lead) (a : LedStore) → w ≡ 32 → is_int 32 ty ≡ true → led_store align lanes p to ≡ Some a →
    IsLitOf (Store align) (Int w) (Lit (record { ty = ty; lanes = lanes }) ∷ Val p ∷ []) a
lit_typed align w (Int v) lanes p to a w32 h e = lit_literal align w v lanes p to a w32 (wide v h) e
lit_typed align w Void lanes p to a w32 h e = absurd cc
lit_typed align w Ptr lanes p to a w32 h e = absurd cc
lit_typed align w (Row n v) lanes p to a w32 h e = absurd cc

lit_of : (leads : Leads) (op : Op) (ty : Ty) (opds : List Opd) (a : LedStore) → is_statement_of op ty opds ≡ true → led_store_by leads op ty opds ≡ Some a → IsLitOf op ty opds a
lit_of leads (Store align) (Int w) (Lit l ∷ Val p ∷ []) a h e =
    let f = both_true (nat_eq w 32 && (is_int 32 l.ty && is_number l.lanes)) true h in
    let g = both_true (nat_eq w 32) (is_int 32 l.ty && is_number l.lanes) f.0 in
    lit_typed align w l.ty l.lanes p (leads p) a (wide w g.0) (both_true (is_int 32 l.ty) (is_number l.lanes) g.1).0 e
lit_of leads op ty opds a h e = absurd (none_of a e)

-- ---- the shape

-- the instructions after the store that goes
pub data After (a : LedStore) : List Inst → List Inst → Type 0 where
  Here : (j : Inst) (b : LedStore) (both : Inst) (js : List Inst) → IsLitStore j b → (both ≡ both_stored j a b) ⊎ (both ≡ both_stored j b a) → After a (j ∷ js) (both ∷ js)
  Later : (j : Inst) (js new : List Inst) → After a js new → After a (j ∷ js) (j ∷ new)

pub data Joined : List Inst → List Inst → Type 0 where
  First : (i : Inst) (a : LedStore) (is new : List Inst) → IsLitStore i a → After a is new → Joined (i ∷ is) new
  Next : (i : Inst) (is new : List Inst) → Joined is new → Joined (i ∷ is) (i ∷ new)

none_some : (new : List Inst) → None ≡ Some new → ⊥
none_some new e = cc

some_is : (old new : List Inst) → Some old ≡ Some new → old ≡ new
some_is old new e = cc

after_of : (is : List Inst) (leads : Leads) (a : LedStore) (new : List Inst) → is_straight is ≡ true → paired_with leads a is ≡ Some new → After a is new
after_of [] leads a new h e = absurd (true_of h)
after_of (j ∷ js) leads a new h e = by_first (straight_from j js h) (λ r rest found. after_of js (leads_after leads j) a rest r found)
  where
    by_order : (b : LedStore) → IsLitStore j b → (x y : Bool) → option_map (λ both. both ∷ js) (cond x (Some (both_stored j a b)) (cond y (Some (both_stored j b a)) None)) ≡ Some new → After a (j ∷ js) new
    by_order b l true y e = subst (After a (j ∷ js)) (some_is (both_stored j a b ∷ js) new e) (Here j b (both_stored j a b) js l (inl refl))
    by_order b l false true e = subst (After a (j ∷ js)) (some_is (both_stored j b a ∷ js) new e) (Here j b (both_stored j b a) js l (inr refl))
    by_order b l false false e = absurd (none_some new e)

    by_test : (b : LedStore) → IsLitStore j b → (x : Bool) → option_map (λ both. both ∷ js) (cond x (joined_by_distance j a b) None) ≡ Some new → After a (j ∷ js) new
    by_test b l true e = by_order b l (int_eq b.constant (a.constant +ℤ pos 4)) (int_eq a.constant (b.constant +ℤ pos 4)) e
    by_test b l false e = absurd (none_some new e)

    by_led : is_statement_of j.op j.ty j.opds ≡ true → (o : Option LedStore) → led_store_of leads j ≡ o → option_map (λ both. both ∷ js) (option_and_then (joined leads j a) o) ≡ Some new → After a (j ∷ js) new
    by_led p None led e = absurd (none_some new e)
    by_led p (Some b) led e = by_test b (lit_of leads j.op j.ty j.opds b p led) (is_lead (leads a.pointer) a.base a.constant && same_id a.base b.base) e

    by_rest : (o : Option (List Inst)) → paired_with (leads_after leads j) a js ≡ o → option_map (λ rest. j ∷ rest) o ≡ Some new →
        ((rest : List Inst) → paired_with (leads_after leads j) a js ≡ Some rest → After a js rest) → After a (j ∷ js) new
    by_rest None found e more = absurd (none_some new e)
    by_rest (Some rest) found e more = subst (After a (j ∷ js)) (some_is (j ∷ rest) new e) (Later j js rest (more rest found))

    by_kind : is_statement_of j.op j.ty j.opds ≡ true → (b : Bool) → cond b (option_map (λ both. both ∷ js) (joined_to leads a j)) (option_map (λ rest. j ∷ rest) (paired_with (leads_after leads j) a js)) ≡ Some new →
        ((rest : List Inst) → paired_with (leads_after leads j) a js ≡ Some rest → After a js rest) → After a (j ∷ js) new
    by_kind p true e more = by_led p (led_store_of leads j) refl e
    by_kind p false e more = by_rest (paired_with (leads_after leads j) a js) refl e more

    last_none : (is' : List Inst) (b : Bool) → js ≡ [] → is_memory j.op ≡ b → b ≡ false → paired_with leads a (j ∷ js) ≡ Some new → ⊥
    last_none is' b nil mem false' e =
        none_some new (sym (ap (λ c. cond c (option_map (λ both. both ∷ js) (joined_to leads a j)) (option_map (λ rest. j ∷ rest) (paired_with (leads_after leads j) a js))) (mem ∙ false')
        ∙ ap (λ ks. option_map (λ rest. j ∷ rest) (paired_with (leads_after leads j) a ks)) nil) ∙ e)

    by_first : StraightFrom j js → (is_straight js ≡ true → (rest : List Inst) → paired_with (leads_after leads j) a js ≡ Some rest → After a js rest) → After a (j ∷ js) new
    by_first (Last r nil) more = absurd (last_none js (is_memory j.op) nil refl (return-is j.op j.opds r).no_memory e)
    by_first (More p r) more = by_kind p (is_memory j.op) e (more r)

pub joined_of : (is : List Inst) (leads : Leads) (new : List Inst) → is_straight is ≡ true → paired leads is ≡ Some new → Joined is new
joined_of [] leads new h e = absurd (true_of h)
joined_of (i ∷ is) leads new h e = by_first (straight_from i is h) (λ r rest found. joined_of is (leads_after leads i) rest r found)
  where
    by_rest : (o : Option (List Inst)) → paired (leads_after leads i) is ≡ o → option_map (λ rest. i ∷ rest) o ≡ Some new →
        ((rest : List Inst) → paired (leads_after leads i) is ≡ Some rest → Joined is rest) → Joined (i ∷ is) new
    by_rest None found e more = absurd (none_some new e)
    by_rest (Some rest) found e more = subst (Joined (i ∷ is)) (some_is (i ∷ rest) new e) (Next i is rest (more rest found))

    or_rest : (a : LedStore) → IsLitStore i a → is_straight is ≡ true → (o : Option (List Inst)) → paired_with leads a is ≡ o →
        option_or o (option_map (λ rest. i ∷ rest) (paired (leads_after leads i) is)) ≡ Some new →
        ((rest : List Inst) → paired (leads_after leads i) is ≡ Some rest → Joined is rest) → Joined (i ∷ is) new
    or_rest a l r None found e more = by_rest (paired (leads_after leads i) is) refl e more
    or_rest a l r (Some n) found e more = First i a is new l (after_of is leads a new r (found ∙ e))

    by_store : is_statement_of i.op i.ty i.opds ≡ true → is_straight is ≡ true → (o : Option LedStore) → led_store_of leads i ≡ o →
        option_or (option_and_then (λ a. paired_with leads a is) o) (option_map (λ rest. i ∷ rest) (paired (leads_after leads i) is)) ≡ Some new →
        ((rest : List Inst) → paired (leads_after leads i) is ≡ Some rest → Joined is rest) → Joined (i ∷ is) new
    by_store p r None led e more = by_rest (paired (leads_after leads i) is) refl e more
    by_store p r (Some a) led e more = or_rest a (lit_of leads i.op i.ty i.opds a p led) r (paired_with leads a is) refl e more

    -- a return pairs with nothing
    last_none : (o : Option LedStore) → is ≡ [] → led_store_of leads i ≡ o →
        option_or (option_and_then (λ a. paired_with leads a is) o) (option_map (λ rest. i ∷ rest) (paired (leads_after leads i) is)) ≡ Some new → ⊥
    last_none None nil led e = none_some new (sym (ap (λ ks. option_map (λ rest. i ∷ rest) (paired (leads_after leads i) ks)) nil) ∙ e)
    last_none (Some a) nil led e =
        none_some new (sym (ap (λ ks. option_or (paired_with leads a ks) (option_map (λ rest. i ∷ rest) (paired (leads_after leads i) ks))) nil) ∙ e)

    by_first : StraightFrom i is → (is_straight is ≡ true → (rest : List Inst) → paired (leads_after leads i) is ≡ Some rest → Joined is rest) → Joined (i ∷ is) new
    by_first (Last r nil) more = absurd (last_none (led_store_of leads i) nil refl e)
    by_first (More p r) more = by_store p r (led_store_of leads i) refl e (more r)

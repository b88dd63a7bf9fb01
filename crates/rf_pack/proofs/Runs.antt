-- Straight code with its first pair of stores joined ends as before, or the old one was undefined.
use Rattle.std.proofs.Common.{◌≡◌, refl, sym, ap, ◌∙◌, subst, ℕ, ℤ, pos, ◌+ℤ◌, Bool, true, false, ◌&&◌, Option, None, Some, List, [], ◌∷◌, ◌⊎◌, inl, inr, ⊎_elim, map, cond, nat_eq, option_map, option_and_then, int_eq, arith}
use Rattle.std.specs.Option.{option_or}
use Rattle.std.proofs.lemmas.Bool.Decides.{nat_tests, Decides-int_eq}
use Rattle.ir_types.specs.declared.id.Id.{Id}
use Rattle.ir_types.specs.declared.ty.Ty.{Ty}
use Rattle.ir_types.specs.declared.inst.Inst.{Inst}
use Rattle.ir_model.specs.declared.value.Value.{Value}
use Rattle.ir_model.specs.Values.{Lane, Env, pointer_of, moved, same_id, with_value, value_of, type_of}
use Rattle.ir_model.specs.Memory.{Memory, lane_bytes, row_bytes, stored}
use Rattle.ir_model.specs.Accesses.{memory_effect, value_effect}
use Rattle.ir_model.specs.Step.{State, result_of}
use Rattle.ir_model.specs.Run.{Ended, Stops, is_terminator}
use Rattle.ir_model.specs.CallFree.{after_effect, step_of, then_ends, run_insts}
use Rattle.vx_serial.specs.declared.pairing.scan.LedStore.{LedStore}
use Rattle.vx_serial.specs.Pair.{is_statement_of, is_straight, is_memory, Lead, Leads, leads_after, led_store_of, both_stored, joined_by_distance, is_lead, joined, joined_to, paired_with, paired}
use Rattle.rf_pack.proofs.Known.{LeadHolds, Known}
use Rattle.rf_pack.proofs.Statements.{effect_in, both_true, true_of, Plain, IsLed, led-is}
use Rattle.rf_pack.proofs.Mates.{lower_first, lower_second}
use Rattle.rf_pack.proofs.Straight.{StraightFrom, Last, More, straight_from, plain_of, return-is, run_statement, HasNoPhi, straight_no_phi}

-- the old end is in undefined behaviour, or both are the same
abbrev pub EndsBetter : Ended → Ended → Type 0
EndsBetter new old = (old ≡ Stops) ⊎ (new ≡ old)

abbrev pub at : Env → Memory → State
at env m = record { env = env; memory = m }

-- ---- what tests say

same_id-is : (x y : Id) → same_id x y ≡ true → x ≡ y
same_id-is x y h = λ i. record { region = region i; k = k i }
  where
    region : x.region ≡ y.region
    region = let e = both_true (nat_eq x.region y.region) (nat_eq x.k y.k) h in let f = e.0 in grind (arith, nat_tests)

    k : x.k ≡ y.k
    k = let e = both_true (nat_eq x.region y.region) (nat_eq x.k y.k) h in let f = e.1 in grind (arith, nat_tests)

int_eq-is : (x y : ℤ) → int_eq x y ≡ true → x ≡ y
int_eq-is x y h = (Decides-int_eq x y).0 h

pub is_lead-is : (lead : Lead) (base : Id) (constant : ℤ) → is_lead lead base constant ≡ true → lead ≡ Some (base, constant)
is_lead-is None base constant h = absurd (true_of h)
is_lead-is (Some to) base constant h =
    let e = both_true (same_id to.0 base) (int_eq to.1 constant) h in
    λ i. Some (same_id-is to.0 base e.0 i, int_eq-is to.1 constant e.1 i)

-- ---- where a pointer is

led_place : (start : Env) (leads : Leads) (env : Env) (p base : Id) (constant : ℤ) → Known start leads env →
    leads p ≡ Some (base, constant) → pointer_of (env p) ≡ moved (pointer_of (start base)) constant
led_place start leads env p base constant k e = subst (λ lead. LeadHolds start lead (env p)) e (k.at p)

-- a store steps to its memory
run_store : (t : Id → Ty) (j : Inst) (js : List Inst) (env : Env) (m : Memory) (x : Option Memory) →
    is_terminator j.op ≡ false → effect_in t j.op j.ty j.opds env m ≡ memory_effect x →
    run_insts t (j ∷ js) (at env m) ≡ then_ends (after_effect env j.id (memory_effect x)) (run_insts t js)
run_store t j js env m x goes e =
    run_statement t j js (at env m) goes ∙ ap (λ y. then_ends (after_effect env j.id y) (run_insts t js)) e

-- ---- the pair

-- the later store of a pair, joined with the earlier one
joined_better : (t : Id → Ty) (start : Env) (j : Inst) (js : List Inst) (leads : Leads) (a : LedStore) (both : Inst) (env : Env) (m m1 : Memory) →
    Known start leads env → is_statement_of j.op j.ty j.opds ≡ true →
    stored a.align (lane_bytes 4 a.lane) (moved (pointer_of (start a.base)) a.constant) m ≡ Some m1 →
    joined_to leads a j ≡ Some both →
    EndsBetter (run_insts t (both ∷ js) (at env m)) (run_insts t (j ∷ js) (at env m1))
joined_better t start j js leads a both env m m1 k h first e = by_led (led_store_of leads j) refl e
  where
    -- the row stands for both stores, so both runs go on alike
    goes_on : (align : ℕ) (lanes : List Lane) (p : Id) (m2 : Memory) (old : Ended) →
        stored align (row_bytes 4 lanes) (pointer_of (env p)) m ≡ Some m2 → old ≡ run_insts t js (at env m2) →
        (then_ends (after_effect env j.id (memory_effect (stored align (row_bytes 4 lanes) (pointer_of (env p)) m))) (run_insts t js)) ≡ old
    goes_on align lanes p m2 old e o = ap (λ x. then_ends (after_effect env j.id (memory_effect x)) (run_insts t js)) e ∙ sym o

    by_order : (b : LedStore) (m2 : Memory) → a.base ≡ b.base → leads a.pointer ≡ Some (a.base, a.constant) → leads b.pointer ≡ Some (b.base, b.constant) →
        stored b.align (lane_bytes 4 b.lane) (moved (pointer_of (start a.base)) b.constant) m1 ≡ Some m2 →
        (old : Ended) → old ≡ run_insts t js (at env m2) →
        (x y : Bool) → int_eq b.constant (a.constant +ℤ pos 4) ≡ x → int_eq a.constant (b.constant +ℤ pos 4) ≡ y →
        cond x (Some (both_stored j a b)) (cond y (Some (both_stored j b a)) None) ≡ Some both →
        run_insts t (both ∷ js) (at env m) ≡ old
    by_order b m2 base la lb second old o true y ex ey is =
        ap (λ i. run_insts t (i ∷ js) (at env m)) (sym (some (both_stored j a b) is))
        ∙ goes_on a.align (a.lane ∷ b.lane ∷ []) a.pointer m2 old
        (ap (λ p. stored a.align (row_bytes 4 (a.lane ∷ b.lane ∷ [])) p m) (led_place start leads env a.pointer a.base a.constant k la)
        ∙ lower_first (pointer_of (start a.base)) a.constant b.constant a.align b.align a.lane b.lane m m1 m2 (int_eq-is b.constant (a.constant +ℤ pos 4) ex) first second) o
      where
        some : (i : Inst) → Some i ≡ Some both → i ≡ both
        some i e = cc
    by_order b m2 base la lb second old o false true ex ey is =
        ap (λ i. run_insts t (i ∷ js) (at env m)) (sym (some (both_stored j b a) is))
        ∙ goes_on b.align (b.lane ∷ a.lane ∷ []) b.pointer m2 old
        (ap (λ p. stored b.align (row_bytes 4 (b.lane ∷ a.lane ∷ [])) p m)
        (led_place start leads env b.pointer b.base b.constant k lb ∙ ap (λ x. moved (pointer_of (start x)) b.constant) (sym base))
        ∙ lower_second (pointer_of (start a.base)) a.constant b.constant a.align b.align a.lane b.lane m m1 m2 (int_eq-is a.constant (b.constant +ℤ pos 4) ey) first second) o
      where
        some : (i : Inst) → Some i ≡ Some both → i ≡ both
        some i e = cc
    by_order b m2 base la lb second old o false false ex ey is = absurd (none is)
      where
        none : None ≡ Some both → ⊥
        none e = cc

    by_memory : (b : LedStore) → a.base ≡ b.base → leads a.pointer ≡ Some (a.base, a.constant) → leads b.pointer ≡ Some (b.base, b.constant) →
        joined_by_distance j a b ≡ Some both → (x : Option Memory) →
        stored b.align (lane_bytes 4 b.lane) (moved (pointer_of (start a.base)) b.constant) m1 ≡ x →
        run_insts t (j ∷ js) (at env m1) ≡ then_ends (after_effect env j.id (memory_effect x)) (run_insts t js) →
        EndsBetter (run_insts t (both ∷ js) (at env m)) (run_insts t (j ∷ js) (at env m1))
    by_memory b base la lb is None second old = inl old
    by_memory b base la lb is (Some m2) second old =
        inr (by_order b m2 base la lb second (run_insts t (j ∷ js) (at env m1)) old
        (int_eq b.constant (a.constant +ℤ pos 4)) (int_eq a.constant (b.constant +ℤ pos 4)) refl refl is)

    by_tests : (b : LedStore) → led_store_of leads j ≡ Some b → (x : Bool) →
        is_lead (leads a.pointer) a.base a.constant && same_id a.base b.base ≡ x → cond x (joined_by_distance j a b) None ≡ Some both →
        EndsBetter (run_insts t (both ∷ js) (at env m)) (run_insts t (j ∷ js) (at env m1))
    by_tests b led true test is =
        let tests = both_true (is_lead (leads a.pointer) a.base a.constant) (same_id a.base b.base) test in
        let base : a.base ≡ b.base = same_id-is a.base b.base tests.1 in
        let l : IsLed leads j.op j.ty j.opds b = led-is leads j.op j.ty j.opds b h led in
        by_memory b base (is_lead-is (leads a.pointer) a.base a.constant tests.0) l.lead is
        (stored b.align (lane_bytes 4 b.lane) (moved (pointer_of (start a.base)) b.constant) m1) refl
        (run_store t j js env m1 (stored b.align (lane_bytes 4 b.lane) (moved (pointer_of (start a.base)) b.constant) m1)
        (plain_of j h).goes_on
        (l.effect t env m1
        ∙ ap (λ p. memory_effect (stored b.align (lane_bytes 4 b.lane) p m1))
        (led_place start leads env b.pointer b.base b.constant k l.lead ∙ ap (λ x. moved (pointer_of (start x)) b.constant) (sym base))))
    by_tests b led false test is = absurd (none is)
      where
        none : None ≡ Some both → ⊥
        none e = cc

    by_led : (led : Option LedStore) → led_store_of leads j ≡ led → option_and_then (joined leads j a) led ≡ Some both →
        EndsBetter (run_insts t (both ∷ js) (at env m)) (run_insts t (j ∷ js) (at env m1))
    by_led None led is = absurd (none is)
      where
        none : None ≡ Some both → ⊥
        none e = cc
    by_led (Some b) led is = by_tests b led (is_lead (leads a.pointer) a.base a.constant && same_id a.base b.base) refl is

-- ---- straight code

-- what does not touch memory steps alike in two memories
quiet_step : (t : Id → Ty) (j : Inst) (env : Env) (m : Memory) → Plain j.op j.ty j.opds → is_memory j.op ≡ false →
    step_of t j (at env m) ≡ after_effect env j.id (value_effect (result_of j.op j.ty (map (type_of t) j.opds) (map (value_of env) j.opds)) m)
quiet_step t j env m p e = ap (after_effect env j.id) (p.quiet e (map (type_of t) j.opds) (map (value_of env) j.opds) m)

-- a store that has run, and then the code after it, against that code with the pair joined
pub paired_with_better : (t : Id → Ty) (start : Env) (is : List Inst) (leads : Leads) (a : LedStore) (new : List Inst) (env : Env) (m m1 : Memory) →
    is_straight is ≡ true → paired_with leads a is ≡ Some new → Known start leads env →
    stored a.align (lane_bytes 4 a.lane) (moved (pointer_of (start a.base)) a.constant) m ≡ Some m1 →
    EndsBetter (run_insts t new (at env m)) (run_insts t is (at env m1))
paired_with_better t start [] leads a new env m m1 h e k first = absurd (true_of h)
paired_with_better t start (j ∷ js) leads a new env m m1 h e k first =
    by_first (straight_from j js h) (λ r rest env e k. paired_with_better t start js (leads_after leads j) a rest env m m1 r e k first)
  where
    none : None ≡ Some new → ⊥
    none e = cc

    with_return : is_memory j.op ≡ false → js ≡ [] → EndsBetter (run_insts t new (at env m)) (run_insts t (j ∷ js) (at env m1))
    with_return quietly nil =
        absurd (none (
        ap (λ b. cond b (option_map (λ both. both ∷ []) (joined_to leads a j)) None) (sym quietly)
        ∙ ap (λ is. paired_with leads a (j ∷ is)) (sym nil) ∙ e))

    some : (both : Inst) → Some (both ∷ js) ≡ Some new → both ∷ js ≡ new
    some both e = cc

    with_memory : is_statement_of j.op j.ty j.opds ≡ true → (o : Option Inst) → joined_to leads a j ≡ o → option_map (λ both. both ∷ js) o ≡ Some new →
        EndsBetter (run_insts t new (at env m)) (run_insts t (j ∷ js) (at env m1))
    with_memory p None is e = absurd (none e)
    with_memory p (Some both) is e =
        subst (λ n. EndsBetter (run_insts t n (at env m)) (run_insts t (j ∷ js) (at env m1))) (some both e)
        (joined_better t start j js leads a both env m m1 k p first is)

    some_rest : (rest : List Inst) → Some (j ∷ rest) ≡ Some new → j ∷ rest ≡ new
    some_rest rest e = cc

    by_result : (rest : List Inst) → Plain j.op j.ty j.opds → is_memory j.op ≡ false →
        ((env : Env) → Known start (leads_after leads j) env → EndsBetter (run_insts t rest (at env m)) (run_insts t js (at env m1))) →
        (r : Option Value) → result_of j.op j.ty (map (type_of t) j.opds) (map (value_of env) j.opds) ≡ r →
        EndsBetter (run_insts t (j ∷ rest) (at env m)) (run_insts t (j ∷ js) (at env m1))
    by_result rest p quietly more None is =
        inl (run_statement t j js (at env m1) p.goes_on
        ∙ ap (λ o. then_ends o (run_insts t js)) (quiet_step t j env m1 p quietly ∙ ap (λ r. after_effect env j.id (value_effect r m1)) is))
    by_result rest p quietly more (Some v) is =
        ⊎_elim (λ stops. inl (old ∙ stops)) (λ same. inr (new_run ∙ same ∙ sym old)) (more (with_value env j.id v) known)
      where
        stepped_to : (n : Memory) → step_of t j (at env n) ≡ Some (at (with_value env j.id v) n)
        stepped_to n = quiet_step t j env n p quietly ∙ ap (λ r. after_effect env j.id (value_effect r n)) is

        old : run_insts t (j ∷ js) (at env m1) ≡ run_insts t js (at (with_value env j.id v) m1)
        old = run_statement t j js (at env m1) p.goes_on ∙ ap (λ o. then_ends o (run_insts t js)) (stepped_to m1)

        new_run : run_insts t (j ∷ rest) (at env m) ≡ run_insts t rest (at (with_value env j.id v) m)
        new_run = run_statement t j rest (at env m) p.goes_on ∙ ap (λ o. then_ends o (run_insts t rest)) (stepped_to m)

        known : Known start (leads_after leads j) (with_value env j.id v)
        known = p.known t start leads j.id env m (at (with_value env j.id v) m) k (stepped_to m)

    with_rest : is_statement_of j.op j.ty j.opds ≡ true → is_memory j.op ≡ false → (o : Option (List Inst)) → paired_with (leads_after leads j) a js ≡ o →
        option_map (λ rest. j ∷ rest) o ≡ Some new →
        ((rest : List Inst) (env : Env) → paired_with (leads_after leads j) a js ≡ Some rest → Known start (leads_after leads j) env →
        EndsBetter (run_insts t rest (at env m)) (run_insts t js (at env m1))) →
        EndsBetter (run_insts t new (at env m)) (run_insts t (j ∷ js) (at env m1))
    with_rest p quietly None is e more = absurd (none e)
    with_rest p quietly (Some rest) is e more =
        subst (λ n. EndsBetter (run_insts t n (at env m)) (run_insts t (j ∷ js) (at env m1))) (some_rest rest e)
        (by_result rest (plain_of j p) quietly (λ env k. more rest env is k)
        (result_of j.op j.ty (map (type_of t) j.opds) (map (value_of env) j.opds)) refl)

    by_kind : is_statement_of j.op j.ty j.opds ≡ true → (b : Bool) → is_memory j.op ≡ b →
        cond b (option_map (λ both. both ∷ js) (joined_to leads a j)) (option_map (λ rest. j ∷ rest) (paired_with (leads_after leads j) a js)) ≡ Some new →
        ((rest : List Inst) (env : Env) → paired_with (leads_after leads j) a js ≡ Some rest → Known start (leads_after leads j) env →
        EndsBetter (run_insts t rest (at env m)) (run_insts t js (at env m1))) →
        EndsBetter (run_insts t new (at env m)) (run_insts t (j ∷ js) (at env m1))
    by_kind p true is e more = with_memory p (joined_to leads a j) refl e
    by_kind p false is e more = with_rest p is (paired_with (leads_after leads j) a js) refl e more

    by_first : StraightFrom j js →
        (is_straight js ≡ true → (rest : List Inst) (env : Env) → paired_with (leads_after leads j) a js ≡ Some rest → Known start (leads_after leads j) env →
        EndsBetter (run_insts t rest (at env m)) (run_insts t js (at env m1))) →
        EndsBetter (run_insts t new (at env m)) (run_insts t (j ∷ js) (at env m1))
    by_first (Last r nil) more = with_return (return-is j.op j.opds r).no_memory nil
    by_first (More p r) more = by_kind p (is_memory j.op) refl e (more r)

-- straight code with its first pair joined
pub paired_better : (t : Id → Ty) (start : Env) (is : List Inst) (leads : Leads) (new : List Inst) (env : Env) (m : Memory) →
    is_straight is ≡ true → paired leads is ≡ Some new → Known start leads env →
    EndsBetter (run_insts t new (at env m)) (run_insts t is (at env m))
paired_better t start [] leads new env m h e k = absurd (true_of h)
paired_better t start (i ∷ is) leads new env m h e k =
    by_store (led_store_of leads i) refl e
    (λ r rest env m e k. paired_better t start is (leads_after leads i) rest env m r e k)
  where
    none : None ≡ Some new → ⊥
    none e = cc

    -- the first instruction stays
    some_rest : (rest : List Inst) → Some (i ∷ rest) ≡ Some new → i ∷ rest ≡ new
    some_rest rest e = cc

    by_step : (rest : List Inst) → Plain i.op i.ty i.opds →
        ((env : Env) (m : Memory) → Known start (leads_after leads i) env → EndsBetter (run_insts t rest (at env m)) (run_insts t is (at env m))) →
        (o : Option State) → step_of t i (at env m) ≡ o →
        EndsBetter (run_insts t (i ∷ rest) (at env m)) (run_insts t (i ∷ is) (at env m))
    by_step rest p more None is_step =
        inl (run_statement t i is (at env m) p.goes_on ∙ ap (λ o. then_ends o (run_insts t is)) is_step)
    by_step rest p more (Some s) is_step =
        ⊎_elim (λ stops. inl (old ∙ stops)) (λ same. inr (new_run ∙ same ∙ sym old)) (more s.env s.memory (p.known t start leads i.id env m s k is_step))
      where
        old : run_insts t (i ∷ is) (at env m) ≡ run_insts t is s
        old = run_statement t i is (at env m) p.goes_on ∙ ap (λ o. then_ends o (run_insts t is)) is_step

        new_run : run_insts t (i ∷ rest) (at env m) ≡ run_insts t rest s
        new_run = run_statement t i rest (at env m) p.goes_on ∙ ap (λ o. then_ends o (run_insts t rest)) is_step

    with_rest : (o : Option (List Inst)) → paired (leads_after leads i) is ≡ o → option_map (λ rest. i ∷ rest) o ≡ Some new →
        (is_straight is ≡ true → (rest : List Inst) (env : Env) (m : Memory) → paired (leads_after leads i) is ≡ Some rest → Known start (leads_after leads i) env →
        EndsBetter (run_insts t rest (at env m)) (run_insts t is (at env m))) →
        EndsBetter (run_insts t new (at env m)) (run_insts t (i ∷ is) (at env m))
    with_rest None found e more = absurd (none e)
    with_rest (Some rest) found e more = by_first (straight_from i is h)
      where
        by_first : StraightFrom i is → EndsBetter (run_insts t new (at env m)) (run_insts t (i ∷ is) (at env m))
        by_first (Last r nil) = absurd (nothing (sym (ap (paired (leads_after leads i)) nil) ∙ found))
          where
            nothing : None ≡ Some rest → ⊥
            nothing e = cc
        by_first (More p r) =
            subst (λ n. EndsBetter (run_insts t n (at env m)) (run_insts t (i ∷ is) (at env m))) (some_rest rest e)
            (by_step rest (plain_of i p) (λ env m k. more r rest env m found k) (step_of t i (at env m)) refl)

    -- the first instruction is the first store of the pair
    with_store : (a : LedStore) → led_store_of leads i ≡ Some a → paired_with leads a is ≡ Some new →
        EndsBetter (run_insts t new (at env m)) (run_insts t (i ∷ is) (at env m))
    with_store a led found = by_first (straight_from i is h)
      where
        by_first : StraightFrom i is → EndsBetter (run_insts t new (at env m)) (run_insts t (i ∷ is) (at env m))
        by_first (Last r nil) = absurd (none (sym (ap (paired_with leads a) nil) ∙ found))
        by_first (More p r) = by_memory (stored a.align (lane_bytes 4 a.lane) (moved (pointer_of (start a.base)) a.constant) m) refl old
          where
            l : IsLed leads i.op i.ty i.opds a
            l = led-is leads i.op i.ty i.opds a p led

            old : run_insts t (i ∷ is) (at env m)
                ≡ then_ends (after_effect env i.id (memory_effect (stored a.align (lane_bytes 4 a.lane) (moved (pointer_of (start a.base)) a.constant) m))) (run_insts t is)
            old =
                run_store t i is env m (stored a.align (lane_bytes 4 a.lane) (moved (pointer_of (start a.base)) a.constant) m) (plain_of i p).goes_on
                (l.effect t env m ∙ ap (λ q. memory_effect (stored a.align (lane_bytes 4 a.lane) q m)) (led_place start leads env a.pointer a.base a.constant k l.lead))

            by_memory : (x : Option Memory) → stored a.align (lane_bytes 4 a.lane) (moved (pointer_of (start a.base)) a.constant) m ≡ x →
                run_insts t (i ∷ is) (at env m) ≡ then_ends (after_effect env i.id (memory_effect x)) (run_insts t is) →
                EndsBetter (run_insts t new (at env m)) (run_insts t (i ∷ is) (at env m))
            by_memory None first old = inl old
            by_memory (Some m1) first old =
                ⊎_elim (λ stops. inl (old ∙ stops)) (λ same. inr (same ∙ sym old))
                (paired_with_better t start is leads a new env m m1 r found k first)

    or_rest : (a : LedStore) → led_store_of leads i ≡ Some a → (o : Option (List Inst)) → paired_with leads a is ≡ o →
        option_or o (option_map (λ rest. i ∷ rest) (paired (leads_after leads i) is)) ≡ Some new →
        (is_straight is ≡ true → (rest : List Inst) (env : Env) (m : Memory) → paired (leads_after leads i) is ≡ Some rest → Known start (leads_after leads i) env →
        EndsBetter (run_insts t rest (at env m)) (run_insts t is (at env m))) →
        EndsBetter (run_insts t new (at env m)) (run_insts t (i ∷ is) (at env m))
    or_rest a led None found e more = with_rest (paired (leads_after leads i) is) refl e more
    or_rest a led (Some n) found e more = with_store a led (found ∙ e)

    by_store : (o : Option LedStore) → led_store_of leads i ≡ o →
        option_or (option_and_then (λ a. paired_with leads a is) o) (option_map (λ rest. i ∷ rest) (paired (leads_after leads i) is)) ≡ Some new →
        (is_straight is ≡ true → (rest : List Inst) (env : Env) (m : Memory) → paired (leads_after leads i) is ≡ Some rest → Known start (leads_after leads i) env →
        EndsBetter (run_insts t rest (at env m)) (run_insts t is (at env m))) →
        EndsBetter (run_insts t new (at env m)) (run_insts t (i ∷ is) (at env m))
    by_store None led e more = with_rest (paired (leads_after leads i) is) refl e more
    by_store (Some a) led e more = or_rest a led (paired_with leads a is) refl e more

-- ---- no phi comes in

paired_with_no_phi : (is : List Inst) (leads : Leads) (a : LedStore) (new : List Inst) → is_straight is ≡ true → paired_with leads a is ≡ Some new → HasNoPhi new
paired_with_no_phi [] leads a new h e = absurd (true_of h)
paired_with_no_phi (j ∷ js) leads a new h e = by_kind (is_memory j.op) e
  where
    none : None ≡ Some new → ⊥
    none e = cc

    some : (i : Inst) (rest : List Inst) → Some (i ∷ rest) ≡ Some new → i ∷ rest ≡ new
    some i rest e = cc

    by_order : (b : LedStore) (x y : Bool) →
        option_map (λ both. both ∷ js) (cond x (Some (both_stored j a b)) (cond y (Some (both_stored j b a)) None)) ≡ Some new → HasNoPhi new
    by_order b true y e = subst HasNoPhi (some (both_stored j a b) js e) refl
    by_order b false true e = subst HasNoPhi (some (both_stored j b a) js e) refl
    by_order b false false e = absurd (none e)

    by_test : (b : LedStore) (x : Bool) → option_map (λ both. both ∷ js) (cond x (joined_by_distance j a b) None) ≡ Some new → HasNoPhi new
    by_test b true e = by_order b (int_eq b.constant (a.constant +ℤ pos 4)) (int_eq a.constant (b.constant +ℤ pos 4)) e
    by_test b false e = absurd (none e)

    by_led : (o : Option LedStore) → option_map (λ both. both ∷ js) (option_and_then (joined leads j a) o) ≡ Some new → HasNoPhi new
    by_led None e = absurd (none e)
    by_led (Some b) e = by_test b (is_lead (leads a.pointer) a.base a.constant && same_id a.base b.base) e

    by_rest : (o : Option (List Inst)) → option_map (λ rest. j ∷ rest) o ≡ Some new → HasNoPhi new
    by_rest None e = absurd (none e)
    by_rest (Some rest) e = subst HasNoPhi (some j rest e) (straight_no_phi (j ∷ js) h)

    by_kind : (b : Bool) → cond b (option_map (λ both. both ∷ js) (joined_to leads a j)) (option_map (λ rest. j ∷ rest) (paired_with (leads_after leads j) a js)) ≡ Some new → HasNoPhi new
    by_kind true e = by_led (led_store_of leads j) e
    by_kind false e = by_rest (paired_with (leads_after leads j) a js) e

pub paired_no_phi : (is : List Inst) (leads : Leads) (new : List Inst) → is_straight is ≡ true → paired leads is ≡ Some new → HasNoPhi new
paired_no_phi [] leads new h e = absurd (true_of h)
paired_no_phi (i ∷ is) leads new h e = by_store (led_store_of leads i) e
  where
    none : None ≡ Some new → ⊥
    none e = cc

    some : (rest : List Inst) → Some (i ∷ rest) ≡ Some new → i ∷ rest ≡ new
    some rest e = cc

    by_rest : (o : Option (List Inst)) → option_map (λ rest. i ∷ rest) o ≡ Some new → HasNoPhi new
    by_rest None e = absurd (none e)
    by_rest (Some rest) e = subst HasNoPhi (some rest e) (straight_no_phi (i ∷ is) h)

    or_rest : (a : LedStore) (o : Option (List Inst)) → paired_with leads a is ≡ o →
        option_or o (option_map (λ rest. i ∷ rest) (paired (leads_after leads i) is)) ≡ Some new → HasNoPhi new
    or_rest a None found e = by_rest (paired (leads_after leads i) is) e
    or_rest a (Some n) found e = by_first (straight_from i is h)
      where
        by_first : StraightFrom i is → HasNoPhi new
        by_first (Last r nil) = absurd (none (sym (ap (paired_with leads a) nil) ∙ found ∙ e))
        by_first (More p r) = paired_with_no_phi is leads a new r (found ∙ e)

    by_store : (o : Option LedStore) → option_or (option_and_then (λ a. paired_with leads a is) o) (option_map (λ rest. i ∷ rest) (paired (leads_after leads i) is)) ≡ Some new → HasNoPhi new
    by_store None e = by_rest (paired (leads_after leads i) is) e
    by_store (Some a) e = or_rest a (paired_with leads a is) refl e

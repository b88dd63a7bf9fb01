-- The scan in one pass finds the pair of the definition.
use Rattle.std.proofs.Common.{◌≡◌, refl, sym, ap, ◌∙◌, ℕ, suc, ◌+◌, ◌-◌, ◌<◌, Bool, true, false, Option, None, Some, List, [], ◌∷◌, ◌++◌, cond, length, take, drop, option_map, option_and_then, IfSome, IfOk, Result, Ok, Err, arith, append_assoc, length-append}
use Rattle.std.proofs.Math.Seq.{take-append_seam, drop-append-add}
use Rattle.std.specs.Option.{option_or}
use Rattle.ir_types.specs.declared.ty.Ty.{Ty}
use Rattle.ir_types.specs.declared.id.Id.{Id}
use Rattle.ir_types.specs.declared.opd.Opd.{Opd}
use Rattle.ir_types.specs.declared.op.Op.{Op}
use Rattle.ir_types.specs.declared.op.Op.TheVariants.{Store}
use Rattle.ir_types.specs.declared.inst.Inst.{Inst}
use Rattle.vx_serial.specs.declared.pairing.scan.LedStore.{LedStore}
use Rattle.vx_serial.specs.declared.pairing.scan.Waiting.{Waiting}
use Rattle.vx_serial.specs.declared.pairing.scan.Found.{Found}
use Rattle.vx_serial.specs.Pair.{Leads, leads_after, leads_by, is_memory, led_store_of, led_store_by, joined_to, paired_with, paired}
use Rattle.vx_serial.specs.PairScan.{pair_at, awaited, found_pair, waiting_after, scan, with_found}

-- ---- stores touch memory, and lead nowhere new

pub store_keeps : (leads : Leads) (id : Id) (op : Op) (ty : Ty) (opds : List Opd) (a : LedStore) → led_store_by leads op ty opds ≡ Some a →
    (is_memory op ≡ true) × (leads_by leads id op opds ≡ leads)
store_keeps leads id (Store align) ty opds a e = (refl, refl)
store_keeps leads id op ty opds a e = absurd (none e)
  where
    none : None ≡ Some a → ⊥
    none e = cc

quiet_store : (leads : Leads) (op : Op) (ty : Ty) (opds : List Opd) → is_memory op ≡ false → led_store_by leads op ty opds ≡ None
quiet_store leads (Store align) ty opds e = absurd cc
quiet_store leads op ty opds e = refl

-- ---- lists

-- a list in three parts with an item between each
parts : (p0 mid is : List Inst) (i0 i both : Inst) (first second : ℕ) → first ≡ length p0 → second ≡ length p0 + (1 + length mid) →
    with_found (p0 ++ (i0 ∷ (mid ++ (i ∷ is)))) (found_pair first second both) ≡ p0 ++ (mid ++ (both ∷ is))
parts p0 mid is i0 i both first second ef es =
    ap (λ n. take n whole ++ (take (second - (n + 1)) (drop (n + 1) whole) ++ (both ∷ drop (second + 1) whole))) ef
    ∙ (λ j. front j ++ (take (second - (length p0 + 1)) (past j) ++ (both ∷ last j)))
    ∙ ap (λ n. p0 ++ (take n (mid ++ (i ∷ is)) ++ (both ∷ is))) (omega arith)
    ∙ ap (λ xs. p0 ++ (xs ++ (both ∷ is))) (take-append_seam mid (i ∷ is))
  where
    whole : List Inst
    whole = p0 ++ (i0 ∷ (mid ++ (i ∷ is)))

    front : take (length p0) (p0 ++ (i0 ∷ (mid ++ (i ∷ is)))) ≡ p0
    front = take-append_seam p0 (i0 ∷ (mid ++ (i ∷ is)))

    past : drop (length p0 + 1) (p0 ++ (i0 ∷ (mid ++ (i ∷ is)))) ≡ mid ++ (i ∷ is)
    past = drop-append-add p0 (i0 ∷ (mid ++ (i ∷ is))) 1

    last : drop (second + 1) (p0 ++ (i0 ∷ (mid ++ (i ∷ is)))) ≡ is
    last =
        ap (λ n. drop n (p0 ++ (i0 ∷ (mid ++ (i ∷ is))))) (omega arith)
        ∙ drop-append-add p0 (i0 ∷ (mid ++ (i ∷ is))) (suc (length mid + 1))
        ∙ drop-append-add mid (i ∷ is) 1

-- ---- the pass

map_map : (f g h : List Inst → List Inst) → ((xs : List Inst) → f (g xs) ≡ h xs) → (o : Option (List Inst)) → option_map f (option_map g o) ≡ option_map h o
map_map f g h same None = refl
map_map f g h same (Some xs) = ap Some (same xs)

-- with no store waiting, after the instructions `pre`
abbrev Plainly : Leads → List Inst → List Inst → Type 0
Plainly leads pre is =
    option_map (λ n. pre ++ n) (paired leads is) ≡ option_map (with_found (pre ++ is)) (scan leads None (length pre) is)

-- with a store waiting, which `i0` is, after `p0` and with `mid` after it
abbrev Waitingly : Leads → LedStore → List Inst → Inst → List Inst → List Inst → Type 0
Waitingly leads a p0 i0 mid is =
    option_or (option_map (λ n. p0 ++ (mid ++ n)) (paired_with leads a is)) (option_map (λ n. (p0 ++ (i0 ∷ mid)) ++ n) (paired leads is))
    ≡ option_map (with_found ((p0 ++ (i0 ∷ mid)) ++ is)) (scan leads (Some (awaited (length p0) a)) (length (p0 ++ (i0 ∷ mid))) is)

one_more : (pre : List Inst) (i : Inst) → length pre + 1 ≡ length (pre ++ i ∷ [])
one_more pre i = let l = length-append pre (i ∷ []) in omega arith

onto : (pre : List Inst) (i : Inst) (xs : List Inst) → pre ++ (i ∷ xs) ≡ (pre ++ i ∷ []) ++ xs
onto pre i xs = sym (append_assoc pre (i ∷ []) xs)

-- what is left to scan after one instruction more
scan_end : (leads : Leads) (w v : Option Waiting) (pre : List Inst) (i : Inst) (is : List Inst) → w ≡ v →
    option_map (with_found ((pre ++ i ∷ []) ++ is)) (scan leads w (length (pre ++ i ∷ [])) is)
    ≡ option_map (with_found (pre ++ (i ∷ is))) (scan leads v (length pre + 1) is)
scan_end leads w v pre i is e =
    ap (λ xs. option_map (with_found xs) (scan leads w (length (pre ++ i ∷ [])) is)) (sym (onto pre i is))
    ∙ ap (λ n. option_map (with_found (pre ++ (i ∷ is))) (scan leads w n is)) (sym (one_more pre i))
    ∙ ap (λ u. option_map (with_found (pre ++ (i ∷ is))) (scan leads u (length pre + 1) is)) e

map_or : (f : List Inst → List Inst) (x y : Option (List Inst)) → option_map f (option_or x y) ≡ option_or (option_map f x) (option_map f y)
map_or f None y = refl
map_or f (Some n) y = refl

-- an instruction with none waiting before it
plain_step : (leads : Leads) (pre : List Inst) (i : Inst) (is : List Inst) →
    ((l : Leads) → Plainly l (pre ++ i ∷ []) is) → ((l : Leads) (a : LedStore) → Waitingly l a pre i [] is) → Plainly leads pre (i ∷ is)
plain_step leads pre i is plainly waitingly = by_kind (is_memory i.op) refl
  where
    after : Leads
    after = leads_after leads i

    past : option_map (λ n. pre ++ n) (option_map (λ rest. i ∷ rest) (paired (leads_after leads i) is))
        ≡ option_map (λ n. (pre ++ i ∷ []) ++ n) (paired (leads_after leads i) is)
    past = map_map (λ n. pre ++ n) (λ rest. i ∷ rest) (λ n. (pre ++ i ∷ []) ++ n) (onto pre i) (paired (leads_after leads i) is)

    -- none waits after it either
    none_waits : (w : Option Waiting) → None ≡ w →
        option_map (λ n. pre ++ n) (option_map (λ rest. i ∷ rest) (paired (leads_after leads i) is))
        ≡ option_map (with_found (pre ++ (i ∷ is))) (scan (leads_after leads i) w (length pre + 1) is)
    none_waits w e = past ∙ plainly (leads_after leads i) ∙ scan_end (leads_after leads i) None w pre i is e

    -- it waits itself
    it_waits : (a : LedStore) → leads_after leads i ≡ leads →
        option_map (λ n. pre ++ n) (option_or (paired_with leads a is) (option_map (λ rest. i ∷ rest) (paired (leads_after leads i) is)))
        ≡ option_map (with_found (pre ++ (i ∷ is))) (scan (leads_after leads i) (Some (awaited (length pre) a)) (length pre + 1) is)
    it_waits a same =
        map_or (λ n. pre ++ n) (paired_with leads a is) (option_map (λ rest. i ∷ rest) (paired (leads_after leads i) is))
        ∙ ap (option_or (option_map (λ n. pre ++ n) (paired_with leads a is))) past
        ∙ ap (λ l. option_or (option_map (λ n. pre ++ n) (paired_with l a is)) (option_map (λ n. (pre ++ i ∷ []) ++ n) (paired (leads_after leads i) is))) (sym same)
        ∙ waitingly (leads_after leads i) a
        ∙ scan_end (leads_after leads i) (Some (awaited (length pre) a)) (Some (awaited (length pre) a)) pre i is refl

    by_led : (o : Option LedStore) → led_store_of leads i ≡ o →
        option_map (λ n. pre ++ n) (option_or (option_and_then (λ a. paired_with leads a is) o) (option_map (λ rest. i ∷ rest) (paired (leads_after leads i) is)))
        ≡ option_map (with_found (pre ++ (i ∷ is))) (scan (leads_after leads i) (option_map (awaited (length pre)) o) (length pre + 1) is)
    by_led None e = none_waits None refl
    by_led (Some a) e = it_waits a (store_keeps leads i.id i.op i.ty i.opds a e).1

    by_kind : (b : Bool) → is_memory i.op ≡ b →
        option_map (λ n. pre ++ n) (option_or (option_and_then (λ a. paired_with leads a is) (led_store_of leads i)) (option_map (λ rest. i ∷ rest) (paired (leads_after leads i) is)))
        ≡ option_map (with_found (pre ++ (i ∷ is))) (scan (leads_after leads i) (cond b (option_map (awaited (length pre)) (led_store_of leads i)) None) (length pre + 1) is)
    by_kind true e = by_led (led_store_of leads i) refl
    by_kind false e =
        ap (λ o. option_map (λ n. pre ++ n) (option_or (option_and_then (λ a. paired_with leads a is) o) (option_map (λ rest. i ∷ rest) (paired (leads_after leads i) is))))
        (quiet_store leads i.op i.ty i.opds e)
        ∙ none_waits None refl

-- an instruction with a store waiting before it
wait_step : (leads : Leads) (a : LedStore) (p0 : List Inst) (i0 : Inst) (mid : List Inst) (j : Inst) (js : List Inst) →
    Plainly leads (p0 ++ (i0 ∷ mid)) (j ∷ js) → ((l : Leads) → Waitingly l a p0 i0 (mid ++ j ∷ []) js) → Waitingly leads a p0 i0 mid (j ∷ js)
wait_step leads a p0 i0 mid j js plainly waitingly = by_kind (is_memory j.op) refl plainly
  where
    longer : p0 ++ (i0 ∷ (mid ++ j ∷ [])) ≡ (p0 ++ (i0 ∷ mid)) ++ j ∷ []
    longer = sym (append_assoc p0 (i0 ∷ mid) (j ∷ []))

    counted : length (p0 ++ (i0 ∷ mid)) ≡ length p0 + (1 + length mid)
    counted = let l = length-append p0 (i0 ∷ mid) in omega arith

    pairs : (both : Inst) →
        Some (p0 ++ (mid ++ (both ∷ js))) ≡ Some (with_found ((p0 ++ (i0 ∷ mid)) ++ (j ∷ js)) (found_pair (length p0) (length (p0 ++ (i0 ∷ mid))) both))
    pairs both =
        ap Some (sym (parts p0 mid js i0 j both (length p0) (length (p0 ++ (i0 ∷ mid))) refl counted)
        ∙ ap (λ xs. with_found xs (found_pair (length p0) (length (p0 ++ (i0 ∷ mid))) both)) (sym (append_assoc p0 (i0 ∷ mid) (j ∷ js))))

    by_joined : (o : Option Inst) (w : Option Waiting) →
        option_map (λ n. (p0 ++ (i0 ∷ mid)) ++ n) (paired leads (j ∷ js))
        ≡ option_map (with_found ((p0 ++ (i0 ∷ mid)) ++ (j ∷ js))) (scan (leads_after leads j) w (length (p0 ++ (i0 ∷ mid)) + 1) js) →
        option_or (option_map (λ n. p0 ++ (mid ++ n)) (option_map (λ both. both ∷ js) o)) (option_map (λ n. (p0 ++ (i0 ∷ mid)) ++ n) (paired leads (j ∷ js)))
        ≡ option_map (with_found ((p0 ++ (i0 ∷ mid)) ++ (j ∷ js)))
        (option_or (option_map (found_pair (length p0) (length (p0 ++ (i0 ∷ mid)))) o) (scan (leads_after leads j) w (length (p0 ++ (i0 ∷ mid)) + 1) js))
    by_joined None w plainly = plainly
    by_joined (Some both) w plainly = pairs both

    goes_by : led_store_of leads j ≡ None →
        option_or (option_map (λ n. p0 ++ (mid ++ n)) (option_map (λ rest. j ∷ rest) (paired_with (leads_after leads j) a js))) (option_map (λ n. (p0 ++ (i0 ∷ mid)) ++ n) (paired leads (j ∷ js)))
        ≡ option_map (with_found ((p0 ++ (i0 ∷ mid)) ++ (j ∷ js))) (scan (leads_after leads j) (Some (awaited (length p0) a)) (length (p0 ++ (i0 ∷ mid)) + 1) js)
    goes_by led =
        ap (λ o. option_or o (option_map (λ n. (p0 ++ (i0 ∷ mid)) ++ n) (paired leads (j ∷ js))))
        (map_map (λ n. p0 ++ (mid ++ n)) (λ rest. j ∷ rest) (λ n. p0 ++ ((mid ++ j ∷ []) ++ n)) (λ xs. ap (λ n. p0 ++ n) (onto mid j xs)) (paired_with (leads_after leads j) a js))
        ∙ ap (λ o. option_or (option_map (λ n. p0 ++ ((mid ++ j ∷ []) ++ n)) (paired_with (leads_after leads j) a js))
        (option_map (λ n. (p0 ++ (i0 ∷ mid)) ++ n) (option_or (option_and_then (λ b. paired_with leads b js) o) (option_map (λ rest. j ∷ rest) (paired (leads_after leads j) js))))) led
        ∙ ap (option_or (option_map (λ n. p0 ++ ((mid ++ j ∷ []) ++ n)) (paired_with (leads_after leads j) a js)))
        (map_map (λ n. (p0 ++ (i0 ∷ mid)) ++ n) (λ rest. j ∷ rest) (λ n. (p0 ++ (i0 ∷ (mid ++ j ∷ []))) ++ n)
        (λ xs. onto (p0 ++ (i0 ∷ mid)) j xs ∙ ap (λ n. n ++ xs) (sym longer)) (paired (leads_after leads j) js))
        ∙ waitingly (leads_after leads j)
        ∙ ap (λ xs. option_map (with_found (xs ++ js)) (scan (leads_after leads j) (Some (awaited (length p0) a)) (length xs) js)) longer
        ∙ scan_end (leads_after leads j) (Some (awaited (length p0) a)) (Some (awaited (length p0) a)) (p0 ++ (i0 ∷ mid)) j js refl

    by_kind : (b : Bool) → is_memory j.op ≡ b →
        option_map (λ n. (p0 ++ (i0 ∷ mid)) ++ n) (paired leads (j ∷ js))
        ≡ option_map (with_found ((p0 ++ (i0 ∷ mid)) ++ (j ∷ js)))
        (scan (leads_after leads j) (cond b (option_map (awaited (length (p0 ++ (i0 ∷ mid)))) (led_store_of leads j)) None) (length (p0 ++ (i0 ∷ mid)) + 1) js) →
        option_or (option_map (λ n. p0 ++ (mid ++ n)) (cond b (option_map (λ both. both ∷ js) (joined_to leads a j)) (option_map (λ rest. j ∷ rest) (paired_with (leads_after leads j) a js))))
        (option_map (λ n. (p0 ++ (i0 ∷ mid)) ++ n) (paired leads (j ∷ js)))
        ≡ option_map (with_found ((p0 ++ (i0 ∷ mid)) ++ (j ∷ js)))
        (option_or (cond b (option_map (found_pair (length p0) (length (p0 ++ (i0 ∷ mid)))) (joined_to leads a j)) None)
        (scan (leads_after leads j) (cond b (option_map (awaited (length (p0 ++ (i0 ∷ mid)))) (led_store_of leads j)) (Some (awaited (length p0) a))) (length (p0 ++ (i0 ∷ mid)) + 1) js))
    by_kind true e plainly = by_joined (joined_to leads a j) (option_map (awaited (length (p0 ++ (i0 ∷ mid)))) (led_store_of leads j)) plainly
    by_kind false e plainly = goes_by (quiet_store leads j.op j.ty j.opds e)

pub record Passes (is : List Inst) : Type 0 where
  pub plainly : (l : Leads) (pre : List Inst) → Plainly l pre is
  pub waitingly : (l : Leads) (a : LedStore) (p0 : List Inst) (i0 : Inst) (mid : List Inst) → Waitingly l a p0 i0 mid is

passes : (is : List Inst) → Passes is
passes [] = record { plainly = λ l pre. refl; waitingly = λ l a p0 i0 mid. refl }
passes (i ∷ is) =
    let rest = passes is in
    let plainly : (l : Leads) (pre : List Inst) → Plainly l pre (i ∷ is) =
    λ l pre. plain_step l pre i is (λ k. rest.plainly k (pre ++ i ∷ [])) (λ k a. rest.waitingly k a pre i []) in
    record {
      plainly = plainly;
      waitingly = λ l a p0 i0 mid. wait_step l a p0 i0 mid i is (plainly l (p0 ++ (i0 ∷ mid))) (λ k. rest.waitingly k a p0 i0 (mid ++ i ∷ []));
    }

plain_map : (o : Option (List Inst)) → option_map (λ n. [] ++ n) o ≡ o
plain_map None = refl
plain_map (Some n) = refl

-- the scan finds the pair of the definition
pub scan_pairs : (leads : Leads) (insts : List Inst) → paired leads insts ≡ option_map (with_found insts) (scan leads None 0 insts)
scan_pairs leads insts = sym (plain_map (paired leads insts)) ∙ (passes insts).plainly leads []

-- ---- places

abbrev IsBefore : Option Waiting → ℕ → Type 0
IsBefore None at = Unit {0}
IsBefore (Some w) at = w.place < at

abbrev InOrder : ℕ → Option Found → Type 0
InOrder end found = IfSome found (λ f. (f.first < f.second) × (f.second < end))

scan_in_order : (leads : Leads) (w : Option Waiting) (at end : ℕ) (is : List Inst) → IsBefore w at → end ≡ at + length is → InOrder end (scan leads w at is)
scan_in_order leads w at end [] b e = tt
scan_in_order leads w at end (i ∷ is) b e =
    or_later (pair_at leads w at i) (scan (leads_after leads i) (waiting_after leads w at i) (at + 1) is) (found_here w b)
    (scan_in_order (leads_after leads i) (waiting_after leads w at i) (at + 1) end is (waits (is_memory i.op) w b) (omega arith))
  where
    or_later : (o later : Option Found) → InOrder end o → InOrder end later → InOrder end (option_or o later)
    or_later None later here rest = rest
    or_later (Some f) later here rest = here

    by_joined : (place : ℕ) → place < at → (o : Option Inst) → InOrder end (option_map (found_pair place at) o)
    by_joined place h None = tt
    by_joined place h (Some both) = (h, omega arith)

    by_kind : (v : Waiting) → v.place < at → (k : Bool) → InOrder end (cond k (option_map (found_pair v.place at) (joined_to leads v.store i)) None)
    by_kind v h true = by_joined v.place h (joined_to leads v.store i)
    by_kind v h false = tt

    found_here : (v : Option Waiting) → IsBefore v at → InOrder end (pair_at leads v at i)
    found_here None h = tt
    found_here (Some v) h = by_kind v h (is_memory i.op)

    by_led : (o : Option LedStore) → IsBefore (option_map (awaited at) o) (at + 1)
    by_led None = tt
    by_led (Some a) = omega arith

    later : (v : Option Waiting) → IsBefore v at → IsBefore v (at + 1)
    later None h = tt
    later (Some v) h = omega arith

    waits : (k : Bool) (v : Option Waiting) → IsBefore v at → IsBefore (cond k (option_map (awaited at) (led_store_of leads i)) v) (at + 1)
    waits true v h = by_led (led_store_of leads i)
    waits false v h = later v h

pub scan_orders : (leads : Leads) (insts : List Inst) → IfSome (scan leads None 0 insts) (λ f. (f.first < f.second) × (f.second < length insts))
scan_orders leads insts = scan_in_order leads None 0 (length insts) insts tt (omega arith)

-- what holds of a result's value makes another fact hold of it
pub if_ok_then : {A E : Type 0} {P Q : A → Type 0} (r : Result A E) → ((x : A) → P x → Q x) → IfOk r P → IfOk r Q
if_ok_then (Ok x) f p = f x p
if_ok_then (Err e) f p = tt

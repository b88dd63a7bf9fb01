-- The pair that is joined is the least by its places.
use Rattle.std.proofs.Common.{◌≡◌, refl, sym, ap, ◌∙◌, subst, ℕ, zero, suc, ◌+◌, ◌-◌, ◌<◌, ◌≤◌, Bool, true, false, Option, None, Some, List, [], ◌∷◌, ◌++◌, ◌⊎◌, inl, inr, cond, take, drop, slice_get, option_map, option_and_then, arith}
use Rattle.std.proofs.lemmas.Bool.{cases_lt}
use Rattle.std.specs.Option.{option_or}
use Rattle.ir_types.specs.declared.inst.Inst.{Inst}
use Rattle.vx_serial.specs.declared.pairing.scan.LedStore.{LedStore}
use Rattle.vx_serial.specs.Pair.{Leads, leads_after, led_store_of, is_memory, joined, joined_to, paired_with, paired}
use Rattle.vx_serial.specs.PairScan.{found_pair, with_found}
use Rattle.vx_serial.specs.PairPlaces.{leads_before, AreQuiet, IsPair, NotAfter, IsLeastJoined, JoinsLeast}
use Rattle.vx_serial.proofs.Scan.{store_keeps}

differ : true ≡ false → ⊥
differ e = cc

nothing : {A : Type 0} (x : A) → None ≡ Some x → ⊥
nothing x e = cc

-- ---- the second store

-- the store that a store pairs with, at a place after it
pub record IsMate (leads : Leads) (a : LedStore) (insts : List Inst) (j : ℕ) : Type 0 where
  pub later : Inst
  pub at : slice_get insts j ≡ Some later
  pub both : Inst
  pub is : joined_to (leads_before leads insts j) a later ≡ Some both
  pub between : AreQuiet insts 0 j

-- what pairs touches memory
mate_memory : (leads : Leads) (a : LedStore) (y both : Inst) → joined_to leads a y ≡ Some both → is_memory y.op ≡ true
mate_memory leads a y both e = by_led (led_store_of leads y) refl e
  where
    by_led : (o : Option LedStore) → led_store_of leads y ≡ o → option_and_then (joined leads y a) o ≡ Some both → is_memory y.op ≡ true
    by_led None led e = absurd (nothing both e)
    by_led (Some b) led e = (store_keeps leads y.id y.op y.ty y.opds b led).0

pub record FoundMate (leads : Leads) (a : LedStore) (is new : List Inst) : Type 0 where
  pub j : ℕ
  pub mate : IsMate leads a is j
  pub joins : new ≡ take j is ++ (mate.both ∷ drop (suc j) is)

found_mate : (is : List Inst) (leads : Leads) (a : LedStore) (new : List Inst) → paired_with leads a is ≡ Some new → FoundMate leads a is new
found_mate [] leads a new e = absurd (nothing new e)
found_mate (x ∷ xs) leads a new e = by_kind (is_memory x.op) refl e (λ rest r. found_mate xs (leads_after leads x) a rest r)
  where
    by_joined : (o : Option Inst) → joined_to leads a x ≡ o → option_map (λ both. both ∷ xs) o ≡ Some new → FoundMate leads a (x ∷ xs) new
    by_joined None is e = absurd (nothing new e)
    by_joined (Some both) is e = record {
      j = 0;
      mate = record { later = x; at = refl; both = both; is = is; between = λ k y from to at. absurd (none k to) };
      joins = same e;
    }
      where
        same : Some (both ∷ xs) ≡ Some new → new ≡ both ∷ xs
        same e = cc

        none : (k : ℕ) → k < 0 → ⊥
        none k h = omega arith

    by_rest : is_memory x.op ≡ false → (o : Option (List Inst)) → paired_with (leads_after leads x) a xs ≡ o → option_map (λ rest. x ∷ rest) o ≡ Some new →
        ((rest : List Inst) → paired_with (leads_after leads x) a xs ≡ Some rest → FoundMate (leads_after leads x) a xs rest) → FoundMate leads a (x ∷ xs) new
    by_rest quietly None is e more = absurd (nothing new e)
    by_rest quietly (Some rest) is e more = further (more rest is)
      where
        same : Some (x ∷ rest) ≡ Some new → new ≡ x ∷ rest
        same e = cc

        quiet : (j : ℕ) → AreQuiet xs 0 j → AreQuiet (x ∷ xs) 0 (suc j)
        quiet j q zero y from to at = subst (λ (z : Inst). is_memory z.op ≡ false) (the at) quietly
          where
            the : Some x ≡ Some y → x ≡ y
            the e = cc
        quiet j q (suc k) y from to at = q k y (omega arith) (omega arith) at

        further : FoundMate (leads_after leads x) a xs rest → FoundMate leads a (x ∷ xs) new
        further f = record {
          j = suc f.j;
          mate = record { later = f.mate.later; at = f.mate.at; both = f.mate.both; is = f.mate.is; between = quiet f.j f.mate.between };
          joins = same e ∙ ap (λ r. x ∷ r) f.joins;
        }

    by_kind : (b : Bool) → is_memory x.op ≡ b →
        cond b (option_map (λ both. both ∷ xs) (joined_to leads a x)) (option_map (λ rest. x ∷ rest) (paired_with (leads_after leads x) a xs)) ≡ Some new →
        ((rest : List Inst) → paired_with (leads_after leads x) a xs ≡ Some rest → FoundMate (leads_after leads x) a xs rest) → FoundMate leads a (x ∷ xs) new
    by_kind true k e more = by_joined (joined_to leads a x) refl e
    by_kind false k e more = by_rest k (paired_with (leads_after leads x) a xs) refl e more

-- where there is a mate, it is found
mate_found : (is : List Inst) (leads : Leads) (a : LedStore) (j : ℕ) → IsMate leads a is j → paired_with leads a is ≡ None → ⊥
mate_found [] leads a j m e = nothing m.later m.at
mate_found (x ∷ xs) leads a zero m e = by_kind (is_memory x.op) (mate_memory leads a x m.both here) e
  where
    the : Some x ≡ Some m.later → m.later ≡ x
    the e = cc

    here : joined_to leads a x ≡ Some m.both
    here = subst (λ (z : Inst). joined_to leads a z ≡ Some m.both) (the m.at) m.is

    by_joined : (o : Option Inst) → joined_to leads a x ≡ o → option_map (λ both. both ∷ xs) o ≡ None → ⊥
    by_joined None is e = nothing m.both (sym is ∙ here)
    by_joined (Some both) is e = nothing (both ∷ xs) (sym e)

    by_kind : (b : Bool) → b ≡ true →
        cond b (option_map (λ both. both ∷ xs) (joined_to leads a x)) (option_map (λ rest. x ∷ rest) (paired_with (leads_after leads x) a xs)) ≡ None → ⊥
    by_kind true k e = by_joined (joined_to leads a x) refl e
    by_kind false k e = differ (sym k)
mate_found (x ∷ xs) leads a (suc j) m e =
    by_kind (is_memory x.op) (m.between 0 x (omega arith) (omega arith) refl) e (λ r. mate_found xs (leads_after leads x) a j rest r)
  where
    rest : IsMate (leads_after leads x) a xs j
    rest = record { later = m.later; at = m.at; both = m.both; is = m.is; between = λ k y from to at. m.between (suc k) y (omega arith) (omega arith) at }

    by_rest : (o : Option (List Inst)) → paired_with (leads_after leads x) a xs ≡ o → option_map (λ rest. x ∷ rest) o ≡ None →
        (paired_with (leads_after leads x) a xs ≡ None → ⊥) → ⊥
    by_rest None is e more = more is
    by_rest (Some new) is e more = nothing (x ∷ new) (sym e)

    by_kind : (b : Bool) → b ≡ false →
        cond b (option_map (λ both. both ∷ xs) (joined_to leads a x)) (option_map (λ rest. x ∷ rest) (paired_with (leads_after leads x) a xs)) ≡ None →
        (paired_with (leads_after leads x) a xs ≡ None → ⊥) → ⊥
    by_kind true k e more = differ k
    by_kind false k e more = by_rest (paired_with (leads_after leads x) a xs) refl e more

-- ---- one instruction more in front

joins_first : (x : Inst) (xs : List Inst) (j : ℕ) (both : Inst) →
    with_found (x ∷ xs) (found_pair 0 (suc j) both) ≡ take j xs ++ (both ∷ drop (suc j) xs)
joins_first x xs j both =
    let e : suc j - (0 + 1) ≡ j = omega arith in
    let f : suc j + 1 ≡ suc (suc j) = omega arith in
    ap (λ n. take n xs ++ (both ∷ drop (suc j + 1) (x ∷ xs))) e ∙ ap (λ n. take j xs ++ (both ∷ drop n (x ∷ xs))) f

joins_later : (x : Inst) (xs : List Inst) (i j : ℕ) (both : Inst) →
    with_found (x ∷ xs) (found_pair (suc i) (suc j) both) ≡ x ∷ with_found xs (found_pair i j both)
joins_later x xs i j both =
    let e : suc j - (suc i + 1) ≡ j - (i + 1) = omega arith in
    let f : suc i + 1 ≡ suc (i + 1) = omega arith in
    let g : suc j + 1 ≡ suc (j + 1) = omega arith in
    ap (λ n. (x ∷ take i xs) ++ (take n (drop (suc i + 1) (x ∷ xs)) ++ (both ∷ drop (suc j + 1) (x ∷ xs)))) e
    ∙ ap (λ n. (x ∷ take i xs) ++ (take (j - (i + 1)) (drop n (x ∷ xs)) ++ (both ∷ drop (suc j + 1) (x ∷ xs)))) f
    ∙ ap (λ n. (x ∷ take i xs) ++ (take (j - (i + 1)) (drop (i + 1) xs) ++ (both ∷ drop n (x ∷ xs)))) g

down : (leads : Leads) (x : Inst) (xs : List Inst) (k l : ℕ) → IsPair leads (x ∷ xs) (suc k) (suc l) → IsPair (leads_after leads x) xs k l
down leads x xs k l p = record {
  order = let o = p.order in omega arith;
  earlier = p.earlier;
  at_first = p.at_first;
  first = p.first;
  is_first = p.is_first;
  later = p.later;
  at_second = p.at_second;
  both = p.both;
  is_second = p.is_second;
  between = λ n y from to at. p.between (suc n) y (omega arith) (omega arith) at;
}

quiet_up : (x : Inst) (xs : List Inst) (i j : ℕ) → AreQuiet xs i j → AreQuiet (x ∷ xs) (suc i) (suc j)
quiet_up x xs i j q zero y from to at = absurd (none from)
  where
    none : suc i ≤ 0 → ⊥
    none h = omega arith
quiet_up x xs i j q (suc k) y from to at = q k y (omega arith) (omega arith) at

abbrev up : (leads : Leads) (x : Inst) (xs : List Inst) (i j : ℕ) → IsPair (leads_after leads x) xs i j → IsPair leads (x ∷ xs) (suc i) (suc j)
up leads x xs i j p = record {
  order = let o = p.order in omega arith;
  earlier = p.earlier;
  at_first = p.at_first;
  first = p.first;
  is_first = p.is_first;
  later = p.later;
  at_second = p.at_second;
  both = p.both;
  is_second = p.is_second;
  between = quiet_up x xs (suc i) j p.between;
}

-- ---- the least

pub joins_least : (insts : List Inst) (leads : Leads) → JoinsLeast leads insts (paired leads insts)
joins_least [] leads = λ k l p. nothing p.earlier p.at_first
joins_least (x ∷ xs) leads = by_store (led_store_of leads x) refl (joins_least xs (leads_after leads x))
  where
    no_order : (k : ℕ) → k < 0 → ⊥
    no_order k h = omega arith

    the : (y : Inst) → Some x ≡ Some y → y ≡ x
    the y e = cc

    by_rest : ((l : ℕ) → IsPair leads (x ∷ xs) 0 l → ⊥) → (r : Option (List Inst)) → JoinsLeast (leads_after leads x) xs r → JoinsLeast leads (x ∷ xs) (option_map (λ rest. x ∷ rest) r)
    by_rest none None least = no_pair
      where
        no_pair : (k l : ℕ) → IsPair leads (x ∷ xs) k l → ⊥
        no_pair zero l p = none l p
        no_pair (suc k) zero p = no_order (suc k) p.order
        no_pair (suc k) (suc l) p = least k l (down leads x xs k l p)
    by_rest none (Some rest) r = record {
      i = suc r.i;
      j = suc r.j;
      pair = up leads x xs r.i r.j r.pair;
      joins = ap (λ n. x ∷ n) r.joins ∙ sym (joins_later x xs r.i r.j r.pair.both);
      least = least;
    }
      where
        next : (k l : ℕ) → NotAfter r.i r.j k l → NotAfter (suc r.i) (suc r.j) (suc k) (suc l)
        next k l (inl h) = inl (omega arith)
        next k l (inr h) = inr (ap suc h.0, (let g = h.1 in omega arith))

        least : (k l : ℕ) → IsPair leads (x ∷ xs) k l → NotAfter (suc r.i) (suc r.j) k l
        least zero l p = absurd (none l p)
        least (suc k) zero p = absurd (no_order (suc k) p.order)
        least (suc k) (suc l) p = next k l (r.least k l (down leads x xs k l p))

    -- a pair that begins here has a mate
    mate_of : (a : LedStore) → led_store_of leads x ≡ Some a → (l : ℕ) (p : IsPair leads (x ∷ xs) 0 (suc l)) → IsMate leads a xs l
    mate_of a led l p = record {
      later = p.later;
      at = p.at_second;
      both = p.both;
      is = subst (λ (q : Leads). joined_to (leads_before q xs l) a p.later ≡ Some p.both) (store_keeps leads x.id x.op x.ty x.opds a led).1
          (subst (λ (b : LedStore). joined_to (leads_before (leads_after leads x) xs l) b p.later ≡ Some p.both) (same led here) p.is_second);
      between = λ k y from to at. p.between (suc k) y (omega arith) (omega arith) at;
    }
      where
        here : led_store_of leads x ≡ Some p.first
        here = subst (λ (y : Inst). led_store_of leads y ≡ Some p.first) (the p.earlier p.at_first) p.is_first

        same : led_store_of leads x ≡ Some a → led_store_of leads x ≡ Some p.first → p.first ≡ a
        same e f = cc

    -- the first instruction is the first store of the least pair
    at_once : (a : LedStore) → led_store_of leads x ≡ Some a → (new : List Inst) → FoundMate leads a xs new → IsLeastJoined leads (x ∷ xs) new
    at_once a led new f = record {
      i = 0;
      j = suc f.j;
      pair = record {
        order = omega arith;
        earlier = x;
        at_first = refl;
        first = a;
        is_first = led;
        later = f.mate.later;
        at_second = f.mate.at;
        both = f.mate.both;
        is_second = subst (λ (q : Leads). joined_to (leads_before q xs f.j) a f.mate.later ≡ Some f.mate.both) (sym (store_keeps leads x.id x.op x.ty x.opds a led).1) f.mate.is;
        between = quiet_up x xs 0 f.j f.mate.between;
      };
      joins = f.joins ∙ sym (joins_first x xs f.j f.mate.both);
      least = least;
    }
      where
        not_before : (l : ℕ) → IsMate leads a xs l → l < f.j → ⊥
        not_before l m h =
            differ (sym (mate_memory (leads_before leads xs l) a m.later m.both m.is) ∙ f.mate.between l m.later (omega arith) h m.at)

        by_order : (l : ℕ) → IsMate leads a xs l → (l < f.j) ⊎ (f.j ≤ l) → NotAfter 0 (suc f.j) 0 (suc l)
        by_order l m (inl h) = absurd (not_before l m h)
        by_order l m (inr h) = inr (refl, omega arith)

        least : (k l : ℕ) → IsPair leads (x ∷ xs) k l → NotAfter 0 (suc f.j) k l
        least zero zero p = absurd (no_order 0 p.order)
        least zero (suc l) p = by_order l (mate_of a led l p) (cases_lt l f.j)
        least (suc k) l p = inl (omega arith)

    by_mate : (a : LedStore) → led_store_of leads x ≡ Some a → (r : Option (List Inst)) → paired_with leads a xs ≡ r → JoinsLeast (leads_after leads x) xs (paired (leads_after leads x) xs) →
        JoinsLeast leads (x ∷ xs) (option_or r (option_map (λ rest. x ∷ rest) (paired (leads_after leads x) xs)))
    by_mate a led (Some new) found rest = at_once a led new (found_mate xs leads a new found)
    by_mate a led None found rest = by_rest none (paired (leads_after leads x) xs) rest
      where
        none : (l : ℕ) → IsPair leads (x ∷ xs) 0 l → ⊥
        none zero p = no_order 0 p.order
        none (suc l) p = mate_found xs leads a l (mate_of a led l p) found

    by_store : (o : Option LedStore) → led_store_of leads x ≡ o → JoinsLeast (leads_after leads x) xs (paired (leads_after leads x) xs) →
        JoinsLeast leads (x ∷ xs) (option_or (option_and_then (λ a. paired_with leads a xs) o) (option_map (λ rest. x ∷ rest) (paired (leads_after leads x) xs)))
    by_store None led rest = by_rest none (paired (leads_after leads x) xs) rest
      where
        none : (l : ℕ) → IsPair leads (x ∷ xs) 0 l → ⊥
        none l p = nothing p.first (sym led ∙ subst (λ (y : Inst). led_store_of leads y ≡ Some p.first) (the p.earlier p.at_first) p.is_first)
    by_store (Some a) led rest = by_mate a led (paired_with leads a xs) refl rest

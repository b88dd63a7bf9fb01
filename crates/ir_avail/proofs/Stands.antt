-- From ways that leave no barred block to walks on which a definition stands, and back.
use Rattle.std.proofs.Common.{◌≡◌, ℕ, ◌<◌, ◌≤◌, Bool, true, false, List, [], ◌∷◌, length, get_or, take, map, refl, sym, ◌∙◌, ap, subst, inl, inr, arith, zero, suc, eqb-true}
use Rattle.std.specs.Prelude.{◌||◌, ◌⊎◌, slice_get}
use Rattle.std.proofs.lemmas.Bool.{cases_eq}
use Rattle.std.specs.declared.option.Option.{Option}
use Rattle.std.specs.declared.option.Option.TheVariants.{None, Some}
use Rattle.ir_types.specs.declared.id.Id.{Id}
use Rattle.ir_types.specs.declared.inst.Inst.{Inst}
use Rattle.ir_types.specs.declared.func.Block.{Block}
use Rattle.ir_types.specs.declared.func.Func.{Func}
use Rattle.ir_types.specs.Walks.{GoesOn, EndsFrom, Precedes}
use Rattle.ir_types.specs.Available.{same_id, is_param, defines, insts_of, insts_at, graph_of, stands_from, IsAvailableAt, IsMiss, IsLeastMiss}
use Rattle.ir_avail.specs.Avoids.{bar_at, distance_at, Avoids, AreDistances, IsLeast, LeadsLeast}
use Rattle.ir_types.specs.declared.func.Param.{Param}
use Rattle.std.specs.List.{list_any}
use Rattle.std.specs.Int.{bit_at}
use Rattle.ir_avail.specs.Rows.{IsBand, at_home}
use Rattle.ir_avail.specs.Places.{StandsAt}
use Rattle.ir_avail.proofs.Ways.{within}

equal_or_more : (a b : ℕ) → a ≤ b → (b ≡ a) ⊎ (a < b)
equal_or_more a b h = elim (cases_eq b a) [ inl same ↦ inl same | inr other ↦ inr (omega arith) ]

pub or_left : (a b : Bool) → a || b ≡ false → a ≡ false
or_left true b e = e
or_left false b e = refl

pub or_right : (a b : Bool) → a || b ≡ false → b ≡ false
or_right true b e = cc
or_right false b e = e

or_true : (a b : Bool) → b ≡ true → a || b ≡ true
or_true true b e = refl
or_true false b e = e

or_false : (a b : Bool) → a ≡ false → b ≡ false → a || b ≡ false
or_false true b e h = e
or_false false b e h = h

-- the test of a walk, one way or the other
true_unless : (b : Bool) → (b ≡ false → ⊥) → b ≡ true
true_unless true h = refl
true_unless false h = absurd (h refl)

-- what leaves fewer blocks barred
pub weaken : (graph : List (List ℕ)) (p q : ℕ → Bool) (end : ℕ) → ((v : ℕ) → p v ≡ false → q v ≡ false)
    → (a : ℕ) (way : List ℕ) → Avoids graph p end a way → Avoids graph q end a way
weaken graph p q end h a [] av = av
weaken graph p q end h a (b ∷ rest) av = (h a av.0, av.1, weaken graph p q end h b rest av.2)

module _ (func : Func) (value : Id) (before end : ℕ) where
  abbrev pub bars : ℕ → Bool
  bars v = defines value (insts_at func v)

  abbrev last : Bool
  last = defines value (take before (insts_at func end))

  pub avoid_of : (a : ℕ) (way : List ℕ) → GoesOn (graph_of func) a way → EndsFrom a way end → stands_from func value before a way ≡ false
      → Avoids (graph_of func) bars end a way
  avoid_of a [] on ends not = ends
  avoid_of a (b ∷ rest) on ends not =
      (or_left (bars a) (stands_from func value before b rest) not, on.0, avoid_of b rest on.1 ends (or_right (bars a) (stands_from func value before b rest) not))

  goes_of : (a : ℕ) (way : List ℕ) → Avoids (graph_of func) bars end a way → GoesOn (graph_of func) a way
  goes_of a [] av = tt
  goes_of a (b ∷ rest) av = (av.1, goes_of b rest av.2)

  ends_of : (a : ℕ) (way : List ℕ) → Avoids (graph_of func) bars end a way → EndsFrom a way end
  ends_of a [] av = av
  ends_of a (b ∷ rest) av = ends_of b rest av.2

  misses_of : last ≡ false → (a : ℕ) (way : List ℕ) → Avoids (graph_of func) bars end a way → stands_from func value before a way ≡ false
  misses_of none a [] av = ap (λ v. defines value (take before (insts_at func v))) av ∙ none
  misses_of none a (b ∷ rest) av = or_false (bars a) (stands_from func value before b rest) av.0 (misses_of none b rest av.2)

  stands_last : last ≡ true → (a : ℕ) (way : List ℕ) → EndsFrom a way end → stands_from func value before a way ≡ true
  stands_last yes_last a [] ends = ap (λ v. defines value (take before (insts_at func v))) ends ∙ yes_last
  stands_last yes_last a (b ∷ rest) ends = or_true (bars a) (stands_from func value before b rest) (stands_last yes_last b rest ends)

  -- a parameter is available
  pub available_param : is_param value func ≡ true → IsAvailableAt func value before end
  available_param param [] walk ends = param
  available_param param (a ∷ rest) walk ends = ap (λ b. b || stands_from func value before a rest) param

  -- so is what the last block defines before the use
  pub available_last : defines value (take before (insts_at func end)) ≡ true → IsAvailableAt func value before end
  available_last yes_last [] walk ends = absurd ends
  available_last yes_last (a ∷ rest) walk ends = or_true (is_param value func) (stands_from func value before a rest) (stands_last yes_last a rest ends)

  -- and what no way misses
  pub available_none : (0 < length (graph_of func) → (way : List ℕ) → Avoids (graph_of func) bars end 0 way → ⊥) → IsAvailableAt func value before end
  available_none none [] walk ends = absurd ends
  available_none none (a ∷ rest) walk ends =
      true_unless (is_param value func || stands_from func value before a rest) (λ not.
      let P : ℕ → Type 0 = λ v. Avoids (graph_of func) bars end v rest in
      none walk.1 rest (subst P walk.0 (avoid_of a rest walk.2 ends (or_right (is_param value func) (stands_from func value before a rest) not))))

  -- the least way is the least walk that misses
  pub least_walk : (q : ℕ → Bool) (ds : List (Option ℕ)) (len : ℕ) (walk : List ℕ) → ((v : ℕ) → q v ≡ bars v)
      → AreDistances (graph_of func) q end ds → distance_at ds 0 ≡ Some len → 0 < length (graph_of func)
      → LeadsLeast (graph_of func) ds len walk → is_param value func ≡ false → last ≡ false → IsLeastMiss func value before end walk
  least_walk q ds len walk same are start entry leads no_param no_last =
      let found = leads q end are start in
      let P : List ℕ → Type 0 = λ w. IsLeastMiss func value before end w in
      subst P (sym found.1) (is_least found.0 found.2)
    where
      by_size : (way rest : List ℕ) → IsLeast (graph_of func) q end 0 len way → Avoids (graph_of func) q end 0 rest
          → (length rest ≡ len) ⊎ (len < length rest) → Precedes (0 ∷ way) (0 ∷ rest)
      by_size way rest least av (inl same_size) = let size : length way ≡ len = least.long in inr (omega arith, inr (refl, least.least rest same_size av))
      by_size way rest least av (inr longer) = let size : length way ≡ len = least.long in inl (omega arith)

      beats : (way other : List ℕ) → IsLeast (graph_of func) q end 0 len way → IsMiss func value before end other → Precedes (0 ∷ way) other
      beats way [] least miss = absurd miss.0
      beats way (a ∷ rest) least miss =
          let P : ℕ → Type 0 = λ v. Avoids (graph_of func) bars end v rest in
          let av = weaken (graph_of func) bars q end (λ v e. same v ∙ e) 0 rest (subst P miss.0.0 (avoid_of a rest miss.0.2 miss.1 (or_right (is_param value func) (stands_from func value before a rest) miss.2))) in
          let k = are.complete 0 rest entry av in
          let n : len ≡ k.0 = (let e : Some len ≡ Some k.0 = sym start ∙ k.1 in cc) in
          let low : k.0 ≤ length rest = k.2 in
          let Q : ℕ → Type 0 = λ x. Precedes (x ∷ way) (a ∷ rest) in
          let R : ℕ → Type 0 = λ x. Precedes (0 ∷ way) (x ∷ rest) in
          subst R (sym miss.0.0) (by_size way rest least av (equal_or_more len (length rest) (omega arith)))

      is_least : (way : List ℕ) → IsLeast (graph_of func) q end 0 len way → IsLeastMiss func value before end (0 ∷ way)
      is_least way least =
          let av = weaken (graph_of func) q bars end (λ v e. sym (same v) ∙ e) 0 way least.avoids in (
            ((refl, entry, goes_of 0 way av), ends_of 0 way av, or_false (is_param value func) (stands_from func value before 0 way) no_param (misses_of no_last 0 way av)),
            λ other miss. beats way other least miss,
          )

-- the bars of a list of blocks
pub bar_at-map : (value : Id) (blocks : List Block) (v : ℕ) → bar_at (map (λ (b : Block). defines value b.insts) blocks) v ≡ defines value (insts_of (slice_get blocks v))
bar_at-map value [] v = refl
bar_at-map value (b ∷ bs) zero = refl
bar_at-map value (b ∷ bs) (suc v) = bar_at-map value bs v

-- an instruction at a position defines the value, in the whole list and in any longer beginning
pub defines_at : (value : Id) (insts : List Inst) (position : ℕ) → StandsAt value insts position → defines value insts ≡ true
defines_at value [] position at = absurd (let e : None ≡ Some at.0 = at.1 in cc)
defines_at value (i ∷ is) zero at =
    let e : Some i ≡ Some at.0 = at.1 in
    let same : i ≡ at.0 = cc in
    ap (λ b. b || defines value is) (ap (λ (j : Inst). same_id j.id value) same ∙ at.2)
defines_at value (i ∷ is) (suc position) at = or_true (same_id i.id value) (defines value is) (defines_at value is position at)

pub defines_before : (value : Id) (insts : List Inst) (position before : ℕ) → StandsAt value insts position → position < before
    → defines value (take before insts) ≡ true
defines_before value [] position before at low = absurd (let e : None ≡ Some at.0 = at.1 in cc)
defines_before value (i ∷ is) position zero at low = absurd (omega arith)
defines_before value (i ∷ is) zero (suc before) at low =
    let e : Some i ≡ Some at.0 = at.1 in
    let same : i ≡ at.0 = cc in
    ap (λ b. b || defines value (take before is)) (ap (λ (j : Inst). same_id j.id value) same ∙ at.2)
defines_before value (i ∷ is) (suc position) (suc before) at low =
    or_true (same_id i.id value) (defines value (take before is)) (defines_before value is position before at (omega arith))

module _ (func : Func) (value : Id) (before end : ℕ) (graph : List (List ℕ)) (bars_list : List Bool) (ds : List (Option ℕ))
    (graph_is : graph ≡ graph_of func) (bars_are : bars_list ≡ map (λ (b : Block). defines value b.insts) func.blocks)
    (are : AreDistances graph (bar_at bars_list) end ds) where
  same_bars : (v : ℕ) → bar_at bars_list v ≡ bars func value before end v
  same_bars v = ap (λ (l : List Bool). bar_at l v) bars_are ∙ bar_at-map value func.blocks v

  of_func : AreDistances (graph_of func) (bar_at bars_list) end ds
  of_func = let P : List (List ℕ) → Type 0 = λ g. AreDistances g (bar_at bars_list) end ds in subst P graph_is are

  -- no distance from the entry: nothing is missed
  pub miss_none : (read : List (Option ℕ)) → read ≡ ds → None ≡ distance_at read 0 → IsAvailableAt func value before end
  miss_none read same at =
      let none : None ≡ distance_at ds 0 = at ∙ ap (λ (d : List (Option ℕ)). distance_at d 0) same in
      available_none func value before end (λ entry way av.
      let k = of_func.complete 0 way entry (weaken (graph_of func) (bars func value before end) (bar_at bars_list) end (λ v e. same_bars v ∙ e) 0 way av) in
      (let clash : None ≡ Some k.0 = none ∙ k.1 in cc))

  -- a distance: the least way of so many edges is the least walk that misses
  pub miss_least : (read : List (Option ℕ)) → read ≡ ds → (taken : List (Option ℕ)) → taken ≡ ds → (len : ℕ) (walk : List ℕ) → Some len ≡ distance_at read 0
      → LeadsLeast graph taken len walk → false ≡ is_param value func → false ≡ defines value (take before (insts_at func end))
      → IsLeastMiss func value before end walk
  miss_least read same taken same_taken len walk at leads no_param no_last =
      let start : distance_at ds 0 ≡ Some len = sym (at ∙ ap (λ (d : List (Option ℕ)). distance_at d 0) same) in
      let P : List (List ℕ) → Type 0 = λ g. LeadsLeast g ds len walk in
      let Q : List (Option ℕ) → Type 0 = λ d. LeadsLeast graph d len walk in
      let entry : 0 < length (graph_of func) = (let h : 0 < length ds = within ds 0 len start in let l : length ds ≡ length (graph_of func) = of_func.long in omega (arith, h, l)) in
      least_walk func value before end (bar_at bars_list) ds len walk same_bars of_func start entry (subst P graph_is (subst Q same_taken leads)) (sym no_param) (sym no_last)

any_at : {X : Type 0} → (test : X → Bool) (xs : List X) (k : ℕ) (x : X) → Some x ≡ slice_get xs k → test x ≡ true → list_any test xs ≡ true
any_at test [] k x at holds = absurd (cc)
any_at test (y ∷ ys) zero x at holds = let same : x ≡ y = cc in ap (λ b. b || list_any test ys) (ap test (sym same) ∙ holds)
any_at test (y ∷ ys) (suc k) x at holds = or_true (test y) (list_any test ys) (any_at test ys k x at holds)

pub param_at : (func : Func) (value : Id) (k : ℕ) (p : Param) → Some p ≡ slice_get func.params k → same_id p.id value ≡ true → is_param value func ≡ true
param_at func value k p at holds = any_at (λ (q : Param). same_id q.id value) func.params k p at holds

-- a value whose bit is clear in a band
pub clear_available : (func : Func) (value : Id) (before end column home position : ℕ) (homes rows : List ℕ) → IsBand (graph_of func) homes rows
    → get_or homes column 0 ≡ home → StandsAt value (insts_at func home) position
    → (row : ℕ) × (slice_get rows end ≡ Some row) × (column < 64) × (bit_at row column ≡ 0) → IsAvailableAt func value before end
clear_available func value before end column home position homes rows band home_is at clear =
    available_none func value before end (λ entry way av.
    band column end clear.0 way clear.2 clear.1 clear.3
    (weaken (graph_of func) (bars func value before end) (at_home homes column) end (λ v free. away v free (at_home homes column v) refl) 0 way av))
  where
    away : (v : ℕ) → bars func value before end v ≡ false → (b : Bool) → at_home homes column v ≡ b → at_home homes column v ≡ false
    away v free false is = is
    away v free true is =
        let same : v ≡ home = eqb-true v (get_or homes column 0) is ∙ home_is in
        let there : defines value (insts_at func v) ≡ true = ap (λ w. defines value (insts_at func w)) same ∙ defines_at value (insts_at func home) position at in
        absurd (let clash : false ≡ true = sym free ∙ there in cc)

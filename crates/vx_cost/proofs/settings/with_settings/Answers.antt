-- The first faulty word is the one at which the walk stops.
use Rattle.std.proofs.Common.{◌≡◌, ◌+◌, ◌<◌, length, map, string_bytes, true, false, Some, refl, ◌∙◌, sym, ap, subst, arith, slice_get, get_or}
use Rattle.std.proofs.lemmas.Option.{slice_get-get_or}
use Rattle.std.proofs.lemmas.List.{length-map}
use Rattle.vx_cost.specs.Keys.{place_of}
use Rattle.vx_cost.specs.Settings.{IsSetting, IsBadAt, IsTwiceAt, IsFirstFault}
use Rattle.vx_cost.proofs.Spelling.{place_bound}
use Rattle.vx_cost.proofs.Steps.{IsAfter, RefusesBad, RefusesTwice, refuses_bad, refuses_twice, word_there, not_twice, not_bad, same_first, one_more, all_read, none_faulty}
use Rattle.vx_cost.proofs.settings.with_settings.Goals as goal

bad_at : (c : goal.In_default) → RefusesBad (map string_bytes c.args.words.now) c.loop-word.index
bad_at c =
    let at : slice_get (map string_bytes c.args.words.now) c.loop-word.index ≡ Some (string_bytes c.word-item.result)
    = word_there string_bytes c.args.words.now c.loop-word.word-index c.loop-word.index c.word-item.result c.loop-word.invariant.place (omega arith) c.word-item.is in
    refuses_bad (map string_bytes c.args.words.now) c.loop-word.index c.loop-word.taken c.args.t.costs c.loop-word.table.costs (string_bytes c.word-item.result) c.loop-word.invariant.read at
    (λ key n s. c.in_default.ensures.none key n (subst (λ v. IsSetting v key n) (sym c.as_str.ensures.value) s))

pub returns-in_default-clause-good : goal.returns-in_default-clause-good
returns-in_default-clause-good c = (λ e. cc, λ none. absurd (none c.loop-word.index (bad_at c).first.fault))

pub returns-in_default-clause-bad : goal.returns-in_default-clause-bad
returns-in_default-clause-bad c = λ k. (
  λ e. (let i : c.loop-word.index ≡ k = cc in
      (subst (IsFirstFault (map string_bytes c.args.words.now)) i (bad_at c).first, subst (IsBadAt (map string_bytes c.args.words.now)) i (bad_at c).bad)),
  λ p. (let i : c.loop-word.index ≡ k = same_first (map string_bytes c.args.words.now) c.loop-word.index k (bad_at c).first p.0 in cc),
)

pub returns-in_default-clause-twice : goal.returns-in_default-clause-twice
returns-in_default-clause-twice c = λ k. (λ e. cc, λ p. absurd (not_twice (map string_bytes c.args.words.now) c.loop-word.index k (bad_at c) p.0 p.1))

twice_at : (c : goal.Then-taken-place) → RefusesTwice (map string_bytes c.args.words.now) c.loop-word.index
twice_at c =
    let at : slice_get (map string_bytes c.args.words.now) c.loop-word.index ≡ Some (string_bytes c.word-item.result)
    = word_there string_bytes c.args.words.now c.loop-word.word-index c.loop-word.index c.word-item.result c.loop-word.invariant.place (omega arith) c.word-item.is in
    let sets : IsSetting (string_bytes c.word-item.result) c.in-Some.setting.key c.in-Some.setting.cost
    = subst (λ v. IsSetting v c.in-Some.setting.key c.in-Some.setting.cost) c.as_str.ensures.value c.in-Some.ensures.found in
    let place : c.place-place.result ≡ place_of c.in-Some.setting.key = c.place-place.ensures.place in
    let within : place_of c.in-Some.setting.key < length c.loop-word.taken = omega (arith, place_bound c.in-Some.setting.key, c.loop-word.invariant.read.marks) in
    let marked : get_or c.loop-word.taken (place_of c.in-Some.setting.key) false ≡ true = rw (← place) c.if-taken-place.true in
    refuses_twice (map string_bytes c.args.words.now) c.loop-word.index c.loop-word.taken c.args.t.costs c.loop-word.table.costs c.in-Some.setting.key c.in-Some.setting.cost c.loop-word.invariant.read
    (record { word = string_bytes c.word-item.result; there = at; setting = sets })
    (slice_get-get_or c.loop-word.taken (place_of c.in-Some.setting.key) false within ∙ ap Some marked)

pub returns-then-taken-place-clause-good : goal.returns-then-taken-place-clause-good
returns-then-taken-place-clause-good c = (λ e. cc, λ none. absurd (none c.loop-word.index (twice_at c).first.fault))

pub returns-then-taken-place-clause-bad : goal.returns-then-taken-place-clause-bad
returns-then-taken-place-clause-bad c = λ k. (λ e. cc, λ p. absurd (not_bad (map string_bytes c.args.words.now) c.loop-word.index k (twice_at c) p.0 p.1))

pub returns-then-taken-place-clause-twice : goal.returns-then-taken-place-clause-twice
returns-then-taken-place-clause-twice c = λ k. (
  λ e. (let i : c.loop-word.index ≡ k = cc in
      (subst (IsFirstFault (map string_bytes c.args.words.now)) i (twice_at c).first, subst (IsTwiceAt (map string_bytes c.args.words.now)) i (twice_at c).twice)),
  λ p. (let i : c.loop-word.index ≡ k = same_first (map string_bytes c.args.words.now) c.loop-word.index k (twice_at c).first p.0 in cc),
)

pub loop-word-preserved : goal.loop-word-preserved
loop-word-preserved c =
    let at : slice_get (map string_bytes c.args.words.now) c.loop-word.index ≡ Some (string_bytes c.word-item.result)
    = word_there string_bytes c.args.words.now c.loop-word.word-index c.loop-word.index c.word-item.result c.loop-word.invariant.place (omega arith) c.word-item.is in
    let sets : IsSetting (string_bytes c.word-item.result) c.in-Some.setting.key c.in-Some.setting.cost
    = subst (λ v. IsSetting v c.in-Some.setting.key c.in-Some.setting.cost) c.as_str.ensures.value c.in-Some.ensures.found in
    let place : c.place-place.result ≡ place_of c.in-Some.setting.key = c.place-place.ensures.place in
    let within : place_of c.in-Some.setting.key < length c.loop-word.taken = omega (arith, place_bound c.in-Some.setting.key, c.loop-word.invariant.read.marks) in
    let free : get_or c.loop-word.taken (place_of c.in-Some.setting.key) false ≡ false = rw (← place) c.if-taken-place.false in
    record {
      place = ap (λ n. n + 1) c.loop-word.invariant.place;
      read = rw place (one_more (map string_bytes c.args.words.now) c.loop-word.index c.loop-word.taken c.args.t.costs c.loop-word.table.costs c.in-Some.setting.key c.in-Some.setting.cost c.loop-word.invariant.read
          (record { word = string_bytes c.word-item.result; there = at; setting = sets })
          (slice_get-get_or c.loop-word.taken (place_of c.in-Some.setting.key) false within ∙ ap Some free));
    }

-- all words were read
all_at : (c : goal.After-loop-word) → IsAfter (map string_bytes c.args.words.now) (length (map string_bytes c.args.words.now)) c.loop-word.taken c.args.t.costs c.loop-word.table.costs
all_at c =
    let end : c.loop-word.index ≡ length (map string_bytes c.args.words.now) = omega (arith, length-map c.args.words.now string_bytes) in
    subst (λ i. IsAfter (map string_bytes c.args.words.now) i c.loop-word.taken c.args.t.costs c.loop-word.table.costs) end c.loop-word.invariant.read

pub returns-clause-ok : goal.returns-clause-ok
returns-clause-ok c = all_read (map string_bytes c.args.words.now) c.loop-word.taken c.args.t c.loop-word.table (all_at c)

pub returns-clause-good : goal.returns-clause-good
returns-clause-good c = (λ e k f. none_faulty (map string_bytes c.args.words.now) c.loop-word.taken c.args.t.costs c.loop-word.table.costs k (all_at c) f, λ none. refl)

pub returns-clause-bad : goal.returns-clause-bad
returns-clause-bad c = λ k. (λ e. cc, λ p. absurd (none_faulty (map string_bytes c.args.words.now) c.loop-word.taken c.args.t.costs c.loop-word.table.costs k (all_at c) p.0.fault))

pub returns-clause-twice : goal.returns-clause-twice
returns-clause-twice c = λ k. (λ e. cc, λ p. absurd (none_faulty (map string_bytes c.args.words.now) c.loop-word.taken c.args.t.costs c.loop-word.table.costs k (all_at c) p.0.fault))

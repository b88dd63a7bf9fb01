-- What is known at a function's start, one parameter more.
use Rattle.std.proofs.Common.{◌≡◌, refl, ap, pos, Bool, true, false, None, Some, List, [], ◌∷◌, ◌++◌, cond, arith, nat_eq, ◌&&◌}
use Rattle.std.proofs.Math.Path.{fun_ext}
use Rattle.std.proofs.lemmas.Bool.Decides.{nat_tests}
use Rattle.ir_types.specs.declared.id.Id.{Id}
use Rattle.ir_types.specs.declared.func.Param.{Param}
use Rattle.ir_model.specs.Values.{same_id}
use Rattle.vx_serial.specs.Pair.{Lead, leads_at_start, set_lead}

and_both : (a b : Bool) → a && b ≡ true → (a ≡ true) × (b ≡ true)
and_both true b e = (refl, e)
and_both false b e = absurd cc

same_id-same : (x y : Id) → same_id x y ≡ true → x ≡ y
same_id-same x y h = λ i. record { region = region i; k = k i }
  where
    region : x.region ≡ y.region
    region = let e = and_both (nat_eq x.region y.region) (nat_eq x.k y.k) h in let f = e.0 in grind (arith, nat_tests)

    k : x.k ≡ y.k
    k = let e = and_both (nat_eq x.region y.region) (nat_eq x.k y.k) h in let f = e.1 in grind (arith, nat_tests)

at_more : (ps : List Param) (p : Param) (x : Id) → leads_at_start (ps ++ p ∷ []) x ≡ set_lead (leads_at_start ps) p.id (Some (p.id, pos 0)) x
at_more [] p x = by_test (same_id x p.id) refl
  where
    by_test : (b : Bool) → same_id x p.id ≡ b → cond {A = Lead} b (Some (x, pos 0)) None ≡ cond {A = Lead} b (Some (p.id, pos 0)) None
    by_test true e = ap (λ y. Some (y, pos 0)) (same_id-same x p.id e)
    by_test false e = refl
at_more (q ∷ ps) p x = by_test (same_id x q.id) (same_id x p.id) refl (at_more ps p x)
  where
    by_test : (a b : Bool) → same_id x p.id ≡ b →
        leads_at_start (ps ++ p ∷ []) x ≡ cond {A = Lead} b (Some (p.id, pos 0)) (leads_at_start ps x) →
        cond {A = Lead} a (Some (x, pos 0)) (leads_at_start (ps ++ p ∷ []) x) ≡ cond {A = Lead} b (Some (p.id, pos 0)) (cond {A = Lead} a (Some (x, pos 0)) (leads_at_start ps x))
    by_test true true e more = ap (λ y. Some (y, pos 0)) (same_id-same x p.id e)
    by_test true false e more = refl
    by_test false b e more = more

pub leads_at_start-more : (ps : List Param) (p : Param) → leads_at_start (ps ++ p ∷ []) ≡ set_lead (leads_at_start ps) p.id (Some (p.id, pos 0))
leads_at_start-more ps p = fun_ext (at_more ps p)

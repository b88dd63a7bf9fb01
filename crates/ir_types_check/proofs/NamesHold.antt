-- A draft that resolves has names that stand for the module.
use Rattle.std.proofs.Common.{◌≡◌, [], Result, Ok, Err, refl, ap}
use Rattle.ir_draft.specs.declared.draft.Draft.{Draft}
use Rattle.ir_types_check.specs.declared.resolved.Resolved.{Resolved}
use Rattle.ir_types_check.specs.declared.refusal.ResolveRefusal.{ResolveRefusal}
use Rattle.ir_types_check.specs.Answers.{◌>>=◌}
use Rattle.ir_types_check.specs.Tops.{tops_of}
use Rattle.ir_types_check.specs.Typed.{items_typed}
use Rattle.ir_types_check.specs.Resolved.{resolved_items, module_of, resolved_with, resolved_of}
use Rattle.ir_types_check.specs.Named.{Names}

refused : {A P : Type 0} {e : ResolveRefusal} {a : A} → Err e ≡ Ok a → P
refused e = cc

then_ok : {A B P : Type 0} (o : Result A ResolveRefusal) (f : A → Result B ResolveRefusal) (b : B) → (o >>= f) ≡ Ok b → ((a : A) → o ≡ Ok a → f a ≡ Ok b → P) → P
then_ok (Ok a) f b e k = k a refl e
then_ok (Err x) f b e k = refused e

pub names_hold : (d : Draft) (r : Resolved) → resolved_of d ≡ Ok r → Names d.items r.«module»
unfolding resolved_of resolved_with
names_hold d r e =
    then_ok (tops_of d.items) (λ tops. resolved_with tops d.items) r e (λ tops once a.
    then_ok (resolved_items tops.scope (record { items = []; lines = [] }) d.items) (λ done. items_typed tops.scope d.items >>= λ _. Ok (module_of tops d.items done)) r a (λ done known b.
    then_ok (items_typed tops.scope d.items) (λ _. Ok (module_of tops d.items done)) r b (λ _ typed c.
    let is : module_of tops d.items done ≡ r = cc in
    record { tops = tops; once = once; resolved = done; known = known; is = ap (λ (x : Resolved). x.«module») is })))

-- Each reply but the first and want of memory says that something stands against the command.
use Rattle.std.proofs.Common.{◌≡◌, ℕ, ◌<◌, ◌≤◌, List, Some, None, Option, Result, Ok, Err, inl, inr, refl, sym, ◌∙◌, ap, subst, length, arith}
use Rattle.std.specs.Prelude.{IfSome}
use Rattle.ir_types.specs.declared.module.Module.{Module}
use Rattle.ir_types_check.specs.declared.resolved.Resolved.{Resolved}
use Rattle.vec_words.specs.declared.commands.Command.{Command}
use Rattle.vec_top.specs.declared.fault.Fault.TheVariants.{Refused, Word, ReadFault, WriteFault, TooLong, NoMemory}
use Rattle.vec_top.specs.Accepts.{Resolves, Accepts}
use Rattle.vec_top.specs.Results.{result_of}
use Rattle.vec_top.specs.Replies.{byte_limit}
use Rattle.vec_top.specs.Complete.{AcceptedIsDone}
use Rattle.vec_top.proofs.Accepting.{given, resolved_again}

of_bytes : (Q : List ℕ → Type 0) (o : Option (List ℕ)) (bytes : List ℕ) → o ≡ Some bytes → IfSome o Q → Q bytes
of_bytes Q o bytes e h = subst (λ (x : Option (List ℕ)). IfSome x Q) e h

ok_is : {A B : Type 0} (x y : A) → (let r : Result A B = Ok x in r ≡ Ok y) → x ≡ y
ok_is x y e = cc

not_both : {A B : Type 0} (x : A) (y : B) (r : Result A B) → r ≡ Ok x → r ≡ Err y → ⊥
not_both x y r p q = let e : Ok x ≡ Err y = sym p ∙ q in cc

-- a text is one module that is accepted, at most
pub accepted_once : (bytes : List ℕ) (m n : Module) → Accepts bytes m → Accepts bytes n → m ≡ n
accepted_once bytes m n a b =
    let g : (r : Resolved) × Resolves bytes r × (r.«module» ≡ m) = given bytes m a in
    sym g.2 ∙ resolved_again bytes n g.0 g.1 b

not_more : (bytes : List ℕ) → length bytes ≤ byte_limit → byte_limit < length bytes → ⊥
not_more bytes less more = omega (arith, less, more)

pub done : AcceptedIsDone
done words s None r w = inl refl
done words s (Some (Refused cause)) r w = absurd (of_bytes (λ bytes. (m : Module) → Accepts bytes m → ⊥) s.left w.bytes w.left r.no_module w.input w.accepted)
done words s (Some (Word place)) (inl u) w = absurd (not_both _ _ _ w.says u.word)
done words s (Some (Word place)) (inr u) w =
    let command : u.reads_all.command ≡ w.command = ok_is u.reads_all.command w.command (sym u.reads_all.says ∙ w.says) in
    let other : (m : Module) × Accepts w.bytes m × (result_of u.reads_all.command m ≡ Err place) = of_bytes (λ bytes. (m : Module) × Accepts bytes m × (result_of u.reads_all.command m ≡ Err place)) s.left w.bytes w.left u.word in
    let same : other.0 ≡ w.input = accepted_once w.bytes other.0 w.input other.1 w.accepted in
    absurd (not_both _ _ _ w.fits (sym (ap (λ (c : Command). result_of c other.0) command ∙ ap (λ (m : Module). result_of w.command m) same) ∙ other.2))
done words s (Some ReadFault) r w = absurd (w.reads r.rose)
done words s (Some WriteFault) r w = absurd (w.writes r.rose)
done words s (Some TooLong) r w = absurd (not_more w.bytes w.within (of_bytes (λ bytes. byte_limit < length bytes) s.left w.bytes w.left r.long))
done words s (Some NoMemory) r w = inr refl

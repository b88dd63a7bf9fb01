-- The place of a faulty word, command by command.
use Rattle.std.proofs.Common.{◌≡◌, ℕ, suc, ◌+◌, ◌<◌, ◌≤◌, Bool, true, false, cond, Option, Some, None, Result, Ok, Err, List, [], ◌∷◌, ◌++◌, take, length, bytes_eq, codes, refl, ap, ◌∙◌, subst, arith}
use Rattle.vx_digits.specs.Numbers.{number_of, one_more}
use Rattle.vec_words.specs.declared.commands.Command.{Command}
use Rattle.vec_words.specs.declared.commands.Command.TheVariants.{Print, Opt, Run}
use Rattle.vec_words.specs.Numbers.{steps_of, plain_of}
use Rattle.vec_words.specs.Pieces.{cut, closed}
use Rattle.vec_words.specs.Calls.{is_some, call_of, contents_of}
use Rattle.vec_words.specs.Commands.{alone, bad_from, unless, with_call, with_bound, with_steps, run_of, command_of, IsFine, IsPlace}

-- where words are refused after `n` others: their beginning up to the fault is one of words that hold, and with the fault it is none
pub record Placed (read : List (List ℕ) → Result Command ℕ) (n : ℕ) (words : List (List ℕ)) (k : ℕ) : Type 0 where
  pub j : ℕ
  pub place : k ≡ n + j
  pub within : j ≤ length words
  pub more : List (List ℕ)
  pub command : Command
  pub fine : read (take j words ++ more) ≡ Ok command
  pub still : j < length words → (rest : List (List ℕ)) → read (take (suc j) words ++ rest) ≡ Err k

-- at the first word, or for want of it
at_once : (read : List (List ℕ) → Result Command ℕ) (n : ℕ) (words : List (List ℕ)) (k : ℕ) → k ≡ n → (more : List (List ℕ)) (c : Command) → read more ≡ Ok c
    → (0 < length words → (rest : List (List ℕ)) → read (take 1 words ++ rest) ≡ Err k) → Placed read n words k
at_once read n words k e more c f s = record { j = 0; place = omega arith; within = omega arith; more = more; command = c; fine = f; still = s }

-- after one word more
after_one : (read next : List (List ℕ) → Result Command ℕ) (n : ℕ) (w : List ℕ) (ws : List (List ℕ)) (k : ℕ) → ((us : List (List ℕ)) → read (w ∷ us) ≡ next us)
    → Placed next (suc n) ws k → Placed read n (w ∷ ws) k
after_one read next n w ws k e p = record {
  j = suc p.j;
  place = omega arith;
  within = omega arith;
  more = p.more;
  command = p.command;
  fine = e (take p.j ws ++ p.more) ∙ p.fine;
  still = λ h rest. e (take (suc p.j) ws ++ rest) ∙ p.still (omega arith) rest;
}

-- ---- global words

pub record FirstBad (at : ℕ) (gs : List (List ℕ)) (k : ℕ) : Type 0 where
  pub j : ℕ
  pub place : k ≡ at + j
  pub there : j < length gs
  pub before : bad_from at (take j gs ++ []) ≡ None
  pub still : (rest : List (List ℕ)) → bad_from at (take (suc j) gs ++ rest) ≡ Some k

bad_cons : (b : Bool) (at : ℕ) (g : List ℕ) (gs : List (List ℕ)) (k : ℕ) → is_some (contents_of g) ≡ b → cond b (bad_from (suc at) gs) (Some at) ≡ Some k
    → (bad_from (suc at) gs ≡ Some k → FirstBad (suc at) gs k) → FirstBad at (g ∷ gs) k
bad_cons true at g gs k t e more =
    let r : FirstBad (suc at) gs k = more e in
    record {
      j = suc r.j;
      place = omega arith;
      there = omega arith;
      before = ap (λ b. cond b (bad_from (suc at) (take r.j gs ++ [])) (Some at)) t ∙ r.before;
      still = λ rest. ap (λ b. cond b (bad_from (suc at) (take (suc r.j) gs ++ rest)) (Some at)) t ∙ r.still rest;
    }
bad_cons false at g gs k t e more =
    let same : at ≡ k = cc in
    record {
      j = 0;
      place = omega arith;
      there = omega arith;
      before = refl;
      still = λ rest. ap (λ b. cond b (bad_from (suc at) rest) (Some at)) t ∙ e;
    }

first_bad : (at : ℕ) (gs : List (List ℕ)) (k : ℕ) → bad_from at gs ≡ Some k → FirstBad at gs k
first_bad at [] k e = cc
first_bad at (g ∷ gs) k e = bad_cons (is_some (contents_of g)) at g gs k refl e (λ f. first_bad (suc at) gs k f)

unless_bad : (o : Option ℕ) (c : Command) (k : ℕ) → unless o c ≡ Err k → o ≡ Some k
unless_bad None c k e = cc
unless_bad (Some j) c k e = cc

-- ---- the call word

abbrev pub zero_words : List (List ℕ)
zero_words = codes "z()" ∷ []

z_holds : is_some (call_of (codes "z()")) ≡ true
unfolding call_of cut closed
z_holds = refl

call_holds : (s : ℕ) → with_call s zero_words ≡ Ok (Run s zero_words)
call_holds s = ap (λ b. cond b (Ok (Run s zero_words)) (Err 3)) z_holds

call_case : (b : Bool) (s : ℕ) (c : List ℕ) (gs : List (List ℕ)) (k : ℕ) → is_some (call_of c) ≡ b → cond b (unless (bad_from 4 gs) (Run s (c ∷ gs))) (Err 3) ≡ Err k
    → Placed (with_call s) 3 (c ∷ gs) k
call_case false s c gs k t e =
    let same : k ≡ 3 = cc in
    at_once (with_call s) 3 (c ∷ gs) k same zero_words (Run s zero_words) (call_holds s)
    (λ h rest. ap (λ b. cond b (unless (bad_from 4 rest) (Run s (c ∷ rest))) (Err 3)) t ∙ e)
call_case true s c gs k t e =
    let r : FirstBad 4 gs k = first_bad 4 gs k (unless_bad (bad_from 4 gs) (Run s (c ∷ gs)) k e) in
    let front : List (List ℕ) = take r.j gs ++ [] in
    record {
      j = suc r.j;
      place = omega arith;
      within = omega arith;
      more = [];
      command = Run s (c ∷ (take r.j gs ++ []));
      fine = ap (λ b. cond b (unless (bad_from 4 (take r.j gs ++ [])) (Run s (c ∷ (take r.j gs ++ [])))) (Err 3)) t
          ∙ ap (λ o. unless o (Run s (c ∷ (take r.j gs ++ [])))) r.before;
      still = λ h rest. ap (λ b. cond b (unless (bad_from 4 (take (suc r.j) gs ++ rest)) (Run s (c ∷ (take (suc r.j) gs ++ rest)))) (Err 3)) t
          ∙ ap (λ o. unless o (Run s (c ∷ (take (suc r.j) gs ++ rest)))) (r.still rest);
    }

placed_call : (s : ℕ) (ws : List (List ℕ)) (k : ℕ) → with_call s ws ≡ Err k → Placed (with_call s) 3 ws k
placed_call s [] k e =
    let same : k ≡ 3 = cc in
    at_once (with_call s) 3 [] k same zero_words (Run s zero_words) (call_holds s) (λ h rest. absurd (omega arith))
placed_call s (c ∷ gs) k e = call_case (is_some (call_of c)) s c gs k refl e

-- ---- the bound

abbrev pub bound_words : List (List ℕ)
bound_words = codes "0" ∷ zero_words

zero_bound : steps_of (codes "0") ≡ Some 0
unfolding steps_of plain_of number_of one_more
zero_bound = refl

bound_holds : with_steps bound_words ≡ Ok (Run 0 zero_words)
bound_holds = ap (λ o. with_bound o zero_words) zero_bound ∙ call_holds 0

bound_case : (o : Option ℕ) (n : List ℕ) (ws : List (List ℕ)) (k : ℕ) → steps_of n ≡ o → with_bound o ws ≡ Err k → Placed with_steps 2 (n ∷ ws) k
bound_case None n ws k t e =
    let same : k ≡ 2 = cc in
    at_once with_steps 2 (n ∷ ws) k same bound_words (Run 0 zero_words) bound_holds (λ h rest. ap (λ o. with_bound o rest) t ∙ e)
bound_case (Some s) n ws k t e = after_one with_steps (with_call s) 2 n ws k (λ us. ap (λ o. with_bound o us) t) (placed_call s ws k e)

placed_steps : (ws : List (List ℕ)) (k : ℕ) → with_steps ws ≡ Err k → Placed with_steps 2 ws k
placed_steps [] k e =
    let same : k ≡ 2 = cc in
    at_once with_steps 2 [] k same bound_words (Run 0 zero_words) bound_holds (λ h rest. absurd (omega arith))
placed_steps (n ∷ ws) k e = bound_case (steps_of n) n ws k refl e

-- ---- after `run`

abbrev pub option_words : List (List ℕ)
option_words = codes "--steps" ∷ bound_words

option_holds : run_of option_words ≡ Ok (Run 0 zero_words)
option_holds = bound_holds

option_case : (b : Bool) (o : List ℕ) (ws : List (List ℕ)) (k : ℕ) → bytes_eq o (codes "--steps") ≡ b → cond b (with_steps ws) (Err 1) ≡ Err k → Placed run_of 1 (o ∷ ws) k
option_case false o ws k t e =
    let same : k ≡ 1 = cc in
    at_once run_of 1 (o ∷ ws) k same option_words (Run 0 zero_words) option_holds (λ h rest. ap (λ b. cond b (with_steps rest) (Err 1)) t ∙ e)
option_case true o ws k t e = after_one run_of with_steps 1 o ws k (λ us. ap (λ b. cond b (with_steps us) (Err 1)) t) (placed_steps ws k e)

placed_run : (ws : List (List ℕ)) (k : ℕ) → run_of ws ≡ Err k → Placed run_of 1 ws k
placed_run [] k e =
    let same : k ≡ 1 = cc in
    at_once run_of 1 [] k same option_words (Run 0 zero_words) option_holds (λ h rest. absurd (omega arith))
placed_run (o ∷ ws) k e = option_case (bytes_eq o (codes "--steps")) o ws k refl e

-- ---- all words

-- nothing may stand after a command without words
placed_alone : (c : Command) (ws : List (List ℕ)) (k : ℕ) → alone c ws ≡ Err k → Placed (alone c) 1 ws k
placed_alone c [] k e = cc
placed_alone c (w ∷ ws) k e =
    let same : k ≡ 1 = cc in
    at_once (alone c) 1 (w ∷ ws) k same [] c refl (λ h rest. e)

abbrev pub tests : Bool → Bool → Bool → List (List ℕ) → Result Command ℕ
tests p o r ws = cond p (alone Print ws) (cond o (alone Opt ws) (cond r (run_of ws) (Err 0)))

command_case : (p o r : Bool) (w : List ℕ) (ws : List (List ℕ)) (k : ℕ) → ((us : List (List ℕ)) → command_of (w ∷ us) ≡ tests p o r us) → tests p o r ws ≡ Err k
    → Placed command_of 0 (w ∷ ws) k
command_case true o r w ws k t e = after_one command_of (alone Print) 0 w ws k t (placed_alone Print ws k e)
command_case false true r w ws k t e = after_one command_of (alone Opt) 0 w ws k t (placed_alone Opt ws k e)
command_case false false true w ws k t e = after_one command_of run_of 0 w ws k t (placed_run ws k e)
command_case false false false w ws k t e =
    let same : k ≡ 0 = cc in
    at_once command_of 0 (w ∷ ws) k same (codes "print" ∷ []) Print refl (λ h rest. t rest ∙ e)

placed_command : (ws : List (List ℕ)) (k : ℕ) → command_of ws ≡ Err k → Placed command_of 0 ws k
placed_command [] k e =
    let same : k ≡ 0 = cc in
    at_once command_of 0 [] k same (codes "print" ∷ []) Print refl (λ h rest. absurd (omega arith))
placed_command (w ∷ ws) k e =
    command_case (bytes_eq w (codes "print")) (bytes_eq w (codes "opt")) (bytes_eq w (codes "run")) w ws k (λ us. refl) e

-- what is refused is not Ok
not_ok : (r : Result Command ℕ) (k : ℕ) (c : Command) → r ≡ Err k → r ≡ Ok c → ⊥
not_ok r k c e f = cc

pub is_place : (ws : List (List ℕ)) (k : ℕ) → command_of ws ≡ Err k → IsPlace ws k
is_place ws k e =
    let p : Placed command_of 0 ws k = placed_command ws k e in
    let same : p.j ≡ k = omega arith in
    record {
      within = omega arith;
      fine = subst (λ j. IsFine (take j ws)) same (p.more, p.command, p.fine);
      faulty = λ h f. not_ok (command_of (take (suc k) ws ++ f.0)) k f.1 (subst (λ j. command_of (take (suc j) ws ++ f.0) ≡ Err k) same (p.still (omega arith) f.0)) f.2;
    }

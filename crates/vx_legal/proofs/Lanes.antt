-- Lanes one after another: what is answered for the first, and what is left.
use Rattle.std.proofs.Common.{◌≡◌, refl, sym, ap, ◌∙◌, Bool, true, false, ◌||◌, Option, List, [], ◌∷◌, ◌++◌, append_assoc}
use Rattle.ir_types.specs.declared.id.Id.{Id}
use Rattle.ir_types.specs.declared.opd.Opd.{Opd}
use Rattle.ir_types.specs.declared.inst.Inst.{Inst}
use Rattle.vx_view.specs.Answers.{is_value}
use Rattle.vx_serial.specs.Legal.{inst_of}
use Rattle.vx_legal.specs.Found.{found_of, is_lane}

or_true : (b : Bool) → (b || true) ≡ true
or_true true = refl
or_true false = refl

pub is_first : (left more : List Opd) (o : Opd) (x : Id) → left ≡ o ∷ more → is_value x o ≡ true → is_lane left x ≡ true
is_first left more o x e h = ap (λ l. is_lane l x) e ∙ ap (λ b. b || is_lane more x) h

pub is_later : (left more : List Opd) (o : Opd) (x : Id) → left ≡ o ∷ more → is_lane more x ≡ true → is_lane left x ≡ true
is_later left more o x e h = ap (λ l. is_lane l x) e ∙ ap (λ b. is_value x o || b) h ∙ or_true (is_value x o)

pub one_more : (block : List Inst) (left more : List Opd) (o : Opd) (all new whole : List (Option Inst)) (i : Option Inst) → left ≡ o ∷ more → all ++ found_of block left ≡ whole → i ≡ inst_of block o → new ≡ all ++ i ∷ [] →
    new ++ found_of block more ≡ whole
one_more block left more o all new whole i e h f n =
    ap (λ l. l ++ found_of block more) n ∙ append_assoc all (i ∷ []) (found_of block more) ∙ ap (λ j. all ++ j ∷ found_of block more) f ∙ ap (λ l. all ++ found_of block l) (sym e) ∙ h

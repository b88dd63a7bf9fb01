-- The literals of lines inside functions that are read: a pointer's is poison.
use Rattle.std.proofs.Common.{◌≡◌, ℕ, List, [], ◌∷◌, ◌++◌, Option, None, refl, codes}
use Rattle.std.proofs.lemmas.List.Elements.{All-nil, All-cons}
use Rattle.std.specs.List.{All}
use Rattle.ir_types.specs.declared.ty.Ty.{Ty}
use Rattle.ir_types.specs.declared.ty.Ty.TheVariants.{Ptr}
use Rattle.ir_draft.specs.declared.written.Written.{Written}
use Rattle.ir_draft.specs.declared.written.Written.TheVariants as written'
use Rattle.ir_draft.specs.declared.written.Arg.{Arg}
use Rattle.ir_forms.specs.declared.pairs.Incoming.{Incoming}
use Rattle.ir_words.specs.Words.{Words}
use Rattle.ir_forms.specs.Pieces.{Led, SpellsOperand, Named, Global, Literal, SpellsLanes, Scalar, NoPointer, Lanes, SpellsPair, Pair, SpellsPairs, LastPair, MorePairs}
use Rattle.ir_forms.specs.Forms.{arg}

-- a pointer's literal is poison
abbrev pub IsPoison : Written → Type 0
IsPoison (written'.Lit literal) = literal.ty ≡ Ptr → literal.lanes ≡ None ∷ []
IsPoison _ = Unit {0}

abbrev pub PoisonArg : Arg → Type 0
PoisonArg a = IsPoison a.opd

lanes_poison : {t : Ty} {ls : List (Option ℕ)} {ts rest : Words} → SpellsLanes t ls ts rest → t ≡ Ptr → ls ≡ None ∷ []
lanes_poison (Scalar w l word rest e) p = cc
lanes_poison (NoPointer rest) p = refl
lanes_poison (Lanes n w ls ts rest s) p = cc

pub operand : {t : Ty} {o : Written} {ts rest : Words} → SpellsOperand t o ts rest → IsPoison o
operand (Named name word rest e) = tt
operand (Global name word rest p e) = tt
operand (Literal ls ts rest s) = λ p. lanes_poison s p

pub other : {t : Ty} {o : Written} {ts : Words} (rest : Words) → Led (codes ",") (λ us. SpellsOperand t o us rest) ts → IsPoison o
other rest l = operand l.part

pair_poison : {t : Ty} {at : ℕ} {i : Incoming} {ts rest : Words} → SpellsPair t at i ts rest → All PoisonArg i.args
pair_poison {t} (Pair o name word ts rest s e) = All-cons PoisonArg (arg t o) [] (operand s) (All-nil PoisonArg)

more_poison : {t : Ty} {at : ℕ} {i : Incoming} {ts rest : Words} (js : List Arg) → SpellsPair t at i ts rest → All PoisonArg js → All PoisonArg (i.args ++ js)
more_poison {t} js (Pair o name word ts rest s e) more = All-cons PoisonArg (arg t o) js (operand s) more

pub pairs_poison : {t : Ty} {at : ℕ} {i : Incoming} {ts rest : Words} → SpellsPairs t at i ts rest → All PoisonArg i.args
pairs_poison (LastPair at i ts rest s e) = pair_poison s
pairs_poison (MorePairs at i j ts us rest s more) = more_poison j.args s (pairs_poison more)

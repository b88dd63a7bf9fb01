-- The refusal comes exactly at the first fault.
use Rattle.std.proofs.Common.{sym, ◌∙◌, refl, subst, arith}
use Rattle.ir_lex.specs.Tokens.{Lexed}
use Rattle.ir_lex.proofs.Classes.{clash}
use Rattle.ir_lex.proofs.Faulty.{fault_absent, found_first, first_once}
use Rattle.ir_lex.proofs.Laws.{lexed_by_cut}
use Rattle.ir_lex.proofs.tokens.Goals as goal

pub overflow_add-result : goal.overflow_add-result
overflow_add-result c = let found = (found_first _ _ (sym c.in-Some.ensures)).0 in omega arith

pub returns-in-Some-clause-fault : goal.returns-in-Some-clause-fault
returns-in-Some-clause-fault c = (_, refl, refl, (found_first _ _ (sym c.in-Some.ensures)).1)

pub returns-in-Some-clause-refused : goal.returns-in-Some-clause-refused
returns-in-Some-clause-refused c = λ k first. let e = first_once _ _ k (found_first _ _ (sym c.in-Some.ensures)).1 first in rw e refl

pub returns-in_err-cut-clause-refused : goal.returns-in_err-cut-clause-refused
returns-in_err-cut-clause-refused c = λ k first. clash _ (fault_absent _ _ _ (sym c.in_default.ensures) k) first.fault

pub returns-clause-refused : goal.returns-clause-refused
returns-clause-refused c = λ k first. clash _ (fault_absent _ _ _ (sym c.in_default.ensures) k) first.fault

pub returns-clause-lexed : goal.returns-clause-lexed
returns-clause-lexed c = subst (Lexed c.args.line.now) (sym (c.from_vec.ensures ∙ c.in_ok-cut.ensures)) (lexed_by_cut _ (sym c.in_default.ensures))

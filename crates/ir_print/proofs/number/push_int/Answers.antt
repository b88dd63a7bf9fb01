-- The digits of the common widths.
use Rattle.std.proofs.Common.{◌++◌, ◌∷◌, ap, sym, ◌∙◌}
use Rattle.std.specs.Fmt.{decimal, digits}
use Rattle.ir_print.proofs.number.push_int.Goals as goal

pub returns-in_ok-extend_from_slice-in-8 : goal.returns-in_ok-extend_from_slice-in-8
unfolding digits
returns-in_ok-extend_from_slice-in-8 c = c.in_ok-extend_from_slice-in-8.ensures.items ∙ ap (λ w. c.args.out.now.items ++ 105 ∷ decimal w) (sym c.in-8.is)

pub returns-in_ok-extend_from_slice-in-32 : goal.returns-in_ok-extend_from_slice-in-32
unfolding digits
returns-in_ok-extend_from_slice-in-32 c = c.in_ok-extend_from_slice-in-32.ensures.items ∙ ap (λ w. c.args.out.now.items ++ 105 ∷ decimal w) (sym c.in-32.is)

pub returns-in_ok-extend_from_slice-in-64 : goal.returns-in_ok-extend_from_slice-in-64
unfolding digits
returns-in_ok-extend_from_slice-in-64 c = c.in_ok-extend_from_slice-in-64.ensures.items ∙ ap (λ w. c.args.out.now.items ++ 105 ∷ decimal w) (sym c.in-64.is)

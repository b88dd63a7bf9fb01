-- The operands that an `Args` keeps.
use Rattle.std.specs.Prelude.{List, []}
use Rattle.ir_draft.specs.declared.written.Arg.{Arg}
use Rattle.ir_draft.specs.declared.args.Kept.{Kept}
use Rattle.ir_draft.specs.declared.args.Kept.TheVariants.{Nothing, One, Two, More}

abbrev pub kept_args : Kept → List Arg
kept_args Nothing = []
kept_args (One args) = args
kept_args (Two args) = args
kept_args (More list) = list

-- The borrow's end is told of the inner list, which is the outer's value.
use Rattle.std.proofs.Common.{ap}
use borrow.Follows.Closed.{read_of}
use Rattle.std.specs.Prelude.{slice_set}
use Rattle.std.specs.Option.{ghost_name_of}
use Rattle.vx_list.proofs.short.Short.get_mut.Goals as goal

pub returns : goal.returns
returns g c = (
  ap (λ v. read_of (ghost_name_of c.get_mut.result) (λ w. slice_set v c.args.at w) v) c.self.view_is,
  rw (← c.self.view_is) (record {
    writes = tt;
    there = c.get_mut.ensures.variant;
    item = c.get_mut.ensures.value;
  }),
)

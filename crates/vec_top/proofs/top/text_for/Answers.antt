-- A module that is accepted may be worked on.
use Rattle.vec_top.proofs.Accepting.{ready}
use Rattle.vec_top.proofs.top.text_for.Goals as goal

pub text_of-requires : goal.text_of-requires
text_of-requires c = ready c.args.bytes.items c.in_ok-module.module c.in_ok-module.ensures

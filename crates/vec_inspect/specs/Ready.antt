-- A view that may be asked for an order: it stands for its own module, and that is formed.
use Rattle.ir_types.specs.Formed.{IsFormed}
use Rattle.vx_view.specs.Views.{State, StandsFor, IsAskable}

pub record IsReady (s : State) : Type 0 where
  pub askable : IsAskable s
  pub own : StandsFor s s.contents.own
  pub formed : IsFormed s.contents.own

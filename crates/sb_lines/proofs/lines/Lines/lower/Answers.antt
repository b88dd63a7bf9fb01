-- The frame with what stands in each block.
use Rattle.std.proofs.Common.{◌≡◌, subst, IfOk}
use Rattle.sb_lines.specs.declared.arena.Arena.{Arena}
use Rattle.sb_lines.specs.Arena.{seen}
use Rattle.sb_lines.proofs.lines.Lines.lower.Goals as goal

pub returns : goal.returns
returns c = subst (λ (s : Arena). IfOk c.copy.result (λ m. m ≡ seen s)) c.self.view_is c.copy.ensures

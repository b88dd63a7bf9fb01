-- There is no node.
use Rattle.std.proofs.Common.{ap}
use Rattle.std.specs.Map.{lookup}
use Rattle.ir_types.specs.Available.{same_id}
use Rattle.sb_lines.specs.Arena.{same_key, key_of}
use Rattle.sb_lines.proofs.Opened.{no-rings}
use Rattle.sb_lines.proofs.arena.Arena.bare.Goals as goal

pub returns-clause-rings : goal.returns-clause-rings
returns-clause-rings c =
    no-rings (record { frame = c.in_ok-copy.field-0; funcs = c.in_ok-count_funcs.field-0; params = c.in_ok-params_of.field-0; nodes = c.new.result; marks = c.new-2.result; table = c.new-3.result })
    c.new.ensures.items
    (λ q. ap (lookup (same_key (key_of q))) c.new-2.ensures.empty)
    (λ id. ap (lookup (same_id id)) c.new-3.ensures.empty)

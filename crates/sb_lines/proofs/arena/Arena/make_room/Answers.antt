-- All nodes stay as they are.
use Rattle.sb_lines.proofs.Exchanged.{no-new, kept-rings, kept-contents}
use Rattle.sb_lines.proofs.arena.Arena.make_room.Goals as goal

pub returns-clause-rings : goal.returns-clause-rings
returns-clause-rings c =
    kept-rings c.args.self.now c.reserve.new.self c.requires.rings c.reserve.ensures.kept (no-new c.args.self.now c.reserve.new.self c.requires.rings c.reserve.ensures.kept c.reserve.ensures.node)

pub returns-clause-contents : goal.returns-clause-contents
returns-clause-contents c =
    kept-contents c.args.self.now c.reserve.new.self c.requires.rings c.reserve.ensures.kept (no-new c.args.self.now c.reserve.new.self c.requires.rings c.reserve.ensures.kept c.reserve.ensures.node)

-- A head that was not there stands before no use.
use Rattle.std.proofs.Common.{rules, ◌≡◌, refl, None}
use Rattle.std.specs.HashMap.{get}
use Rattle.ir_types.specs.Available.{same_id}
use Rattle.ir_types.proofs.Among.{same_is}
use Rattle.sb_uses.specs.Chains.{newest_of}
use Rattle.sb_uses.proofs.Entered.{names-same, stays-there}
use Rattle.sb_uses.proofs.chains.Chains.enter_head.Goals as goal

pub returns-in_ok-insert-clause-same : goal.returns-in_ok-insert-clause-same
returns-in_ok-insert-clause-same c =
    let absent : get same_id c.args.self.now.heads c.args.value ≡ None = search (rules) in
    names-same same_id same_is newest_of (get same_id c.args.self.now.heads) (get same_id c.insert.new.self) c.args.value None refl absent (c.in_ok-insert.ensures.updates.0)

pub returns-in_ok-insert-clause-keeps : goal.returns-in_ok-insert-clause-keeps
returns-in_ok-insert-clause-keeps c =
    stays-there same_id (get same_id c.args.self.now.heads) (get same_id c.insert.new.self) c.args.value None (c.in_ok-insert.ensures.updates.0)

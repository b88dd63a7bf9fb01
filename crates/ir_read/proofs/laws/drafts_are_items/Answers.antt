use Rattle.ir_read.proofs.ItemsRead.{draft_items}
use Rattle.ir_read.proofs.laws.drafts_are_items.Goals as goal

pub returns : goal.returns
returns c = draft_items

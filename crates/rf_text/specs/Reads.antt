-- What a text reads as.
--
-- The text is lines. Each line has one form, as a line of a function between a header and the next brace, and as a line of the module
-- elsewhere; a line with a lexical fault has none. The forms stand where they may, and so they are the items of a draft. No name is
-- defined twice, and each that is used is known; with what the names stand for in their place, the items are those of the module.
--
-- Nothing is said here of limits, of types, of walks and of byte order: those are asked of a module that was read.
use Rattle.std.specs.Prelude.{ℕ, List}
use Rattle.ir_types.specs.declared.module.Module.{Module}
use Rattle.ir_draft.specs.declared.draft.DraftItem.{DraftItem}
use Rattle.ir_read.specs.Items.{IsItems}
use Rattle.ir_types_check.specs.Named.{Names}

pub record Reads (bytes : List ℕ) (m : Module) : Type 0 where
  -- what the text's lines say, each where it may stand
  pub items : List DraftItem
  pub says : IsItems bytes items
  -- what their names stand for
  pub named : Names items m

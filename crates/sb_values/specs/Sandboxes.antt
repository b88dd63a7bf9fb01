-- What contracts see of a sandbox.
--
-- It has instructions that are linked in their blocks, and the use lists of their slots. `contents` is the module with its use lists;
-- `State` has beside it what was taken out of the lists and may come back, and how many slots there are.
use Rattle.std.specs.Prelude.{◌≡◌, ℕ, ◌≤◌, min}
use Rattle.ir_types.specs.declared.module.Module.{Module}
use Rattle.vx_view.specs.Uses.{IsExact}
use Rattle.vx_view.specs.UsesAfter.{Contents}
use Rattle.sb_uses.specs.Stock as slots
use Rattle.sb_uses.specs.Stock.{Stock, stock}
use Rattle.sb_uses.specs.Totals.{IdsApart, slots_of}
use Rattle.sb_lines.specs.Arena.{seen, room}
use Rattle.sb_values.specs.declared.parts.Parts.{Parts}

-- what contracts see of a `Sandbox`
abbrev pub Sandbox : Type 0
Sandbox = Parts

pub record State : Type 0 where
  pub own : Module
  pub stock : Stock
  pub held : ℕ

abbrev pub state : Parts → State
state p = record { own = seen p.lines; stock = stock p.slots; held = p.slots.held }

abbrev pub contents_of : State → Contents
contents_of s = record { own = s.own; lists = s.stock.lists }

-- the module with its use lists
abbrev pub contents : Parts → Contents
contents p = contents_of (state p)

-- how much changes may cost before they want memory
abbrev pub spare : Parts → ℕ
spare p = min (room p.lines) (slots.spare p.slots)

-- each id stands once, each use list has the slots of its value, each once, and the slots of all instructions are counted
pub record IsWhole (s : State) : Type 0 where
  pub apart : IdsApart s.own
  pub exact : IsExact s.own s.stock.lists
  pub held : s.held ≡ slots_of s.own
  pub few : s.held ≤ 4294967295

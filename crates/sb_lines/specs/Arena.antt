-- What `Lines` holds: its module, the ids that have a node, and the room for more.
use Rattle.std.specs.Prelude.{◌≡◌, ℕ, ◌-◌, ◌==◌, ◌&&◌, min, Bool, true, Option, None, Some, is_some, List, [], length, vec_capacity, option_and_then, option_map}
use Rattle.std.specs.HashMap.{get, spare}
use Rattle.ir_types.specs.declared.id.Id.{Id}
use Rattle.ir_types.specs.declared.id.Place.{Place}
use Rattle.ir_types.specs.declared.inst.Inst.{Inst}
use Rattle.ir_types.specs.declared.module.Module.{Module}
use Rattle.ir_types.specs.Available.{same_id}
use Rattle.vx_view.specs.Answers.{Standing}
use Rattle.sb_lines.specs.declared.nodes.Held.{Held}
use Rattle.sb_lines.specs.declared.nodes.Held.TheVariants.{Block, Line as LineHeld, Gone}
use Rattle.sb_lines.specs.declared.spot.Before.{Before}
use Rattle.sb_lines.specs.declared.spot.Before.TheVariants.{Line, End}
use Rattle.sb_lines.specs.declared.spot.Found.{Found}
use Rattle.sb_lines.specs.declared.arena.BlockKey.{BlockKey}
use Rattle.sb_lines.specs.declared.arena.Arena.{Arena}
use Rattle.sb_lines.specs.Filling.{filled}
use Rattle.sb_lines.specs.Nodes.{held, next, prev, lines}

-- ---- the module

abbrev pub same_key : BlockKey → BlockKey → Bool
same_key a b = (a.func == b.func) && (a.block == b.block)

abbrev pub key_of : Place → BlockKey
key_of place = record { func = place.func; block = place.block }

-- the mark of a block
abbrev pub mark : Arena → Place → Option ℕ
mark a place = get same_key a.marks (key_of place)

abbrev pub lines_from : Arena → Option ℕ → List Inst
lines_from a None = []
lines_from a (Some m) = lines (held a.nodes.items) (next a.nodes.items) (length a.nodes.items) m

-- what stands in a block
abbrev pub contents : Arena → Place → List Inst
contents a place = lines_from a (mark a place)

-- the module that it holds
abbrev pub seen : Arena → Module
seen a = filled (λ place insts. contents a place) a.frame

-- ---- ids and room

abbrev pub node : Arena → Id → Option ℕ
node a id = get same_id a.table id

-- an id has a node, though perhaps no instruction stands there now
abbrev pub knows : Arena → Id → Bool
knows a id = is_some (node a id)

-- all ids that have a node keep it
abbrev pub Keeps : Arena → Arena → Type 0
Keeps old new = (id : Id) → knows old id ≡ true → knows new id ≡ true

-- how many ids can come without more memory
abbrev pub room : Arena → ℕ
room a = min (vec_capacity a.nodes - length a.nodes.items) (spare a.table)

-- ---- where an instruction stands

-- an instruction with its block
pub record Told : Type 0 where
  pub place : Place
  pub inst : Inst

abbrev pub as_told : Found → Told
as_told f = record { place = f.place; inst = f.inst.now }

abbrev pub told_of : Standing → Told
told_of s = record { place = s.place; inst = s.inst }

abbrev pub told_held : Held → Option Told
told_held (LineHeld place inst) = Some (record { place = place; inst = inst })
told_held _ = None

-- the instruction of an id, by its node
abbrev pub standing : Arena → Id → Option Told
standing a id = option_and_then (λ y. told_held (held a.nodes.items y)) (node a id)

abbrev pub spot : Arena → Before → Option ℕ
spot a (Line id) = node a id
spot a (End place) = mark a place

-- ---- neighbours

abbrev pub id_in : Held → Option Id
id_in (LineHeld place inst) = Some inst.id
id_in _ = None

abbrev pub id_held : Arena → ℕ → Option Id
id_held a y = id_in (held a.nodes.items y)

abbrev pub inst_in : Held → Option Inst
inst_in (LineHeld place inst) = Some inst
inst_in _ = None

abbrev pub inst_held : Arena → ℕ → Option Inst
inst_held a y = inst_in (held a.nodes.items y)

abbrev pub place_in : Held → Option Place
place_in (LineHeld place inst) = Some place
place_in (Block place) = Some place
place_in Gone = None

abbrev pub place_held : Arena → ℕ → Option Place
place_held a y = place_in (held a.nodes.items y)

abbrev pub before_in : Held → Option Before
before_in (LineHeld place inst) = Some (Line inst.id)
before_in (Block place) = Some (End place)
before_in Gone = None

abbrev pub before_held : Arena → ℕ → Option Before
before_held a y = before_in (held a.nodes.items y)

-- the node of an instruction that stands in a block
abbrev pub line_of : Arena → Id → Option ℕ
line_of a id = option_and_then (λ y. option_map (λ (x : Id). y) (id_held a y)) (node a id)

abbrev pub next_of : Arena → Id → Option Id
next_of a id = option_and_then (λ y. id_held a (next a.nodes.items y)) (line_of a id)

abbrev pub prev_of : Arena → Id → Option Id
prev_of a id = option_and_then (λ y. id_held a (prev a.nodes.items y)) (line_of a id)

abbrev pub first_of : Arena → Place → Option Id
first_of a place = option_and_then (λ y. id_held a (next a.nodes.items y)) (mark a place)

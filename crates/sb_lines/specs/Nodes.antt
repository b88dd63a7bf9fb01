-- What nodes name and hold, and what stands in a block by them.
--
-- What is no node holds nothing. The instructions of a block are walked from its mark, from node to next node, as long as each holds one;
-- there are no more steps than nodes.
use Rattle.std.specs.Prelude.{◌≡◌, refl, ℕ, zero, suc, ◌==◌, cond, Option, None, Some, List, [], ◌∷◌, slice_get}
use Rattle.ir_types.specs.declared.id.Place.{Place}
use Rattle.ir_types.specs.declared.inst.Inst.{Inst}
use Rattle.vx_view.specs.Answers.{line}
use Rattle.sb_lines.specs.declared.nodes.Held.{Held}
use Rattle.sb_lines.specs.declared.nodes.Held.TheVariants.{Block, Line, Gone}
use Rattle.sb_lines.specs.declared.nodes.Node.{Node}
use Rattle.sb_lines.specs.Filling.{place_of}

-- ---- one node

abbrev pub held_in : Option Node → Held
held_in None = Gone
held_in (Some node) = node.held

abbrev pub next_in : Option Node → ℕ
next_in None = 0
next_in (Some node) = node.next

abbrev pub prev_in : Option Node → ℕ
prev_in None = 0
prev_in (Some node) = node.prev

abbrev pub held : List Node → ℕ → Held
held ns y = held_in (slice_get ns y)

abbrev pub next : List Node → ℕ → ℕ
next ns y = next_in (slice_get ns y)

abbrev pub prev : List Node → ℕ → ℕ
prev ns y = prev_in (slice_get ns y)

-- ---- a walk along a block

abbrev pub line_then : Held → List Inst → List Inst
line_then (Line place inst) rest = inst ∷ rest
line_then _ rest = []

abbrev pub lines : (ℕ → Held) → (ℕ → ℕ) → ℕ → ℕ → List Inst
lines h n zero at = []
lines h n (suc k) at = line_then (h (n at)) (lines h n k (n at))

-- ---- what writes leave

-- a node stands just before another, after what stood there
pub record IsLinked (s t : List Node) (before at : ℕ) : Type 0 where
  pub next_is : (x : ℕ) → next t x ≡ cond (prev s before == x) at (cond (at == x) before (next s x))
  pub prev_is : (x : ℕ) → prev t x ≡ cond (before == x) at (cond (at == x) (prev s before) (prev s x))
  pub held_is : (x : ℕ) → held t x ≡ held s x

-- the neighbours of a node name each other
pub record IsUnlinked (s t : List Node) (at : ℕ) : Type 0 where
  pub next_is : (x : ℕ) → next t x ≡ cond (prev s at == x) (next s at) (next s x)
  pub prev_is : (x : ℕ) → prev t x ≡ cond (next s at == x) (prev s at) (prev s x)
  pub held_is : (x : ℕ) → held t x ≡ held s x

-- ---- a worked example: a mark, and the node 2 before the node 1

abbrev place : Place
place = place_of 0 0

abbrev nodes : List Node
nodes =
    record { held = Block place; prev = 1; next = 2 } ∷ record { held = Line place (line 8 []); prev = 2; next = 0 }
    ∷ record { held = Line place (line 7 []); prev = 0; next = 1 } ∷ []

in_their_order : lines (held nodes) (next nodes) 3 0 ≡ line 7 [] ∷ line 8 [] ∷ []
in_their_order = refl

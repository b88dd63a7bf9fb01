-- A text that is accepted: it reads as a draft, and the draft's names and types resolve to a module. That module is formed, but that its
-- uses need not be available along each walk.
use Rattle.std.specs.Prelude.{◌≡◌, ℕ, Ok, List}
use Rattle.std.specs.List.{All, AllPairs}
use Rattle.ir_types.specs.declared.id.Id.{Id}
use Rattle.ir_types.specs.declared.module.Module.{Module}
use Rattle.ir_types.specs.Available.{IsAvailable}
use Rattle.ir_types.specs.Formed.{IsFormedItem, ids_of, IsPlain, IsFormed}
use Rattle.ir_draft.specs.declared.draft.Draft.{Draft}
use Rattle.ir_read.specs.Draft.{draft_of}
use Rattle.ir_types_check.specs.declared.resolved.Resolved.{Resolved}
use Rattle.ir_types_check.specs.Resolved.{resolved_of}
use Rattle.rf_text.specs.Printable.{IsNumbered}

-- formed, walks aside
pub record IsFormedButForWalks (m : Module) : Type 0 where
  pub items : All (IsFormedItem m) m.items
  pub plain : IsPlain m
  pub once : AllPairs (λ (a b : Id). a ≡ b → ⊥) (ids_of m)

abbrev pub AcceptedIsFormedButForWalks : Type 0
AcceptedIsFormedButForWalks = (bytes : List ℕ) (d : Draft) (r : Resolved) → draft_of bytes ≡ Ok d → resolved_of d ≡ Ok r → IsFormedButForWalks r.«module»

-- with uses that are available it is formed
abbrev pub AcceptedIsFormed : Type 0
AcceptedIsFormed = (bytes : List ℕ) (d : Draft) (r : Resolved) → draft_of bytes ≡ Ok d → resolved_of d ≡ Ok r → IsAvailable r.«module» → IsFormed r.«module»

-- its ids are those of its text in order
abbrev pub AcceptedIsNumbered : Type 0
AcceptedIsNumbered = (bytes : List ℕ) (d : Draft) (r : Resolved) → draft_of bytes ≡ Ok d → resolved_of d ≡ Ok r → IsNumbered r.«module»

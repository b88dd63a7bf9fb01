-- The module that a text is read and resolved to.
use Rattle.std.specs.Prelude.{◌≡◌, ℕ, List, Ok}
use Rattle.ir_types.specs.declared.module.Module.{Module}
use Rattle.ir_draft.specs.declared.draft.Draft.{Draft}
use Rattle.ir_read.specs.Draft.{draft_of}
use Rattle.ir_types_check.specs.declared.resolved.Resolved.{Resolved}
use Rattle.ir_types_check.specs.Resolved.{resolved_of}

-- the text is a draft whose names and types resolve to this module
abbrev pub Resolves : List ℕ → Module → Type 0
Resolves bytes m = (d : Draft) × (r : Resolved) × (draft_of bytes ≡ Ok d) × (resolved_of d ≡ Ok r) × (r.«module» ≡ m)

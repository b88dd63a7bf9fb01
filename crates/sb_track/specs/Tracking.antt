-- What a tracked sandbox holds, and what it is as a view.
--
-- It has a sandbox, and what takes back each change since its save. All of these undone, the newest first, give the state at the save.
use Rattle.std.specs.Prelude.{◌≡◌, refl, ℕ, ◌-◌, min, Option, None, Some, List, [], ◌∷◌, length, reverse, vec_capacity, ⊤}
use Rattle.ir_types.specs.declared.opd.Opd.TheVariants.{Val}
use Rattle.ir_types.specs.declared.module.Module.{Module}
use Rattle.ir_types.specs.Formed.{IsFormed}
use Rattle.vx_view.specs.declared.read.Read.{Read}
use Rattle.vx_view.specs.declared.change.Change.TheVariants.{Insert}
use Rattle.vx_view.specs.Answers.{Agrees, value, line, doubles}
use Rattle.vx_view.specs.Changes.{applied}
use Rattle.vx_view.specs.Uses.{lifted}
use Rattle.vx_view.specs.Views.{Saved, State}
use Rattle.sb_values.specs.declared.sandbox.Sandbox.{Sandbox}
use Rattle.sb_uses.specs.StockAfter.{stock_after}
use Rattle.sb_values.specs.declared.undo.Undo.{Undo}
use Rattle.sb_values.specs.declared.undo.Undo.TheVariants.{Inserted}
use Rattle.sb_values.specs.Sandboxes as sandbox
use Rattle.sb_values.specs.Sandboxes.{State as Inner, state, contents_of, contents, IsWhole}
use Rattle.sb_values.specs.Undoing.{undone, GoesBack, IsKept, KeepsPlaces}
use Rattle.sb_track.specs.declared.track.Track.{Track}

-- ---- the way back

-- changes undone, the newest of which is the first
abbrev pub unwound : List Undo → Inner → Inner
unwound [] s = s
unwound (u ∷ us) s = unwound us (undone u s)

-- each can be undone in its turn
abbrev pub AllUndo : List Undo → Inner → Type 0
AllUndo [] s = ⊤
AllUndo (u ∷ us) s = GoesBack u s × IsWhole (undone u s) × AllUndo us (undone u s)

abbrev pub AllKept : List Undo → Sandbox → Type 0
AllKept [] p = ⊤
AllKept (u ∷ us) p = IsKept u p × AllKept us p

-- ---- what contracts see

-- the state at the save; where no mark is open, the state as it is
abbrev pub base : Track → Inner
base t = unwound (reverse t.undos.items) (state t.sand)

abbrev pub saved_at : Option ℕ → Inner → Option Saved
saved_at None s = None
saved_at (Some mark) s = Some (record { mark = mark; contents = contents_of s })

abbrev pub seen : Track → State
seen t = record { contents = contents t.sand; notes = t.notes; saved = saved_at t.mark (base t) }

-- how much changes may cost before they want memory
abbrev pub spare : Track → ℕ
spare t = min (sandbox.spare t.sand) (vec_capacity t.undos - length t.undos.items)

-- ---- what holds of it

-- without a mark there is nothing to take back
abbrev pub IsIdle : Option ℕ → List Undo → Type 0
IsIdle None us = us ≡ []
IsIdle (Some mark) us = ⊤

-- what was noted is answered by the module at the save, which is formed
abbrev pub AllAgree : Option (List Read) → Module → Type 0
AllAgree None m = ⊤
AllAgree (Some reads) m = IsFormed m × Agrees reads m

pub record IsTracked (t : Track) : Type 0 where
  pub undo : AllUndo (reverse t.undos.items) (state t.sand)
  pub kept : AllKept (reverse t.undos.items) t.sand
  pub idle : IsIdle t.mark t.undos.items
  pub agree : AllAgree t.notes (base t).own

-- the one is as the other, but for room
pub record IsLike (t u : Track) : Type 0 where
  pub sand : state u.sand ≡ state t.sand
  pub keeps : KeepsPlaces t.sand u.sand
  pub undos : u.undos.items ≡ t.undos.items
  pub mark : u.mark ≡ t.mark
  pub notes : u.notes ≡ t.notes

-- ---- worked examples: an instruction came before the return, and is taken back

abbrev came : Inner
came = record {
  own = applied (Insert (value 2) (line 9 (Val (value 1) ∷ []))) doubles;
  stock = stock_after doubles (Insert (value 2) (line 9 (Val (value 1) ∷ []))) (record { lists = lifted doubles; kept = [] });
  held = 4;
}

taken_back : (unwound (Inserted (value 9) ∷ []) came).own ≡ doubles
taken_back = refl

with_its_use : (unwound (Inserted (value 9) ∷ []) came).stock.lists (value 1) ≡ lifted doubles (value 1)
with_its_use = refl

no_mark_is_open : saved_at None came ≡ None
no_mark_is_open = refl

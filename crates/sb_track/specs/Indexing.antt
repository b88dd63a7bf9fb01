-- Questions as they are found by their hash.
use Rattle.std.specs.Prelude.{◌≡◌, refl, Bool, true, false, ◌&&◌, ◌==◌, List}
use Rattle.std.specs.List.{list_any}
use Rattle.vx_view.specs.declared.question.Question.{Question}
use Rattle.vx_view.specs.declared.question.Question.TheVariants as ask
use Rattle.vx_view.specs.declared.read.Read.{Read}
use Rattle.vx_view.specs.Answers.{value}
use Rattle.vx_view.specs.Views.{is_noted}
use Rattle.sb_track.specs.declared.notes.Kind.{Kind}
use Rattle.sb_track.specs.declared.notes.Kind.TheVariants as kind
use Rattle.sb_track.specs.declared.notes.Asked.{Asked}

-- what a question asks, and of what
abbrev pub asked_of : Question → Asked
asked_of (ask.Inst id) = record { kind = kind.Inst; major = id.region; minor = id.k }
asked_of (ask.Next id) = record { kind = kind.Next; major = id.region; minor = id.k }
asked_of (ask.Prev id) = record { kind = kind.Prev; major = id.region; minor = id.k }
asked_of (ask.Users id) = record { kind = kind.Users; major = id.region; minor = id.k }
asked_of (ask.First place) = record { kind = kind.First; major = place.func; minor = place.block }

abbrev pub same_kind : Kind → Kind → Bool
same_kind kind.Inst kind.Inst = true
same_kind kind.Next kind.Next = true
same_kind kind.Prev kind.Prev = true
same_kind kind.Users kind.Users = true
same_kind kind.First kind.First = true
same_kind _ _ = false

abbrev pub same_asked : Asked → Asked → Bool
same_asked a b = same_kind a.kind b.kind && (a.major == b.major && (a.minor == b.minor))

-- the index has a question exactly where it is noted
abbrev pub IsIndex : List Asked → List Read → Type 0
IsIndex keys reads = (q : Question) → list_any (same_asked (asked_of q)) keys ≡ is_noted q reads

-- ---- worked examples

once_more : same_asked (asked_of (ask.Next (value 1))) (asked_of (ask.Next (value 1))) ≡ true
once_more = refl

other_kind : same_asked (asked_of (ask.Next (value 1))) (asked_of (ask.Prev (value 1))) ≡ false
other_kind = refl

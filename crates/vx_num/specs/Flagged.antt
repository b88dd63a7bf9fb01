-- What flags do: a set flag makes poison of a result whose fact does not hold. Flags are read where
-- an operation has them and nowhere else, so that any other flag means nothing.
use Rattle.std.specs.Prelude.{◌≡◌, refl, ℕ, Bool, true, false, not, ◌||◌, ◌&&◌, if◌then◌else◌}
use Rattle.std.specs.declared.option.Option.{Option}
use Rattle.std.specs.declared.option.Option.TheVariants.{None, Some}
use Rattle.vx_num.specs.declared.operations.Flags.{Flags}

-- the flag is clear, or its fact holds
abbrev pub keeps : Bool → Bool → Bool
keeps flag fact = not flag || fact

-- the number, but poison where `nuw` or `nsw` is set and its fact does not hold
abbrev pub no_wrap : Flags → Bool → Bool → ℕ → Option ℕ
no_wrap f unsigned signed n = if keeps f.nuw unsigned && keeps f.nsw signed then Some n else None

-- with no flag set, nothing is asked
pub no_wrap-unset : (unsigned signed : Bool) (n : ℕ) → no_wrap (record { nuw = false; nsw = false; exact = true; disjoint = true }) unsigned signed n ≡ Some n
no_wrap-unset unsigned signed n = refl

-- the number, but poison where `exact` is set and the fact does not hold
abbrev pub exactly : Flags → Bool → ℕ → Option ℕ
exactly f fact n = if keeps f.exact fact then Some n else None

-- the number, but poison where `disjoint` is set and the fact does not hold
abbrev pub apart : Flags → Bool → ℕ → Option ℕ
apart f fact n = if keeps f.disjoint fact then Some n else None

-- ---- flags for worked examples

abbrev pub plain : Flags
plain = record { nuw = false; nsw = false; exact = false; disjoint = false }

abbrev pub with_nuw : Flags
with_nuw = record { nuw = true; nsw = false; exact = false; disjoint = false }

abbrev pub with_nsw : Flags
with_nsw = record { nuw = false; nsw = true; exact = false; disjoint = false }

abbrev pub with_exact : Flags
with_exact = record { nuw = false; nsw = false; exact = true; disjoint = false }

abbrev pub with_disjoint : Flags
with_disjoint = record { nuw = false; nsw = false; exact = false; disjoint = true }

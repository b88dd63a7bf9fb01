-- A reader or a writer of std beside the count of its failures.
use Rattle.std.specs.Prelude.{◌≡◌, ℕ, refl}

pub record Counted (T : Type 0) : Type 0 where
  pub inner : T
  pub faults : ℕ

-- one that has not failed yet
abbrev pub uncounted : {T : Type 0} → T → Counted T
uncounted inner = record { inner = inner; faults = 0 }

no_fault_yet : (uncounted {T = ℕ} 7).faults ≡ 0
no_fault_yet = refl

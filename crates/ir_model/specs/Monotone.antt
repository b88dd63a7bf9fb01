-- When one step, one block, and what calls come to, are monotone: from a finer state they come to something finer, or the old one ran
-- into undefined behaviour. The bound that is left is the same on both sides; `n` is a bound that it does not pass, so that what is
-- said of calls can be said of as many blocks as are left.
use Rattle.std.specs.Prelude.{◌≡◌, ℕ, ◌≤◌, List, ⊤}
use Rattle.std.specs.List.{AllZip}
use Rattle.ir_types.specs.declared.id.Id.{Id}
use Rattle.ir_model.specs.declared.value.Value.{Value}
use Rattle.ir_model.specs.Values.{ValueRefines}
use Rattle.ir_model.specs.Memory.{Memory, MemoryRefines}
use Rattle.ir_model.specs.Step.{State, Went, Lost, Halts, On, Back, Reached, Calls}
use Rattle.ir_model.specs.Run.{Exit, Leaves, To, Runs, no_calls}
use Rattle.ir_model.specs.Refines.{ResultRefines}

-- the old one ran into undefined behaviour, or both went the same way and what they came to is finer
abbrev pub WentRefines : {A : Type 0} → (A → A → Type 0) → Went A → Went A → Type 0
WentRefines R new Lost = ⊤
WentRefines R (Halts new) (Halts old) = MemoryRefines new old
WentRefines R (On new) (On old) = R new old
WentRefines R _ _ = ⊥

pub record StateRefines (new old : State) : Type 0 where
  pub env : (id : Id) → ValueRefines (new.env id) (old.env id)
  pub memory : MemoryRefines new.memory old.memory

pub record BackRefines (n : ℕ) (new old : Back) : Type 0 where
  pub result : ResultRefines new.result old.result
  pub memory : MemoryRefines new.memory old.memory
  pub left : new.left ≡ old.left
  pub within : old.left ≤ n

pub record ReachedRefines (n : ℕ) (new old : Reached) : Type 0 where
  pub state : StateRefines new.state old.state
  pub left : new.left ≡ old.left
  pub within : old.left ≤ n

-- calls on finer arguments and memories come to something finer, under bounds up to n
abbrev pub CallsRefine : ℕ → Calls → Calls → Type 0
CallsRefine n new old =
    (callee : List ℕ) (vs ws : List Value) (m mm : Memory) (left : ℕ) → left ≤ n → AllZip ValueRefines vs ws → MemoryRefines m mm →
    WentRefines (BackRefines n) (new callee vs m left) (old callee ws mm left)

-- blocks that end alike: both give back, or both go to one block
abbrev pub ExitRefines : ℕ → Exit → Exit → Type 0
ExitRefines n (Leaves new) (Leaves old) = BackRefines n new old
ExitRefines n (To at new) (To to old) = (at ≡ to) × ReachedRefines n new old
ExitRefines n _ _ = ⊥

-- as long as calls are undefined, they are monotone
undefined_calls : (n : ℕ) (new : Calls) (go : Runs) → CallsRefine n new (no_calls go)
undefined_calls n new go callee vs ws m mm left within z h = tt

-- a run that is cut is not finer than one that goes on
cut_is_not_finer : (m : Memory) (back : Back) → WentRefines (BackRefines 3) (Halts m) (On back) → ⊥
cut_is_not_finer m back finer = finer

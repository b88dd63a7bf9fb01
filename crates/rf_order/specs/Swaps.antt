-- When two neighbouring operations may be done in the other order.
--
-- What an operation comes to is a function of the memory. Two accesses are apart where no byte is touched by both; what is apart, and
-- what only reads, may be done in either order, with the same results and the same memory.
use Rattle.std.specs.Prelude.{◌≡◌, ℕ, ℤ, pos, ◌+◌, ◌*◌, ◌≤◌, ◌<◌, ◌⊎◌, Bool, true, false, ◌&&◌, ◌||◌, Option, None, Some, List, [], ◌∷◌, length, slice_get}
use Rattle.std.proofs.Common.{inl, subst, ap}
use Rattle.std.proofs.Math.Dec.{lit≤}
use Rattle.ir_types.specs.declared.ty.Ty.{Ty}
use Rattle.ir_types.specs.declared.ty.Ty.TheVariants.{Row}
use Rattle.ir_types.specs.declared.op.Op.{Op}
use Rattle.ir_types.specs.declared.op.Op.TheVariants.{Load, Store}
use Rattle.ir_types.specs.Formed.{is_alloca}
use Rattle.ir_model.specs.declared.value.Value.{Value}
use Rattle.ir_model.specs.declared.value.Value.TheVariants.{Row as RowValue, Ptr as PtrValue}
use Rattle.ir_model.specs.Values.{Pointer, pointer_of}
use Rattle.ir_model.specs.Memory.{Object, Memory}
use Rattle.ir_model.specs.Sizes.{bytes_in, size_of}
use Rattle.ir_model.specs.Accesses.{Effect}
use Rattle.ir_model.specs.Step.{Calls, On, Back, effect_of}

-- each object is still there, with as many bytes
abbrev pub KeepsObjects : Memory → Memory → Type 0
KeepsObjects before after = (o : ℕ) (object : Object) → slice_get before o ≡ Some object → (kept : Object) × (slice_get after o ≡ Some kept) × (length kept ≡ length object)

-- calls that come back leave each object with as many bytes
abbrev pub CallsKeepObjects : Calls → Type 0
CallsKeepObjects calls = (callee : List ℕ) (vs : List Value) (m : Memory) (left : ℕ) (back : Back) → calls callee vs m left ≡ On back → KeepsObjects m back.memory

-- ---- touches

-- which bytes an operation reads or writes: through which pointer, how many, and whether it writes
pub record Touch : Type 0 where
  pub pointer : Pointer
  pub size : ℕ
  pub writes : Bool

-- how many bytes a store of a value of a type writes: a row as many as it has lanes for
abbrev pub stored_size : Ty → Value → ℕ
stored_size (Row n w) (RowValue lanes) = length lanes * bytes_in w
stored_size t v = size_of t

-- a load's or a store's, at the values of its operands
abbrev pub touch_of : Op → Ty → List Value → Option Touch
touch_of (Load align) t (p ∷ []) = Some (record { pointer = pointer_of p; size = size_of t; writes = false })
touch_of (Store align) t (v ∷ p ∷ []) = Some (record { pointer = pointer_of p; size = stored_size t v; writes = true })
touch_of _ t vs = None

-- no byte of one object is among the first so many through one pointer and the second so many through the other
abbrev pub AreApart : Pointer → ℕ → Pointer → ℕ → Type 0
AreApart p first q second = (o a b : ℕ) → p ≡ Some (o, pos a) → q ≡ Some (o, pos b) → (a + first ≤ b) ⊎ (b + second ≤ a)

-- both only read, or they are apart
abbrev pub KeepApart : Option Touch → Option Touch → Type 0
KeepApart (Some x) (Some y) = (x.writes || y.writes ≡ false) ⊎ AreApart x.pointer x.size y.pointer y.size
KeepApart _ _ = Unit {0}

-- a pointer names one of so many objects
abbrev pub IsNamed : ℕ → Value → Type 0
IsNamed objects (PtrValue (Some p)) = p.0 < objects
IsNamed objects _ = Unit {0}

abbrev pub AreNamed : ℕ → List Value → Type 0
AreNamed objects [] = Unit {0}
AreNamed objects (v ∷ vs) = IsNamed objects v × AreNamed objects vs

-- ---- the other order

-- what an operation comes to, by the memory
abbrev pub Acts : Type 0
Acts = Memory → Option Effect

-- where the first came to `a` and then the second to `b`: in the other order they have these results and leave this memory
pub record Swapped (first second : Acts) (m : Memory) (a b : Effect) : Type 0 where
  pub between : Memory
  pub before : second m ≡ Some (record { result = b.result; memory = between })
  pub then : first between ≡ Some (record { result = a.result; memory = b.memory })

-- where both are defined, the second may be done before the first
abbrev pub MayPass : Acts → Acts → Memory → Type 0
MayPass first second m = (a b : Effect) → first m ≡ Some a → second a.memory ≡ Some b → Swapped first second m a b

-- an operation that is defined and leaves the memory, and comes to the same wherever each object has as many bytes
pub record Stays (act : Acts) (m : Memory) : Type 0 where
  pub result : Option Value
  pub same : (after : Memory) → KeepsObjects m after → act after ≡ Some (record { result = result; memory = after })

-- the bytes 0 to 3 and the bytes 4 and 5 of one object
neighbours_are_apart : AreApart (Some (2, pos 0)) 4 (Some (2, pos 4)) 2
neighbours_are_apart o a b e d = subst (λ n. (n + 4 ≤ b) ⊎ (b + 2 ≤ n)) (place (Some (2, pos 0)) (o, pos a) e) (subst (λ n. (0 + 4 ≤ n) ⊎ (n + 2 ≤ 0)) (place (Some (2, pos 4)) (o, pos b) d) (inl (lit≤ tt)))
  where
    offset : Pointer → ℕ
    offset (Some (o, pos n)) = n
    offset _ = 0

    place : (p : Pointer) (q : ℕ × ℤ) → p ≡ Some q → offset p ≡ offset (Some q)
    place p q e = ap offset e

-- two operations, of which not both make objects, whose pointers name objects that are there and whose accesses are apart
abbrev pub EffectsSwap : Type 0
EffectsSwap =
    (op other : Op) (t u : Ty) (ts us : List Ty) (vs ws : List Value) (m : Memory) → AreNamed (length m) vs → AreNamed (length m) ws →
    is_alloca op && is_alloca other ≡ false → KeepApart (touch_of op t vs) (touch_of other u ws) → MayPass (effect_of op t ts vs) (effect_of other u us ws) m

-- The reach of a region's stores: the at most 256 instructions of their block that end at the last of them.
--
-- The last store is the one of whose 256 instructions all stores are; where there is none, a store lies too far from the last. No
-- store stands after the last, so no other store can have it among its own.
use Rattle.std.specs.Prelude.{◌≡◌, refl, ◌⊎◌, Bool, true, false, ◌&&◌, ◌||◌, cond, Option, None, Some, List, [], ◌∷◌, map, ⊤}
use Rattle.ir_types.specs.declared.id.Id.{Id}
use Rattle.ir_types.specs.declared.inst.Inst.{Inst}
use Rattle.ir_types.specs.declared.module.Module.{Module}
use Rattle.ir_types.specs.Available.{same_id}
use Rattle.vx_view.specs.declared.question.Question.{Question}
use Rattle.vx_view.specs.declared.question.Question.TheVariants as ask
use Rattle.vx_view.specs.declared.answer.Answer.{Answer}
use Rattle.vx_view.specs.declared.answer.Answer.TheVariants as says
use Rattle.vx_view.specs.Answers.{find, found, Standing}
use Rattle.vx_view.specs.Addresses.{block_of}
use Rattle.vx_serial.specs.Near.{looked_at, IsNear}
use Rattle.vx_serial.specs.Window.{id, block}
use Rattle.vx_deps.specs.declared.extent.Reach.{Reach}
use Rattle.vx_deps.specs.declared.extent.Reach.TheVariants.{Near, Far}

abbrev pub ids_of : List Inst → List Id
ids_of insts = map (λ (i : Inst). i.id) insts

-- whether an id is one of these
abbrev pub has : List Id → Id → Bool
has [] x = false
has (y ∷ ys) x = same_id x y || has ys x

-- whether all the stores are among these
abbrev pub has_all : List Id → List Id → Bool
has_all ids [] = true
has_all ids (s ∷ stores) = has ids s && has_all ids stores

-- the first of some ids, and those after it
abbrev pub parts : List Id → Option (Id × List Id)
parts [] = None
parts (x ∷ xs) = Some (x, xs)

-- the first of some lists that has all the stores
abbrev pub first_with : List Id → List (List Id) → Option (List Id)
first_with stores [] = None
first_with stores (ids ∷ more) = cond (has_all ids stores) (Some ids) (first_with stores more)

-- what is looked at for a store, in its own block
abbrev pub looked_ids : Module → Id → List Id
looked_ids m store = ids_of (looked_at (block_of (found m store)) store)

-- the instructions that end at the last store; none where a store lies further
abbrev pub reach : Module → List Id → Option (List Id)
reach m stores = first_with stores (map (looked_ids m) stores)

-- these are looked at for one of the stores, and all stores are among them
abbrev pub AreNear : Module → List Id → List Id → Type 0
AreNear m stores ids = (last : Id) × (has stores last ≡ true) × (ids ≡ looked_ids m last) × (has_all ids stores ≡ true)

-- there is no store for which all stores are looked at
abbrev pub AreFar : Module → List Id → Type 0
AreFar m stores = (store : Id) → has stores store ≡ true → has_all (looked_ids m store) stores ≡ false

abbrev pub as_reach : Reach → Option (List Id)
as_reach (Near ids) = Some ids
as_reach Far = None

-- ---- questions

-- what stands before one of these is asked
abbrev pub LooksBack : List Id → Question → Type 0
LooksBack ids q = (x : Id) × (q ≡ ask.Prev x) × (has ids x ≡ true)

-- it is asked for a store, or for what stands before one of the instructions that are looked at for it
abbrev pub LooksAt : Module → Id → Question → Type 0
LooksAt m store q = (q ≡ ask.Inst store) ⊎ LooksBack (looked_ids m store) q

abbrev pub LooksFor : Module → List Id → Question → Type 0
LooksFor m stores q = (store : Id) × (has stores store ≡ true) × LooksAt m store q

-- the stores stand in one block of a module
abbrev pub Stand : Module → List Inst → List Id → Type 0
Stand m insts stores = (store : Id) → has stores store ≡ true → (s : Standing) × (found m store ≡ Some s) × (s.block ≡ insts)

-- a question for an instruction of the neighbourhood of the stores, or for what stands just before or after it
abbrev pub NamesNear : Module → List Inst → List Id → Question → Type 0
NamesNear m insts stores q = (x : Id) × ((q ≡ ask.Inst x) ⊎ ((q ≡ ask.Prev x) ⊎ (q ≡ ask.Next x))) × IsNear m insts stores x

-- ---- answers

-- an id is that of an instruction of a block
abbrev pub IsIn : List Inst → Option Id → Type 0
IsIn insts None = ⊤
IsIn insts (Some x) = (i : Inst) × (find x insts ≡ Some i)

abbrev pub is_there : Option Standing → Bool
is_there None = false
is_there (Some s) = true

abbrev pub is_answered : Answer → Bool
is_answered (says.Inst place inst) = true
is_answered _ = false

abbrev pub id_answered : Answer → Option Id
id_answered (says.At x) = x
id_answered _ = None

-- ---- worked examples: of the stores 4 and 6 of a short block, the later one has both

abbrev looked : Id → List Id
looked store = ids_of (looked_at block store)

of_both : first_with (id 4 ∷ id 6 ∷ []) (looked (id 4) ∷ looked (id 6) ∷ []) ≡ Some (id 2 ∷ id 3 ∷ id 4 ∷ id 5 ∷ id 6 ∷ [])
of_both = refl

of_one : first_with (id 2 ∷ []) (looked (id 2) ∷ []) ≡ Some (id 2 ∷ [])
of_one = refl

-- a store that is in no list of 256
too_far : first_with (id 4 ∷ id 9 ∷ []) (looked (id 4) ∷ looked (id 6) ∷ []) ≡ None
too_far = refl

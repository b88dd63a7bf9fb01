-- The order of bundles in a module, as it is asked for over a view: in the window that runs to the last of some ids.
use Rattle.std.specs.Prelude.{◌≡◌, refl, Bool, true, false, Option, None, Some, List, [], ◌∷◌, option_map, ⊤}
use Rattle.std.specs.List.{All}
use Rattle.ir_types.specs.declared.id.Id.{Id}
use Rattle.ir_types.specs.declared.module.Module.{Module}
use Rattle.ir_types.specs.Formed.{IsFormed}
use Rattle.vx_view.specs.declared.question.Question.{Question}
use Rattle.vx_view.specs.declared.question.Question.TheVariants as ask
use Rattle.vx_view.specs.Answers.{answer, found, Standing}
use Rattle.vx_view.specs.Conflicts.{depends}
use Rattle.vx_view.specs.Views.{State, StandsFor}
use Rattle.vx_serial.specs.Window as window
use Rattle.vx_serial.specs.Window.{id}
use Rattle.vx_deps.specs.declared.refusal.OrderRefusal.{OrderRefusal}
use Rattle.vx_deps.specs.declared.refusal.OrderRefusal.TheVariants.{NoOrder, OutOfMemory}
use Rattle.vx_deps.specs.Reach.{reach, has, is_answered, id_answered}
use Rattle.vx_deps.specs.Graphs.{NamesNode, Precedes}
use Rattle.vx_deps.specs.Orders.{Keeps, from_member, ids_in}
use Rattle.vx_deps.specs.Cycles.{IsCycle, IsGroup}

abbrev pub last_of : Id → List Id → Id
last_of x [] = x
last_of x (y ∷ ys) = last_of y ys

abbrev pub last_id : List Id → Option Id
last_id [] = None
last_id (x ∷ xs) = Some (last_of x xs)

abbrev pub order_at : Module → Id → List (List Id) → Option Standing → Option (List (List Id))
order_at m last bundles None = None
order_at m last bundles (Some s) = option_map ids_in (window.order m s.block last bundles)

abbrev pub order_to : Module → List (List Id) → Option Id → Option (List (List Id))
order_to m bundles None = None
order_to m bundles (Some last) = order_at m last bundles (found m last)

-- the order of the window of bundles in a module, which runs from the first member to the last of these ids; none where there is no order
abbrev pub order_over : Module → List Id → List (List Id) → Option (List (List Id))
order_over m ids bundles = order_to m bundles (last_id ids)

-- ---- dependences by ids

abbrev pub depends_if : Module → Option Standing → Option Standing → Bool
depends_if m (Some earlier) (Some later) = depends m earlier.block later.inst earlier.inst
depends_if m _ _ = false

-- whether in a module the second, which stands later in the block of the first, depends on it
abbrev pub depends_in : Module → Keeps
depends_in m x y = depends_if m (found m x) (found m y)

-- in a module there is no order, and those kept are groups of the window and a cycle there; or there was no memory
abbrev pub RefusesIn : Module → List Id → List (List Id) → OrderRefusal → Type 0
RefusesIn m ids bundles (NoOrder cycle) = (order_over m ids bundles ≡ None) × IsCycle (depends_in m) (from_member bundles ids) cycle × All (IsGroup (from_member bundles ids) bundles) cycle
RefusesIn m ids bundles OutOfMemory = Unit {0}

-- ---- what is asked

-- these are the reach of some stores in each formed module that a view stands for
abbrev pub IsReach : State → List Id → Type 0
IsReach s ids = (stores : List Id) × ((m : Module) → StandsFor s m → IsFormed m → reach m stores ≡ Some ids)

-- each is answered as an instruction, and as the one just before the next
abbrev pub FollowOn : Module → List Id → Type 0
FollowOn m [] = ⊤
FollowOn m (x ∷ xs) = (is_answered (answer m (ask.Inst x)) ≡ true) × Precedes (id_answered (answer m (ask.Next x))) xs × FollowOn m xs

-- one of these is asked for as a graph that grows by it asks
abbrev pub NamesRow : Module → List Id → Question → Type 0
NamesRow m ids q = (x : Id) × (has ids x ≡ true) × NamesNode m x q

-- ---- a worked example

to_the_last : last_id (id 3 ∷ id 5 ∷ id 4 ∷ []) ≡ Some (id 4)
to_the_last = refl

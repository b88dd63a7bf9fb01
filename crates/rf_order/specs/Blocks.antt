-- A block that is entered: its phis have run, what stands has its type's shape, and roots of kinds that never meet name different objects.
use Rattle.std.specs.Prelude.{◌≡◌, ℕ, true, false, Option, None, Some, List, [], ◌∷◌, ◌++◌, length, slice_get, ⊤}
use Rattle.std.specs.List.{Contains}
use Rattle.ir_types.specs.declared.id.Id.{Id}
use Rattle.ir_types.specs.declared.opd.Opd.{Opd}
use Rattle.ir_types.specs.declared.inst.Inst.{Inst}
use Rattle.ir_types.specs.declared.func.Block.{Block}
use Rattle.ir_types.specs.declared.func.Func.{Func}
use Rattle.ir_types.specs.declared.module.Item.TheVariants.{Func as FuncItem}
use Rattle.ir_types.specs.declared.module.Module.{Module}
use Rattle.ir_types.specs.Walks.{HasEdge, IsWalk, EndsAt}
use Rattle.ir_types.specs.Available.{graph_of, insts_at, stands_on}
use Rattle.ir_types.specs.Formed.{IsFormed}
use Rattle.ir_model.specs.declared.value.Value.{Value}
use Rattle.ir_model.specs.Values.{Env, pointer_of, value_of}
use Rattle.ir_model.specs.Memory.{Memory}
use Rattle.ir_model.specs.Fits.{Fits}
use Rattle.ir_model.specs.Step.{State, Went, On, then_go, Reached, Calls}
use Rattle.ir_model.specs.Run.{To, is_phi, arm_of, with_phi, reached_if, run_block, run_insts, types_of, start_env, noalias_holds, functions_of}
use Rattle.ir_model.specs.Shapes.{IsShaped, CallsKeepShapes}
use Rattle.vx_view.specs.Conflicts.{kind_of}
use Rattle.vx_serial.specs.Window.{order_in, joined}
use Rattle.rf_order.specs.Rows.{Instead}
use Rattle.rf_order.specs.Swaps.{CallsKeepObjects}
use Rattle.vx_serial.specs.Bundles.{AreBundles}
use Rattle.rf_order.specs.Ready.{has_kind, NamesOne, is_known, RootsApart}

-- phis alone, or none
abbrev pub ArePhis : List Inst → Type 0
ArePhis [] = ⊤
ArePhis (i ∷ is) = (is_phi i.op ≡ true) × ArePhis is

abbrev pub NoPhis : List Inst → Type 0
NoPhis [] = ⊤
NoPhis (i ∷ is) = (is_phi i.op ≡ false) × NoPhis is

-- on a walk of whose last block so many instructions have run
pub record IsEntered (m : Module) (f : Func) (walk : List ℕ) (before : ℕ) (s : State) : Type 0 where
  pub shaped : IsShaped m f walk before s
  pub within : (a : Opd) → is_known (length m.globals) (λ x. stands_on f x before walk) a ≡ true → has_kind (kind_of m a) ≡ true → NamesOne (length s.memory) (pointer_of (value_of s.env a))
  pub roots : RootsApart m (λ x. stands_on f x before walk) s.env

-- a block of a formed module that a walk comes to: its phis, then the instructions before the window, the window, and what is after it
pub record IsCut (m : Module) (f : Func) (walk : List ℕ) (at : ℕ) (b : Block) (phis before insts : List Inst) (last : Inst) (after : List Inst) : Type 0 where
  pub formed : IsFormed m
  pub func : Contains m.items (FuncItem f)
  pub walks : IsWalk (graph_of f) walk
  pub ends : EndsAt walk at
  pub there : slice_get f.blocks at ≡ Some b
  pub parts : b.insts ≡ phis ++ ((before ++ insts) ++ last ∷ after)
  pub phis_first : ArePhis phis
  pub no_phis : NoPhis (before ++ insts)

-- over all calls that keep shapes and leave objects as long as they are, and for all bundles whose window has an order: the block with
-- its window in that order, the groups with their members in theirs, comes to the same, where the block was defined
abbrev pub BlocksRefine : Type 0
BlocksRefine =
    (m : Module) (f : Func) (walk : List ℕ) (at : ℕ) (b : Block) (phis before insts : List Inst) (last : Inst) (after : List Inst) → IsCut m f walk at b phis before insts last after →
    (bundles : List (List Id)) → AreBundles insts bundles → (groups : List (List Inst)) → order_in m b.insts insts bundles ≡ Some groups →
    (calls : Calls) → CallsKeepShapes m calls → CallsKeepObjects calls → (r : Reached) → IsEntered m f walk (length phis) r.state →
    Instead (run_insts (types_of f) calls (before ++ joined groups ++ last ∷ after) r) (run_insts (types_of f) calls (before ++ insts ++ last ∷ after) r)

-- the start of a function on arguments that fit, where `noalias` holds: no block has run, and the first one has no phi
abbrev pub StartsAreEntered : Type 0
StartsAreEntered =
    (m : Module) → IsFormed m → (func : ℕ) (f : Func) → slice_get (functions_of m.items) func ≡ Some f → (args : List Value) (memory : Memory) → Fits m f args memory →
    noalias_holds (length m.globals) [] f.params args ≡ true → IsEntered m f (0 ∷ []) 0 (record { env = start_env f.params args; memory = memory })

-- where a block goes on to another, that one is entered, before its phis
abbrev pub ExitsAreEntered : Type 0
ExitsAreEntered =
    (m : Module) (f : Func) (walk : List ℕ) (at : ℕ) (b : Block) (phis insts : List Inst) (last : Inst) → IsCut m f walk at b phis [] insts last [] →
    (calls : Calls) → CallsKeepShapes m calls → (r q : Reached) (to : ℕ) → IsEntered m f walk (length phis) r.state →
    run_insts (types_of f) calls (insts ++ last ∷ []) r ≡ On (To to q) → IsEntered m f (walk ++ to ∷ []) 0 q.state

-- the phis of a block that is entered from a block, in an environment on that edge
abbrev pub run_phis : Option ℕ → Env → List Inst → Reached → Went Reached
run_phis from edge [] r = On r
run_phis from edge (i ∷ is) r = then_go (reached_if r.left (with_phi edge i.id r.state (arm_of from i.op i.opds))) (run_phis from edge is)

-- the block with the window in the order of groups
abbrev pub with_groups : Block → List Inst → List Inst → List (List Inst) → Inst → List Inst → Block
with_groups b phis before groups last after = record { name = b.name; insts = phis ++ (before ++ joined groups ++ last ∷ after) }

-- whole blocks, from any block before: where what the phis come to is entered
abbrev pub WholeBlocksRefine : Type 0
WholeBlocksRefine =
    (m : Module) (f : Func) (walk : List ℕ) (at : ℕ) (b : Block) (phis before insts : List Inst) (last : Inst) (after : List Inst) → IsCut m f walk at b phis before insts last after →
    (bundles : List (List Id)) → AreBundles insts bundles → (groups : List (List Inst)) → order_in m b.insts insts bundles ≡ Some groups →
    (calls : Calls) → CallsKeepShapes m calls → CallsKeepObjects calls → (from : Option ℕ) (r : Reached) →
    ((q : Reached) → run_phis from r.state.env phis r ≡ On q → IsEntered m f walk (length phis) q.state) →
    Instead (run_block (types_of f) calls from r (Some (with_groups b phis before groups last after))) (run_block (types_of f) calls from r (Some b))

-- where a block is entered from: at the start it is the first, else a walk leads to a block with an edge to it, at whose end all that
-- stands is of its shape
abbrev pub CameFrom : Module → Func → List ℕ → ℕ → Option ℕ → State → Type 0
CameFrom m f walk at None s = at ≡ 0
CameFrom m f walk at (Some from) s =
    (path : List ℕ) × IsWalk (graph_of f) path × EndsAt path from × HasEdge (graph_of f) from at × IsShaped m f path (length (insts_at f from)) s

-- where a block is entered, what its phis come to is entered after them
abbrev pub PhisAreEntered : Type 0
PhisAreEntered =
    (m : Module) (f : Func) (walk : List ℕ) (at : ℕ) (b : Block) (phis before insts : List Inst) (last : Inst) (after : List Inst) → IsCut m f walk at b phis before insts last after →
    (from : Option ℕ) (r q : Reached) → CameFrom m f walk at from r.state → IsEntered m f walk 0 r.state → run_phis from r.state.env phis r ≡ On q → IsEntered m f walk (length phis) q.state

-- and it is entered on a walk that is longer by one block, from this one
abbrev pub ExitsLeadOn : Type 0
ExitsLeadOn =
    (m : Module) (f : Func) (walk : List ℕ) (at : ℕ) (b : Block) (phis insts : List Inst) (last : Inst) → IsCut m f walk at b phis [] insts last [] →
    (calls : Calls) → CallsKeepShapes m calls → (r q : Reached) (to : ℕ) → IsEntered m f walk (length phis) r.state →
    run_insts (types_of f) calls (insts ++ last ∷ []) r ≡ On (To to q) →
    IsWalk (graph_of f) (walk ++ to ∷ []) × EndsAt (walk ++ to ∷ []) to × CameFrom m f (walk ++ to ∷ []) to (Some at) q.state

-- A function with one block in the order of its window.
use Rattle.std.specs.Prelude.{◌≡◌, ℕ, zero, suc, Some, List, [], ◌∷◌, length, slice_get, slice_set}
use Rattle.ir_types.specs.declared.id.Id.{Id}
use Rattle.ir_types.specs.declared.inst.Inst.{Inst}
use Rattle.ir_types.specs.declared.func.Block.{Block}
use Rattle.ir_types.specs.declared.func.Func.{Func}
use Rattle.ir_types.specs.declared.module.Item.{Item}
use Rattle.ir_types.specs.declared.module.Item.TheVariants.{Kept, Opaque, Func as FuncItem}
use Rattle.ir_types.specs.declared.module.Module.{Module}
use Rattle.ir_types.specs.Walks.{IsWalk, EndsAt, IsReached}
use Rattle.ir_types.specs.Available.{graph_of}
use Rattle.ir_types.specs.Formed.{IsFormed}
use Rattle.ir_model.specs.declared.value.Value.{Value}
use Rattle.ir_model.specs.Memory.{Memory}
use Rattle.ir_model.specs.Run.{Ties, runs, run_func, functions_of, run_found, run_of}
use Rattle.ir_model.specs.Refines.{OutcomeRefines, ModuleRefines}
use Rattle.ir_model.specs.Fits.{Fits}
use Rattle.ir_model.specs.Shapes.{CallsKeepShapes}
use Rattle.vx_serial.specs.Window.{order_in}
use Rattle.rf_order.specs.Rows.{Instead}
use Rattle.rf_order.specs.Swaps.{CallsKeepObjects}
use Rattle.vx_serial.specs.Bundles.{AreBundles}
use Rattle.rf_order.specs.Blocks.{IsCut, with_groups}

abbrev pub with_block : Func → ℕ → Block → Func
with_block f at b = record { before = f.before; ret = f.ret; name = f.name; params = f.params; after = f.after; blocks = slice_set f.blocks at b }

-- under every bound, calls keep shapes and leave objects as long as they are
abbrev pub TiesKeep : Module → Ties → Type 0
TiesKeep m tie = (fuel : ℕ) → CallsKeepShapes m (tie (runs tie fuel)) × CallsKeepObjects (tie (runs tie fuel))

-- for all arguments and memories that fit and every bound, the function with one block in the order of its window comes to the same, where
-- it was defined
abbrev pub FunctionsRefine : Type 0
FunctionsRefine =
    (m : Module) → IsFormed m → (func : ℕ) (f : Func) → slice_get (functions_of m.items) func ≡ Some f → (at : ℕ) (b : Block) (phis before insts : List Inst) (last : Inst) (after : List Inst) →
    IsReached (graph_of f) at → slice_get f.blocks at ≡ Some b → ((walk : List ℕ) → IsWalk (graph_of f) walk → EndsAt walk at → IsCut m f walk at b phis before insts last after) →
    (bundles : List (List Id)) → AreBundles insts bundles → (groups : List (List Inst)) → order_in m b.insts insts bundles ≡ Some groups →
    (tie : Ties) → TiesKeep m tie → (args : List Value) (memory : Memory) → Fits m f args memory → (bound : ℕ) →
    Instead (run_func tie (length m.globals) (with_block f at (with_groups b phis before groups last after)) args memory bound) (run_func tie (length m.globals) f args memory bound)

-- as long as calls are not read: the outcome refines what the function of the module came to
abbrev pub OutcomesRefine : Type 0
OutcomesRefine =
    (m : Module) → IsFormed m → (func : ℕ) (f : Func) → slice_get (functions_of m.items) func ≡ Some f → (at : ℕ) (b : Block) (phis before insts : List Inst) (last : Inst) (after : List Inst) →
    IsReached (graph_of f) at → slice_get f.blocks at ≡ Some b → ((walk : List ℕ) → IsWalk (graph_of f) walk → EndsAt walk at → IsCut m f walk at b phis before insts last after) →
    (bundles : List (List Id)) → AreBundles insts bundles → (groups : List (List Inst)) → order_in m b.insts insts bundles ≡ Some groups →
    (args : List Value) (memory : Memory) → Fits m f args memory → (bound : ℕ) →
    OutcomeRefines (run_found (length m.globals) (Some (with_block f at (with_groups b phis before groups last after))) args memory bound) (run_of m func args memory bound)

-- items with another function in the place of the one of a number
abbrev pub with_function : List Item → ℕ → Func → List Item
with_function [] n new = []
with_function (Kept line ∷ items) n new = Kept line ∷ with_function items n new
with_function (Opaque text ∷ items) n new = Opaque text ∷ with_function items n new
with_function (FuncItem f ∷ items) zero new = FuncItem new ∷ items
with_function (FuncItem f ∷ items) (suc n) new = FuncItem f ∷ with_function items n new

-- a module with another function in the place of the one of a number
abbrev pub changed_in : Module → ℕ → Func → Module
changed_in m n new = record { items = with_function m.items n new; globals = m.globals; big_endian_line = m.big_endian_line }

-- as long as calls are not read: a formed module with one block of a function in the order of its window refines what it was
abbrev pub ModulesRefine : Type 0
ModulesRefine =
    (m : Module) → IsFormed m → (func : ℕ) (f : Func) → slice_get (functions_of m.items) func ≡ Some f → (at : ℕ) (b : Block) (phis before insts : List Inst) (last : Inst) (after : List Inst) →
    IsReached (graph_of f) at → slice_get f.blocks at ≡ Some b → ((walk : List ℕ) → IsWalk (graph_of f) walk → EndsAt walk at → IsCut m f walk at b phis before insts last after) →
    (bundles : List (List Id)) → AreBundles insts bundles → (groups : List (List Inst)) → order_in m b.insts insts bundles ≡ Some groups →
    ModuleRefines (changed_in m func (with_block f at (with_groups b phis before groups last after))) m

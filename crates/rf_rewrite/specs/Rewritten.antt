-- A module in which a region is rewritten, and the law that its changes lead there.
use Rattle.std.specs.Prelude.{◌≡◌, refl, ℕ, Bool, true, false, cond, Option, None, Some, List, [], ◌∷◌, map, option_map}
use Rattle.std.specs.Int.{int_wrap}
use Rattle.ir_types.specs.declared.id.Id.{Id}
use Rattle.ir_types.specs.declared.inst.Inst.{Inst}
use Rattle.ir_types.specs.declared.func.Block.{Block}
use Rattle.ir_types.specs.declared.module.Item.{Item}
use Rattle.ir_types.specs.declared.module.Item.TheVariants.{Func as FuncItem}
use Rattle.ir_types.specs.declared.module.Module.{Module}
use Rattle.ir_types.specs.Available.{defines}
use Rattle.ir_types.specs.Formed.{IsFormed, IsFresh, IsLawful}
use Rattle.vx_view.specs.declared.change.Change.{Change}
use Rattle.vx_view.specs.Changes.{all_applied, AllFit}
use Rattle.vx_serial.specs.declared.node.Node.{Node}
use Rattle.vx_serial.specs.Window.{id}
use Rattle.vx_serial.specs.Legal.{is_widened, sums_of, adding}
use Rattle.vx_serial.specs.Tree.{tree_of}
use Rattle.vx_serial.specs.Rewriting.{rewritten, of_numbers}
use Rattle.vx_serial.specs.Changing.{changes}

-- ---- the block of an instruction, with other instructions

abbrev pub in_block : Id → List Inst → Block → Block
in_block x insts b = record { name = b.name; insts = cond (defines x b.insts) insts b.insts }

abbrev pub in_item : Id → List Inst → Item → Item
in_item x insts (FuncItem f) = FuncItem (record {
  before = f.before;
  ret = f.ret;
  name = f.name;
  params = f.params;
  after = f.after;
  blocks = map (in_block x insts) f.blocks;
})
in_item x insts other = other

-- the module with these instructions in the block of that one
abbrev pub with_insts : Id → List Inst → Module → Module
with_insts x insts m = record { items = map (in_item x insts) m.items; globals = m.globals; big_endian_line = m.big_endian_line }

-- the module in which a region is rewritten, where its root is widened
abbrev pub rewritten_module : Module → ℕ → List Id → Option Module
rewritten_module m region [] = None
rewritten_module m region (s ∷ stores) = option_map (λ insts. with_insts s insts m) (rewritten m region (s ∷ stores))

-- ---- the law

abbrev pub is_root_widened : List Node → Bool
is_root_widened [] = false
is_root_widened (root ∷ nodes) = is_widened root.how

-- the changes fit one after another, and lead there
pub record Leads (m : Module) (region : ℕ) (stores : List Id) : Type 0 where
  pub list : List Change
  pub are : changes m region stores ≡ Some list
  pub fit : AllFit list m
  pub there : rewritten_module m region stores ≡ Some (all_applied list m)

abbrev pub ChangesLead : Type 0
ChangesLead =
    (m : Module) (region : ℕ) (stores : List Id) → IsFormed m → IsFresh m region → IsLawful m stores → is_root_widened (tree_of m stores) ≡ true →
    Leads m region stores

-- ---- a worked example: the block of sums, rewritten

sums_rewritten : rewritten_module (adding (sums_of 0)) 0 (id 6 ∷ id 7 ∷ []) ≡ Some (adding of_numbers)
unfolding int_wrap
sums_rewritten = refl

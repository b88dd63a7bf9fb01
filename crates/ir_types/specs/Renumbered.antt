-- A module with its ids given anew in order of the text: 0, 1 and so on over parameters and instructions, all of region 0. That is how
-- the ids are of a module that is read from its text.
use Rattle.std.specs.Prelude.{◌≡◌, refl, ℕ, ◌+◌, cond, List, [], ◌∷◌, map}
use Rattle.ir_types.specs.declared.id.Id.{Id}
use Rattle.ir_types.specs.declared.opd.Opd.{Opd}
use Rattle.ir_types.specs.declared.opd.Opd.TheVariants.{Val}
use Rattle.ir_types.specs.declared.inst.Inst.{Inst}
use Rattle.ir_types.specs.declared.func.Param.{Param}
use Rattle.ir_types.specs.declared.func.Block.{Block}
use Rattle.ir_types.specs.declared.func.Func.{Func}
use Rattle.ir_types.specs.declared.module.Item.{Item}
use Rattle.ir_types.specs.declared.module.Item.TheVariants.{Func as FuncItem}
use Rattle.ir_types.specs.declared.module.Module.{Module}
use Rattle.ir_types.specs.Available.{same_id}
use Rattle.ir_types.specs.Formed.{ids_of}

-- the new id of an id: its place among these, of which the first is k; what is not among them keeps its id
abbrev pub new_id : ℕ → List Id → Id → Id
new_id k [] id = id
new_id k (x ∷ xs) id = cond (same_id x id) (record { region = 0; k = k }) (new_id (k + 1) xs id)

module _ (ids : List Id) where
  abbrev pub new_opd : Opd → Opd
  new_opd (Val id) = Val (new_id 0 ids id)
  new_opd o = o

  abbrev pub new_inst : Inst → Inst
  new_inst i = record { id = new_id 0 ids i.id; name = i.name; ty = i.ty; op = i.op; opds = map new_opd i.opds }

  abbrev pub new_block : Block → Block
  new_block b = record { name = b.name; insts = map new_inst b.insts }

  abbrev pub new_param : Param → Param
  new_param p = record { id = new_id 0 ids p.id; name = p.name; ty = p.ty; attrs = p.attrs; noalias = p.noalias }

  abbrev pub new_func : Func → Func
  new_func f = record { before = f.before; ret = f.ret; name = f.name; params = map new_param f.params; after = f.after; blocks = map new_block f.blocks }

  abbrev pub new_item : Item → Item
  new_item (FuncItem f) = FuncItem (new_func f)
  new_item i = i

-- the module with its ids given anew
abbrev pub renumbered : Module → Module
renumbered m = record { items = map (new_item (ids_of m)) m.items; globals = m.globals; big_endian_line = m.big_endian_line }

-- the second of two ids gets the number 1
second : new_id 0 (record { region = 3; k = 7 } ∷ record { region = 0; k = 9 } ∷ []) (record { region = 0; k = 9 }) ≡ record { region = 0; k = 1 }
second = refl

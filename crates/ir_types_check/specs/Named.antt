-- What the names of a draft's items stand for, types aside: the second part of what a text reads as.
--
-- No name is defined twice, and each that is used is known. With what the names stand for in their place, the items are those of the
-- module.
use Rattle.std.specs.Prelude.{◌≡◌, Ok, List, []}
use Rattle.ir_types.specs.declared.module.Module.{Module}
use Rattle.ir_draft.specs.declared.draft.DraftItem.{DraftItem}
use Rattle.ir_types_check.specs.declared.tops.Tops.{Tops}
use Rattle.ir_types_check.specs.declared.building.Done.{Done}
use Rattle.ir_types_check.specs.Tops.{tops_of}
use Rattle.ir_types_check.specs.Resolved.{resolved_items, module_of}

pub record Names (items : List DraftItem) (m : Module) : Type 0 where
  -- no name is defined twice: of those of the module, and of those of each function
  pub tops : Tops
  pub once : tops_of items ≡ Ok tops
  -- each name that is used is known
  pub resolved : Done
  pub known : resolved_items tops.scope (record { items = []; lines = [] }) items ≡ Ok resolved
  -- the module's items, globals and byte order
  pub is : (module_of tops items resolved).«module» ≡ m

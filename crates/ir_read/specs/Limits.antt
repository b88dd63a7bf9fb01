-- The limits of a module: 100,000 instructions, 65,536 values a function, which are its parameters and instructions, and 4,096
-- blocks a function. Phis and terminators count, and a `switch` with its lines is one instruction.
use Rattle.std.specs.Prelude.{◌+◌, cond, Option, None, Some, nat_lt, length, max}
use Rattle.ir_read.specs.declared.size.Size.{Size}
use Rattle.ir_read.specs.declared.open_function.OpenFunction.{OpenFunction as Open}
use Rattle.ir_read.specs.declared.refusal.Limit.{Limit}
use Rattle.ir_read.specs.declared.refusal.Limit.TheVariants.{Instructions, Values, Blocks}

abbrev pub no_size : Size
no_size = record { insts = 0; values = 0; blocks = 0 }

-- with one more function: instructions are counted over the module, values and blocks are the most of any function
unfoldable pub with_function : Size → Open → Size
with_function size o = record {
  insts = size.insts + o.at.insts;
  values = max size.values (length o.head.params + o.at.insts);
  blocks = max size.blocks o.at.blocks;
}

-- the first limit that is passed
unfoldable pub passed : Size → Option Limit
passed size =
    cond (nat_lt 100000 size.insts) (Some Instructions)
    (cond (nat_lt 65536 size.values) (Some Values)
    (cond (nat_lt 4096 size.blocks) (Some Blocks) None))

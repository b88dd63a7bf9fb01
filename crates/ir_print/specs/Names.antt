-- Names and numbers in a function: what is shown of each value and of each block.
-- What has a written name shows it. The rest, parameters, blocks and results, is numbered from 0 by one counter in order of the
-- text; an unlabelled first block takes a number too, and an instruction without a result takes none.
use Rattle.std.specs.Prelude.{ℕ, ◌+◌, Bool, true, false, ◌&&◌, Option, Some, None, List, [], ◌∷◌, ◌++◌, codes, nat_eq, if◌then◌else◌}
use Rattle.std.specs.Fmt.{decimal, digits}
use Rattle.ir_types.specs.declared.id.Id.{Id}
use Rattle.ir_types.specs.declared.ty.Ty.{Ty}
use Rattle.ir_types.specs.declared.ty.Ty.TheVariants.{Void, Int, Ptr, Row}
use Rattle.ir_types.specs.declared.op.Op.{Op}
use Rattle.ir_types.specs.declared.op.Op.TheVariants.{Store}
use Rattle.ir_types.specs.declared.inst.Inst.{Inst}
use Rattle.ir_types.specs.declared.func.Param.{Param}
use Rattle.ir_types.specs.declared.func.Block.{Block}
use Rattle.ir_types.specs.declared.func.Func.{Func}
use Rattle.ir_print.specs.declared.names.Local.{Local}

-- what takes a name or a number: a value, or a block
pub data Named : Type 0 where
  Value : Id → Ty → Option (List ℕ) → Named
  Label : Option (List ℕ) → Named

-- whether an operation never gives a value of its instruction's type
abbrev pub is_store : Op → Bool
is_store (Store _) = true
is_store _ = false

-- whether a type is of a value
abbrev pub is_void : Ty → Bool
is_void Void = true
is_void _ = false

-- what an instruction names, in front of what follows
abbrev pub result_named : Bool → Bool → Inst → List Named → List Named
result_named false false i rest = Value i.id i.ty i.name ∷ rest
result_named _ _ i rest = rest

abbrev pub insts_named : List Inst → List Named → List Named
insts_named [] rest = rest
insts_named (i ∷ is) rest = result_named (is_void i.ty) (is_store i.op) i (insts_named is rest)

abbrev pub blocks_named : List Block → List Named
blocks_named [] = []
blocks_named (b ∷ bs) = Label b.name ∷ insts_named b.insts (blocks_named bs)

abbrev pub params_named : List Param → List Named → List Named
params_named [] rest = rest
params_named (p ∷ ps) rest = Value p.id p.ty p.name ∷ params_named ps rest

-- all that a function names, in order of the text
abbrev pub named_of : Func → List Named
named_of f = params_named f.params (blocks_named f.blocks)

-- what is shown where n is the next number, and the number after it
abbrev pub shown : ℕ → Option (List ℕ) → List ℕ
shown n None = decimal n
shown n (Some name) = name

abbrev pub counted : ℕ → Option (List ℕ) → ℕ
counted n None = n + 1
counted n (Some name) = n

-- the values with what is shown of them, from the next number on
abbrev pub locals_from : ℕ → List Named → List Local
locals_from n [] = []
locals_from n (Value id ty name ∷ rest) = record { id = id; ty = ty; text = shown n name } ∷ locals_from (counted n name) rest
locals_from n (Label name ∷ rest) = locals_from (counted n name) rest

-- what is shown of the blocks, in order
abbrev pub labels_from : ℕ → List Named → List (List ℕ)
labels_from n [] = []
labels_from n (Value id ty name ∷ rest) = labels_from (counted n name) rest
labels_from n (Label name ∷ rest) = shown n name ∷ labels_from (counted n name) rest

-- a function's values and blocks, as they are shown
pub record Names : Type 0 where
  pub locals : List Local
  pub labels : List (List ℕ)

abbrev pub names_of : Func → Names
names_of f = record { locals = locals_from 0 (named_of f); labels = labels_from 0 (named_of f) }

-- whether two ids are one
abbrev pub same_id : Id → Id → Bool
same_id a b = nat_eq a.region b.region && nat_eq a.k b.k

-- the last value of an id among these, or what was found before them
abbrev pub last_of : Id → List Local → Option Local → Option Local
last_of id [] before = before
last_of id (l ∷ ls) before = last_of id ls (if same_id l.id id then Some l else before)

-- the value of an id; where a text that is not formed has several, the last
abbrev pub local_of : Id → List Local → Option Local
local_of id ls = last_of id ls None

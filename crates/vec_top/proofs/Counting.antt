-- A module that is counted has functions whose values and blocks can be numbered.
use Rattle.std.proofs.Common.{◌≡◌, ℕ, ◌+◌, ◌-◌, ◌^◌, ◌<◌, ◌≤◌, Bool, true, false, ◌&&◌, List, [], ◌∷◌, length, drop, refl, sym, ◌∙◌, arith, ap}
use Rattle.std.proofs.Math.Nat.{min-eq_left}
use Rattle.std.proofs.Math.ListN.{drop_of_length-le}
use Rattle.std.specs.Prelude.{nat_lt, min}
use Rattle.std.specs.List.{All, list_all}
use Rattle.std.proofs.lemmas.Bool.Decides.{nat_tests}
use Rattle.std.proofs.lemmas.List.Elements.{All-nil, All-cons}
use Rattle.ir_types.specs.declared.inst.Inst.{Inst}
use Rattle.ir_types.specs.declared.func.Param.{Param}
use Rattle.ir_types.specs.declared.func.Block.{Block}
use Rattle.ir_types.specs.declared.func.Func.{Func}
use Rattle.ir_types.specs.declared.module.Item.{Item}
use Rattle.ir_types.specs.declared.module.Item.TheVariants.{Kept, Opaque, Func as FuncItem}
use Rattle.ir_types.specs.declared.module.Module.{Module}
use Rattle.ir_print.specs.Names.{Named, result_named, insts_named, blocks_named, params_named, named_of, is_void, is_store}
use Rattle.rf_text.specs.Printable.{IsCountedItem, IsCounted}
use Rattle.vec_top.specs.Counts.{blocks_size, size_of, is_counted, are_counted}

result_most : (v s : Bool) (i : Inst) (rest : List Named) → length (result_named v s i rest) ≤ 1 + length rest
result_most false false i rest = omega arith
result_most false true i rest = omega arith
result_most true s i rest = omega arith

insts_most : (is : List Inst) (rest : List Named) → length (insts_named is rest) ≤ length is + length rest
insts_most [] rest = omega arith
insts_most (i ∷ is) rest = omega (arith, result_most (is_void i.ty) (is_store i.op) i (insts_named is rest), insts_most is rest)

blocks_most : (bs : List Block) → length (blocks_named bs) ≤ blocks_size bs
blocks_most [] = omega arith
blocks_most (b ∷ bs) = omega (arith, insts_most b.insts (blocks_named bs), blocks_most bs)

params_most : (ps : List Param) (rest : List Named) → length (params_named ps rest) ≤ length ps + length rest
params_most [] rest = omega arith
params_most (p ∷ ps) rest = omega (arith, params_most ps rest)

func_most : (f : Func) → length (named_of f) ≤ size_of f
func_most f = omega (arith, params_most f.params (blocks_named f.blocks), blocks_most f.blocks)

few : (n k : ℕ) → n ≤ k → nat_lt k (2 ^ 64 - 1) ≡ true → n < 2 ^ 64
few n k less e = let below : k < 2 ^ 64 - 1 = grind (arith, nat_tests) in omega arith

item_counted : (i : Item) → is_counted i ≡ true → IsCountedItem i
item_counted (Kept text) e = tt
item_counted (Opaque text) e = tt
item_counted (FuncItem f) e = few (length (named_of f)) (size_of f) (func_most f) e

both : (a b : Bool) → a && b ≡ true → (a ≡ true) × (b ≡ true)
both true b e = (refl, e)
both false b e = cc

items_counted : (is : List Item) → list_all is_counted is ≡ true → All IsCountedItem is
items_counted [] e = All-nil IsCountedItem
items_counted (i ∷ is) e =
    let b : (is_counted i ≡ true) × (list_all is_counted is ≡ true) = both (is_counted i) (list_all is_counted is) e in
    All-cons IsCountedItem i is (item_counted i b.0) (items_counted is b.1)

pub counted : (m : Module) → are_counted m ≡ true → IsCounted m
counted m e = items_counted m.items e

-- after the last of some blocks all are counted
pub counted_whole : (count start bound : ℕ) (bs : List Block) (i : ℕ) → count ≤ bound → length bs ≤ i → min (count + blocks_size (drop i bs)) bound ≡ min (start + blocks_size bs) bound → count ≡ min (start + blocks_size bs) bound
counted_whole count start bound bs i few past e =
    let none : drop i bs ≡ [] = drop_of_length-le bs past in
    let size : blocks_size (drop i bs) ≡ 0 = ap blocks_size none in
    let same : count + blocks_size (drop i bs) ≡ count = omega (arith, size) in
    sym (min-eq_left few) ∙ sym (ap (λ k. min k bound) same) ∙ e

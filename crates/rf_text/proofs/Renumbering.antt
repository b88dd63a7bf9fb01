-- A module whose ids are in order of the text keeps them.
use Rattle.std.proofs.Common.{◌≡◌, ℕ, zero, suc, ◌+◌, Bool, true, false, cond, List, [], ◌∷◌, refl, sym, ap, subst, map, length, arith}
use Rattle.std.proofs.lemmas.Bool.Decides.{nat_tests}
use Rattle.ir_types.specs.declared.id.Id.{Id}
use Rattle.ir_types.specs.declared.opd.Opd.{Opd}
use Rattle.ir_types.specs.declared.opd.Opd.TheVariants.{Val, Lit, Sym}
use Rattle.ir_types.specs.declared.inst.Inst.{Inst}
use Rattle.ir_types.specs.declared.func.Param.{Param}
use Rattle.ir_types.specs.declared.func.Block.{Block}
use Rattle.ir_types.specs.declared.func.Func.{Func}
use Rattle.ir_types.specs.declared.module.Item.{Item}
use Rattle.ir_types.specs.declared.module.Item.TheVariants.{Kept, Opaque, Func as FuncItem}
use Rattle.ir_types.specs.declared.module.Module.{Module}
use Rattle.ir_types.specs.Available.{same_id}
use Rattle.ir_types.specs.Formed.{ids_of}
use Rattle.rf_text.specs.Printable.{ids_from, IsNumbered}
use Rattle.ir_types.specs.Renumbered.{new_id, new_opd, new_inst, new_block, new_param, new_func, new_item, renumbered}

map_same : {A : Type 0} (f : A → A) (xs : List A) → ((x : A) → f x ≡ x) → map f xs ≡ xs
map_same f [] h = refl
map_same f (x ∷ xs) h = rw (h x, map_same f xs h) refl

same_number : (k : ℕ) (id : Id) → same_id (record { region = 0; k = k }) id ≡ true → record { region = 0; k = k } ≡ id
same_number k id e =
    let region : 0 ≡ id.region = grind (arith, nat_tests) in
    let number : k ≡ id.k = grind (arith, nat_tests) in
    here id region number
  where
    here : (id : Id) → 0 ≡ id.region → k ≡ id.k → record { region = 0; k = k } ≡ id
    here id r n = rw (r, n) refl

keeps : (k n : ℕ) (id : Id) → new_id k (ids_from k n) id ≡ id
keeps k zero id = refl
keeps k (suc n) id = here (same_id (record { region = 0; k = k }) id) refl (keeps (k + 1) n id) where
  here : (b : Bool) → same_id (record { region = 0; k = k }) id ≡ b → new_id (k + 1) (ids_from (k + 1) n) id ≡ id → cond b (record { region = 0; k = k }) (new_id (k + 1) (ids_from (k + 1) n) id) ≡ id
  here true e rest = same_number k id e
  here false e rest = rest

module _ (ids : List Id) (same : (id : Id) → new_id 0 ids id ≡ id) where
  opd_same : (o : Opd) → new_opd ids o ≡ o
  opd_same (Val id) = ap Val (same id)
  opd_same (Lit l) = refl
  opd_same (Sym g) = refl

  inst_same : (i : Inst) → new_inst ids i ≡ i
  inst_same i = here i (same i.id) (map_same (new_opd ids) i.opds opd_same) where
    here : (i : Inst) → new_id 0 ids i.id ≡ i.id → map (new_opd ids) i.opds ≡ i.opds → new_inst ids i ≡ i
    here i p q = rw (p, q) refl

  block_same : (b : Block) → new_block ids b ≡ b
  block_same b = ap (λ (is : List Inst). record { name = b.name; insts = is }) (map_same (new_inst ids) b.insts inst_same)

  param_same : (p : Param) → new_param ids p ≡ p
  param_same p = ap (λ (id : Id). record { id = id; name = p.name; ty = p.ty; attrs = p.attrs; noalias = p.noalias }) (same p.id)

  func_same : (f : Func) → new_func ids f ≡ f
  func_same f = here f (map_same (new_param ids) f.params param_same) (map_same (new_block ids) f.blocks block_same) where
    here : (f : Func) → map (new_param ids) f.params ≡ f.params → map (new_block ids) f.blocks ≡ f.blocks → new_func ids f ≡ f
    here f p q = rw (p, q) refl

  item_same : (i : Item) → new_item ids i ≡ i
  item_same (Kept text) = refl
  item_same (Opaque text) = refl
  item_same (FuncItem f) = ap FuncItem (func_same f)

pub numbered_stays : (m : Module) → IsNumbered m → renumbered m ≡ m
numbered_stays m h =
    let same : (id : Id) → new_id 0 (ids_of m) id ≡ id = λ id. subst (λ (ids : List Id). new_id 0 ids id ≡ id) (sym h) (keeps 0 (length (ids_of m)) id) in
    ap (λ (is : List Item). record { items = is; globals = m.globals; big_endian_line = m.big_endian_line }) (map_same (new_item (ids_of m)) m.items (item_same (ids_of m) same))

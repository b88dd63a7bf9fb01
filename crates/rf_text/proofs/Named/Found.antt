-- What a formed function uses is found by what is shown of it.
use Rattle.std.proofs.Common.{◌≡◌, ℕ, suc, ◌<◌, Bool, true, false, ◌||◌, if◌then◌else◌, nat_lt, List, [], ◌∷◌, length, Option, Some, None, Ok, refl, sym, ◌∙◌, ap, arith}
use Rattle.std.proofs.lemmas.Bool.Decides.{nat_tests}
use Rattle.std.proofs.lemmas.List.Elements.{All-weaker}
use Rattle.std.proofs.lemmas.Option.{slice_get-get_or}
use Rattle.std.specs.List.{All, slice_get, slice_index_or}
use Rattle.ir_types.specs.declared.id.Id.{Id}
use Rattle.ir_types.specs.declared.ty.Ty.{Ty}
use Rattle.ir_types.specs.declared.ty.Ty.TheVariants.{Ptr}
use Rattle.ir_types.specs.declared.opd.Opd.{Opd}
use Rattle.ir_types.specs.declared.opd.Opd.TheVariants.{Val, Lit, Sym}
use Rattle.ir_types.specs.declared.op.Op.{Op}
use Rattle.ir_types.specs.declared.op.Op.TheVariants.{Store}
use Rattle.ir_types.specs.declared.inst.Inst.{Inst}
use Rattle.ir_types.specs.declared.func.Param.{Param}
use Rattle.ir_types.specs.declared.func.Block.{Block}
use Rattle.ir_types.specs.declared.func.Func.{Func}
use Rattle.ir_types.specs.declared.module.Module.{Module}
use Rattle.ir_types.specs.Formed.{EndsOnce, IsFormedInst, IsFormedBlock, IsFormedFunc, given_ty, or_else, ty_in_insts, ty_in_blocks, ty_in_params, value_ty, opd_ty}
use Rattle.ir_print.specs.declared.names.Local.{Local}
use Rattle.ir_print.specs.Names.{names_of, locals_from, labels_from, shown, counted, same_id, last_of, local_of, is_store, is_void}
use Rattle.ir_types_check.specs.Scope.{Scope, meaning}
use Rattle.ir_types_check.proofs.Handed.{LocalMeaning, TopMeaning, block_at, global_at}
use Rattle.rf_text.proofs.PlainItems.{IsPlainInst, IsPlainBlock, IsPlainFunc}
use Rattle.rf_text.proofs.Named.Things.{Thing, Gives, Silent, Begins, inst_thing, insts_things, blocks_things, params_things, things_of, named_things, things_are}
use Rattle.rf_text.proofs.Named.Places.{Known, IsPlaced, value_placed, block_known}
use Rattle.rf_text.proofs.Named.Links.{IsFoundOpd, IsFoundBlock, IsFoundInst}
use Rattle.rf_text.proofs.Named.Typed.{IsReal, Uses, uses, each_all}
use Rattle.rf_text.proofs.Named.Built.{IsReadInst, IsReadBlock}

-- ---- values

-- whether one of the things gives the value of an id
abbrev has_value : Id → List Thing → Bool
has_value id [] = false
has_value id (Gives key ty name ∷ ts) = same_id key id || has_value id ts
has_value id (Silent key ∷ ts) = has_value id ts
has_value id (Begins name ∷ ts) = has_value id ts

-- one that was found stays found
kept : (id : Id) (ls : List Local) (k : Local) → (l : Local) × (last_of id ls (Some k) ≡ Some l)
kept id [] k = (k, refl)
kept id (l ∷ ls) k = go (same_id l.id id) (λ k. kept id ls k) where
  go : (t : Bool) → ((k : Local) → (m : Local) × (last_of id ls (Some k) ≡ Some m)) → (m : Local) × (last_of id ls (if t then Some l else Some k) ≡ Some m)
  go true stays = stays l
  go false stays = stays k

-- a value that is given is shown
value_shown : (id : Id) (n : ℕ) (ts : List Thing) (before : Option Local) → has_value id ts ≡ true → (l : Local) × (last_of id (locals_from n (named_things ts)) before ≡ Some l)
value_shown id n [] before h = cc
value_shown id n (Gives key ty name ∷ ts) before h = go (same_id key id) h (λ h. value_shown id (counted n name) ts before h) where
  go : (t : Bool) → t || has_value id ts ≡ true → (has_value id ts ≡ true → (l : Local) × (last_of id (locals_from (counted n name) (named_things ts)) before ≡ Some l)) → (l : Local) × (last_of id (locals_from (counted n name) (named_things ts)) (if t then Some (record { id = key; ty = ty; text = shown n name }) else before) ≡ Some l)
  go true h after = kept id (locals_from (counted n name) (named_things ts)) (record { id = key; ty = ty; text = shown n name })
  go false h after = after h
value_shown id n (Silent key ∷ ts) before h = value_shown id n ts before h
value_shown id n (Begins name ∷ ts) before h = value_shown id (counted n name) ts before h

second_true : (a b : Bool) → b ≡ true → a || b ≡ true
second_true true b h = refl
second_true false b h = h

-- an instruction whose type is of a value gives it
given_real : (v : Bool) (i : Inst) → is_void i.ty ≡ v → IsReal (Some (given_ty i.op i.ty)) → (v ≡ false) × (is_store i.op ≡ false)
given_real v i e h = go i.op h where
  go : (op : Op) → IsReal (Some (given_ty op i.ty)) → (v ≡ false) × (is_store op ≡ false)
  go (Store align) h = cc
  go op h = (sym e ∙ h, refl)

inst_gives : (id : Id) (v w : Bool) (i : Inst) (rest : List Thing) → v ≡ false → w ≡ false → same_id i.id id ≡ true → has_value id (inst_thing v w i ∷ rest) ≡ true
inst_gives id true w i rest e f same = cc
inst_gives id false true i rest e f same = cc
inst_gives id false false i rest e f same = rw same refl

inst_passes : (id : Id) (v w : Bool) (i : Inst) (rest : List Thing) → has_value id rest ≡ true → has_value id (inst_thing v w i ∷ rest) ≡ true
inst_passes id true w i rest h = h
inst_passes id false true i rest h = h
inst_passes id false false i rest h = second_true (same_id i.id id) (has_value id rest) h

insts_give : (id : Id) (is : List Inst) (other : Option Ty) (rest : List Thing) → (IsReal other → has_value id rest ≡ true) → IsReal (or_else (ty_in_insts id is) other) → has_value id (insts_things is rest) ≡ true
insts_give id [] other rest next h = next h
insts_give id (i ∷ is) other rest next h = go (same_id i.id id) refl h (λ h. insts_give id is other rest next h) where
  go : (t : Bool) → same_id i.id id ≡ t → IsReal (or_else (if t then Some (given_ty i.op i.ty) else ty_in_insts id is) other) → (IsReal (or_else (ty_in_insts id is) other) → has_value id (insts_things is rest) ≡ true) → has_value id (insts_things (i ∷ is) rest) ≡ true
  go true same h after = let value : (is_void i.ty ≡ false) × (is_store i.op ≡ false) = given_real (is_void i.ty) i refl h in inst_gives id (is_void i.ty) (is_store i.op) i (insts_things is rest) value.0 value.1 same
  go false same h after = inst_passes id (is_void i.ty) (is_store i.op) i (insts_things is rest) (after h)

blocks_give : (id : Id) (bs : List Block) → IsReal (ty_in_blocks id bs) → has_value id (blocks_things bs) ≡ true
blocks_give id [] h = absurd h
blocks_give id (b ∷ bs) h = insts_give id b.insts (ty_in_blocks id bs) (blocks_things bs) (blocks_give id bs) h

params_give : (id : Id) (ps : List Param) (other : Option Ty) (rest : List Thing) → (IsReal other → has_value id rest ≡ true) → IsReal (or_else (ty_in_params id ps) other) → has_value id (params_things ps rest) ≡ true
params_give id [] other rest next h = next h
params_give id (p ∷ ps) other rest next h = go (same_id p.id id) h (params_give id ps other rest next) where
  go : (t : Bool) → IsReal (or_else (if t then Some p.ty else ty_in_params id ps) other) → (IsReal (or_else (ty_in_params id ps) other) → has_value id (params_things ps rest) ≡ true) → t || has_value id (params_things ps rest) ≡ true
  go true h more = refl
  go false h more = more h

-- a value of the function is shown
pub value_there : (f : Func) (id : Id) → IsReal (value_ty f id) → (l : Local) × (local_of id (names_of f).locals ≡ Some l)
value_there f id h =
    let has : has_value id (things_of f) ≡ true = params_give id f.params (ty_in_blocks id f.blocks) (blocks_things f.blocks) (blocks_give id f.blocks) h in
    let found : (l : Local) × (last_of id (locals_from 0 (named_things (things_of f))) None ≡ Some l) = value_shown id 0 (things_of f) None has in
    (found.0, ap (λ vs. local_of id (locals_from 0 vs)) (sym (things_are f)) ∙ found.1)

-- ---- blocks

insts_label : (n : ℕ) (is : List Inst) (rest : List Thing) (k : ℕ) → ((n : ℕ) → length (labels_from n (named_things rest)) ≡ k) → length (labels_from n (named_things (insts_things is rest))) ≡ k
insts_label n [] rest k same = same n
insts_label n (i ∷ is) rest k same = go (is_void i.ty) (is_store i.op) (λ n. insts_label n is rest k same) where
  go : (v w : Bool) → ((n : ℕ) → length (labels_from n (named_things (insts_things is rest))) ≡ k) → length (labels_from n (named_things (inst_thing v w i ∷ insts_things is rest))) ≡ k
  go false false after = after (counted n i.name)
  go false true after = after n
  go true w after = after n

blocks_label : (n : ℕ) (bs : List Block) → length (labels_from n (named_things (blocks_things bs))) ≡ length bs
blocks_label n [] = refl
blocks_label n (b ∷ bs) = ap suc (insts_label (counted n b.name) b.insts (blocks_things bs) (length bs) (λ k. blocks_label k bs))

params_label : (n : ℕ) (ps : List Param) (rest : List Thing) (k : ℕ) → ((n : ℕ) → length (labels_from n (named_things rest)) ≡ k) → length (labels_from n (named_things (params_things ps rest))) ≡ k
params_label n [] rest k same = same n
params_label n (p ∷ ps) rest k same = params_label (counted n p.name) ps rest k same

-- as many labels are shown as there are blocks
pub labels_many : (f : Func) → length (names_of f).labels ≡ length f.blocks
labels_many f = ap (λ vs. length (labels_from 0 vs)) (sym (things_are f)) ∙ params_label 0 f.params (blocks_things f.blocks) (length f.blocks) (λ n. blocks_label n f.blocks)

-- ---- a function in its module

-- each global of a module is found by its name
abbrev pub HasGlobals : List (List ℕ) → Scope TopMeaning → Type 0
HasGlobals gs tops = (g : ℕ) (name : List ℕ) → slice_get gs g ≡ Some name → meaning name tops ≡ Some (global_at g)

module _ (m : Module) (f : Func) (tops : Scope TopMeaning) (scope : Scope LocalMeaning) (base : ℕ) (globals : HasGlobals m.globals tops) (known : Known base scope (names_of f) 0 0 0 (things_of f)) where
  local_found : (id : Id) → IsReal (value_ty f id) → IsFoundOpd tops scope base (names_of f) m.globals (Val id)
  local_found id h n =
      let there : (l : Local) × (local_of id (names_of f).locals ≡ Some l) = value_there f id h in
      let is : IsPlaced base scope (names_of f) id there.0 = value_placed base scope (names_of f) id (things_of f) (ap (locals_from 0) (sym (things_are f))) known there.0 there.1 in
      rw (there.1, is.means) (ap (λ (x : Id). Ok (Val x)) (sym is.is))

  global_found : (g : ℕ) → IsReal (if nat_lt g (length m.globals) then Some Ptr else None) → IsFoundOpd tops scope base (names_of f) m.globals (Sym g)
  global_found g h n =
      let within : g < length m.globals = test (nat_lt g (length m.globals)) refl h in
      let there : slice_get m.globals g ≡ Some (slice_index_or m.globals g []) = slice_get-get_or m.globals g [] within in
      rw (there, globals g (slice_index_or m.globals g []) there) refl where
        test : (t : Bool) → nat_lt g (length m.globals) ≡ t → IsReal (if t then Some Ptr else None) → g < length m.globals
        test true e h = grind (arith, nat_tests)
        test false e h = absurd h

  opd_found : (o : Opd) → IsReal (opd_ty m f o) → IsFoundOpd tops scope base (names_of f) m.globals o
  opd_found (Val id) h = local_found id h
  opd_found (Lit literal) h = λ n. refl
  opd_found (Sym g) h = global_found g h

  block_found : (b : ℕ) → b < length f.blocks → IsFoundBlock tops scope base (names_of f) m.globals b
  block_found b h n =
      let within : b < length (names_of f).labels = let many : length (names_of f).labels ≡ length f.blocks = labels_many f in omega (arith, h, many) in
      let there : slice_get (names_of f).labels b ≡ Some (slice_index_or (names_of f).labels b []) = slice_get-get_or (names_of f).labels b [] within in
      let means : meaning (slice_index_or (names_of f).labels b []) scope ≡ Some (block_at b) =
      block_known base scope (names_of f) (things_of f) (ap (labels_from 0) (sym (things_are f))) known b (slice_index_or (names_of f).labels b []) there in
      rw (there, means) refl

  inst_found : (i : Inst) → Uses m f i → IsFoundInst tops scope base (names_of f) m.globals i
  inst_found i u = record {
    operands = All-weaker (λ o. IsReal (opd_ty m f o)) (IsFoundOpd tops scope base (names_of f) m.globals) opd_found i.opds u.operands;
    blocks = All-weaker (λ b. b < length f.blocks) (IsFoundBlock tops scope base (names_of f) m.globals) block_found _ u.blocks;
    cases = All-weaker (λ b. b < length f.blocks) (IsFoundBlock tops scope base (names_of f) m.globals) block_found _ u.cases;
    shape = u.shape;
  }

  inst_is_read : (number position : ℕ) (i : Inst) → IsFormedInst m f number position i → IsPlainInst i → IsReadInst tops scope base (names_of f) m.globals i
  inst_is_read number position i formed plain = record { found = inst_found i (uses m f number position i formed plain.other); silent = plain.silent }

  block_is_read : (number : ℕ) (b : Block) → IsFormedBlock m f number b → IsPlainBlock b → IsReadBlock tops scope base (names_of f) m.globals b
  block_is_read number b formed plain = record {
    ends = formed.ends;
    insts = each_all (IsFormedInst m f number) IsPlainInst (IsReadInst tops scope base (names_of f) m.globals) (inst_is_read number) b.insts formed.insts plain.insts;
  }

  -- all blocks
  pub blocks_are_read : IsFormedFunc m f → IsPlainFunc f → All (IsReadBlock tops scope base (names_of f) m.globals) f.blocks
  blocks_are_read formed plain = each_all (IsFormedBlock m f) IsPlainBlock (IsReadBlock tops scope base (names_of f) m.globals) block_is_read f.blocks formed.blocks plain.blocks

-- each block of a formed function ends once
pub all_end : (m : Module) (f : Func) → IsFormedFunc m f → All (λ (b : Block). EndsOnce b.insts) f.blocks
all_end m f formed k d within = (formed.blocks k (slice_index_or f.blocks k d) (slice_get-get_or f.blocks k d within)).ends

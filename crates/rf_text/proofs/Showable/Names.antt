-- The names that are written in a function, by its parameters, labels and results; and names that are plain.
use Rattle.std.proofs.Common.{◌≡◌, ℕ, Bool, true, false, cond, not, ◌&&◌, ◌||◌, List, [], ◌∷◌, ◌++◌, Option, Some, None, bytes_eq, refl, sym, ◌∙◌, ap, subst, append_assoc}
use Rattle.std.proofs.lemmas.List.Elements.{All-head, All-tail}
use Rattle.std.specs.Char.{is_ascii_digit}
use Rattle.std.specs.List.{All, AllPairs}
use Rattle.ir_lex.specs.Bytes.{is_digit}
use Rattle.ir_lex.specs.Tokens.{is_name, is_number}
use Rattle.ir_lex.proofs.Classes.{both}
use Rattle.ir_types.specs.declared.op.Op.{Op}
use Rattle.ir_types.specs.declared.op.Op.TheVariants as ops
use Rattle.ir_types.specs.declared.inst.Inst.{Inst}
use Rattle.ir_types.specs.declared.func.Param.{Param}
use Rattle.ir_types.specs.declared.func.Block.{Block}
use Rattle.ir_types.specs.declared.func.Func.{Func}
use Rattle.ir_words.specs.Values.{plain_number}
use Rattle.ir_print.specs.Names.{Named, is_store, is_void, result_named, insts_named, blocks_named, params_named, named_of}
use Rattle.ir_types_check.specs.Outline as outline
use Rattle.ir_types_check.specs.Outline.{written_name, written}
use Rattle.ir_types_check.specs.Links.{op_of}
use Rattle.ir_types_check.proofs.ReadParts.{inst_parts}
use Rattle.ir_types_check.proofs.ReadNames.{Apart, onto, given_names, name_part, result_part, block_names}
use Rattle.ir_types_check.proofs.ReadLinks.{FoundCases}
use Rattle.rf_text.specs.Headed.{is_local_name, is_written}
use Rattle.rf_text.specs.Shown.{is_call}
use Rattle.rf_text.specs.Printable.{in_front, written_names}
use Rattle.rf_text.proofs.PlainItems.{gives}
use Rattle.ir_types.specs.Formed.{is_plain}

-- ---- plain names

local_plain : (name : List ℕ) → outline.is_number name ≡ false → is_local_name name ≡ true → is_name name ≡ true
unfolding is_digit
local_plain [] d h = h
local_plain (b ∷ bs) d h = here (is_name (b ∷ bs)) h where
  here : (t : Bool) → t || (is_number (b ∷ bs) && bytes_eq (plain_number (b ∷ bs)) (b ∷ bs)) ≡ true → t ≡ true
  here true e = refl
  here false e = let digit : is_ascii_digit b ≡ true = (both (is_ascii_digit b) _ (both (is_number (b ∷ bs)) _ e).0).0 in cc

-- what is written of the name of a local is plain
pub plain_written : (name : List ℕ) → is_local_name name ≡ true → is_plain (written_name name) ≡ true
plain_written name h = here (outline.is_number name) refl where
  here : (t : Bool) → outline.is_number name ≡ t → is_plain (cond t None (Some name)) ≡ true
  here true d = refl
  here false d = local_plain name d h

pub plain_result : (name : Option (List ℕ)) → is_written name ≡ true → is_plain (written name) ≡ true
plain_result None h = refl
plain_result (Some name) h = plain_written name h

-- ---- operations keep what they are

pub store_kept : (blocks : List ℕ) (cases : FoundCases) (op : Op) → is_store (op_of blocks cases op) ≡ is_store op
store_kept blocks cases (ops.Phi places) = refl
store_kept blocks cases (ops.Br to) = refl
store_kept blocks cases (ops.CondBr first second) = refl
store_kept blocks cases (ops.Switch other values to) = refl
store_kept blocks cases _ = refl

pub call_kept : (blocks : List ℕ) (cases : FoundCases) (op : Op) → is_call (op_of blocks cases op) ≡ is_call op
call_kept blocks cases (ops.Phi places) = refl
call_kept blocks cases (ops.Br to) = refl
call_kept blocks cases (ops.CondBr first second) = refl
call_kept blocks cases (ops.Switch other values to) = refl
call_kept blocks cases _ = refl

-- ---- names in order

front_is : (name : Option (List ℕ)) (xs ys : List (List ℕ)) → in_front name (xs ++ ys) ≡ onto name xs ++ ys
front_is None xs ys = refl
front_is (Some x) xs ys = refl

abbrev IsSilent : Inst → Type 0
IsSilent i = gives i ≡ false → i.name ≡ None

params_written : (ps : List Param) (rest : List Named) → written_names (params_named ps rest) ≡ given_names ps ++ written_names rest
params_written [] rest = refl
params_written (p ∷ ps) rest = ap (in_front p.name) (params_written ps rest) ∙ front_is p.name (given_names ps) (written_names rest)

inst_written : (i : Inst) (rest : List Named) → IsSilent i → written_names (result_named (is_void i.ty) (is_store i.op) i rest) ≡ onto i.name [] ++ written_names rest
inst_written i rest silent = here (is_void i.ty) (is_store i.op) silent where
  here : (v s : Bool) → (not v && not s ≡ false → i.name ≡ None) → written_names (result_named v s i rest) ≡ onto i.name [] ++ written_names rest
  here false false h = front_is i.name [] (written_names rest)
  here false true h = ap (λ (o : Option (List ℕ)). onto o [] ++ written_names rest) (sym (h refl))
  here true s h = ap (λ (o : Option (List ℕ)). onto o [] ++ written_names rest) (sym (h refl))

insts_written : (is : List Inst) (rest : List Named) → All IsSilent is → written_names (insts_named is rest) ≡ inst_parts name_part result_part is ++ written_names rest
insts_written [] rest all = refl
insts_written (i ∷ is) rest all =
    inst_written i (insts_named is rest) (All-head IsSilent i is all)
    ∙ ap (λ names. onto i.name [] ++ names) (insts_written is rest (All-tail IsSilent i is all))
    ∙ sym (append_assoc (onto i.name []) (inst_parts name_part result_part is) (written_names rest))

abbrev IsSilentBlock : Block → Type 0
IsSilentBlock b = All IsSilent b.insts

blocks_written : (bs : List Block) → All IsSilentBlock bs → written_names (blocks_named bs) ≡ block_names bs
blocks_written [] all = refl
blocks_written (b ∷ bs) all =
    ap (in_front b.name) (insts_written b.insts (blocks_named bs) (All-head IsSilentBlock b bs all) ∙ ap (λ names. inst_parts name_part result_part b.insts ++ names) (blocks_written bs (All-tail IsSilentBlock b bs all)))
    ∙ front_is b.name [] (inst_parts name_part result_part b.insts ++ block_names bs)

-- the names that are written are those that are given, where what gives no value has none
pub names_once : (f : Func) → All (λ (b : Block). All (λ (i : Inst). gives i ≡ false → i.name ≡ None) b.insts) f.blocks → Apart (given_names f.params ++ block_names f.blocks) →
    AllPairs (λ (a b : List ℕ). a ≡ b → ⊥) (written_names (named_of f))
names_once f silent apart =
    subst Apart (sym (params_written f.params (blocks_named f.blocks) ∙ ap (λ names. given_names f.params ++ names) (blocks_written f.blocks silent))) apart

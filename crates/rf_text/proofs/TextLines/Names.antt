-- What is shown of a printable function's values and blocks is a name that can be read again, and so is its header.
use Rattle.std.proofs.Common.{◌≡◌, ℕ, ◌+◌, ◌^◌, ◌<◌, ◌≤◌, inl, inr, Bool, true, false, List, [], ◌∷◌, length, Option, Some, None, refl, arith}
use Rattle.std.proofs.lemmas.List.Elements.{All-head, All-tail, All-cons, All-nil, All-weaker}
use Rattle.std.specs.List.{All, list_all}
use Rattle.ir_lex.specs.Tokens.{is_name}
use Rattle.ir_lex.proofs.Classes.{both}
use Rattle.ir_types.specs.declared.inst.Inst.{Inst}
use Rattle.ir_types.specs.declared.func.Param.{Param}
use Rattle.ir_types.specs.declared.func.Block.{Block}
use Rattle.ir_types.specs.declared.func.Func.{Func}
use Rattle.ir_print.specs.declared.names.Local.{Local}
use Rattle.ir_print.specs.Names.{Named, Value, Label, result_named, insts_named, blocks_named, params_named, named_of, shown, counted, locals_from, labels_from, names_of, is_store, is_void}
use Rattle.rf_text.specs.Headed.{is_named, IsHeaded}
use Rattle.rf_text.specs.Shown.{IsLocalName, Shown}
use Rattle.rf_text.specs.Printed.{IsShownLabel}
use Rattle.rf_text.specs.Printable.{name_of}
use Rattle.rf_text.proofs.PlainItems.{IsPlainInst, IsPlainBlock, IsPlainFunc}
use Rattle.ir_types.specs.Formed.{is_plain}
use Rattle.rf_text.proofs.Heads.Shown.{counted_most, all_shown}

-- ---- written names are plain

abbrev plain : Named → Bool
plain n = is_plain (name_of n)

result_plain : (void store : Bool) (i : Inst) (rest : List Named) → is_plain i.name ≡ true → list_all plain rest ≡ true → list_all plain (result_named void store i rest) ≡ true
result_plain false false i rest n h = rw n h
result_plain false true i rest n h = h
result_plain true store i rest n h = h

insts_plain : (is : List Inst) (rest : List Named) → All IsPlainInst is → list_all plain rest ≡ true → list_all plain (insts_named is rest) ≡ true
insts_plain [] rest all h = h
insts_plain (i ∷ is) rest all h =
    result_plain (is_void i.ty) (is_store i.op) i (insts_named is rest) (All-head IsPlainInst i is all).named (insts_plain is rest (All-tail IsPlainInst i is all) h)

blocks_plain : (bs : List Block) → All IsPlainBlock bs → list_all plain (blocks_named bs) ≡ true
blocks_plain [] all = refl
blocks_plain (b ∷ bs) all =
    let one : IsPlainBlock b = All-head IsPlainBlock b bs all in
    rw one.named (insts_plain b.insts (blocks_named bs) one.insts (blocks_plain bs (All-tail IsPlainBlock b bs all)))

params_plain : (ps : List Param) (rest : List Named) → All (λ (p : Param). is_plain p.name ≡ true) ps → list_all plain rest ≡ true → list_all plain (params_named ps rest) ≡ true
params_plain [] rest all h = h
params_plain (p ∷ ps) rest all h =
    rw (All-head (λ (p : Param). is_plain p.name ≡ true) p ps all) (params_plain ps rest (All-tail (λ (p : Param). is_plain p.name ≡ true) p ps all) h)

pub func_plain : (f : Func) → IsPlainFunc f → list_all plain (named_of f) ≡ true
func_plain f is = params_plain f.params (blocks_named f.blocks) is.params (blocks_plain f.blocks is.blocks)

-- and so they are names of locals
plain_named : (n : Named) → plain n ≡ true → is_named n ≡ true
plain_named (Value id ty None) h = refl
plain_named (Value id ty (Some name)) h = rw h refl
plain_named (Label name) h = refl

pub all_named : (vs : List Named) → list_all plain vs ≡ true → list_all is_named vs ≡ true
all_named [] h = refl
all_named (n ∷ vs) h = rw (plain_named n (both (plain n) _ h).0) (all_named vs (both (plain n) _ h).1)

-- ---- what is shown

shown_is : (n : ℕ) (name : Option (List ℕ)) → n < 2 ^ 64 → is_plain name ≡ true → IsLocalName (shown n name)
shown_is n None small h = inr (n, small, refl)
shown_is n (Some name) small h = inl h

abbrev IsText : Local → Type 0
IsText l = IsLocalName l.text

locals_shown : (n : ℕ) (vs : List Named) → list_all plain vs ≡ true → n + length vs ≤ 2 ^ 64 → All IsText (locals_from n vs)
locals_shown n [] h l = All-nil IsText
locals_shown n (Value id ty name ∷ vs) h l =
    All-cons IsText (record { id = id; ty = ty; text = shown n name }) (locals_from (counted n name) vs) (shown_is n name (omega (arith, l)) (both (is_plain name) _ h).0)
    (locals_shown (counted n name) vs (both (is_plain name) _ h).1 (omega (arith, l, counted_most n name)))
locals_shown n (Label name ∷ vs) h l = locals_shown (counted n name) vs (both (is_plain name) _ h).1 (omega (arith, l, counted_most n name))

labels_shown : (n : ℕ) (vs : List Named) → list_all plain vs ≡ true → n + length vs ≤ 2 ^ 64 → All IsLocalName (labels_from n vs)
labels_shown n [] h l = All-nil IsLocalName
labels_shown n (Value id ty name ∷ vs) h l = labels_shown (counted n name) vs (both (is_plain name) _ h).1 (omega (arith, l, counted_most n name))
labels_shown n (Label name ∷ vs) h l =
    All-cons IsLocalName (shown n name) (labels_from (counted n name) vs) (shown_is n name (omega (arith, l)) (both (is_plain name) _ h).0)
    (labels_shown (counted n name) vs (both (is_plain name) _ h).1 (omega (arith, l, counted_most n name)))

-- all that is shown of a printable function is a name
pub func_shown : (f : Func) (gs : List (List ℕ)) → IsPlainFunc f → length (named_of f) < 2 ^ 64 → All (λ g. is_name g ≡ true) gs → Shown (names_of f) gs
func_shown f gs is few globals = record {
  locals = locals_shown 0 (named_of f) (func_plain f is) (omega (arith, few));
  labels = labels_shown 0 (named_of f) (func_plain f is) (omega (arith, few));
  globals = globals;
}

-- its header is one of the profile, with all parameters shown
pub func_headed : (f : Func) → IsPlainFunc f → length (named_of f) < 2 ^ 64 → IsHeaded (names_of f) f
func_headed f is few = record { parts = is.header; shown = all_shown f (all_named (named_of f) (func_plain f is)) (omega (arith, few)) }

-- the labels that are written are shown
label_shown : (name : Option (List ℕ)) → is_plain name ≡ true → IsShownLabel name
label_shown None h = tt
label_shown (Some name) h = inl h

pub labels_written : (bs : List Block) → All IsPlainBlock bs → All (λ (b : Block). IsShownLabel b.name) bs
labels_written bs all = All-weaker IsPlainBlock (λ (b : Block). IsShownLabel b.name) (λ b is. label_shown b.name is.named) bs all

-- Blocks as they are printed are read again: as targets, and with the operands of a `phi`; and the mask of a shuffle.
use Rattle.std.proofs.Common.{◌≡◌, ℕ, ◌+◌, ◌*◌, ◌<◌, ◌≤◌, true, List, [], ◌∷◌, ◌++◌, map, length, nat_le, Option, Some, None, refl, sym, ◌∙◌, ap, codes, append_assoc, arith}
use Rattle.std.proofs.lemmas.Bool.Decides.{nat_tests}
use Rattle.std.proofs.lemmas.List.Elements.{All-head, All-tail, All-weaker}
use Rattle.std.specs.List.{list_all, All, slice_get}
use Rattle.std.specs.Fmt.{decimal, digits}
use Rattle.vx_num.specs.Width.{IsLane}
use Rattle.ir_types.specs.declared.ty.Ty.{Ty}
use Rattle.ir_types.specs.declared.ty.Ty.TheVariants.{Row}
use Rattle.ir_types.specs.declared.opd.Opd.{Opd}
use Rattle.ir_types.specs.Typed.{IsEntry}
use Rattle.ir_lex.specs.Bytes.{is_control, is_word_byte, begins_name}
use Rattle.ir_lex.specs.Scan.{texts}
use Rattle.ir_lex.proofs.Again.{texts_space}
use Rattle.ir_words.specs.Words.{Words}
use Rattle.ir_words.specs.Values.{local_of}
use Rattle.ir_forms.specs.Operands.{is_entry, are_entries}
use Rattle.ir_forms.specs.Pieces.{Value, Takes, Pairs, Mask, Says, Led, SpellsOperand, SpellsPair, Pair, SpellsPairs, LastPair, MorePairs, Entries, SpellsTy, SpellsLanes}
use Rattle.ir_forms.specs.Forms.{arg, slot}
use Rattle.ir_print.specs.Literals.{vector_text}
use Rattle.ir_print.specs.Names.{Names}
use Rattle.ir_print.specs.Operands.{opd_text, block_text, label_text}
use Rattle.ir_print.specs.Instructions.{pair_text, more_pairs, pairs_text, mask_text}
use Rattle.rf_text.specs.Shown.{Shown, IsLocalName}
use Rattle.rf_text.specs.Written.{written, shown_block, places_from}
use Rattle.rf_text.proofs.Words.Read.{is_plain, plain_append, Told, run_texts}
use Rattle.rf_text.proofs.Words.Names.{Named, local_named, local_texts, run_is_plain}
use Rattle.rf_text.proofs.Parts.Of.{Cut, comma_texts, open_texts, close_texts}
use Rattle.rf_text.proofs.Parts.Types.{IsRow, row_cut, row_text, row_read, by_count, count_small}
use Rattle.rf_text.proofs.Parts.Literals.{row_lanes_cut}
use Rattle.rf_text.proofs.Parts.Operands.{Operand, at_all}

-- a block that is shown
pub record Block (ns : Names) (b : ℕ) : Type 0 where
  pub named : Named (shown_block ns b)
  pub text : block_text (slice_get ns.labels b) ≡ 37 ∷ shown_block ns b

pub block : (ns : Names) (gs : List (List ℕ)) (b : ℕ) → Shown ns gs → b < length ns.labels → Block ns b
block ns gs b shown h =
    let found : (name : List ℕ) × (slice_get ns.labels b ≡ Some name) × IsLocalName name = at_all IsLocalName ns.labels b shown.labels h in
    record { named = rw found.1 (local_named found.0 found.2); text = rw found.1 refl }

-- a block by its name
name_cut : (name : List ℕ) → Named name → Cut (λ ts rest. Says local_of name ts rest) (37 ∷ name)
unfolding is_control
name_cut name n = record { plain = run_is_plain name n.run; takes = λ rest stop. record { word = 37 ∷ name; first = local_texts name rest n stop; says = n.local } }

-- the word `label` in front of it
abbrev pub target_of : List ℕ → Words → Words → Type 0
target_of name ts rest = Led (codes "label") (λ us. Says local_of name us rest) ts

pub target_cut : (ns : Names) (b : ℕ) → Block ns b → Cut (target_of (shown_block ns b)) (label_text ns b)
unfolding is_control is_word_byte begins_name
target_cut ns b is = rw is.text (record {
  plain = (name_cut (shown_block ns b) is.named).plain;
  takes = λ rest stop. record {
    follow = texts (37 ∷ shown_block ns b ++ rest);
    first = run_texts (codes "label") (32 ∷ 37 ∷ shown_block ns b ++ rest) refl refl ∙ ap (λ (ws : Words). codes "label" ∷ ws) (texts_space (37 ∷ shown_block ns b ++ rest));
    part = (name_cut (shown_block ns b) is.named).takes rest stop;
  };
})

-- pairs of a `phi`

abbrev pub incoming : Names → List (List ℕ) → (t : Ty) → ℕ → List Opd → List ℕ → Value (Pairs t)
incoming ns gs t at os bs = record { args = map (λ o. arg t (written ns gs o)) os; labels = map (shown_block ns) bs; blocks = places_from at bs }

module _ (ns : Names) (gs : List (List ℕ)) (t : Ty) where
  pair_words : (o : Opd) (b : ℕ) → Operand ns gs t o → Block ns b → (at : ℕ) (rest : List ℕ) → SpellsPair t at (incoming ns gs t at (o ∷ []) (b ∷ [])) (texts (pair_text ns gs o b ++ rest)) (texts rest)
  unfolding is_word_byte begins_name
  pair_words o b is to at rest =
      let after : List ℕ = 44 ∷ 32 ∷ 37 ∷ (shown_block ns b ++ (32 ∷ 93 ∷ rest)) in
      let follow : texts after ≡ codes "," ∷ (37 ∷ shown_block ns b) ∷ codes "]" ∷ texts rest =
      comma_texts (32 ∷ 37 ∷ (shown_block ns b ++ (32 ∷ 93 ∷ rest)))
      ∙ ap (λ (ws : Words). codes "," ∷ ws) (texts_space (37 ∷ (shown_block ns b ++ (32 ∷ 93 ∷ rest)))
      ∙ local_texts (shown_block ns b) (32 ∷ 93 ∷ rest) to.named refl ∙ ap (λ (ws : Words). (37 ∷ shown_block ns b) ∷ ws) (texts_space (93 ∷ rest) ∙ close_texts rest)) in
      let operand : SpellsOperand t (written ns gs o) (texts (opd_text ns gs o ++ after)) (codes "," ∷ (37 ∷ shown_block ns b) ∷ codes "]" ∷ texts rest) = rw (sym follow) (is.cut.takes after refl) in
      let apart : pair_text ns gs o b ++ rest ≡ 91 ∷ 32 ∷ (opd_text ns gs o ++ after) =
      ap (λ (bs : List ℕ). 91 ∷ 32 ∷ bs)
      (append_assoc (opd_text ns gs o) (codes ", " ++ (block_text (slice_get ns.labels b) ++ codes " ]")) rest
      ∙ ap (λ (bs : List ℕ). opd_text ns gs o ++ (44 ∷ 32 ∷ bs)) (append_assoc (block_text (slice_get ns.labels b)) (codes " ]") rest ∙ ap (λ (bs : List ℕ). bs ++ (32 ∷ 93 ∷ rest)) to.text)) in
      let words : texts (pair_text ns gs o b ++ rest) ≡ codes "[" ∷ texts (opd_text ns gs o ++ after) =
      ap texts apart ∙ open_texts (32 ∷ (opd_text ns gs o ++ after)) ∙ ap (λ (ws : Words). codes "[" ∷ ws) (texts_space (opd_text ns gs o ++ after)) in
      rw words (Pair (written ns gs o) (shown_block ns b) (37 ∷ shown_block ns b) _ (texts rest) operand to.named.local)

  pair_plain : (o : Opd) (b : ℕ) → Operand ns gs t o → Block ns b → list_all is_plain (pair_text ns gs o b) ≡ true
  unfolding is_control
  pair_plain o b is to =
      let name : list_all is_plain (block_text (slice_get ns.labels b)) ≡ true = rw to.text (run_is_plain (shown_block ns b) to.named.run) in
      plain_append (opd_text ns gs o) (codes ", " ++ (block_text (slice_get ns.labels b) ++ codes " ]")) is.cut.plain (plain_append (block_text (slice_get ns.labels b)) (codes " ]") name refl)

  -- more pairs after one
  pairs_more : (o : Opd) (b : ℕ) (p : Opd) (os : List Opd) (c : ℕ) (bs : List ℕ) → Operand ns gs t o → Block ns b → (at : ℕ) →
      SpellsPairs t (at + 1) (incoming ns gs t (at + 1) (p ∷ os) (c ∷ bs)) (texts (pair_text ns gs p c ++ more_pairs ns gs os bs)) [] →
      SpellsPairs t at (incoming ns gs t at (o ∷ p ∷ os) (b ∷ c ∷ bs)) (texts (pair_text ns gs o b ++ more_pairs ns gs (p ∷ os) (c ∷ bs))) []
  pairs_more o b p os c bs is to at more =
      let next : List ℕ = pair_text ns gs p c ++ more_pairs ns gs os bs in
      let comma : texts (44 ∷ 32 ∷ next) ≡ codes "," ∷ texts next = comma_texts (32 ∷ next) ∙ ap (λ (ws : Words). codes "," ∷ ws) (texts_space next) in
      let first : SpellsPair t at (incoming ns gs t at (o ∷ []) (b ∷ [])) (texts (pair_text ns gs o b ++ (44 ∷ 32 ∷ next))) (codes "," ∷ texts next) = rw (sym comma) (pair_words o b is to at (44 ∷ 32 ∷ next)) in
      MorePairs at _ _ _ _ [] first more

  pairs_spell : (o : Opd) (os : List Opd) (b : ℕ) (bs : List ℕ) → length os ≡ length bs → All (Operand ns gs t) (o ∷ os) → All (Block ns) (b ∷ bs) → (at : ℕ) →
      SpellsPairs t at (incoming ns gs t at (o ∷ os) (b ∷ bs)) (texts (pair_text ns gs o b ++ more_pairs ns gs os bs)) []
  unfolding texts
  pairs_spell o [] b bs many is to at = one bs (sym many) where
    one : (bs : List ℕ) → length bs ≡ 0 → SpellsPairs t at (incoming ns gs t at (o ∷ []) (b ∷ bs)) (texts (pair_text ns gs o b ++ [])) []
    one [] none = LastPair at _ _ [] (pair_words o b (All-head (Operand ns gs t) o [] is) (All-head (Block ns) b bs to) at []) refl
    one (c ∷ bs) none = absurd (omega arith)
  pairs_spell o (p ∷ os) b [] many is to at = absurd (omega arith)
  pairs_spell o (p ∷ os) b (c ∷ bs) many is to at =
      pairs_more o b p os c bs (All-head (Operand ns gs t) o (p ∷ os) is) (All-head (Block ns) b (c ∷ bs) to) at
      (pairs_spell p os c bs (omega arith) (All-tail (Operand ns gs t) o (p ∷ os) is) (All-tail (Block ns) b (c ∷ bs) to) (at + 1))

  more_plain : (os : List Opd) (bs : List ℕ) → All (Operand ns gs t) os → All (Block ns) bs → list_all is_plain (more_pairs ns gs os bs) ≡ true
  unfolding is_control
  more_plain [] bs is to = refl
  more_plain (o ∷ os) [] is to = refl
  more_plain (o ∷ os) (b ∷ bs) is to =
      plain_append (pair_text ns gs o b) (more_pairs ns gs os bs) (pair_plain o b (All-head (Operand ns gs t) o os is) (All-head (Block ns) b bs to))
      (more_plain os bs (All-tail (Operand ns gs t) o os is) (All-tail (Block ns) b bs to))

-- the pairs of a `phi` end its line
pub told_pairs : (ns : Names) (gs : List (List ℕ)) (t : Ty) (os : List Opd) (bs : List ℕ) → length bs ≡ length os → 0 < length os → All (Operand ns gs t) os → All (Block ns) bs →
    Told (slot (Pairs t) (incoming ns gs t 0 os bs) ∷ []) (pairs_text ns gs os bs)
told_pairs ns gs t [] bs many some is to = absurd (omega arith)
told_pairs ns gs t (o ∷ os) [] many some is to = absurd (omega arith)
told_pairs ns gs t (o ∷ os) (b ∷ bs) many some is to = record {
  plain =
      plain_append (pair_text ns gs o b) (more_pairs ns gs os bs) (pair_plain ns gs t o b (All-head (Operand ns gs t) o os is) (All-head (Block ns) b bs to))
      (more_plain ns gs t os bs (All-tail (Operand ns gs t) o os is) (All-tail (Block ns) b bs to));
  spelled = ([], pairs_spell ns gs t o os b bs (omega arith) is to 0, refl);
}

-- masks

entry_small : (n : ℕ) (l : Option ℕ) → n ≤ 32 → IsEntry n l → IsLane 32 l
entry_small n None small e = tt
entry_small n (Some k) small e = omega arith

entry_test : (n : ℕ) (l : Option ℕ) → IsEntry n l → is_entry n l ≡ true
entry_test n None e = refl
entry_test n (Some k) e = grind (arith, nat_tests)

entries_test : (n : ℕ) (ls : List (Option ℕ)) → All (IsEntry n) ls → are_entries n ls ≡ true
entries_test n [] all = refl
entries_test n (l ∷ ls) all = rw (entry_test n l (All-head (IsEntry n) l ls all)) (entries_test n ls (All-tail (IsEntry n) l ls all))

mask_row : (m w : ℕ) → IsRow m w → IsRow m 32
mask_row m w r = record { count = r.count; width = refl; within = by_count (λ m. nat_le (m * 32) 512 ≡ true) m r.count refl refl refl refl }

pub mask_cut : (n w : ℕ) (mask : List (Option ℕ)) → IsRow n w → IsRow (length mask) w → All (IsEntry (2 * n)) mask →
    Cut (Takes (Mask (Row n w)) (Row (length mask) w, mask)) (44 ∷ 32 ∷ mask_text mask)
unfolding is_control is_word_byte begins_name digits
mask_cut n w mask r s all =
    let m : ℕ = length mask in
    let small : 2 * n ≤ 32 = let count : n ≤ 16 = count_small n r.count in omega arith in
    let lanes : All (IsLane 32) mask = All-weaker (IsEntry (2 * n)) (IsLane 32) (λ l e. entry_small (2 * n) l small e) mask all in
    let type : Cut (SpellsTy (Row m 32)) (row_text m 32) = row_cut m 32 (mask_row m w s) in
    let list : Cut (SpellsLanes (Row m 32) mask) (vector_text 32 mask) = row_lanes_cut m 32 mask refl refl lanes in
    let apart : mask_text mask ≡ row_text m 32 ++ (32 ∷ vector_text 32 mask) = ap (λ (bs : List ℕ). 60 ∷ bs) (sym (append_assoc (decimal m) (codes " x i32>") (32 ∷ vector_text 32 mask))) in
    rw apart (record {
      plain = plain_append (row_text m 32) (32 ∷ vector_text 32 mask) type.plain list.plain;
      takes = λ rest stop.
          rw (comma_texts (32 ∷ ((row_text m 32 ++ (32 ∷ vector_text 32 mask)) ++ rest)), texts_space ((row_text m 32 ++ (32 ∷ vector_text 32 mask)) ++ rest), append_assoc (row_text m 32) (32 ∷ vector_text 32 mask) rest)
          (Entries m mask _ _ (texts rest) (type.takes (32 ∷ (vector_text 32 mask ++ rest)) refl) (rw (texts_space (vector_text 32 mask ++ rest)) (list.takes rest stop)) (row_read m w s) (entries_test (2 * n) mask all));
    })

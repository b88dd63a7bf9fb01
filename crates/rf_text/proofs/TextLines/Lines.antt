-- The text of a formed and printable module is lines that are read as its forms.
use Rattle.std.proofs.Common.{◌≡◌, ℕ, ◌+◌, Bool, true, false, List, [], ◌∷◌, ◌++◌, map, Option, Some, None, refl, sym, ◌∙◌, ap, codes, append_assoc}
use Rattle.std.proofs.lemmas.List.{append-nil}
use Rattle.std.proofs.lemmas.List.Elements.{All-nil, All-cons, All-head, All-tail, All-append}
use Rattle.std.specs.List.{All, list_all}
use Rattle.ir_lex.specs.Scan.{cut, fault_of}
use Rattle.ir_lex.specs.Tokens.{is_name}
use Rattle.ir_types.specs.declared.module.Item.{Item}
use Rattle.ir_types.specs.declared.module.Item.TheVariants.{Kept, Opaque, Func as FuncItem}
use Rattle.ir_types.specs.declared.module.Module.{Module}
use Rattle.ir_types.specs.Formed.{IsFormedItem, ids_of_items, item_ids, IsFormed}
use Rattle.ir_draft.specs.declared.line.Line.{Line}
use Rattle.ir_draft.specs.declared.line.Line.TheVariants as line
use Rattle.ir_line.specs.Outside.{read_outside}
use Rattle.ir_print.specs.Text.{item_text, is_function, gap_text, more_items, items_text, text_of}
use Rattle.ir_read.specs.Faults.{first_fault}
use Rattle.ir_read.specs.Forms.{form_in, form_by, inside_after, forms_from}
use Rattle.ir_read.specs.Lines.{lines_of}
use Rattle.ir_read.specs.Opaque.{joined as between_feeds}
use Rattle.rf_text.specs.LinesOf.{joined, is_line}
use Rattle.rf_text.specs.ModuleForms.{kept_at, item_forms, gap_forms, more_items_forms, items_forms, module_forms}
use Rattle.rf_text.specs.OpaqueText.{opaque_forms, IsOpaqueText}
use Rattle.rf_text.specs.Printable.{IsPrintable, IsCountedItem, IsCounted}
use Rattle.rf_text.proofs.PlainItems.{IsPlainItem, plain_items}
use Rattle.rf_text.specs.TextLines.{TextLines}
use Rattle.rf_text.proofs.Insts.Each.{heads, tails, none_more, joined_append}
use Rattle.rf_text.proofs.Insts.Bodies.{form_sound}
use Rattle.rf_text.proofs.Kept.Lines.{sound_line}
use Rattle.rf_text.proofs.OpaqueLines.{Parts, parts_of, function_forms, joined_feeds}
use Rattle.rf_text.proofs.Splitting.{lines_of_joined}
use Rattle.rf_text.proofs.TextLines.Bodies.{Spoken, func_spoken}
use Rattle.rf_text.proofs.TextLines.Once.{Once, once_ids, once_front, once_back, func_once}

-- ---- text after text

-- text that is whole lines without a lexical fault, outside functions at both ends, of which these are the forms
pub record Said (text : List ℕ) (forms : List (Option Line)) : Type 0 where
  pub lines : List (List ℕ)
  pub whole : text ≡ joined lines
  pub sound : All (λ l. fault_of l ≡ None) lines
  pub each : (rest : List (List ℕ)) → forms_from false (lines ++ rest) ≡ forms ++ forms_from false rest

unfoldable pub said_none : Said [] []
said_none = record { lines = []; whole = refl; sound = All-nil (λ l. fault_of l ≡ None); each = λ rest. refl }

unfoldable pub said_append : {a b : List ℕ} {fs gs : List (Option Line)} → Said a fs → Said b gs → Said (a ++ b) (fs ++ gs)
said_append {a} {b} {fs} {gs} p q = record {
  lines = p.lines ++ q.lines;
  whole = rw (p.whole, q.whole) (sym (joined_append p.lines q.lines));
  sound = All-append (λ l. fault_of l ≡ None) p.lines q.lines p.sound q.sound;
  each = λ rest. ap (forms_from false) (append_assoc p.lines q.lines rest) ∙ p.each (q.lines ++ rest) ∙ ap (λ (x : List (Option Line)). fs ++ x) (q.each rest)
      ∙ sym (append_assoc fs gs (forms_from false rest));
}

-- ---- lines that all have a form

all_sound : (inside : Bool) (ls : List (List ℕ)) (fs : List Line) → forms_from inside ls ≡ map Some fs → All (λ l. fault_of l ≡ None) ls
all_sound inside [] fs e = All-nil (λ l. fault_of l ≡ None)
all_sound inside (l ∷ ls) [] e = none_more e
all_sound inside (l ∷ ls) (f ∷ fs) e =
    All-cons (λ l. fault_of l ≡ None) l ls (form_sound inside l f (heads e)) (all_sound (inside_after inside (form_in inside l)) ls fs (tails e))

pub spoken_said : {text : List ℕ} {fs : List Line} → Spoken text fs → Said text (map Some fs)
spoken_said {text} {fs} s = record {
  lines = s.lines;
  whole = s.whole;
  sound = all_sound false s.lines fs (ap (forms_from false) (sym (append-nil s.lines)) ∙ s.each [] ∙ append-nil (map Some fs));
  each = s.each;
}

-- ---- items

pub empty_read : form_in false [] ≡ Some line.Empty
unfolding form_in form_by read_outside cut
empty_read = refl

unfoldable pub empty_said : Said (codes "\n") (Some line.Empty ∷ [])
empty_said = record { lines = [] ∷ []; whole = refl; sound = All-cons (λ l. fault_of l ≡ None) [] [] refl (All-nil (λ l. fault_of l ≡ None)); each = λ rest. ap (λ (o : Option Line). o ∷ forms_from (inside_after false o) rest) empty_read }

unfoldable pub gap_said : (before after : Bool) → Said (gap_text before after) (gap_forms before after)
gap_said false false = said_none
gap_said false true = empty_said
gap_said true after = empty_said

-- an opaque function is its lines
unfoldable pub opaque_said : (text : List ℕ) → IsOpaqueText text → Said (text ++ codes "\n") (opaque_forms text)
opaque_said text is =
    let p : Parts text = parts_of text is in
    record {
      lines = lines_of text;
      whole = ap (λ bs. bs ++ codes "\n") (is.whole ∙ ap between_feeds p.lines) ∙ joined_feeds p.first (p.body ++ p.last ∷ []) ∙ ap joined (sym p.lines);
      sound = is.sound;
      each = λ rest.
          ap (λ ls. forms_from false (ls ++ rest)) p.lines ∙ ap (λ ls. forms_from false (p.first ∷ ls)) (append_assoc p.body (p.last ∷ []) rest)
          ∙ function_forms p.first p.name p.head p.body p.last rest p.header p.inside p.brace
          ∙ ap (λ fs. Some (line.Define p.name p.head) ∷ fs) (sym (append_assoc (map (form_in true) p.body) (Some line.Close ∷ []) (forms_from false rest)))
          ∙ ap (λ fs. fs ++ forms_from false rest) (sym (ap (forms_from false) p.lines ∙ function_forms p.first p.name p.head p.body p.last [] p.header p.inside p.brace));
    }

module _ (m : Module) (globals : All (λ g. is_name g ≡ true) m.globals) where
  unfoldable pub item_said : (item : Item) → IsFormedItem m item → IsPlainItem item → Once (item_ids item) → IsCountedItem item → Said (item_text m.globals item) (item_forms m.globals item)
  item_said (Kept text) formed plain once few = record {
    lines = text ∷ [];
    whole = refl;
    sound = All-cons (λ l. fault_of l ≡ None) text [] (form_sound false text (line.Kept (kept_at text)) plain.reads) (All-nil (λ l. fault_of l ≡ None));
    each = λ rest. ap (λ (o : Option Line). o ∷ forms_from (inside_after false o) rest) plain.reads;
  }
  item_said (Opaque text) formed plain once few = opaque_said text plain
  item_said (FuncItem f) formed plain once few = spoken_said (func_spoken m f formed plain (func_once f once) few globals)

  more_said : (before : Bool) (items : List Item) → All (IsFormedItem m) items → All IsPlainItem items → Once (ids_of_items items) → All IsCountedItem items →
      Said (more_items m.globals before items) (more_items_forms m.globals before items)
  more_said before [] formed plain once few = said_none
  more_said before (i ∷ is) formed plain once few =
      said_append (gap_said before (is_function i))
      (said_append (item_said i (All-head (IsFormedItem m) i is formed) (All-head IsPlainItem i is plain) (once_front (item_ids i) (ids_of_items is) once) (All-head IsCountedItem i is few))
      (more_said (is_function i) is (All-tail (IsFormedItem m) i is formed) (All-tail IsPlainItem i is plain) (once_back (item_ids i) (ids_of_items is) once) (All-tail IsCountedItem i is few)))

  items_said : (items : List Item) → All (IsFormedItem m) items → All IsPlainItem items → Once (ids_of_items items) → All IsCountedItem items →
      Said (items_text m.globals items) (items_forms m.globals items)
  items_said [] formed plain once few = said_none
  items_said (i ∷ is) formed plain once few =
      said_append (item_said i (All-head (IsFormedItem m) i is formed) (All-head IsPlainItem i is plain) (once_front (item_ids i) (ids_of_items is) once) (All-head IsCountedItem i is few))
      (more_said (is_function i) is (All-tail (IsFormedItem m) i is formed) (All-tail IsPlainItem i is plain) (once_back (item_ids i) (ids_of_items is) once) (All-tail IsCountedItem i is few))

-- ---- lines without a fault

pub no_fault : (n : ℕ) (ls : List (List ℕ)) → All (λ l. fault_of l ≡ None) ls → first_fault n ls ≡ None
no_fault n [] all = refl
no_fault n (l ∷ ls) all = rw (All-head (λ l. fault_of l ≡ None) l ls all) (no_fault (n + 1) ls (All-tail (λ l. fault_of l ≡ None) l ls all))

pub all_lines : (ls : List (List ℕ)) → All (λ l. fault_of l ≡ None) ls → list_all is_line ls ≡ true
all_lines [] all = refl
all_lines (l ∷ ls) all = rw (sound_line l (All-head (λ l. fault_of l ≡ None) l ls all)) (all_lines ls (All-tail (λ l. fault_of l ≡ None) l ls all))

-- ---- the module

pub text_lines : (m : Module) → IsFormed m → IsPrintable m → IsCounted m → TextLines m
text_lines m formed printable few =
    let s : Said (text_of m) (module_forms m) = items_said m printable.named m.items formed.items (plain_items m formed printable) (once_ids (ids_of_items m.items) formed.once) few in
    record {
      lines = s.lines;
      whole = s.whole;
      forms = ap (forms_from false) (sym (append-nil s.lines)) ∙ s.each [] ∙ append-nil (module_forms m);
      sound = no_fault 1 s.lines s.sound;
      again = ap lines_of s.whole ∙ lines_of_joined s.lines (all_lines s.lines s.sound);
    }

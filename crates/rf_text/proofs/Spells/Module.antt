-- A text that is a draft, whose names and types resolve to a module with the low byte first, spells that module.
use Rattle.std.proofs.Common.{◌≡◌, ℕ, ◌+◌, true, false, List, [], ◌∷◌, ◌++◌, length, map, Option, Some, None, Ok, Err, Result, refl, sym, ◌∙◌, ap, subst, append_assoc, arith}
use Rattle.std.proofs.lemmas.List.{append-nil}
use Rattle.std.specs.List.{All}
use Rattle.std.proofs.lemmas.List.Elements.{All-nil, All-cons, All-head, All-tail}
use Rattle.ir_lex.specs.Scan.{cut, fault_of}
use Rattle.ir_types.specs.declared.func.Func.{Func}
use Rattle.ir_types.specs.declared.module.Item.{Item}
use Rattle.ir_types.specs.declared.module.Item.TheVariants as items
use Rattle.ir_draft.specs.declared.head.Head.{Head}
use Rattle.ir_draft.specs.declared.line.Line.{Line}
use Rattle.ir_draft.specs.declared.line.Line.TheVariants as line
use Rattle.ir_draft.specs.declared.draft.Numbered.{Numbered}
use Rattle.ir_draft.specs.declared.draft.DraftItem.{DraftItem}
use Rattle.ir_draft.specs.declared.draft.DraftItem.TheVariants as item
use Rattle.ir_line.specs.Body.{Spells as SpellsInside}
use Rattle.ir_line.specs.Outside.{Spells as SpellsOutside}
use Rattle.ir_line.proofs.BodyLines.{body_spelled}
use Rattle.ir_line.proofs.OutsideLines.{outside_spelled}
use Rattle.ir_read.specs.declared.refusal.ReadRefusal.{ReadRefusal}
use Rattle.ir_read.specs.Answers.{◌>>=◌}
use Rattle.ir_read.specs.Bodies.{numbered_from}
use Rattle.ir_read.specs.Forms.{form_in, form_by, forms_of}
use Rattle.ir_read.specs.Items.{IsItems}
use Rattle.ir_read.specs.Lines.{lines_of}
use Rattle.ir_read.specs.Opaque.{is_opaque, joined}
use Rattle.ir_read.specs.Outlook.{outlook_of}
use Rattle.ir_read.proofs.ItemsRead.{draft_items}
use Rattle.ir_read.proofs.Placing.{Place, Known, body_line, body_lines}
use Rattle.ir_types_check.specs.declared.resolved.Resolved.{Resolved}
use Rattle.ir_types_check.specs.Scope.{Scope}
use Rattle.ir_types_check.specs.Outline.{start}
use Rattle.ir_types_check.specs.Locals.{locals_of}
use Rattle.ir_types_check.specs.Tops.{tops_of}
use Rattle.ir_types_check.specs.Blocks.{closed, func_of, built_of}
use Rattle.ir_types_check.specs.Typed.{lines_typed, sources_of, function_typed, item_typed, items_typed}
use Rattle.ir_types_check.specs.Resolved.{with_built, resolved_function, with_kept, resolved_item, resolved_items, module_of, resolved_with, resolved_of}
use Rattle.ir_types_check.proofs.Binding.{bind_ok, ok_is}
use Rattle.ir_types_check.proofs.Handed.{LocalNames, TopMeaning, DoneSoFar}
use Rattle.ir_types_check.proofs.NamesHold.{names_hold}
use Rattle.ir_types_check.proofs.ReadLinks.{AreKnown}
use Rattle.ir_types_check.proofs.ReadTops.{tops_are}
use Rattle.rf_text.specs.Headed.{first_name}
use Rattle.rf_text.specs.ModuleForms.{kept_at, module_forms}
use Rattle.rf_text.specs.Printable.{IsPrintable, IsNumbered, IsCountedItem, IsCounted}
use Rattle.rf_text.specs.Reads.{Reads}
use Rattle.rf_text.specs.Spelled.{closes, AreInside, NoLine, OneLine, IsBrace, solid, AreBlocks, Laid, NoItem, EmptyLine, KeptItem, Function, OpaqueItem}
use Rattle.rf_text.specs.Spells.{AcceptedTextsSpell}
use Rattle.rf_text.proofs.Cut as cuts
use Rattle.rf_text.proofs.Cut.{Cut, text_cut}
use Rattle.rf_text.proofs.Kept.Lines.{formed, kept_by_text}
use Rattle.rf_text.proofs.OpaqueLines.{IsSound, Whole, whole_sound, faultless, IsBodyLine}
use Rattle.rf_text.proofs.Showable.Heads.{first_of, name_of_line}
use Rattle.rf_text.proofs.Showable.Module.{read_back}
use Rattle.rf_text.proofs.Spells.Counts.{IsFew, draft_few}
use Rattle.rf_text.proofs.Spells.Order.{IsOrdered, form_of, function_ordered}
use Rattle.rf_text.proofs.Spells.Lines.{IsSpelledFunc, func_spelled}
use Rattle.rf_text.proofs.Spelling.Reads.{inside_form, numbered_solid, same_outlook}

-- ---- the lines of the text

outside_line : (l : List ℕ) (form : Line) → form_in false l ≡ Some form → SpellsOutside l (cut l) form
unfolding form_by
outside_line l form e = outside_spelled l (cut l) form (formed false l form e).read

inside_line : (l : List ℕ) (form : Line) → form_in true l ≡ Some form → SpellsInside l (cut l) form
unfolding form_by
inside_line l form e = body_spelled l (cut l) form (formed true l form e).read

first_form : {a b : Option Line} {as' bs : List (Option Line)} → a ∷ as' ≡ b ∷ bs → a ≡ b
first_form e = cc

more_forms : {a b : Option Line} {as' bs : List (Option Line)} → a ∷ as' ≡ b ∷ bs → as' ≡ bs
more_forms e = cc

no_form : {P : Type 0} {b : Option Line} {bs : List (Option Line)} → [] ≡ b ∷ bs → P
no_form e = cc

read_refused : {A P : Type 0} {refusal : ReadRefusal} {y : A} → Err refusal ≡ Ok y → P
read_refused e = cc

read_ok : {A B P : Type 0} (r : Result A ReadRefusal) (f : A → Result B ReadRefusal) (y : B) → (r >>= f) ≡ Ok y → ((x : A) → r ≡ Ok x → f x ≡ Ok y → P) → P
read_ok (Ok x) f y e k = k x refl e
read_ok (Err refusal) f y e k = read_refused e

-- lines of a body that stand where they may are inside the function
are_inside : (names : List (List ℕ)) (n : ℕ) (p end : Place) (body : List (List ℕ)) (forms : List Line) → map (form_in true) body ≡ map Some forms → body_lines names n p forms ≡ Ok end → AreInside body forms
are_inside names n p end [] [] e s = NoLine
are_inside names n p end [] (f ∷ fs) e s = no_form e
are_inside names n p end (l ∷ ls) [] e s = no_form (sym e)
are_inside names n p end (l ∷ ls) (f ∷ fs) e s =
    read_ok (body_line names n p f) _ end s (λ q was now.
    OneLine l f ls fs (inside_line l f (first_form e)) (is_open f was) (are_inside names (n + 1) q end ls fs (more_forms e) now))
  where
    is_open : {q : Place} (f : Line) → body_line names n p f ≡ Ok q → closes f ≡ false
    is_open line.Close s = read_refused s
    is_open line.Empty s = refl
    is_open (line.Kept kept) s = refl
    is_open (line.Define name head) s = refl
    is_open (line.Label name) s = refl
    is_open (line.Stmt x) s = refl
    is_open (line.Case value label) s = refl
    is_open line.CasesEnd s = refl

no_braces : (body : List (List ℕ)) → All IsSound body → All IsBodyLine body → All (λ m. IsBrace m → ⊥) body
no_braces [] sound inside = All-nil (λ m. IsBrace m → ⊥)
no_braces (b ∷ body) sound inside =
    All-cons (λ m. IsBrace m → ⊥) b body (λ c. All-head IsBodyLine b body inside (inside_form b line.Close (All-head IsSound b body sound) c)) (no_braces body (All-tail IsSound b body sound) (All-tail IsBodyLine b body inside))

-- ---- the items

module _ (all : List (Option Line)) (gs : List (List ℕ)) (tops : Scope TopMeaning) (known : AreKnown tops gs) where
  -- a function, as its header and lines make it
  record IsSaid (done after : DoneSoFar) (head : Head) (forms : List Line) : Type 0 where
    new : Func
    items_are : after.items ≡ done.items ++ items.Func new ∷ []
    few : IsCountedItem (items.Func new)
    named : first_name new ≡ first_of head
    laid : (l brace : List ℕ) (body : List (List ℕ)) (is : List Item) (ls : List (List ℕ)) → SpellsOutside l (cut l) (line.Define (first_of head) (Some head)) → AreInside body forms → IsBrace brace → Laid all gs is ls →
        Laid all gs (items.Func new ∷ is) (l ∷ (body ++ brace ∷ ls))

  function_said : (n : ℕ) (done after : DoneSoFar) (head : Head) (forms : List Line) (u : Unit {0}) → IsOrdered head (numbered_from (n + 1) forms) → IsFew (item.Func n head (numbered_from (n + 1) forms)) → resolved_function tops n done head (numbered_from (n + 1) forms) ≡ Ok after →
      function_typed tops n head (numbered_from (n + 1) forms) ≡ Ok u → IsSaid done after head forms
  unfolding resolved_function function_typed with_built
  function_said n done after head forms u order small e t =
      let body : List Numbered = numbered_from (n + 1) forms in
      bind_ok (locals_of n head (numbered_from (n + 1) forms)) _ after e (λ l was now.
      bind_ok (built_of tops l.scope n done.lines head (numbered_from (n + 1) forms)) _ after now (λ b built is.
      bind_ok (locals_of n head (numbered_from (n + 1) forms)) _ u t (λ k again typed.
      let same : k ≡ l = ok_is (sym again ∙ was) in
      let f : Func = func_of (length done.lines) head (closed b.blocks b.current) in
      let h : IsSpelledFunc gs f head (numbered_from (n + 1) forms) = func_spelled gs tops known n done.lines head (numbered_from (n + 1) forms) l b u order was built (typed_of k l same typed) in
      record {
        new = f;
        items_are = sym (ap (λ (x : DoneSoFar). x.items) (ok_is is));
        few = omega (arith, small, h.few);
        named = refl;
        laid = λ line' brace lines is ls s inside last more.
            Function line' brace f head lines forms is ls s h.header inside (subst (AreBlocks _ gs 0 f.blocks) (numbered_solid (n + 1) forms) h.blocks) last more;
      })))
    where
      typed_of : (k l : LocalNames) → k ≡ l → lines_typed tops k.scope head.ret (sources_of k (numbered_from (n + 1) forms)) start (numbered_from (n + 1) forms) ≡ Ok u → lines_typed tops l.scope head.ret (sources_of l (numbered_from (n + 1) forms)) start (numbered_from (n + 1) forms) ≡ Ok u
      typed_of k l same typed = subst (λ (x : LocalNames). lines_typed tops x.scope head.ret (sources_of x (numbered_from (n + 1) forms)) start (numbered_from (n + 1) forms) ≡ Ok u) same typed

  record AreSaid (done after : DoneSoFar) (ls : List (List ℕ)) : Type 0 where
    new : List Item
    items_are : after.items ≡ done.items ++ new
    few : All IsCountedItem new
    laid : Laid all gs new ls

  -- one more item in front
  one_more : (done between after : DoneSoFar) (x : Item) (new : List Item) → between.items ≡ done.items ++ x ∷ [] → after.items ≡ between.items ++ new → after.items ≡ done.items ++ x ∷ new
  one_more done between after x new e f = f ∙ ap (λ is. is ++ new) e ∙ append_assoc done.items (x ∷ []) new

  items_said : {outlook : Known} {n : ℕ} {ls : List (List ℕ)} {xs : List DraftItem} → Cut outlook n ls xs → outlook ≡ outlook_of all → All IsSound ls → (done after : DoneSoFar) (u : Unit {0}) → All IsFew xs → resolved_items tops done xs ≡ Ok after → items_typed tops xs ≡ Ok u →
      AreSaid done after ls
  unfolding with_kept
  items_said (cuts.NoLine n) same sound done after u small e t = record { new = []; few = All-nil IsCountedItem; items_are = sym (ap (λ (x : DoneSoFar). x.items) (ok_is e)) ∙ sym (append-nil done.items); laid = NoItem }
  items_said (cuts.EmptyLine n l ls xs is c) same sound done after u small e t =
      let r : AreSaid done after ls = items_said c same (All-tail IsSound l ls sound) done after u small e t in
      record { new = r.new; few = r.few; items_are = r.items_are; laid = EmptyLine l r.new ls (outside_line l line.Empty is) r.laid }
  items_said (cuts.KeptLine n l kept ls xs is c) same sound done after u small e t =
      let next : DoneSoFar = record { items = done.items ++ items.Kept kept.text ∷ []; lines = done.lines } in
      let r : AreSaid (record { items = done.items ++ items.Kept kept.text ∷ []; lines = done.lines }) after ls =
      items_said c same (All-tail IsSound l ls sound) (record { items = done.items ++ items.Kept kept.text ∷ []; lines = done.lines }) after u (All-tail IsFew (item.Kept n kept) xs small) e t in
      record {
        new = items.Kept kept.text ∷ r.new;
        few = All-cons IsCountedItem (items.Kept kept.text) r.new tt r.few;
        items_are = one_more done (record { items = done.items ++ items.Kept kept.text ∷ []; lines = done.lines }) after (items.Kept kept.text) r.new refl r.items_are;
        laid = KeptItem l kept.text r.new ls (subst (λ k. SpellsOutside l (cut l) (line.Kept k)) (kept_by_text l kept is) (outside_line l (line.Kept kept) is)) r.laid;
      }
  items_said (cuts.FunctionLines n l name head body forms brace ls xs first p q k is own params are stand shut last c) same sound done after u small e t =
      bind_ok (resolved_function tops n done head (numbered_from (n + 1) forms)) _ after e (λ m was now.
      bind_ok (function_typed tops n head (numbered_from (n + 1) forms)) _ u t (λ v typed then'.
      let w : Whole l body brace ls = whole_sound l body brace ls sound in
      let order : IsOrdered head (numbered_from (n + 1) forms) = function_ordered _ n k first p q l name head body forms is params are stand shut in
      let one : IsSaid done m head forms = function_said n done m head forms v order (All-head IsFew (item.Func n head (numbered_from (n + 1) forms)) xs small) was typed in
      let r : AreSaid m after ls = items_said c same w.rest m after u (All-tail IsFew (item.Func n head (numbered_from (n + 1) forms)) xs small) now then' in
      record {
        new = items.Func one.new ∷ r.new;
        few = All-cons IsCountedItem (items.Func one.new) r.new one.few r.few;
        items_are = one_more done m after (items.Func one.new) r.new one.items_are r.items_are;
        laid = one.laid l brace body r.new ls (subst (λ x. SpellsOutside l (cut l) (line.Define x (Some head))) (name_of_line l name head is) (outside_line l (line.Define name (Some head)) is))
            (are_inside _ (n + 1) _ p body forms are stand) (inside_line brace line.Close last) r.laid;
      }))
  items_said (cuts.OpaqueLines n l name head body brace ls xs is own inside last c) same sound done after u small e t =
      let text : List ℕ = joined (l ∷ (body ++ brace ∷ [])) in
      let w : Whole l body brace ls = whole_sound l body brace ls sound in
      let r : AreSaid (record { items = done.items ++ items.Opaque (joined (l ∷ (body ++ brace ∷ []))) ∷ []; lines = done.lines }) after ls =
      items_said c same w.rest (record { items = done.items ++ items.Opaque (joined (l ∷ (body ++ brace ∷ []))) ∷ []; lines = done.lines }) after u (All-tail IsFew (item.Opaque n name (joined (l ∷ (body ++ brace ∷ [])))) xs small) e t in
      record {
        new = items.Opaque (joined (l ∷ (body ++ brace ∷ []))) ∷ r.new;
        few = All-cons IsCountedItem (items.Opaque (joined (l ∷ (body ++ brace ∷ [])))) r.new tt r.few;
        items_are = one_more done (record { items = done.items ++ items.Opaque (joined (l ∷ (body ++ brace ∷ []))) ∷ []; lines = done.lines }) after (items.Opaque (joined (l ∷ (body ++ brace ∷ [])))) r.new refl r.items_are;
        laid = OpaqueItem l brace name head body r.new ls (outside_line l (line.Define name head) is) (no_braces body w.body' inside) (inside_line brace line.Close last)
            (subst (λ k. is_opaque k head (map (form_in true) body ++ Some line.Close ∷ []) ≡ true) same own) r.laid;
      }

-- the same lines in a text of the same outlook
laid_in : {all other : List (Option Line)} {gs : List (List ℕ)} {is : List Item} {ls : List (List ℕ)} → Laid all gs is ls → outlook_of all ≡ outlook_of other → Laid other gs is ls
laid_in NoItem e = NoItem
laid_in (EmptyLine l is ls s h) e = EmptyLine l is ls s (laid_in h e)
laid_in (KeptItem l text is ls s h) e = KeptItem l text is ls s (laid_in h e)
laid_in (Function l brace f head body forms is ls s header inside blocks last h) e = Function l brace f head body forms is ls s header inside blocks last (laid_in h e)
laid_in (OpaqueItem l brace name head body is ls s none last own h) e =
    OpaqueItem l brace name head body is ls s none last (subst (λ k. is_opaque k head (map (form_in true) body ++ Some line.Close ∷ []) ≡ true) e own) (laid_in h e)

-- ---- the module

pub texts_spell : AcceptedTextsSpell
unfolding resolved_of resolved_with module_of
texts_spell bytes d r read resolved little =
    let says : IsItems bytes d.items = draft_items bytes d read in
    let reads : Reads bytes r.«module» = record { items = d.items; says = says; named = names_hold d r resolved } in
    let back : IsPrintable r.«module» × IsNumbered r.«module» = read_back bytes r.«module» reads little in
    let sound : All IsSound (lines_of bytes) = faultless 1 (lines_of bytes) says.sound in
    let few : All IsFew d.items = draft_few bytes d read in
    let all : Laid (forms_of (lines_of bytes)) r.«module».globals r.«module».items (lines_of bytes) × IsCounted r.«module» =
    bind_ok (tops_of d.items) _ r resolved (λ tops named now.
    bind_ok (resolved_items tops.scope (record { items = []; lines = [] }) d.items) _ r now (λ done was then'.
    bind_ok (items_typed tops.scope d.items) _ r then' (λ u typed is.
    let known : AreKnown tops.scope tops.globals = (tops_are d.items tops named).known in
    let h : AreSaid (forms_of (lines_of bytes)) tops.globals tops.scope known (record { items = []; lines = [] }) done (lines_of bytes) =
    items_said (forms_of (lines_of bytes)) tops.globals tops.scope known (text_cut bytes d.items says) refl sound (record { items = []; lines = [] }) done u few was typed in
    subst (λ (x : Resolved). Laid (forms_of (lines_of bytes)) x.«module».globals x.«module».items (lines_of bytes) × IsCounted x.«module») (ok_is is) (
      subst (λ is. Laid (forms_of (lines_of bytes)) tops.globals is (lines_of bytes)) (sym h.items_are) h.laid,
      subst (All IsCountedItem) (sym h.items_are) h.few,
    )))) in
    record {
      sound = sound;
      laid = laid_in all.0 (sym (same_outlook bytes r.«module» all.0 sound));
      printable = back.0;
      numbered = back.1;
      counted = all.1;
    }

-- The lines of a text that is items, item by item.
use Rattle.std.proofs.Common.{◌≡◌, ℕ, zero, suc, ◌+◌, ◌-◌, ◌<◌, Bool, true, false, cond, List, [], ◌∷◌, ◌++◌, length, map, drop, Option, Some, None, Result, Ok, Err, refl, sym, ◌∙◌, ap, subst, append_assoc, arith}
use Rattle.std.proofs.lemmas.List.{append-nil}
use Rattle.std.specs.List.{All}
use Rattle.std.proofs.lemmas.List.Elements.{All-nil, All-cons}
use Rattle.ir_draft.specs.declared.head.Head.{Head}
use Rattle.ir_draft.specs.declared.kept.Kept.{Kept}
use Rattle.ir_draft.specs.declared.line.Line.{Line}
use Rattle.ir_draft.specs.declared.line.Line.TheVariants as line
use Rattle.ir_draft.specs.declared.draft.Numbered.{Numbered}
use Rattle.ir_draft.specs.declared.draft.DraftItem.{DraftItem}
use Rattle.ir_draft.specs.declared.draft.DraftItem.TheVariants as item
use Rattle.ir_read.specs.declared.refusal.ReadRefusal.{ReadRefusal}
use Rattle.ir_read.specs.Answers.{◌>>=◌}
use Rattle.ir_read.specs.Bodies.{numbered_from}
use Rattle.ir_read.specs.Numbers.{after_params}
use Rattle.ir_read.specs.Position.{start, at_close}
use Rattle.ir_read.specs.Function.{after_line, opened_by, with_line}
use Rattle.ir_read.specs.Lines.{lines_of}
use Rattle.ir_read.specs.Forms.{form_in, inside_after, forms_from, forms_of}
use Rattle.ir_read.specs.Opaque.{is_opaque, joined, text_at}
use Rattle.ir_read.specs.Outlook.{outlook_of}
use Rattle.ir_read.specs.Draft.{Opened, Nothing, Profile, Passing, Reading, nothing_done, between, going_on, passing, with_kept, with_opaque, closed, placed, line_inside, header_line, function_line, line_outside, line_passed, step_in, step}
use Rattle.ir_read.specs.Items.{closed_items, items_from, IsItems}
use Rattle.ir_read.proofs.Placing.{Place, OpenFunction, Read, Known, body_line, body_lines}
use Rattle.rf_text.proofs.OpaqueLines.{IsBodyLine, inside_forms, opaque_free, text_is}

-- ---- items and their lines, of which the first has the number n

pub data Cut (known : Known) : ℕ → List (List ℕ) → List DraftItem → Type 0 where
  NoLine : (n : ℕ) → Cut known n [] []
  EmptyLine : (n : ℕ) (l : List ℕ) (ls : List (List ℕ)) (xs : List DraftItem) → form_in false l ≡ Some line.Empty → Cut known (n + 1) ls xs → Cut known n (l ∷ ls) xs
  KeptLine : (n : ℕ) (l : List ℕ) (kept : Kept) (ls : List (List ℕ)) (xs : List DraftItem) → form_in false l ≡ Some (line.Kept kept) → Cut known (n + 1) ls xs → Cut known n (l ∷ ls) (item.Kept n kept ∷ xs)
  FunctionLines : (n : ℕ) (l : List ℕ) (name : Option (List ℕ)) (head : Head) (body : List (List ℕ)) (forms : List Line) (brace : List ℕ) (ls : List (List ℕ)) (xs : List DraftItem) (first : ℕ) (p q : Place) (k : ℕ) →
      form_in false l ≡ Some (line.Define name (Some head)) → is_opaque known (Some head) (map Some forms ++ Some line.Close ∷ []) ≡ false → after_params n 0 head.params ≡ Ok first → map (form_in true) body ≡ map Some forms →
      body_lines known.names (n + 1) (start first) forms ≡ Ok p → at_close k p ≡ Ok q → form_in true brace ≡ Some line.Close → Cut known (n + 1 + length body + 1) ls xs →
      Cut known n (l ∷ (body ++ brace ∷ ls)) (item.Func n head (numbered_from (n + 1) forms) ∷ xs)
  OpaqueLines : (n : ℕ) (l : List ℕ) (name : Option (List ℕ)) (head : Option Head) (body : List (List ℕ)) (brace : List ℕ) (ls : List (List ℕ)) (xs : List DraftItem) →
      form_in false l ≡ Some (line.Define name head) → is_opaque known head (map (form_in true) body ++ Some line.Close ∷ []) ≡ true → All IsBodyLine body → form_in true brace ≡ Some line.Close → Cut known (n + 1 + length body + 1) ls xs →
      Cut known n (l ∷ (body ++ brace ∷ ls)) (item.Opaque n name (joined (l ∷ (body ++ brace ∷ []))) ∷ xs)

-- ---- answers of the reader

refused : {A P : Type 0} {refusal : ReadRefusal} {y : A} → Err refusal ≡ Ok y → P
refused e = cc

bind_ok : {A B P : Type 0} (r : Result A ReadRefusal) (f : A → Result B ReadRefusal) (y : B) → (r >>= f) ≡ Ok y → ((x : A) → r ≡ Ok x → f x ≡ Ok y → P) → P
bind_ok (Ok x) f y e k = k x refl e
bind_ok (Err refusal) f y e k = refused e

abbrev ok : {A : Type 0} → A → Result A ReadRefusal
ok x = Ok x

ok_is : {A : Type 0} {x y : A} → ok x ≡ ok y → x ≡ y
ok_is e = cc

first_form : {a b : Option Line} {as' bs : List (Option Line)} → a ∷ as' ≡ b ∷ bs → a ≡ b
first_form e = cc

more_forms : {a b : Option Line} {as' bs : List (Option Line)} → a ∷ as' ≡ b ∷ bs → as' ≡ bs
more_forms e = cc

some_is : {a b : Line} → Some a ≡ Some b → a ≡ b
some_is e = cc

not_close : (names : List (List ℕ)) (f : Line) → line.Close ≡ f → (m : ℕ) (at q : Place) → body_line names m at f ≡ Ok q → ⊥
not_close names f e m at q was = refused (ap (body_line names m at) e ∙ was)

-- no line of a body that stands is the brace
pub no_close : (names : List (List ℕ)) (body : List (List ℕ)) (forms : List Line) → map (form_in true) body ≡ map Some forms → (p : Place) (m : ℕ) (at : Place) → body_lines names m at forms ≡ Ok p → All IsBodyLine body
no_close names [] forms e p m at s = All-nil IsBodyLine
no_close names (b ∷ body) [] e p m at s = cc
no_close names (b ∷ body) (f ∷ forms) e p m at s =
    bind_ok (body_line names m at f) _ p s (λ q was now.
    All-cons IsBodyLine b body (λ c. not_close names f (sym (some_is (sym (first_form e) ∙ c))) m at q was) (no_close names body forms (more_forms e) p (m + 1) q now))

-- ---- what is left, where a function is open or not

is_inside : Opened → Bool
is_inside Nothing = false
is_inside _ = true

module _ (known : Known) (all : List (List ℕ)) where
  record RestOutside (n : ℕ) (done : Read) (ls : List (List ℕ)) (xs : List DraftItem) : Type 0 where
    items : List DraftItem
    whole : xs ≡ done.items ++ items
    cut : Cut known n ls items

  record RestInside (n : ℕ) (done : Read) (o : OpenFunction) (ls : List (List ℕ)) (xs : List DraftItem) : Type 0 where
    body : List (List ℕ)
    forms : List Line
    brace : List ℕ
    rest : List (List ℕ)
    items : List DraftItem
    p : Place
    q : Place
    k : ℕ
    lines : ls ≡ body ++ brace ∷ rest
    forms_are : map (form_in true) body ≡ map Some forms
    stand : body_lines known.names n o.at forms ≡ Ok p
    shut : at_close k p ≡ Ok q
    is_brace : form_in true brace ≡ Some line.Close
    whole : xs ≡ done.items ++ item.Func o.line o.head (o.body ++ numbered_from n forms) ∷ items
    cut : Cut known (n + length body + 1) rest items

  record RestPassing (n : ℕ) (done : Read) (ls : List (List ℕ)) (xs : List DraftItem) : Type 0 where
    body : List (List ℕ)
    brace : List ℕ
    rest : List (List ℕ)
    items : List DraftItem
    lines : ls ≡ body ++ brace ∷ rest
    inside : All IsBodyLine body
    is_brace : form_in true brace ≡ Some line.Close
    whole : xs ≡ done.items ++ items
    cut : Cut known (n + length body + 1) rest items

  Rest : ℕ → Read → Opened → List (List ℕ) → List DraftItem → Type 0
  Rest n done Nothing ls xs = RestOutside n done ls xs
  Rest n done (Profile o) ls xs = RestInside n done o ls xs
  Rest n done Passing ls xs = RestPassing n done ls xs

  -- the lines after this one are cut
  Next : ℕ → List (List ℕ) → List DraftItem → Type 0
  Next n ls xs = (done : Read) (current : Opened) → items_from known all n (record { done = done; current = current }) (forms_from (is_inside current) ls) ≡ Ok xs → Rest n done current ls xs

  pushed : (done : Read) (x : DraftItem) (items xs : List DraftItem) → xs ≡ (done.items ++ x ∷ []) ++ items → xs ≡ done.items ++ x ∷ items
  pushed done x items xs e = e ∙ append_assoc done.items (x ∷ []) items

  -- ---- a header

  header_cut : (n : ℕ) (done : Read) (l : List ℕ) (name : Option (List ℕ)) (head : Option Head) (ls : List (List ℕ)) (xs : List DraftItem) → form_in false l ≡ Some (line.Define name head) → drop (n - 1) all ≡ l ∷ ls → Next (n + 1) ls xs →
      (opaque : Bool) → is_opaque known head (forms_from true ls) ≡ opaque →
      (cond opaque (Ok (passing (with_opaque done n name (text_at all n (forms_from true ls))))) (header_line n done head) >>= (λ after. items_from known all (n + 1) after (forms_from true ls))) ≡ Ok xs → RestOutside n done (l ∷ ls) xs
  unfolding with_opaque header_line opened_by Rest Next is_inside
  header_cut n done l name head ls xs is whole next true o e =
      let r : RestPassing (n + 1) (record { items = done.items ++ item.Opaque n name (text_at all n (forms_from true ls)) ∷ []; size = done.size }) ls xs =
      next (record { items = done.items ++ item.Opaque n name (text_at all n (forms_from true ls)) ∷ []; size = done.size }) Passing e in
      let forms : forms_from true ls ≡ map (form_in true) r.body ++ Some line.Close ∷ forms_from false r.rest = ap (forms_from true) r.lines ∙ inside_forms r.body r.brace r.rest r.inside r.is_brace in
      let text : text_at all n (forms_from true ls) ≡ joined (l ∷ (r.body ++ r.brace ∷ [])) = ap (text_at all n) forms ∙ text_is all n l r.body r.brace r.rest (forms_from false r.rest) (whole ∙ ap (λ ms. l ∷ ms) r.lines) r.inside in
      let opaque : is_opaque known head (map (form_in true) r.body ++ Some line.Close ∷ []) ≡ true = opaque_free known head (map (form_in true) r.body) [] (forms_from false r.rest) ∙ ap (is_opaque known head) (sym forms) ∙ o in
      record {
        items = item.Opaque n name (joined (l ∷ (r.body ++ r.brace ∷ []))) ∷ r.items;
        whole = pushed done (item.Opaque n name (text_at all n (forms_from true ls))) r.items xs r.whole ∙ ap (λ t. done.items ++ item.Opaque n name t ∷ r.items) text;
        cut = subst (λ ms. Cut known n (l ∷ ms) (item.Opaque n name (joined (l ∷ (r.body ++ r.brace ∷ []))) ∷ r.items)) (sym r.lines) (OpaqueLines n l name head r.body r.brace r.rest r.items is opaque r.inside r.is_brace r.cut);
      }
  header_cut n done l name None ls xs is whole next false o e = refused e
  header_cut n done l name (Some head) ls xs is whole next false o e =
      bind_ok (after_params n 0 head.params >>= (λ next. Ok (record { line = n; head = head; body = []; at = start next })) >>= (λ o. Ok (going_on done o))) _ xs e (λ reading was now.
      bind_ok (after_params n 0 head.params >>= (λ next. Ok (record { line = n; head = head; body = []; at = start next }))) _ reading was (λ open_now opened same.
      bind_ok (after_params n 0 head.params) _ open_now opened (λ first params made.
      let at : reading ≡ going_on done (record { line = n; head = head; body = []; at = start first }) = sym (ok_is same) ∙ ap (going_on done) (sym (ok_is made)) in
      let r : RestInside (n + 1) done (record { line = n; head = head; body = []; at = start first }) ls xs =
      next done (Profile (record { line = n; head = head; body = []; at = start first })) (subst (λ a. items_from known all (n + 1) a (forms_from true ls) ≡ Ok xs) at now) in
      let inside : All IsBodyLine r.body = no_close _ r.body r.forms r.forms_are r.p (n + 1) (start first) r.stand in
      let forms : forms_from true ls ≡ map (form_in true) r.body ++ Some line.Close ∷ forms_from false r.rest = ap (forms_from true) r.lines ∙ inside_forms r.body r.brace r.rest inside r.is_brace in
      let opaque : is_opaque known (Some head) (map Some r.forms ++ Some line.Close ∷ []) ≡ false =
      ap (λ fs. is_opaque known (Some head) (fs ++ Some line.Close ∷ [])) (sym r.forms_are) ∙ opaque_free known (Some head) (map (form_in true) r.body) [] (forms_from false r.rest) ∙ ap (is_opaque known (Some head)) (sym forms) ∙ o in
      record {
        items = item.Func n head (numbered_from (n + 1) r.forms) ∷ r.items;
        whole = r.whole;
        cut = subst (λ ms. Cut known n (l ∷ ms) (item.Func n head (numbered_from (n + 1) r.forms) ∷ r.items)) (sym r.lines)
            (FunctionLines n l name head r.body r.forms r.brace r.rest r.items first r.p r.q r.k is opaque params r.forms_are r.stand r.shut r.is_brace r.cut);
      })))

  -- ---- a line outside functions

  outside_cut : (n : ℕ) (done : Read) (l : List ℕ) (ls : List (List ℕ)) (xs : List DraftItem) → drop (n - 1) all ≡ l ∷ ls → Next (n + 1) ls xs → (f : Option Line) → form_in false l ≡ f →
      (step_in known all n (forms_from (inside_after false f) ls) done Nothing f >>= (λ after. items_from known all (n + 1) after (forms_from (inside_after false f) ls))) ≡ Ok xs → RestOutside n done (l ∷ ls) xs
  unfolding with_kept function_line Rest Next is_inside
  outside_cut n done l ls xs whole next None is e = refused e
  outside_cut n done l ls xs whole next (Some line.Empty) is e =
      let r : RestOutside (n + 1) done ls xs = next done Nothing e in
      record { items = r.items; whole = r.whole; cut = EmptyLine n l ls r.items is r.cut }
  outside_cut n done l ls xs whole next (Some (line.Kept kept)) is e =
      let r : RestOutside (n + 1) (record { items = done.items ++ item.Kept n kept ∷ []; size = done.size }) ls xs = next (record { items = done.items ++ item.Kept n kept ∷ []; size = done.size }) Nothing e in
      record { items = item.Kept n kept ∷ r.items; whole = pushed done (item.Kept n kept) r.items xs r.whole; cut = KeptLine n l kept ls r.items is r.cut }
  outside_cut n done l ls xs whole next (Some (line.Define name head)) is e = header_cut n done l name head ls xs is whole next (is_opaque known head (forms_from true ls)) refl e
  outside_cut n done l ls xs whole next (Some line.Close) is e = refused e
  outside_cut n done l ls xs whole next (Some (line.Label name)) is e = refused e
  outside_cut n done l ls xs whole next (Some (line.Stmt s)) is e = refused e
  outside_cut n done l ls xs whole next (Some (line.Case value label)) is e = refused e
  outside_cut n done l ls xs whole next (Some line.CasesEnd) is e = refused e

  -- ---- a line of a function of the profile

  -- one that is added
  added_cut : (n : ℕ) (done : Read) (o : OpenFunction) (l : List ℕ) (ls : List (List ℕ)) (xs : List DraftItem) (f : Line) (q : Place) → form_in true l ≡ Some f → body_line known.names n o.at f ≡ Ok q →
      ((fs : List Line) → numbered_from n (f ∷ fs) ≡ record { line = n; form = f } ∷ numbered_from (n + 1) fs) → RestInside (n + 1) done (with_line o n f q) ls xs → RestInside n done o (l ∷ ls) xs
  unfolding with_line
  added_cut n done o l ls xs f q is stands number r = record {
    body = l ∷ r.body;
    forms = f ∷ r.forms;
    brace = r.brace;
    rest = r.rest;
    items = r.items;
    p = r.p;
    q = r.q;
    k = r.k;
    lines = ap (λ ms. l ∷ ms) r.lines;
    forms_are = ap (λ x. x ∷ map (form_in true) r.body) is ∙ ap (λ fs. Some f ∷ fs) r.forms_are;
    stand = ap (λ (x : Result Place ReadRefusal). x >>= (λ q. body_lines known.names (n + 1) q r.forms)) stands ∙ r.stand;
    shut = r.shut;
    is_brace = r.is_brace;
    whole =
        r.whole ∙ ap (λ (b : List Numbered). done.items ++ item.Func o.line o.head b ∷ r.items)
        (append_assoc o.body (record { line = n; form = f } ∷ []) (numbered_from (n + 1) r.forms) ∙ ap (λ (b : List Numbered). o.body ++ b) (sym (number r.forms)));
    cut = let same : n + 1 + length r.body + 1 ≡ n + suc (length r.body) + 1 = omega arith in subst (λ j. Cut known j r.rest r.items) same r.cut;
  }

  inside_cut : (n : ℕ) (done : Read) (o : OpenFunction) (l : List ℕ) (ls : List (List ℕ)) (xs : List DraftItem) → Next (n + 1) ls xs → (f : Option Line) → form_in true l ≡ f →
      (step_in known all n (forms_from (inside_after true f) ls) done (Profile o) f >>= (λ after. items_from known all (n + 1) after (forms_from (inside_after true f) ls))) ≡ Ok xs → RestInside n done o (l ∷ ls) xs
  unfolding line_inside closed Rest Next is_inside
  inside_cut n done o l ls xs next None is e = refused e
  inside_cut n done o l ls xs next (Some line.Empty) is e =
      let r : RestInside (n + 1) done o ls xs = next done (Profile o) e in
      record {
        body = l ∷ r.body;
        forms = line.Empty ∷ r.forms;
        brace = r.brace;
        rest = r.rest;
        items = r.items;
        p = r.p;
        q = r.q;
        k = r.k;
        lines = ap (λ ms. l ∷ ms) r.lines;
        forms_are = ap (λ x. x ∷ map (form_in true) r.body) is ∙ ap (λ fs. Some line.Empty ∷ fs) r.forms_are;
        stand = r.stand;
        shut = r.shut;
        is_brace = r.is_brace;
        whole = r.whole;
        cut = let same : n + 1 + length r.body + 1 ≡ n + suc (length r.body) + 1 = omega arith in subst (λ j. Cut known j r.rest r.items) same r.cut;
      }
  inside_cut n done o l ls xs next (Some line.Close) is e =
      bind_ok (at_close n o.at >>= (λ p. Ok (placed done o n line.Close p))) _ xs e (λ reading was now.
      bind_ok (at_close n o.at) _ reading was (λ p shut same.
      let r : RestOutside (n + 1) (closed done o) ls xs = next (closed done o) Nothing (subst (λ a. items_from known all (n + 1) a (forms_from false ls) ≡ Ok xs) (sym (ok_is same)) now) in
      record {
        body = [];
        forms = [];
        brace = l;
        rest = ls;
        items = r.items;
        p = o.at;
        q = p;
        k = n;
        lines = refl;
        forms_are = refl;
        stand = refl;
        shut = shut;
        is_brace = is;
        whole = pushed done (item.Func o.line o.head o.body) r.items xs r.whole ∙ ap (λ (b : List Numbered). done.items ++ item.Func o.line o.head b ∷ r.items) (sym (append-nil o.body));
        cut = let same : n + 1 ≡ n + 0 + 1 = omega arith in subst (λ j. Cut known j ls r.items) same r.cut;
      }))
  inside_cut n done o l ls xs next (Some (line.Kept kept)) is e = refused e
  inside_cut n done o l ls xs next (Some (line.Define name head)) is e = refused e
  inside_cut n done o l ls xs next (Some (line.Label name)) is e =
      bind_ok (after_line known.names n o.at (line.Label name) >>= (λ p. Ok (placed done o n (line.Label name) p))) _ xs e (λ reading was now.
      bind_ok (after_line known.names n o.at (line.Label name)) _ reading was (λ p stands same.
      added_cut n done o l ls xs (line.Label name) p is stands (λ fs. refl) (next done (Profile (with_line o n (line.Label name) p)) (subst (λ a. items_from known all (n + 1) a (forms_from true ls) ≡ Ok xs) (sym (ok_is same)) now))))
  inside_cut n done o l ls xs next (Some (line.Stmt s)) is e =
      bind_ok (after_line known.names n o.at (line.Stmt s) >>= (λ p. Ok (placed done o n (line.Stmt s) p))) _ xs e (λ reading was now.
      bind_ok (after_line known.names n o.at (line.Stmt s)) _ reading was (λ p stands same.
      added_cut n done o l ls xs (line.Stmt s) p is stands (λ fs. refl) (next done (Profile (with_line o n (line.Stmt s) p)) (subst (λ a. items_from known all (n + 1) a (forms_from true ls) ≡ Ok xs) (sym (ok_is same)) now))))
  inside_cut n done o l ls xs next (Some (line.Case value label)) is e =
      bind_ok (after_line known.names n o.at (line.Case value label) >>= (λ p. Ok (placed done o n (line.Case value label) p))) _ xs e (λ reading was now.
      bind_ok (after_line known.names n o.at (line.Case value label)) _ reading was (λ p stands same.
      added_cut n done o l ls xs (line.Case value label) p is stands (λ fs. refl) (next done (Profile (with_line o n (line.Case value label) p)) (subst (λ a. items_from known all (n + 1) a (forms_from true ls) ≡ Ok xs) (sym (ok_is same)) now))))
  inside_cut n done o l ls xs next (Some line.CasesEnd) is e =
      bind_ok (after_line known.names n o.at line.CasesEnd >>= (λ p. Ok (placed done o n line.CasesEnd p))) _ xs e (λ reading was now.
      bind_ok (after_line known.names n o.at line.CasesEnd) _ reading was (λ p stands same.
      added_cut n done o l ls xs line.CasesEnd p is stands (λ fs. refl) (next done (Profile (with_line o n line.CasesEnd p)) (subst (λ a. items_from known all (n + 1) a (forms_from true ls) ≡ Ok xs) (sym (ok_is same)) now))))

  -- ---- a line of an opaque function

  passed_cut : (n : ℕ) (done : Read) (l : List ℕ) (ls : List (List ℕ)) (xs : List DraftItem) → form_in true l ≡ Some line.Close → RestOutside (n + 1) done ls xs → RestPassing n done (l ∷ ls) xs
  passed_cut n done l ls xs is r = record {
    body = [];
    brace = l;
    rest = ls;
    items = r.items;
    lines = refl;
    inside = All-nil IsBodyLine;
    is_brace = is;
    whole = r.whole;
    cut = let same : n + 1 ≡ n + 0 + 1 = omega arith in subst (λ j. Cut known j ls r.items) same r.cut;
  }

  going_cut : (n : ℕ) (done : Read) (l : List ℕ) (ls : List (List ℕ)) (xs : List DraftItem) → (form_in true l ≡ Some line.Close → ⊥) → RestPassing (n + 1) done ls xs → RestPassing n done (l ∷ ls) xs
  going_cut n done l ls xs free r = record {
    body = l ∷ r.body;
    brace = r.brace;
    rest = r.rest;
    items = r.items;
    lines = ap (λ ms. l ∷ ms) r.lines;
    inside = All-cons IsBodyLine l r.body free r.inside;
    is_brace = r.is_brace;
    whole = r.whole;
    cut = let same : n + 1 + length r.body + 1 ≡ n + suc (length r.body) + 1 = omega arith in subst (λ j. Cut known j r.rest r.items) same r.cut;
  }

  passing_cut : (n : ℕ) (done : Read) (l : List ℕ) (ls : List (List ℕ)) (xs : List DraftItem) → Next (n + 1) ls xs → (f : Option Line) → form_in true l ≡ f →
      (step_in known all n (forms_from (inside_after true f) ls) done Passing f >>= (λ after. items_from known all (n + 1) after (forms_from (inside_after true f) ls))) ≡ Ok xs → RestPassing n done (l ∷ ls) xs
  unfolding Rest Next is_inside
  passing_cut n done l ls xs next None is e = going_cut n done l ls xs (λ c. let x : None ≡ Some line.Close = sym is ∙ c in cc) (next done Passing e)
  passing_cut n done l ls xs next (Some line.Close) is e = passed_cut n done l ls xs is (next done Nothing e)
  passing_cut n done l ls xs next (Some line.Empty) is e = going_cut n done l ls xs (λ c. let x : Some line.Empty ≡ Some line.Close = sym is ∙ c in cc) (next done Passing e)
  passing_cut n done l ls xs next (Some (line.Kept kept)) is e = going_cut n done l ls xs (λ c. let x : Some (line.Kept kept) ≡ Some line.Close = sym is ∙ c in cc) (next done Passing e)
  passing_cut n done l ls xs next (Some (line.Define name head)) is e = going_cut n done l ls xs (λ c. let x : Some (line.Define name head) ≡ Some line.Close = sym is ∙ c in cc) (next done Passing e)
  passing_cut n done l ls xs next (Some (line.Label name)) is e = going_cut n done l ls xs (λ c. let x : Some (line.Label name) ≡ Some line.Close = sym is ∙ c in cc) (next done Passing e)
  passing_cut n done l ls xs next (Some (line.Stmt s)) is e = going_cut n done l ls xs (λ c. let x : Some (line.Stmt s) ≡ Some line.Close = sym is ∙ c in cc) (next done Passing e)
  passing_cut n done l ls xs next (Some (line.Case value label)) is e = going_cut n done l ls xs (λ c. let x : Some (line.Case value label) ≡ Some line.Close = sym is ∙ c in cc) (next done Passing e)
  passing_cut n done l ls xs next (Some line.CasesEnd) is e = going_cut n done l ls xs (λ c. let x : Some line.CasesEnd ≡ Some line.Close = sym is ∙ c in cc) (next done Passing e)

  -- ---- all lines

  tail_at : (n : ℕ) (l : List ℕ) (ls : List (List ℕ)) → drop (n - 1) all ≡ l ∷ ls → 0 < n → drop (n + 1 - 1) all ≡ ls
  tail_at n l ls e some = let same : n + 1 - 1 ≡ suc (n - 1) = omega (arith, some) in ap (λ k. drop k all) same ∙ drop_next (n - 1) all l ls e where
    drop_next : (k : ℕ) (ys : List (List ℕ)) (l : List ℕ) (ls : List (List ℕ)) → drop k ys ≡ l ∷ ls → drop (suc k) ys ≡ ls
    drop_next zero [] l ls e = cc
    drop_next zero (y ∷ ys) l ls e = cc
    drop_next (suc k) [] l ls e = cc
    drop_next (suc k) (y ∷ ys) l ls e = drop_next k ys l ls e

  all_cut : (ls : List (List ℕ)) (n : ℕ) (xs : List DraftItem) → 0 < n → drop (n - 1) all ≡ ls → (done : Read) (current : Opened) → items_from known all n (record { done = done; current = current }) (forms_from (is_inside current) ls) ≡ Ok xs → Rest n done current ls xs
  unfolding Rest Next is_inside
  all_cut [] n xs some whole done Nothing e = record { items = []; whole = sym (ok_is e) ∙ sym (append-nil done.items); cut = NoLine n }
  all_cut [] n xs some whole done (Profile o) e = refused e
  all_cut [] n xs some whole done Passing e = refused e
  all_cut (l ∷ ls) n xs some whole done Nothing e = outside_cut n done l ls xs whole (λ d c e. all_cut ls (n + 1) xs (omega (arith, some)) (tail_at n l ls whole some) d c e) (form_in false l) refl e
  all_cut (l ∷ ls) n xs some whole done (Profile o) e = inside_cut n done o l ls xs (λ d c e. all_cut ls (n + 1) xs (omega (arith, some)) (tail_at n l ls whole some) d c e) (form_in true l) refl e
  all_cut (l ∷ ls) n xs some whole done Passing e = passing_cut n done l ls xs (λ d c e. all_cut ls (n + 1) xs (omega (arith, some)) (tail_at n l ls whole some) d c e) (form_in true l) refl e

-- a text that is items is cut into them
pub text_cut : (bytes : List ℕ) (xs : List DraftItem) → IsItems bytes xs → Cut (outlook_of (forms_of (lines_of bytes))) 1 (lines_of bytes) xs
unfolding Rest is_inside
text_cut bytes xs is =
    let r : RestOutside (outlook_of (forms_of (lines_of bytes))) (lines_of bytes) 1 nothing_done (lines_of bytes) xs =
    all_cut (outlook_of (forms_of (lines_of bytes))) (lines_of bytes) (lines_of bytes) 1 xs (omega arith) refl nothing_done Nothing is.placed in
    subst (Cut (outlook_of (forms_of (lines_of bytes))) 1 (lines_of bytes)) (sym r.whole) r.cut

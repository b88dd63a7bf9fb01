-- A text read line by line is what it is where each function is judged by all its lines where it begins.
use Rattle.std.proofs.Common.{◌≡◌, ℕ, zero, suc, ◌+◌, ◌-◌, ◌<◌, ◌≤◌, Bool, true, false, cond, not, ◌&&◌, ◌||◌, List, [], ◌∷◌, drop, take, Option, Some, None, Result, Ok, Err, nat_eq, refl, sym, ◌∙◌, ap, arith}
use Rattle.ir_draft.specs.declared.line.Line.{Line}
use Rattle.ir_draft.specs.declared.line.Line.TheVariants as line
use Rattle.ir_draft.specs.declared.head.Head.{Head}
use Rattle.ir_draft.specs.declared.draft.Draft.{Draft}
use Rattle.ir_read.specs.declared.outlook.Outlook.{Outlook}
use Rattle.ir_read.specs.declared.open_function.OpenFunction.{OpenFunction as Open}
use Rattle.ir_read.specs.declared.position.Position.{Position}
use Rattle.ir_read.specs.declared.progress.Done.{Done}
use Rattle.ir_read.specs.declared.progress.Origin.{Origin}
use Rattle.ir_read.specs.declared.progress.Progress.{Progress}
use Rattle.ir_read.specs.declared.refusal.ReadRefusal.{ReadRefusal}
use Rattle.ir_read.specs.declared.refusal.ReadRefusal.TheVariants.{Misplaced}
use Rattle.ir_read.specs.Answers.{◌>>=◌}
use Rattle.ir_read.specs.Lines.{lines_of}
use Rattle.ir_read.specs.Faults.{first_fault, unless}
use Rattle.ir_read.specs.Forms.{form_in, inside_after, forms_from, forms_of}
use Rattle.ir_read.specs.Outlook.{outlook_of}
use Rattle.ir_read.specs.Numbers.{after_params}
use Rattle.ir_read.specs.Position.{is_between, start, at_close}
use Rattle.ir_read.specs.Function.{opened_by, with_line}
use Rattle.ir_read.specs.Opaque.{passed_label, passed_stmt, passed_end, is_foreign_line, any_foreign, is_headless, is_opaque, to_brace, joined, text_at}
use Rattle.ir_read.specs.Draft.{Reading, Nothing, between, going_on, passing, with_kept, with_opaque, closed, placed, line_inside, header_line, function_line, step_in, read_from, nothing_done, draft_of}
use Rattle.ir_read.specs.Steps.{outside, sound, faulty, opaque, began, header_opens, header_step, define_step, outside_step, added, misplaced, judged, sound_step, faulty_step, opaque_step, steps_from}
use Rattle.ir_read.proofs.Flowing.{flow, any_same, Counted, Counts, Miscounts, params_counted, Found, Goes, Fails, Leaves, label_found, stmt_found, case_found, cases_found}

abbrev Read : Type 0
Read = Result Draft ReadRefusal

shifted : (h n k : ℕ) → h < n → n + 1 - h + k ≡ n - h + suc k
shifted h n k older = omega arith

one_more : (h n : ℕ) → suc (n - h) ≡ n - h + 1
one_more h n = omega arith

first_line : (n k : ℕ) → n + 1 - n + k ≡ suc k
first_line n k = omega arith

less_next : (h n : ℕ) → h < n → h < n + 1
less_next h n older = omega arith

self_next : (n : ℕ) → n < n + 1
self_next n = omega arith

dropped : (k : ℕ) (all : List (List ℕ)) (l : List ℕ) (ls : List (List ℕ)) → drop k all ≡ l ∷ ls → drop (suc k) all ≡ ls
dropped zero [] l ls e = cc
dropped zero (x ∷ xs) l ls e = cc
dropped (suc k) [] l ls e = cc
dropped (suc k) (x ∷ xs) l ls e = dropped k xs l ls e

dropped_next : (n : ℕ) (all : List (List ℕ)) (l : List ℕ) (ls : List (List ℕ)) → 1 ≤ n → drop (n - 1) all ≡ l ∷ ls → drop (n + 1 - 1) all ≡ ls
dropped_next n all l ls some e = let same : n + 1 - 1 ≡ suc (n - 1) = omega arith in ap (λ k. drop k all) same ∙ dropped (n - 1) all l ls e

-- the function that a header opens
abbrev made : ℕ → Head → ℕ → Open
made n head k = record { line = n; head = head; body = []; at = start k }

module _ (known : Outlook) (all : List (List ℕ)) where
  -- so many lines from the line h on
  abbrev text : ℕ → ℕ → List ℕ
  text h k = joined (take k (drop (h - 1) all))

  -- what is read in an opaque function with its text among the items
  abbrev kept : Done → ℕ → Option (List ℕ) → ℕ → ℕ → List (Option Line) → Read
  kept done h name k n fs = read_from known all n (passing (with_opaque done h name (text h k))) fs

  record Agrees (n : ℕ) (ls : List (List ℕ)) : Type 0 where
    in_module : (done : Done) (from : List (List ℕ)) → steps_from known n (outside done) from ls ≡ read_from known all n (between done) (forms_from false ls)
    in_sound : (done : Done) (name : Option (List ℕ)) (o : Open) → o.line < n → steps_from known n (sound done name o) (drop (o.line - 1) all) ls
        ≡ cond (any_foreign known.names o.at (forms_from true ls)) (kept done o.line name (n - o.line + to_brace (forms_from true ls)) n (forms_from true ls)) (read_from known all n (going_on done o) (forms_from true ls))
    in_faulty : (done : Done) (g : Origin) (p : Position) (m : ℕ) → g.line < n → steps_from known n (faulty done g p m) (drop (g.line - 1) all) ls
        ≡ cond (any_foreign known.names p (forms_from true ls)) (kept done g.line g.name (n - g.line + to_brace (forms_from true ls)) n (forms_from true ls)) (Err (Misplaced m))
    in_opaque : (done : Done) (g : Origin) → g.line < n → steps_from known n (opaque done g) (drop (g.line - 1) all) ls
        ≡ kept done g.line g.name (n - g.line + to_brace (forms_from true ls)) n (forms_from true ls)

  -- one more line, where the lines after it agree
  module _ (n : ℕ) (ls : List (List ℕ)) (next : Agrees (n + 1) ls) where
    abbrev fs : List (Option Line)
    fs = forms_from true ls

    kept_same : (done : Done) (h : ℕ) (name : Option (List ℕ)) (a b : ℕ) (gs : List (Option Line)) → a ≡ b → kept done h name a (n + 1) gs ≡ kept done h name b (n + 1) gs
    kept_same done h name a b gs e = ap (λ k. kept done h name k (n + 1) gs) e

    opaque_next : (done : Done) (g : Origin) → g.line < n → steps_from known (n + 1) (opaque done g) (drop (g.line - 1) all) ls ≡ kept done g.line g.name (n - g.line + suc (to_brace fs)) (n + 1) fs
    opaque_next done g older = next.in_opaque done g (less_next g.line n older) ∙ kept_same done g.line g.name _ _ fs (shifted g.line n (to_brace fs) older)

    faulty_next : (done : Done) (g : Origin) (p : Position) (m : ℕ) → g.line < n → steps_from known (n + 1) (faulty done g p m) (drop (g.line - 1) all) ls
        ≡ cond (any_foreign known.names p fs) (kept done g.line g.name (n - g.line + suc (to_brace fs)) (n + 1) fs) (Err (Misplaced m))
    faulty_next done g p m older =
        next.in_faulty done g p m (less_next g.line n older)
        ∙ ap (λ (x : Read). cond (any_foreign known.names p fs) x (Err (Misplaced m))) (kept_same done g.line g.name _ _ fs (shifted g.line n (to_brace fs) older))

    sound_next : (done : Done) (name : Option (List ℕ)) (o : Open) → o.line < n → steps_from known (n + 1) (sound done name o) (drop (o.line - 1) all) ls
        ≡ cond (any_foreign known.names o.at fs) (kept done o.line name (n - o.line + suc (to_brace fs)) (n + 1) fs) (read_from known all (n + 1) (going_on done o) fs)
    sound_next done name o older =
        next.in_sound done name o (less_next o.line n older)
        ∙ ap (λ (x : Read). cond (any_foreign known.names o.at fs) x (read_from known all (n + 1) (going_on done o) fs)) (kept_same done o.line name _ _ fs (shifted o.line n (to_brace fs) older))

    -- ---- in an opaque function

    opaque_line : (done : Done) (g : Origin) (f : Option Line) → g.line < n →
        steps_from known (n + 1) (opaque_step n (drop (g.line - 1) all) done g f) (drop (g.line - 1) all) ls
        ≡ kept done g.line g.name (n - g.line + to_brace (f ∷ forms_from (inside_after true f) ls)) n (f ∷ forms_from (inside_after true f) ls)
    opaque_line done g None older = opaque_next done g older
    opaque_line done g (Some line.Close) older =
        ap (λ k. steps_from known (n + 1) (outside (with_opaque done g.line g.name (text g.line k))) (drop (g.line - 1) all) ls) (one_more g.line n)
        ∙ next.in_module (with_opaque done g.line g.name (text g.line (n - g.line + 1))) (drop (g.line - 1) all)
    opaque_line done g (Some line.Empty) older = opaque_next done g older
    opaque_line done g (Some (line.Kept k)) older = opaque_next done g older
    opaque_line done g (Some (line.Define name head)) older = opaque_next done g older
    opaque_line done g (Some (line.Label name)) older = opaque_next done g older
    opaque_line done g (Some (line.Stmt s)) older = opaque_next done g older
    opaque_line done g (Some (line.Case value label)) older = opaque_next done g older
    opaque_line done g (Some line.CasesEnd) older = opaque_next done g older

    -- ---- in one with a misplaced line

    faulty_either : (done : Done) (g : Origin) (m : ℕ) (b : Bool) (p : Position) → g.line < n →
        (cond b (Ok (opaque done g)) (Ok (faulty done g p m)) >>= (λ after. steps_from known (n + 1) after (drop (g.line - 1) all) ls))
        ≡ cond (b || any_foreign known.names p fs) (kept done g.line g.name (n - g.line + suc (to_brace fs)) (n + 1) fs) (Err (Misplaced m))
    faulty_either done g m true p older = opaque_next done g older
    faulty_either done g m false p older = faulty_next done g p m older

    faulty_line : (done : Done) (g : Origin) (p : Position) (m : ℕ) (f : Option Line) → g.line < n →
        (faulty_step known done (record { origin = g; at = p; line = m }) f >>= (λ after. steps_from known (n + 1) after (drop (g.line - 1) all) ls))
        ≡ cond (any_foreign known.names p (f ∷ forms_from (inside_after true f) ls)) (kept done g.line g.name (n - g.line + to_brace (f ∷ forms_from (inside_after true f) ls)) n (f ∷ forms_from (inside_after true f) ls)) (Err (Misplaced m))
    faulty_line done g p m None older = opaque_next done g older
    faulty_line done g p m (Some line.Close) older = refl
    faulty_line done g p m (Some line.Empty) older = faulty_next done g p m older
    faulty_line done g p m (Some (line.Kept k)) older = opaque_next done g older
    faulty_line done g p m (Some (line.Define name head)) older = opaque_next done g older
    faulty_line done g p m (Some (line.Label name)) older = faulty_either done g m false (passed_label p) older
    faulty_line done g p m (Some (line.Stmt s)) older = faulty_either done g m (is_foreign_line known.names p (line.Stmt s)) (passed_stmt p s.op) older
    faulty_line done g p m (Some (line.Case value label)) older = faulty_either done g m false p older
    faulty_line done g p m (Some line.CasesEnd) older = faulty_either done g m false (passed_end p) older

    -- ---- in one whose lines stand where they may

    module _ (done : Done) (name : Option (List ℕ)) (o : Open) (older : o.line < n) where
      abbrev past : Progress → Read
      past after = steps_from known (n + 1) after (drop (o.line - 1) all) ls

      abbrev kept_next : Read
      kept_next = kept done o.line name (n - o.line + suc (to_brace fs)) (n + 1) fs

      goes_on : (form : Line) (p q : Position) → flow q ≡ flow p →
          past (sound done name (with_line o n form q)) ≡ cond (any_foreign known.names p fs) kept_next (read_from known all (n + 1) (going_on done (with_line o n form q)) fs)
      unfolding with_line
      goes_on form p q e =
          sound_next done name (with_line o n form q) older
          ∙ ap (λ b. cond b kept_next (read_from known all (n + 1) (going_on done (with_line o n form q)) fs)) (any_same known.names q p fs e)

      settled : (form : Line) (p : Position) (b : Bool) (r : Result Position ReadRefusal) → Found n p b r →
          ((q : Position) → added n done name o form q ≡ sound done name (with_line o n form q)) →
          misplaced n done name o form ≡ Ok (faulty done (began o.line name) p n) →
          ((q : Position) → placed done o n form q ≡ going_on done (with_line o n form q)) →
          (judged n done name o form r >>= past) ≡ cond (b || any_foreign known.names p fs) kept_next (r >>= (λ q. Ok (placed done o n form q)) >>= (λ after. read_from known all (n + 1) after fs))
      settled form p _ _ (Goes q e) put miss place =
          ap past (put q) ∙ goes_on form p q e ∙ ap (λ x. cond (any_foreign known.names p fs) kept_next (read_from known all (n + 1) x fs)) (sym (place q))
      settled form p _ _ Fails put miss place =
          ap (λ (r : Result Progress ReadRefusal). r >>= past) miss ∙ faulty_next done (began o.line name) p n older
      settled form p _ _ Leaves put miss place = opaque_next done (began o.line name) older

      closing : (b : Bool) →
          (judged n done name o line.Close (cond b (Ok o.at) (Err (Misplaced n))) >>= past)
          ≡ (cond b (Ok o.at) (Err (Misplaced n)) >>= (λ q. Ok (placed done o n line.Close q)) >>= (λ after. read_from known all (n + 1) after (forms_from false ls)))
      closing true = next.in_module (closed done o) (drop (o.line - 1) all)
      closing false = refl

      sound_line : (f : Option Line) →
          (sound_step known n done name o f >>= past)
          ≡ cond (any_foreign known.names o.at (f ∷ forms_from (inside_after true f) ls)) (kept done o.line name (n - o.line + to_brace (f ∷ forms_from (inside_after true f) ls)) n (f ∷ forms_from (inside_after true f) ls))
          (read_from known all n (going_on done o) (f ∷ forms_from (inside_after true f) ls))
      unfolding sound_step line_inside at_close
      sound_line None = opaque_next done (began o.line name) older
      sound_line (Some line.Close) = closing (is_between o.at.spot && not (nat_eq o.at.blocks 0))
      sound_line (Some line.Empty) = sound_next done name o older
      sound_line (Some (line.Kept k)) = opaque_next done (began o.line name) older
      sound_line (Some (line.Define other head)) = opaque_next done (began o.line name) older
      sound_line (Some (line.Label label)) = settled (line.Label label) (passed_label o.at) false _ (label_found n o.at label) (λ q. refl) refl (λ q. refl)
      sound_line (Some (line.Stmt s)) = settled (line.Stmt s) (passed_stmt o.at s.op) _ _ (stmt_found known.names n o.at s) (λ q. refl) refl (λ q. refl)
      sound_line (Some (line.Case value label)) = settled (line.Case value label) o.at false _ (case_found n o.at) (λ q. refl) refl (λ q. refl)
      sound_line (Some line.CasesEnd) = settled line.CasesEnd (passed_end o.at) false _ (cases_found n o.at) (λ q. refl) refl (λ q. refl)

    -- ---- outside functions

    module _ (done : Done) (from : List (List ℕ)) (here : from ≡ drop (n - 1) all) where
      abbrev onward : Progress → Read
      onward after = steps_from known (n + 1) after from ls

      abbrev kept_whole : Option (List ℕ) → Read
      kept_whole name = read_from known all (n + 1) (passing (with_opaque done n name (text n (suc (to_brace fs))))) fs

      opaque_begun : (name : Option (List ℕ)) → onward (opaque done (began n name)) ≡ kept_whole name
      opaque_begun name =
          ap (λ from. steps_from known (n + 1) (opaque done (began n name)) from ls) here
          ∙ next.in_opaque done (began n name) (self_next n) ∙ kept_same done n name _ _ fs (first_line n (to_brace fs))

      header_begun : (name : Option (List ℕ)) (head : Head) (r : Result ℕ ReadRefusal) → Counted n r →
          (header_opens n done name (r >>= (λ k. Ok (made n head k))) >>= onward)
          ≡ cond (any_foreign known.names (start 0) fs) (kept_whole name)
          (r >>= (λ k. Ok (made n head k)) >>= (λ o. Ok (going_on done o)) >>= (λ after. read_from known all (n + 1) after fs))
      header_begun name head _ (Counts k) =
          let o : Open = made n head k in
          let rest : Read = read_from known all (n + 1) (going_on done o) fs in
          ap (λ from. steps_from known (n + 1) (sound done name o) from ls) here
          ∙ next.in_sound done name o (self_next n)
          ∙ ap (λ b. cond b (kept done n name (n + 1 - n + to_brace fs) (n + 1) fs) rest) (any_same known.names (start k) (start 0) fs refl)
          ∙ ap (λ (x : Read). cond (any_foreign known.names (start 0) fs) x rest) (kept_same done n name _ _ fs (first_line n (to_brace fs)))
      header_begun name head _ Miscounts =
          ap (λ from. steps_from known (n + 1) (faulty done (began n name) (start 0) n) from ls) here
          ∙ next.in_faulty done (began n name) (start 0) n (self_next n)
          ∙ ap (λ (x : Read). cond (any_foreign known.names (start 0) fs) x (Err (Misplaced n))) (kept_same done n name _ _ fs (first_line n (to_brace fs)))

      pushed : (b : Bool) (p : Reading) (h : Result Reading ReadRefusal) (k : Reading → Read) → cond b (k p) (h >>= k) ≡ (cond b (Ok p) h >>= k)
      pushed true p h k = refl
      pushed false p h k = refl

      define_line : (name : Option (List ℕ)) (head : Option Head) →
          (define_step known n done name head >>= onward) ≡ (function_line known all n fs done name head >>= (λ after. read_from known all (n + 1) after fs))
      unfolding define_step function_line is_opaque header_line text_at opened_by
      define_line name head = by_layout known.other_pointers head where
        by_layout : (other : Bool) (head : Option Head) →
            (cond other (Ok (opaque done (began n name))) (header_step n done name head) >>= onward)
            ≡ (cond (other || is_headless head || any_foreign known.names (start 0) fs) (Ok (passing (with_opaque done n name (text_at all n fs)))) (header_line n done head) >>= (λ after. read_from known all (n + 1) after fs))
        by_layout true head = opaque_begun name
        by_layout false None = opaque_begun name
        by_layout false (Some head) =
            header_begun name head (after_params n 0 head.params) (params_counted n 0 head.params)
            ∙ pushed (any_foreign known.names (start 0) fs) (passing (with_opaque done n name (text_at all n fs))) (header_line n done (Some head)) (λ after. read_from known all (n + 1) after fs)

      outside_line : (f : Option Line) →
          (outside_step known n done f >>= onward)
          ≡ (step_in known all n (forms_from (inside_after false f) ls) done Nothing f >>= (λ after. read_from known all (n + 1) after (forms_from (inside_after false f) ls)))
      outside_line None = refl
      outside_line (Some line.Empty) = next.in_module done from
      outside_line (Some (line.Kept k)) = next.in_module (with_kept done n k) from
      outside_line (Some (line.Define name head)) = define_line name head
      outside_line (Some line.Close) = refl
      outside_line (Some (line.Label name)) = refl
      outside_line (Some (line.Stmt s)) = refl
      outside_line (Some (line.Case value label)) = refl
      outside_line (Some line.CasesEnd) = refl

  agree : (ls : List (List ℕ)) (n : ℕ) → 1 ≤ n → drop (n - 1) all ≡ ls → Agrees n ls
  agree [] n some e = record {
    in_module = λ done from. refl;
    in_sound = λ done name o older. refl;
    in_faulty = λ done g p m older. refl;
    in_opaque = λ done g older. refl;
  }
  agree (l ∷ ls) n some e =
      let next : Agrees (n + 1) ls = agree ls (n + 1) (omega arith) (dropped_next n all l ls some e) in record {
        in_module = λ done from. outside_line n ls next done (l ∷ ls) (sym e) (form_in false l);
        in_sound = λ done name o older. sound_line n ls next done name o older (form_in true l);
        in_faulty = λ done g p m older. faulty_line n ls next done g p m (form_in true l) older;
        in_opaque = λ done g older. opaque_line n ls next done g (form_in true l) older;
      }

-- lines read one by one are what they are by all of them
pub steps_are : (known : Outlook) (ls : List (List ℕ)) → steps_from known 1 (outside nothing_done) ls ls ≡ read_from known ls 1 (between nothing_done) (forms_of ls)
steps_are known ls = (agree known ls ls 1 (omega arith) refl).in_module nothing_done ls

-- and so the steps come to the draft, where this is known of the whole text
pub draft_known : (bytes : List ℕ) (known : Outlook) → unless (first_fault 1 (lines_of bytes)) (outlook_of (forms_of (lines_of bytes))) ≡ Ok known → steps_from known 1 (outside nothing_done) (lines_of bytes) (lines_of bytes) ≡ draft_of bytes
draft_known bytes known said =
    steps_are known (lines_of bytes)
    ∙ sym (ap (λ (r : Result Outlook ReadRefusal). r >>= (λ k. read_from k (lines_of bytes) 1 (between nothing_done) (forms_of (lines_of bytes)))) said)

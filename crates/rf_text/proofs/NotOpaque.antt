-- A function of which each line stands where it may is not opaque.
use Rattle.std.proofs.Common.{◌≡◌, ℕ, ◌+◌, Bool, true, false, ◌||◌, List, [], ◌∷◌, ◌++◌, map, Option, Some, None, Result, Ok, Err, refl, sym, ◌∙◌, ap}
use Rattle.ir_draft.specs.declared.head.Head.{Head}
use Rattle.ir_draft.specs.declared.line.Line.{Line}
use Rattle.ir_draft.specs.declared.line.Line.TheVariants as line
use Rattle.ir_read.specs.declared.refusal.ReadRefusal.{ReadRefusal}
use Rattle.ir_read.specs.Answers.{◌>>=◌}
use Rattle.ir_read.specs.Position.{start, after_label, after_case, after_cases}
use Rattle.ir_read.specs.Function.{is_outside, after_inst}
use Rattle.ir_read.specs.Opaque.{passed_label, passed_stmt, passed_end, any_foreign, is_headless, is_opaque}
use Rattle.ir_read.proofs.Flowing.{flow, any_same, Found, Goes, Fails, Leaves, label_found, stmt_found, case_found, cases_found}
use Rattle.ir_read.proofs.Placing.{Place, Known, body_line, body_lines}

refused : {A P : Type 0} {refusal : ReadRefusal} {y : A} → Err refusal ≡ Ok y → P
refused e = cc

bind_ok : {A B P : Type 0} (r : Result A ReadRefusal) (f : A → Result B ReadRefusal) (y : B) → (r >>= f) ≡ Ok y → ((x : A) → r ≡ Ok x → f x ≡ Ok y → P) → P
bind_ok (Ok x) f y e k = k x refl e
bind_ok (Err refusal) f y e k = refused e

found_ok : {n : ℕ} {p : Place} {b : Bool} {r : Result Place ReadRefusal} (q : Place) → Found n p b r → r ≡ Ok q → (b ≡ false) × (flow p ≡ flow q)
found_ok q (Goes k e) same = let is : k ≡ q = cc in (refl, sym e ∙ ap flow is)
found_ok q Fails same = refused same
found_ok q Leaves same = refused same

none_foreign : (names : List (List ℕ)) (n : ℕ) (p end : Place) (fs : List Line) (rest : List (Option Line)) → body_lines names n p fs ≡ Ok end → any_foreign names p (map Some fs ++ Some line.Close ∷ rest) ≡ false
none_foreign names n p end [] rest e = refl
none_foreign names n p end (line.Empty ∷ fs) rest e = none_foreign names (n + 1) p end fs rest e
none_foreign names n p end (line.Kept kept ∷ fs) rest e = refused e
none_foreign names n p end (line.Define name head ∷ fs) rest e = refused e
none_foreign names n p end (line.Close ∷ fs) rest e = refused e
none_foreign names n p end (line.Label name ∷ fs) rest e =
    bind_ok (after_label n p name) _ end e (λ q was now.
    any_same names (passed_label p) q (map Some fs ++ Some line.Close ∷ rest) (found_ok q (label_found n p name) was).1 ∙ none_foreign names (n + 1) q end fs rest now)
none_foreign names n p end (line.Stmt s ∷ fs) rest e =
    bind_ok (after_inst names n p s) _ end e (λ q was now.
    let f : (is_outside names p s ≡ false) × (flow (passed_stmt p s.op) ≡ flow q) = found_ok q (stmt_found names n p s) was in
    ap (λ b. b || any_foreign names (passed_stmt p s.op) (map Some fs ++ Some line.Close ∷ rest)) f.0
    ∙ any_same names (passed_stmt p s.op) q (map Some fs ++ Some line.Close ∷ rest) f.1 ∙ none_foreign names (n + 1) q end fs rest now)
none_foreign names n p end (line.Case value label ∷ fs) rest e =
    bind_ok (after_case n p) _ end e (λ q was now.
    any_same names p q (map Some fs ++ Some line.Close ∷ rest) (found_ok q (case_found n p) was).1 ∙ none_foreign names (n + 1) q end fs rest now)
none_foreign names n p end (line.CasesEnd ∷ fs) rest e =
    bind_ok (after_cases n p) _ end e (λ q was now.
    any_same names (passed_end p) q (map Some fs ++ Some line.Close ∷ rest) (found_ok q (cases_found n p) was).1 ∙ none_foreign names (n + 1) q end fs rest now)

pub not_opaque : (known : Known) (n first : ℕ) (head : Head) (end : Place) (fs : List Line) (rest : List (Option Line)) → known.other_pointers ≡ false → body_lines known.names n (start first) fs ≡ Ok end →
    is_opaque known (Some head) (map Some fs ++ Some line.Close ∷ rest) ≡ false
unfolding is_opaque
not_opaque known n first head end fs rest other e =
    ap (λ b. b || is_headless (Some head) || any_foreign known.names (start 0) (map Some fs ++ Some line.Close ∷ rest)) other
    ∙ any_same known.names (start 0) (start first) (map Some fs ++ Some line.Close ∷ rest) refl ∙ none_foreign known.names n (start first) end fs rest e

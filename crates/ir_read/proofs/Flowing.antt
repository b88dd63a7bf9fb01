-- What decides whether later lines are outside the profile: the blocks that have begun and what is open, and no numbers. A line that
-- stands where it may leaves these as it does where nothing is asked of it.
use Rattle.std.proofs.Common.{◌≡◌, ℕ, ◌+◌, Bool, true, false, cond, not, ◌||◌, List, [], ◌∷◌, Option, Some, None, Result, Ok, Err, refl, sym, ◌∙◌, ap}
use Rattle.vx_digits.specs.Numbers.{number_of}
use Rattle.ir_types.specs.declared.op.Op.{Op}
use Rattle.ir_types.specs.declared.op.Op.TheVariants as ops
use Rattle.ir_types.specs.declared.func.Param.{Param}
use Rattle.ir_draft.specs.declared.stmt.Stmt.{Stmt}
use Rattle.ir_draft.specs.declared.line.Line.{Line}
use Rattle.ir_draft.specs.declared.line.Line.TheVariants as line
use Rattle.ir_read.specs.declared.position.Position.{Position}
use Rattle.ir_read.specs.declared.position.Spot.{Spot}
use Rattle.ir_read.specs.declared.position.Spot.TheVariants.{Between, Front, After, Cases}
use Rattle.ir_read.specs.declared.refusal.ReadRefusal.{ReadRefusal}
use Rattle.ir_read.specs.declared.refusal.ReadRefusal.TheVariants.{NotALine, Misplaced}
use Rattle.ir_read.specs.Answers.{◌>>=◌}
use Rattle.ir_read.specs.Numbers.{is_unnamed, is_next, after_name, after_result, after_param, after_params}
use Rattle.ir_read.specs.Position.{is_cases, may_stand, spot_after, opened, in_first, after_label, after_stmt, after_case, after_cases}
use Rattle.ir_read.specs.Function.{any_barred, is_foreign, is_outside, after_inst}
use Rattle.ir_read.specs.Opaque.{passed_label, passed_stmt, passed_end, passed_over, is_foreign_line, any_foreign}

abbrev at : ℕ → ℕ → ℕ → Spot → Position
at next insts blocks spot = record { next = next; insts = insts; blocks = blocks; spot = spot }

-- a position without its numbers
abbrev pub flow : Position → Position
flow p = at 0 0 p.blocks p.spot

-- ---- what is outside the profile goes by that

first_at : (next insts blocks : ℕ) (s : Spot) → in_first (at next insts blocks s) ≡ in_first (at 0 0 blocks s)
unfolding opened
first_at next insts blocks Between = refl
first_at next insts blocks Front = refl
first_at next insts blocks After = refl
first_at next insts blocks Cases = refl

foreign_flow : (p : Position) (op : Op) → is_foreign p op ≡ is_foreign (flow p) op
foreign_flow p (ops.Alloca elem align) = ap not (first_at p.next p.insts p.blocks p.spot)
foreign_flow p (ops.Call site) = refl
foreign_flow p _ = refl

foreign_same : (names : List (List ℕ)) (p q : Position) (form : Line) → flow p ≡ flow q → is_foreign_line names p form ≡ is_foreign_line names q form
foreign_same names p q (line.Stmt s) e =
    ap (λ b. b || any_barred names s.args) (foreign_flow p s.op ∙ ap (λ (x : Position). is_foreign x s.op) e ∙ sym (foreign_flow q s.op))
foreign_same names p q (line.Kept kept) e = refl
foreign_same names p q (line.Define name head) e = refl
foreign_same names p q _ e = refl

label_at : (next insts blocks : ℕ) (s : Spot) → flow (passed_label (at next insts blocks s)) ≡ flow (passed_label (at 0 0 blocks s))
unfolding passed_label
label_at next insts blocks Between = refl
label_at next insts blocks Front = refl
label_at next insts blocks After = refl
label_at next insts blocks Cases = refl

stmt_at : (next insts blocks : ℕ) (s : Spot) (op : Op) → flow (passed_stmt (at next insts blocks s) op) ≡ flow (passed_stmt (at 0 0 blocks s) op)
unfolding passed_stmt opened
stmt_at next insts blocks Between op = refl
stmt_at next insts blocks Front op = refl
stmt_at next insts blocks After op = refl
stmt_at next insts blocks Cases op = refl

end_at : (next insts blocks : ℕ) (s : Spot) → flow (passed_end (at next insts blocks s)) ≡ flow (passed_end (at 0 0 blocks s))
unfolding passed_end
end_at next insts blocks Between = refl
end_at next insts blocks Front = refl
end_at next insts blocks After = refl
end_at next insts blocks Cases = refl

passed_flow : (p : Position) (form : Line) → flow (passed_over p form) ≡ flow (passed_over (flow p) form)
passed_flow p (line.Label name) = label_at p.next p.insts p.blocks p.spot
passed_flow p (line.Stmt s) = stmt_at p.next p.insts p.blocks p.spot s.op
passed_flow p line.CasesEnd = end_at p.next p.insts p.blocks p.spot
passed_flow p _ = refl

passed_same : (p q : Position) (form : Line) → flow p ≡ flow q → flow (passed_over p form) ≡ flow (passed_over q form)
passed_same p q form e = passed_flow p form ∙ ap (λ (x : Position). flow (passed_over x form)) e ∙ sym (passed_flow q form)

both : {a b c d : Bool} → a ≡ b → c ≡ d → a || c ≡ b || d
both e f = cc

pub any_same : (names : List (List ℕ)) (p q : Position) (fs : List (Option Line)) → flow p ≡ flow q → any_foreign names p fs ≡ any_foreign names q fs
any_same names p q [] e = refl
any_same names p q (None ∷ fs) e = refl
any_same names p q (Some line.Close ∷ fs) e = refl
any_same names p q (Some line.Empty ∷ fs) e = any_same names p q fs e
any_same names p q (Some (line.Kept kept) ∷ fs) e = refl
any_same names p q (Some (line.Define name head) ∷ fs) e = refl
any_same names p q (Some (line.Label name) ∷ fs) e = any_same names (passed_label p) (passed_label q) fs (passed_same p q (line.Label name) e)
any_same names p q (Some (line.Stmt s) ∷ fs) e =
    both (foreign_same names p q (line.Stmt s) e) (any_same names (passed_stmt p s.op) (passed_stmt q s.op) fs (passed_same p q (line.Stmt s) e))
any_same names p q (Some (line.Case value label) ∷ fs) e = any_same names p q fs e
any_same names p q (Some line.CasesEnd ∷ fs) e = any_same names (passed_end p) (passed_end q) fs (passed_same p q line.CasesEnd e)

-- ---- numbers: a name that is not the next is misplaced

pub data Counted (n : ℕ) : Result ℕ ReadRefusal → Type 0 where
  Counts : (k : ℕ) → Counted n (Ok k)
  Miscounts : Counted n (Err (Misplaced n))

name_counted : (n next : ℕ) (name : List ℕ) → Counted n (after_name n next name)
unfolding after_name
name_counted n next name = here (is_unnamed name) (is_next next (number_of name)) where
  here : (a b : Bool) → Counted n (cond a (cond b (Ok (next + 1)) (Err (Misplaced n))) (Ok next))
  here true true = Counts (next + 1)
  here true false = Miscounts
  here false b = Counts next

result_counted : (n next : ℕ) (name : Option (List ℕ)) → Counted n (after_result n next name)
result_counted n next None = Counts next
result_counted n next (Some name) = name_counted n next name

param_counted : (n next : ℕ) (name : Option (List ℕ)) → Counted n (after_param n next name)
param_counted n next None = Counts (next + 1)
param_counted n next (Some name) = name_counted n next name

pub params_counted : (n next : ℕ) (ps : List Param) → Counted n (after_params n next ps)
params_counted n next [] = Counts next
params_counted n next (p ∷ ps) = here (after_param n next p.name) (param_counted n next p.name) (λ k. params_counted n k ps) where
  here : (r : Result ℕ ReadRefusal) → Counted n r → ((k : ℕ) → Counted n (after_params n k ps)) → Counted n (r >>= (λ after. after_params n after ps))
  here _ (Counts k) more = more k
  here _ Miscounts more = Miscounts

-- ---- what is found of a line

-- a line of a function that is outside the profile or not, after which `p` is the position where nothing is asked
pub data Found (n : ℕ) (p : Position) : Bool → Result Position ReadRefusal → Type 0 where
  Goes : (q : Position) → flow q ≡ flow p → Found n p false (Ok q)
  Fails : Found n p false (Err (Misplaced n))
  Leaves : Found n p true (Err (NotALine n))

counted_found : (n : ℕ) (p : Position) (r : Result ℕ ReadRefusal) (make : ℕ → Position) → Counted n r → ((k : ℕ) → flow (make k) ≡ flow p) → Found n p false (r >>= (λ k. Ok (make k)))
counted_found n p _ make (Counts k) e = Goes (make k) (e k)
counted_found n p _ make Miscounts e = Fails

label_found_at : (n next insts blocks : ℕ) (s : Spot) (name : List ℕ) → Found n (passed_label (at next insts blocks s)) false (after_label n (at next insts blocks s) name)
unfolding passed_label after_label
label_found_at n next insts blocks Between name = counted_found n _ (after_name n next name) (λ k. at k insts (blocks + 1) Front) (name_counted n next name) (λ k. refl)
label_found_at n next insts blocks Front name = Fails
label_found_at n next insts blocks After name = Fails
label_found_at n next insts blocks Cases name = Fails

pub label_found : (n : ℕ) (p : Position) (name : List ℕ) → Found n (passed_label p) false (after_label n p name)
label_found n p name = label_found_at n p.next p.insts p.blocks p.spot name

-- an instruction where none is among the cases of a switch
stmt_stands : (n : ℕ) (p b : Position) (m : Bool) (s : Stmt) →
    Found n (at p.next p.insts b.blocks (spot_after s.op)) false (cond m (after_result n b.next s.result >>= (λ k. Ok (at k (p.insts + 1) b.blocks (spot_after s.op)))) (Err (Misplaced n)))
stmt_stands n p b true s = counted_found n _ (after_result n b.next s.result) (λ k. at k (p.insts + 1) b.blocks (spot_after s.op)) (result_counted n b.next s.result) (λ k. refl)
stmt_stands n p b false s = Fails

stmt_found_at : (n next insts blocks : ℕ) (spot : Spot) (s : Stmt) → Found n (passed_stmt (at next insts blocks spot) s.op) false (after_stmt n (at next insts blocks spot) s)
unfolding passed_stmt after_stmt
stmt_found_at n next insts blocks Between s = stmt_stands n (at next insts blocks Between) (opened (at next insts blocks Between)) true s
stmt_found_at n next insts blocks Front s = stmt_stands n (at next insts blocks Front) (opened (at next insts blocks Front)) true s
stmt_found_at n next insts blocks After s = stmt_stands n (at next insts blocks After) (opened (at next insts blocks After)) (may_stand After s.op) s
stmt_found_at n next insts blocks Cases s = Fails

pub stmt_found : (names : List (List ℕ)) (n : ℕ) (p : Position) (s : Stmt) → Found n (passed_stmt p s.op) (is_outside names p s) (after_inst names n p s)
unfolding after_inst
stmt_found names n p s = here (is_outside names p s) where
  here : (b : Bool) → Found n (passed_stmt p s.op) b (cond b (Err (NotALine n)) (after_stmt n p s))
  here true = Leaves
  here false = stmt_found_at n p.next p.insts p.blocks p.spot s

pub case_found : (n : ℕ) (p : Position) → Found n p false (after_case n p)
unfolding after_case
case_found n p = here (is_cases p.spot) where
  here : (b : Bool) → Found n p false (cond b (Ok p) (Err (Misplaced n)))
  here true = Goes p refl
  here false = Fails

pub cases_found : (n : ℕ) (p : Position) → Found n (passed_end p) false (after_cases n p)
unfolding after_cases passed_end
cases_found n p = here (is_cases p.spot) where
  here : (b : Bool) → Found n (cond b (at p.next p.insts p.blocks Between) p) false (cond b (Ok (at p.next p.insts p.blocks Between)) (Err (Misplaced n)))
  here true = Goes (at p.next p.insts p.blocks Between) refl
  here false = Fails

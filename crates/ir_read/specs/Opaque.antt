-- Which functions are opaque: those that are kept as their lines are, as something in them is outside the profile.
--
-- A function is judged by its header and by the lines after that, up to its brace, which is the first line whose only token is `}`.
-- Whether such a line stands where it may is not asked: a line that is misplaced may still be followed by one that is outside the profile.
use Rattle.std.specs.Prelude.{◌≡◌, refl, ℕ, suc, ◌+◌, ◌-◌, Bool, true, false, ◌||◌, cond, Option, None, Some, List, [], ◌∷◌, ◌++◌, codes, drop, take}
use Rattle.ir_types.specs.declared.op.Op.{Op}
use Rattle.ir_draft.specs.declared.head.Head.{Head}
use Rattle.ir_draft.specs.declared.line.Line.{Line}
use Rattle.ir_draft.specs.declared.line.Line.TheVariants as line
use Rattle.ir_read.specs.declared.outlook.Outlook.{Outlook}
use Rattle.ir_read.specs.declared.position.Position.{Position}
use Rattle.ir_read.specs.declared.position.Spot.TheVariants.{Between, Front}
use Rattle.ir_read.specs.Position.{is_cases, spot_after, start, opened}
use Rattle.ir_read.specs.Function.{is_outside}

-- ---- where a line stands, whether or not it may

-- after a label: a block begins, but not among the cases of a switch
unfoldable pub passed_label : Position → Position
passed_label p = cond (is_cases p.spot) p (record { next = p.next; insts = p.insts; blocks = p.blocks + 1; spot = Front })

-- after an instruction, the same
unfoldable pub passed_stmt : Position → Op → Position
passed_stmt p op = cond (is_cases p.spot) p (record { next = p.next; insts = p.insts; blocks = (opened p).blocks; spot = spot_after op })

-- after the end of a switch, if one is open
unfoldable pub passed_end : Position → Position
passed_end p = cond (is_cases p.spot) (record { next = p.next; insts = p.insts; blocks = p.blocks; spot = Between }) p

-- after a line of this form; numbers are not counted on
abbrev pub passed_over : Position → Line → Position
passed_over p (line.Label name) = passed_label p
passed_over p (line.Stmt s) = passed_stmt p s.op
passed_over p line.CasesEnd = passed_end p
passed_over p _ = p

-- ---- lines outside the profile

-- whether a line of a function that stands here and has this form is outside the profile; no kept line and no header stands in a function
abbrev pub is_foreign_line : List (List ℕ) → Position → Line → Bool
is_foreign_line names p (line.Stmt s) = is_outside names p s
is_foreign_line names p (line.Kept kept) = true
is_foreign_line names p (line.Define name head) = true
is_foreign_line names p _ = false

-- whether one of these lines, up to the brace, is outside the profile; one without a form is
abbrev pub any_foreign : List (List ℕ) → Position → List (Option Line) → Bool
any_foreign names p [] = false
any_foreign names p (None ∷ fs) = true
any_foreign names p (Some line.Close ∷ fs) = false
any_foreign names p (Some form ∷ fs) = is_foreign_line names p form || any_foreign names (passed_over p form) fs

-- ---- functions

-- whether a header is outside the profile
abbrev pub is_headless : Option Head → Bool
is_headless None = true
is_headless (Some head) = false

-- whether the function with this header, after which lines of these forms stand, is opaque
unfoldable pub is_opaque : Outlook → Option Head → List (Option Line) → Bool
is_opaque known head fs = known.other_pointers || is_headless head || any_foreign known.names (start 0) fs

-- ---- what is kept of one

-- how many of these lines are of a function, its brace with them
abbrev pub to_brace : List (Option Line) → ℕ
to_brace [] = 0
to_brace (Some line.Close ∷ fs) = 1
to_brace (f ∷ fs) = suc (to_brace fs)

-- lines, each with a line feed before it
abbrev pub on_new_lines : List (List ℕ) → List ℕ
on_new_lines [] = []
on_new_lines (l ∷ ls) = 10 ∷ (l ++ on_new_lines ls)

-- lines with a line feed between each two
abbrev pub joined : List (List ℕ) → List ℕ
joined [] = []
joined (l ∷ ls) = l ++ on_new_lines ls

-- the text of a function whose header is the line n of these, and after which lines of these forms stand
unfoldable pub text_at : List (List ℕ) → ℕ → List (Option Line) → List ℕ
text_at ls n fs = joined (take (suc (to_brace fs)) (drop (n - 1) ls))

-- the function that begins in the second of four lines and ends in the third
two_of_four : text_at (codes "target" ∷ codes "define {" ∷ codes "}" ∷ codes "x" ∷ []) 2 (Some line.Close ∷ None ∷ []) ≡ codes "define {\n}"
unfolding text_at
two_of_four = refl

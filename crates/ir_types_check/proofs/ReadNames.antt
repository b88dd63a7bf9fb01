-- The names of a function that resolved: those that are written stand in its parameters, labels and results in order, and none twice.
use Rattle.std.proofs.Common.{◌≡◌, ℕ, zero, suc, ◌+◌, ◌/◌, ◌%◌, ◌<◌, ◌==◌, Bool, true, false, cond, if◌then◌else◌, List, [], ◌∷◌, ◌++◌, length, Option, Some, None, Ok, refl, sym, ◌∙◌, ap, subst, arith, bytes_eq, nat_lt, append_assoc}
use Rattle.std.proofs.lemmas.Bool.Decides.{nat_tests}
use Rattle.std.proofs.lemmas.Nat.{mod_below}
use Rattle.std.proofs.lemmas.List.{append-nil}
use Rattle.std.proofs.lemmas.List.Elements.{All-nil, All-cons, All-head, All-tail, All-push}
use Rattle.std.proofs.lemmas.List.Kept.{AllPairs-cons}
use Rattle.std.proofs.lemmas.Slice.Eq.{bytes_eq-Decides}
use Rattle.std.specs.Char.{is_ascii_digit}
use Rattle.std.specs.Fmt.{decimal, digits, digits_onto, digit_glyph}
use Rattle.std.specs.List.{All, AllPairs}
use Rattle.std.specs.Option.{is_some}
use Rattle.ir_types.specs.declared.inst.Inst.{Inst}
use Rattle.ir_types.specs.declared.func.Param.{Param}
use Rattle.ir_types.specs.declared.func.Block.{Block}
use Rattle.ir_draft.specs.declared.head.Head.{Head}
use Rattle.ir_draft.specs.declared.stmt.Stmt.{Stmt}
use Rattle.ir_draft.specs.declared.line.Line.{Line}
use Rattle.ir_draft.specs.declared.line.Line.TheVariants as line
use Rattle.ir_draft.specs.declared.draft.Numbered.{Numbered}
use Rattle.ir_types_check.specs.declared.outline.At.{At}
use Rattle.ir_types_check.specs.declared.locals.Meaning.{Meaning}
use Rattle.ir_types_check.specs.declared.locals.Meaning.TheVariants.{Value, Block as BlockMeaning}
use Rattle.ir_types_check.specs.declared.locals.Locals.{Locals}
use Rattle.ir_types_check.specs.declared.tops.Top.{Top}
use Rattle.ir_types_check.specs.declared.building.Built.{Built}
use Rattle.ir_types_check.specs.Scope.{Scope, meaning, define, of_function}
use Rattle.ir_types_check.specs.Outline.{is_number, written_name, written, param_name, opened, past_param, after_label, after_inst, start}
use Rattle.ir_types_check.specs.Locals.{with_name, with_param, with_params, with_label, with_opened, with_result, with_stmt, with_line, with_lines, locals_of}
use Rattle.ir_types_check.specs.Links.{linked, cases_of}
use Rattle.ir_types_check.specs.Blocks.{inst_of, closed, with_statement, built_line, built_lines, params_from}
use Rattle.ir_types_check.proofs.Binding.{bind_ok, ok, ok_is, cond_not, clash}
use Rattle.ir_types_check.proofs.ReadParts.{parts, built_parts, inst_built, label_built}

-- ---- lists of names

abbrev pub Unlike : List ℕ → List ℕ → Type 0
Unlike a b = a ≡ b → ⊥

-- no two are one
abbrev pub Apart : List (List ℕ) → Type 0
Apart names = AllPairs Unlike names

pub apart_none : Apart []
apart_none = λ i j d lt within. absurd (omega (arith, within))

apart_head : (x : List ℕ) (xs : List (List ℕ)) → Apart (x ∷ xs) → All (Unlike x) xs
apart_head x xs h = λ k d lt. h zero (suc k) d (omega arith) (omega (arith, lt))

apart_tail : (x : List ℕ) (xs : List (List ℕ)) → Apart (x ∷ xs) → Apart xs
apart_tail x xs h = λ i j d lt within. h (suc i) (suc j) d (omega (arith, lt)) (omega (arith, within))

pub apart_push : (xs : List (List ℕ)) (y : List ℕ) → Apart xs → All (λ x. Unlike x y) xs → Apart (xs ++ y ∷ [])
apart_push [] y h n = AllPairs-cons Unlike y [] (All-nil (Unlike y)) h
apart_push (x ∷ xs) y h n =
    AllPairs-cons Unlike x (xs ++ y ∷ []) (All-push (Unlike x) xs y (apart_head x xs h) (All-head (λ z. Unlike z y) x xs n))
    (apart_push xs y (apart_tail x xs h) (All-tail (λ z. Unlike z y) x xs n))

-- a name, if there is one, in front of others
abbrev pub onto : Option (List ℕ) → List (List ℕ) → List (List ℕ)
onto None names = names
onto (Some name) names = name ∷ names

-- the names that are no numbers
abbrev pub plain : List (List ℕ) → List (List ℕ)
plain [] = []
plain (k ∷ ks) = onto (written_name k) (plain ks)

all_plain : (P : List ℕ → Type 0) (ks : List (List ℕ)) → All P ks → All P (plain ks)
all_plain P [] h = h
all_plain P (k ∷ ks) h = here (is_number k) (all_plain P ks (All-tail P k ks h)) where
  here : (b : Bool) → All P (plain ks) → All P (onto (cond b None (Some k)) (plain ks))
  here true rest = rest
  here false rest = All-cons P k (plain ks) (All-head P k ks h) rest

pub plain_apart : (ks : List (List ℕ)) → Apart ks → Apart (plain ks)
plain_apart [] h = h
plain_apart (k ∷ ks) h = here (is_number k) (plain_apart ks (apart_tail k ks h)) where
  here : (b : Bool) → Apart (plain ks) → Apart (onto (cond b None (Some k)) (plain ks))
  here true rest = rest
  here false rest = AllPairs-cons Unlike k (plain ks) (all_plain (Unlike k) ks (apart_head k ks h)) rest

onto_append : (o : Option (List ℕ)) (xs ys : List (List ℕ)) → onto o (xs ++ ys) ≡ onto o xs ++ ys
onto_append None xs ys = refl
onto_append (Some name) xs ys = refl

plain_push : (ks : List (List ℕ)) (k : List ℕ) → plain (ks ++ k ∷ []) ≡ plain ks ++ onto (written_name k) []
plain_push [] k = refl
plain_push (j ∷ ks) k = ap (onto (written_name j)) (plain_push ks k) ∙ onto_append (written_name j) (plain ks) (onto (written_name k) [])

-- ---- scopes

module _ {M : Type 0} where
  abbrev pub keys : Scope M → List (List ℕ)
  keys [] = []
  keys (p ∷ scope) = p.0 ∷ keys scope

  keys_push : (scope : Scope M) (name : List ℕ) (m : M) → keys (scope ++ (name, m) ∷ []) ≡ keys scope ++ name ∷ []
  keys_push [] name m = refl
  keys_push (p ∷ scope) name m = ap (λ xs. p.0 ∷ xs) (keys_push scope name m)

  unknown : (name : List ℕ) (scope : Scope M) → is_some (meaning name scope) ≡ false → All (λ k. Unlike k name) (keys scope)
  unknown name [] e = All-nil (λ k. Unlike k name)
  unknown name (p ∷ scope) e = here (bytes_eq name p.0) refl (unknown name scope) e where
    here : (b : Bool) → bytes_eq name p.0 ≡ b → (is_some (meaning name scope) ≡ false → All (λ k. Unlike k name) (keys scope)) → is_some (cond b (Some p.1) (meaning name scope)) ≡ false → All (λ k. Unlike k name) (p.0 ∷ keys scope)
    here true s later e = clash e
    here false s later e = All-cons (λ k. Unlike k name) p.0 (keys scope) (λ same. clash (sym ((bytes_eq-Decides name p.0).1 (sym same)) ∙ s)) (later e)

  -- a name that is defined is the last of all, which are apart
  pub record Defined (scope after : Scope M) (name : List ℕ) : Type 0 where
    pub keys_are : keys after ≡ keys scope ++ name ∷ []
    pub apart : Apart (keys scope) → Apart (keys after)

  pub defined_keys : (n sigil : ℕ) (name : List ℕ) (m : M) (scope after : Scope M) → define n sigil name m scope ≡ Ok after → Defined scope after name
  unfolding define
  defined_keys n sigil name m scope after e =
      cond_not (is_some (meaning name scope)) _ _ after e (λ new is.
      subst (λ x. Defined scope x name) (ok_is is) (record {
        keys_are = keys_push scope name m;
        apart = λ h. subst Apart (sym (keys_push scope name m)) (apart_push (keys scope) name h (unknown name scope new));
      }))

-- ---- the names of a function

-- with these written names after
record Grown (l after : Locals) (new : List (List ℕ)) : Type 0 where
  apart : Apart (keys l.scope) → Apart (keys after.scope)
  names : plain (keys after.scope) ≡ plain (keys l.scope) ++ new

same : (l after : Locals) → keys after.scope ≡ keys l.scope → Grown l after []
same l after e = record { apart = subst Apart (sym e); names = ap plain e ∙ sym (append-nil (plain (keys l.scope))) }

further : (l m after : Locals) (new more : List (List ℕ)) → Grown l m new → Grown m after more → Grown l after (new ++ more)
further l m after new more g h = record {
  apart = λ a. h.apart (g.apart a);
  names = h.names ∙ ap (λ xs. xs ++ more) g.names ∙ append_assoc (plain (keys l.scope)) new more;
}

named : (n : ℕ) (l after : Locals) (name : List ℕ) (m : Meaning) (at : At) → with_name n l name m at ≡ Ok after → Grown l after (onto (written_name name) [])
unfolding with_name
named n l after name m at e =
    bind_ok (define n of_function name m l.scope) _ after e (λ scope was is.
    let d : Defined l.scope scope name = defined_keys n of_function name m l.scope scope was in
    let s : scope ≡ after.scope = ap (λ (x : Locals). x.scope) (ok_is is) in
    record { apart = λ a. subst (λ x. Apart (keys x)) s (d.apart a); names = sym (ap (λ x. plain (keys x)) s) ∙ ap plain d.keys_are ∙ plain_push (keys l.scope) name })

-- digits are a number
digit_in : (d : ℕ) → d < 10 → is_ascii_digit (48 + d) ≡ true
digit_in d h = grind (arith, nat_tests)

glyph : (n : ℕ) → is_ascii_digit (digit_glyph false (n % 10)) ≡ true
glyph n =
    let less : n % 10 < 10 = mod_below n 10 (omega arith) in
    let small : nat_lt (n % 10) 10 ≡ true = grind (arith, nat_tests) in
    rw small (digit_in (n % 10) less)

digits_number : (k n : ℕ) (acc : List ℕ) → is_number acc ≡ true → is_number (digits_onto k 10 false n acc) ≡ true
digits_number zero n acc h = h
digits_number (suc k) n acc h = here (n / 10 == 0) (digits_number k (n / 10) (digit_glyph false (n % 10) ∷ acc) (glyph n)) where
  here : (b : Bool) → is_number (digits_onto k 10 false (n / 10) (digit_glyph false (n % 10) ∷ acc)) ≡ true →
      is_number (if b then digit_glyph false (n % 10) ∷ acc else digits_onto k 10 false (n / 10) (digit_glyph false (n % 10) ∷ acc)) ≡ true
  here true later = glyph n
  here false later = later

first_number : (n : ℕ) → is_number (digits_onto (suc 63) 10 false n []) ≡ true
first_number n = here (n / 10 == 0) where
  here : (b : Bool) → is_number (if b then digit_glyph false (n % 10) ∷ [] else digits_onto 63 10 false (n / 10) (digit_glyph false (n % 10) ∷ [])) ≡ true
  here true = glyph n
  here false = digits_number 63 (n / 10) (digit_glyph false (n % 10) ∷ []) (glyph n)

decimal_number : (n : ℕ) → is_number (decimal n) ≡ true
unfolding digits
decimal_number n = first_number n

decimal_unwritten : (n : ℕ) → written_name (decimal n) ≡ None
decimal_unwritten n = ap (λ b. cond b None (Some (decimal n))) (decimal_number n)

-- what is written of parameters
abbrev pub param_names : List Param → List (List ℕ)
param_names [] = []
param_names (p ∷ ps) = onto (written p.name) (param_names ps)

param_written : (next : ℕ) (name : Option (List ℕ)) → written_name (param_name next name) ≡ written name
param_written next None = decimal_unwritten next
param_written next (Some name) = refl

params_grown : (n : ℕ) (l after : Locals) (ps : List Param) → with_params n l ps ≡ Ok after → Grown l after (param_names ps)
unfolding with_param
params_grown n l after [] e = same l after (ap (λ (x : Locals). keys x.scope) (sym (ok_is e)))
params_grown n l after (p ∷ ps) e =
    bind_ok (with_param n l p) _ after e (λ m was now.
    let g : Grown l m (onto (written_name (param_name l.at.next p.name)) []) = named n l m (param_name l.at.next p.name) (Value l.at.place p.ty) (past_param l.at p) was in
    let h : Grown m after (param_names ps) = params_grown n m after ps now in
    subst (Grown l after) (sym (onto_append (written p.name) [] (param_names ps)))
    (further l m after (onto (written p.name) []) (param_names ps) (subst (λ o. Grown l m (onto o [])) (param_written l.at.next p.name) g) h))

-- what is written of a body
abbrev pub line_names : Line → List (List ℕ)
line_names (line.Label name) = onto (written_name name) []
line_names (line.Stmt s) = onto (written s.result) []
line_names _ = []

abbrev pub body_names : List Numbered → List (List ℕ)
body_names [] = []
body_names (x ∷ xs) = line_names x.form ++ body_names xs

opened_grown : (n : ℕ) (l after : Locals) → with_opened n l ≡ Ok after → Grown l after []
unfolding with_opened
opened_grown n l after e = here l.at.is_open e where
  here : (b : Bool) → cond b (ok l) (with_name n l (decimal l.at.next) (BlockMeaning l.at.blocks) (opened l.at)) ≡ Ok after → Grown l after []
  here true e = same l after (ap (λ (x : Locals). keys x.scope) (sym (ok_is e)))
  here false e = subst (λ o. Grown l after (onto o [])) (decimal_unwritten l.at.next) (named n l after (decimal l.at.next) (BlockMeaning l.at.blocks) (opened l.at) e)

result_grown : (n : ℕ) (l after : Locals) (s : Stmt) (r : Option (List ℕ)) → with_result n l s r ≡ Ok after → Grown l after (onto (written r) [])
result_grown n l after s None e = same l after (ap (λ (x : Locals). keys x.scope) (sym (ok_is e)))
result_grown n l after s (Some name) e = named n l after name (Value l.at.place s.ty) (after_inst l.at s) e

line_grown : (n : ℕ) (l after : Locals) (form : Line) → with_line n l form ≡ Ok after → Grown l after (line_names form)
unfolding with_label with_stmt
line_grown n l after (line.Label name) e = named n l after name (BlockMeaning l.at.blocks) (after_label l.at name) e
line_grown n l after (line.Stmt s) e =
    bind_ok (with_opened n l) _ after e (λ o was now. further l o after [] (onto (written s.result) []) (opened_grown n l o was) (result_grown n o after s s.result now))
line_grown n l after line.Empty e = same l after (ap (λ (x : Locals). keys x.scope) (sym (ok_is e)))
line_grown n l after (line.Kept kept) e = same l after (ap (λ (x : Locals). keys x.scope) (sym (ok_is e)))
line_grown n l after (line.Define name head) e = same l after (ap (λ (x : Locals). keys x.scope) (sym (ok_is e)))
line_grown n l after line.Close e = same l after (ap (λ (x : Locals). keys x.scope) (sym (ok_is e)))
line_grown n l after (line.Case value label) e = same l after (ap (λ (x : Locals). keys x.scope) (sym (ok_is e)))
line_grown n l after line.CasesEnd e = same l after (ap (λ (x : Locals). keys x.scope) (sym (ok_is e)))

lines_grown : (l after : Locals) (body : List Numbered) → with_lines l body ≡ Ok after → Grown l after (body_names body)
lines_grown l after [] e = same l after (ap (λ (x : Locals). keys x.scope) (sym (ok_is e)))
lines_grown l after (x ∷ xs) e =
    bind_ok (with_line x.line l x.form) _ after e (λ m was now. further l m after (line_names x.form) (body_names xs) (line_grown x.line l m x.form was) (lines_grown m after xs now))

-- the names that a function writes are apart
locals_apart : (n : ℕ) (head : Head) (body : List Numbered) (l : Locals) → locals_of n head body ≡ Ok l → Apart (param_names head.params ++ body_names body)
unfolding locals_of
locals_apart n head body l e =
    let first : Locals = record { scope = []; at = start } in
    bind_ok (with_params n first head.params) _ l e (λ m was now.
    let g : Grown first l (param_names head.params ++ body_names body) =
    further first m l (param_names head.params) (body_names body) (params_grown n first m head.params was) (lines_grown m l body now) in
    subst Apart g.names (plain_apart (keys l.scope) (g.apart apart_none)))

-- ---- what is built

abbrev pub name_part : Option (List ℕ) → List (List ℕ)
name_part name = onto name []

abbrev pub result_part : Inst → List (List ℕ)
result_part i = onto i.name []

-- the names of labels and results in blocks, in order
abbrev pub block_names : List Block → List (List ℕ)
block_names blocks = parts name_part result_part blocks

-- the names of parameters of a module
abbrev pub given_names : List Param → List (List ℕ)
given_names [] = []
given_names (p ∷ ps) = onto p.name (given_names ps)

params_kept : (k : ℕ) (ps : List Param) → given_names (params_from k ps) ≡ param_names ps
params_kept k [] = refl
params_kept k (p ∷ ps) = ap (onto (written p.name)) (params_kept (k + 1) ps)

module _ (tops : Scope Top) (locals : Scope Meaning) (base : ℕ) where
  inst_name : (k n : ℕ) (s : Stmt) (rest : List Numbered) (inst : Inst) → inst_of tops locals base k n s rest ≡ Ok inst → inst.name ≡ written s.result
  unfolding inst_of
  inst_name k n s rest inst e =
      bind_ok (linked tops locals base n s) _ inst e (λ l _ now.
      bind_ok (cases_of locals s.op rest) _ inst now (λ c _ is. sym (ap (λ (x : Inst). x.name) (ok_is is))))

  abbrev NamedWith : Built → List (List ℕ) → Built → Type 0
  NamedWith b new after = built_parts name_part result_part after ≡ built_parts name_part result_part b ++ new

  unnamed : (b after : Built) → b ≡ after → NamedWith b [] after
  unnamed b after e = ap (built_parts name_part result_part) (sym e) ∙ sym (append-nil (built_parts name_part result_part b))

  line_named : (n : ℕ) (b after : Built) (form : Line) (rest : List Numbered) → built_line tops locals base n b form rest ≡ Ok after → NamedWith b (line_names form) after
  unfolding with_statement
  line_named n b after (line.Label name) rest e = subst (NamedWith b (onto (written_name name) [])) (ok_is e) (label_built name_part result_part b name)
  line_named n b after (line.Stmt s) rest e =
      bind_ok (inst_of tops locals base (length b.lines) n s rest) _ after e (λ inst was now.
      subst (NamedWith b (onto (written s.result) [])) (ok_is now)
      (inst_built name_part result_part n b inst refl ∙ ap (λ o. built_parts name_part result_part b ++ onto o []) (inst_name (length b.lines) n s rest inst was)))
  line_named n b after line.Empty rest e = unnamed b after (ok_is e)
  line_named n b after (line.Kept kept) rest e = unnamed b after (ok_is e)
  line_named n b after (line.Define name head) rest e = unnamed b after (ok_is e)
  line_named n b after line.Close rest e = unnamed b after (ok_is e)
  line_named n b after (line.Case value label) rest e = unnamed b after (ok_is e)
  line_named n b after line.CasesEnd rest e = unnamed b after (ok_is e)

  lines_named : (b after : Built) (body : List Numbered) → built_lines tops locals base b body ≡ Ok after → NamedWith b (body_names body) after
  lines_named b after [] e = unnamed b after (ok_is e)
  lines_named b after (x ∷ xs) e =
      bind_ok (built_line tops locals base x.line b x.form xs) _ after e (λ m was now.
      lines_named m after xs now ∙ ap (λ names. names ++ body_names xs) (line_named x.line b m x.form xs was)
      ∙ append_assoc (built_parts name_part result_part b) (line_names x.form) (body_names xs))

  -- the names of a function that resolved are apart
  pub names_apart : (n k : ℕ) (head : Head) (body : List Numbered) (l : Locals) (lines : List ℕ) (after : Built) → locals_of n head body ≡ Ok l →
      built_lines tops locals base (record { blocks = []; current = None; lines = lines }) body ≡ Ok after → Apart (given_names (params_from k head.params) ++ block_names (closed after.blocks after.current))
  names_apart n k head body l lines after known built =
      let blocks : block_names (closed after.blocks after.current) ≡ body_names body = lines_named (record { blocks = []; current = None; lines = lines }) after body built in
      subst Apart (sym (ap (λ names. names ++ block_names (closed after.blocks after.current)) (params_kept k head.params) ∙ ap (λ names. param_names head.params ++ names) blocks)) (locals_apart n head body l known)

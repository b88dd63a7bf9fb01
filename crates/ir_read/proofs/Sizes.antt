-- A draft that was read has the size that its items have; so it is within the limits exactly where they are.
use Rattle.std.proofs.Common.{◌≡◌, ℕ, ◌+◌, Bool, true, false, cond, List, [], ◌∷◌, ◌++◌, length, max, Option, Some, None, Result, Ok, Err, refl, sym, ◌∙◌, ap, subst, arith}
use Rattle.ir_draft.specs.declared.head.Head.{Head}
use Rattle.ir_draft.specs.declared.line.Line.{Line}
use Rattle.ir_draft.specs.declared.line.Line.TheVariants as line
use Rattle.ir_draft.specs.declared.draft.Draft.{Draft}
use Rattle.ir_draft.specs.declared.draft.Numbered.{Numbered}
use Rattle.ir_draft.specs.declared.draft.DraftItem.{DraftItem}
use Rattle.ir_draft.specs.declared.draft.DraftItem.TheVariants as item
use Rattle.ir_read.specs.declared.outlook.Outlook.{Outlook}
use Rattle.ir_read.specs.declared.open_function.OpenFunction.{OpenFunction as Open}
use Rattle.ir_read.specs.declared.position.Position.{Position}
use Rattle.ir_read.specs.declared.position.Spot.TheVariants.{Front}
use Rattle.ir_read.specs.declared.progress.Done.{Done}
use Rattle.ir_read.specs.declared.refusal.Limit.{Limit}
use Rattle.ir_read.specs.declared.refusal.ReadRefusal.{ReadRefusal}
use Rattle.ir_read.specs.declared.size.Size.{Size}
use Rattle.ir_read.specs.Answers.{◌>>=◌}
use Rattle.ir_read.specs.Numbers.{after_name, after_result, after_params}
use Rattle.ir_read.specs.Position.{is_between, is_cases, may_stand, spot_after, start, opened, after_label, after_stmt, after_case, after_cases, at_close}
use Rattle.ir_read.specs.Function.{is_outside, after_inst, opened_by, with_line}
use Rattle.ir_read.specs.Limits.{no_size, with_function, passed}
use Rattle.ir_read.specs.Sizes.{insts_at, insts_in, blocks_at, between_after, blocks_in, sized, sized_all, size_of}
use Rattle.ir_read.specs.Lines.{lines_of}
use Rattle.ir_read.specs.Faults.{first_fault, unless}
use Rattle.ir_read.specs.Forms.{forms_of}
use Rattle.ir_read.specs.Outlook.{outlook_of}
use Rattle.ir_read.specs.Items.{closed_items, items_from, IsItems}
use Rattle.ir_read.specs.Opaque.{is_opaque, text_at}
use Rattle.ir_read.specs.Draft.{Opened, Nothing, Profile, Passing, Reading, nothing_done, between, going_on, passing, with_kept, with_opaque, closed, line_inside, header_line, function_line, line_outside, line_passed, step_in, step, within, ended, read_from, draft_of}
use Rattle.ir_read.specs.Bodies.{numbered_from}
use Rattle.ir_read.proofs.ItemsRead.{draft_items}
use Rattle.ir_read.proofs.Placing.{body_lines}

bind_ok : {A B P : Type 0} (r : Result A ReadRefusal) (f : A → Result B ReadRefusal) (y : B) → (r >>= f) ≡ Ok y → ((x : A) → r ≡ Ok x → f x ≡ Ok y → P) → P
bind_ok (Ok x) f y e k = k x refl e
bind_ok (Err refusal) f y e k = cc

abbrev ok : {A : Type 0} → A → Result A ReadRefusal
ok x = Ok x

ok_is : {A : Type 0} {x y : A} → ok x ≡ ok y → x ≡ y
ok_is e = cc

refused : {A P : Type 0} {refusal : ReadRefusal} {y : A} → Err refusal ≡ Ok y → P
refused e = cc

cond_ok : {A P : Type 0} (b : Bool) (r : Result A ReadRefusal) (refusal : ReadRefusal) (y : A) → cond b r (Err refusal) ≡ Ok y → (b ≡ true → r ≡ Ok y → P) → P
cond_ok true r refusal y e k = k refl e
cond_ok false r refusal y e k = refused e

cond_not : {A P : Type 0} (b : Bool) (r : Result A ReadRefusal) (refusal : ReadRefusal) (y : A) → cond b (Err refusal) r ≡ Ok y → (b ≡ false → r ≡ Ok y → P) → P
cond_not true r refusal y e k = refused e
cond_not false r refusal y e k = k refl e

-- ---- with one more line, or item

insts_push : (xs : List Numbered) (x : Numbered) → insts_in (xs ++ x ∷ []) ≡ insts_in xs + insts_at x.form
insts_push [] x = omega arith
insts_push (y ∷ xs) x = let more : insts_in (xs ++ x ∷ []) ≡ insts_in xs + insts_at x.form = insts_push xs x in omega (arith, more)

abbrev between_all : Bool → List Numbered → Bool
between_all b [] = b
between_all b (x ∷ xs) = between_all (between_after b x.form) xs

between_push : (b : Bool) (xs : List Numbered) (x : Numbered) → between_all b (xs ++ x ∷ []) ≡ between_after (between_all b xs) x.form
between_push b [] x = refl
between_push b (y ∷ xs) x = between_push (between_after b y.form) xs x

blocks_push : (b : Bool) (xs : List Numbered) (x : Numbered) → blocks_in b (xs ++ x ∷ []) ≡ blocks_in b xs + blocks_at (between_all b xs) x.form
blocks_push b [] x = omega arith
blocks_push b (y ∷ xs) x =
    let more : blocks_in (between_after b y.form) (xs ++ x ∷ []) ≡ blocks_in (between_after b y.form) xs + blocks_at (between_all (between_after b y.form) xs) x.form = blocks_push (between_after b y.form) xs x in
    omega (arith, more)

sized_push : (s : Size) (xs : List DraftItem) (x : DraftItem) → sized_all s (xs ++ x ∷ []) ≡ sized (sized_all s xs) x
sized_push s [] x = refl
sized_push s (y ∷ xs) x = sized_push (sized s y) xs x

-- a name for other crates
abbrev pub TextSize : Type 0
TextSize = Size

-- ---- what was read is counted

record IsCounted (o : Open) : Type 0 where
  insts_are : o.at.insts ≡ insts_in o.body
  blocks_are : o.at.blocks ≡ blocks_in true o.body
  between_is : is_between o.at.spot ≡ between_all true o.body

abbrev IsOpened : Opened → Type 0
IsOpened Nothing = Unit {0}
IsOpened (Profile o) = IsCounted o
IsOpened Passing = Unit {0}

record Going (read : Reading) : Type 0 where
  done : read.done.size ≡ size_of read.done.items
  current : IsOpened read.current

opened_blocks : (p : Position) → (opened p).blocks ≡ p.blocks + cond (is_between p.spot) 1 0
unfolding opened
opened_blocks p = go (is_between p.spot) where
  go : (b : Bool) → (cond b (record { next = p.next + 1; insts = p.insts; blocks = p.blocks + 1; spot = Front }) p).blocks ≡ p.blocks + cond b 1 0
  go true = refl
  go false = omega arith

grown : (done : Done) (o : Open) (n : ℕ) (form : Line) (q : Position) → done.size ≡ size_of done.items → IsCounted o → q.insts ≡ o.at.insts + insts_at form → q.blocks ≡ o.at.blocks + blocks_at (is_between o.at.spot) form →
    is_between q.spot ≡ between_after (is_between o.at.spot) form → Going (going_on done (with_line o n form q))
unfolding with_line
grown done o n form q d h i b s =
    let one : insts_in (o.body ++ record { line = n; form = form } ∷ []) ≡ insts_in o.body + insts_at form = insts_push o.body (record { line = n; form = form }) in
    let two : blocks_in true (o.body ++ record { line = n; form = form } ∷ []) ≡ blocks_in true o.body + blocks_at (between_all true o.body) form = blocks_push true o.body (record { line = n; form = form }) in
    let same : blocks_at (is_between o.at.spot) form ≡ blocks_at (between_all true o.body) form = ap (λ t. blocks_at t form) h.between_is in
    record {
      done = d;
      current = record {
        insts_are = omega (arith, one, i, h.insts_are);
        blocks_are = omega (arith, two, b, h.blocks_are, same);
        between_is = s ∙ ap (λ t. between_after t form) h.between_is ∙ sym (between_push true o.body (record { line = n; form = form }));
      };
    }

closed_size : (done : Done) (o : Open) → done.size ≡ size_of done.items → IsCounted o → with_function done.size o ≡ size_of (done.items ++ item.Func o.line o.head o.body ∷ [])
unfolding with_function
closed_size done o d h =
    ap (λ k. record { insts = done.size.insts + k; values = max done.size.values (length o.head.params + k); blocks = max done.size.blocks o.at.blocks }) h.insts_are
    ∙ ap (λ k. record { insts = done.size.insts + insts_in o.body; values = max done.size.values (length o.head.params + insts_in o.body); blocks = max done.size.blocks k }) h.blocks_are
    ∙ ap (λ (s : Size). sized s (item.Func o.line o.head o.body)) d
    ∙ sym (sized_push no_size done.items (item.Func o.line o.head o.body))

inside_line : (known : Outlook) (n : ℕ) (done : Done) (o : Open) (form : Line) (after : Reading) → done.size ≡ size_of done.items → IsCounted o → line_inside known n done o form ≡ Ok after → Going after
unfolding line_inside closed after_inst after_label after_stmt after_case after_cases at_close
inside_line known n done o line.Empty after d h e = subst Going (ok_is e) (record { done = d; current = h })
inside_line known n done o (line.Kept kept) after d h e = refused e
inside_line known n done o (line.Define name head) after d h e = refused e
inside_line known n done o line.Close after d h e =
    bind_ok (at_close n o.at) _ after e (λ p was now.
    subst Going (ok_is now) (record { done = closed_size done o d h; current = tt }))
inside_line known n done o (line.Label name) after d h e =
    bind_ok (after_label n o.at name) _ after e (λ q was now.
    cond_ok (is_between o.at.spot) _ _ q was (λ b then'.
    bind_ok (after_name n o.at.next name) _ q then' (λ next taken same.
    subst Going (ok_is now) (grown done o n (line.Label name) q d h (ap (λ (x : Position). x.insts) (sym (ok_is same)) ∙ omega arith) (ap (λ (x : Position). x.blocks) (sym (ok_is same))) (ap (λ (x : Position). is_between x.spot) (sym (ok_is same)))))))
inside_line known n done o (line.Stmt x) after d h e =
    bind_ok (after_inst known.names n o.at x) _ after e (λ q was now.
    cond_not (is_outside known.names o.at x) _ _ q was (λ b then'.
    cond_ok (may_stand o.at.spot x.op) _ _ q then' (λ m more.
    bind_ok (after_result n (opened o.at).next x.result) _ q more (λ next taken same.
    subst Going (ok_is now) (grown done o n (line.Stmt x) q d h (ap (λ (y : Position). y.insts) (sym (ok_is same))) (ap (λ (y : Position). y.blocks) (sym (ok_is same)) ∙ opened_blocks o.at) (ap (λ (y : Position). is_between y.spot) (sym (ok_is same))))))))
inside_line known n done o (line.Case value label) after d h e =
    bind_ok (after_case n o.at) _ after e (λ q was now.
    cond_ok (is_cases o.at.spot) (Ok o.at) _ q was (λ b same.
    subst Going (ok_is now) (grown done o n (line.Case value label) q d h (ap (λ (x : Position). x.insts) (sym (ok_is same)) ∙ omega arith) (ap (λ (x : Position). x.blocks) (sym (ok_is same)) ∙ omega arith) (ap (λ (x : Position). is_between x.spot) (sym (ok_is same))))))
inside_line known n done o line.CasesEnd after d h e =
    bind_ok (after_cases n o.at) _ after e (λ q was now.
    cond_ok (is_cases o.at.spot) _ _ q was (λ b same.
    subst Going (ok_is now) (grown done o n line.CasesEnd q d h (ap (λ (x : Position). x.insts) (sym (ok_is same)) ∙ omega arith) (ap (λ (x : Position). x.blocks) (sym (ok_is same)) ∙ omega arith) (ap (λ (x : Position). is_between x.spot) (sym (ok_is same))))))

kept_size : (done : Done) (x : DraftItem) → done.size ≡ size_of done.items → sized (size_of done.items) x ≡ size_of done.items → done.size ≡ size_of (done.items ++ x ∷ [])
kept_size done x d e = d ∙ sym e ∙ sym (sized_push no_size done.items x)

header : (known : Outlook) (ls : List (List ℕ)) (n : ℕ) (fs : List (Option Line)) (done : Done) (name : Option (List ℕ)) (head : Option Head) (after : Reading) → done.size ≡ size_of done.items → function_line known ls n fs done name head ≡ Ok after → Going after
unfolding function_line header_line opened_by with_opaque
header known ls n fs done name head after d e = go (is_opaque known head fs) head e where
  go : (b : Bool) (head : Option Head) → cond b (Ok (passing (with_opaque done n name (text_at ls n fs)))) (header_line n done head) ≡ Ok after → Going after
  go true head e = subst Going (ok_is e) (record { done = kept_size done (item.Opaque n name (text_at ls n fs)) d refl; current = tt })
  go false None e = refused e
  go false (Some head) e =
      bind_ok (opened_by n head) _ after e (λ o was now.
      bind_ok (after_params n 0 head.params) _ o was (λ next _ same.
      let g : Going (going_on done (record { line = n; head = head; body = []; at = start next })) = record { done = d; current = record { insts_are = refl; blocks_are = refl; between_is = refl } } in
      subst Going (ap (going_on done) (ok_is same) ∙ ok_is now) g))

outside_line : (known : Outlook) (ls : List (List ℕ)) (n : ℕ) (fs : List (Option Line)) (done : Done) (form : Line) (after : Reading) → done.size ≡ size_of done.items → line_outside known ls n fs done form ≡ Ok after → Going after
unfolding with_kept
outside_line known ls n fs done line.Empty after d e = subst Going (ok_is e) (record { done = d; current = tt })
outside_line known ls n fs done (line.Kept kept) after d e = subst Going (ok_is e) (record { done = kept_size done (item.Kept n kept) d refl; current = tt })
outside_line known ls n fs done (line.Define name head) after d e = header known ls n fs done name head after d e
outside_line known ls n fs done line.Close after d e = refused e
outside_line known ls n fs done (line.Label name) after d e = refused e
outside_line known ls n fs done (line.Stmt x) after d e = refused e
outside_line known ls n fs done (line.Case value label) after d e = refused e
outside_line known ls n fs done line.CasesEnd after d e = refused e

passed_line : (done : Done) (f : Option Line) → done.size ≡ size_of done.items → Going (line_passed done f)
passed_line done None d = record { done = d; current = tt }
passed_line done (Some line.Close) d = record { done = d; current = tt }
passed_line done (Some line.Empty) d = record { done = d; current = tt }
passed_line done (Some (line.Kept kept)) d = record { done = d; current = tt }
passed_line done (Some (line.Define name head)) d = record { done = d; current = tt }
passed_line done (Some (line.Label name)) d = record { done = d; current = tt }
passed_line done (Some (line.Stmt s)) d = record { done = d; current = tt }
passed_line done (Some (line.Case value label)) d = record { done = d; current = tt }
passed_line done (Some line.CasesEnd) d = record { done = d; current = tt }

stepped : (known : Outlook) (ls : List (List ℕ)) (n : ℕ) (fs : List (Option Line)) (read : Reading) (f : Option Line) (after : Reading) → Going read → step known ls n fs read f ≡ Ok after → Going after
stepped known ls n fs read f after g e = go read.current f g.current e where
  go : (current : Opened) (f : Option Line) → IsOpened current → step_in known ls n fs read.done current f ≡ Ok after → Going after
  go Passing f o e = subst Going (ok_is e) (passed_line read.done f g.done)
  go Nothing (Some form) o e = outside_line known ls n fs read.done form after g.done e
  go (Profile q) (Some form) o e = inside_line known n read.done q form after g.done o e
  go Nothing None o e = refused e
  go (Profile q) None o e = refused e

-- ---- the text

-- what is read of lines that are items is these, unless they pass a limit
read_sized : (known : Outlook) (ls : List (List ℕ)) (n : ℕ) (read : Reading) (fs : List (Option Line)) (xs : List DraftItem) → Going read → items_from known ls n read fs ≡ Ok xs →
    read_from known ls n read fs ≡ within (record { items = xs; size = size_of xs }) (passed (size_of xs))
read_sized known ls n read [] xs g e = go read.current e where
  alike : (limit : Option Limit) (a b : Done) → a.items ≡ b.items → within a limit ≡ within b limit
  alike None a b same = ap (λ (is : List DraftItem). Ok (record { items = is })) same
  alike (Some which) a b same = refl

  go : (current : Opened) → closed_items n read.done current ≡ Ok xs → ended n read.done current ≡ within (record { items = xs; size = size_of xs }) (passed (size_of xs))
  go Nothing e =
      let same : read.done.items ≡ xs = ok_is e in
      let size : read.done.size ≡ size_of xs = g.done ∙ ap size_of same in
      ap (λ s. within read.done (passed s)) size ∙ alike (passed (size_of xs)) read.done (record { items = xs; size = size_of xs }) same
  go (Profile o) e = refused e
  go Passing e = refused e
read_sized known ls n read (f ∷ fs) xs g e =
    bind_ok (step known ls n fs read f) _ xs e (λ after was now.
    ap (λ (r : Result Reading ReadRefusal). r >>= (λ after. read_from known ls (n + 1) after fs)) was ∙ read_sized known ls (n + 1) after fs xs (stepped known ls n fs read f after g was) now)

unless_none : (o : Option ReadRefusal) (a : Outlook) → o ≡ None → unless o a ≡ Ok a
unless_none None a e = refl
unless_none (Some x) a e = cc

-- the draft of a text that is items: these, unless they pass a limit
pub items_sized : (bytes : List ℕ) (xs : List DraftItem) → IsItems bytes xs → draft_of bytes ≡ within (record { items = xs; size = size_of xs }) (passed (size_of xs))
items_sized bytes xs is =
    let first : Going (between nothing_done) = record { done = refl; current = tt } in
    ap (λ (r : Result Outlook ReadRefusal). r >>= (λ known. read_from known (lines_of bytes) 1 (between nothing_done) (forms_of (lines_of bytes)))) (unless_none (first_fault 1 (lines_of bytes)) (outlook_of (forms_of (lines_of bytes))) is.sound)
    ∙ read_sized (outlook_of (forms_of (lines_of bytes))) (lines_of bytes) 1 (between nothing_done) (forms_of (lines_of bytes)) xs first is.placed

-- a text that is items within the limits is their draft
pub sized_draft : (bytes : List ℕ) (xs : List DraftItem) → IsItems bytes xs → passed (size_of xs) ≡ None → draft_of bytes ≡ Ok (record { items = xs })
sized_draft bytes xs is e = items_sized bytes xs is ∙ ap (within (record { items = xs; size = size_of xs })) e

-- and a draft is within them
pub draft_sized : (bytes : List ℕ) (d : Draft) → draft_of bytes ≡ Ok d → passed (size_of d.items) ≡ None
draft_sized bytes d e = go (passed (size_of d.items)) (sym (items_sized bytes d.items (draft_items bytes d e)) ∙ e) where
  go : (limit : Option Limit) → within (record { items = d.items; size = size_of d.items }) limit ≡ Ok d → limit ≡ None
  go None e = refl
  go (Some which) e = refused e

-- ---- the lines of one body

-- lines that stand where they may, by the positions before and after them
pub record BodySized (p q : Position) (xs : List Numbered) : Type 0 where
  pub insts : q.insts ≡ p.insts + insts_in xs
  pub blocks : q.blocks ≡ p.blocks + blocks_in (is_between p.spot) xs

sized_more : (p r q : Position) (n : ℕ) (form : Line) (xs : List Numbered) → r.insts ≡ p.insts + insts_at form → r.blocks ≡ p.blocks + blocks_at (is_between p.spot) form → is_between r.spot ≡ between_after (is_between p.spot) form → BodySized r q xs → BodySized p q (record { line = n; form = form } ∷ xs)
sized_more p r q n form xs i b s h =
    let one : q.insts ≡ r.insts + insts_in xs = h.insts in
    let two : q.blocks ≡ r.blocks + blocks_in (between_after (is_between p.spot) form) xs = h.blocks ∙ ap (λ t. r.blocks + blocks_in t xs) s in
    record { insts = omega (arith, i, one); blocks = omega (arith, b, two) }

pub body_sized : (names : List (List ℕ)) (n : ℕ) (p q : Position) (fs : List Line) → body_lines names n p fs ≡ Ok q → BodySized p q (numbered_from n fs)
unfolding after_inst after_label after_stmt after_case after_cases
body_sized names n p q [] e = let same : p ≡ q = ok_is e in record { insts = ap (λ (x : Position). x.insts) (sym same) ∙ omega arith; blocks = ap (λ (x : Position). x.blocks) (sym same) ∙ omega arith }
body_sized names n p q (line.Empty ∷ fs) e = body_sized names (n + 1) p q fs e
body_sized names n p q (line.Kept kept ∷ fs) e = refused e
body_sized names n p q (line.Define name head ∷ fs) e = refused e
body_sized names n p q (line.Close ∷ fs) e = refused e
body_sized names n p q (line.Label name ∷ fs) e =
    bind_ok (after_label n p name) _ q e (λ r was now.
    cond_ok (is_between p.spot) _ _ r was (λ b then'.
    bind_ok (after_name n p.next name) _ r then' (λ next taken same.
    sized_more p r q n (line.Label name) (numbered_from (n + 1) fs) (ap (λ (x : Position). x.insts) (sym (ok_is same)) ∙ omega arith) (ap (λ (x : Position). x.blocks) (sym (ok_is same))) (ap (λ (x : Position). is_between x.spot) (sym (ok_is same)))
    (body_sized names (n + 1) r q fs now))))
body_sized names n p q (line.Stmt x ∷ fs) e =
    bind_ok (after_inst names n p x) _ q e (λ r was now.
    cond_not (is_outside names p x) _ _ r was (λ b then'.
    cond_ok (may_stand p.spot x.op) _ _ r then' (λ m more.
    bind_ok (after_result n (opened p).next x.result) _ r more (λ next taken same.
    sized_more p r q n (line.Stmt x) (numbered_from (n + 1) fs) (ap (λ (y : Position). y.insts) (sym (ok_is same))) (ap (λ (y : Position). y.blocks) (sym (ok_is same)) ∙ opened_blocks p) (ap (λ (y : Position). is_between y.spot) (sym (ok_is same)))
    (body_sized names (n + 1) r q fs now)))))
body_sized names n p q (line.Case value label ∷ fs) e =
    bind_ok (after_case n p) _ q e (λ r was now.
    cond_ok (is_cases p.spot) (Ok p) _ r was (λ b same.
    sized_more p r q n (line.Case value label) (numbered_from (n + 1) fs) (ap (λ (x : Position). x.insts) (sym (ok_is same)) ∙ omega arith) (ap (λ (x : Position). x.blocks) (sym (ok_is same)) ∙ omega arith) (ap (λ (x : Position). is_between x.spot) (sym (ok_is same)))
    (body_sized names (n + 1) r q fs now)))
body_sized names n p q (line.CasesEnd ∷ fs) e =
    bind_ok (after_cases n p) _ q e (λ r was now.
    cond_ok (is_cases p.spot) _ _ r was (λ b same.
    sized_more p r q n line.CasesEnd (numbered_from (n + 1) fs) (ap (λ (x : Position). x.insts) (sym (ok_is same)) ∙ omega arith) (ap (λ (x : Position). x.blocks) (sym (ok_is same)) ∙ omega arith) (ap (λ (x : Position). is_between x.spot) (sym (ok_is same)))
    (body_sized names (n + 1) r q fs now)))

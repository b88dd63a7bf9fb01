-- Kept lines, empty lines and whole functions as items: what is read after each of them.
use Rattle.std.proofs.Common.{◌≡◌, ℕ, suc, ◌+◌, true, false, List, [], ◌∷◌, ◌++◌, length, map, Option, None, Some, Result, Ok, Err, nat_eq, refl, sym, ◌∙◌, ap, subst, arith}
use Rattle.std.proofs.lemmas.List.{append_assoc, append-nil}
use Rattle.std.proofs.lemmas.List.Elements.{All-head, All-tail}
use Rattle.std.specs.List.{All}
use Rattle.ir_draft.specs.declared.line.Line.{Line}
use Rattle.ir_draft.specs.declared.line.Line.TheVariants as form
use Rattle.ir_draft.specs.declared.head.Head.{Head}
use Rattle.ir_draft.specs.declared.kept.Kept.{Kept}
use Rattle.ir_draft.specs.declared.draft.Numbered.{Numbered}
use Rattle.ir_draft.specs.declared.draft.DraftItem.{DraftItem}
use Rattle.ir_draft.specs.declared.draft.DraftItem.TheVariants as draft
use Rattle.ir_read.specs.declared.refusal.ReadRefusal.{ReadRefusal}
use Rattle.ir_read.specs.Answers.{◌>>=◌}
use Rattle.ir_read.specs.Bodies.{numbered_from}
use Rattle.ir_read.specs.Numbers.{after_params}
use Rattle.ir_read.specs.Position.{start, at_close}
use Rattle.ir_read.specs.Function.{after_line, opened_by, with_line}
use Rattle.ir_read.specs.Opaque.{is_opaque, text_at}
use Rattle.ir_read.specs.Draft.{between, going_on, passing, with_kept, with_opaque, closed, placed, line_inside, header_line, function_line}
use Rattle.ir_read.specs.Items.{items_from}
use Rattle.ir_read.proofs.Placing.{Place, OpenFunction, Read, Reading, Known, no_block, place, body_line, body_lines}
use Rattle.rf_text.proofs.NotOpaque.{not_opaque}
use Rattle.rf_text.proofs.OpaqueLines.{IsNoBrace}

-- ---- lines of an open function

abbrev pub made : ℕ → Head → List Numbered → Place → OpenFunction
made line head body at = record { line = line; head = head; body = body; at = at }

-- the function with lines of these forms
abbrev pub with_lines : OpenFunction → ℕ → List Line → Place → OpenFunction
with_lines o n fs p = made o.line o.head (o.body ++ numbered_from n fs) p

same_open : (line : ℕ) (head : Head) (b c : List Numbered) (p q : Place) → b ≡ c → p ≡ q → made line head b p ≡ made line head c q
same_open line head b c p q e f = cc

with_more : (o : OpenFunction) (n : ℕ) (f : Line) (fs : List Line) (q p : Place) → numbered_from n (f ∷ fs) ≡ record { line = n; form = f } ∷ numbered_from (n + 1) fs →
    with_lines (with_line o n f q) (n + 1) fs p ≡ with_lines o n (f ∷ fs) p
unfolding with_line
with_more o n f fs q p e =
    same_open o.line o.head _ _ p p (append_assoc o.body (record { line = n; form = f } ∷ []) (numbered_from (n + 1) fs) ∙ ap (λ (b : List Numbered). o.body ++ b) (sym e)) refl

next_line : (n k : ℕ) → n + 1 + k ≡ n + suc k
next_line n k = omega arith

-- what is read of lines after others, when those have been read
abbrev pub Goes : Known → List (List ℕ) → Read → List Line → List (Option Line) → Place → ℕ → OpenFunction → Type 0
Goes known ls done fs rest p n o = items_from known ls n (going_on done o) (map Some fs ++ rest) ≡ items_from known ls (n + length fs) (going_on done (with_lines o n fs p)) rest

-- a line that is added to the function
line_added : (known : Known) (ls : List (List ℕ)) (n : ℕ) (done : Read) (o : OpenFunction) (f : Line) (fs : List Line) (rest : List (Option Line)) (p : Place) →
    after_line known.names n o.at f ≡ body_line known.names n o.at f → ((q : Place) → placed done o n f q ≡ going_on done (with_line o n f q)) →
    numbered_from n (f ∷ fs) ≡ record { line = n; form = f } ∷ numbered_from (n + 1) fs → body_lines known.names n o.at (f ∷ fs) ≡ Ok p →
    ((a : OpenFunction) → body_lines known.names (n + 1) a.at fs ≡ Ok p → Goes known ls done fs rest p (n + 1) a) → Goes known ls done (f ∷ fs) rest p n o
unfolding line_inside with_line
line_added known ls n done o f fs rest p same put number e next =
    ap (λ (r : Result Place ReadRefusal). r >>= (λ q. Ok (placed done o n f q)) >>= (λ after. items_from known ls (n + 1) after (map Some fs ++ rest))) same ∙ here (body_line known.names n o.at f) e where
      here : (r : Result Place ReadRefusal) → (r >>= (λ q. body_lines known.names (n + 1) q fs)) ≡ Ok p →
          (r >>= (λ q. Ok (placed done o n f q)) >>= (λ after. items_from known ls (n + 1) after (map Some fs ++ rest))) ≡ items_from known ls (n + suc (length fs)) (going_on done (with_lines o n (f ∷ fs) p)) rest
      here (Ok q) e =
          ap (λ (a : Reading). items_from known ls (n + 1) a (map Some fs ++ rest)) (put q)
          ∙ next (with_line o n f q) e
          ∙ ap (λ (k : ℕ). items_from known ls k (going_on done (with_lines (with_line o n f q) (n + 1) fs p)) rest) (next_line n (length fs))
          ∙ ap (λ (a : OpenFunction). items_from known ls (n + suc (length fs)) (going_on done a) rest) (with_more o n f fs q p number)
      here (Err refusal) e = cc

pub body_read : (known : Known) (ls : List (List ℕ)) (n : ℕ) (done : Read) (o : OpenFunction) (fs : List Line) (rest : List (Option Line)) (p : Place) → body_lines known.names n o.at fs ≡ Ok p → Goes known ls done fs rest p n o
unfolding line_inside
body_read known ls n done o [] rest p e =
    let at : o.at ≡ p = cc in
    let number : n ≡ n + 0 = omega arith in
    ap (λ (k : ℕ). items_from known ls k (going_on done o) rest) number
    ∙ ap (λ (a : OpenFunction). items_from known ls (n + 0) (going_on done a) rest) (same_open o.line o.head o.body (o.body ++ []) o.at p (sym (append-nil o.body)) at)
body_read known ls n done o (form.Empty ∷ fs) rest p e =
    body_read known ls (n + 1) done o fs rest p e
    ∙ ap (λ (k : ℕ). items_from known ls k (going_on done (with_lines o (n + 1) fs p)) rest) (next_line n (length fs))
body_read known ls n done o (form.Close ∷ fs) rest p e = cc
body_read known ls n done o (f ∷ fs) rest p e = line_added known ls n done o f fs rest p refl (λ q. refl) refl e (λ a. body_read known ls (n + 1) done a fs rest p)

-- ---- items

-- lines of these forms, of which the first has the number n among these lines, after what is read as the items before, are all these
-- items with them
abbrev pub Remain : Known → List (List ℕ) → ℕ → List DraftItem → List (Option Line) → List DraftItem → Type 0
Remain known ls n before fs items = (done : Read) → done.items ≡ before → items_from known ls n (between done) fs ≡ Ok items

pub none_remain : (known : Known) (ls : List (List ℕ)) (n : ℕ) (items : List DraftItem) → Remain known ls n items [] items
none_remain known ls n items = λ done e. ap (λ (is : List DraftItem). Ok is) e

pub empty_remains : (known : Known) (ls : List (List ℕ)) (n : ℕ) (before items : List DraftItem) (fs : List (Option Line)) → Remain known ls (n + 1) before fs items → Remain known ls n before (Some form.Empty ∷ fs) items
empty_remains known ls n before items fs rest = λ done e. rest done e

pub kept_remains : (known : Known) (ls : List (List ℕ)) (n : ℕ) (before items : List DraftItem) (kept : Kept) (fs : List (Option Line)) → Remain known ls (n + 1) (before ++ draft.Kept n kept ∷ []) fs items → Remain known ls n before (Some (form.Kept kept) ∷ fs) items
unfolding with_kept
kept_remains known ls n before items kept fs rest = λ done e. rest (with_kept done n kept) (ap (λ (is : List DraftItem). is ++ draft.Kept n kept ∷ []) e)

-- the header opens the function
header_read : (known : Known) (ls : List (List ℕ)) (n : ℕ) (fs : List (Option Line)) (done : Read) (name : Option (List ℕ)) (head : Head) (next : ℕ) → is_opaque known (Some head) fs ≡ false → after_params n 0 head.params ≡ Ok next →
    function_line known ls n fs done name (Some head) ≡ Ok (going_on done (made n head [] (start next)))
unfolding function_line header_line opened_by
header_read known ls n fs done name head next own params = rw (own, params) refl

pub head_read : (known : Known) (ls : List (List ℕ)) (n : ℕ) (done : Read) (name : Option (List ℕ)) (head : Head) (next : ℕ) (fs : List (Option Line)) → is_opaque known (Some head) fs ≡ false → after_params n 0 head.params ≡ Ok next →
    items_from known ls n (between done) (Some (form.Define name (Some head)) ∷ fs) ≡ items_from known ls (n + 1) (going_on done (made n head [] (start next))) fs
head_read known ls n done name head next fs own params =
    ap (λ (r : Result Reading ReadRefusal). r >>= (λ after. items_from known ls (n + 1) after fs)) (header_read known ls n fs done name head next own params)

-- the brace closes it
pub close_read : (known : Known) (ls : List (List ℕ)) (n : ℕ) (done : Read) (line : ℕ) (head : Head) (body : List Numbered) (next insts blocks : ℕ) (fs : List (Option Line)) → nat_eq blocks 0 ≡ false →
    items_from known ls n (going_on done (made line head body (place next insts blocks no_block))) (Some form.Close ∷ fs) ≡ items_from known ls (n + 1) (between (closed done (made line head body (place next insts blocks no_block)))) fs
unfolding line_inside at_close
close_read known ls n done line head body next insts blocks fs some = rw some refl

pub closed_items : (done : Read) (o : OpenFunction) → (closed done o).items ≡ done.items ++ draft.Func o.line o.head o.body ∷ []
unfolding closed
closed_items done o = refl

-- a function of the profile with its lines
pub function_remains : (known : Known) (ls : List (List ℕ)) (n : ℕ) (before items : List DraftItem) (name : Option (List ℕ)) (head : Head) (front : List Line) (rest : List (Option Line)) (first next insts blocks : ℕ) → known.other_pointers ≡ false →
    after_params n 0 head.params ≡ Ok first → body_lines known.names (n + 1) (start first) front ≡ Ok (place next insts blocks no_block) → nat_eq blocks 0 ≡ false →
    Remain known ls (n + 1 + length front + 1) (before ++ draft.Func n head (numbered_from (n + 1) front) ∷ []) rest items → Remain known ls n before (Some (form.Define name (Some head)) ∷ (map Some front ++ Some form.Close ∷ rest)) items
function_remains known ls n before items name head front rest first next insts blocks other params stand some r = λ done e.
    let open_after : OpenFunction = made n head (numbered_from (n + 1) front) (place next insts blocks no_block) in
    head_read known ls n done name head first (map Some front ++ Some form.Close ∷ rest) (not_opaque known (n + 1) first head (place next insts blocks no_block) front rest other stand) params
    ∙ body_read known ls (n + 1) done (made n head [] (start first)) front (Some form.Close ∷ rest) (place next insts blocks no_block) stand
    ∙ close_read known ls (n + 1 + length front) done n head (numbered_from (n + 1) front) next insts blocks rest some
    ∙ r (closed done open_after) (closed_items done open_after ∙ ap (λ (is : List DraftItem). is ++ draft.Func n head (numbered_from (n + 1) front) ∷ []) e)

-- the lines of an opaque function are passed
passed_read : (known : Known) (ls : List (List ℕ)) (n : ℕ) (done : Read) (fs rest : List (Option Line)) → All IsNoBrace fs → items_from known ls n (passing done) (fs ++ Some form.Close ∷ rest) ≡ items_from known ls (n + length fs + 1) (between done) rest
passed_read known ls n done [] rest all = let same : n + 1 ≡ n + 0 + 1 = omega arith in ap (λ (k : ℕ). items_from known ls k (between done) rest) same
passed_read known ls n done (f ∷ fs) rest all =
    here f (All-head IsNoBrace f fs all) (passed_read known ls (n + 1) done fs rest (All-tail IsNoBrace f fs all))
    ∙ (let same : n + 1 + length fs + 1 ≡ n + suc (length fs) + 1 = omega arith in ap (λ (k : ℕ). items_from known ls k (between done) rest) same)
  where
    here : (f : Option Line) → IsNoBrace f → {y : Result (List DraftItem) ReadRefusal} → items_from known ls (n + 1) (passing done) (fs ++ Some form.Close ∷ rest) ≡ y → items_from known ls n (passing done) (f ∷ (fs ++ Some form.Close ∷ rest)) ≡ y
    here None free e = e
    here (Some form.Close) free e = absurd (free refl)
    here (Some form.Empty) free e = e
    here (Some (form.Kept kept)) free e = e
    here (Some (form.Define name head)) free e = e
    here (Some (form.Label name)) free e = e
    here (Some (form.Stmt s)) free e = e
    here (Some (form.Case value label)) free e = e
    here (Some form.CasesEnd) free e = e

opaque_line : (known : Known) (ls : List (List ℕ)) (n : ℕ) (fs : List (Option Line)) (done : Read) (name : Option (List ℕ)) (head : Option Head) (text : List ℕ) → is_opaque known head fs ≡ true → text_at ls n fs ≡ text →
    function_line known ls n fs done name head ≡ Ok (passing (with_opaque done n name text))
unfolding function_line
opaque_line known ls n fs done name head text own is = rw (own, is) refl

opaque_items : (done : Read) (n : ℕ) (name : Option (List ℕ)) (text : List ℕ) → (with_opaque done n name text).items ≡ done.items ++ draft.Opaque n name text ∷ []
unfolding with_opaque
opaque_items done n name text = refl

-- an opaque function with its lines
pub opaque_remains : (known : Known) (ls : List (List ℕ)) (n : ℕ) (before items : List DraftItem) (name : Option (List ℕ)) (head : Option Head) (text : List ℕ) (body rest : List (Option Line)) → All IsNoBrace body → is_opaque known head (body ++ Some form.Close ∷ rest) ≡ true →
    text_at ls n (body ++ Some form.Close ∷ rest) ≡ text → Remain known ls (n + 1 + length body + 1) (before ++ draft.Opaque n name text ∷ []) rest items → Remain known ls n before (Some (form.Define name head) ∷ (body ++ Some form.Close ∷ rest)) items
opaque_remains known ls n before items name head text body rest free own is r = λ done e.
    ap (λ (r : Result Reading ReadRefusal). r >>= (λ after. items_from known ls (n + 1) after (body ++ Some form.Close ∷ rest))) (opaque_line known ls n (body ++ Some form.Close ∷ rest) done name head text own is)
    ∙ passed_read known ls (n + 1) (with_opaque done n name text) body rest free
    ∙ r (with_opaque done n name text) (opaque_items done n name text ∙ ap (λ (is : List DraftItem). is ++ draft.Opaque n name text ∷ []) e)

-- The lines of a function's blocks by the marks of those: the begin of each block and each instruction.
use Rattle.std.proofs.Common.{◌≡◌, ℕ, suc, ◌+◌, ◌≤◌, ◌⊎◌, inl, inr, Bool, true, false, not, List, [], ◌∷◌, ◌++◌, length, map, Option, None, refl, sym, ◌∙◌, ap, subst, append_assoc, arith}
use Rattle.std.specs.List.{All}
use Rattle.std.proofs.lemmas.List.Elements.{All-head, All-tail}
use Rattle.ir_types.specs.declared.inst.Inst.{Inst}
use Rattle.ir_types.specs.declared.func.Block.{Block}
use Rattle.ir_types.specs.Formed.{is_terminator, ends_from, EndsOnce}
use Rattle.ir_lex.proofs.Classes.{both}
use Rattle.ir_draft.specs.declared.line.Line.{Line}
use Rattle.ir_draft.specs.declared.line.Line.TheVariants as line
use Rattle.ir_draft.specs.declared.draft.Numbered.{Numbered}
use Rattle.ir_print.specs.Names.{Names, Named, Label, result_named, insts_named, blocks_named, is_store, is_void}
use Rattle.rf_text.specs.Spelled.{AreBlocks, NoBlock, Labelled, Unlabelled}
use Rattle.rf_text.specs.ModuleForms.{insts_forms}
use Rattle.rf_text.specs.Written.{shown_block, forms_of}
use Rattle.rf_text.proofs.Spells.Built.{Mark, Starts, Does, insts_marks, marks}
use Rattle.rf_text.proofs.Spells.Order.{form_of}

module _ (gs : List (List ℕ)) (ns : Names) where
  -- the lines of marks, where k is the number of the next block
  abbrev pub SayMarks : ℕ → List Mark → List Line → Type 0
  SayMarks k [] fs = fs ≡ []
  SayMarks k (Starts name ∷ ms) fs = (rest : List Line) × ((fs ≡ line.Label (shown_block ns k) ∷ rest) ⊎ ((name ≡ None) × (fs ≡ rest))) × SayMarks (k + 1) ms rest
  SayMarks k (Does inst ∷ ms) fs = (rest : List Line) × (fs ≡ forms_of ns gs inst ++ rest) × SayMarks k ms rest

  pub insts_say : (k : ℕ) (is : List Inst) (ms : List Mark) (fs : List Line) → SayMarks k (insts_marks is ms) fs → (rest : List Line) × (fs ≡ insts_forms ns gs is ++ rest) × SayMarks k ms rest
  insts_say k [] ms fs h = (fs, refl, h)
  insts_say k (i ∷ is) ms fs h =
      let r : (rest : List Line) × (h.0 ≡ insts_forms ns gs is ++ rest) × SayMarks k ms rest = insts_say k is ms h.0 h.2 in
      (r.0, h.1 ∙ ap (λ xs. forms_of ns gs i ++ xs) r.1 ∙ sym (append_assoc (forms_of ns gs i) (insts_forms ns gs is) r.0), r.2)

  pub blocks_say : (k : ℕ) (bs : List Block) (fs : List Line) → SayMarks k (marks bs) fs → AreBlocks ns gs k bs fs
  blocks_say k [] fs h = subst (AreBlocks ns gs k []) (sym h) (NoBlock k)
  blocks_say k (b ∷ bs) fs h =
      let r : (rest : List Line) × (h.0 ≡ insts_forms ns gs b.insts ++ rest) × SayMarks (k + 1) (marks bs) rest = insts_say (k + 1) b.insts (marks bs) h.0 h.2 in
      let more : AreBlocks ns gs (k + 1) bs r.0 = blocks_say (k + 1) bs r.0 r.2 in
      elim h.1 as (λ _. AreBlocks ns gs k (b ∷ bs) fs) [
        | inl e ↦ subst (AreBlocks ns gs k (b ∷ bs)) (sym (e ∙ ap (λ xs. line.Label (shown_block ns k) ∷ xs) r.1)) (Labelled k b bs r.0 more)
        | inr e ↦ subst (AreBlocks ns gs k (b ∷ bs)) (sym (e.1 ∙ r.1)) (Unlabelled k b bs r.0 e.0 more)
      ]

  -- and back

  insts_marked : (k : ℕ) (is : List Inst) (ms : List Mark) (rest : List Line) → SayMarks k ms rest → SayMarks k (insts_marks is ms) (insts_forms ns gs is ++ rest)
  insts_marked k [] ms rest h = h
  insts_marked k (i ∷ is) ms rest h = (insts_forms ns gs is ++ rest, append_assoc (forms_of ns gs i) (insts_forms ns gs is) rest, insts_marked k is ms rest h)

  pub blocks_marked : {k : ℕ} {bs : List Block} {fs : List Line} → AreBlocks ns gs k bs fs → SayMarks k (marks bs) fs
  blocks_marked (NoBlock at) = refl
  blocks_marked (Labelled at b bs more h) = (insts_forms ns gs b.insts ++ more, inl refl, insts_marked (at + 1) b.insts (marks bs) more (blocks_marked h))
  blocks_marked (Unlabelled at b bs more none h) = (insts_forms ns gs b.insts ++ more, inr (none, refl), insts_marked (at + 1) b.insts (marks bs) more (blocks_marked h))

-- ---- blocks that end once

-- each block begins where none is open, and has an instruction; the last instruction of each ends it
abbrev pub Ends : Bool → List Mark → Type 0
Ends o [] = o ≡ false
Ends o (Starts name ∷ ms) = (o ≡ false) × Ends true ms
Ends o (Does i ∷ ms) = (o ≡ true) × Ends (not (is_terminator i.op)) ms

insts_end : (i : Inst) (is : List Inst) (ms : List Mark) → ends_from i is ≡ true → Ends false ms → Ends true (insts_marks (i ∷ is) ms)
insts_end i [] ms e h = (refl, subst (λ b. Ends b ms) (sym (ap not e)) h)
insts_end i (j ∷ is) ms e h =
    let parts : (not (is_terminator i.op) ≡ true) × (ends_from j is ≡ true) = both (not (is_terminator i.op)) (ends_from j is) e in
    (refl, subst (λ b. Ends b (insts_marks (j ∷ is) ms)) (sym parts.0) (insts_end j is ms parts.1 h))

block_ends : (insts : List Inst) (ms : List Mark) → EndsOnce insts → Ends false ms → Ends true (insts_marks insts ms)
block_ends [] ms e h = absurd e
block_ends (i ∷ is) ms e h = insts_end i is ms e h

pub blocks_end : (bs : List Block) → All (λ (b : Block). EndsOnce b.insts) bs → Ends false (marks bs)
blocks_end [] all = refl
blocks_end (b ∷ bs) all = (refl, block_ends b.insts (marks bs) (All-head (λ (b : Block). EndsOnce b.insts) b bs all) (blocks_end bs (All-tail (λ (b : Block). EndsOnce b.insts) b bs all)))

-- ---- marks that are the same are of the same blocks

first_mark : {a b : Mark} {as' bs : List Mark} → a ∷ as' ≡ b ∷ bs → a ≡ b
first_mark e = cc

more_marks : {a b : Mark} {as' bs : List Mark} → a ∷ as' ≡ b ∷ bs → as' ≡ bs
more_marks e = cc

starts_name : {a b : Option (List ℕ)} → Starts a ≡ Starts b → a ≡ b
starts_name e = cc

does_inst : {i j : Inst} → Does i ≡ Does j → i ≡ j
does_inst e = cc

no_mark : {P : Type 0} {b : Mark} {bs : List Mark} → [] ≡ b ∷ bs → P
no_mark e = cc

other_mark : {P : Type 0} {name : Option (List ℕ)} {i : Inst} → Starts name ≡ Does i → P
other_mark e = cc

no_does : {P : Type 0} (bs : List Block) (i : Inst) (ms : List Mark) → marks bs ≡ Does i ∷ ms → P
no_does [] i ms e = no_mark e
no_does (b ∷ bs) i ms e = other_mark (first_mark e)

insts_once : (is js : List Inst) (bs cs : List Block) → insts_marks is (marks bs) ≡ insts_marks js (marks cs) → (is ≡ js) × (marks bs ≡ marks cs)
insts_once [] [] bs cs e = (refl, e)
insts_once [] (j ∷ js) bs cs e = no_does bs j _ e
insts_once (i ∷ is) [] bs cs e = no_does cs i _ (sym e)
insts_once (i ∷ is) (j ∷ js) bs cs e =
    let more : (is ≡ js) × (marks bs ≡ marks cs) = insts_once is js bs cs (more_marks e) in
    (ap (λ x. x ∷ is) (does_inst (first_mark e)) ∙ ap (λ xs. j ∷ xs) more.0, more.1)

pub marks_once : (bs cs : List Block) → marks bs ≡ marks cs → bs ≡ cs
marks_once [] [] e = refl
marks_once [] (c ∷ cs) e = no_mark e
marks_once (b ∷ bs) [] e = no_mark (sym e)
marks_once (b ∷ bs) (c ∷ cs) e =
    let name : b.name ≡ c.name = starts_name (first_mark e) in
    let more : (b.insts ≡ c.insts) × (marks bs ≡ marks cs) = insts_once b.insts c.insts bs cs (more_marks e) in
    ap (λ (x : Option (List ℕ)). record { name = x; insts = b.insts } ∷ bs) name ∙ ap (λ (xs : List Inst). record { name = c.name; insts = xs } ∷ bs) more.0 ∙ ap (λ xs. c ∷ xs) (marks_once bs cs more.1)

-- ---- the lines of a draft's body

no_line : {P : Type 0} {f : Line} {fs : List Line} → [] ≡ f ∷ fs → P
no_line e = cc

pub first_line : {a b : Line} {as' bs : List Line} → a ∷ as' ≡ b ∷ bs → a ≡ b
first_line e = cc

pub more_lines : {a b : Line} {as' bs : List Line} → a ∷ as' ≡ b ∷ bs → as' ≡ bs
more_lines e = cc

-- a body that has a line first
pub record HasFirst (f : Line) (fs : List Line) (body : List Numbered) : Type 0 where
  pub n : ℕ
  pub rest : List Numbered
  pub whole : body ≡ record { line = n; form = f } ∷ rest
  pub forms : map form_of rest ≡ fs

pub has_first : (f : Line) (fs : List Line) (body : List Numbered) → map form_of body ≡ f ∷ fs → HasFirst f fs body
has_first f fs [] e = no_line e
has_first f fs (x ∷ xs) e = record { n = x.line; rest = xs; whole = ap (λ (g : Line). record { line = x.line; form = g } ∷ xs) (first_line e); forms = more_lines e }

-- how many instructions there are, and how many blocks begin

abbrev pub many : List Mark → ℕ
many [] = 0
many (Starts name ∷ ms) = many ms
many (Does i ∷ ms) = suc (many ms)

abbrev pub starts : List Mark → ℕ
starts [] = 0
starts (Starts name ∷ ms) = suc (starts ms)
starts (Does i ∷ ms) = starts ms

-- what is named by marks, in order
abbrev pub marks_named : List Mark → List Named
marks_named [] = []
marks_named (Starts name ∷ ms) = Label name ∷ marks_named ms
marks_named (Does i ∷ ms) = result_named (is_void i.ty) (is_store i.op) i (marks_named ms)

insts_are : (is : List Inst) (ms : List Mark) → marks_named (insts_marks is ms) ≡ insts_named is (marks_named ms)
insts_are [] ms = refl
insts_are (i ∷ is) ms = ap (result_named (is_void i.ty) (is_store i.op) i) (insts_are is ms)

pub blocks_are : (bs : List Block) → marks_named (marks bs) ≡ blocks_named bs
blocks_are [] = refl
blocks_are (b ∷ bs) = ap (λ vs. Label b.name ∷ vs) (insts_are b.insts (marks bs) ∙ ap (insts_named b.insts) (blocks_are bs))

result_most : (v w : Bool) (i : Inst) (vs : List Named) → length (result_named v w i vs) ≤ suc (length vs)
result_most false false i vs = omega arith
result_most false true i vs = omega arith
result_most true w i vs = omega arith

pub named_most : (ms : List Mark) → length (marks_named ms) ≤ many ms + starts ms
named_most [] = omega arith
named_most (Starts name ∷ ms) = let more : length (marks_named ms) ≤ many ms + starts ms = named_most ms in omega (arith, more)
named_most (Does i ∷ ms) =
    let more : length (marks_named ms) ≤ many ms + starts ms = named_most ms in
    let one : length (result_named (is_void i.ty) (is_store i.op) i (marks_named ms)) ≤ suc (length (marks_named ms)) = result_most (is_void i.ty) (is_store i.op) i (marks_named ms) in
    omega (arith, more, one)

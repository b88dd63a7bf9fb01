-- A draft that was read is within the limits; so the values and blocks of each of its functions are few.
use Rattle.std.proofs.Common.{◌≡◌, ℕ, ◌+◌, ◌^◌, ◌≤◌, ◌<◌, Bool, true, false, cond, List, [], ◌∷◌, length, max, Option, Some, None, Ok, nat_lt, refl, arith}
use Rattle.std.proofs.lemmas.Bool.Decides.{nat_tests}
use Rattle.std.proofs.Math.Nat.{le-max_left, le-max_right}
use Rattle.std.specs.List.{All}
use Rattle.std.proofs.lemmas.List.Elements.{All-nil, All-cons}
use Rattle.ir_draft.specs.declared.line.Line.{Line}
use Rattle.ir_draft.specs.declared.line.Line.TheVariants as line
use Rattle.ir_draft.specs.declared.draft.Draft.{Draft}
use Rattle.ir_draft.specs.declared.draft.Numbered.{Numbered}
use Rattle.ir_draft.specs.declared.draft.DraftItem.{DraftItem}
use Rattle.ir_draft.specs.declared.draft.DraftItem.TheVariants as item
use Rattle.ir_read.specs.declared.refusal.Limit.{Limit}
use Rattle.ir_read.specs.Draft.{draft_of}
use Rattle.ir_read.specs.Limits.{no_size, passed}
use Rattle.ir_read.specs.Sizes.{insts_at, insts_in, blocks_at, between_after, blocks_in, sized, sized_all, size_of}
use Rattle.ir_read.proofs.Sizes.{TextSize, draft_sized}

-- ---- the lines of a body

abbrev pub stmt_in : Line → ℕ
stmt_in (line.Stmt s) = 1
stmt_in _ = 0

abbrev pub label_in : Line → ℕ
label_in (line.Label name) = 1
label_in _ = 0

-- how many of these lines are instructions, and how many are labels

abbrev pub stmts : List Numbered → ℕ
stmts [] = 0
stmts (x ∷ xs) = stmt_in x.form + stmts xs

abbrev pub labels : List Numbered → ℕ
labels [] = 0
labels (x ∷ xs) = label_in x.form + labels xs

stmts_are : (xs : List Numbered) → stmts xs ≡ insts_in xs
stmts_are [] = refl
stmts_are (x ∷ xs) = let more : stmts xs ≡ insts_in xs = stmts_are xs in let one : stmt_in x.form ≡ insts_at x.form = here x.form in omega (arith, more, one) where
  here : (f : Line) → stmt_in f ≡ insts_at f
  here (line.Stmt s) = refl
  here f = refl

-- each label begins a block
labels_most : (b : Bool) (xs : List Numbered) → labels xs ≤ blocks_in b xs
labels_most b [] = omega arith
labels_most b (x ∷ xs) =
    let more : labels xs ≤ blocks_in (between_after b x.form) xs = labels_most (between_after b x.form) xs in
    let one : label_in x.form ≤ blocks_at b x.form = here x.form in
    omega (arith, more, one)
  where
    here : (f : Line) → label_in f ≤ blocks_at b f
    here (line.Label name) = omega arith
    here f = omega arith

-- what has this many lines of each kind
abbrev pub IsFew : DraftItem → Type 0
IsFew (item.Func n head body) = length head.params + (stmts body + (labels body + stmts body)) < 2 ^ 64
IsFew _ = Unit {0}

none_passed : (b : Bool) (x : Limit) (r : Option Limit) → cond b (Some x) r ≡ None → (b ≡ false) × (r ≡ None)
none_passed true x r e = cc
none_passed false x r e = (refl, e)

at_most : (k n : ℕ) → nat_lt k n ≡ false → n ≤ k
at_most k n e = grind (arith, nat_tests)

record Bounded (s : TextSize) (xs : List DraftItem) : Type 0 where
  few : All IsFew xs
  values : s.values ≤ 65536
  blocks : s.blocks ≤ 4096

-- items within the limits are few of each
bounded : (s : TextSize) (xs : List DraftItem) → (sized_all s xs).values ≤ 65536 → (sized_all s xs).blocks ≤ 4096 → Bounded s xs
bounded s [] v b = record { few = All-nil IsFew; values = v; blocks = b }
bounded s (item.Kept n kept ∷ xs) v b = let r : Bounded s xs = bounded s xs v b in record { few = All-cons IsFew (item.Kept n kept) xs tt r.few; values = r.values; blocks = r.blocks }
bounded s (item.Opaque n name text ∷ xs) v b = let r : Bounded s xs = bounded s xs v b in record { few = All-cons IsFew (item.Opaque n name text) xs tt r.few; values = r.values; blocks = r.blocks }
bounded s (item.Func n head body ∷ xs) v b =
    let r : Bounded (sized s (item.Func n head body)) xs = bounded (sized s (item.Func n head body)) xs v b in
    let values : max s.values (length head.params + insts_in body) ≤ 65536 = r.values in
    let blocks : max s.blocks (blocks_in true body) ≤ 4096 = r.blocks in
    let one : length head.params + insts_in body ≤ max s.values (length head.params + insts_in body) = le-max_right s.values (length head.params + insts_in body) in
    let two : blocks_in true body ≤ max s.blocks (blocks_in true body) = le-max_right s.blocks (blocks_in true body) in
    let three : s.values ≤ max s.values (length head.params + insts_in body) = le-max_left s.values (length head.params + insts_in body) in
    let four : s.blocks ≤ max s.blocks (blocks_in true body) = le-max_left s.blocks (blocks_in true body) in
    let own : stmts body ≡ insts_in body = stmts_are body in
    let less : labels body ≤ blocks_in true body = labels_most true body in
    let few : length head.params + (stmts body + (labels body + stmts body)) < 2 ^ 64 = omega (arith, values, blocks, one, two, own, less) in
    record { few = All-cons IsFew (item.Func n head body) xs few r.few; values = omega (arith, values, three); blocks = omega (arith, blocks, four) }

-- within the limits no limit is passed, and back
pub limits : (s : TextSize) → passed s ≡ None → (s.insts ≤ 100000) × (s.values ≤ 65536) × (s.blocks ≤ 4096)
unfolding passed
limits s p =
    let a = none_passed (nat_lt 100000 s.insts) _ _ p in
    let b = none_passed (nat_lt 65536 s.values) _ _ a.1 in
    let c = none_passed (nat_lt 4096 s.blocks) _ _ b.1 in
    (at_most 100000 s.insts a.0, at_most 65536 s.values b.0, at_most 4096 s.blocks c.0)

not_more : (k n : ℕ) → n ≤ k → nat_lt k n ≡ false
not_more k n h = grind (arith, nat_tests)

pub none_pass : (s : TextSize) → s.insts ≤ 100000 → s.values ≤ 65536 → s.blocks ≤ 4096 → passed s ≡ None
unfolding passed
none_pass s i v b = rw (not_more 100000 s.insts i, not_more 65536 s.values v, not_more 4096 s.blocks b) refl

-- each function of a draft has few values and blocks
pub draft_few : (bytes : List ℕ) (d : Draft) → draft_of bytes ≡ Ok d → All IsFew d.items
draft_few bytes d e =
    let l : ((size_of d.items).insts ≤ 100000) × ((size_of d.items).values ≤ 65536) × ((size_of d.items).blocks ≤ 4096) = limits (size_of d.items) (draft_sized bytes d e) in
    (bounded no_size d.items l.1 l.2).few

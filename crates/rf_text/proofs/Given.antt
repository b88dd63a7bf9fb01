-- What is read and resolved is what a text reads as, within the limits and well typed; and the limits of a draft are those of its module.
use Rattle.std.proofs.Common.{◌≡◌, ℕ, ◌+◌, ◌≤◌, List, [], ◌∷◌, length, max, Option, Some, None, Result, Ok, Err, refl, sym, ◌∙◌, ap, subst, arith}
use Rattle.std.proofs.Math.Nat.{le-max_left, le-max_right, max-le}
use Rattle.std.specs.List.{All, AllZip}
use Rattle.std.proofs.lemmas.List.Elements.{All-nil, All-cons, All-head, All-tail}
use Rattle.ir_types.specs.declared.module.Item.{Item}
use Rattle.ir_types.specs.declared.module.Item.TheVariants as items
use Rattle.ir_types.specs.declared.module.Module.{Module}
use Rattle.ir_types.specs.Formed.{IsFormed}
use Rattle.ir_draft.specs.declared.draft.Draft.{Draft}
use Rattle.ir_draft.specs.declared.draft.DraftItem.{DraftItem}
use Rattle.ir_draft.specs.declared.draft.DraftItem.TheVariants as item
use Rattle.ir_read.specs.Draft.{draft_of}
use Rattle.ir_read.specs.Limits.{no_size, passed}
use Rattle.ir_read.specs.Sizes.{sized, sized_all, size_of}
use Rattle.ir_read.proofs.ItemsRead.{draft_items}
use Rattle.ir_read.proofs.Sizes.{TextSize, sized_draft, draft_sized}
use Rattle.ir_types_check.specs.declared.resolved.Resolved.{Resolved}
use Rattle.ir_types_check.specs.declared.refusal.ResolveRefusal.{ResolveRefusal}
use Rattle.ir_types_check.specs.Answers.{◌>>=◌}
use Rattle.ir_types_check.specs.Tops.{tops_of}
use Rattle.ir_types_check.specs.Typed.{items_typed}
use Rattle.ir_types_check.specs.Resolved.{resolved_items, module_of, resolved_with, resolved_of}
use Rattle.ir_types_check.proofs.Binding.{bind_ok, ok_is}
use Rattle.ir_types_check.proofs.Handed.{TopNames, DoneSoFar}
use Rattle.rf_text.specs.Limits.{insts_of, all_insts, IsSmall, IsWithinLimits}
use Rattle.rf_text.specs.Reads.{Reads}
use Rattle.rf_text.specs.Spelled.{Spelled}
use Rattle.rf_text.specs.Exact.{Gives, IsExact, ReadAndResolved, ResolvedAsRead, SpelledTextsAreGiven, GivenModulesAreWithin}
use Rattle.rf_text.proofs.Spells.Counts.{limits, none_pass}
use Rattle.rf_text.proofs.Spelling.Reads.{ReadsAs, spelled_items, sized_item, sized_items}
use Rattle.rf_text.proofs.Typed.Items.{items_are_typed}

-- ---- exactly

pub read_exact : ReadAndResolved
unfolding resolved_of resolved_with module_of
read_exact bytes m g =
    bind_ok (tops_of g.draft.items) _ g.resolved g.resolves (λ tops once a.
    bind_ok (resolved_items tops.scope (record { items = []; lines = [] }) g.draft.items) _ g.resolved a (λ done known b.
    bind_ok (items_typed tops.scope g.draft.items) _ g.resolved b (λ u typed c.
    let is : module_of tops g.draft.items done ≡ g.resolved = ok_is c in
    let reads : Reads bytes m = record {
      items = g.draft.items;
      says = draft_items bytes g.draft g.drafted;
      named = record { tops = tops; once = once; resolved = done; known = known; is = ap (λ (x : Resolved). x.«module») is ∙ g.is };
    } in
    record { reads = reads; limits = draft_sized bytes g.draft g.drafted; types = typed })))

pub exact_given : ResolvedAsRead
unfolding resolved_of resolved_with
exact_given bytes m e =
    let named = e.reads.named in
    let resolved : Resolved = module_of e.reads.named.tops e.reads.items e.reads.named.resolved in
    record {
      draft = record { items = e.reads.items };
      drafted = sized_draft bytes e.reads.items e.reads.says e.limits;
      resolved = module_of e.reads.named.tops e.reads.items e.reads.named.resolved;
      resolves =
          ap (λ (r : Result TopNames ResolveRefusal). r >>= λ tops. resolved_with tops e.reads.items) e.reads.named.once
          ∙ ap (λ (r : Result DoneSoFar ResolveRefusal). r >>= λ done. items_typed e.reads.named.tops.scope e.reads.items >>= λ _. Ok (module_of e.reads.named.tops e.reads.items done)) e.reads.named.known
          ∙ ap (λ (r : Result (Unit {0}) ResolveRefusal). r >>= λ _. Ok (module_of e.reads.named.tops e.reads.items e.reads.named.resolved)) e.types;
      is = e.reads.named.is;
    }

-- ---- the limits of a module

record Within (s : TextSize) (is : List Item) : Type 0 where
  insts : s.insts + all_insts is ≤ 100000
  values : s.values ≤ 65536
  blocks : s.blocks ≤ 4096
  each : All IsSmall is

-- items that are small keep the limits
keeps : (s : TextSize) (is : List Item) → Within s is → passed (sized_items s is) ≡ None
keeps s [] w = none_pass s (let i : s.insts + 0 ≤ 100000 = w.insts in omega (arith, i)) w.values w.blocks
keeps s (items.Kept text ∷ is) w = keeps s is (record { insts = w.insts; values = w.values; blocks = w.blocks; each = All-tail IsSmall (items.Kept text) is w.each })
keeps s (items.Opaque text ∷ is) w = keeps s is (record { insts = w.insts; values = w.values; blocks = w.blocks; each = All-tail IsSmall (items.Opaque text) is w.each })
keeps s (items.Func f ∷ is) w =
    let one : IsSmall (items.Func f) = All-head IsSmall (items.Func f) is w.each in
    let i : s.insts + (insts_of f.blocks + all_insts is) ≤ 100000 = w.insts in
    keeps (sized_item s (items.Func f)) is (record {
      insts = omega (arith, i);
      values = max-le w.values one.0;
      blocks = max-le w.blocks one.1;
      each = All-tail IsSmall (items.Func f) is w.each;
    })

-- and items that keep them are small
kept : (s : TextSize) (is : List Item) → passed (sized_items s is) ≡ None → Within s is
kept s [] e = let l : (s.insts ≤ 100000) × (s.values ≤ 65536) × (s.blocks ≤ 4096) = limits s e in record { insts = omega (arith, l.0); values = l.1; blocks = l.2; each = All-nil IsSmall }
kept s (items.Kept text ∷ is) e = let w : Within s is = kept s is e in record { insts = w.insts; values = w.values; blocks = w.blocks; each = All-cons IsSmall (items.Kept text) is tt w.each }
kept s (items.Opaque text ∷ is) e = let w : Within s is = kept s is e in record { insts = w.insts; values = w.values; blocks = w.blocks; each = All-cons IsSmall (items.Opaque text) is tt w.each }
kept s (items.Func f ∷ is) e =
    let w : Within (sized_item s (items.Func f)) is = kept (sized_item s (items.Func f)) is e in
    let i : s.insts + insts_of f.blocks + all_insts is ≤ 100000 = w.insts in
    let v : max s.values (length f.params + insts_of f.blocks) ≤ 65536 = w.values in
    let b : max s.blocks (length f.blocks) ≤ 4096 = w.blocks in
    let v1 : s.values ≤ max s.values (length f.params + insts_of f.blocks) = le-max_left s.values (length f.params + insts_of f.blocks) in
    let v2 : length f.params + insts_of f.blocks ≤ max s.values (length f.params + insts_of f.blocks) = le-max_right s.values (length f.params + insts_of f.blocks) in
    let b1 : s.blocks ≤ max s.blocks (length f.blocks) = le-max_left s.blocks (length f.blocks) in
    let b2 : length f.blocks ≤ max s.blocks (length f.blocks) = le-max_right s.blocks (length f.blocks) in
    record {
      insts = omega (arith, i);
      values = omega (arith, v, v1);
      blocks = omega (arith, b, b1);
      each = All-cons IsSmall (items.Func f) is (omega (arith, v, v2), omega (arith, b, b2)) w.each;
    }

pub spelled_given : SpelledTextsAreGiven
spelled_given bytes m s formed within =
    let r : ReadsAs bytes m = spelled_items bytes m s formed in
    exact_given bytes m (record {
      reads = r.reads;
      limits = ap passed (r.sizes no_size) ∙ keeps no_size m.items (record { insts = (let i : all_insts m.items ≤ 100000 = within.insts in let w : 0 + all_insts m.items ≤ 100000 = omega (arith, i) in w); values = omega arith; blocks = omega arith; each = within.each });
      types = items_are_typed m r.reads.named.tops.scope r.reads.items formed s.printable s.numbered s.counted r.zip;
    })

pub given_within : GivenModulesAreWithin
given_within bytes m s formed g =
    let r : ReadsAs bytes m = spelled_items bytes m s formed in
    let same : g.draft.items ≡ r.reads.items = items_once bytes g.draft r.reads g.drafted in
    let none : passed (sized_items no_size m.items) ≡ None = ap passed (sym (r.sizes no_size)) ∙ ap (λ xs. passed (size_of xs)) (sym same) ∙ draft_sized bytes g.draft g.drafted in
    let w : Within no_size m.items = kept no_size m.items none in
    record { insts = (let i : 0 + all_insts m.items ≤ 100000 = w.insts in omega (arith, i)); each = w.each }
  where
    read_is : {x y : List DraftItem} → (let a : Result (List DraftItem) ResolveRefusal = Ok x in a ≡ Ok y) → x ≡ y
    read_is e = cc

    items_once : (bytes : List ℕ) (d : Draft) (r : Reads bytes m) → draft_of bytes ≡ Ok d → d.items ≡ r.items
    items_once bytes d r e = same_items (sym (draft_items bytes d e).placed ∙ r.says.placed) where
      same_items : {E : Type 0} {x y : List DraftItem} → (let a : Result (List DraftItem) E = Ok x in a ≡ Ok y) → x ≡ y
      same_items e = cc

-- What the steps of a trail come to, and what they ask for.
use Rattle.std.proofs.Common.{◌≡◌, refl, sym, ap, ◌∙◌, subst, ℕ, zero, suc, ◌<◌, arith, Bool, true, false, ◌||◌, Option, None, Some, List, [], ◌∷◌, ◌++◌, reverse, append_assoc, append-nil}
use Rattle.std.proofs.lemmas.List.{reverse-append}
use Rattle.ir_types.specs.declared.id.Id.{Id}
use Rattle.ir_types.specs.declared.id.Place.{Place}
use Rattle.ir_types.specs.declared.inst.Inst.{Inst}
use Rattle.ir_types.specs.declared.module.Module.{Module}
use Rattle.ir_types.specs.Formed.{IsFormed}
use Rattle.ir_types.specs.Available.{same_id}
use Rattle.ir_types.proofs.Among.{Once, same_itself}
use Rattle.vx_view.specs.declared.question.Question.{Question}
use Rattle.vx_view.specs.Addresses.{block_of}
use Rattle.vx_view.specs.Answers.{find, found, before, Standing}
use Rattle.vx_view.specs.Blocks.{block_at}
use Rattle.vx_view.proofs.Blocks.{found_block}
use Rattle.vx_view.proofs.Edits.{inst_ids}
use Rattle.vx_serial.specs.Near.{looked_at}
use Rattle.vx_deps.specs.declared.trail.Trail.{Trail}
use Rattle.vx_deps.specs.Reach.{IsIn, has, ids_of, LooksBack, looked_ids, is_there}
use Rattle.vx_deps.specs.Trails.{back, rest, Passes, IsStart, IsStep, NamesBack}
use Rattle.vx_deps.proofs.Standings.{block_once}
use Rattle.vx_deps.proofs.Trailing.{before_in, back_is}

-- ---- what is among ids

pub has_more : (xs ys : List Id) (x : Id) → has ys x ≡ true → has (xs ++ ys) x ≡ true
has_more [] ys x h = h
has_more (z ∷ xs) ys x h = by_test (same_id x z) (has_more xs ys x h)
  where
    by_test : (b : Bool) → has (xs ++ ys) x ≡ true → (b || has (xs ++ ys) x) ≡ true
    by_test true r = refl
    by_test false r = r

pub has_first : (x : Id) (ys : List Id) → has (x ∷ ys) x ≡ true
has_first x ys = ap (λ b. b || has ys x) (same_itself x)

has_less : (xs ys : List Id) (x : Id) → has xs x ≡ true → has (xs ++ ys) x ≡ true
has_less [] ys x h = absurd cc
has_less (z ∷ xs) ys x h = by_test (same_id x z) h (λ r. has_less xs ys x r)
  where
    by_test : (b : Bool) → (b || has xs x) ≡ true → (has xs x ≡ true → has (xs ++ ys) x ≡ true) → (b || has (xs ++ ys) x) ≡ true
    by_test true r more = refl
    by_test false r more = more r

pub has_reversed : (xs : List Id) (x : Id) → has xs x ≡ true → has (reverse xs) x ≡ true
has_reversed [] x h = absurd cc
has_reversed (z ∷ xs) x h = subst (λ l. has l x ≡ true) (sym (reverse-append (z ∷ []) xs)) (by_test (same_id x z) refl h (λ r. has_reversed xs x r))
  where
    by_test : (b : Bool) → same_id x z ≡ b → (b || has xs x) ≡ true → (has xs x ≡ true → has (reverse xs) x ≡ true) → has (reverse xs ++ z ∷ []) x ≡ true
    by_test true s r more = has_more (reverse xs) (z ∷ []) x (ap (λ b. b || false) s)
    by_test false s r more = has_less (reverse xs) (z ∷ []) x (more r)

-- ---- steps

pub stepped : (insts : List Inst) (x : Id) (b : Option Id) (old new : Trail) → Once (inst_ids insts) → old.next ≡ Some x → IsIn insts (Some x) → b ≡ before x None insts →
    Passes x b old new → IsStep insts old new true
stepped insts x b old new once e h r p = (
  ap (λ n. old.passed.items ++ back n insts old.next) p.left ∙ ap (λ u. old.passed.items ++ back (suc new.left) insts u) e
      ∙ sym (append_assoc old.passed.items (x ∷ []) (back new.left insts (before x None insts)))
      ∙ ap (λ l. l ++ back new.left insts (before x None insts)) (sym p.passed) ∙ ap (λ u. new.passed.items ++ back new.left insts u) (sym r ∙ sym p.next),
  subst (IsIn insts) (sym r ∙ sym p.next) (before_in insts once x h),
)

pub some_left : (n : ℕ) → 0 < n → (k : ℕ) × (n ≡ suc k)
some_left zero h = absurd (omega arith)
some_left (suc k) h = (k, refl)

-- where none is next or none may be passed, the trail has ended
pub ended : (insts : List Inst) (t : Trail) → (t.next ≡ None) → rest insts t ≡ t.passed.items
ended insts t e = ap (λ u. t.passed.items ++ back t.left insts u) e ∙ ap (λ l. t.passed.items ++ l) (by_left t.left) ∙ append-nil t.passed.items
  where
    by_left : (n : ℕ) → back n insts None ≡ []
    by_left zero = refl
    by_left (suc n) = refl

pub names_back : (insts : List Inst) (t : Trail) (whole : List Id) → rest insts t ≡ whole → (q : Question) → NamesBack t q → LooksBack whole q
names_back insts t whole e q n = (
  n.0,
  n.1,
  subst (λ l. has l n.0 ≡ true)
      (sym (ap (λ k. t.passed.items ++ back k insts t.next) (n.3).1 ∙ ap (λ u. t.passed.items ++ back (suc (n.3).0) insts u) n.2) ∙ e)
      (has_more t.passed.items (n.0 ∷ back (n.3).0 insts (before n.0 None insts)) n.0 (has_first n.0 (back (n.3).0 insts (before n.0 None insts)))),
)

-- ---- a whole trail

-- it asks for what stands before an instruction of the trail, in a module where it begins at one
abbrev pub Backs : Id → Module → Question → Type 0
Backs x m q = (place : Place) → IsIn (block_at m place) (Some x) → LooksBack (back 256 (block_at m place) (Some x)) q

-- what is left and what was passed are the whole trail, and the next is an instruction of the block
abbrev pub Leads : Id → Module → Trail → Type 0
Leads x m t = (place : Place) → IsIn (block_at m place) (Some x) → (rest (block_at m place) t ≡ back 256 (block_at m place) (Some x)) × IsIn (block_at m place) t.next

pub begins : (x : Id) (m : Module) (t : Trail) → IsStart x t → Leads x m t
begins x m t s place h = (
  ap (λ l. l ++ back t.left (block_at m place) t.next) s.passed ∙ ap (λ u. back t.left (block_at m place) u) s.next ∙ ap (λ n. back n (block_at m place) (Some x)) s.left,
  subst (IsIn (block_at m place)) (sym s.next) h,
)

pub asks_back : (x : Id) (m : Module) (t : Trail) → Leads x m t → (q : Question) → NamesBack t q → Backs x m q
asks_back x m t leads q n place h = names_back (block_at m place) t (back 256 (block_at m place) (Some x)) (leads place h).0 q n

module _ (x : Id) (m : Module) (old new : Trail) (leads : Leads x m old) where
  pub leads_on : ((place : Place) → IsIn (block_at m place) old.next → IsStep (block_at m place) old new true) → Leads x m new
  leads_on step place h = let l = leads place h in let s = step place l.1 in (sym s.0 ∙ l.0, s.1)

  pub led : ((place : Place) → IsIn (block_at m place) old.next → IsStep (block_at m place) old new false) → (place : Place) → IsIn (block_at m place) (Some x) →
      new.passed.items ≡ back 256 (block_at m place) (Some x)
  led step place h = let l = leads place h in let s = step place l.1 in ap (λ (t : Trail). t.passed.items) s.1 ∙ sym s.0 ∙ l.0

-- ---- what is looked at

pub looked_by : (m : Module) → IsFormed m → (x : Id) (s : Standing) → found m x ≡ Some s → reverse (back 256 (block_at m s.place) (Some x)) ≡ looked_ids m x
looked_by m h x s e =
    let b = found_block x s m e in
    back_is (block_at m s.place) (block_once m h s.place) 256 x (s.inst, ap (find x) b.0 ∙ b.1)
    ∙ ap (λ l. ids_of (looked_at l x)) b.0 ∙ sym (ap (λ u. ids_of (looked_at (block_of u) x)) e)

module _ (m : Module) (formed : IsFormed m) (x : Id) where
  abbrev Trails : List Id → Type 0
  Trails ids = (place : Place) → IsIn (block_at m place) (Some x) → ids ≡ back 256 (block_at m place) (Some x)

  in_its_block : (s : Standing) → found m x ≡ Some s → IsIn (block_at m s.place) (Some x)
  in_its_block s e = let b = found_block x s m e in (s.inst, ap (find x) b.0 ∙ b.1)

  pub looked : (ids : List Id) → is_there (found m x) ≡ true → Trails ids → reverse ids ≡ looked_ids m x
  looked ids h t = by_found (found m x) refl h
    where
      by_found : (u : Option Standing) → found m x ≡ u → is_there u ≡ true → reverse ids ≡ looked_ids m x
      by_found None e r = absurd cc
      by_found (Some s) e r = ap reverse (t s.place (in_its_block s e)) ∙ looked_by m formed x s e

  pub looks : is_there (found m x) ≡ true → (q : Question) → Backs x m q → LooksBack (looked_ids m x) q
  looks h q b = by_found (found m x) refl h
    where
      by_found : (u : Option Standing) → found m x ≡ u → is_there u ≡ true → LooksBack (looked_ids m x) q
      by_found None e r = absurd cc
      by_found (Some s) e r =
          let l = b s.place (in_its_block s e) in
          (l.0, l.1, subst (λ ids. has ids l.0 ≡ true) (looked_by m formed x s e) (has_reversed (back 256 (block_at m s.place) (Some x)) l.0 l.2))

  pub looked_none : is_there (found m x) ≡ false → [] ≡ looked_ids m x
  looked_none h = by_found (found m x) refl h
    where
      by_found : (u : Option Standing) → found m x ≡ u → is_there u ≡ false → [] ≡ looked_ids m x
      by_found None e r = sym (ap (λ u. ids_of (looked_at (block_of u) x)) e)
      by_found (Some s) e r = absurd cc

-- A text that is read as a draft is the items of that draft.
use Rattle.std.proofs.Common.{◌≡◌, ℕ, ◌+◌, List, [], ◌∷◌, Option, Some, None, Result, Ok, Err, refl, sym, ◌∙◌, ap, subst}
use Rattle.ir_draft.specs.declared.line.Line.{Line}
use Rattle.ir_draft.specs.declared.draft.Draft.{Draft}
use Rattle.ir_read.specs.declared.outlook.Outlook.{Outlook}
use Rattle.ir_read.specs.declared.progress.Done.{Done}
use Rattle.ir_read.specs.declared.refusal.Limit.{Limit}
use Rattle.ir_read.specs.declared.refusal.ReadRefusal.{ReadRefusal}
use Rattle.ir_read.specs.Answers.{◌>>=◌}
use Rattle.ir_read.specs.Lines.{lines_of}
use Rattle.ir_read.specs.Faults.{first_fault, unless}
use Rattle.ir_read.specs.Forms.{forms_of}
use Rattle.ir_read.specs.Limits.{passed}
use Rattle.ir_read.specs.Outlook.{outlook_of}
use Rattle.ir_read.specs.Draft.{Opened, Nothing, Profile, Passing, Reading, nothing_done, between, step, within, ended, read_from, draft_of}
use Rattle.ir_read.specs.Items.{closed_items, items_from, IsItems}

refused : {A P : Type 0} {e : ReadRefusal} {a : A} → Err e ≡ Ok a → P
refused e = cc

then_ok : {A B P : Type 0} (o : Result A ReadRefusal) (f : A → Result B ReadRefusal) (b : B) → (o >>= f) ≡ Ok b → ((a : A) → o ≡ Ok a → f a ≡ Ok b → P) → P
then_ok (Ok a) f b e k = k a refl e
then_ok (Err x) f b e k = refused e

within_ok : (done : Done) (limit : Option Limit) (d : Draft) → within done limit ≡ Ok d → done.items ≡ d.items
within_ok done None d e = let x : Ok (record { items = done.items }) ≡ Ok d = e in let y : record { items = done.items } ≡ d = cc in ap (λ (z : Draft). z.items) y
within_ok done (Some which) d e = refused e

ended_ok : (n : ℕ) (done : Done) (o : Opened) (d : Draft) → ended n done o ≡ Ok d → closed_items n done o ≡ Ok d.items
ended_ok n done Nothing d e = ap Ok (within_ok done (passed done.size) d e)
ended_ok n done (Profile o) d e = refused e
ended_ok n done Passing d e = refused e

-- the items are those of the draft
pub passed_items : (known : Outlook) (ls : List (List ℕ)) (n : ℕ) (read : Reading) (fs : List (Option Line)) (d : Draft) → read_from known ls n read fs ≡ Ok d → items_from known ls n read fs ≡ Ok d.items
passed_items known ls n read [] d e = ended_ok n read.done read.current d e
passed_items known ls n read (f ∷ fs) d e =
    then_ok (step known ls n fs read f) (λ after. read_from known ls (n + 1) after fs) d e (λ after is rest.
    ap (λ (r : Result Reading ReadRefusal). r >>= (λ next. items_from known ls (n + 1) next fs)) is ∙ passed_items known ls (n + 1) after fs d rest)

unless_ok : {A P : Type 0} (o : Option ReadRefusal) (a b : A) → unless o a ≡ Ok b → (o ≡ None → a ≡ b → P) → P
unless_ok None a b e k = k refl (let x : Ok a ≡ Ok b = e in cc)
unless_ok (Some x) a b e k = refused e

pub draft_items : (bytes : List ℕ) (d : Draft) → draft_of bytes ≡ Ok d → IsItems bytes d.items
draft_items bytes d e =
    let fs : List (Option Line) = forms_of (lines_of bytes) in
    then_ok (unless (first_fault 1 (lines_of bytes)) (outlook_of fs)) (λ known. read_from known (lines_of bytes) 1 (between nothing_done) fs) d e (λ known sound rest.
    unless_ok (first_fault 1 (lines_of bytes)) (outlook_of fs) known sound (λ none same.
    record {
      sound = none;
      placed = passed_items (outlook_of fs) (lines_of bytes) 1 (between nothing_done) fs d (subst (λ k. read_from k (lines_of bytes) 1 (between nothing_done) fs ≡ Ok d) (sym same) rest);
    }))

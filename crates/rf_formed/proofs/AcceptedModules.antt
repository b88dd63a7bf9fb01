-- A draft that was read has headers of the profile and lines that stand where they may; resolved and well typed, it is formed.
use Rattle.std.proofs.Common.{◌≡◌, ℕ, zero, suc, ◌+◌, ◌⊎◌, inl, inr, true, List, [], ◌∷◌, ◌++◌, length, Ok, refl, ◌∙◌, ap}
use Rattle.std.specs.List.{All}
use Rattle.std.proofs.lemmas.List.Elements.{All-nil, All-cons, All-weaker}
use Rattle.ir_types.specs.declared.ty.Ty.{Ty}
use Rattle.ir_types.specs.declared.ty.Ty.TheVariants.{Void, Int, Ptr, Row}
use Rattle.ir_types.specs.declared.func.Param.{Param}
use Rattle.ir_types.specs.Typed.{is_value}
use Rattle.ir_types.specs.Formed.{ids_of, IsPlain}
use Rattle.ir_draft.specs.declared.head.Head.{Head}
use Rattle.ir_draft.specs.declared.draft.Draft.{Draft}
use Rattle.ir_draft.specs.declared.draft.DraftItem.{DraftItem}
use Rattle.ir_draft.specs.declared.draft.DraftItem.TheVariants as item
use Rattle.ir_read.specs.Draft.{draft_of}
use Rattle.ir_read.specs.Bodies.{numbered_from}
use Rattle.ir_read.specs.Opaque.{joined}
use Rattle.ir_read.proofs.ItemsRead.{draft_items}
use Rattle.ir_read.proofs.Placing.{Known}
use Rattle.ir_read.proofs.ReadBodies.{body_is_read}
use Rattle.ir_types_check.specs.declared.resolved.Resolved.{Resolved}
use Rattle.ir_types_check.specs.Resolved.{resolved_of}
use Rattle.ir_types_check.proofs.BodyFormed.{HasTypes}
use Rattle.ir_types_check.proofs.BodyIds as counted
use Rattle.ir_types_check.proofs.ItemsFormed.{IsFitItem, FormedItems, resolved_is_formed}
use Rattle.ir_types_check.proofs.NamesHold.{names_hold}
use Rattle.rf_text.specs.Headed.{is_returned, IsParam, IsHead}
use Rattle.rf_text.specs.Printable.{ids_from}
use Rattle.rf_text.proofs.Cut as cuts
use Rattle.rf_text.proofs.Cut.{Cut, text_cut}
use Rattle.rf_text.proofs.Heads.Found.{head_of_line}
use Rattle.rf_text.proofs.Showable.Module.{read_plain}
use Rattle.rf_formed.specs.Accepted.{AcceptedIsFormedButForWalks, AcceptedIsFormed, AcceptedIsNumbered}

returned : (t : Ty) → is_returned t ≡ true → (t ≡ Void) ⊎ (is_value t ≡ true)
returned Void e = inl refl
returned (Int w) e = inr e
returned Ptr e = inr e
returned (Row n w) e = inr e

has_types : (h : Head) → IsHead h → HasTypes h
has_types h is = record {
  returns = returned h.ret is.parts.returned;
  params = All-weaker IsParam (λ (p : Param). is_value p.ty ≡ true) (λ p f. f.typed) h.params is.parts.typed;
}

-- each function of a text has a header of the profile and lines that stand where they may
cut_fits : {known : Known} {n : ℕ} {ls : List (List ℕ)} {xs : List DraftItem} → Cut known n ls xs → All IsFitItem xs
cut_fits (cuts.NoLine n) = All-nil IsFitItem
cut_fits (cuts.EmptyLine n l ls xs is c) = cut_fits c
cut_fits (cuts.KeptLine n l kept ls xs is c) = All-cons IsFitItem (item.Kept n kept) xs tt (cut_fits c)
cut_fits {known} (cuts.FunctionLines n l name head body forms brace ls xs first p q k is own params are stand shut last c) =
    All-cons IsFitItem (item.Func n head (numbered_from (n + 1) forms)) xs
    (record { types = has_types head (head_of_line l name head is); stands = body_is_read known.names (n + 1) k first p q body forms are stand shut }) (cut_fits c)
cut_fits (cuts.OpaqueLines n l name head body brace ls xs is own inside last c) = All-cons IsFitItem (item.Opaque n name (joined (l ∷ (body ++ brace ∷ [])))) xs tt (cut_fits c)

formed_items : (bytes : List ℕ) (d : Draft) (r : Resolved) → draft_of bytes ≡ Ok d → resolved_of d ≡ Ok r → FormedItems r.«module»
formed_items bytes d r read resolved = resolved_is_formed d r (cut_fits (text_cut bytes d.items (draft_items bytes d read))) resolved

plain : (bytes : List ℕ) (d : Draft) (r : Resolved) → draft_of bytes ≡ Ok d → resolved_of d ≡ Ok r → IsPlain r.«module»
plain bytes d r read resolved = read_plain bytes r.«module» (record { items = d.items; says = draft_items bytes d read; named = names_hold d r resolved })

pub formed_but_for_walks : AcceptedIsFormedButForWalks
formed_but_for_walks bytes d r read resolved =
    let f : FormedItems r.«module» = formed_items bytes d r read resolved in
    record { items = f.items; plain = plain bytes d r read resolved; once = f.once }

pub formed : AcceptedIsFormed
formed bytes d r read resolved available =
    let f : FormedItems r.«module» = formed_items bytes d r read resolved in
    record { items = f.items; plain = plain bytes d r read resolved; once = f.once; available = available }

same_ids : (k n : ℕ) → counted.ids_from k n ≡ ids_from k n
same_ids k zero = refl
same_ids k (suc n) = ap (λ xs. record { region = 0; k = k } ∷ xs) (same_ids (k + 1) n)

pub numbered : AcceptedIsNumbered
numbered bytes d r read resolved = (formed_items bytes d r read resolved).counted ∙ same_ids 0 (length (ids_of r.«module»))

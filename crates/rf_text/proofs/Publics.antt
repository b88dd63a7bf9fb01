-- What lines say for the whole text: its kept lines and its headers in order. Texts whose lines say the same have the same outlook.
use Rattle.std.proofs.Common.{◌≡◌, ℕ, Bool, true, false, ◌||◌, List, [], ◌∷◌, ◌++◌, map, Option, Some, None, refl, sym, ◌∙◌, ap, subst}
use Rattle.std.specs.List.{AllZip}
use Rattle.ir_draft.specs.declared.head.Head.{Head}
use Rattle.ir_draft.specs.declared.line.Line.{Line}
use Rattle.ir_draft.specs.declared.line.Line.TheVariants as line
use Rattle.ir_read.specs.Outlook.{nothing_seen, with_line, seen_from, outlook_of}
use Rattle.ir_read.proofs.Placing.{Known}

abbrev public_part : Option Line → List Line
public_part (Some (line.Kept kept)) = line.Kept kept ∷ []
public_part (Some (line.Define name head)) = line.Define name head ∷ []
public_part _ = []

-- the lines that say something for the whole text
abbrev pub publics : List (Option Line) → List Line
publics [] = []
publics (f ∷ fs) = public_part f ++ publics fs

or_false : (b : Bool) → b || false ≡ b
or_false true = refl
or_false false = refl

silent : (o : Known) → record { names = o.names; other_pointers = o.other_pointers || false } ≡ o
silent o = ap (λ (b : Bool). record { names = o.names; other_pointers = b }) (or_false o.other_pointers)

public_seen : (o : Known) (fs : List (Option Line)) → seen_from o fs ≡ seen_from o (map Some (publics fs))
public_seen o [] = refl
public_seen o (Some (line.Kept kept) ∷ fs) = public_seen (with_line o (Some (line.Kept kept))) fs
public_seen o (Some (line.Define name head) ∷ fs) = public_seen (with_line o (Some (line.Define name head))) fs
public_seen o (None ∷ fs) = ap (λ x. seen_from x fs) (silent o) ∙ public_seen o fs
public_seen o (Some line.Empty ∷ fs) = ap (λ x. seen_from x fs) (silent o) ∙ public_seen o fs
public_seen o (Some line.Close ∷ fs) = ap (λ x. seen_from x fs) (silent o) ∙ public_seen o fs
public_seen o (Some (line.Label name) ∷ fs) = ap (λ x. seen_from x fs) (silent o) ∙ public_seen o fs
public_seen o (Some (line.Stmt s) ∷ fs) = ap (λ x. seen_from x fs) (silent o) ∙ public_seen o fs
public_seen o (Some (line.Case value label) ∷ fs) = ap (λ x. seen_from x fs) (silent o) ∙ public_seen o fs
public_seen o (Some line.CasesEnd ∷ fs) = ap (λ x. seen_from x fs) (silent o) ∙ public_seen o fs

-- two headers that name the same
abbrev pub NameSame : Option Head → Option Head → Type 0
NameSame None None = Unit {0}
NameSame (Some head) (Some again) = head.name ≡ again.name
NameSame _ _ = ⊥

-- two lines that say the same for the whole text
abbrev pub SaySame : Line → Line → Type 0
SaySame (line.Kept kept) (line.Kept other) = kept ≡ other
SaySame (line.Define name head) (line.Define other again) = (name ≡ other) × NameSame head again
SaySame _ _ = ⊥

head_seen : (o : Known) (name : Option (List ℕ)) (head again : Option Head) (fs : List (Option Line)) → NameSame head again → seen_from (with_line o (Some (line.Define name head))) fs ≡ seen_from (with_line o (Some (line.Define name again))) fs
head_seen o name None None fs h = refl
head_seen o name (Some head) (Some again) fs h = ap (λ n. seen_from (with_line o (Some (line.Define name (Some (record head { name = n }))))) fs) h
head_seen o name None (Some again) fs h = absurd h
head_seen o name (Some head) None fs h = absurd h

same_seen : (o : Known) (fs gs : List Line) → AllZip SaySame fs gs → seen_from o (map Some fs) ≡ seen_from o (map Some gs)
same_seen o [] [] h = refl
same_seen o [] (g ∷ gs) h = absurd h
same_seen o (f ∷ fs) [] h = absurd h
same_seen o (line.Kept kept ∷ fs) (line.Kept other ∷ gs) h = ap (λ k. seen_from (with_line o (Some (line.Kept k))) (map Some fs)) h.0 ∙ same_seen (with_line o (Some (line.Kept other))) fs gs h.1
same_seen o (line.Define name head ∷ fs) (line.Define other again ∷ gs) h =
    ap (λ n. seen_from (with_line o (Some (line.Define n head))) (map Some fs)) h.0.0
    ∙ head_seen o other head again (map Some fs) h.0.1
    ∙ same_seen (with_line o (Some (line.Define other again))) fs gs h.1
same_seen o (_ ∷ fs) (_ ∷ gs) h = absurd h.0

-- what lines say for the whole text is what those of them say that say something
pub seen_same : (fs : List (Option Line)) (gs : List Line) → AllZip SaySame (publics fs) gs → outlook_of fs ≡ outlook_of (map Some gs)
seen_same fs gs h = public_seen nothing_seen fs ∙ same_seen nothing_seen (publics fs) gs h

pub publics_append : (fs gs : List (Option Line)) → publics (fs ++ gs) ≡ publics fs ++ publics gs
publics_append [] gs = refl
publics_append (Some (line.Kept kept) ∷ fs) gs = ap (λ x. line.Kept kept ∷ x) (publics_append fs gs)
publics_append (Some (line.Define name head) ∷ fs) gs = ap (λ x. line.Define name head ∷ x) (publics_append fs gs)
publics_append (None ∷ fs) gs = publics_append fs gs
publics_append (Some line.Empty ∷ fs) gs = publics_append fs gs
publics_append (Some line.Close ∷ fs) gs = publics_append fs gs
publics_append (Some (line.Label name) ∷ fs) gs = publics_append fs gs
publics_append (Some (line.Stmt s) ∷ fs) gs = publics_append fs gs
publics_append (Some (line.Case value label) ∷ fs) gs = publics_append fs gs
publics_append (Some line.CasesEnd ∷ fs) gs = publics_append fs gs

-- lines in front that say nothing
pub passed : (fs gs : List (Option Line)) → publics fs ≡ [] → publics (fs ++ gs) ≡ publics gs
passed fs gs e = publics_append fs gs ∙ ap (λ x. x ++ publics gs) e

head_itself : (head : Option Head) → NameSame head head
head_itself None = tt
head_itself (Some head) = refl

-- lines that say something say the same as themselves
pub say_itself : (fs : List (Option Line)) → AllZip SaySame (publics fs) (publics fs)
say_itself [] = tt
say_itself (Some (line.Kept kept) ∷ fs) = (refl, say_itself fs)
say_itself (Some (line.Define name head) ∷ fs) = ((refl, head_itself head), say_itself fs)
say_itself (None ∷ fs) = say_itself fs
say_itself (Some line.Empty ∷ fs) = say_itself fs
say_itself (Some line.Close ∷ fs) = say_itself fs
say_itself (Some (line.Label name) ∷ fs) = say_itself fs
say_itself (Some (line.Stmt s) ∷ fs) = say_itself fs
say_itself (Some (line.Case value label) ∷ fs) = say_itself fs
say_itself (Some line.CasesEnd ∷ fs) = say_itself fs

pub zip_append : {X Y : Type 0} (R : X → Y → Type 0) (xs ys : List X) (us vs : List Y) → AllZip R xs us → AllZip R ys vs → AllZip R (xs ++ ys) (us ++ vs)
zip_append R [] ys [] vs h k = k
zip_append R [] ys (u ∷ us) vs h k = absurd h
zip_append R (x ∷ xs) ys [] vs h k = absurd h
zip_append R (x ∷ xs) ys (u ∷ us) vs h k = (h.0, zip_append R xs ys us vs h.1 k)

-- Vectors of other lengths: a loop that finds no partner for a lane has met undefined behaviour.
use Rattle.std.proofs.Common.{◌≡◌, refl, sym, ap, ◌∙◌, ℕ, ◌<◌, Option, None, List, [], ◌∷◌, length, drop, arith, length-drop}
use Rattle.ir_model.specs.Values.{Lane}
use Rattle.ir_model.specs.Operations.{each_pair, chosen_lanes}
use Rattle.ir_interp.specs.Partial.{after}

unpaired : (f : Lane → Lane → Option Lane) (xs ys : List Lane) → 0 < length xs → length ys < 1 → each_pair f xs ys ≡ None
unpaired f [] ys h g = absurd (omega arith)
unpaired f (x ∷ xs) [] h g = refl
unpaired f (x ∷ xs) (y ∷ ys) h g = absurd (omega arith)

pub each_pair-short : (f : Lane → Lane → Option Lane) (done xs : List Lane) (i : ℕ) (ys : List Lane) (whole : Option (List Lane))
    → i < length xs → length ys < 1 → after done (each_pair f (drop i xs) ys) ≡ whole → None ≡ whole
each_pair-short f done xs i ys whole h g e =
    ap (after done) (sym (unpaired f (drop i xs) ys (omega (arith, length-drop i xs)) g)) ∙ e

unchosen : (cs xs ys : List Lane) → 0 < length cs → length xs < 1 → chosen_lanes cs xs ys ≡ None
unchosen [] xs ys h g = absurd (omega arith)
unchosen (c ∷ cs) [] ys h g = refl
unchosen (c ∷ cs) (x ∷ xs) ys h g = absurd (omega arith)

unchosen_other : (cs xs ys : List Lane) → 0 < length cs → length ys < 1 → chosen_lanes cs xs ys ≡ None
unchosen_other [] xs ys h g = absurd (omega arith)
unchosen_other (c ∷ cs) [] ys h g = refl
unchosen_other (c ∷ cs) (x ∷ xs) [] h g = refl
unchosen_other (c ∷ cs) (x ∷ xs) (y ∷ ys) h g = absurd (omega arith)

pub chosen_lanes-short : (done cs : List Lane) (i : ℕ) (xs ys : List Lane) (whole : Option (List Lane))
    → i < length cs → length xs < 1 → after done (chosen_lanes (drop i cs) xs ys) ≡ whole → None ≡ whole
chosen_lanes-short done cs i xs ys whole h g e =
    ap (after done) (sym (unchosen (drop i cs) xs ys (omega (arith, length-drop i cs)) g)) ∙ e

pub chosen_lanes-short_other : (done cs : List Lane) (i : ℕ) (xs ys : List Lane) (whole : Option (List Lane))
    → i < length cs → length ys < 1 → after done (chosen_lanes (drop i cs) xs ys) ≡ whole → None ≡ whole
chosen_lanes-short_other done cs i xs ys whole h g e =
    ap (after done) (sym (unchosen_other (drop i cs) xs ys (omega (arith, length-drop i cs)) g)) ∙ e

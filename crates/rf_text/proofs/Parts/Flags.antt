-- Flags as they are printed are read again, and no type or comparison after them is read as one more.
use Rattle.std.proofs.Common.{◌≡◌, ℕ, ◌⊎◌, inl, inr, Bool, true, false, not, ◌&&◌, List, [], ◌∷◌, ◌++◌, Some, None, refl, ◌∙◌, ap, subst, codes, bytes_eq}
use Rattle.std.specs.List.{list_all}
use Rattle.vx_num.specs.Keywords.{pred_word}
use Rattle.vx_num.specs.declared.operations.BinOp.{BinOp}
use Rattle.vx_num.specs.declared.operations.BinOp.TheVariants as bin
use Rattle.vx_num.specs.declared.operations.CastOp.{CastOp}
use Rattle.vx_num.specs.declared.operations.CastOp.TheVariants as cast
use Rattle.vx_num.specs.declared.operations.Pred.{Pred}
use Rattle.vx_num.specs.declared.operations.Pred.TheVariants as pred
use Rattle.vx_num.specs.declared.operations.Flags.{Flags as FlagsOf}
use Rattle.ir_types.specs.declared.ty.Ty.{Ty}
use Rattle.ir_types.specs.Typed.{has_flags}
use Rattle.ir_lex.specs.Bytes.{is_control, is_word_byte, begins_name}
use Rattle.ir_lex.specs.Scan.{texts}
use Rattle.ir_lex.proofs.Again.{stops, texts_space}
use Rattle.ir_lex.proofs.Classes.{clash}
use Rattle.ir_words.specs.Words.{Words}
use Rattle.ir_words.specs.Values.{width_of}
use Rattle.ir_words.specs.Reading.{allows, has, is_distinct}
use Rattle.ir_forms.specs.Pieces.{Takes, Flags, SpellsFlags, SpellsTy}
use Rattle.ir_forms.specs.Pieces as pieces
use Rattle.ir_forms.specs.Forms.{Slot, slot, flags_of, bin_flags, cast_flags}
use Rattle.ir_forms.proofs.Steps.{apart}
use Rattle.ir_print.specs.Instructions.{flag_text, flags_text}
use Rattle.rf_text.proofs.Parts.Of.{space_stops}
use Rattle.rf_text.proofs.Words.Read.{Taken, is_plain, plain_append, Told, is_run, run_texts}

-- a word that is no flag
pub record NoFlag (word : List ℕ) : Type 0 where
  pub nuw : bytes_eq word (codes "nuw") ≡ false
  pub nsw : bytes_eq word (codes "nsw") ≡ false
  pub exact : bytes_eq word (codes "exact") ≡ false
  pub disjoint : bytes_eq word (codes "disjoint") ≡ false
  pub nneg : bytes_eq word (codes "nneg") ≡ false
  pub inbounds : bytes_eq word (codes "inbounds") ≡ false
  pub nusw : bytes_eq word (codes "nusw") ≡ false
  pub samesign : bytes_eq word (codes "samesign") ≡ false

-- the first of these words is no flag
pub data BeginsPlain : Words → Type 0 where
  Begins : (word : List ℕ) (more : Words) → NoFlag word → BeginsPlain (word ∷ more)

no_nuw : width_of (codes "nuw") ≡ None
unfolding width_of
no_nuw = refl

no_nsw : width_of (codes "nsw") ≡ None
unfolding width_of
no_nsw = refl

no_exact : width_of (codes "exact") ≡ None
unfolding width_of
no_exact = refl

no_disjoint : width_of (codes "disjoint") ≡ None
unfolding width_of
no_disjoint = refl

no_nneg : width_of (codes "nneg") ≡ None
unfolding width_of
no_nneg = refl

no_inbounds : width_of (codes "inbounds") ≡ None
unfolding width_of
no_inbounds = refl

no_nusw : width_of (codes "nusw") ≡ None
unfolding width_of
no_nusw = refl

no_samesign : width_of (codes "samesign") ≡ None
unfolding width_of
no_samesign = refl

-- the word of an integer type is none
int_no_flag : (word : List ℕ) (w : ℕ) → width_of word ≡ Some w → NoFlag word
int_no_flag word w h = record {
  nuw = apart width_of (codes "nuw") word w no_nuw h;
  nsw = apart width_of (codes "nsw") word w no_nsw h;
  exact = apart width_of (codes "exact") word w no_exact h;
  disjoint = apart width_of (codes "disjoint") word w no_disjoint h;
  nneg = apart width_of (codes "nneg") word w no_nneg h;
  inbounds = apart width_of (codes "inbounds") word w no_inbounds h;
  nusw = apart width_of (codes "nusw") word w no_nusw h;
  samesign = apart width_of (codes "samesign") word w no_samesign h;
}

pub open_no_flag : NoFlag (codes "[")
open_no_flag = record { nuw = refl; nsw = refl; exact = refl; disjoint = refl; nneg = refl; inbounds = refl; nusw = refl; samesign = refl }

ptr_no_flag : NoFlag (codes "ptr")
ptr_no_flag = record { nuw = refl; nsw = refl; exact = refl; disjoint = refl; nneg = refl; inbounds = refl; nusw = refl; samesign = refl }

less_no_flag : NoFlag (codes "<")
less_no_flag = record { nuw = refl; nsw = refl; exact = refl; disjoint = refl; nneg = refl; inbounds = refl; nusw = refl; samesign = refl }

pub pred_no_flag : (p : Pred) → NoFlag (pred_word p)
pred_no_flag pred.Eq = record { nuw = refl; nsw = refl; exact = refl; disjoint = refl; nneg = refl; inbounds = refl; nusw = refl; samesign = refl }
pred_no_flag pred.Ne = record { nuw = refl; nsw = refl; exact = refl; disjoint = refl; nneg = refl; inbounds = refl; nusw = refl; samesign = refl }
pred_no_flag pred.Ugt = record { nuw = refl; nsw = refl; exact = refl; disjoint = refl; nneg = refl; inbounds = refl; nusw = refl; samesign = refl }
pred_no_flag pred.Uge = record { nuw = refl; nsw = refl; exact = refl; disjoint = refl; nneg = refl; inbounds = refl; nusw = refl; samesign = refl }
pred_no_flag pred.Ult = record { nuw = refl; nsw = refl; exact = refl; disjoint = refl; nneg = refl; inbounds = refl; nusw = refl; samesign = refl }
pred_no_flag pred.Ule = record { nuw = refl; nsw = refl; exact = refl; disjoint = refl; nneg = refl; inbounds = refl; nusw = refl; samesign = refl }
pred_no_flag pred.Sgt = record { nuw = refl; nsw = refl; exact = refl; disjoint = refl; nneg = refl; inbounds = refl; nusw = refl; samesign = refl }
pred_no_flag pred.Sge = record { nuw = refl; nsw = refl; exact = refl; disjoint = refl; nneg = refl; inbounds = refl; nusw = refl; samesign = refl }
pred_no_flag pred.Slt = record { nuw = refl; nsw = refl; exact = refl; disjoint = refl; nneg = refl; inbounds = refl; nusw = refl; samesign = refl }
pred_no_flag pred.Sle = record { nuw = refl; nsw = refl; exact = refl; disjoint = refl; nneg = refl; inbounds = refl; nusw = refl; samesign = refl }

-- a type begins with no flag
pub ty_begins : {t : Ty} {ts rest : Words} → SpellsTy t ts rest → BeginsPlain ts
ty_begins (pieces.Integer w word rest h) = Begins word rest (int_no_flag word w h)
ty_begins (pieces.Pointer rest) = Begins (codes "ptr") rest ptr_no_flag
ty_begins (pieces.Vector n w count word rest hn hw row) = Begins (codes "<") _ less_no_flag

no_more : (set : Taken allows) → ((word : List ℕ) → NoFlag word → allows set word ≡ false) → (ws : Words) → BeginsPlain ws → (word : List ℕ) (more : Words) → ws ≡ word ∷ more → allows set word ≡ false
no_more set refuses [] b word more e = cc
no_more set refuses (_ ∷ _) (Begins w ws n) word more e = let same : w ≡ word = cc in subst (λ (x : List ℕ). allows set x ≡ false) same (refuses w n)

-- these bytes, in front of a space, are these flags of the set
pub record FlagsText (set : Taken allows) (fs : Words) (bs : List ℕ) : Type 0 where
  pub plain : list_all is_plain bs ≡ true
  pub words : (rest : List ℕ) → texts (bs ++ (32 ∷ rest)) ≡ fs ++ texts rest
  pub stopped : (rest : List ℕ) → stops (bs ++ (32 ∷ rest)) ≡ true
  pub of_set : list_all (allows set) fs ≡ true
  pub once : is_distinct fs ≡ true

pub told_flags : (set : Taken allows) (fs : Words) {bs rest : List ℕ} {ss : List Slot} → ((word : List ℕ) → NoFlag word → allows set word ≡ false) → FlagsText set fs bs →
    BeginsPlain (texts rest) → Told ss rest → Told (slot (Flags set) fs ∷ ss) (bs ++ (32 ∷ rest))
unfolding is_control
told_flags set fs {bs} {rest} refuses f begins told = record {
  plain = plain_append bs (32 ∷ rest) f.plain told.plain;
  spelled = (texts rest, record { front = f.words rest; of_set = f.of_set; once = f.once; no_more = no_more set refuses (texts rest) begins }, told.spelled);
}

-- the words of one flag that is set or not
abbrev pub flag_word : Bool → List ℕ → Words
flag_word true w = w ∷ []
flag_word false w = []

spaced_words : (w rest : List ℕ) → is_run w ≡ true → stops rest ≡ true → texts (32 ∷ (w ++ rest)) ≡ w ∷ texts rest
spaced_words w rest h stop = texts_space (w ++ rest) ∙ run_texts w rest h stop

spaced_end : (w rest : List ℕ) → is_run w ≡ true → texts (32 ∷ (w ++ (32 ∷ rest))) ≡ w ∷ texts rest
unfolding is_word_byte begins_name
spaced_end w rest h = spaced_words w (32 ∷ rest) h refl ∙ ap (λ (ws : Words). w ∷ ws) (texts_space rest)

pub no_flags : (set : Taken allows) → FlagsText set [] []
no_flags set = record { plain = refl; words = texts_space; stopped = space_stops; of_set = refl; once = refl }

-- a set of a flag that is printed
pub one_flag : (set : Taken allows) (w : List ℕ) (b : Bool) → is_run w ≡ true → list_all is_plain w ≡ true → allows set w ≡ true → FlagsText set (flag_word b w) (flag_text b w)
unfolding is_control
one_flag set w false h plain of_set = no_flags set
one_flag set w true h plain of_set = record { plain = plain; words = λ rest. spaced_end w rest h; stopped = λ rest. space_stops (w ++ (32 ∷ rest)); of_set = rw of_set refl; once = refl }

abbrev wrap_words : Bool → Bool → Words
wrap_words nuw nsw = flag_word nuw (codes "nuw") ++ flag_word nsw (codes "nsw")

wrap_text : (nuw nsw : Bool) → FlagsText (bin_flags bin.Add) (wrap_words nuw nsw) (flag_text nuw (codes "nuw") ++ flag_text nsw (codes "nsw"))
unfolding is_control is_word_byte begins_name
wrap_text false false = no_flags _
wrap_text true false = record { plain = refl; words = λ rest. spaced_end (codes "nuw") rest refl; stopped = λ rest. refl; of_set = refl; once = refl }
wrap_text false true = record { plain = refl; words = λ rest. spaced_end (codes "nsw") rest refl; stopped = λ rest. refl; of_set = refl; once = refl }
wrap_text true true = record {
  plain = refl;
  words = λ rest. spaced_words (codes "nuw") (codes " nsw " ++ rest) refl refl ∙ ap (λ (ws : Words). codes "nuw" ∷ ws) (spaced_end (codes "nsw") rest refl);
  stopped = λ rest. refl;
  of_set = refl;
  once = refl;
}

abbrev pub bin_words : BinOp → FlagsOf → Words
bin_words bin.Add f = wrap_words f.nuw f.nsw
bin_words bin.Sub f = wrap_words f.nuw f.nsw
bin_words bin.Mul f = wrap_words f.nuw f.nsw
bin_words bin.Shl f = wrap_words f.nuw f.nsw
bin_words bin.Udiv f = flag_word f.exact (codes "exact")
bin_words bin.Sdiv f = flag_word f.exact (codes "exact")
bin_words bin.Urem f = []
bin_words bin.Srem f = []
bin_words bin.Lshr f = flag_word f.exact (codes "exact")
bin_words bin.Ashr f = flag_word f.exact (codes "exact")
bin_words bin.And f = []
bin_words bin.Or f = flag_word f.disjoint (codes "disjoint")
bin_words bin.Xor f = []

exact_text : (b : Bool) → FlagsText (bin_flags bin.Udiv) (flag_word b (codes "exact")) (flag_text b (codes "exact"))
unfolding is_control is_word_byte begins_name
exact_text b = one_flag _ (codes "exact") b refl refl refl

disjoint_text : (b : Bool) → FlagsText (bin_flags bin.Or) (flag_word b (codes "disjoint")) (flag_text b (codes "disjoint"))
unfolding is_control is_word_byte begins_name
disjoint_text b = one_flag _ (codes "disjoint") b refl refl refl

pub bin_flags_text : (op : BinOp) (f : FlagsOf) → FlagsText (bin_flags op) (bin_words op f) (flags_text op f)
bin_flags_text bin.Add f = wrap_text f.nuw f.nsw
bin_flags_text bin.Sub f = wrap_text f.nuw f.nsw
bin_flags_text bin.Mul f = wrap_text f.nuw f.nsw
bin_flags_text bin.Shl f = wrap_text f.nuw f.nsw
bin_flags_text bin.Udiv f = exact_text f.exact
bin_flags_text bin.Sdiv f = exact_text f.exact
bin_flags_text bin.Urem f = no_flags _
bin_flags_text bin.Srem f = no_flags _
bin_flags_text bin.Lshr f = exact_text f.exact
bin_flags_text bin.Ashr f = exact_text f.exact
bin_flags_text bin.And f = no_flags _
bin_flags_text bin.Or f = disjoint_text f.disjoint
bin_flags_text bin.Xor f = no_flags _

-- flags that an operation may have are those of its words

abbrev flags : Bool → Bool → Bool → Bool → FlagsOf
flags nuw nsw exact disjoint = record { nuw = nuw; nsw = nsw; exact = exact; disjoint = disjoint }

wrap_again : (a b c d : Bool) → not c && not d ≡ true → flags_of (wrap_words a b) ≡ flags a b c d
wrap_again true true false false h = refl
wrap_again true false false false h = refl
wrap_again false true false false h = refl
wrap_again false false false false h = refl
wrap_again a b true d h = clash false refl h
wrap_again a b false true h = clash false refl h

exact_again : (a b c d : Bool) → not a && not b && not d ≡ true → flags_of (flag_word c (codes "exact")) ≡ flags a b c d
exact_again false false true false h = refl
exact_again false false false false h = refl
exact_again true b c d h = clash false refl h
exact_again false true c d h = clash false refl h
exact_again false false c true h = clash false refl h

disjoint_again : (a b c d : Bool) → not a && not b && not c ≡ true → flags_of (flag_word d (codes "disjoint")) ≡ flags a b c d
disjoint_again false false false true h = refl
disjoint_again false false false false h = refl
disjoint_again true b c d h = clash false refl h
disjoint_again false true c d h = clash false refl h
disjoint_again false false true d h = clash false refl h

none_again : (a b c d : Bool) → not a && not b && not c && not d ≡ true → flags_of [] ≡ flags a b c d
none_again false false false false h = refl
none_again true b c d h = clash false refl h
none_again false true c d h = clash false refl h
none_again false false true d h = clash false refl h
none_again false false false true h = clash false refl h

pub flags_again : (op : BinOp) (f : FlagsOf) → has_flags op f ≡ true → flags_of (bin_words op f) ≡ f
flags_again bin.Add f h = wrap_again f.nuw f.nsw f.exact f.disjoint h
flags_again bin.Sub f h = wrap_again f.nuw f.nsw f.exact f.disjoint h
flags_again bin.Mul f h = wrap_again f.nuw f.nsw f.exact f.disjoint h
flags_again bin.Shl f h = wrap_again f.nuw f.nsw f.exact f.disjoint h
flags_again bin.Udiv f h = exact_again f.nuw f.nsw f.exact f.disjoint h
flags_again bin.Sdiv f h = exact_again f.nuw f.nsw f.exact f.disjoint h
flags_again bin.Urem f h = none_again f.nuw f.nsw f.exact f.disjoint h
flags_again bin.Srem f h = none_again f.nuw f.nsw f.exact f.disjoint h
flags_again bin.Lshr f h = exact_again f.nuw f.nsw f.exact f.disjoint h
flags_again bin.Ashr f h = exact_again f.nuw f.nsw f.exact f.disjoint h
flags_again bin.And f h = none_again f.nuw f.nsw f.exact f.disjoint h
flags_again bin.Or f h = disjoint_again f.nuw f.nsw f.exact f.disjoint h
flags_again bin.Xor f h = none_again f.nuw f.nsw f.exact f.disjoint h

-- what is no flag is none of an operation's
pub bin_refuses : (op : BinOp) (word : List ℕ) → NoFlag word → allows (bin_flags op) word ≡ false
bin_refuses bin.Add word n = rw (n.nuw, n.nsw) refl
bin_refuses bin.Sub word n = rw (n.nuw, n.nsw) refl
bin_refuses bin.Mul word n = rw (n.nuw, n.nsw) refl
bin_refuses bin.Shl word n = rw (n.nuw, n.nsw) refl
bin_refuses bin.Udiv word n = n.exact
bin_refuses bin.Sdiv word n = n.exact
bin_refuses bin.Urem word n = refl
bin_refuses bin.Srem word n = refl
bin_refuses bin.Lshr word n = n.exact
bin_refuses bin.Ashr word n = n.exact
bin_refuses bin.And word n = refl
bin_refuses bin.Or word n = n.disjoint
bin_refuses bin.Xor word n = refl

pub cast_refuses : (op : CastOp) (word : List ℕ) → NoFlag word → allows (cast_flags op) word ≡ false
cast_refuses cast.Zext word n = n.nneg
cast_refuses cast.Sext word n = refl
cast_refuses cast.Trunc word n = rw (n.nuw, n.nsw) refl

-- the flag of a conversion, which only `zext` has
pub cast_flags_text : (op : CastOp) (nneg : Bool) → (nneg ≡ false) ⊎ (op ≡ cast.Zext) → FlagsText (cast_flags op) (flag_word nneg (codes "nneg")) (flag_text nneg (codes "nneg"))
unfolding is_control is_word_byte begins_name
cast_flags_text op nneg (inl none) = rw none (no_flags _)
cast_flags_text op nneg (inr zext) = rw zext (one_flag (cast_flags cast.Zext) (codes "nneg") nneg refl refl refl)

-- a flag is among the words where it is set
pub flag_has : (b : Bool) (w : List ℕ) → bytes_eq w w ≡ true → has w (flag_word b w) ≡ b
flag_has true w same = rw same refl
flag_has false w same = refl

pub flag_stops : (b : Bool) (w rest : List ℕ) → stops (flag_text b w ++ (32 ∷ rest)) ≡ true
unfolding is_word_byte begins_name
flag_stops true w rest = refl
flag_stops false w rest = refl

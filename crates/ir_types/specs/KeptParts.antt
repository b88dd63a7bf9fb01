-- The parts of a header that are kept as bytes: what stands before the type, the attributes of a parameter, and what stands after
-- the parameters.
--
-- Such a part means nothing, but what is kept is printed, and what is printed must be read again as the same. So each is described as
-- a line of its own, whatever stood or will stand around it.
use Rattle.std.specs.Prelude.{◌≡◌, refl, ℕ, Bool, true, false, None, List, [], codes}
use Rattle.std.specs.List.{All, list_all}
use Rattle.ir_lex.specs.Bytes.{begins_name, is_word_byte, is_digit, is_sigil, is_mark, is_blank, is_control}
use Rattle.ir_lex.specs.Ends.{ends_outside}
use Rattle.ir_lex.specs.Scan.{string_len, more_len, cut, texts, fault_of}
use Rattle.ir_lex.specs.Words.{word}
use Rattle.ir_types.specs.declared.func.Param.{Param}
use Rattle.ir_types.specs.HeaderWords.{span, begins_ascii, are_passed, are_attributes, stands, is_banned}

-- bytes that may be kept: nothing, or bytes that begin and end with a token
pub record IsKeptPart (part : List ℕ) : Type 0 where
  -- no control byte, and no string that does not close
  pub sound : fault_of part ≡ None
  -- no comment, so that what is printed after the part is read as it would be alone
  pub ends : ends_outside part ≡ true
  -- the bytes from the first to the last token are all of them
  pub tight : span part (cut part) ≡ part
  -- no token begins with a byte of 128 or above
  pub ascii : list_all begins_ascii (texts part) ≡ true

-- what may stand between `define` and the type
pub record IsBefore (part : List ℕ) : Type 0 where
  pub kept : IsKeptPart part
  pub passed : are_passed 0 (texts part) ≡ true

-- what may stand between a parameter's type and its name, where it has `noalias` or not
pub record IsAttributes (noalias : Bool) (part : List ℕ) : Type 0 where
  pub kept : IsKeptPart part
  pub attributes : are_attributes 0 (texts part) ≡ true
  pub allowed : is_banned (texts part) ≡ false
  pub told : noalias ≡ stands (codes "noalias") 0 (texts part)

-- the parts of a header that are kept as bytes
pub record IsKeptHeader (before : List ℕ) (params : List Param) (after : List ℕ) : Type 0 where
  pub in_front : IsBefore before
  pub attributed : All (λ (p : Param). IsAttributes p.noalias p.attrs) params
  pub at_end : IsKeptPart after

-- attributes with a string in them are such a part
section : IsKeptPart (codes "section \"a;b\" align 8")
unfolding ends_outside cut texts word string_len more_len begins_name is_word_byte is_digit is_sigil is_mark is_blank is_control
section = record { sound = refl; ends = refl; tight = refl; ascii = refl }

-- spaces at either end are of no part
around : span (codes " nonnull ") (cut (codes " nonnull ")) ≡ codes "nonnull"
unfolding cut word more_len begins_name is_word_byte is_digit is_sigil is_mark is_blank
around = refl

-- a parameter that says `noalias` among its attributes is one that has it
noalias_told : IsAttributes true (codes "noalias")
unfolding ends_outside cut texts word more_len begins_name is_word_byte is_digit is_sigil is_mark is_blank is_control
noalias_told = record { kept = record { sound = refl; ends = refl; tight = refl; ascii = refl }; attributes = refl; allowed = refl; told = refl }

-- one that does not say so has it not, whatever the module says
noalias_untold : IsAttributes true (codes "nonnull") → ⊥
unfolding texts more_len begins_name is_word_byte is_digit is_sigil is_mark is_blank
noalias_untold h = let told : true ≡ false = h.told in cc

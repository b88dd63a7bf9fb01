-- The header of a function as it is printed, and what a header is that is read again as the same.
use Rattle.std.specs.Prelude.{◌≡◌, refl, ℕ, ◌+◌, ◌^◌, ◌≤◌, Bool, true, false, ◌&&◌, ◌||◌, Option, Some, None, List, [], ◌∷◌, ◌++◌, codes, bytes_eq, length}
use Rattle.std.specs.Fmt.{digits}
use Rattle.std.specs.List.{All, list_all}
use Rattle.ir_lex.specs.Bytes.{begins_name, is_digit}
use Rattle.ir_lex.specs.Scan.{cut, texts, fault_of}
use Rattle.ir_lex.specs.Tokens.{is_name, is_number}
use Rattle.ir_types.specs.declared.ty.Ty.{Ty}
use Rattle.ir_types.specs.declared.ty.Ty.TheVariants.{Void, Int, Ptr}
use Rattle.ir_types.specs.declared.func.Param.{Param}
use Rattle.ir_types.specs.declared.func.Func.{Func}
use Rattle.ir_types.specs.Typed.{is_value}
use Rattle.ir_draft.specs.declared.head.Head.{Head}
use Rattle.ir_draft.specs.declared.line.Line.TheVariants.{Define}
use Rattle.ir_words.specs.Values.{plain_number}
use Rattle.ir_line.specs.Keeping.{first_symbol, or_later}
use Rattle.ir_line.specs.Headers.{header}
use Rattle.ir_read.specs.Forms.{form_in}
use Rattle.ir_print.specs.declared.names.Local.{Local}
use Rattle.ir_print.specs.Names.{Names, Named, Value, Label, named_of, names_of, local_of}
use Rattle.ir_print.specs.Operands.{spaced}
use Rattle.ir_print.specs.Text.{params_text, head_text, header_text}
use Rattle.ir_types.specs.KeptParts.{IsKeptPart, IsBefore, IsAttributes}

-- the name of a local, as it stands after `%`: a plain name, or a number without leading zeros
abbrev pub is_local_name : List ℕ → Bool
is_local_name name = is_name name || (is_number name && bytes_eq (plain_number name) name)

-- a type that a function may give
abbrev pub is_returned : Ty → Bool
is_returned Void = true
is_returned t = is_value t

-- a parameter of the profile, but for its name
pub record IsParam (p : Param) : Type 0 where
  pub typed : is_value p.ty ≡ true
  pub attributed : IsAttributes p.noalias p.attrs

-- the parts of a header of the profile
pub record IsHeader (before : List ℕ) (ret : Ty) (name : List ℕ) (params : List Param) (after : List ℕ) : Type 0 where
  pub in_front : IsBefore before
  pub returned : is_returned ret ≡ true
  pub named : is_name name ≡ true
  pub typed : All IsParam params
  pub at_end : IsKeptPart after

-- whether a parameter's written name, if it has one, is the name of a local
abbrev pub is_written : Option (List ℕ) → Bool
is_written None = true
is_written (Some name) = is_local_name name

-- a header as it is read
pub record IsHead (h : Head) : Type 0 where
  pub parts : IsHeader h.before h.ret h.name h.params h.after
  pub written : All (λ p. is_written p.name ≡ true) h.params

-- every header of the profile that is read is one
abbrev pub HeadersAreHeads : Type 0
HeadersAreHeads = (line : List ℕ) (h : Head) → fault_of line ≡ None → header line (cut line) ≡ Some h → IsHead h

-- so is every header of the profile that a line has outside functions
abbrev pub HeadsOfLines : Type 0
HeadsOfLines = (l : List ℕ) (name : Option (List ℕ)) (h : Head) → form_in false l ≡ Some (Define name (Some h)) → IsHead h

-- whether a value is shown, and by the name of a local
abbrev pub is_shown : Option Local → Bool
is_shown None = false
is_shown (Some l) = is_local_name l.text

-- a function whose header is of the profile, and whose parameters are all shown
pub record IsHeaded (ns : Names) (f : Func) : Type 0 where
  pub parts : IsHeader f.before f.ret f.name f.params f.after
  pub shown : All (λ p. is_shown (local_of p.id ns.locals) ≡ true) f.params

-- whether the written name of a value, if it has one, is the name of a local
abbrev pub is_named : Named → Bool
is_named (Value id ty name) = is_written name
is_named (Label name) = true

-- where written names are names of locals, every parameter of a function is shown by the name of a local
abbrev pub ParamsAreShown : Type 0
ParamsAreShown =
    (f : Func) → list_all is_named (named_of f) ≡ true → length (named_of f) ≤ 2 ^ 64 → All (λ p. is_shown (local_of p.id (names_of f).locals) ≡ true) f.params

-- the header line
abbrev pub header_line : Names → Func → List ℕ
header_line ns f = head_text f ++ (codes "(" ++ (params_text ns f.params ++ (codes ")" ++ (spaced f.after ++ codes " {"))))

-- the name by which a parameter is shown
abbrev pub shown_name : Option Local → Option (List ℕ)
shown_name None = None
shown_name (Some l) = Some l.text

-- a parameter as it is shown, which stands at a place
abbrev pub shown_param : Names → ℕ → Param → Param
shown_param ns at p = record {
  id = record { region = 0; k = at };
  name = shown_name (local_of p.id ns.locals);
  ty = p.ty;
  attrs = p.attrs;
  noalias = p.noalias;
}

abbrev pub shown_params : Names → ℕ → List Param → List Param
shown_params ns at [] = []
shown_params ns at (p ∷ ps) = shown_param ns at p ∷ shown_params ns (at + 1) ps

-- the header of a function, each parameter by the name or number that is shown of it
abbrev pub shown_head : Names → Func → Head
shown_head ns f = record { before = f.before; ret = f.ret; name = f.name; params = shown_params ns 0 f.params; after = f.after }

-- the first plain symbol of the header line: one that stands before the function's name, or that name
abbrev pub first_name : Func → Option (List ℕ)
first_name f = or_later (first_symbol (texts f.before)) (Some f.name)

-- the header line of a function, and what it is read as
pub record HeaderAgain (ns : Names) (f : Func) : Type 0 where
  pub text : header_text ns f ≡ header_line ns f ++ codes "\n"
  pub form : form_in false (header_line ns f) ≡ Some (Define (first_name f) (Some (shown_head ns f)))

-- a function's header is read as it is shown
abbrev pub HeadersAgain : Type 0
HeadersAgain = (ns : Names) (f : Func) → IsHeaded ns f → HeaderAgain ns f

-- a number is the name of a local, but not with a leading zero
zero : is_local_name (codes "0") ≡ true
unfolding begins_name is_digit
zero = refl

seven : is_local_name (codes "07") ≡ false
unfolding begins_name is_digit
seven = refl

-- a function with a parameter that has a name and one that is numbered
abbrev example : Func
example = record {
  before = codes "dso_local";
  ret = Int 32;
  name = codes "f";
  params =
      record { id = record { region = 0; k = 0 }; name = Some (codes "p"); ty = Ptr; attrs = codes "noalias"; noalias = true }
      ∷ record { id = record { region = 0; k = 1 }; name = None; ty = Int 64; attrs = []; noalias = false } ∷ [];
  after = codes "#0";
  blocks = [];
}

example_line : header_line (names_of example) example ≡ codes "define dso_local i32 @f(ptr noalias %p, i64 %0) #0 {"
unfolding digits
example_line = refl

-- The lines of a module's text, and the form of each.
use Rattle.std.specs.Prelude.{◌≡◌, refl, ℕ, None, List, [], ◌∷◌, codes}
use Rattle.ir_lex.specs.Bytes.{is_blank, is_sigil, is_mark, is_word_byte, is_control, begins_name}
use Rattle.ir_lex.specs.Scan.{cut, texts, more_len, name_len}
use Rattle.ir_lex.specs.Words.{word}
use Rattle.ir_types.specs.declared.ty.Ty.TheVariants.{Void}
use Rattle.ir_types.specs.declared.op.Op.TheVariants.{Ret}
use Rattle.ir_types.specs.declared.module.Item.TheVariants.{Kept, Func}
use Rattle.ir_types.specs.declared.module.Module.{Module}
use Rattle.ir_types.specs.Formed.{IsFormed}
use Rattle.ir_line.specs.Keeping.{keeps_mark, keeps_word}
use Rattle.ir_words.specs.Values.{symbol_of, local_of, act_of}
use Rattle.ir_forms.specs.Operands.{labelled_at}
use Rattle.ir_forms.specs.Forms.{form, plain_line, act_line, by_act, returns}
use Rattle.ir_line.specs.Headers.{header, head_of, ret_of, params_at}
use Rattle.ir_line.specs.Body.{read_body, read_form}
use Rattle.ir_line.specs.Outside.{read_outside}
use Rattle.ir_print.specs.Text.{text_of}
use Rattle.ir_read.specs.Faults.{first_fault}
use Rattle.ir_read.specs.Forms.{form_in, form_by, forms_of}
use Rattle.ir_read.specs.Lines.{lines_of}
use Rattle.rf_text.specs.LinesOf.{joined}
use Rattle.rf_text.specs.ModuleForms.{module_forms}
use Rattle.rf_text.specs.Printable.{IsPrintable, IsCounted}

-- the text of the module is lines without a lexical fault, which are read as the forms that the module has, or have none as there
pub record TextLines (m : Module) : Type 0 where
  pub lines : List (List ℕ)
  pub whole : text_of m ≡ joined lines
  -- a line of a function is read as one inside a function, any other as one outside
  pub forms : forms_of lines ≡ module_forms m
  pub sound : first_fault 1 lines ≡ None
  -- they are the lines that the text is cut into
  pub again : lines_of (text_of m) ≡ lines

-- so it is of each module that is formed and printable
abbrev pub TextsAreLines : Type 0
TextsAreLines = (m : Module) → IsFormed m → IsPrintable m → IsCounted m → TextLines m

-- a source file's name, and a function after it
named : Module
named = record {
  items = Kept (codes "source_filename = \"a\"")
      ∷ Func (record {
        before = [];
        ret = Void;
        name = codes "f";
        params = [];
        after = [];
        blocks = record { name = None; insts = record { id = record { region = 0; k = 0 }; name = None; ty = Void; op = Ret; opds = [] } ∷ [] } ∷ [];
      }) ∷ [];
  globals = [];
  big_endian_line = None;
}

named_lines : List (List ℕ)
named_lines = codes "source_filename = \"a\"" ∷ [] ∷ codes "define void @f() {" ∷ codes "  ret void" ∷ codes "}" ∷ []

named_whole : text_of named ≡ joined named_lines
unfolding named named_lines
named_whole = refl

named_forms : forms_of named_lines ≡ module_forms named
unfolding named named_lines form_in form_by read_outside cut texts more_len name_len is_blank is_sigil is_mark is_word_byte is_control begins_name keeps_mark keeps_word word symbol_of local_of act_of labelled_at header head_of ret_of params_at read_body read_form form plain_line act_line by_act returns
named_forms = refl

-- Small texts and what they are, computed by the definitions.
use Rattle.std.specs.Prelude.{◌≡◌, refl, codes, Some, None, Ok, Err, [], ◌∷◌}
use Rattle.ir_lex.specs.Bytes.{is_blank, is_sigil, is_mark, is_word_byte, is_control, begins_name}
use Rattle.ir_lex.specs.Scan.{cut, more_len, name_len}
use Rattle.ir_lex.specs.Words.{word}
use Rattle.ir_types.specs.declared.ty.Ty.TheVariants.{Void}
use Rattle.ir_types.specs.declared.op.Op.TheVariants.{Ret}
use Rattle.ir_draft.specs.declared.line.Line.TheVariants.{Stmt}
use Rattle.ir_draft.specs.declared.draft.DraftItem.TheVariants.{Func, Opaque}
use Rattle.ir_line.specs.Keeping.{keeps_mark, keeps_word}
use Rattle.ir_words.specs.Values.{symbol_of, local_of, act_of, width_of, label_of}
use Rattle.ir_forms.specs.Operands.{labelled_at}
use Rattle.ir_words.specs.Reading.{kind_at, ty_at}
use Rattle.ir_line.specs.Calls.{call, call_for}
use Rattle.ir_forms.specs.Forms.{form, plain_line, act_line, by_act, returns, choices, choice}
use Rattle.ir_line.specs.Headers.{header, head_of, ret_of, params_at}
use Rattle.ir_line.specs.Body.{read_body, read_form}
use Rattle.ir_line.specs.Outside.{read_outside}
use Rattle.ir_read.specs.declared.refusal.ReadRefusal.TheVariants.{Lex, NotALine, Misplaced}
use Rattle.ir_read.specs.Forms.{form_by, form_in}
use Rattle.ir_read.specs.Numbers.{after_name}
use Rattle.ir_read.specs.Limits.{with_function, passed}
use Rattle.ir_read.specs.Position.{after_label, after_stmt, opened, at_close}
use Rattle.ir_read.specs.Function.{opened_by, after_inst, with_line}
use Rattle.ir_read.specs.Opaque.{is_opaque, passed_label, text_at}
use Rattle.ir_read.specs.Draft.{draft_of, header_line, function_line, line_inside, closed, with_opaque}

-- a text without a line
empty_text : draft_of [] ≡ Ok (record { items = [] })
unfolding passed
empty_text = refl

-- a line that is none of the profile
hello : draft_of (codes "hello") ≡ Err (NotALine 1)
unfolding form_in form_by read_outside cut more_len is_blank is_sigil is_mark is_word_byte begins_name keeps_mark keeps_word word is_control
hello = refl

-- a lexical fault after it comes first
fault_first : draft_of (codes "hello\n \u{1}") ≡ Err (Lex 2 2)
unfolding is_control
fault_first = refl

-- a function without its brace
cut_off : draft_of (codes "define void @a() {\n  ret void") ≡ Err (Misplaced 3)
unfolding form_in form_by read_outside cut more_len name_len is_blank is_sigil is_mark is_word_byte is_control begins_name keeps_mark keeps_word word symbol_of local_of act_of labelled_at header head_of ret_of params_at read_body read_form form plain_line act_line by_act returns function_line is_opaque header_line opened_by line_inside after_inst after_stmt
cut_off = refl

-- a function of one block
one_block : draft_of (codes "define void @a() {\n  ret void\n}\n") ≡ Ok (record {
  items = Func 1 (record { before = []; ret = Void; name = codes "a"; params = []; after = [] })
      (record { line = 2; form = Stmt (record { result = None; ty = Void; op = Ret; args = []; labels = [] }) } ∷ []) ∷ [];
})
unfolding form_in form_by read_outside cut more_len name_len is_blank is_sigil is_mark is_word_byte is_control begins_name keeps_mark keeps_word word symbol_of local_of act_of labelled_at header head_of ret_of params_at read_body read_form form plain_line act_line by_act returns function_line is_opaque header_line opened_by line_inside after_inst after_stmt opened at_close closed with_line with_function passed
one_block = refl

-- a function with a line that is none of the profile; an empty line in it is kept, and a brace with other tokens does not end it
kept_whole : draft_of (codes "define void @a() {\n } }\n\n ret void\n}\n") ≡ Ok (record { items = Opaque 1 (Some (codes "a")) (codes "define void @a() {\n } }\n\n ret void\n}") ∷ [] })
unfolding form_in form_by read_outside cut more_len name_len is_blank is_sigil is_mark is_word_byte is_control begins_name keeps_mark keeps_word word symbol_of local_of act_of labelled_at header head_of ret_of params_at read_body read_form form plain_line act_line by_act returns function_line is_opaque text_at with_opaque passed choices choice kind_at ty_at width_of call call_for
kept_whole = refl

-- a misplaced line, in a function that a later line makes opaque, and in one of the profile
misplaced_first : draft_of (codes "define void @a() {\nb:\nc:\n fence\n}\n") ≡ Ok (record { items = Opaque 1 (Some (codes "a")) (codes "define void @a() {\nb:\nc:\n fence\n}") ∷ [] })
unfolding form_in form_by read_outside cut more_len name_len is_blank is_sigil is_mark is_word_byte is_control begins_name keeps_mark keeps_word word symbol_of local_of act_of labelled_at header head_of ret_of params_at read_body read_form form plain_line act_line by_act returns function_line is_opaque passed_label text_at with_opaque passed label_of choices choice kind_at ty_at width_of call call_for
misplaced_first = refl

misplaced_alone : draft_of (codes "define void @a() {\nb:\nc:\n}\n") ≡ Err (Misplaced 3)
unfolding form_in form_by read_outside cut more_len name_len is_blank is_sigil is_mark is_word_byte is_control begins_name keeps_mark keeps_word word symbol_of local_of act_of labelled_at header head_of ret_of params_at read_body read_form form plain_line act_line by_act returns function_line is_opaque passed_label header_line opened_by line_inside after_label with_line passed label_of after_name
misplaced_alone = refl

-- A brace is alone where no token follows it.
use Rattle.std.proofs.Common.{◌∙◌, sym}
use Rattle.std.proofs.lemmas.List.{take_rest}
use Rattle.ir_lex.specs.Scan.{texts}
use Rattle.ir_read.proofs.LoneBraces.{alone_at}
use Rattle.ir_read.proofs.braces.is_lone_brace.Goals as goal

pub returns-then-byte-eq125 : goal.returns-then-byte-eq125
unfolding texts
returns-then-byte-eq125 c =
    c.has_no_token.ensures ∙ sym (alone_at _ _ c.in-len1-up.len_at_least (take_rest _ 1) (sym c.is_blank.ensures ∙ c.if-not-is_blank.true) c.if-byte-eq125.true) ∙ c.each.invariant

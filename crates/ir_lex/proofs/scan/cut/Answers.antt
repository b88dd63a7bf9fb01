-- A turn of the loop takes one token.
use Rattle.std.proofs.Common.{sym, ◌∙◌}
use Rattle.std.proofs.lemmas.List.{take_rest}
use Rattle.ir_lex.proofs.Cutting.{cut_next}
use Rattle.ir_lex.proofs.scan.cut.Goals as goal

pub each-preserved : goal.each-preserved
each-preserved c =
    cut_next _ _ _ _ _ _ c.each.rest.now _ _ c.in-len1-up.len_at_least (take_rest _ 1) (sym c.is_blank.ensures ∙ c.if-is_blank.false) c.if-byte-eq59.false
    c.more_len-more.ensures.value c.more_len-more.ensures.within c.split_at.ensures.back c.in_ok-push.ensures.items c.each.invariant

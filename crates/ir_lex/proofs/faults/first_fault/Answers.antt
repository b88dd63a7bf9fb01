-- A turn of the loop passes over bytes that cannot be a fault, and then over one byte.
use Rattle.std.proofs.Common.{sym, ◌∙◌, ◌≡◌, ◌+◌, length, arith}
use Rattle.std.proofs.lemmas.List.{take_rest}
use Rattle.ir_lex.proofs.Faulty.{moved, none_left, found_here, one_on}
use Rattle.ir_lex.proofs.faults.first_fault.Goals as goal

pub returns-in_default : goal.returns-in_default
returns-in_default c =
    let at_end = moved _ _ _ _ _ _ c.calm_len-calm.ensures.value c.split_at.ensures.back c.each.invariant.1 in
    sym (none_left _ _ _ c.in_default.len_below) ∙ at_end

pub returns-then-begins_fault : goal.returns-then-begins_fault
returns-then-begins_fault c =
    let at_fault = moved _ _ _ _ _ _ c.calm_len-calm.ensures.value c.split_at.ensures.back c.each.invariant.1 in
    sym (found_here _ _ _ (sym c.begins_fault.ensures ∙ c.if-begins_fault.true)) ∙ at_fault

pub each-preserved : goal.each-preserved
each-preserved c =
    let on = moved _ _ _ _ _ _ c.calm_len-calm.ensures.value c.split_at.ensures.back c.each.invariant.1 in
    let size : c.each.place + c.calm_len-calm.result + length c.split_at.result.1.now ≡ length c.args.line.now = omega (arith, c.split_at.ensures.back_len, c.each.invariant.0) in
    let stands = one_on _ _ _ c.split_at.result.1.now _ _ c.in-len1-up.len_at_least (take_rest _ 1) (sym c.begins_fault.ensures ∙ c.if-begins_fault.false) size on in
    (stands.0, rw c.enter-part.ensures stands.1)

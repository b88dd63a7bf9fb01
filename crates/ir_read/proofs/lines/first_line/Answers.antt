-- The line stands before the feed, and what follows after it.
use Rattle.std.proofs.Common.{◌≤◌, length, take, arith, rules}
use Rattle.ir_read.proofs.Splitting.{cut_at, last_line, shorter}
use Rattle.ir_read.proofs.lines.first_line.Goals as goal

pub returns-then-at-bytes-clause-lines : goal.returns-then-at-bytes-clause-lines
returns-then-at-bytes-clause-lines c = cut_at c.args.bytes.now c.without_return.result.now c.line_len-at.result c.line_len-at.ensures.value c.without_return.ensures c.if-at-bytes.true

pub returns-then-at-bytes-clause-short : goal.returns-then-at-bytes-clause-short
returns-then-at-bytes-clause-short c =
    let within : length (take c.line_len-at.result c.args.bytes.now) ≤ length c.args.bytes.now = search rules in
    rw c.without_return.ensures (omega (arith, shorter (take c.line_len-at.result c.args.bytes.now)))

pub returns-else-at-bytes-clause-lines : goal.returns-else-at-bytes-clause-lines
returns-else-at-bytes-clause-lines c = last_line c.args.bytes.now c.requires (omega (arith, c.line_len-at.ensures.value))

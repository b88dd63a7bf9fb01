use Rattle.std.proofs.Common.{ap, ◌∙◌, length, slice_set, w64}
use Rattle.std.proofs.lemmas.Int.{to_z-of_z}
use Rattle.ir_model.specs.Memory.{place_of}
use Rattle.ir_interp.proofs.Writes.{stored_in-is}
use Rattle.ir_interp.proofs.accesses.store_in.Goals as goal

pub returns : goal.returns
returns c =
    stored_in-is c.args.memory.now c.replace-written.new.self c.replace.new.self c.args.number c.in-Some-place_of.at c.args.align c.args.offset
    c.args.bytes.now c.in-Some.object.now c.replace-written.result c.put.new.object
    c.in-Some.ensures
    (c.in-Some-place_of.ensures.value
    ∙ ap (λ o. place_of o (length c.args.bytes.now) c.args.align c.len.result) (to_z-of_z w64 c.args.offset c.ranges.offset)
    ∙ ap (place_of c.args.offset (length c.args.bytes.now) c.args.align) c.len.ensures)
    c.replace-written.ensures.was (c.replace-written.ensures.now ∙ ap (slice_set c.args.memory.now c.args.number) c.new.ensures) c.put.ensures c.replace.ensures.now

-- The first `done` bytes were taken, and no write has failed.
use Rattle.std.proofs.Common.{◌≡◌, ◌-◌, ◌≤◌, length, take}
use Rattle.std.specs.Io.KnownBytes.{Appends}
use Rattle.vx_io.specs.Room.{UsesRoom}
use Rattle.vx_io.proofs.writing.write_all.Given as goal

abbrev pub invariant-loop-done : goal.invariant-loop-done
invariant-loop-done g l = record {
  in_range : l.done ≤ length l.bytes;
  front : Appends (g.O.Sink.taken l.fn.sink) (g.O.Sink.taken l.sink) (take l.done l.bytes);
  quiet : g.O.Sink.faults l.sink ≡ g.O.Sink.faults l.fn.sink;
  room : UsesRoom (g.O.Sink.room l.fn.sink) (g.O.Sink.room l.sink) l.done;
}

abbrev pub decreases-loop-done : goal.decreases-loop-done
decreases-loop-done g l = length l.bytes - l.done

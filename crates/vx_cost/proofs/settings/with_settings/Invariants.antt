-- The words that were read are settings of different keys.
use Rattle.std.proofs.Common.{◌≡◌, map, string_bytes}
use Rattle.vx_cost.proofs.Steps.{IsAfter}
use Rattle.vx_cost.proofs.settings.with_settings.Given as goal

abbrev pub invariant-loop-word : goal.invariant-loop-word
invariant-loop-word l = record {
  place : l.index ≡ l.word-index;
  read : IsAfter (map string_bytes l.words) l.index l.taken l.fn.t.costs l.table.costs;
}

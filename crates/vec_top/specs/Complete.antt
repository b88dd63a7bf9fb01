-- A command is done where nothing stands against it: its words hold, its input is a module that is accepted, its words fit that module,
-- and no call on its streams failed. Then the status is 0, or 6 for want of memory, which is free.
use Rattle.std.specs.Prelude.{◌≡◌, ℕ, ◌≤◌, ◌⊎◌, Option, Some, Ok, List, length}
use Rattle.vx_io.specs.Count.{Rose}
use Rattle.ir_types.specs.declared.module.Module.{Module}
use Rattle.vec_words.specs.declared.commands.Command.{Command}
use Rattle.vec_words.specs.Commands.{command_of}
use Rattle.vec_top.specs.declared.fault.Fault.{Fault}
use Rattle.vec_top.specs.Accepts.{Accepts}
use Rattle.vec_top.specs.Results.{result_of}
use Rattle.vec_top.specs.Replies.{Streams, byte_limit, Replies, exit_status}

-- nothing stands against these words with these streams
pub record MayBeDone (words : List (List ℕ)) (s : Streams) : Type 0 where
  -- the words hold
  pub command : Command
  pub says : command_of words ≡ Ok command
  -- the input is known, within the limit, and a module that is accepted
  pub bytes : List ℕ
  pub left : s.left ≡ Some bytes
  pub within : length bytes ≤ byte_limit
  pub input : Module
  pub accepted : Accepts bytes input
  -- the command's own words fit that module, and so there is a text to write
  pub text : List ℕ
  pub fits : result_of command input ≡ Ok text
  -- no read and no write failed
  pub reads : Rose s.read_faults s.read_faults_after → ⊥
  pub writes : Rose s.out_faults s.out_faults_after → ⊥

-- whatever is replied then, the status is 0 or 6
abbrev pub AcceptedIsDone : Type 0
AcceptedIsDone = (words : List (List ℕ)) (s : Streams) (reply : Option Fault) → Replies words s reply → MayBeDone words s → (exit_status reply ≡ 0) ⊎ (exit_status reply ≡ 6)

use Rattle.vx_serial.proofs.laws.groups_partition.Goals as goal
use Rattle.vx_serial.proofs.Partitions.{groups_partition}

pub returns : goal.returns
returns c = groups_partition

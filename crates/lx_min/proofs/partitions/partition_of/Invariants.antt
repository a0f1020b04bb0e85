use Rattle.std.proofs.Common.{◌-◌, length}
use Rattle.lx_min.specs.Rounds.{IsPartition}
use Rattle.lx_min.proofs.partitions.partition_of.Given as goal

abbrev pub invariant-loop-partition : goal.invariant-loop-partition
invariant-loop-partition l = IsPartition l.auto' l.partition

abbrev pub decreases-loop-partition : goal.decreases-loop-partition
decreases-loop-partition l = length l.auto'.states - length l.partition.chosen.items

use Rattle.std.proofs.Common.{◌≤◌, length, arith}
use Rattle.lx_min.specs.Joined.{class_in}
use Rattle.lx_min.proofs.PartitionSteps.{count-grows, next-partition, partition-begun, partition-marked, partition-own, stable-minimal}
use Rattle.lx_min.proofs.SignatureLists.{chosen-few}
use Rattle.lx_min.proofs.partitions.partition_of.Goals as goal

pub refined-requires-clause-own : goal.refined-requires-clause-own
refined-requires-clause-own c =
    partition-own c.args.auto.now c.args.met.now c.requires.met c.args.looks.now c.loop-partition.partition c.requires.looks.count
    c.loop-partition.invariant

pub refined-requires-clause-marked : goal.refined-requires-clause-marked
refined-requires-clause-marked c =
    partition-marked c.args.auto.now c.args.met.now c.requires.met c.loop-partition.partition c.loop-partition.invariant

pub returns-then-len : goal.returns-then-len
returns-then-len c =
    stable-minimal c.args.auto.now c.args.met.now c.args.looks.now c.requires.formed c.requires.met c.requires.looks
    c.loop-partition.partition c.in_ok-next.next (partition-begun c.args.auto.now c.loop-partition.partition c.loop-partition.invariant)
    c.in_ok-next.ensures c.loop-partition.invariant
    (omega (arith, c.len.ensures, c.if-len.true, c.len-in-loop-partition.ensures))

pub parted-requires-clause-partition : goal.parted-requires-clause-partition
parted-requires-clause-partition c =
    next-partition c.args.auto.now c.args.met.now c.args.looks.now c.requires.formed c.requires.met c.requires.looks
    c.loop-partition.partition c.in_ok-next.next (partition-begun c.args.auto.now c.loop-partition.partition c.loop-partition.invariant)
    c.in_ok-next.ensures

pub loop-partition-smaller : goal.loop-partition-smaller
loop-partition-smaller c =
    let before = c.loop-partition.partition.chosen.items in
    let after = c.in_ok-next.next.chosen.items in
    let grows : length before ≤ length after =
    count-grows c.args.auto.now c.args.met.now c.args.looks.now c.requires.formed c.requires.met c.requires.looks
    c.loop-partition.partition c.in_ok-next.next (partition-begun c.args.auto.now c.loop-partition.partition c.loop-partition.invariant)
    c.in_ok-next.ensures in
    let few : length after ≤ length c.args.looks.now =
    chosen-few (class_in c.loop-partition.partition.class.items) c.args.looks.now c.in_ok-next.ensures.signatures after
    c.in_ok-next.ensures.chosen in
    let more : length after ≤ length c.in_ok-finer.finer.chosen.items = c.in_ok-finer.ensures.more in
    omega (arith, grows, few, more, c.requires.looks.count, c.len.ensures, c.len-in-loop-partition.ensures, c.if-len.false)

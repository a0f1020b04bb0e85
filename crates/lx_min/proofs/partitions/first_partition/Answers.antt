use Rattle.std.proofs.lemmas.Result.{IfOk-weaker}
use Rattle.lx_min.specs.declared.partitions.Partition.{Partition}
use Rattle.lx_min.specs.Rounds.{IsPartition, IsRefined}
use Rattle.lx_min.proofs.PartitionSteps.{first-begun, first-marked, first-own, next-partition}
use Rattle.lx_min.proofs.partitions.first_partition.Goals as goal

pub refined-requires-clause-own : goal.refined-requires-clause-own
refined-requires-clause-own c =
    first-own c.args.auto.now c.args.met.now c.requires.met c.args.looks.now
    (record { class = c.args.distances; chosen = c.in_ok-vec.field-0 }) c.requires.looks.count c.requires.formed.start
    c.in_ok-vec.ensures.items

pub refined-requires-clause-marked : goal.refined-requires-clause-marked
refined-requires-clause-marked c =
    first-marked c.args.auto.now c.args.met.now c.requires.met c.args.looks.now
    (record { class = c.args.distances; chosen = c.in_ok-vec.field-0 }) c.requires.looks.count c.requires.formed.start
    c.in_ok-vec.ensures.items

pub returns : goal.returns
returns c =
    let auto = c.args.auto.now in
    let met = c.args.met.now in
    let looks = c.args.looks.now in
    let start : Partition = record { class = c.args.distances; chosen = c.in_ok-vec.field-0 } in
    let begun = first-begun auto met c.requires.met looks start c.requires.looks.count c.requires.formed.start
    c.in_ok-vec.ensures.items c.requires.apart in
    IfOk-weaker c.refined.result (IsRefined met looks start) (IsPartition auto)
    (λ next refined. next-partition auto met looks c.requires.formed c.requires.met c.requires.looks start next begun refined)
    c.refined.ensures

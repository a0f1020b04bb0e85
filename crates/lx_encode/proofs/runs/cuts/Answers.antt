use Rattle.std.proofs.Common.{arith}
use Rattle.lx_encode.proofs.RunLists.{sorted_at}
use Rattle.lx_encode.proofs.runs.cuts.Goals as goal

pub overflow_add-next : goal.overflow_add-next
overflow_add-next c =
    let sorted = sorted_at c.args.runs.now c.loop-run.run-index c.loop-run-test.true c.requires in omega arith

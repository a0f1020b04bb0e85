use Rattle.std.proofs.Common.{arith, ⊎_elim}
use Rattle.std.proofs.lemmas.Bool.{cases_lt}
use Rattle.lx_posix.proofs.CodeStarts.Waiting.{level_at-past}
use Rattle.lx_posix.proofs.starts.level_count.Goals as goal

pub returns : goal.returns
returns c index =
    ⊎_elim (λ lt. c.loop-index.invariant.more index lt)
    (λ ge.
    let none = level_at-past c.args.beginnings.now index (omega arith) in
    let some = c.loop-index.invariant.some in
    omega arith)
    (cases_lt index c.loop-index.index)

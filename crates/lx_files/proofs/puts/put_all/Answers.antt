use Rattle.std.proofs.Common.{arith}
use Rattle.lx_files.proofs.PutLemmas.{HasPut-step}
use Rattle.lx_files.proofs.puts.put_all.Goals as goal

pub loop-rest-preserved : goal.loop-rest-preserved
loop-rest-preserved g c =
    let before = c.loop-rest.invariant.rises in
    let behind = c.put.ensures.wants_never_fall in
    record {
      put = rw c.split_at.ensures.back
          (HasPut-step c.in_ok-count.count c.loop-rest.invariant.put c.in_ok-count.ensures.takes.front_given c.in_ok-count.ensures.calm);
      rises = omega (arith, before, behind);
    }

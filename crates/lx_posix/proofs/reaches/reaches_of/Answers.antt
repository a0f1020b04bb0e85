use Rattle.std.proofs.Common.{◌≡◌, ◌-◌, arith, length}
use Rattle.lx_posix.specs.Reaching.{found_reaches}
use Rattle.lx_posix.proofs.CodeReaches.ReachLoops.{count_added, origins_of-found, reaches_of-found}
use Rattle.lx_posix.proofs.reaches.reaches_of.Goals as goal

pub loop-index-preserved : goal.loop-index-preserved
loop-index-preserved c =
    let t = c.args.t.now in
    let first = c.args.is_first in
    let beginnings = c.args.beginnings.now in
    let founds = c.args.founds.now in
    let at = c.loop-index in
    let found = c.index-founds-index.result in
    let more = c.push_reaches.new.reaches.items in
    let counted : c.len.result - c.len-before.result ≡ length (found_reaches t first beginnings found) =
    omega (
      arith,
      count_added at.reaches.items more (found_reaches t first beginnings found) c.in_ok-push_reaches.ensures,
      c.len.ensures,
      c.len-before.ensures,
      at.reaches.ok.0,
      c.push_reaches.new.reaches.ok.0,
    ) in
    record {
      reaches =
          reaches_of-found t first beginnings founds at.index c.loop-index-test.true found c.index-founds-index.is at.reaches.items more _
          at.invariant.reaches c.in_ok-push_reaches.ensures;
      origins =
          origins_of-found t first beginnings founds at.index c.loop-index-test.true found c.index-founds-index.is at.origins.items
          c.push_origins.new.origins.items _ _ at.invariant.origins counted c.in_ok-push_origins.ensures;
      course = c.in_ok-turn.ensures;
    }

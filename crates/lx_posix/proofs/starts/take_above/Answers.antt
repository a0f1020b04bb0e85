use Rattle.std.proofs.Common.{◌≡◌, ◌∙◌, ◌-◌, ◌<◌, ◌++◌, arith, ap, length, sym}
use Rattle.lx_posix.specs.Sweeps.{starts_at}
use Rattle.lx_posix.proofs.CodeStarts.Waiting.{level_taken}
use Rattle.lx_posix.proofs.starts.take_above.Goals as goal

pub loop-level-preserved : goal.loop-level-preserved
loop-level-preserved c =
    let levels = c.loop-level.levels in
    let level = c.loop-level.level in
    let list = c.index-levels-level.result in
    let within : level - 1 < length levels = omega arith in
    let more : c.take.new.found.items ≡ c.loop-level.found.items ++ starts_at (level - 1) list =
    c.in_ok-take.ensures.found ∙ ap (λ l. c.loop-level.found.items ++ starts_at (level - 1) l) (sym c.index-levels-level.is) in
    let step =
    level_taken levels c.args.lowest level list c.take.new.self c.loop-level.found.items c.take.new.found.items c.loop-level-test.true within
    c.index-levels-level.is c.in_ok-take.ensures.none more in
    record { found = step.0 ∙ c.loop-level.invariant.found; levels = step.1 ∙ c.loop-level.invariant.levels }

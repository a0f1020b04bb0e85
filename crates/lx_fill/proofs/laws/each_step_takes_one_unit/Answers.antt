use Rattle.std.proofs.Common.{suc, ◌≤◌, arith}
use Rattle.lx_fill.specs.Checks.{goes_on, stops}
use Rattle.lx_fill.proofs.laws.each_step_takes_one_unit.Goals as goal

pub returns : goal.returns
returns c = λ graph number state next units suffice edge. (
  (let one = suffice 1 (stops state next edge) in omega (arith, one)),
  λ none others walk. (let more : suc others ≤ units = suffice (suc others) (goes_on state next others edge none walk) in omega arith),
)

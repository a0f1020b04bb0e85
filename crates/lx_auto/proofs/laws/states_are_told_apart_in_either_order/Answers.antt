use Rattle.std.proofs.Common.{refl}
use Rattle.lx_auto.proofs.ToldApart.{AreToldApart-itself, AreToldApart-turned}
use Rattle.lx_auto.proofs.laws.states_are_told_apart_in_either_order.Goals as goal

pub returns-clause-itself : goal.returns-clause-itself
returns-clause-itself c = λ auto state word. AreToldApart-itself auto state state word refl

pub returns-clause-turned : goal.returns-clause-turned
returns-clause-turned c = AreToldApart-turned

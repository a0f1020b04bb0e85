-- Automata in which nothing is left that need not be there.
use Rattle.lx_auto.specs.declared.automaton.Auto.{Auto}
use Rattle.lx_auto.specs.Live.{AllInterfere, EachTargetIsRead}
use Rattle.lx_auto.specs.ToldApart.{AllAreToldApart}
use Rattle.lx_layout.specs.LiveBlocks.{HasMetStates}

-- Some walk comes to each state, a word tells any two states apart, what each operation does is read on some walk before it is written again,
-- and any two registers of one sort interfere.
pub record IsReduced (auto : Auto) : Type 0 where
  pub met : HasMetStates auto
  pub states : AllAreToldApart auto
  pub operations : EachTargetIsRead auto
  pub registers : AllInterfere auto

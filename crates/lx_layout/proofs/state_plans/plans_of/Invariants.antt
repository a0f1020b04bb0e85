use Rattle.std.proofs.Common.{◌≡◌, ◌++◌, drop}
use Rattle.lx_layout.specs.LaidParts.{AreStatePlans, planned_states}
use Rattle.lx_layout.specs.Plans.{HaveOrder}
use Rattle.lx_layout.proofs.state_plans.plans_of.Given as goal

abbrev pub invariant-loop-number : goal.invariant-loop-number
invariant-loop-number l =
    record {
      states : planned_states l.plans.items ++ drop l.number l.states ≡ l.states;
      planned : AreStatePlans l.asking.format l.asking.sets.now.table.items l.eof l.greatest l.plans.items;
      order : HaveOrder (drop l.number l.states);
    }

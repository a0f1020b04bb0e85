use Rattle.std.proofs.Common.{◌≡◌, ◌++◌, drop}
use Rattle.lx_layout.specs.LaidParts.{begin_at, places_from}
use Rattle.lx_layout.proofs.part_places.append_places.Given as goal

abbrev pub invariant-loop-number : goal.invariant-loop-number
invariant-loop-number l =
    l.places.items ++ places_from l.ends.plans l.number l.from (drop l.number l.ends.plans.input.auto.now.states)
    ≡ l.initial.places.items ++ places_from l.ends.plans 0 (begin_at l.ends.plans) l.ends.plans.input.auto.now.states

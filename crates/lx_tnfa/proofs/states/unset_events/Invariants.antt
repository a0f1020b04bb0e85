use Rattle.std.proofs.Common.{◌≡◌, map, take}
use Rattle.lx_tnfa.specs.declared.states.Event.TheVariants.{Unset}
use Rattle.lx_tnfa.proofs.states.unset_events.Given as goal

abbrev pub invariant-loop-tag : goal.invariant-loop-tag
invariant-loop-tag l = l.events ≡ map Unset (take l.tag-index l.tags)

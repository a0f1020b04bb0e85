use Rattle.std.proofs.Common.{◌≡◌, drop}
use Rattle.std.specs.List.{flat_map}
use Rattle.lx_exprs.specs.Checks.{repeated_tag}
use Rattle.lx_exprs.proofs.tags.repeated_tag.Given as goal

abbrev pub invariant-loop-segment : goal.invariant-loop-segment
invariant-loop-segment l = repeated_tag l.at l.tags l.seen ≡ repeated_tag l.at (flat_map (λ tags. tags.value) (drop l.segment-index l.segments)) l.seen

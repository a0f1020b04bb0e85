use Rattle.std.proofs.Common.{◌≡◌, take}
use Rattle.lx_exprs.specs.Points.{singles}
use Rattle.lx_exprs.specs.Seen.{points_of}
use Rattle.lx_exprs.proofs.sets.single_ranges.Given as goal

abbrev pub invariant-loop-character : goal.invariant-loop-character
invariant-loop-character l = l.ranges.items ≡ singles (points_of (take l.character-index l.characters))

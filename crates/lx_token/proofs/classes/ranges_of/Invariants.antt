use Rattle.std.proofs.Common.{◌≡◌, ◌++◌, None, false, drop}
use Rattle.lx_token.specs.Classes.{ranges_behind}
use Rattle.lx_token.proofs.classes.ranges_of.Given as goal

abbrev pub invariant-loop-next : goal.invariant-loop-next
invariant-loop-next l = l.ranges ++ ranges_behind l.begun l.is_dashed (drop l.next-index l.characters) ≡ ranges_behind None false l.characters

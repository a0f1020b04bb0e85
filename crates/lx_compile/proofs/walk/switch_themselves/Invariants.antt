use Rattle.std.proofs.Common.{◌≡◌, drop}
use Rattle.lx_compile.specs.Parts.{switch_themselves}
use Rattle.lx_compile.proofs.walk.switch_themselves.Given as goal

abbrev pub invariant-loop-part : goal.invariant-loop-part
invariant-loop-part l = switch_themselves (drop l.part-index l.parts) ≡ switch_themselves l.parts

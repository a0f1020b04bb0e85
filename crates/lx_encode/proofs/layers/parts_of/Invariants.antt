use Rattle.std.proofs.Common.{ℕ, ◌↔◌, take}
use Rattle.lx_encode.specs.Runs.{AreSorted, LeadsTo}
use Rattle.lx_encode.specs.Layers.{AreParts}
use Rattle.lx_encode.proofs.layers.parts_of.Given as goal

abbrev pub invariant-loop-run : goal.invariant-loop-run
invariant-loop-run l = record {
  sorted : AreSorted l.parts.items;
  parts : AreParts l.radix l.parts.items;
  leads : (number target : ℕ) → LeadsTo l.parts.items number target ↔ LeadsTo (take l.run-index l.runs) number target;
}

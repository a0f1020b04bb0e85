use Rattle.lx_cover.proofs.CoverPasses.{IsPassing}
use Rattle.lx_cover.proofs.covering.Covering.pass.Given as goal

abbrev pub invariant-loop-index : goal.invariant-loop-index
invariant-loop-index l = IsPassing l.t l.initial.self l.front l.cuts.items l.self l.index l.last

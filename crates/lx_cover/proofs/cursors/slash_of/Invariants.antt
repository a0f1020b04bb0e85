use Rattle.std.proofs.Common.{◌≡◌, drop}
use Rattle.lx_cover.specs.Cursors.{slash_of}
use Rattle.lx_cover.proofs.cursors.slash_of.Given as goal

abbrev pub invariant-loop-rule : goal.invariant-loop-rule
invariant-loop-rule l = slash_of (drop l.rule-index l.rules) l.number ≡ slash_of l.rules l.number

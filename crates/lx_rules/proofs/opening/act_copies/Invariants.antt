use Rattle.std.proofs.Common.{◌≡◌, take}
use Rattle.lx_rules.proofs.opening.act_copies.Given as goal

abbrev pub invariant-loop-act : goal.invariant-loop-act
invariant-loop-act l = l.copies.items ≡ take l.act-index l.acts

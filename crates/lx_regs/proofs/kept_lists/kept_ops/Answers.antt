use Rattle.lx_regs.proofs.CutOperations.CutSteps.{listed-keeps}
use Rattle.lx_regs.proofs.kept_lists.kept_ops.Goals as goal

pub returns : goal.returns
returns c =
    listed-keeps c.args.ops.now c.in_ok-kept.kept c.args.wanted.now c.in_ok-wanted.wanted c.in_ok-wanted.ensures c.in_ok-kept.ensures

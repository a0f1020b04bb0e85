use Rattle.lx_regs.proofs.CutOperations.KeptSteps.{acts-is}
use Rattle.lx_regs.proofs.kept_lists.acts.Goals as goal

pub returns-clause-acts : goal.returns-clause-acts
returns-clause-acts c = λ ops are.
    acts-is c.args.wanted.now c.args.op ops c.in_ok-last.last c.copies_itself.result (c.in_ok-last.ensures.stays ops are)
    c.copies_itself.ensures

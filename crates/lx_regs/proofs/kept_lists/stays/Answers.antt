use Rattle.lx_regs.proofs.CutOperations.KeptSteps.{copy-stays, set-stays}
use Rattle.lx_regs.proofs.kept_lists.stays.Goals as goal

pub returns-in_ok-last-in-MCopy-clause-stays : goal.returns-in_ok-last-in-MCopy-clause-stays
returns-in_ok-last-in-MCopy-clause-stays c = λ ops are.
    copy-stays c.args.wanted.now c.args.written.now ops are c.contains.result c.in_ok-last-in-MCopy.last c.args.op c.in-MCopy.target
    c.in-MCopy.field-1 c.in-MCopy.is c.contains.ensures c.in_ok-last-in-MCopy.ensures.last

pub returns-in_ok-last-in-Here-clause-stays : goal.returns-in_ok-last-in-Here-clause-stays
returns-in_ok-last-in-Here-clause-stays c = λ ops are.
    set-stays c.args.wanted.now c.args.written.now ops are c.contains-in-Here.result c.in_ok-last-in-Here.last c.args.op c.in-Here.target
    c.in-Here.is c.contains-in-Here.ensures c.in_ok-last-in-Here.ensures.last

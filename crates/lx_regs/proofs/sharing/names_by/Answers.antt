use Rattle.lx_regs.proofs.SharedNames.SharedLists.{lists-shared}
use Rattle.lx_regs.proofs.sharing.names_by.Goals as goal

pub returns : goal.returns
returns c =
    let (colours, sharing, is) = c.in_ok-mregs.ensures in
    lists-shared c.args.auto.now c.requires.formed c.args.interference.now c.requires.interference
    (record { regs = c.in_ok-regs.regs; mregs = c.in_ok-mregs.mregs }) colours c.in_ok-regs.ensures sharing is

use Rattle.lx_regs.proofs.LiveRegisters.GrownLists.{grows-insert}
use Rattle.lx_regs.proofs.found.Found.add.Goals as goal

pub returns : goal.returns
returns g c = λ tells.
    rw (← c.self.view_is) (grows-insert _ tells c.self.inside.items.keys c.insert.new.self.keys c.args.item c.in_ok-insert.ensures.keys)

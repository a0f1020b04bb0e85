use Rattle.std.proofs.Common.{◌∙◌, sym}
use Rattle.lx_regs.proofs.LiveRegisters.GrownLists.{has-Contains}
use Rattle.lx_regs.proofs.found.Found.has.Goals as goal

pub returns : goal.returns
returns g c = λ tells.
    let has = has-Contains _ tells c.self.inside.items.keys c.args.item.now in
    rw (← c.self.view_is) (λ is. has.0 (sym c.contains.ensures ∙ is), λ is. c.contains.ensures ∙ has.1 is)

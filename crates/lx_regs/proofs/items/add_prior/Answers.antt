use Rattle.lx_regs.specs.Items.{Passes}
use Rattle.lx_regs.proofs.LiveRegisters.GrownLists.{grows-none, grows-one}
use Rattle.lx_regs.proofs.LiveRegisters.ItemTests.{TellsEqual-items}
use Rattle.lx_regs.proofs.LiveRegisters.PriorItems.{one_prior}
use Rattle.lx_regs.proofs.items.add_prior.Goals as goal

pub returns-in_ok-add-in-Some : goal.returns-in_ok-add-in-Some
returns-in_ok-add-in-Some c =
    let arrow = c.args.arrow.now in
    grows-one (Passes c.args.numbers.now c.args.pairs.now c.args.item arrow.state c.args.leave.now arrow.reader) c.in-Some.prior
    c.args.found.now
    c.add.new.self c.in-Some.ensures.some
    (λ other. one_prior c.args.numbers.now c.args.pairs.now c.args.item arrow.state c.args.leave.now arrow.reader c.in-Some.prior other
    c.in-Some.ensures.some)
    (c.in_ok-add-in-Some.ensures TellsEqual-items)

pub returns-in-None : goal.returns-in-None
returns-in-None c =
    let arrow = c.args.arrow.now in
    grows-none (Passes c.args.numbers.now c.args.pairs.now c.args.item arrow.state c.args.leave.now arrow.reader) c.args.found.now
    c.in-None.ensures.none

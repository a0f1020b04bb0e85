use Rattle.lx_regs.specs.declared.held_graphs.HeldGraph.{HeldGraph}
use Rattle.lx_regs.proofs.SharedNames.NoteSteps.{joined-empty}
use Rattle.lx_regs.proofs.held_graphs.HeldGraph.new.Goals as goal

pub returns-clause-empty : goal.returns-clause-empty
returns-clause-empty c =
    let graph : HeldGraph = record { regs = c.in_ok-new.field-0; mregs = c.in_ok-new-2.field-0 } in
    joined-empty graph c.in_ok-new.ensures.empty c.in_ok-new-2.ensures.empty

use Rattle.std.proofs.Common.{◌<◌, arith, refl}
use Rattle.lx_regs.proofs.SharedNames.NoteSteps.{notes-mregs}
use Rattle.lx_regs.proofs.held_graphs.HeldGraph.note_mregs.Goals as goal

pub returns-in_ok-join : goal.returns-in_ok-join
returns-in_ok-join c =
    let above : 0 < c.args.mreg = omega arith in
    let other_above : 0 < c.args.other = omega arith in
    notes-mregs c.args.self.now _ c.args.mreg c.args.other c.requires.graph above other_above refl c.in_ok-join.ensures

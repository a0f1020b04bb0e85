use Rattle.std.proofs.Common.{refl}
use Rattle.lx_regs.proofs.SharedNames.NoteSteps.{notes-regs}
use Rattle.lx_regs.proofs.held_graphs.HeldGraph.note_regs.Goals as goal

pub returns-in_ok-join : goal.returns-in_ok-join
returns-in_ok-join c = notes-regs c.args.self.now _ c.args.reg c.args.other c.requires.graph refl c.in_ok-join.ensures

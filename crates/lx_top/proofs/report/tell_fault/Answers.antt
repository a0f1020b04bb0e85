use Rattle.std.proofs.Common.{arith}
use Rattle.lx_base.specs.Message.{message_text}
use Rattle.lx_top.specs.Outside.{sink_view}
use Rattle.lx_top.proofs.ReportLemmas.{TellsMessage-out_of_memory, GivesFront-none}
use Rattle.lx_top.proofs.report.tell_fault.Goals as goal

pub returns-in-Ok : goal.returns-in-Ok
returns-in-Ok g c = rw c.in-Ok.ensures at (rw c.as_slice.ensures at c.tell_message.ensures)

pub returns-in-Err : goal.returns-in-Err
returns-in-Err g c =
    let err = sink_view (g.E.Sink.given c.args.err.now) (g.E.Sink.faults c.args.err.now) (g.E.Sink.wants c.args.err.now) in
    TellsMessage-out_of_memory (message_text c.args.names.now c.args.fault.now) err err _ c.tell_failure.result c.tell_failure.ensures.same
    (omega arith) (omega arith) (GivesFront-none err.given _) c.tell_failure.ensures.told

use Rattle.std.proofs.Common.{[], drop, take}
use Rattle.lx_run.specs.Values.{assignments, statements_at, tags_text}
use Rattle.lx_run.proofs.PutTexts.{HasGiven}
use Rattle.lx_run.proofs.assignments.put_tags.Given as goal

abbrev pub invariant-loop-at : goal.invariant-loop-at
invariant-loop-at g l =
    HasGiven (g.O.Sink.given l.initial.out) (g.O.Sink.given l.out) (g.O.Sink.faults l.initial.out) (g.O.Sink.faults l.out) (g.O.Sink.wants l.initial.out) (g.O.Sink.wants l.out)
    (tags_text l.lexer [] (assignments l.lexer))
    (tags_text l.lexer (statements_at l.piece (take l.at l.lexer.assigned)) (statements_at l.piece (drop l.at l.lexer.assigned)))

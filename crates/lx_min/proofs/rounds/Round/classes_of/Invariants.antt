use Rattle.lx_min.proofs.Refinements.{HasCome}
use Rattle.lx_min.proofs.rounds.Round.classes_of.Given as goal

abbrev pub invariant-loop-state : goal.invariant-loop-state
invariant-loop-state l = HasCome l.met l.looks l.given l.self l.class.items l.state

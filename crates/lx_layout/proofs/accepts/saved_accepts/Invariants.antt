use Rattle.std.proofs.Common.{◌≡◌, drop}
use Rattle.lx_layout.specs.Halting.{firsts_from, saved_accept, saved_accepts}
use Rattle.lx_layout.specs.Marks.{seen_marks}
use Rattle.lx_layout.specs.Plans.{AreIndexed, seen_accepts}
use Rattle.lx_layout.proofs.accepts.saved_accepts.Given as goal

abbrev pub invariant-loop-state : goal.invariant-loop-state
invariant-loop-state l =
    record {
      indexed : AreIndexed l.found;
      accepts : firsts_from (seen_marks l.marks) (saved_accept (seen_marks l.marks)) (seen_accepts l.found.list.items) l.state-index (drop l.state-index l.states)
          ≡ saved_accepts (seen_marks l.marks) l.states;
    }

use Rattle.std.proofs.Common.{◌≡◌, drop}
use Rattle.lx_layout.specs.Halting.{ended_accept, ended_accepts, firsts_from}
use Rattle.lx_layout.specs.Marks.{seen_marks}
use Rattle.lx_layout.specs.Plans.{AreIndexed, seen_accepts}
use Rattle.lx_layout.proofs.accepts.ended_accepts.Given as goal

abbrev pub invariant-loop-number : goal.invariant-loop-number
invariant-loop-number l =
    record {
      indexed : AreIndexed l.found;
      accepts : firsts_from (seen_marks l.marks) (ended_accept (seen_marks l.marks)) (seen_accepts l.found.list.items) l.number (drop l.number l.states)
          ≡ ended_accepts (seen_marks l.marks) l.states;
    }

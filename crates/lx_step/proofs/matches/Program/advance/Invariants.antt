use Rattle.std.proofs.Common.{◌≡◌, ◌+◌, ◌*◌, ◌-◌, Some}
use Rattle.lx_ccode.specs.Machine.{code_at}
use Rattle.lx_window.specs.Windows.{KeepsStart}
use Rattle.lx_step.specs.Asking.{KeepsSource}
use Rattle.lx_step.specs.Entries.{Enters}
use Rattle.lx_step.specs.Feeds.{feed_of}
use Rattle.lx_step.specs.Left.{IsReturnOf}
use Rattle.lx_step.specs.Places.{room_of}
use Rattle.lx_step.specs.Points.{Point}
use Rattle.lx_step.specs.Ways.{HasParts, IsOnWay, ReadsWindow}
use Rattle.lx_step.proofs.matches.Program.advance.Given as goal

abbrev pub invariant-loop-steps : goal.invariant-loop-steps
invariant-loop-steps l = λ c.
    let piece = c.self.piece.now in
    let ahead = l.S.Refill.ahead in
    record {
      way : (entry : Point) → Enters piece entry c.fn.at c.fn.scanner c.fn.steps c.fn.assigned.keys
          → IsOnWay piece entry (feed_of (ahead c.fn.src) c.fn.w) c.fn.slots c.at c.scanner c.slots c.steps c.assigned.keys (feed_of (ahead c.src) c.w);
      block : code_at piece.blocks (Some c.at.block) ≡ Some c.at.code.now;
      parts : HasParts piece c.scanner c.slots c.assigned.keys (room_of c.assigned);
      ready : ReadsWindow piece (l.S.Refill.unit c.src) c.w c.scanner;
      returns : IsReturnOf piece.blocks c.known;
      start_kept : KeepsStart c.fn.w c.w;
      source : KeepsSource (l.S.Refill.unit c.fn.src) (l.S.Refill.unit c.src) (l.S.Refill.faults c.fn.src) (l.S.Refill.faults c.src) (l.S.Refill.pauses c.fn.src) (l.S.Refill.pauses c.src);
    }

abbrev pub decreases-loop-steps : goal.decreases-loop-steps
decreases-loop-steps l = λ c. (2 * (c.w.size + 2) * c.self.statements - c.steps) + (c.w.start + c.w.size - c.scanner.limit)

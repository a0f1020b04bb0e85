use Rattle.std.proofs.Common.{◌≡◌, ◌+◌, ◌-◌, ◌++◌, suc, arith, ◌∙◌, ap}
use Rattle.lx_sequence.specs.CopyOps.{seen_copies}
use Rattle.lx_sequence.specs.ParallelCopies.{in_sequence}
use Rattle.lx_sequence.specs.WaitingCopies.{waiting_copies}
use Rattle.lx_sequence.proofs.WaitingCopies.{in_sequence-none}
use Rattle.lx_sequence.proofs.copy_sequences.in_sequence.Goals as goal

pub loop-turn-preserved : goal.loop-turn-preserved
loop-turn-preserved c =
    let left = c.len-count.result - (c.loop-turn._turn + 1) in
    let more : suc left ≡ c.len-count.result - c.loop-turn._turn = omega arith in
    record {
      put = c.in_ok-append_next.ensures.next (in_sequence left c.args.spare) (in_sequence-none left c.args.spare)
          ∙ ap (λ n. seen_copies c.loop-turn.done.items ++ in_sequence n c.args.spare (waiting_copies c.args.spare c.loop-turn.list)) more
          ∙ c.loop-turn.invariant.put;
      kept = c.in_ok-append_next.ensures.kept;
    }

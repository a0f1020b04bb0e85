use Rattle.std.proofs.Common.{◌≡◌, ◌++◌, drop}
use Rattle.lx_tnfa.specs.Live.{marks_each, waits_each}
use Rattle.lx_tnfa.proofs.live.mark_each.Given as goal

abbrev pub invariant-loop-number : goal.invariant-loop-number
invariant-loop-number l = record {
  marks : marks_each l.marks (drop l.number-index l.numbers) ≡ marks_each l.initial.marks l.numbers;
  waiting : l.waiting.items ++ waits_each l.marks (drop l.number-index l.numbers) ≡ l.fn.waiting.items ++ waits_each l.initial.marks l.numbers;
}

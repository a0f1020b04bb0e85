use Rattle.std.proofs.Common.{◌≡◌, ◌++◌, drop}
use Rattle.lx_warn.specs.Entered.{rule_warnings}
use Rattle.lx_warn.proofs.lists.rule_warnings.Given as goal

abbrev pub invariant-loop-number : goal.invariant-loop-number
invariant-loop-number l =
    l.list ++ rule_warnings l.entered l.start (drop l.number-index l.numbers) ≡ rule_warnings l.entered l.start l.numbers

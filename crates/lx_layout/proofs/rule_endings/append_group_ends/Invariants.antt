use Rattle.std.proofs.Common.{◌≡◌, [], ◌++◌, drop}
use Rattle.lx_auto.specs.Automaton.{AreHeld}
use Rattle.lx_layout.specs.Endings.{ends_code}
use Rattle.lx_layout.proofs.rule_endings.append_group_ends.Given as goal

abbrev pub invariant-loop-place : goal.invariant-loop-place
invariant-loop-place l =
    record {
      held : AreHeld 1073741824 1073741824 (drop l.place l.values);
      put : l.stmts.items ++ ends_code (drop l.place l.values) l.place [] ≡ l.initial.stmts.items ++ ends_code l.values 0 [];
    }

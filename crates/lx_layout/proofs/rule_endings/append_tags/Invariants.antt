use Rattle.std.proofs.Common.{◌≡◌, ◌≤◌, [], ◌++◌, drop, length}
use Rattle.lx_auto.specs.Automaton.{AreHeld}
use Rattle.lx_layout.specs.Endings.{tags_code}
use Rattle.lx_layout.specs.RuleEnds.{ending_of}
use Rattle.lx_layout.specs.Rules.{names_of}
use Rattle.lx_layout.proofs.rule_endings.append_tags.Given as goal

abbrev pub invariant-loop-number : goal.invariant-loop-number
invariant-loop-number l =
    record {
      within : l.number ≤ length l.values;
      held : AreHeld 1073741824 1073741824 (drop l.number l.values);
      put : l.stmts.items ++ tags_code (ending_of l.end) l.number (names_of (drop l.number l.tags)) (drop l.number l.values) []
          ≡ l.initial.stmts.items ++ tags_code (ending_of l.end) 0 (names_of l.tags) l.values [];
    }

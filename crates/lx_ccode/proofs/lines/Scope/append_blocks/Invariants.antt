use Rattle.std.proofs.Common.{◌≡◌, ◌++◌, [], drop}
use Rattle.lx_ccode.specs.Text.{blocks_then}
use Rattle.lx_ccode.specs.Wording.{scope_wording}
use Rattle.lx_ccode.proofs.lines.Scope.append_blocks.Given as goal

abbrev pub invariant-loop-place : goal.invariant-loop-place
invariant-loop-place l =
    l.text.items ++ blocks_then (scope_wording l.self) l.line l.place (drop l.place l.blocks) []
    ≡ l.initial.text.items ++ blocks_then (scope_wording l.self) l.initial.line 0 l.blocks []

use Rattle.std.proofs.Common.{drop}
use Rattle.lx_ccode.specs.Text.{blocks_then}
use Rattle.lx_ccode.specs.Wording.{scope_wording}
use Rattle.lx_ccode.proofs.Behind.{IsBehind}
use Rattle.lx_ccode.proofs.lines.Scope.behind_blocks.Given as goal

abbrev pub invariant-loop-place : goal.invariant-loop-place
invariant-loop-place l =
    IsBehind (blocks_then (scope_wording l.self) l.initial.line 0 l.blocks) (blocks_then (scope_wording l.self) l.line l.place (drop l.place l.blocks)) l.fn.bytes l.rest

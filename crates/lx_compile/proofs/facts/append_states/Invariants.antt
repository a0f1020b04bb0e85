use Rattle.std.proofs.Common.{◌≡◌, ◌++◌, map}
use Rattle.lx_compile.specs.Facts.{piece_states}
use Rattle.lx_ccode.specs.declared.piece.StateCase.{StateCase}
use Rattle.lx_compile.proofs.facts.append_states.Given as goal

abbrev pub invariant-loop-case : goal.invariant-loop-case
invariant-loop-case l =
    l.states ++ map (λ (case : StateCase). record { number = l.piece.number; case = case }) l.case-iterator.rest.items
    ≡ l.initial.states ++ piece_states l.piece

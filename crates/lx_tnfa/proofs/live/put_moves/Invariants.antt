use Rattle.std.proofs.Common.{◌≡◌, drop, map}
use Rattle.lx_tnfa.specs.Live.{put_each}
use Rattle.lx_tnfa.specs.declared.states.Move.{Move}
use Rattle.lx_tnfa.proofs.live.put_moves.Given as goal

abbrev pub invariant-loop-way : goal.invariant-loop-way
invariant-loop-way l =
    put_each l.before l.number (map (λ (way : Move). way.to) (drop l.way-index l.ways))
    ≡ put_each l.initial.before l.number (map (λ (way : Move). way.to) l.ways)

use Rattle.std.proofs.Common.{◌≡◌, ◌++◌, drop, map}
use Rattle.lx_tnfa.specs.Live.{starts_in, state_of}
use Rattle.lx_posix.specs.Reaching.{start_reach}
use Rattle.lx_posix.proofs.reaches.push_starts.Given as goal

abbrev pub invariant-loop-rest : goal.invariant-loop-rest
invariant-loop-rest l =
    let starts = starts_in l.t.classes (state_of l.t.states l.state) in
    l.reaches.items ++ map (start_reach l.from l.state l.events) (drop l.rest-index starts)
    ≡ l.fn.reaches.items ++ map (start_reach l.from l.state l.events) starts

use Rattle.std.proofs.Common.{◌≡◌, ◌++◌, None, drop, map, option_map}
use Rattle.lx_posix.specs.Closures.{IsFoundIfSome, kept_behind}
use Rattle.lx_posix.specs.Spots.{AreSpotsIfSome}
use Rattle.lx_posix.proofs.states.Making.next_kernel.Given as goal

abbrev pub invariant-loop-step : goal.invariant-loop-step
invariant-loop-step l =
    IsFoundIfSome l.self.source.t.now l.closure.beginnings.items (option_map (λ last. last.now) l.last)
    × (l.kernel.items
    ++ kept_behind l.self.source.t.now l.closure (option_map (λ last. last.now) l.last) (map (λ step. step.to) (drop l.step-index l.steps))
    (map (λ step. step.index) (drop l.step-index l.steps))
    ≡ kept_behind l.self.source.t.now l.closure None (map (λ step. step.to) l.steps) (map (λ step. step.index) l.steps))
    × AreSpotsIfSome l.self.source.t.now l.closure.beginnings.items (option_map (λ last. last.now) l.last) l.spots.items

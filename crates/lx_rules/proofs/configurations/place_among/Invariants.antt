use Rattle.std.proofs.Common.{◌≡◌, map, drop}
use Rattle.std.specs.List.{position_from}
use Rattle.std.specs.Str.{bytes_eq}
use Rattle.lx_rules.proofs.configurations.place_among.Given as goal

abbrev pub invariant-loop-place : goal.invariant-loop-place
invariant-loop-place l =
    position_from (bytes_eq l.text) l.place (map (λ word. word.now) (drop l.place l.words))
    ≡ position_from (bytes_eq l.text) 0 (map (λ word. word.now) l.words)

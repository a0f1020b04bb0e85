use Rattle.std.proofs.Common.{◌≡◌, map, take}
use Rattle.lx_regex.specs.Pattern.{pattern_of}
use Rattle.lx_regex.specs.declared.rules.Rule.{Rule}
use Rattle.lx_renumber.specs.Renumbered.{kinds_in, renumbered_pattern}
use Rattle.lx_renumber.proofs.rules.difference.Given as goal

abbrev pub invariant-loop-place : goal.invariant-loop-place
invariant-loop-place l = record {
  patterns : map pattern_of (take l.place l.rules) ≡ map (λ (rule : Rule). renumbered_pattern l.by (pattern_of rule)) (take l.place l.before);
  kinds : kinds_in (take l.place l.rules) ≡ kinds_in (take l.place l.before);
}

use Rattle.std.proofs.Common.{◌↔◌, drop, map}
use Rattle.lx_base.specs.Names.{IsNoneOf}
use Rattle.lx_base.proofs.letters.is_none_of.Given as goal

abbrev pub invariant-loop-other : goal.invariant-loop-other
invariant-loop-other l = IsNoneOf l.word (map (λ word. word.now) (drop l.other-index l.others)) ↔ IsNoneOf l.word (map (λ word. word.now) l.others)

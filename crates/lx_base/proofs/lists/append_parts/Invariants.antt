use Rattle.std.proofs.Common.{◌≡◌, ◌++◌, [], map, drop}
use Rattle.lx_base.specs.Text.{joined}
use Rattle.lx_base.proofs.lists.append_parts.Given as goal

abbrev pub invariant-loop-part : goal.invariant-loop-part
invariant-loop-part l =
    l.text.items ++ joined (map (λ part. part.now) (drop l.part-index l.parts)) []
    ≡ l.initial.text.items ++ joined (map (λ part. part.now) l.parts) []

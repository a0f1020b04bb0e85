use Rattle.std.proofs.Common.{◌≡◌, ◌++◌, drop, map}
use Rattle.std.specs.Prelude.{option_to_list}
use Rattle.lx_min.specs.Joined.{class_in, joined, step_of}
use Rattle.lx_min.proofs.joined.joined.Given as goal

abbrev pub invariant-loop-way : goal.invariant-loop-way
invariant-loop-way l =
    l.steps.items ++ joined (option_to_list l.last ++ map (step_of (class_in l.classes)) (drop l.way-index l.ways))
    ≡ joined (map (step_of (class_in l.classes)) l.ways)

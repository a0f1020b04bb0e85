use Rattle.std.proofs.Common.{◌≡◌, ◌++◌, drop}
use Rattle.lx_dispatch.specs.Views.{seen_stretches}
use Rattle.lx_dispatch.specs.TransitionClasses.{split_of}
use Rattle.lx_dispatch.proofs.unit_splits.split_of.Given as goal

abbrev pub invariant-loop-index : goal.invariant-loop-index
invariant-loop-index l =
    (seen_stretches l.tests.items ++ (split_of l.greatest (seen_stretches (drop l.index l.stretches))).tests
    ≡ (split_of l.greatest (seen_stretches l.stretches)).tests)
    × ((split_of l.greatest (seen_stretches (drop l.index l.stretches))).last ≡ (split_of l.greatest (seen_stretches l.stretches)).last)

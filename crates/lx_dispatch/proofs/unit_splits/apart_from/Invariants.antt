use Rattle.std.proofs.Common.{◌≡◌, ◌++◌, drop}
use Rattle.lx_dispatch.specs.UnitApart.{apart_from}
use Rattle.lx_dispatch.specs.Views.{seen_stretches}
use Rattle.lx_dispatch.proofs.unit_splits.apart_from.Given as goal

abbrev pub invariant-loop-index : goal.invariant-loop-index
invariant-loop-index l =
    record {
      tests : seen_stretches l.tests.items
          ++ (apart_from l.greatest l.apart l.place l.low (seen_stretches (drop l.index l.split.tests.items)) l.split.last).tests
          ≡ (apart_from l.greatest l.apart l.place 0 (seen_stretches l.split.tests.items) l.split.last).tests;
      last : (apart_from l.greatest l.apart l.place l.low (seen_stretches (drop l.index l.split.tests.items)) l.split.last).last
          ≡ (apart_from l.greatest l.apart l.place 0 (seen_stretches l.split.tests.items) l.split.last).last;
    }

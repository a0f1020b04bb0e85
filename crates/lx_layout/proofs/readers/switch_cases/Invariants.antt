use Rattle.std.proofs.Common.{◌≡◌, ◌++◌, drop}
use Rattle.std.specs.Prelude.{map}
use Rattle.lx_dispatch.specs.TestTrees.{cases_by}
use Rattle.lx_dispatch.specs.Views.{seen_case}
use Rattle.lx_layout.specs.TreeCodes.{switch_cases}
use Rattle.lx_layout.specs.Ways.{way_of}
use Rattle.lx_layout.proofs.readers.switch_cases.Given as goal

abbrev pub invariant-loop-case : goal.invariant-loop-case
invariant-loop-case l =
    l.made.items ++ switch_cases (cases_by (way_of l.exits) (map seen_case (drop l.case-index l.cases)))
    ≡ switch_cases (cases_by (way_of l.exits) (map seen_case l.cases))

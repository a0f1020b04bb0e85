use Rattle.std.proofs.Common.{◌∙◌, ap}
use Rattle.lx_compile.specs.Made.{groups_in_rules}
use Rattle.lx_compile.proofs.GreatestNumbers.{groups_in_scanners-more, ord_max-max}
use Rattle.lx_compile.proofs.making.groups_in_scanners.Goals as goal

pub loop-scanner-preserved : goal.loop-scanner-preserved
loop-scanner-preserved c =
    groups_in_scanners-more c.args.scanners.now c.loop-scanner.scanner-index c.scanner-item.result c.loop-scanner.most c.groups_in_rules.result _ _
    c.loop-scanner-test.true c.scanner-item.is (c.groups_in_rules.ensures ∙ ap groups_in_rules c.as_slice.ensures)
    (c.max-most.ensures ∙ ord_max-max c.loop-scanner.most c.groups_in_rules.result) c.loop-scanner.invariant

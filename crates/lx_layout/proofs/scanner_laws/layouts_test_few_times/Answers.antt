use Rattle.lx_layout.proofs.ScannerLaws.FewLayouts.{layout_tests_few}
use Rattle.lx_layout.proofs.scanner_laws.layouts_test_few_times.Goals as goal

pub returns : goal.returns
returns c piece format supply halting endings end_rule greatest trees auto begin formed are some marked stands stored =
    layout_tests_few piece format supply halting endings end_rule greatest trees auto begin formed are some marked stands stored

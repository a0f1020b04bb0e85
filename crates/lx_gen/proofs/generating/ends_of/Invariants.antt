use Rattle.std.proofs.Common.{◌≡◌, map, take}
use Rattle.std.specs.List.{AllByRecursion}
use Rattle.lx_layout.specs.RuleEnds.{endings_of}
use Rattle.lx_rules.specs.declared.resolved.Scanner.{Scanner}
use Rattle.lx_gen.specs.Generated.{endings_by}
use Rattle.lx_gen.specs.Seen.{HaveShortLines, seen_marks}
use Rattle.lx_gen.proofs.generating.ends_of.Given as goal

abbrev pub invariant-loop-scanner : goal.invariant-loop-scanner
invariant-loop-scanner l = record {
  endings : map (λ one. endings_of one.items) l.all.items
      ≡ map (λ (scanner : Scanner). endings_by (seen_marks l.marks) l.acts scanner.set.rules) (take l.scanner-index l.scanners);
  lines : AllByRecursion HaveShortLines (map (λ one. endings_of one.items) l.all.items);
}

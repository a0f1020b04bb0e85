use Rattle.std.proofs.Common.{◌∙◌, ap, List, map}
use Rattle.std.proofs.lemmas.List.{take_all}
use Rattle.lx_layout.specs.RuleEnds.{endings_of}
use Rattle.lx_regex.specs.declared.rules.Rule.{Rule}
use Rattle.lx_rules.specs.declared.resolved.Scanner.{Scanner}
use Rattle.lx_gen.specs.Generated.{endings_by}
use Rattle.lx_gen.specs.Seen.{HaveShortLines, seen_marks}
use Rattle.lx_gen.proofs.SourceLists.{each-more, map-behind, mapped-more}
use Rattle.lx_gen.proofs.generating.ends_of.Goals as goal

pub loop-scanner-preserved : goal.loop-scanner-preserved
loop-scanner-preserved c =
    let marks = seen_marks c.args.marks in
    let acts = c.args.acts.now in
    let scanners = c.args.scanners.now in
    record {
      endings =
          mapped-more (λ one. endings_of one.items) (λ (scanner : Scanner). endings_by marks acts scanner.set.rules) c.loop-scanner.all.items c.push.new.self.items
          c.in_ok-rule_ends.field-0 scanners c.loop-scanner.scanner-index c.scanner-item.result c.loop-scanner-test.true c.scanner-item.is
          c.loop-scanner.invariant.endings
          (c.in_ok-rule_ends.ensures.endings ∙ ap (λ (rules : List Rule). endings_by marks acts rules) c.as_slice-rules.ensures)
          c.in_ok-push.ensures.items;
      lines =
          each-more HaveShortLines (map (λ one. endings_of one.items) c.loop-scanner.all.items) (map (λ one. endings_of one.items) c.push.new.self.items)
          (endings_of c.in_ok-rule_ends.field-0.items) c.loop-scanner.invariant.lines c.in_ok-rule_ends.ensures.lines
          (ap (map (λ one. endings_of one.items)) c.in_ok-push.ensures.items ∙ map-behind (λ one. endings_of one.items) c.loop-scanner.all.items c.in_ok-rule_ends.field-0);
    }

pub returns : goal.returns
returns c = record {
  endings = c.loop-scanner.invariant.endings
      ∙ ap (map (λ (scanner : Scanner). endings_by (seen_marks c.args.marks) c.args.acts.now scanner.set.rules))
      (take_all c.loop-scanner.scanner-index c.args.scanners.now c.loop-scanner-test.false);
  lines = c.loop-scanner.invariant.lines;
}

use Rattle.std.proofs.Common.{◌∙◌, ◌++◌, get_or, List, None, ap, refl, append_assoc}
use Rattle.std.proofs.lemmas.List.Elements.{Contains-get_or}
use Rattle.std.proofs.lemmas.Result.{on_ok_weaker}
use Rattle.lx_gen.specs.Generated.{endings_by}
use Rattle.lx_layout.specs.RuleEnds.{endings_of}
use Rattle.lx_regex.specs.Pattern.{patterns_of, terms_of}
use Rattle.lx_regex.specs.declared.rules.Rule.{Rule}
use Rattle.lx_compile.specs.Covering.{scanner_line}
use Rattle.lx_compile.proofs.LineRuns.{covering-units}
use Rattle.lx_compile.proofs.covered.append_words.Goals as goal

pub append_lines-requires-clause-endings : goal.append_lines-requires-clause-endings
append_lines-requires-clause-endings c =
    let acts = c.args.matching.now.acts.now in
    ap endings_of (c.in_ok-index.ensures.ends ∙ c.deref.ensures.value) ∙ c.in_ok-ends.ensures.endings
    ∙ ap (λ (rules : List Rule). endings_by None acts rules) c.as_slice-rules.ensures

pub append_lines-requires-clause-units : goal.append_lines-requires-clause-units
append_lines-requires-clause-units c k d lt =
    let words = c.args.words.now in
    covering-units c.args.matching.now.options.now.enc (terms_of (patterns_of c.args.matching.now.scanner.now.set.rules)) (get_or words k d)
    (c.requires.cover.sound (get_or words k d) (Contains-get_or words k d lt))

pub returns : goal.returns
returns c =
    let text = c.args.text.now.items in
    let words = c.args.words.now in
    let heading = scanner_line c.args.number c.args.matching.now.scanner.now.cond in
    on_ok_weaker c.append_lines.result
    (λ found. (
      heading ++ found.0,
      (words, found.0, c.requires.cover, found.1, refl),
      found.2 ∙ ap (λ front. front ++ found.0) c.in_ok-append_heading.ensures ∙ append_assoc text heading found.0,
    )) c.append_lines.ensures

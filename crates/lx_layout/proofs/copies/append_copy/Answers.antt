use Rattle.std.proofs.Common.{◌∙◌, ◌++◌, List, ap, map}
use Rattle.std.proofs.lemmas.Result.{on_ok_weaker}
use Rattle.lx_ccode.specs.declared.piece.CodeBlock.{CodeBlock}
use Rattle.lx_ccode.specs.declared.piece.Stmt.{Stmt}
use Rattle.lx_layout.specs.Copies.{codes_in, front_at, moved_codes}
use Rattle.lx_layout.specs.LaidParts.{ended_at}
use Rattle.lx_layout.specs.Layout.{ending_blocks}
use Rattle.lx_layout.specs.Plans.{unlabelled}
use Rattle.lx_layout.specs.RuleEnds.{endings_of}
use Rattle.lx_layout.specs.SuppliedLayout.{end_rule_part}
use Rattle.lx_layout.specs.declared.rule_ends.RuleEnd.{RuleEnd}
use Rattle.lx_layout.proofs.Fronts.CopiedParts.{codes_in-unlabelled}
use Rattle.lx_layout.proofs.Laying.LaidWhole.{unlabelled-more}
use Rattle.lx_layout.proofs.copies.append_copy.Goals as goal
use Rattle.lx_renumber.specs.Renumbered.{renumbered_accept}

pub returns : goal.returns
returns c =
    let plans = c.args.front.now.ends.plans in
    let old = c.args.blocks.now.items in
    let codes : List (List Stmt) = front_at plans in
    let moved : List (List Stmt) = moved_codes c.args.begin c.args.first codes in
    let told = c.in_ok-index.index.ends.now in
    let accepts = map (renumbered_accept c.args.by) (ended_at plans) in
    let ended : List (List Stmt) = ending_blocks (endings_of told) accepts in
    let last : List (List Stmt) = end_rule_part (endings_of told) c.args.input.now.end_rule in
    let same = ap (λ (l : List CodeBlock). codes_in l) (c.as_slice.ensures.value ∙ c.requires.front.blocks) ∙ codes_in-unlabelled codes in
    let copied =
    c.in_ok-append_moved.ensures ∙ ap (λ (l : List (List Stmt)). old ++ unlabelled (moved_codes c.args.begin c.args.first l)) same in
    on_ok_weaker c.append_end_rule.result
    (λ put. put ∙ ap (λ (l : List CodeBlock). l ++ unlabelled last) c.in_ok-append_endings_by.ensures
    ∙ ap (λ (l : List CodeBlock). (l ++ unlabelled ended) ++ unlabelled last) copied
    ∙ unlabelled-more (old ++ unlabelled moved) ended last ∙ unlabelled-more old moved (ended ++ last)
    ∙ ap (λ (l : List RuleEnd). old ++ unlabelled (moved ++ (ending_blocks (endings_of l) accepts
    ++ end_rule_part (endings_of l) c.args.input.now.end_rule))) c.in_ok-index.ensures.ends)
    c.append_end_rule.ensures

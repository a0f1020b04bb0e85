use Rattle.std.proofs.Common.{◌≡◌, ◌≢◌, ◌∙◌, ◌∷◌, ◌<◌, [], arith, length, subst, sym}
use Rattle.lx_top.specs.Sources.{lines_of}
use Rattle.lx_top.specs.declared.summary.RunLines.{RunLines}
use Rattle.lx_top.proofs.SummaryLemmas.{IsAhead, IsAhead-other, IsAhead-rule, not_empty}
use Rattle.lx_top.proofs.summary.run_lines.Goals as goal
use Rattle.lx_top.proofs.summary.run_lines.Goals.{then-begins_with, else-begins_with}

pub loop-rest-preserved : goal.loop-rest-preserved
loop-rest-preserved c =
    let rest = c.loop-rest.rest.now in
    let line = c.split_at.result.0.now in
    let behind = c.split_at.result.1.now in
    let some : rest ≢ [] = not_empty rest c.loop-rest-test.ensures in
    let first : lines_of rest ≡ line ∷ lines_of behind = rw (c.split_at.ensures.front, c.split_at.ensures.back) (c.line_length.ensures.first some) in
    let progress = c.line_length.ensures.progress some in
    let size = c.split_at.ensures.back_len in
    let less : length behind < length rest = omega arith in
    elim c.if-begins_with.branch [
      | then-begins_with w ↦
          let tells = sym c.begins_with.ensures.value ∙ w.if-begins_with.true in
          subst (λ (lines : RunLines). IsAhead c.args.run.now behind lines.matches lines.last_match.now line) (sym w.lines-is)
          (IsAhead-rule c.args.run.now rest line behind _ _ _ c.loop-rest.invariant first less tells)
      | else-begins_with w ↦
          let tells = sym c.begins_with.ensures.value ∙ w.if-begins_with.false in
          subst (λ (lines : RunLines). IsAhead c.args.run.now behind lines.matches lines.last_match.now line) (sym w.lines-is)
          (IsAhead-other c.args.run.now rest line behind _ _ _ c.loop-rest.invariant first less tells)
    ]

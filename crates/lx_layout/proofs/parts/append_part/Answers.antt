use Rattle.std.proofs.Common.{◌≡◌, ◌∙◌, length}
use Rattle.lx_layout.specs.LaidParts.{codes_at}
use Rattle.lx_layout.proofs.Laying.LaidWhole.{part_laid}
use Rattle.lx_layout.proofs.parts.append_part.Goals as goal

pub returns-clause-laid : goal.returns-clause-laid
returns-clause-laid c =
    let old = c.args.blocks.now.items in
    let laid = c.in_ok-next.ensures.laid in
    let plans = laid.0 in
    let begin : c.len-begin.result ≡ length old = c.len-begin.ensures ∙ c.args.blocks.now.ok.0 in
    part_laid plans laid.1 c.args.input.now laid.2 (length old) c.args.first (laid.3 ∙ begin) laid.4 old c.label.new.blocks.items
    (c.in_ok-label.ensures old (codes_at plans) laid.5 begin)

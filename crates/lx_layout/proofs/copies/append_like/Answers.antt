use Rattle.std.proofs.Common.{◌≡◌, ◌+◌, ◌∙◌, ap, length, sym}
use Rattle.lx_layout.specs.Copies.{copied_codes}
use Rattle.lx_layout.proofs.Fronts.CopiedParts.{copied-asked, copied-laid}
use Rattle.lx_layout.proofs.copies.append_like.Goals as goal

pub returns-clause-laid : goal.returns-clause-laid
returns-clause-laid c =
    let front = c.args.front.now in
    let input = c.args.input.now in
    let old = c.args.blocks.now.items in
    let begin : c.len-begin.result ≡ length old = c.len-begin.ensures ∙ c.args.blocks.now.ok.0 in
    let codes = copied_codes front input c.args.by c.len-begin.result c.args.first in
    copied-laid front input c.args.by c.requires.front c.requires.like c.len-begin.result c.args.first old c.label.new.blocks.items begin
    (c.in_ok-label.ensures old codes c.in_ok-append_copy.ensures begin)

pub returns-clause-asked : goal.returns-clause-asked
returns-clause-asked c =
    c.in_ok-next.ensures
    ∙ ap (λ n. c.args.first + n) (sym (copied-asked c.args.front.now c.args.input.now c.args.by c.requires.front c.requires.like))

use Rattle.std.proofs.Common.{◌∙◌, ap, refl}
use Rattle.lx_regs.specs.Graphs.{put_at}
use Rattle.lx_regs.proofs.SharedNames.GraphSteps.{Joins-fresh, Joins-known}
use Rattle.lx_regs.proofs.graphs.Graph.join_ordered.Goals as goal

pub returns-in_ok-put-2 : goal.returns-in_ok-put-2
returns-in_ok-put-2 c =
    let old = c.args.self.now in
    Joins-fresh old _ c.args.first c.args.second c.requires.graph c.requires.first c.requires.second
    (c.in_ok-put-2.ensures ∙ ap (λ l. put_at l c.args.second c.args.first) c.in_ok-put.ensures)
    c.in_ok-note.ensures.only

pub returns-else-branch : goal.returns-else-branch
returns-else-branch c =
    let old = c.args.self.now in
    Joins-known old _ c.args.first c.args.second c.requires.graph (c.in_ok-note.ensures.told c.if-branch.false) c.in_ok-note.ensures.only refl

use Rattle.std.proofs.Common.{◌∙◌, arith, rules, length, ◌≡◌}
use Rattle.lx_step.specs.Nodes.{contents}
use Rattle.lx_step.proofs.Nodes.{view-append, AreBelow-append, length-view}
use Rattle.lx_step.proofs.histories.Histories.append.Goals as goal

pub invariant_of-self-2 : goal.invariant_of-self-2
invariant_of-self-2 c =
    let count : length c.self.inside.lasts.items ≡ length c.args.self.now = length-view (contents c.self.inside.nodes.items) _ _ c.self.view_is in
    rw c.in_ok-push.ensures.items (AreBelow-append _ _ _ _ _ c.self.invariant (omega (arith, count, c.requires)) c.index.ensures (c.len-node.ensures ∙ search rules))

pub returns-clause-appended : goal.returns-clause-appended
returns-clause-appended c =
    let count : length c.self.inside.lasts.items ≡ length c.args.self.now = length-view (contents c.self.inside.nodes.items) _ _ c.self.view_is in
    rw (c.in_ok-push.ensures.items, ← c.self.view_is) (view-append _ _ _ _ _ c.self.invariant (omega (arith, count, c.requires)) c.index.ensures (c.len-node.ensures ∙ search rules))

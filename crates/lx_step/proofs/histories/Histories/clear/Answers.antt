use Rattle.std.proofs.Common.{◌∙◌, ap, length, replicate, rules, ◌≡◌, []}
use Rattle.lx_step.specs.Nodes.{contents}
use Rattle.lx_step.proofs.Nodes.{map-empty, length-view}
use Rattle.lx_step.proofs.histories.Histories.clear.Goals as goal

pub returns : goal.returns
returns c =
    let count : length c.self.inside.lasts.items ≡ length c.args.self.now = length-view (contents c.self.inside.nodes.items) _ _ c.self.view_is in
    let many : c.self.inside.lasts.len ≡ length c.self.inside.lasts.items = search rules in
    rw (c.fill.ensures.items (λ y e. search (rules, e)), c.clear.ensures.items) (map-empty c.self.inside.lasts.len ∙ ap (λ n. replicate n []) (many ∙ count))

use Rattle.std.proofs.Common.{◌∙◌, sym, ap, arith, length, set, map, ◌≡◌}
use Rattle.std.proofs.lemmas.List.{map-set}
use Rattle.lx_step.specs.Nodes.{contents, content_at}
use Rattle.lx_step.proofs.Nodes.{get_or-map-content_at, length-view}
use Rattle.lx_step.proofs.histories.Histories.copy.Goals as goal

pub returns : goal.returns
returns c =
    let done = contents c.self.inside.nodes.items in
    let lasts = c.self.inside.lasts.items in
    let count : length lasts ≡ length c.args.self.now = length-view done _ _ c.self.view_is in
    rw (← c.self.view_is) (map-set (content_at done) lasts c.args.history c.index.result.now
    ∙ ap (λ content. set (map (content_at done) lasts) c.args.history content)
    (ap (content_at done) c.index.ensures ∙ sym (get_or-map-content_at done lasts c.args.source c.index.result.now (omega (arith, count, c.requires.source)))))

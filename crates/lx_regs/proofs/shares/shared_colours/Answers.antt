use Rattle.std.proofs.Common.{◌≡◌, ◌∙◌, ap, map, subst, sym}
use Rattle.std.proofs.lemmas.Result.{IfOk-weaker}
use Rattle.std.specs.Prelude.{slice_index}
use Rattle.lx_regs.specs.Colours.{IsMerged, IsSharing}
use Rattle.lx_regs.proofs.SharedNames.ColourSteps.{twice-sharing}
use Rattle.lx_regs.proofs.shares.shared_colours.Goals as goal

pub returns : goal.returns
returns c =
    let graph = c.args.graph.now in
    let first = c.in_ok-first.first.items in
    let second = c.in_ok-second.second.items in
    let merged = c.in_ok-merged.merged in
    let sharing =
    twice-sharing graph merged c.requires.graph first second c.in_ok-first.ensures.count c.in_ok-first.ensures.colours
    (subst (λ l. IsMerged graph l merged) c.deref.ensures.value c.in_ok-merged.ensures) c.in_ok-second.ensures.count c.in_ok-second.ensures.fit in
    IfOk-weaker c.second_colours.result (λ colours. colours.items ≡ map (slice_index c.deref-3.result.now) c.deref-2.result.now)
    (λ colours. IsSharing graph colours.items)
    (λ colours is.
    let same : map (slice_index second) first ≡ colours.items =
    sym (is ∙ ap (λ l. map (slice_index l) c.deref-2.result.now) c.deref-3.ensures.value ∙ ap (map (slice_index second)) c.deref-2.ensures.value) in
    subst (IsSharing graph) same sharing)
    c.second_colours.ensures

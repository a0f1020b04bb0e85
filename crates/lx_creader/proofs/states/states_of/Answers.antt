use Rattle.std.proofs.Common.{◌∷◌, ◌+◌, drop, sym, ap, ◌∙◌}
use Rattle.std.proofs.lemmas.List.{drop_more}
use Rattle.lx_creader.proofs.StateLists.{states_from-step}
use Rattle.lx_creader.proofs.states.states_of.Goals as goal

pub loop-place-preserved : goal.loop-place-preserved
loop-place-preserved c =
    let blocks = c.args.blocks.now in
    let place = c.loop-place.place in
    let block = c.index-blocks-place.result in
    states_from-step blocks place block c.loop-place.states.items c.append_states.new.states.items _
    (drop_more blocks place block c.loop-place-test.true ∙ ap (λ b. b ∷ drop (place + 1) blocks) (sym c.index-blocks-place.is))
    (cc (c.in_ok-append_states.ensures, c.as_slice.ensures)) c.loop-place.invariant

use Rattle.std.proofs.Common.{◌∙◌, ◌<◌, [], refl, sym, subst}
use Rattle.std.proofs.lemmas.List.{get_or_default}
use Rattle.lx_ccode.specs.Text.{name_then, names_then}
use Rattle.lx_ccode.proofs.Tails.{appended_next, joined-nil, name_parts}
use Rattle.lx_ccode.proofs.printing.append_names.Goals as goal

pub loop-place-preserved : goal.loop-place-preserved
loop-place-preserved c =
    let names = c.args.names.now in
    let place = c.loop-place.place in
    let name = c.spelling.result.now in
    let within = subst (λ count. place < count) c.len-place-end.ensures c.loop-place-test.true in
    appended_next name_then (λ names. names_then names []) names place name _ _ _ (joined-nil (name_parts name)) (λ names. refl) within
    (c.spelling.ensures ∙ sym (get_or_default names place name [] within)) c.in_ok-append_name.ensures c.loop-place.invariant

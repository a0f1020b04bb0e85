use Rattle.lx_layout.specs.PieceViews.{seen_form}
use Rattle.lx_layout.proofs.Fronts.LikeParts.{like-told, own-told}
use Rattle.lx_layout.proofs.pieces.append_scanner.Goals as goal

pub append_part-requires-clause-told : goal.append_part-requires-clause-told
append_part-requires-clause-told c =
    let input = c.part_input-input.ensures in
    own-told (seen_form c.args.form.now) c.requires.fit.0 c.args.scanner.now c.requires.fit.1 c.part_input-input.result input.ends input.auto
    input.end_rule c.in-None-default.is-0

pub append_like-requires-clause-told : goal.append_like-requires-clause-told
append_like-requires-clause-told c =
    let input = c.part_input-input.ensures in
    like-told (seen_form c.args.form.now) c.requires.fit.0 c.args.scanner.now c.requires.fit.1 c.part_input-input.result c.in-Some-Some.by input.ends
    input.auto input.end_rule c.in-Some-Some.is-0

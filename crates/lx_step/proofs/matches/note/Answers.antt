use Rattle.std.proofs.Common.{◌≡◌, ◌∙◌, sym, arith, false}
use Rattle.std.specs.List.{list_any}
use Rattle.lx_step.specs.Assigned.{same_place}
use Rattle.lx_step.specs.Places.{place_of}
use Rattle.lx_step.proofs.Places.{StaysIn-more, place_put, room_left}
use Rattle.lx_step.proofs.matches.note.Goals as goal

pub unwrap-requires : goal.unwrap-requires
unwrap-requires c =
    let places = c.args.assigned.now.keys in
    let new : list_any (same_place (place_of c.args.at)) places ≡ false = sym c.contains.ensures ∙ c.if-contains.false in
    let less = room_left c.args.piece.now.blocks c.args.at c.args.stmt.now places _ c.requires.stands (sym c.is_assignment.ensures ∙ c.if-not-is_assignment.false) new c.requires.within c.requires.places in
    c.insert.ensures.succeeds (omega (arith, less))

pub returns-clause-within : goal.returns-clause-within
returns-clause-within c =
    let places = c.args.assigned.now.keys in
    let new : list_any (same_place (place_of c.args.at)) places ≡ false = sym c.contains.ensures ∙ c.if-contains.false in
    rw (place_put _ _ places _ (place_of c.args.at) c.unwrap.ensures c.insert.ensures.keys new)
    (StaysIn-more c.args.piece.now.blocks c.args.at c.args.stmt.now places c.requires.stands (sym c.is_assignment.ensures ∙ c.if-not-is_assignment.false) new c.requires.within)

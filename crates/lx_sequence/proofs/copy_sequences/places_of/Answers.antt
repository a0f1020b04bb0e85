use Rattle.std.proofs.Common.{◌≡◌, nat_cmp, nat_eq, if◌then◌else◌, length, Some, arith, ◌∙◌, ap, subst}
use Rattle.std.proofs.lemmas.List.{length-map}
use Rattle.std.specs.BTreeMap.{get}
use Rattle.lx_sequence.specs.CopyOps.{seen_copies, seen_copy}
use Rattle.lx_sequence.specs.WaitingCopies.{ArePlaces}
use Rattle.lx_sequence.proofs.WaitingCopies.{ArePlaces-more, seen_copy-at}
use Rattle.lx_sequence.proofs.copy_sequences.places_of.Goals as goal

pub loop-place-preserved : goal.loop-place-preserved
loop-place-preserved c =
    let long = length-map c.args.copies.now seen_copy in
    ArePlaces-more (seen_copies c.args.copies.now) c.requires c.loop-place.places c.note_place.new.places c.loop-place.place
    (omega (arith, long)) c.loop-place.invariant
    (λ other.
    c.in_ok-note_place.ensures other
    ∙ ap (λ copy. if nat_eq other copy.0 then Some c.loop-place.place else get nat_cmp c.loop-place.places other)
    (seen_copy-at c.args.copies.now c.loop-place.place _ c.loop-place-test.true))

pub returns : goal.returns
returns c =
    let all : c.loop-place.place ≡ length c.args.copies.now = omega arith in
    subst (λ n. ArePlaces c.loop-place.places (seen_copies c.args.copies.now) n) all c.loop-place.invariant

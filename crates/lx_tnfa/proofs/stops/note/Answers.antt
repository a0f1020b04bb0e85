use Rattle.std.proofs.Common.{◌≡◌, ◌∙◌, [], ◌∷◌, ◌++◌, sym, subst}
use Rattle.std.proofs.lemmas.List.{map-id}
use Rattle.std.specs.Bool.{MatchBool}
use Rattle.std.specs.Prelude.{Contains}
use Rattle.lx_tnfa.proofs.Searching.NotedStops.{put_noted, put_told}
use Rattle.lx_tnfa.proofs.Searching.SetMembers.{added}
use Rattle.lx_tnfa.proofs.Searching.StopSets.{TellsEqual-stops}
use Rattle.lx_tnfa.proofs.stops.note.Goals as goal

pub returns-in_ok-fresh-in-None-clause-told : goal.returns-in_ok-fresh-in-None-clause-told
returns-in_ok-fresh-in-None-clause-told c =
    let old = c.args.others.now.keys in
    let new = c.insert.new.self.keys in
    let stop = c.args.stop in
    let fresh = c.in_ok-fresh-in-None.fresh in
    let put = c.in_ok-fresh-in-None.ensures in
    put_told c.args.marks.now.items c.args.turn old new stop fresh (sym c.mark_place.ensures.place ∙ c.in-None.is)
    (subst (λ seen. MatchBool fresh (¬ Contains seen stop × (new ≡ old ++ stop ∷ [])) (Contains seen stop × (new ≡ old))) (map-id old)
    (added (λ item. item) _ TellsEqual-stops.equal TellsEqual-stops.itself old new stop fresh put.added put.keys))

pub returns-in_ok-fresh-in-None-clause-noted : goal.returns-in_ok-fresh-in-None-clause-noted
returns-in_ok-fresh-in-None-clause-noted c =
    let old = c.args.others.now.keys in
    let new = c.insert.new.self.keys in
    let stop = c.args.stop in
    let fresh = c.in_ok-fresh-in-None.fresh in
    let put = c.in_ok-fresh-in-None.ensures in
    put_noted c.args.marks.now.items c.args.turn old new stop fresh (sym c.mark_place.ensures.place ∙ c.in-None.is)
    (subst (λ seen. MatchBool fresh (¬ Contains seen stop × (new ≡ old ++ stop ∷ [])) (Contains seen stop × (new ≡ old))) (map-id old)
    (added (λ item. item) _ TellsEqual-stops.equal TellsEqual-stops.itself old new stop fresh put.added put.keys))

use Rattle.std.proofs.Common.{◌∙◌, [], ◌∷◌, ◌++◌, ap, sym, subst}
use Rattle.lx_tnfa.specs.Noted.{AreNoted}
use Rattle.lx_tnfa.proofs.Searching.NotedStops.{with_stop}
use Rattle.lx_tnfa.proofs.stops.VisitedStops.add.Goals as goal

pub invariant_of-self-in-Continue-branch-3 : goal.invariant_of-self-in-Continue-branch-3
invariant_of-self-in-Continue-branch-3 c =
    let stop = c.args.stop in
    let old = c.self.inside in
    let next = c.note.new.marks.items in
    let more = c.note.new.others.keys in
    subst (λ stops. AreNoted stops next old.turn more)
    (sym (c.in_ok-push.ensures.items ∙ ap (λ stops. stops ++ stop ∷ []) c.in_ok-reserve.ensures.items))
    (with_stop old.stops.items old.marks.items next old.turn old.others.keys more stop c.self.invariant c.in_ok-fresh.ensures.noted)

use Rattle.std.proofs.Common.{[], ◌++◌, ◌∷◌, ◌∙◌, ◌<◌, ap, refl, sym, subst, vec_len}
use Rattle.lx_tnfa.specs.Search.{Enters}
use Rattle.lx_tnfa.specs.declared.search.Branch.{Branch}
use Rattle.lx_tnfa.proofs.Searching.ClosureLoop.{none_left}
use Rattle.lx_tnfa.proofs.Searching.SearchTrail.{SearchSoFar, left_dropped, left_state, left_target, search_begin, search_dropped, search_end, search_left, search_state, search_taken, search_target}
use Rattle.lx_tnfa.proofs.tnfa.Tnfa.closure_with.Goals as goal

pub loop-at-init : goal.loop-at-init
loop-at-init c =
    let tnfa = c.args.self.now in
    let places = c.args.places.now in
    let waiting = c.push_beginnings.new.waiting.items in
    subst (λ v. SearchSoFar tnfa places v c.clear-2.new.self.items waiting c.new-reaches.result) (sym c.clear.ensures)
    (subst (λ r. SearchSoFar tnfa places [] c.clear-2.new.self.items waiting r) (sym c.new-reaches.ensures)
    (search_begin tnfa places c.clear-2.new.self.items waiting c.clear-3.new.self.items c.requires.places c.clear-2.ensures.items c.clear-3.ensures.items
    c.in_ok-push_beginnings.ensures))

pub loop-at-preserved-then-not-branch : goal.loop-at-preserved-then-not-branch
loop-at-preserved-then-not-branch c =
    let tnfa = c.args.self.now in
    let places = c.args.places.now in
    let stops = c.loop-at.visited in
    let trail = c.loop-at.trail.items in
    let at = c.in-Some.at in
    let old = c.loop-at.waiting.items in
    let waiting = c.pop.new.self.items in
    let reaches = c.loop-at.reaches in
    let was = c.in-Some.ensures.items in
    let taken = search_taken tnfa places stops trail at old waiting reaches was c.loop-at.invariant in
    let left = subst (Enters tnfa at.stop stops c.enters.new.visited) c.if-not-branch.true c.in_ok-enters.ensures in
    subst (λ v. SearchSoFar tnfa places v trail waiting reaches) (sym left.1)
    (search_dropped tnfa places stops trail at waiting reaches left.0 taken)

pub loop-at-smaller-then-not-branch : goal.loop-at-smaller-then-not-branch
loop-at-smaller-then-not-branch c =
    let tnfa = c.args.self.now in
    let places = c.args.places.now in
    let stops = c.loop-at.visited in
    let trail = c.loop-at.trail.items in
    let at = c.in-Some.at in
    let old = c.loop-at.waiting.items in
    let waiting = c.pop.new.self.items in
    let reaches = c.loop-at.reaches in
    let was = c.in-Some.ensures.items in
    let taken = search_taken tnfa places stops trail at old waiting reaches was c.loop-at.invariant in
    let left = subst (Enters tnfa at.stop stops c.enters.new.visited) c.if-not-branch.true c.in_ok-enters.ensures in
    subst (λ v. search_left tnfa v trail waiting < search_left tnfa stops trail old) (sym left.1)
    (left_dropped tnfa places stops trail at old waiting reaches was left.0 taken)

pub loop-at-preserved-in_ok-push_steps-in-AtState : goal.loop-at-preserved-in_ok-push_steps-in-AtState
loop-at-preserved-in_ok-push_steps-in-AtState c =
    let tnfa = c.args.self.now in
    let places = c.args.places.now in
    let stops = c.loop-at.visited in
    let trail = c.loop-at.trail.items in
    let at = c.in-Some.at in
    let old = c.loop-at.waiting.items in
    let waiting = c.pop.new.self.items in
    let reaches = c.loop-at.reaches in
    let was = c.in-Some.ensures.items in
    let taken = search_taken tnfa places stops trail at old waiting reaches was c.loop-at.invariant in
    let entered = subst (Enters tnfa at.stop stops c.enters.new.visited) c.if-not-branch.false c.in_ok-enters.ensures in
    let next = c.follow.new.trail.items in
    let followed = c.in_ok-follow.ensures in
    let more = c.push_steps.new.waiting.items in
    let branch : Branch = record { state = c.in-AtState.state; depth = c.len.result; from = at.from } in
    let depth = c.len.ensures ∙ c.follow.new.trail.ok.0 in
    let pushed = c.in_ok-push_steps-in-AtState.ensures.pushed in
    subst (λ v. SearchSoFar tnfa places v next more reaches) (sym entered.2)
    (search_state tnfa places stops trail next at waiting more reaches branch c.requires.places c.in-AtState.is depth refl entered.0 entered.1 followed pushed
    c.in_ok-push_steps-in-AtState.ensures.targets taken)

pub loop-at-smaller-in_ok-push_steps-in-AtState : goal.loop-at-smaller-in_ok-push_steps-in-AtState
loop-at-smaller-in_ok-push_steps-in-AtState c =
    let tnfa = c.args.self.now in
    let places = c.args.places.now in
    let stops = c.loop-at.visited in
    let trail = c.loop-at.trail.items in
    let at = c.in-Some.at in
    let old = c.loop-at.waiting.items in
    let waiting = c.pop.new.self.items in
    let reaches = c.loop-at.reaches in
    let was = c.in-Some.ensures.items in
    let taken = search_taken tnfa places stops trail at old waiting reaches was c.loop-at.invariant in
    let entered = subst (Enters tnfa at.stop stops c.enters.new.visited) c.if-not-branch.false c.in_ok-enters.ensures in
    let next = c.follow.new.trail.items in
    let followed = c.in_ok-follow.ensures in
    let more = c.push_steps.new.waiting.items in
    let branch : Branch = record { state = c.in-AtState.state; depth = c.len.result; from = at.from } in
    let depth = c.len.ensures ∙ c.follow.new.trail.ok.0 in
    let pushed = c.in_ok-push_steps-in-AtState.ensures.pushed in
    subst (λ v. search_left tnfa v next more < search_left tnfa stops trail old) (sym entered.2)
    (left_state tnfa places stops trail next at old waiting more reaches branch c.requires.places was c.in-AtState.is depth refl entered.0 entered.1 followed
    pushed taken)

pub loop-at-preserved : goal.loop-at-preserved
loop-at-preserved c =
    let tnfa = c.args.self.now in
    let places = c.args.places.now in
    let stops = c.loop-at.visited in
    let trail = c.loop-at.trail.items in
    let at = c.in-Some.at in
    let old = c.loop-at.waiting.items in
    let waiting = c.pop.new.self.items in
    let reaches = c.loop-at.reaches in
    let was = c.in-Some.ensures.items in
    let taken = search_taken tnfa places stops trail at old waiting reaches was c.loop-at.invariant in
    let entered = subst (Enters tnfa at.stop stops c.enters.new.visited) c.if-not-branch.false c.in_ok-enters.ensures in
    let next = c.follow.new.trail.items in
    let followed = c.in_ok-follow.ensures in
    let copied = c.from_vec.ensures ∙ c.in_ok-from_slice-in-AtTarget.ensures.items ∙ c.deref.ensures.value in
    let pushed =
    c.in_ok-push-in-AtTarget.ensures.pushed
    ∙ ap (λ events. reaches ++ record { to = c.in-AtTarget.to; events = events; from = at.from } ∷ []) copied in
    subst (λ v. SearchSoFar tnfa places v next waiting c.push.new.self) (sym entered.2)
    (search_target tnfa places stops trail next at waiting reaches c.push.new.self c.in-AtTarget.to c.requires.places c.in-AtTarget.is entered.0 entered.1
    followed pushed taken)

pub loop-at-smaller : goal.loop-at-smaller
loop-at-smaller c =
    let tnfa = c.args.self.now in
    let places = c.args.places.now in
    let stops = c.loop-at.visited in
    let trail = c.loop-at.trail.items in
    let at = c.in-Some.at in
    let old = c.loop-at.waiting.items in
    let waiting = c.pop.new.self.items in
    let reaches = c.loop-at.reaches in
    let was = c.in-Some.ensures.items in
    let taken = search_taken tnfa places stops trail at old waiting reaches was c.loop-at.invariant in
    let entered = subst (Enters tnfa at.stop stops c.enters.new.visited) c.if-not-branch.false c.in_ok-enters.ensures in
    let next = c.follow.new.trail.items in
    let followed = c.in_ok-follow.ensures in
    subst (λ v. search_left tnfa v next waiting < search_left tnfa stops trail old) (sym entered.2)
    (left_target tnfa places stops trail next at old waiting reaches c.in-AtTarget.to c.requires.places was c.in-AtTarget.is entered.0 entered.1 followed taken)

pub returns-clause-closure : goal.returns-clause-closure
returns-clause-closure c =
    let none = none_left c.pop.result c.loop-at.waiting.items (vec_len c.loop-at.waiting) (vec_len c.pop.new.self) (sym c.loop-at.waiting.ok.0) c.pop.ensures.cases c.in_default.not-Some in
    search_end c.args.self.now c.args.places.now c.loop-at.visited c.loop-at.trail.items c.loop-at.waiting.items c.loop-at.reaches c.requires.places none
    c.loop-at.invariant

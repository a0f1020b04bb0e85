use Rattle.std.proofs.Common.{◌≡◌, ◌∙◌, ◌<◌, ap, sym, subst, vec_len, [], ◌∷◌, ◌++◌, length, arith, length-append}
use Rattle.std.specs.Bool.{MatchBool}
use Rattle.std.specs.Prelude.{Contains, reverse, suc}
use Rattle.lx_tnfa.proofs.Searching.ClosureLoop.{none_left}
use Rattle.lx_posix.specs.Finding.{found_entries, node_at, step_entries}
use Rattle.lx_posix.proofs.CodeSearch.LevelStack.{work_left}
use Rattle.lx_posix.proofs.CodeSearch.LevelTrail.{SearchSoFar, left_entered, moves_from_few, search_begin, search_dropped, search_entered, search_found, search_listed, search_taken, taken_deep}
use Rattle.lx_posix.proofs.search.search.Goals as goal

pub loop-entry-init : goal.loop-entry-init
loop-entry-init c =
    λ is.
    let t = c.args.t.now in
    let beginnings = c.args.beginnings.now in
    let starts = c.args.starts.now in
    let trail = c.clear-2.new.self.items in
    let waiting = c.push_starts.new.waiting.items in
    subst (λ v. SearchSoFar t beginnings is starts v trail waiting c.new-founds.result.items) (sym c.clear.ensures)
    (subst (λ f. SearchSoFar t beginnings is starts [] trail waiting f) (sym c.new-founds.ensures.items)
    (search_begin t beginnings is starts trail waiting c.clear-3.new.self.items c.requires.starts c.clear-2.ensures.items
    c.clear-3.ensures.items c.in_ok-push_starts.ensures))

pub loop-entry-preserved-then-not-branch : goal.loop-entry-preserved-then-not-branch
loop-entry-preserved-then-not-branch c =
    λ is.
    let t = c.args.t.now in
    let beginnings = c.args.beginnings.now in
    let starts = c.args.starts.now in
    let nodes = c.loop-entry.visited in
    let trail = c.loop-entry.trail.items in
    let entry = c.in-Some.entry in
    let old = c.loop-entry.waiting.items in
    let waiting = c.pop.new.self.items in
    let founds = c.loop-entry.founds.items in
    let was = c.in-Some.ensures.items in
    let taken = search_taken t beginnings is starts nodes trail entry old waiting founds was (c.loop-entry.invariant is) in
    let left =
    subst
    (λ b. MatchBool b (¬ Contains nodes (node_at entry) × (c.enters.new.visited ≡ nodes ++ node_at entry ∷ []))
    (Contains nodes (node_at entry) × (c.enters.new.visited ≡ nodes))) c.if-not-branch.true c.in_ok-enters.ensures in
    subst (λ v. SearchSoFar t beginnings is starts v trail waiting founds) (sym left.1)
    (search_dropped t beginnings is starts nodes trail entry waiting founds left.0 taken)

pub push_steps-requires-clause-few : goal.push_steps-requires-clause-few
push_steps-requires-clause-few c =
    moves_from_few c.args.t.now c.args.beginnings.now c.requires.searchable c.args.starts.now c.in-Some.entry.at

pub push_steps-requires-clause-room : goal.push_steps-requires-clause-room
push_steps-requires-clause-room c =
    let t = c.args.t.now in
    let beginnings = c.args.beginnings.now in
    let is = c.requires.searchable in
    let starts = c.args.starts.now in
    let nodes = c.loop-entry.visited in
    let trail = c.loop-entry.trail.items in
    let entry = c.in-Some.entry in
    let waiting = c.pop.new.self.items in
    let founds = c.loop-entry.founds.items in
    taken_deep t beginnings is starts nodes trail entry waiting founds
    (search_taken t beginnings is starts nodes trail entry c.loop-entry.waiting.items waiting founds c.in-Some.ensures.items
    (c.loop-entry.invariant is))

pub loop-entry-smaller : goal.loop-entry-smaller
loop-entry-smaller c =
    let t = c.args.t.now in
    let beginnings = c.args.beginnings.now in
    let is = c.requires.searchable in
    let starts = c.args.starts.now in
    let nodes = c.loop-entry.visited in
    let trail = c.loop-entry.trail.items in
    let entry = c.in-Some.entry in
    let old = c.loop-entry.waiting.items in
    let waiting = c.pop.new.self.items in
    let founds = c.loop-entry.founds.items in
    let next = c.follow.new.trail.items in
    let more = c.push_steps.new.waiting.items in
    let was = c.in-Some.ensures.items in
    let taken = search_taken t beginnings is starts nodes trail entry old waiting founds was (c.loop-entry.invariant is) in
    let entered =
    subst
    (λ b. MatchBool b (¬ Contains nodes (node_at entry) × (c.enters.new.visited ≡ nodes ++ node_at entry ∷ []))
    (Contains nodes (node_at entry) × (c.enters.new.visited ≡ nodes))) c.if-not-branch.false c.in_ok-enters.ensures in
    let gone = c.in_ok-follow.ensures in
    let pushed =
    subst (λ n. more ≡ waiting ++ reverse (step_entries t entry n)) (c.len.ensures ∙ c.follow.new.trail.ok.0) c.in_ok-push_steps.ensures in
    let count : length old ≡ suc (length waiting) = omega (arith, ap length was, length-append waiting (entry ∷ [])) in
    subst (λ v. work_left t beginnings v (length more) < work_left t beginnings nodes (length old)) (sym entered.1)
    (subst (λ n. work_left t beginnings (nodes ++ node_at entry ∷ []) (length more) < work_left t beginnings nodes n) (sym count)
    (left_entered t beginnings is starts nodes trail next entry waiting more founds entered.0 gone pushed taken))

pub loop-entry-preserved : goal.loop-entry-preserved
loop-entry-preserved c =
    λ is.
    let t = c.args.t.now in
    let beginnings = c.args.beginnings.now in
    let starts = c.args.starts.now in
    let nodes = c.loop-entry.visited in
    let trail = c.loop-entry.trail.items in
    let entry = c.in-Some.entry in
    let old = c.loop-entry.waiting.items in
    let waiting = c.pop.new.self.items in
    let founds = c.loop-entry.founds.items in
    let next = c.follow.new.trail.items in
    let more = c.push_steps.new.waiting.items in
    let was = c.in-Some.ensures.items in
    let taken = search_taken t beginnings is starts nodes trail entry old waiting founds was (c.loop-entry.invariant is) in
    let entered =
    subst
    (λ b. MatchBool b (¬ Contains nodes (node_at entry) × (c.enters.new.visited ≡ nodes ++ node_at entry ∷ []))
    (Contains nodes (node_at entry) × (c.enters.new.visited ≡ nodes))) c.if-not-branch.false c.in_ok-enters.ensures in
    let gone = c.in_ok-follow.ensures in
    let others = c.push_found.new.founds.items in
    let listed = c.in_ok-push_found.ensures ∙ ap (λ l. founds ++ found_entries entry l) c.deref.ensures.value in
    let pushed =
    subst (λ n. more ≡ waiting ++ reverse (step_entries t entry n)) (c.len.ensures ∙ c.follow.new.trail.ok.0) c.in_ok-push_steps.ensures in
    subst (λ v. SearchSoFar t beginnings is starts v next more others) (sym entered.1)
    (search_entered t beginnings is starts nodes trail next entry waiting more founds others entered.0 gone listed pushed taken)

pub returns-clause-listed : goal.returns-clause-listed
returns-clause-listed c =
    λ is.
    let none =
    none_left c.pop.result c.loop-entry.waiting.items (vec_len c.loop-entry.waiting) (vec_len c.pop.new.self)
    (sym c.loop-entry.waiting.ok.0) c.pop.ensures.cases c.in_default.not-Some in
    search_listed c.args.t.now c.args.beginnings.now is c.args.starts.now c.loop-entry.visited c.loop-entry.trail.items
    c.loop-entry.waiting.items c.loop-entry.founds.items none (c.loop-entry.invariant is)

pub returns-clause-found : goal.returns-clause-found
returns-clause-found c =
    λ is.
    search_found c.args.t.now c.args.beginnings.now is c.args.starts.now c.loop-entry.visited c.loop-entry.trail.items
    c.loop-entry.waiting.items c.loop-entry.founds.items (c.loop-entry.invariant is)

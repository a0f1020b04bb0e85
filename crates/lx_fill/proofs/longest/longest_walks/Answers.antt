use Rattle.std.proofs.Common.{◌≡◌, ℕ, ◌+◌, ◌<◌, ◌≤◌, length, get_or, set, map, sym, ap, ◌∙◌, subst, arith}
use Rattle.std.proofs.lemmas.List.{length-set}
use Rattle.lx_auto.specs.declared.automaton.Edge.{Edge}
use Rattle.lx_fill.specs.Checks.{graph_of}
use Rattle.lx_fill.specs.Longest.{IsLongest, most_units}
use Rattle.lx_fill.proofs.LongestWalks.{all-longest, longest-more, small-more}
use Rattle.lx_fill.proofs.longest.longest_walks.Goals as goal

pub loop-state-preserved : goal.loop-state-preserved
loop-state-preserved c =
    let graph = graph_of c.args.auto.now in
    let chosen = c.args.chosen.now in
    let order = c.args.order.now in
    let known = c.loop-state.known.items in
    let place = c.loop-state.state-index in
    let state = get_or order place 0 in
    let units : c.most_units-units.result ≡ most_units chosen known (graph state) =
    c.most_units-units.ensures ∙ ap (λ k. most_units chosen k (map (λ (edge : Edge). edge.to) c.edges_of.result.now)) c.deref.ensures.value
    ∙ ap (λ edges. most_units chosen known (map (λ (edge : Edge). edge.to) edges)) c.edges_of.ensures.edges in
    let within : place < length order = c.loop-state-test.true in
    let marks = c.requires.choice.marks in
    let fit = c.loop-state.invariant.fit in
    record {
      fit = length-set known state c.most_units-units.result ∙ fit;
      small =
          subst (λ u. (other : ℕ) → get_or (set known state u) other 0 ≤ place + 1) (sym units)
          (small-more graph chosen known state place (omega (arith, fit, marks.within place within)) c.loop-state.invariant.small);
      longest =
          subst (λ u. (earlier : ℕ) → earlier < place + 1 → IsLongest graph chosen (get_or order earlier 0) (get_or (set known state u) (get_or order earlier 0) 0))
          (sym units)
          (longest-more graph (length c.args.auto.now.states) chosen order known marks fit place within c.loop-state.invariant.longest);
    }

pub returns : goal.returns
returns c =
    all-longest (graph_of c.args.auto.now) (length c.args.auto.now.states) c.args.chosen.now c.args.order.now c.loop-state.known.items c.requires.choice
    c.loop-state.invariant.fit
    (λ state. let small = c.loop-state.invariant.small state in let few = c.requires.choice.few in omega (arith, small, few, c.loop-state.auto.state-index-end))
    (λ place lt. c.loop-state.invariant.longest place (omega (arith, lt, c.loop-state-test.false)))

use Rattle.std.proofs.Common.{◌≡◌, ◌<◌, get_or, length, sym, ap, ◌∙◌, subst}
use Rattle.std.specs.Prelude.{All}
use Rattle.lx_auto.specs.declared.automaton.Edge.{Edge}
use Rattle.lx_auto.specs.declared.automaton.State.{State}
use Rattle.lx_auto.proofs.States.{state_of-read}
use Rattle.lx_auto.proofs.MetStates.{targets_within}
use Rattle.lx_auto.proofs.walks.edges_of.Goals as goal

pub returns-clause-targets : goal.returns-clause-targets
returns-clause-targets c =
    let auto = c.args.auto.now in
    let state = c.index-as_slice-state.result in
    let read : state ≡ get_or auto.states c.args.state state =
    c.index-as_slice-state.is ∙ ap (λ l. get_or l c.args.state state) c.as_slice.ensures in
    let same = state_of-read auto.states c.args.state state c.requires.within read in
    subst (λ edges. All (λ (edge : Edge). edge.to < length auto.states) edges)
    (ap (λ (s : State). s.edges) (sym same) ∙ sym c.as_slice-2.ensures)
    (targets_within auto c.args.state c.requires.formed)

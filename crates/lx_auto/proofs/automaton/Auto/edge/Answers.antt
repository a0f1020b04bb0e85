use Rattle.std.proofs.Common.{◌≡◌, get_or, sym, ap, ◌∙◌, subst}
use Rattle.lx_auto.specs.declared.automaton.State.{State}
use Rattle.lx_auto.specs.Automaton.{AreApart}
use Rattle.lx_auto.proofs.States.{state_formed, state_of-read}
use Rattle.lx_auto.proofs.automaton.Auto.edge.Goals as goal

pub find_edge-requires : goal.find_edge-requires
find_edge-requires c =
    let auto = c.args.self.now in
    let state = c.index-as_slice-state.result in
    let read : state ≡ get_or auto.states c.args.state state =
    c.index-as_slice-state.is ∙ ap (λ l. get_or l c.args.state state) c.as_slice.ensures in
    let same = state_of-read auto.states c.args.state state c.requires.within read in
    subst (λ edges. AreApart edges) (ap (λ (s : State). s.edges) (sym same) ∙ sym c.as_slice-2.ensures)
    (state_formed auto c.args.state c.requires.formed).apart

use Rattle.std.proofs.Common.{◌≡◌, get_or, ap, ◌∙◌, subst}
use Rattle.std.specs.List.{list_any}
use Rattle.lx_auto.specs.declared.automaton.Held.{Held}
use Rattle.lx_auto.specs.declared.automaton.State.{State}
use Rattle.lx_auto.specs.Automaton.{state_of}
use Rattle.lx_auto.specs.Live.{AtSomePoint, IsLiveOnLeaving}
use Rattle.lx_auto.proofs.States.{state_of-read}
use Rattle.lx_regs.specs.Dead.{IsAcceptCut, KeepsWanted}
use Rattle.lx_regs.specs.HeldSets.{Has, has}
use Rattle.lx_regs.specs.KeptLists.{writes}
use Rattle.lx_regs.proofs.CutOperations.CutSteps.{leave-keeps}
use Rattle.lx_regs.proofs.dead.Source.cut_state.Goals as goal

pub returns : goal.returns
returns c =
    let auto = c.args.self.now.auto.now in
    let number = c.args.number in
    let state = c.index-as_slice-number.result in
    let read : state ≡ get_or auto.states number state = c.index-as_slice-number.is ∙ ap (λ l. get_or l number state) c.as_slice.ensures in
    let same : state ≡ state_of auto.states number = state_of-read auto.states number state c.requires.within read in
    let asked = c.in_ok-asked.asked in
    let leaving = c.cut_edges.new.leaving in
    let leave = c.in_ok-kept_by.field-0 in
    let all : (held : Held) → has asked held ≡ list_any (writes held) state.leave =
    λ held. c.in_ok-asked.ensures held ∙ ap (list_any (writes held)) c.as_slice-2.ensures in
    let keeps : KeepsWanted (Has leaving) state.leave leave =
    subst (λ ops. KeepsWanted (Has leaving) ops leave) c.as_slice-3.ensures c.in_ok-kept_by.ensures in
    record {
      edges = c.in_ok-cut_edges.ensures.cut;
      accept = subst (λ (s : State). IsAcceptCut auto number s.accept c.in_ok-cut_accept.field-0) same c.in_ok-cut_accept.ensures;
      leave =
          subst (λ (s : State). KeepsWanted (λ held. AtSomePoint auto number (λ point. IsLiveOnLeaving auto point held)) s.leave leave) same
          (leave-keeps auto number asked c.new-leaving.result leaving state.leave leave all c.new-leaving.ensures
          c.in_ok-cut_edges.ensures.read keeps);
    }

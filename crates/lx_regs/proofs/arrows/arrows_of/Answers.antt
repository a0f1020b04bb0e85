use Rattle.std.proofs.Common.{◌≡◌, ◌<◌, ◌∙◌, [], List, get_or, ap, subst, length, arith}
use Rattle.std.specs.Prelude.{replicate, Contains}
use Rattle.std.proofs.lemmas.List.Elements.{Contains-get_or}
use Rattle.lx_auto.specs.declared.automaton.Edge.{Edge}
use Rattle.lx_auto.specs.declared.automaton.State.{State}
use Rattle.lx_auto.specs.Automaton.{state_of}
use Rattle.lx_auto.proofs.States.{state_of-read}
use Rattle.lx_regs.specs.Arrows.{AreArrows, Notes}
use Rattle.lx_regs.proofs.LiveRegisters.ArrowLists.{arrows-more, arrows-none}
use Rattle.lx_regs.proofs.LiveRegisters.PairSearch.{edge-within}
use Rattle.lx_regs.proofs.arrows.arrows_of.Goals as goal

pub loop-number-init : goal.loop-number-init
loop-number-init c =
    arrows-none c.args.auto.now c.in_ok-lists.lists.items
    (c.in_ok-lists.ensures ∙ ap (λ (l : List State). replicate (length l) []) c.as_slice-states.ensures)

pub note_edges-requires : goal.note_edges-requires
note_edges-requires c = λ k d lt.
    let auto = c.args.auto.now in
    let number = c.loop-number.number in
    let same = c.as_slice-states.ensures in
    let within : number < length auto.states = let l = ap length same in omega (arith, l, c.loop-number-test.true) in
    let read = state_of-read auto.states number c.index-states-number.result within
    (c.index-states-number.is ∙ ap (λ (l : List State). get_or l number c.index-states-number.result) same) in
    let edges : c.as_slice.result.now ≡ (state_of auto.states number).edges = c.as_slice.ensures ∙ ap (λ (s : State). s.edges) read in
    let has : Contains (state_of auto.states number).edges (get_or c.as_slice.result.now k d) =
    subst (λ (l : List Edge). Contains l (get_or c.as_slice.result.now k d)) edges (Contains-get_or c.as_slice.result.now k d lt) in
    let below = edge-within auto number (get_or c.as_slice.result.now k d) c.requires has in
    omega (arith, below, c.loop-number.invariant.fit)

pub loop-number-preserved : goal.loop-number-preserved
loop-number-preserved c =
    let auto = c.args.auto.now in
    let number = c.loop-number.number in
    let same = c.as_slice-states.ensures in
    let within : number < length auto.states = let l = ap length same in omega (arith, l, c.loop-number-test.true) in
    let read = state_of-read auto.states number c.index-states-number.result within
    (c.index-states-number.is ∙ ap (λ (l : List State). get_or l number c.index-states-number.result) same) in
    let edges : c.as_slice.result.now ≡ (state_of auto.states number).edges = c.as_slice.ensures ∙ ap (λ (s : State). s.edges) read in
    arrows-more auto number c.loop-number.lists.items c.note_edges.new.lists.items
    (subst (λ (l : List Edge). Notes number l c.loop-number.lists.items c.note_edges.new.lists.items) edges c.in_ok-note_edges.ensures)
    c.loop-number.invariant

pub returns : goal.returns
returns c =
    let l = ap length c.as_slice-states.ensures in
    subst (λ n. AreArrows c.args.auto.now n c.loop-number.lists.items)
    (omega (arith, l, c.loop-number-test.false, c.loop-number.auto.number-end)) c.loop-number.invariant

use Rattle.std.proofs.Common.{◌≤◌, length, subst}
use Rattle.lx_regs.specs.Interference.{AreBesideAt}
use Rattle.lx_regs.proofs.SharedNames.InterferenceSteps.{graph-still, interference-whole, states-pushed}
use Rattle.lx_regs.proofs.interference.Known.interference.Goals as goal

pub loop-state-preserved : goal.loop-state-preserved
loop-state-preserved c =
    let auto = c.args.self.now.auto.now in
    let state = c.loop-state.state in
    record {
      fits = graph-still auto c.loop-state.graph c.loop-state.invariant.fits (AreBesideAt auto state) c.note_state.new.graph
          c.in_ok-note_state.ensures;
      notes = states-pushed auto state c.in_ok-graph.graph c.loop-state.graph c.note_state.new.graph c.loop-state.invariant.notes
          c.in_ok-note_state.ensures;
    }

pub returns : goal.returns
returns c =
    let auto = c.args.self.now.auto.now in
    let whole : length auto.states ≤ c.loop-state.state =
    subst (λ l. length l ≤ c.loop-state.state) c.as_slice-state-end.ensures c.loop-state-test.false in
    interference-whole auto c.loop-state.state c.in_ok-graph.graph c.loop-state.graph whole c.loop-state.invariant.fits
    c.in_ok-graph.ensures.empty c.loop-state.invariant.notes

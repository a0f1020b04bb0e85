use Rattle.std.proofs.Common.{sym, subst}
use Rattle.lx_auto.specs.declared.automaton.Edge.{Edge}
use Rattle.lx_auto.specs.Automaton.{state_of}
use Rattle.lx_auto.specs.MetStates.{HasMet}
use Rattle.lx_auto.specs.Points.{IsMet}
use Rattle.std.specs.Prelude.{Contains}
use Rattle.lx_auto.proofs.MetStates.{all-met, passed-more}
use Rattle.lx_auto.proofs.walks.met_states.Goals as goal

pub pass-requires-clause-met : goal.pass-requires-clause-met
pass-requires-clause-met c =
    subst (IsMet c.args.auto.now) (sym c.in-Some.ensures.1) (c.loop-state.invariant.search.met c.loop-state.place c.in-Some.ensures.0)

pub loop-state-preserved : goal.loop-state-preserved
loop-state-preserved c =
    let auto = c.args.auto.now in
    let before = c.loop-state.search in
    let after = c.pass.new.self in
    let more = c.in_ok-pass.ensures in
    record {
      search = more.search;
      start = more.grows.marks 0 c.loop-state.invariant.start;
      passed =
          passed-more auto before after c.loop-state.place c.in-Some.ensures.0 more.grows c.loop-state.invariant.passed
          (subst (λ state. (edge : Edge) → Contains (state_of auto.states state).edges edge → HasMet after edge.to)
          c.in-Some.ensures.1 more.met);
    }

pub returns : goal.returns
returns c =
    all-met c.args.auto.now c.loop-state.search c.loop-state.invariant.search c.loop-state.invariant.start c.loop-state.place
    c.in_default.ensures c.loop-state.invariant.passed

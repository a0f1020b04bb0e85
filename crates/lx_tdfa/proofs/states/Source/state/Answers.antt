use Rattle.std.proofs.Common.{arith}
use Rattle.lx_tdfa.proofs.Loops.StatesMade.{is_first-zero, list_ending, list_places, list_short, list_targets, state_made}
use Rattle.lx_tdfa.proofs.states.Source.state.Goals as goal

pub closure_with-requires-clause-places : goal.closure_with-requires-clause-places
closure_with-requires-clause-places c =
    let of_rules = c.requires.of_rules in
    list_places of_rules.enc of_rules.patterns c.args.self.now.t.now of_rules.of c.args.kernels.now c.requires.listed c.args.number c.get.result.now c.get.ensures

pub closure_with-requires-clause-few : goal.closure_with-requires-clause-few
closure_with-requires-clause-few c =
    let of_rules = c.requires.of_rules in
    let short = list_short of_rules.enc of_rules.patterns c.args.self.now.t.now of_rules.of c.args.kernels.now c.requires.listed c.args.number c.get.result.now c.get.ensures in
    omega (arith, short)

pub edges-requires-clause-targets : goal.edges-requires-clause-targets
edges-requires-clause-targets c =
    let of_rules = c.requires.of_rules in
    rw (c.as_slice-reaches.ensures) (
      list_targets of_rules.enc of_rules.patterns c.args.self.now.t.now of_rules.of c.args.kernels.now c.requires.listed c.args.number c.get.result.now
          c.get.ensures c.in_ok-reaches.reaches c.in_ok-reaches.ensures.closure,
      c.in_ok-reaches.ensures.places,
    )

pub accept-requires-clause-source : goal.accept-requires-clause-source
accept-requires-clause-source c =
    let of_rules = c.requires.of_rules in
    list_ending of_rules.enc of_rules.patterns c.args.self.now.t.now of_rules.of c.args.kernels.now c.requires.listed c.args.number c.get.result.now
    c.get.ensures c.in_ok-reaches.reaches c.in_ok-reaches.ensures.closure c.first_ending-ending.result
    (rw (c.as_slice-reaches.ensures) at c.first_ending-ending.ensures)

pub leave-requires-clause-source : goal.leave-requires-clause-source
leave-requires-clause-source c =
    let of_rules = c.requires.of_rules in
    list_ending of_rules.enc of_rules.patterns c.args.self.now.t.now of_rules.of c.args.kernels.now c.requires.listed c.args.number c.get.result.now
    c.get.ensures c.in_ok-reaches.reaches c.in_ok-reaches.ensures.closure c.first_ending-ending.result
    (rw (c.as_slice-reaches.ensures) at c.first_ending-ending.ensures)

pub returns : goal.returns
returns c =
    let of_rules = c.requires.of_rules in (
      c.in_ok-edges.ensures.0,
      state_made of_rules.enc of_rules.patterns c.args.self.now.t.now of_rules.of c.args.kernels.now c.requires.listed c.args.number c.get.result.now
          c.get.ensures c.edges.new.kernels _ c.in_ok-reaches.reaches c.first_ending-ending.result _ c.in_ok-reaches.ensures.closure
          (rw (c.as_slice-reaches.ensures) at c.first_ending-ending.ensures) (is_first-zero c.args.number)
          (rw (c.as_slice-reaches.ensures) at c.in_ok-edges.ensures.1) c.in_ok-accept.ensures c.in_ok-leave.ensures,
    )

use Rattle.std.proofs.Common.{arith}
use Rattle.lx_tdfa.proofs.Loops.StatesMade.{is_first-zero}
use Rattle.lx_posix.proofs.Made.ClosuresMade.{kernel-places}
use Rattle.lx_posix.proofs.Made.StatesMade.{closure-reached, kernel-ending, kernel-reached, kernel-short, places-short, state-made}
use Rattle.lx_posix.proofs.states.Making.state.Goals as goal

pub closure_with-requires-clause-places : goal.closure_with-requires-clause-places
closure_with-requires-clause-places c =
    rw (c.deref.ensures.value, c.in_ok-places.ensures)
    (kernel-places c.args.self.now.source.t.now c.requires.source.built _ c.get-kernel.result.now
    (kernel-reached c.args.self.now.source.t.now c.args.kernels.now c.requires.listed c.args.number c.get-kernel.result.now c.get-kernel.ensures _
    (is_first-zero c.args.number)))

pub closure_with-requires-clause-few : goal.closure_with-requires-clause-few
closure_with-requires-clause-few c =
    rw (c.deref.ensures.value, c.in_ok-places.ensures)
    (let short = places-short c.args.self.now.source.t.now c.args.kernels.now c.requires.listed c.args.number c.get-kernel.result.now
    c.get-kernel.ensures in
    omega (arith, short))

pub closure_of-requires-clause-reached : goal.closure_of-requires-clause-reached
closure_of-requires-clause-reached c =
    kernel-reached c.args.self.now.source.t.now c.args.kernels.now c.requires.listed c.args.number c.get-kernel.result.now c.get-kernel.ensures _
    (is_first-zero c.args.number)

pub closure_of-requires-clause-short : goal.closure_of-requires-clause-short
closure_of-requires-clause-short c =
    kernel-short c.args.self.now.source.t.now c.args.kernels.now c.requires.listed c.args.number c.get-kernel.result.now c.get-kernel.ensures

pub edges-requires-clause-closure : goal.edges-requires-clause-closure
edges-requires-clause-closure c =
    closure-reached c.args.self.now.source.t.now c.args.kernels.now c.requires.listed c.args.number c.get-kernel.result.now c.get-kernel.ensures _
    (is_first-zero c.args.number) c.in_ok-closure.closure c.in_ok-closure.ensures

pub accept-requires-clause-source : goal.accept-requires-clause-source
accept-requires-clause-source c =
    kernel-ending c.args.self.now.source.t.now c.args.kernels.now c.requires.listed c.args.number c.get-kernel.result.now c.get-kernel.ensures
    c.in_ok-ends.ends (rw (c.deref.ensures.value, c.in_ok-places.ensures) at c.in_ok-ends.ensures.closure) c.first_ending-ending.result
    (rw (c.as_slice.ensures) at c.first_ending-ending.ensures)

pub leave-requires-clause-source : goal.leave-requires-clause-source
leave-requires-clause-source c =
    kernel-ending c.args.self.now.source.t.now c.args.kernels.now c.requires.listed c.args.number c.get-kernel.result.now c.get-kernel.ensures
    c.in_ok-ends.ends (rw (c.deref.ensures.value, c.in_ok-places.ensures) at c.in_ok-ends.ensures.closure) c.first_ending-ending.result
    (rw (c.as_slice.ensures) at c.first_ending-ending.ensures)

pub returns : goal.returns
returns c = (
  c.in_ok-edges.ensures.0,
  state-made c.args.self.now.source.t.now c.args.kernels.now c.requires.listed c.args.number c.get-kernel.result.now c.get-kernel.ensures
      c.edges.new.kernels _ c.in_ok-closure.closure c.in_ok-ends.ends c.first_ending-ending.result _ c.in_ok-closure.ensures
      (rw (c.deref.ensures.value, c.in_ok-places.ensures) at c.in_ok-ends.ensures.closure)
      (rw (c.as_slice.ensures) at c.first_ending-ending.ensures) (is_first-zero c.args.number) c.in_ok-edges.ensures.1 c.in_ok-accept.ensures
      c.in_ok-leave.ensures,
)

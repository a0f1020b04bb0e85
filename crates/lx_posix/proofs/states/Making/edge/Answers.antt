use Rattle.std.proofs.Common.{◌≡◌, ◌≢◌, [], arith, ap, ◌∙◌, rules, refl, ◌<◌, ◌≤◌, length, map}
use Rattle.std.specs.Prelude.{sum_by}
use Rattle.std.proofs.lemmas.Option.{slice_get_within}
use Rattle.std.proofs.lemmas.Result.{err_from_is_err_and}
use Rattle.lx_tdfa.specs.Making.{seen_step}
use Rattle.lx_tdfa.specs.Registers.{step_ops, widest}
use Rattle.lx_tdfa.proofs.Loops.EdgesMade.{length-among}
use Rattle.lx_posix.proofs.Made.EdgesMade.{adds-grows, closure-founds, closure-places, closure-searchable, edge-made, kernel-length, step-sources, step-ways, too_many-under}
use Rattle.lx_posix.proofs.Made.KeptSets.{TellsEqual-kept}
use Rattle.lx_posix.proofs.states.Making.edge.Goals as goal

pub next_steps-requires : goal.next_steps-requires
next_steps-requires c =
    rw (c.as_slice-reaches.ensures.value)
    (closure-places c.args.self.now.source.t.now c.requires.source.built c.args.is_first c.args.closure.now c.requires.closure)

pub next_kernel-requires-clause-searchable : goal.next_kernel-requires-clause-searchable
next_kernel-requires-clause-searchable c =
    closure-searchable c.args.self.now.source.t.now c.requires.source.built c.args.is_first c.args.closure.now c.requires.closure

pub next_kernel-requires-clause-founds : goal.next_kernel-requires-clause-founds
next_kernel-requires-clause-founds c =
    closure-founds c.args.self.now.source.t.now c.requires.source.built c.args.is_first c.args.closure.now c.requires.closure

pub next_kernel-requires-clause-indices : goal.next_kernel-requires-clause-indices
next_kernel-requires-clause-indices c =
    rw (c.deref.ensures.value)
    (step-ways c.args.self.now.source.t.now c.requires.source.built c.args.is_first c.args.closure.now c.requires.closure c.args.units.lo
    c.in_ok-steps.steps.items (rw (c.as_slice-reaches.ensures.value) at c.in_ok-steps.ensures.indices))

pub step_ops-requires-clause-few : goal.step_ops-requires-clause-few
step_ops-requires-clause-few c =
    let added = c.in_ok-to.ensures TellsEqual-kept in
    let among : length c.in_ok-next_kernel.field-0.items ≤ sum_by length c.add.new.self =
    length-among c.add.new.self c.in_ok-to.to c.in_ok-next_kernel.field-0.items added.1 in
    let few : sum_by length c.add.new.self ≤ 1048576 = added.2.few_places in
    let same : length c.in_ok-next_kernel.field-0.items ≡ length c.in_ok-steps.steps.items =
    kernel-length c.args.self.now.source.t.now c.requires.source.built c.args.is_first c.args.closure.now c.requires.closure c.args.units.lo
    c.requires.unit c.in_ok-steps.steps.items (rw (c.as_slice-reaches.ensures.value) at c.in_ok-steps.ensures.steps)
    (rw (c.as_slice-reaches.ensures.value) at c.in_ok-steps.ensures.indices) c.in_ok-next_kernel.field-0.items
    (rw (c.deref.ensures.value) at c.in_ok-next_kernel.ensures) in
    omega (arith, c.deref-2.ensures.len, among, few, same)

pub step_ops-requires-clause-sources : goal.step_ops-requires-clause-sources
step_ops-requires-clause-sources c =
    rw (c.deref-2.ensures.value)
    (step-sources c.args.self.now.source.t.now c.requires.source.built c.args.is_first c.args.closure.now c.requires.closure c.args.units.lo
    c.in_ok-steps.steps.items (rw (c.as_slice-reaches.ensures.value) at c.in_ok-steps.ensures.steps))

pub overflow_cast-result : goal.overflow_cast-result
overflow_cast-result c =
    let added = c.in_ok-to.ensures TellsEqual-kept in
    let within : c.in_ok-to.to < length c.add.new.self = slice_get_within c.add.new.self c.in_ok-to.to _ added.1 in
    let few : length c.add.new.self ≤ 4096 = added.2.few in
    omega (arith, within, few)

pub returns-in_err-to : goal.returns-in_err-to
returns-in_err-to c =
    let some : c.in_ok-steps.steps.items ≢ [] = search (rules, c.is_empty.ensures, c.if-is_empty.false) in
    let p = err_from_is_err_and c.from_residual-in_err-to.result c.from_residual-in_err-to.ensures.1 in
    rw (p.1, p.2)
    (too_many-under c.args.self.now.source.t.now c.requires.source.built c.args.is_first c.args.closure.now c.requires.closure c.args.units.lo
    c.requires.unit c.in_ok-steps.steps.items (rw (c.as_slice-reaches.ensures.value) at c.in_ok-steps.ensures.steps)
    (rw (c.as_slice-reaches.ensures.value) at c.in_ok-steps.ensures.indices) c.in_ok-next_kernel.field-0.items
    (rw (c.deref.ensures.value) at c.in_ok-next_kernel.ensures) some c.args.kernels.now c.requires.listed c.args.self.now.source.at
    c.in_err-to.field-0.0 (c.in_err-to.ensures TellsEqual-kept))

pub returns : goal.returns
returns c =
    let some : c.in_ok-steps.steps.items ≢ [] = search (rules, c.is_empty.ensures, c.if-is_empty.false) in
    let added = c.in_ok-to.ensures TellsEqual-kept in (
      adds-grows c.args.self.now.source.t.now c.requires.source.built c.args.is_first c.args.closure.now c.requires.closure c.args.units.lo
          c.requires.unit c.in_ok-steps.steps.items (rw (c.as_slice-reaches.ensures.value) at c.in_ok-steps.ensures.steps)
          (rw (c.as_slice-reaches.ensures.value) at c.in_ok-steps.ensures.indices) c.in_ok-next_kernel.field-0.items
          (rw (c.deref.ensures.value) at c.in_ok-next_kernel.ensures) some c.args.kernels.now c.requires.listed c.add.new.self added.0 added.2,
      (
        edge-made c.args.self.now.source.t.now c.requires.source.built c.args.is_first c.args.closure.now c.requires.closure c.args.units.lo
            c.requires.unit c.in_ok-steps.steps.items (rw (c.as_slice-reaches.ensures.value) at c.in_ok-steps.ensures.steps)
            (rw (c.as_slice-reaches.ensures.value) at c.in_ok-steps.ensures.indices) c.in_ok-next_kernel.field-0.items
            (rw (c.deref.ensures.value) at c.in_ok-next_kernel.ensures) c.add.new.self _ some added.1
            (c.in_ok-step_ops.ensures
            ∙ ap (λ l. step_ops c.args.self.now.source.t.now (widest c.args.self.now.source.t.now.rules) c.args.is_first 0 (map seen_step l))
            c.deref-2.ensures.value),
        refl,
        refl,
      ),
    )

use Rattle.std.proofs.Common.{◌≡◌, ◌+◌, suc, drop, get_or, sym, ap, ◌∙◌, arith}
use Rattle.lx_auto.specs.Run.{Standing}
use Rattle.lx_cover.proofs.MachineSteps.{leads-within}
use Rattle.lx_cover.proofs.ToldMatches.{last_standing-ends, last_standing-goes, last_standing-stops}
use Rattle.lx_cover.specs.Machine.{last_standing, standing_of}
use Rattle.lx_cover.proofs.machine.Machine.run.Goals as goal

pub loop-unit-init : goal.loop-unit-init
loop-unit-init c = record {
  is_of = c.in_ok-machine.ensures.is_of;
  offset = ap (λ (s : Standing). s.offset) c.in_ok-machine.ensures.stands;
  goes_on = ap (λ s. last_standing c.args.auto.now s c.args.word.now) c.in_ok-machine.ensures.stands;
}

pub take-requires-clause-edge : goal.take-requires-clause-edge
take-requires-clause-edge c =
    leads-within c.args.auto.now c.loop-unit.machine.state (get_or c.args.word.now c.loop-unit.unit-index 0) c.in-Some.edge.now c.requires
    (sym c.in-Some.ensures)

pub loop-unit-preserved : goal.loop-unit-preserved
loop-unit-preserved c =
    let auto = c.args.auto.now in
    let word = c.args.word.now in
    let place = c.loop-unit.unit-index in
    let machine = c.loop-unit.machine in
    let after = c.in_ok-take-in-Some.ensures in
    let offset : c.take.new.self.offset ≡ suc machine.offset = ap (λ (s : Standing). s.offset) after.stands in
    record {
      is_of = after.is_of;
      offset = omega (arith, offset, c.loop-unit.invariant.offset);
      goes_on =
          ap (λ s. last_standing auto s (drop (place + 1) word)) after.stands
          ∙ sym (last_standing-goes auto (standing_of auto machine) word place c.in-Some.edge.now c.loop-unit-test.true
          (sym c.in-Some.ensures))
          ∙ c.loop-unit.invariant.goes_on;
    }

pub returns-in-None : goal.returns-in-None
returns-in-None c =
    let auto = c.args.auto.now in
    let machine = c.loop-unit.machine in
    record {
      is_of = c.loop-unit.invariant.is_of;
      stands =
          sym (last_standing-stops auto (standing_of auto machine) c.args.word.now c.loop-unit.unit-index c.loop-unit-test.true
          (sym c.in-None.ensures))
          ∙ c.loop-unit.invariant.goes_on;
    }

pub returns : goal.returns
returns c =
    let auto = c.args.auto.now in
    let machine = c.loop-unit.machine in
    record {
      is_of = c.loop-unit.invariant.is_of;
      stands =
          sym (last_standing-ends auto (standing_of auto machine) c.args.word.now c.loop-unit.unit-index c.loop-unit-test.false)
          ∙ c.loop-unit.invariant.goes_on;
    }

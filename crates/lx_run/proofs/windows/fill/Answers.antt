use Rattle.std.proofs.Common.{refl, sym, subst, ◌∙◌, ◌+◌}
use Rattle.lx_window.proofs.StreamUnits.{IsUnit-positive}
use Rattle.lx_window.specs.MemorySource.{ahead_of}
use Rattle.lx_window.specs.Windows.{Refills}
use Rattle.lx_window.specs.declared.refills.Fill.{Fill}
use Rattle.lx_run.proofs.Filling.{IsAt-NoMore, IsAt-full, IsFilling-first, IsFilling-goes_on, room-none, room-some}
use Rattle.lx_run.proofs.windows.fill.Goals as goal

pub loop-w-init : goal.loop-w-init
loop-w-init c = record {
  formed = c.requires.formed;
  unit = c.requires.unit;
  source_unit = refl;
  fills = λ reading unit leaves at. IsFilling-first c.args.w.now c.args.src.now at;
}

pub loop-w-preserved : goal.loop-w-preserved
loop-w-preserved c =
    let w = c.loop-w.w in
    let room = room-some w.unit c.room.result (w.base + w.size) w.limit c.room.ensures c.loop-w-test.true in
    record {
      formed = c.in-Ok.ensures.formed;
      unit = c.in-Ok.ensures.start_kept.same_unit ∙ c.loop-w.invariant.unit ∙ sym c.in-Ok.ensures.same_unit;
      source_unit = c.in-Ok.ensures.same_unit ∙ c.loop-w.invariant.source_unit;
      fills = λ reading unit leaves at.
          IsFilling-goes_on w c.refill.new.self c.loop-w.src c.refill.new.src c.in-Ok.fill (c.loop-w.invariant.fills reading unit leaves at)
          c.in-Ok.ensures.formed c.in-Ok.ensures.start_kept room c.in-More.is c.in-Ok.ensures.refills;
    }

pub returns-in-NoMore-clause-filled : goal.returns-in-NoMore-clause-filled
returns-in-NoMore-clause-filled c = λ reading unit leaves at fits.
    let w = c.loop-w.w in
    let room = room-some w.unit c.room.result (w.base + w.size) w.limit c.room.ensures c.loop-w-test.true in
    let refills = subst (λ (fill : Fill). Refills (ahead_of c.loop-w.src) (ahead_of c.refill.new.src) w c.refill.new.self fill)
    c.in-NoMore.is c.in-Ok.ensures.refills in
    IsAt-NoMore w c.refill.new.self c.loop-w.src c.refill.new.src (c.loop-w.invariant.fills reading unit leaves at)
    c.in-Ok.ensures.formed c.in-Ok.ensures.start_kept room refills

pub returns-clause-filled : goal.returns-clause-filled
returns-clause-filled c = λ reading unit leaves at fits.
    let w = c.loop-w.w in
    let room = room-none w.unit c.room.result (w.base + w.size) w.limit (IsUnit-positive w.unit c.loop-w.invariant.formed.unit)
    c.room.ensures c.loop-w-test.false in
    IsAt-full w c.loop-w.src (c.loop-w.invariant.fills reading unit leaves at) fits room

use Rattle.std.proofs.Common.{◌∙◌, ◌-◌, ◌<◌, ap, sym, arith, take, drop}
use Rattle.lx_window.specs.Units.{number_of}
use Rattle.lx_window.proofs.StreamUnits.{IsUnit-positive}
use Rattle.lx_window.proofs.Buffers.{get_or-front_units}
use Rattle.lx_window.proofs.windows.Window.unit_at.Goals as goal

pub returns : goal.returns
returns c =
    let inside : c.args.at - c.self.inside.base < c.self.inside.limit - c.self.inside.base = omega arith in
    rw (← c.self.view_is) (
      (omega arith, omega arith),
      c.number_at.ensures ∙ ap (λ place. number_of (take c.self.inside.unit (drop place c.self.inside.buffer.now))) c.byte_count-place.ensures
          ∙ sym (get_or-front_units c.self.inside.unit (c.self.inside.limit - c.self.inside.base) (c.args.at - c.self.inside.base) c.self.inside.buffer.now (IsUnit-positive c.self.inside.unit c.self.invariant.unit) c.self.invariant.fits inside),
    )

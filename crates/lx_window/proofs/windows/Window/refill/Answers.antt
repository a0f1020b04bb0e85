use Rattle.std.proofs.Common.{◌∙◌, ◌-◌, ap, sym, subst, arith, length, take, drop}
use Rattle.lx_window.specs.Refilling.{Fills}
use Rattle.lx_window.specs.WindowView.{WindowView}
use Rattle.lx_window.specs.Windows.{slid}
use Rattle.lx_window.specs.declared.refills.Fill.{Fill}
use Rattle.lx_window.proofs.StreamUnits.{IsUnit-positive}
use Rattle.lx_window.proofs.Buffers.{Grows-view_at}
use Rattle.lx_window.proofs.windows.Window.refill.Goals as goal

pub returns-in-More-clause-refills : goal.returns-in-More-clause-refills
returns-in-More-clause-refills g c =
    let window_is = c.self.view_is ∙ c.slide.ensures.slid in
    Grows-view_at c.self.inside.unit c.self.inside.base c.self.inside.start c.self.inside.limit c.byte_count-held.result c.in-More.count c.from.result (g.S.Refill.unit c.args.src.now)
    c.self.inside.buffer.now c.refill.new.room (g.S.Refill.ahead c.args.src.now) (g.S.Refill.ahead c.refill.new.self) (slid c.args.self.now)
    (IsUnit-positive c.self.inside.unit c.self.invariant.unit) c.self.invariant.whole (omega arith) c.self.invariant.fits c.byte_count-held.ensures c.from.ensures
    (c.requires.unit ∙ sym (ap (λ (window : WindowView). window.unit) window_is)) c.refill.auto.room
    (let P : Fill → Type 0 = λ fill. Fills (g.S.Refill.unit c.args.src.now) (g.S.Refill.ahead c.args.src.now) (g.S.Refill.ahead c.refill.new.self)
    (take (length c.self.inside.buffer.now - c.byte_count-held.result) (drop c.byte_count-held.result c.self.inside.buffer.now)) c.refill.new.room fill in
    subst P c.in-More.is c.in_ok-fill.ensures.fills)
    window_is

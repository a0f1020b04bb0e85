use Rattle.lx_window.proofs.Buffers.{view-slid}
use Rattle.lx_window.proofs.windows.Window.slide.Goals as goal

pub returns-clause-slid : goal.returns-clause-slid
returns-clause-slid c =
    rw (← c.self.view_is)
    (view-slid c.self.inside.unit c.self.inside.base c.self.inside.start c.self.inside.limit c.byte_count-from.result c.byte_count-end.result c.self.inside.buffer.now c.copy_within.new.self
    c.self.invariant.begins c.self.invariant.ends c.self.invariant.fits c.byte_count-from.ensures c.byte_count-end.ensures c.copy_within.ensures.after c.copy_within.ensures.len)

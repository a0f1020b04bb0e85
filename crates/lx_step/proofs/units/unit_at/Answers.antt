use Rattle.std.proofs.Common.{◌∙◌, ap, sym, Some}
use Rattle.lx_step.proofs.FilledWindows.{slice_get-slid}
use Rattle.lx_step.proofs.units.unit_at.Goals as goal

pub returns : goal.returns
returns c = λ stream holds.
    slice_get-slid stream c.args.w.now c.args.offset holds.0 holds.1 c.requires.begins c.requires.ends ∙ ap Some (sym c.in-Some.ensures.1)

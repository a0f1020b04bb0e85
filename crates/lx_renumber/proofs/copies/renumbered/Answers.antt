use Rattle.std.proofs.Common.{◌∙◌, ap, sym}
use Rattle.lx_renumber.specs.Renumbered.{renumbered}
use Rattle.lx_renumber.proofs.RenumberedByNothing.{renumbered-zero}
use Rattle.lx_renumber.proofs.copies.renumbered.Goals as goal

pub returns-then-by-eq0-clause-copy : goal.returns-then-by-eq0-clause-copy
returns-then-by-eq0-clause-copy c =
    c.in_ok-share.ensures ∙ renumbered-zero c.args.auto.now ∙ ap (λ by. renumbered by c.args.auto.now) (sym c.if-by-eq0.true)

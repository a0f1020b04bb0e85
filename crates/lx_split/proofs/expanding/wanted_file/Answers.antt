use Rattle.lx_split.specs.Includes.{met}
use Rattle.lx_split.specs.Walks.{whole_from}
use Rattle.std.proofs.Common.{Some}
use Rattle.lx_split.proofs.ExpandStops.{MatchResult-residual, StopsAs-fails}
use Rattle.lx_split.proofs.expanding.wanted_file.Goals as goal

pub returns-in_err-name_at : goal.returns-in_err-name_at
returns-in_err-name_at c =
    let walk = c.args.walk.now in
    MatchResult-residual c.from_residual.result c.in_err-name_at.field-0.0 _ _ c.from_residual.ensures.1
    (λ options seen names.
    StopsAs-fails (whole_from options seen names walk (Some c.args.include)) (met names walk.total) c.in_err-name_at.field-0.0 (c.in_err-name_at.ensures options seen names))

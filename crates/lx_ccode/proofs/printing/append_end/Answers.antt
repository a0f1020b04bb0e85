use Rattle.std.proofs.Common.{[], ◌∙◌, ◌∷◌}
use Rattle.std.specs.Prelude.{codes}
use Rattle.lx_base.specs.Text.{joined}
use Rattle.lx_ccode.specs.Text.{line_then}
use Rattle.lx_ccode.proofs.Tails.{line_then-nil, part_written}
use Rattle.lx_ccode.proofs.printing.append_end.Goals as goal

pub returns : goal.returns
returns c =
    let line = c.args.line.now in
    c.in_ok-append_parts.ensures ∙ part_written {f = line_then line} _ _ (joined (codes "/*!end:re2c*/" ∷ []) []) c.in_ok-append_line.ensures (line_then-nil line)

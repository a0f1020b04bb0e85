use Rattle.std.proofs.Common.{sym}
use Rattle.lx_split.proofs.Walks.{has_inner, whole_from-deep, whole_from-unnamed}
use Rattle.lx_split.proofs.expanding.name_at.Goals as goal

pub returns-in-None : goal.returns-in-None
returns-in-None c = λ options seen names.
    whole_from-unnamed options seen names c.args.walk.now c.args.include.now (has_inner c.args.walk.now c.requires.inside)
    (sym (rw c.as_slice.ensures at c.in-None.ensures))

pub returns-in-Some : goal.returns-in-Some
returns-in-Some c = λ options seen names.
    whole_from-deep options seen names c.args.walk.now c.args.include.now (has_inner c.args.walk.now c.requires.inside) c.in-Some.field-0.now
    (sym (rw c.as_slice.ensures at c.in-Some.ensures)) (rw c.depth.ensures at c.if-depth-gt-MOST_NESTED.true)

use Rattle.std.proofs.Common.{◌≡◌, ◌∙◌, ap, subst, sym}
use Rattle.lx_exprs.proofs.Contents.ValueContents.{repeated_one}
use Rattle.lx_regex.specs.Kinds.{HaveKinds, kinds_of}
use Rattle.lx_regex.proofs.Trees.Kinds.{kinds_of-rep}
use Rattle.lx_exprs.proofs.values.Content.repeated.Goals as goal
use Rattle.lx_exprs.proofs.values.Content.repeated.Goals.{in-Some-max, in-None}

pub returns-clause-stands : goal.returns-clause-stands
returns-clause-stands c built around meaning is off =
    let bound : c.match-bounds.high ≡ c.args.bounds.max = elim c.match-bounds.branch [
      | in-Some-max w ↦ w.high-is ∙ sym w.in-Some-max.is
      | in-None w ↦ w.high-is ∙ sym w.in-None.is
    ] in
    repeated_one meaning c.in-Some.body c.in_ok-body.body c.args.bounds.min c.args.bounds.max c.match-bounds.high c.in_ok-body.ensures.ok bound
    (c.in-Some.ensures.built built meaning is)

pub returns-clause-kinds : goal.returns-clause-kinds
returns-clause-kinds c tags are =
    subst (HaveKinds tags)
    (sym (kinds_of-rep c.in_ok-body.body c.args.bounds.min c.match-bounds.high ∙ ap kinds_of c.in_ok-body.ensures.ok ∙ c.in-Some.ensures.kinds)) are

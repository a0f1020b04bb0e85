use Rattle.std.proofs.Common.{sym, subst}
use Rattle.std.proofs.lemmas.Result.{err_from_is_err_and}
use Rattle.lx_base.specs.declared.blocks.BlockKind.TheVariants.{Rules}
use Rattle.lx_rules.specs.Blocks.{environment_behind}
use Rattle.lx_rules.specs.Represents.{Represents}
use Rattle.lx_rules.proofs.Blocks.FinishingSteps.{keeping_represents}
use Rattle.lx_rules.proofs.finishing.finish_rules.Goals as goal

pub returns-in_err-resolved : goal.returns-in_err-resolved
returns-in_err-resolved c = λ state environment holds before.
    let p = err_from_is_err_and c.from_residual.result c.from_residual.ensures.1 in
    rw (p.1, p.2) (c.in_err-resolved.ensures state holds)

pub returns : goal.returns
returns c = λ state environment holds before.
    let done = c.in_ok-resolved.ensures state holds in (
      sym done.0,
      subst (λ env. Represents env (environment_behind Rules environment state)) (sym c.into_kept.ensures)
          (keeping_represents c.args.known state holds environment c.requires.few before),
      done.1 c.args.options.now.conds,
      done.2,
    )

use Rattle.std.proofs.Common.{◌∙◌, ap, sym, subst}
use Rattle.std.proofs.lemmas.Result.{err_from_is_err_and}
use Rattle.std.specs.Global.{Vec}
use Rattle.lx_rules.specs.Blocks.{environment_behind}
use Rattle.lx_rules.specs.Represents.{Represents}
use Rattle.lx_rules.specs.declared.resolved.Act.{Act}
use Rattle.lx_rules.specs.declared.resolved.Config.{Config}
use Rattle.lx_rules.proofs.Blocks.FinishingSteps.{config_known, left_represents, scanners_as, scanners_checks, scanners_finished, scanners_stops}
use Rattle.lx_rules.proofs.finishing.finish_scanners.Goals as goal

pub returns-in_err-scanners : goal.returns-in_err-scanners
returns-in_err-scanners c = λ state environment holds before.
    let p = err_from_is_err_and c.from_residual-in_err-scanners.result c.from_residual-in_err-scanners.ensures.1 in
    let names = ap (λ (config : Config). config.names) (c.in_ok-config.ensures ∙ config_known c.args.known state holds) in
    rw (p.1, p.2)
    (scanners_stops c.args.kind c.requires.kind c.requires.other c.args.options.now.custom c.args.options.now.format c.args.at state c.in_err-scanners.field-0.0
    (c.in_err-scanners.ensures state holds names))

pub returns : goal.returns
returns c = λ state environment holds before.
    let options = c.args.options.now in
    let names = ap (λ (config : Config). config.names) (c.in_ok-config.ensures ∙ config_known c.args.known state holds) in
    let done = c.in_ok-scanners.ensures state holds names in
    let acts = c.from_vec.ensures ∙ ap (λ (acts : Vec Act). acts.items) c.into_left-env.ensures.acts in
    let is = scanners_finished c.args.known state holds options.conds options.custom options.format c.args.at _ c.in_ok-config.ensures acts c.requires.few done.0 done.1 in (
      scanners_checks c.args.kind c.requires.kind c.requires.other options.custom options.format c.args.at state _ is.0,
      subst (λ env. Represents env (environment_behind c.args.kind environment state)) (sym c.into_left-env.ensures.env)
          (left_represents c.args.known state holds environment c.args.kind c.requires.kind c.requires.other before),
      scanners_as c.args.kind c.requires.kind c.requires.other options.conds state _ is.1,
      is.2,
    )

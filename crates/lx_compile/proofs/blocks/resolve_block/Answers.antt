use Rattle.std.proofs.Common.{refl, ap}
use Rattle.std.proofs.lemmas.Result.{err_from_is_err_and}
use Rattle.lx_compile.specs.Blocks.{asks, gives_nothing}
use Rattle.lx_compile.specs.declared.parts.Content.TheVariants.{Asks}
use Rattle.lx_compile.proofs.BlockStops.{HasRules-kind, has_tokens-none, is_directive-other}
use Rattle.lx_compile.proofs.blocks.resolve_block.Goals as goal

pub resolve_rules-requires-clause-kind : goal.resolve_rules-requires-clause-kind
resolve_rules-requires-clause-kind c = HasRules-kind c.args.kind c.in-Code.is

pub read_directive-requires-clause-kind : goal.read_directive-requires-clause-kind
read_directive-requires-clause-kind c =
    let other = c.in_default in
    is_directive-other c.args.kind other.not-Code other.not-Rules other.not-Use other.not-Ignore other.not-Include other.not-Enter other.not-Leave

pub returns-in-Code-clause-block : goal.returns-in-Code-clause-block
returns-in-Code-clause-block c = c.resolve_rules.ensures.block

pub returns-in-Ignore-clause-block : goal.returns-in-Ignore-clause-block
returns-in-Ignore-clause-block c = λ environment represents.
    (environment, represents, gives_nothing (has_tokens-none c.args.kind c.in-Ignore.is) refl refl)

pub returns-in_err-directive-in_default-clause-block : goal.returns-in_err-directive-in_default-clause-block
returns-in_err-directive-in_default-clause-block c = λ environment represents.
    let p = err_from_is_err_and c.from_residual.result c.from_residual.ensures.1 in
    rw (p.1, p.2) (c.in_err-directive-in_default.ensures c.args.options.now environment c.args.at)

pub returns-in_ok-directive-in_default-clause-block : goal.returns-in_ok-directive-in_default-clause-block
returns-in_ok-directive-in_default-clause-block c = λ environment represents.
    let read = c.in_ok-directive-in_default.ensures in
    let other = c.in_default in (
      environment,
      represents,
      asks read.0 read.1
          (is_directive-other c.args.kind other.not-Code other.not-Rules other.not-Use other.not-Ignore other.not-Include other.not-Enter other.not-Leave)
          read.2 refl (ap Asks read.3),
    )

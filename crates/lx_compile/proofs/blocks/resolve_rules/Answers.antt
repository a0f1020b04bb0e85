use Rattle.std.proofs.lemmas.Result.{err_from_is_err_and}
use Rattle.lx_compile.proofs.BlockStops.{has_tokens-rules}
use Rattle.lx_compile.proofs.blocks.resolve_rules.Goals as goal

pub read-requires-clause-kind : goal.read-requires-clause-kind
read-requires-clause-kind c = has_tokens-rules c.args.kind c.requires.kind

pub resolve_read-requires-clause-read : goal.resolve_read-requires-clause-read
resolve_read-requires-clause-read c = (c.args.start, c.in_ok-tokens.ensures)

pub returns-in_err-tokens-clause-block : goal.returns-in_err-tokens-clause-block
returns-in_err-tokens-clause-block c = λ environment represents.
    let p = err_from_is_err_and c.from_residual.result c.from_residual.ensures.1 in
    rw (p.1, p.2) (c.in_err-tokens.ensures c.args.options.now environment c.args.at)

pub returns-clause-makeable : goal.returns-clause-makeable
returns-clause-makeable c = c.resolve_read.ensures.makeable

pub returns-clause-block : goal.returns-clause-block
returns-clause-block c = λ environment represents.
    c.resolve_read.ensures.block environment c.args.start represents c.in_ok-tokens.ensures

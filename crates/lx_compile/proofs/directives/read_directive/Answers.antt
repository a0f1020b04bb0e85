use Rattle.std.proofs.lemmas.Result.{err_from_is_err_and}
use Rattle.lx_compile.proofs.BlockStops.{has_tokens-directive}
use Rattle.lx_compile.proofs.directives.read_directive.Goals as goal

pub read-requires-clause-kind : goal.read-requires-clause-kind
read-requires-clause-kind c = has_tokens-directive c.args.kind c.requires.kind

pub returns-in_err-tokens : goal.returns-in_err-tokens
returns-in_err-tokens c =
    let p = err_from_is_err_and c.from_residual.result c.from_residual.ensures.1 in
    rw (p.1, p.2) c.in_err-tokens.ensures

use Rattle.std.proofs.lemmas.Result.{err_from_is_err_and}
use Rattle.lx_compile.proofs.walk.append_block.Goals as goal

pub returns-in_err-content : goal.returns-in_err-content
returns-in_err-content c = λ environment represents.
    let p = err_from_is_err_and c.from_residual.result c.from_residual.ensures.1 in
    rw (p.1, p.2) (c.in_err-content.ensures.block environment represents)

pub returns : goal.returns
returns c = λ environment represents.
    let block = c.in_ok-content.ensures.block environment represents in (
      block.0,
      c.in_ok-content.content,
      block.1,
      block.2,
      c.in_ok-content.ensures.makeable environment represents,
      c.in_ok-push.ensures.pushed,
    )

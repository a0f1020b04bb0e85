use Rattle.std.proofs.lemmas.Result.{err_from_is_err_and}
use Rattle.lx_rules.specs.Represents.{Represents}
use Rattle.lx_compile.specs.Blocks.{resolves}
use Rattle.lx_compile.proofs.BlockStops.{HasMakeable-content, StopsAt-rules}
use Rattle.lx_compile.proofs.blocks.resolve_read.Goals as goal

pub resolve-requires-clause-tokens : goal.resolve-requires-clause-tokens
resolve-requires-clause-tokens c = let read = c.requires.read in (read.0, read.1.tokens_are)

pub resolve-requires-clause-tree : goal.resolve-requires-clause-tree
resolve-requires-clause-tree c = c.requires.read.1.items_are

pub resolve-requires-clause-env : goal.resolve-requires-clause-env
resolve-requires-clause-env c = rw c.replace-held.ensures.value c.requires.env

pub returns-in_err-after-clause-block : goal.returns-in_err-after-clause-block
returns-in_err-after-clause-block c = λ environment start represents read.
    let held : Represents c.replace-held.result environment = rw c.replace-held.ensures.value represents in
    let p = err_from_is_err_and c.from_residual.result c.from_residual.ensures.1 in
    rw (p.1, p.2)
    (StopsAt-rules c.args.options.now environment c.args.kind c.args.body.now c.args.at start c.args.tokens.now
    c.args.tree.now.items c.in_err-after.field-0.0 c.requires.kind read (c.in_err-after.ensures.resolves environment held))

pub returns-clause-makeable : goal.returns-clause-makeable
returns-clause-makeable c = λ environment represents stands.
    let held : Represents c.replace-held.result environment = rw c.replace-held.ensures.value represents in
    let answer = c.in_ok-after.ensures.resolves environment held in
    rw c.content_of.ensures
    (HasMakeable-content c.args.options.now c.args.kind c.args.at environment _ c.args.tree.now.items answer.0 c.in_ok-after.resolved
    c.requires.kind answer.2 (λ differs. c.in_ok-after.ensures.well_formed differs environment held stands))

pub returns-clause-block : goal.returns-clause-block
returns-clause-block c = λ environment start represents read.
    let held : Represents c.replace-held.result environment = rw c.replace-held.ensures.value represents in
    let answer = c.in_ok-after.ensures.resolves environment held in (
      answer.0,
      answer.1,
      resolves c.args.tokens.now c.args.tree.now.items c.in_ok-after.resolved c.requires.kind read answer.2 c.content_of.ensures,
    )

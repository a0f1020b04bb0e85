use Rattle.lx_exprs.proofs.Contents.KindContents.{kept_kinds}
use Rattle.lx_exprs.proofs.Contents.ValueContents.{kept_fits, not_past, term_kept}
use Rattle.lx_exprs.proofs.values.Content.into_kept.Goals as goal

pub returns-in_default : goal.returns-in_default
returns-in_default c = record {
  term = λ is_built meaning content past.
      term_kept is_built meaning c.args.self c.into_expr.result past
      (not_past c.args.self (λ set alternatives same. c.in_default.not-Past set alternatives same)) c.into_expr.ensures.past
      (c.into_expr.ensures.built is_built meaning content);
  kept = λ size tags some less below.
      kept_fits c.into_expr.result c.args.self size tags some less below c.into_expr.ensures.size (c.into_expr.ensures.tags tags below);
  kinds = λ tags are. kept_kinds tags c.into_expr.result c.args.self c.into_expr.ensures.kinds are;
}

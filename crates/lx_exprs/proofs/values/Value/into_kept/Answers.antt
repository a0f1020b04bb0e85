use Rattle.lx_exprs.specs.Defined.{is_built, whole_room}
use Rattle.lx_exprs.proofs.values.Value.into_kept.Goals as goal

pub returns : goal.returns
returns c = record {
  term = λ meaning is. c.into_kept.ensures.term (is_built whole_room meaning) meaning is.content is.past;
  kept = λ is. c.into_kept.ensures.kept c.args.self.size c.args.self.tags is.some is.size is.tags;
  kinds = λ tags are. c.into_kept.ensures.kinds tags are;
}

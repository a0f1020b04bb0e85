use Rattle.lx_step.proofs.Reaching.{assigned-reached, list_any-reached}
use Rattle.lx_step.proofs.laws.matches_reach_statements_of_the_piece.Goals as goal

pub returns : goal.returns
returns c = record {
  statements = λ held before stream point test. list_any-reached held before stream point test;
  assigned = assigned-reached;
}

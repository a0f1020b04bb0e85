use Rattle.lx_ccode.proofs.Steps.{ChangesOnly-step, answers_after-step}
use Rattle.lx_ccode.proofs.laws.steps_change_only_their_part.Goals as goal

pub returns : goal.returns
returns c = record {
  machine = λ piece stream statement rest machine answers. ChangesOnly-step piece stream rest machine answers statement;
  answers = λ piece stream statement rest machine answers. answers_after-step piece stream rest machine answers statement;
}

use Rattle.lx_token.proofs.Walk.{tokens_stand, fault_is_bad_token}
use Rattle.lx_token.proofs.list.tokens_stand_in_order.Goals as goal

pub returns : goal.returns
returns c = record {
  tokens = tokens_stand;
  fault = fault_is_bad_token;
}

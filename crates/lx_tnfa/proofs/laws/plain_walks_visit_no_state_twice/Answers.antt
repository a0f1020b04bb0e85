use Rattle.lx_regex.specs.Automaton.{automaton}
use Rattle.lx_tnfa.proofs.Searching.PlainWalks.{plain_visits}
use Rattle.lx_tnfa.proofs.laws.plain_walks_visit_no_state_twice.Goals as goal

pub returns : goal.returns
returns c enc rules state walk = plain_visits enc (automaton rules) walk

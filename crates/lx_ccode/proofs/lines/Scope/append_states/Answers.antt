use Rattle.lx_ccode.specs.Text.{state_cases_then}
use Rattle.lx_ccode.proofs.Tails.{state_cases_then-nil, switch_written}
use Rattle.lx_ccode.proofs.lines.Scope.append_states.Goals as goal

pub returns : goal.returns
returns c =
    let number = c.args.self.now.number in
    let cases = c.args.cases.now in
    switch_written c.args.self.now.names.now (state_cases_then number cases) _ _ _ _ _ (state_cases_then-nil number cases)
    c.in_ok-append_state_head.ensures c.in_ok-append_state_cases.ensures c.in_ok-append_default.ensures

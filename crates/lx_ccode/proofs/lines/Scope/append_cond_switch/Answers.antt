use Rattle.std.proofs.Common.{◌∙◌, length}
use Rattle.std.proofs.lemmas.Bool.{false≢true, eq-eqb}
use Rattle.lx_ccode.proofs.Tails.{cond_switch_written}
use Rattle.lx_ccode.proofs.lines.Scope.append_cond_switch.Goals as goal

pub returns : goal.returns
returns c =
    cond_switch_written c.args.self.now.number c.args.self.now.names.now c.args.conds.now _ _ _ _ _
    (λ e. false≢true (c.if-is_empty.ensures ∙ eq-eqb (length c.args.conds.now) 0 e)) c.get_condition.ensures
    c.in_ok-append_cond_head.ensures c.in_ok-append_cond_cases.ensures c.in_ok-append_parts.ensures

use Rattle.std.proofs.Common.{◌∙◌, length}
use Rattle.std.proofs.lemmas.Bool.{false≢true, eq-eqb}
use Rattle.lx_ccode.proofs.Tails.{label_switch_written}
use Rattle.lx_ccode.proofs.openings.append_label_switch.Goals as goal

pub returns : goal.returns
returns c =
    label_switch_written c.args.names.now c.args.conds.now _ _ _ _ _ (λ e. false≢true (c.if-is_empty.ensures ∙ eq-eqb (length c.args.conds.now) 0 e))
    c.get_condition.ensures c.in_ok-append_switch_head.ensures c.in_ok-append_label_cases.ensures c.in_ok-append_parts.ensures

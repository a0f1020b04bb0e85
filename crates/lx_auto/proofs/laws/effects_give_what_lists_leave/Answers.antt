use Rattle.lx_auto.proofs.Effects.{read-bank_after, read-bank_after_both}
use Rattle.lx_auto.proofs.laws.effects_give_what_lists_leave.Goals as goal

pub returns-clause-one : goal.returns-clause-one
returns-clause-one c = λ offset ops bank held. read-bank_after offset bank ops held

pub returns-clause-both : goal.returns-clause-both
returns-clause-both c = read-bank_after_both

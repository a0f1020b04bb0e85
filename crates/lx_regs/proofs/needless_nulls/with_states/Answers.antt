use Rattle.lx_regs.proofs.NeedlessNulls.KeptAutomata.{IsAuto-kept, KeepsShape-kept, same_run-kept}
use Rattle.lx_regs.proofs.needless_nulls.with_states.Goals as goal

pub returns-clause-formed : goal.returns-clause-formed
returns-clause-formed c = IsAuto-kept c.args.auto c.args.states c.requires.rows.0 c.requires.rows.1 c.requires.formed

pub returns-clause-run : goal.returns-clause-run
returns-clause-run c = same_run-kept c.args.auto c.args.states c.requires.rows.0 c.requires.rows.1

pub returns-clause-kept : goal.returns-clause-kept
returns-clause-kept c = KeepsShape-kept c.args.auto c.args.states c.requires.rows.0 c.requires.rows.1

use Rattle.lx_step.proofs.CondNumbers.{IsStep-cond}
use Rattle.lx_step.proofs.scanner.Scanner.set_cond.Goals as goal

pub returns : goal.returns
returns c = λ stream eof table. IsStep-cond stream eof table c.args.conds.now c.args.cond.now _ _ c.args.self.now c.requires c.cond_number-self.ensures c.as_slice.ensures

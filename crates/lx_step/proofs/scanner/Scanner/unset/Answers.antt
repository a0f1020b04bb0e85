use Rattle.std.proofs.Common.{refl, None}
use Rattle.lx_ccode.specs.declared.piece.Stmt.TheVariants.{Unset}
use Rattle.lx_step.proofs.Tables.{IsStep-register}
use Rattle.lx_step.proofs.scanner.Scanner.unset.Goals as goal

pub returns : goal.returns
returns c = λ stream eof table conds. IsStep-register stream eof table conds (Unset c.args.register) _ _ c.args.register None c.set_register.ensures (λ piece rest values answers. refl) (λ values. refl) (λ values. refl) refl (λ start from. tt)

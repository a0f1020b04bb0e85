use Rattle.std.proofs.Common.{refl, Some}
use Rattle.lx_ccode.specs.declared.piece.Stmt.TheVariants.{Set}
use Rattle.lx_step.proofs.Tables.{IsStep-register}
use Rattle.lx_step.proofs.scanner.Scanner.set.Goals as goal

pub returns : goal.returns
returns c = λ stream eof table conds. IsStep-register stream eof table conds (Set c.args.register) _ _ c.args.register (Some c.args.self.now.cursor) c.set_register.ensures (λ piece rest values answers. refl) (λ values. refl) (λ values. refl) refl (λ start from. from.cursor)

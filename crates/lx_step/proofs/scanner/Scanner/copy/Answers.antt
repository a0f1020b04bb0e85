use Rattle.lx_ccode.specs.Machine.{goes_on, updated}
use Rattle.lx_step.specs.Left.{IsBehind}
use Rattle.lx_step.specs.Steps.{content_of, machine_of}
use Rattle.std.proofs.Common.{sym, ap, refl, subst, None}
use Rattle.lx_ccode.specs.declared.piece.Stmt.TheVariants.{Copy}
use Rattle.lx_step.proofs.Tables.{IsStep-register, all-at}
use Rattle.lx_step.proofs.scanner.Scanner.copy.Goals as goal

pub returns : goal.returns
returns c = λ stream eof table conds. IsStep-register stream eof table conds (Copy c.args.register c.args.source) _ _ c.args.register _ c.set_register.ensures
    (λ piece rest values answers. ap (λ value. goes_on rest (record (machine_of conds c.args.self.now values) { registers = updated c.args.register value (content_of c.args.self.now) }) answers) (sym c.content-value.ensures)) (λ values. refl) (λ values. refl) refl (λ start from. subst (IsBehind start) (sym c.content-value.ensures) (all-at (IsBehind start) _ _ None tt from.registers))

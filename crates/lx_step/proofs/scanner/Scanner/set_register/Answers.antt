use Rattle.std.proofs.Common.{ap, refl, set}
use Rattle.lx_step.proofs.Tables.{SetsRegister-at}
use Rattle.lx_step.proofs.scanner.Scanner.set_register.Goals as goal

pub returns : goal.returns
returns c =
    SetsRegister-at c.args.self.now _ c.args.register c.args.value c.requires (ap (λ place. set c.args.self.now.registers.items place c.args.value) c.place_of_register-place.ensures)
    refl refl refl refl refl refl (λ conds values. refl)

use Rattle.std.proofs.Common.{◌≡◌, ◌∷◌, ◌++◌, refl, subst, sym}
use Rattle.lx_compile.specs.Facts.{fault_among}
use Rattle.lx_compile.specs.Writing.{made_text}
use Rattle.lx_compile.specs.declared.made.Made.{Made}
use Rattle.lx_compile.proofs.writing.append_made.Goals as goal

pub returns-in_ok-append_placed-in-Scanners : goal.returns-in_ok-append_placed-in-Scanners
returns-in_ok-append_placed-in-Scanners c = λ all rest tell.
    subst (λ (one : Made). (c.append_placed.new.output.items
    ≡ c.args.output.now.items ++ made_text c.args.names.now c.args.out.now all c.args.number c.args.line one)
    × (fault_among c.args.names.now all (one ∷ rest) ≡ fault_among c.args.names.now all rest))
    (sym c.in-Scanners.is) (c.in_ok-append_placed-in-Scanners.ensures, refl)

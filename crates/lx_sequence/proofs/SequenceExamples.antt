-- Two copies that swap registers, as they stand and with the spare.
use Rattle.std.specs.Prelude.{◌≡◌, List, [], ◌∷◌, Some, None, nat_eq, if◌then◌else◌}
use Rattle.std.proofs.Common.{arith}
use Rattle.lx_auto.specs.Automaton.{AreOps}
use Rattle.lx_auto.specs.Bank.{Bank}
use Rattle.lx_auto.specs.declared.ops.Op.{Op}
use Rattle.lx_auto.specs.declared.ops.Op.TheVariants.{Copy}
use Rattle.lx_sequence.specs.Turns.{ActsOneByOne}
use Rattle.lx_sequence.proofs.Sequentialized.{ActsOneByOne-sequentialized}

abbrev swap : List Op
swap = Copy 0 1 ∷ Copy 1 0 ∷ []

AreOps-swap : AreOps 2 1 swap
AreOps-swap = ((omega arith, omega arith), ((omega arith, omega arith), tt))

-- register 0 holds nothing
abbrev held : Bank
held = record { regs = λ reg. if nat_eq reg 0 then None else Some 7; mregs = λ mreg. [] }

pub not_as_they_stand-swap : ActsOneByOne 2 1 swap swap → ⊥
not_as_they_stand-swap acts =
    let alike = acts 2 1 AreOps-swap (omega arith) (omega arith) 0 held in
    let both : Some 7 ≡ None = alike.registers 1 (λ e. omega (arith, e)) in
    cc both

pub by_the_spare-swap : ActsOneByOne 2 1 (Copy 2 0 ∷ Copy 0 1 ∷ Copy 1 2 ∷ []) swap
by_the_spare-swap = ActsOneByOne-sequentialized 2 1 swap

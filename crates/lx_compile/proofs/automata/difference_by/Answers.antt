use Rattle.std.proofs.Common.{◌≡◌, arith, false}
use Rattle.lx_compile.specs.Models.{Serves}
use Rattle.lx_compile.specs.Options.{asks_for_cover, policy_of}
use Rattle.lx_compile.proofs.CopiedAutomata.{DiffersBy-renumbered}
use Rattle.lx_compile.proofs.automata.difference_by.Goals as goal

pub returns-in-Some : goal.returns-in-Some
returns-in-Some c =
    let options = c.args.options.now in
    let model = c.in-Some.model in
    let serves : Serves options model.rules.now model.auto.now = rw c.in-Some.is at c.requires in
    let unasked : asks_for_cover options ≡ false = grind (arith, c.asks_for_cover.ensures, c.if-not-asks_for_cover.true) in
    let clauses = c.difference.ensures in
    rw c.in-Some.is
    (DiffersBy-renumbered options c.args.scanner.now model serves unasked c.difference.result
    (rw c.as_slice.ensures at clauses.patterns) ((rw (c.as_slice.ensures, c.get.ensures) at clauses.promised) (policy_of options) options.enc serves.automaton)
    (rw c.as_slice.ensures at clauses.terms) ((rw c.get.ensures at clauses.apart) serves.reduced.states)
    ((rw c.get.ensures at clauses.read) serves.reduced.operations) ((rw c.get.ensures at clauses.interfere) serves.reduced.registers))

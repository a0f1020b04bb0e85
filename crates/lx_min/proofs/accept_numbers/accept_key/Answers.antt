use Rattle.std.proofs.Common.{List, Option, Some, refl, sym, subst}
use Rattle.lx_auto.specs.declared.automaton.Accept.{Accept}
use Rattle.lx_auto.specs.declared.ops.Op.{Op}
use Rattle.lx_min.specs.Numbers.{IsListNumber, IsNumbered, NumberedAccept}
use Rattle.lx_min.proofs.accept_numbers.accept_key.Goals as goal

pub returns-in_ok-number-in-Some-clause-numbered : goal.returns-in_ok-number-in-Some-clause-numbered
returns-in_ok-number-in-Some-clause-numbered c =
    let lists = c.number.new.self in
    let number = c.in_ok-number-in-Some.field-0 in
    let key : NumberedAccept = record { rule = c.in-Some.accept.rule; ops = number; values = c.as_slice-in-Some.result.now } in
    let is = subst (λ (ops : List Op). IsListNumber lists ops number) c.as_slice.ensures c.in_ok-number-in-Some.ensures.number in
    subst (λ (accept : Option Accept). IsNumbered lists accept (Some key)) (sym c.in-Some.is) (refl, c.as_slice-in-Some.ensures, is)

use Rattle.std.proofs.Common.{List, Option, subst}
use Rattle.std.specs.Option.{option_eq}
use Rattle.lx_min.specs.contracts.accept_numbers.AcceptKeyPartialEq.TheImpl.{eq-value}
use Rattle.lx_min.specs.Numbers.{Keeps, NumberedAccept, seen_accept, seen_accepts}
use Rattle.lx_min.proofs.AcceptNumbers.{Decides-accepts}
use Rattle.lx_min.proofs.Interned.{AreDistinct-seen, Keeps-inserted, seen-stored}
use Rattle.lx_min.proofs.accept_numbers.AcceptNumbers.number.Goals as goal

pub invariant_of-self-2 : goal.invariant_of-self-2
invariant_of-self-2 c =
    AreDistinct-seen seen_accept (option_eq eq-value.it) Decides-accepts c.insert_full.new.self.keys c.in_ok-number.ensures.unique

pub returns-clause-number : goal.returns-clause-number
returns-clause-number c =
    seen-stored seen_accept (option_eq eq-value.it) Decides-accepts c.insert_full.new.self.keys c.args.key c.in_ok-number.number
    c.in_ok-number.ensures.stored

pub returns-clause-keeps : goal.returns-clause-keeps
returns-clause-keeps c =
    subst (λ (accepts : List (Option NumberedAccept)). Keeps accepts (seen_accepts c.insert_full.new.self.keys)) c.self.view_is
    (Keeps-inserted seen_accept (option_eq eq-value.it) Decides-accepts c.self.inside.keys.keys c.insert_full.new.self.keys c.args.key
    c.in_ok-number.ensures.keys)

pub returns-clause-distinct : goal.returns-clause-distinct
returns-clause-distinct c =
    AreDistinct-seen seen_accept (option_eq eq-value.it) Decides-accepts c.insert_full.new.self.keys c.in_ok-number.ensures.unique

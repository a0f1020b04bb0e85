use Rattle.std.proofs.Common.{Some, sym, subst}
use Rattle.lx_auto.specs.Run.{Standing, at_start, found_behind}
use Rattle.lx_cover.proofs.ToldMatches.{taken-told}
use Rattle.lx_cover.specs.Machine.{IsTaken, last_standing, standing_of}
use Rattle.lx_cover.specs.Matches.{Tells}
use Rattle.lx_cover.specs.Outcomes.{outcome_on}
use Rattle.lx_cover.proofs.matches.match_run.Goals as goal

pub returns-clause-told : goal.returns-clause-told
returns-clause-told c =
    let auto = c.args.auto.now in
    let rules = c.args.rules.now in
    let acts = c.args.acts.now in
    let word = c.args.word.now in
    let taken = c.in-Some.taken in
    let last : Standing = last_standing auto (at_start 0) word in
    let is : IsTaken (found_behind auto last) (Some taken) =
    subst (λ s. IsTaken (found_behind auto s) (Some taken)) c.in_ok-machine.ensures.stands
    (subst (λ o. IsTaken (found_behind auto (standing_of auto c.in_ok-machine.machine)) o) c.in-Some.is c.in_ok-taken.ensures) in
    subst (λ l. Tells acts (outcome_on rules auto word) c.told_taken.result l) (sym c.told_taken.ensures.values)
    (taken-told acts rules last.offset (found_behind auto last) taken c.told_taken.result is c.told_taken.ensures.told)

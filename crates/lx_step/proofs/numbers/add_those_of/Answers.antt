use Rattle.std.proofs.Common.{ap, length, arith}
use Rattle.lx_step.specs.Numbers.{numbers_in, with_number}
use Rattle.lx_step.proofs.CountedNumbers.{length-next, length-with}
use Rattle.lx_step.proofs.numbers.add_those_of.Goals as goal

pub returns-in_err-add-clause-succeeds : goal.returns-in_err-add-clause-succeeds
returns-in_err-add-clause-succeeds c = λ enough.
    let numbers = c.loop-statement.numbers.keys in
    let pair = numbers_in c.args.sort c.statement-item.result in
    let all = length-next c.args.sort c.args.statements.now c.loop-statement.statement-index c.statement-item.result numbers _ c.loop-statement-test.true c.statement-item.is c.loop-statement.invariant.keys in
    let second = length-with pair.1 (with_number pair.0 numbers) in
    let same = ap (λ found. length (with_number found.0 numbers)) c.numbers_in-first.ensures in
    let room = c.loop-statement.invariant.room in
    absurd (let bad = c.in_err-add.ensures.succeeds (omega (arith, all, second, same, enough, room)) in cc)

pub returns-in_err-add-2-clause-succeeds : goal.returns-in_err-add-2-clause-succeeds
returns-in_err-add-2-clause-succeeds c = λ enough.
    let numbers = c.loop-statement.numbers.keys in
    let all = length-next c.args.sort c.args.statements.now c.loop-statement.statement-index c.statement-item.result numbers _ c.loop-statement-test.true c.statement-item.is c.loop-statement.invariant.keys in
    let same = ap (λ found. length (with_number found.1 (with_number found.0 numbers))) c.numbers_in-first.ensures in
    let keys = ap (λ keys. length (with_number c.numbers_in-first.result.1 keys)) c.in_ok-add.ensures.keys in
    let room = c.loop-statement.invariant.room in
    let kept = c.in_ok-add.ensures.room in
    absurd (let bad = c.in_err-add-2.ensures.succeeds (omega (arith, all, same, keys, enough, room, kept)) in cc)

use Rattle.std.proofs.Common.{◌∙◌, ◌≡◌, sym, max, min, arith}
use Rattle.lx_posix.specs.WayNumbers.{lowest_to, number_of_ways, numbers_between}
use Rattle.lx_posix.proofs.CodeNumbers.NumbersBetween.{number_of_ways-one, number_of_ways-two}
use Rattle.lx_posix.proofs.CodeNumbers.WaysCompared.{ways-compared}
use Rattle.lx_posix.proofs.numbers.number.Goals as goal

pub returns-then-found-other : goal.returns-then-found-other
returns-then-found-other c =
    let is : c.number_of_one.result ≡ number_of_ways c.args.t.now c.args.beginnings.now c.args.found.now c.args.other.now =
    c.number_of_one.ensures
    ∙ sym (number_of_ways-one c.args.t.now c.args.beginnings.now c.args.found.now c.args.other.now c.if-found-other.true) in
    record {
      is = is;
      compared = λ enc patterns deep ranks unit pick second of placed are by.
          is
          ∙ ways-compared enc patterns c.args.t.now deep ranks c.args.beginnings.now of placed are by c.args.found.now c.args.other.now
          c.requires.way c.requires.other_way unit pick second;
    }

pub number_between-requires-clause-within : goal.number_between-requires-clause-within
number_between-requires-clause-within c = omega (arith, c.max-last.ensures, c.requires.way.from, c.requires.other_way.from)

pub returns : goal.returns
returns c =
    let computed : c.min-2.result
    ≡ min (min (numbers_between c.args.beginnings.now (min c.args.found.now.from c.args.other.now.from)
    (max c.args.found.now.from c.args.other.now.from)) (lowest_to c.args.t.now c.args.beginnings.now c.args.found.now))
    (lowest_to c.args.t.now c.args.beginnings.now c.args.other.now) = cc in
    let is : c.min-2.result ≡ number_of_ways c.args.t.now c.args.beginnings.now c.args.found.now c.args.other.now =
    computed ∙ sym (number_of_ways-two c.args.t.now c.args.beginnings.now c.args.found.now c.args.other.now c.if-found-other.false) in
    record {
      is = is;
      compared = λ enc patterns deep ranks unit pick second of placed are by.
          is
          ∙ ways-compared enc patterns c.args.t.now deep ranks c.args.beginnings.now of placed are by c.args.found.now c.args.other.now
          c.requires.way c.requires.other_way unit pick second;
    }

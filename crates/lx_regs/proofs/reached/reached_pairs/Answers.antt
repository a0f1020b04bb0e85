use Rattle.std.proofs.Common.{◌<◌, length, refl, arith}
use Rattle.lx_regs.specs.Reached.{IsNextPair, IsPair}
use Rattle.lx_regs.proofs.LiveRegisters.GrownLists.{grown-has, search-begins, search-more}
use Rattle.lx_regs.proofs.LiveRegisters.PairSearch.{TellsEqual-pairs, first-pair, next-pair, pairs-bounded, pairs-found, reached-within}
use Rattle.lx_regs.proofs.reached.reached_pairs.Goals as goal

pub loop-done-init : goal.loop-done-init
loop-done-init c =
    let auto = c.args.auto.now in
    let numbers = c.args.numbers.now in
    let grows = c.in_ok-add.ensures TellsEqual-pairs in
    record {
      search = search-begins (IsPair auto numbers) (IsNextPair auto numbers) c.new-found.result c.add.new.self
          (record { state = 0; left = 0 })
          c.new-found.ensures grows (first-pair auto numbers);
      first = grows.complete (record { state = 0; left = 0 }) refl;
    }

pub at-pair-requires : goal.at-pair-requires
at-pair-requires c = omega (arith, c.len.ensures.count, c.loop-done-test.true)

pub add_next-requires-clause-within : goal.add_next-requires-clause-within
add_next-requires-clause-within c =
    let pair = c.at-pair.result in
    let right = c.loop-done.invariant.search.right pair
    (c.loop-done.done, omega (arith, c.len.ensures.count, c.loop-done-test.true), c.at-pair.ensures) in
    reached-within c.args.auto.now (record { state = pair.state; left = right.0 }) c.requires.formed right.1

pub loop-done-smaller : goal.loop-done-smaller
loop-done-smaller c =
    let bound = pairs-bounded c.args.auto.now c.args.numbers.now c.loop-done.found c.requires.formed c.len.ensures.distinct
    c.loop-done.invariant.search.right in
    omega (arith, bound, c.len.ensures.count, c.loop-done-test.true)

pub loop-done-preserved : goal.loop-done-preserved
loop-done-preserved c =
    let auto = c.args.auto.now in
    let numbers = c.args.numbers.now in
    let found = c.loop-done.found in
    let new = c.add_next.new.found in
    let pair = c.at-pair.result in
    let within : c.loop-done.done < length found = omega (arith, c.len.ensures.count, c.loop-done-test.true) in
    let right = c.loop-done.invariant.search.right pair (c.loop-done.done, within, c.at-pair.ensures) in
    record {
      search = search-more (IsPair auto numbers) (IsNextPair auto numbers) found new c.loop-done.done pair c.loop-done.invariant.search
          within
          c.at-pair.ensures c.in_ok-add_next.ensures (λ next. next-pair auto numbers c.requires.none c.requires.some pair next right);
      first = grown-has (IsNextPair auto numbers pair) found new c.in_ok-add_next.ensures (record { state = 0; left = 0 })
          c.loop-done.invariant.first;
    }

pub returns : goal.returns
returns c =
    pairs-found c.args.auto.now c.args.numbers.now c.requires.none c.requires.some c.loop-done.found c.loop-done.done
    c.loop-done.invariant.search
    (omega (arith, c.len.ensures.count, c.loop-done-test.false)) c.loop-done.invariant.first

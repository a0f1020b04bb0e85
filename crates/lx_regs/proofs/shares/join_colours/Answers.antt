use Rattle.std.proofs.Common.{◌∙◌, ◌∷◌, [], ap, arith, get_or, subst, sym, take}
use Rattle.std.proofs.lemmas.List.{map-append, take_more}
use Rattle.std.proofs.lemmas.List.Elements.{Contains-get_or}
use Rattle.std.specs.Prelude.{map, slice_index}
use Rattle.lx_regs.specs.Graphs.{JoinsEach}
use Rattle.lx_regs.proofs.SharedNames.Merges.{joins_each-pushed}
use Rattle.lx_regs.proofs.shares.join_colours.Goals as goal

pub bounds-colours-number : goal.bounds-colours-number
bounds-colours-number c =
    c.requires.numbers (get_or c.args.numbers.now c.loop-number.number-index 0)
    (Contains-get_or c.args.numbers.now c.loop-number.number-index 0 (omega arith))

pub loop-number-preserved : goal.loop-number-preserved
loop-number-preserved c =
    let numbers = c.args.numbers.now in
    let place = c.loop-number.number-index in
    let colours = c.args.colours.now in
    let before = take place numbers in
    let number = get_or numbers place 0 in
    let front = ap (map (slice_index colours)) (take_more numbers place 0 (omega arith)) ∙ map-append (slice_index colours) before (number ∷ []) in
    subst (JoinsEach c.args.merged.now c.join.new.self c.args.colour) (sym front)
    (joins_each-pushed c.args.merged.now c.loop-number.merged c.join.new.self c.args.colour (map (slice_index colours) before)
    (slice_index colours number) c.loop-number.invariant c.in_ok-join.ensures)

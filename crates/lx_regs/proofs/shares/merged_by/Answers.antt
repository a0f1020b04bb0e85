use Rattle.std.proofs.Common.{◌<◌, ◌∙◌, Contains, subst, sym, arith}
use Rattle.std.specs.Prelude.{map, slice_index}
use Rattle.lx_regs.specs.Graphs.{JoinsEach, size_of}
use Rattle.lx_regs.proofs.SharedNames.Merges.{merges-begin, merges-pushed}
use Rattle.lx_regs.proofs.shares.merged_by.Goals as goal

pub loop-number-init : goal.loop-number-init
loop-number-init c =
    merges-begin c.args.graph.now c.requires.graph c.args.colours.now c.in_ok-merged.merged c.in_ok-merged.ensures.graph
    (c.in_ok-merged.ensures.size ∙ c.size.ensures) c.in_ok-merged.ensures.empty

pub join_colours-requires-clause-numbers : goal.join_colours-requires-clause-numbers
join_colours-requires-clause-numbers c = λ number has.
    let within = c.requires.graph.within c.loop-number.number number (subst (λ l. Contains l number) c.neighbours_of.ensures has) in
    subst (λ n. number < n) (sym c.requires.count) within

pub loop-number-preserved : goal.loop-number-preserved
loop-number-preserved c =
    let colours = c.args.colours.now in
    let bound = c.loop-number.number in
    merges-pushed c.args.graph.now c.requires.graph colours bound c.loop-number.merged c.join_colours.new.merged c.loop-number.invariant
    (subst (λ l. JoinsEach c.loop-number.merged c.join_colours.new.merged (slice_index colours bound) (map (slice_index colours) l))
    c.neighbours_of.ensures c.in_ok-join_colours.ensures)

pub returns : goal.returns
returns c =
    let graph = c.args.graph.now in
    let known = c.loop-number.invariant in
    record {
      formed = known.formed;
      size = known.size;
      has = λ number other near.
          let within : number < size_of graph = c.requires.graph.within other number (c.requires.graph.both_ways number other near) in
          known.has number other (omega (arith, within, c.size-number-end.ensures)) near;
      only = known.only;
    }

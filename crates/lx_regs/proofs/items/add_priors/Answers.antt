use Rattle.std.proofs.Common.{[], List, arith, subst, sym}
use Rattle.std.proofs.lemmas.List.{get_or_read}
use Rattle.lx_auto.specs.declared.ops.Op.{Op}
use Rattle.lx_regs.specs.Growth.{Grows}
use Rattle.lx_regs.specs.Items.{Passes, PassesBy}
use Rattle.lx_regs.proofs.LiveRegisters.GrownLists.{grows-item}
use Rattle.lx_regs.proofs.items.add_priors.Goals as goal

pub bounds-leaves-arrow : goal.bounds-leaves-arrow
bounds-leaves-arrow c =
    let within = c.requires.within c.arrow-item.result (c.loop-arrow.arrow-index, c.loop-arrow-test.true, sym c.arrow-item.is) in
    omega (arith, within, c.requires.fit)

pub add_prior-requires : goal.add_prior-requires
add_prior-requires c = c.requires.within c.arrow-item.result (c.loop-arrow.arrow-index, c.loop-arrow-test.true, sym c.arrow-item.is)

pub loop-arrow-preserved : goal.loop-arrow-preserved
loop-arrow-preserved c =
    let arrow = c.arrow-item.result in
    let leaves = c.args.leaves.now in
    let within = c.requires.within arrow (c.loop-arrow.arrow-index, c.loop-arrow-test.true, sym c.arrow-item.is) in
    let leave = get_or_read leaves arrow.state c.index-leaves-arrow.result (omega (arith, within, c.requires.fit)) c.index-leaves-arrow.is
    [] in
    grows-item c.args.arrows.now (PassesBy c.args.numbers.now c.args.pairs.now leaves c.args.item) c.loop-arrow.arrow-index arrow
    c.args.found.now c.loop-arrow.found c.add_prior.new.found c.loop-arrow-test.true (sym c.arrow-item.is) c.loop-arrow.invariant
    (subst (λ (l : List Op). Grows (Passes c.args.numbers.now c.args.pairs.now c.args.item arrow.state l arrow.reader) c.loop-arrow.found
    c.add_prior.new.found)
    leave c.in_ok-add_prior.ensures)

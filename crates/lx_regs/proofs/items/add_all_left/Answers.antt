use Rattle.std.proofs.lemmas.List.Elements.{Contains-get_or}
use Rattle.lx_regs.specs.Items.{IsLeft}
use Rattle.lx_regs.specs.LeftGroups.{lists_of}
use Rattle.lx_regs.proofs.LiveRegisters.GrownLists.{grows-place}
use Rattle.lx_regs.proofs.items.add_all_left.Goals as goal

pub add_left-requires : goal.add_left-requires
add_left-requires c =
    c.requires _ (Contains-get_or c.args.pairs.now c.loop-pair.pair-index (record { state = 0; left = 0 }) c.loop-pair-test.true)

pub loop-pair-preserved : goal.loop-pair-preserved
loop-pair-preserved c =
    grows-place c.args.pairs.now (IsLeft c.args.groups.now.numbers.items (lists_of c.args.groups.now.lists.keys)) c.loop-pair.pair-index
    (record { state = 0; left = 0 }) c.args.found.now c.loop-pair.found c.add_left.new.found c.loop-pair-test.true c.loop-pair.invariant
    c.in_ok-add_left.ensures

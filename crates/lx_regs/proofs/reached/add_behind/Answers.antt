use Rattle.std.proofs.Common.{sym}
use Rattle.lx_regs.specs.Reached.{IsBehind}
use Rattle.lx_regs.proofs.LiveRegisters.GrownLists.{grows-item}
use Rattle.lx_regs.proofs.LiveRegisters.PairSearch.{TellsEqual-pairs}
use Rattle.lx_regs.proofs.reached.add_behind.Goals as goal

pub loop-edge-preserved : goal.loop-edge-preserved
loop-edge-preserved c =
    grows-item c.args.edges.now (IsBehind c.args.left) c.loop-edge.edge-index c.edge-item.result c.args.found.now c.loop-edge.found
    c.add.new.self
    c.loop-edge-test.true (sym c.edge-item.is) c.loop-edge.invariant (c.in_ok-add.ensures TellsEqual-pairs)

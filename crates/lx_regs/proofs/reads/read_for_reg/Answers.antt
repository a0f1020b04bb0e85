use Rattle.std.proofs.Common.{◌≡◌, drop, [], ap, sym, ◌∙◌}
use Rattle.std.proofs.Math.ListN.{drop_of_length-le}
use Rattle.lx_auto.specs.Effects.{held_by}
use Rattle.lx_regs.specs.Reads.{read_after}
use Rattle.lx_regs.proofs.LiveRegisters.ReadEffects.{read_by-after}
use Rattle.lx_regs.proofs.reads.read_for_reg.Goals as goal

pub returns : goal.returns
returns c =
    let ops = c.args.ops.now in
    let none : drop c.loop-op.op-index ops ≡ [] = drop_of_length-le ops c.loop-op-test.false in
    ap (λ rest. read_after rest c.args.reg c.loop-op.read) (sym none) ∙ c.loop-op.invariant ∙ sym (read_by-after ops c.args.reg (held_by c.args.reg))

use Rattle.std.proofs.Common.{arith, rules}
use Rattle.std.proofs.lemmas.List.Elements.{Contains-get_or}
use Rattle.lx_regs.proofs.CutOperations.KeptUsages.{marked-more, marked-none}
use Rattle.lx_regs.proofs.live.marks_of.Goals as goal

pub loop-pair-init : goal.loop-pair-init
loop-pair-init c = marked-none c.args.count c.args.pairs.now c.in_ok-marks.marks.items (search rules)

pub index_mut-requires : goal.index_mut-requires
index_mut-requires c =
    let small = c.requires _
    (Contains-get_or c.args.pairs.now c.loop-pair.pair-index (record { state = 0; left = 0 }) c.loop-pair-test.true) in
    omega (arith, small, c.loop-pair.invariant.fit, c.loop-pair.marks.ok.0)

pub loop-pair-preserved : goal.loop-pair-preserved
loop-pair-preserved c =
    marked-more c.args.count c.args.pairs.now c.loop-pair.pair-index (record { state = 0; left = 0 }) c.loop-pair.marks.items
    c.loop-pair-test.true
    (c.requires _ (Contains-get_or c.args.pairs.now c.loop-pair.pair-index (record { state = 0; left = 0 }) c.loop-pair-test.true))
    c.loop-pair.invariant

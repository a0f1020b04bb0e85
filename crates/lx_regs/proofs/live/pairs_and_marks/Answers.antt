use Rattle.std.proofs.Common.{List, length, ap, arith, subst}
use Rattle.std.specs.Prelude.{Contains}
use Rattle.lx_regs.specs.declared.reached.Pair.{Pair}
use Rattle.lx_regs.specs.Liveness.{AreMarked}
use Rattle.lx_regs.proofs.LiveRegisters.PairSearch.{reached-within}
use Rattle.lx_regs.proofs.live.pairs_and_marks.Goals as goal

pub marks_of-requires : goal.marks_of-requires
marks_of-requires c = λ pair has.
    let (left, reached, group) = c.in_ok-pairs.ensures.sound pair (subst (λ (l : List Pair). Contains l pair) c.as_slice-2.ensures has) in
    let within = reached-within c.args.auto.now (record { state = pair.state; left = left }) c.requires.formed reached in
    let l = ap length c.as_slice.ensures in
    omega (arith, within, l)

pub returns-clause-marks : goal.returns-clause-marks
returns-clause-marks c =
    subst (λ n. AreMarked n c.in_ok-pairs.pairs c.in_ok-marks.marks.items) (ap length c.as_slice.ensures)
    (subst (λ (l : List Pair). AreMarked (length c.as_slice.result.now) l c.in_ok-marks.marks.items) c.as_slice-2.ensures
    c.in_ok-marks.ensures)

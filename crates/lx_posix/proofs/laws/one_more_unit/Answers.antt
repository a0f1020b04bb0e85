use Rattle.std.specs.Prelude.{[], ◌∷◌, ◌++◌}
use Rattle.std.proofs.Common.{sym, ◌∙◌}
use Rattle.lx_posix.proofs.Counted.NumbersOfCuts.{before_of, first_of}
use Rattle.lx_posix.proofs.Fronts.LesserWalks.{walk_units}
use Rattle.lx_posix.proofs.Orders.CutOrder.{across}
use Rattle.lx_posix.proofs.laws.one_more_unit.Goals as goal

pub returns : goal.returns
returns c enc rules word j k y z u n ij ik iy iz jy kz first =
    let a =
    across enc rules j k y z jy.possible.0 kz.possible.0 u u n ij.after_unit ik.after_unit (ij.reads_word ∙ sym ik.reads_word) iy iz
    (walk_units enc rules word j y u ij jy) (walk_units enc rules word k z u ik kz) jy.possible.1 kz.possible.1
    (before_of enc rules word j k n ij ik first) in (
      λ lt. first_of enc rules (word ++ u ∷ []) _ _ _ kz jy (a.0 lt),
      λ ge. first_of enc rules (word ++ u ∷ []) _ _ _ jy kz (a.1 ge),
    )

use Rattle.std.proofs.Common.{sym, ◌∙◌, inl, inr, ⊎_elim}
use Rattle.lx_posix.proofs.Counted.NumbersOfCuts.{before_of, first_of, unit_some}
use Rattle.lx_posix.proofs.Orders.CutOrder.{before_asym, before_total, one_number}
use Rattle.lx_posix.proofs.Orders.NumberBetween.{number_between}
use Rattle.lx_posix.proofs.laws.cuts_are_ordered.Goals as goal

pub returns-clause-total : goal.returns-clause-total
returns-clause-total c enc rules word j k ij ik same =
    ⊎_elim
    (λ e. inl e)
    (λ d. inr (⊎_elim
    (λ b. inl (b.0, first_of enc rules word j k b.0 ij ik b.1))
    (λ b. inr (b.0, first_of enc rules word k j b.0 ik ij b.1)) d))
    (before_total enc rules j k ij.possible.0 ik.possible.0 same ij.after_unit ik.after_unit (ij.reads_word ∙ sym ik.reads_word)
    ij.possible.1 ik.possible.1)

pub returns-clause-one : goal.returns-clause-one
returns-clause-one c enc rules word j k n m ij ik a b =
    before_asym enc rules j k n m
    (ij.reads_word ∙ sym ik.reads_word) (before_of enc rules word j k n ij ik a) (before_of enc rules word k j m ik ij b)

pub returns-clause-number : goal.returns-clause-number
returns-clause-number c enc rules word j k n m ij ik a b =
    one_number enc rules j k n m
    (ij.reads_word ∙ sym ik.reads_word) (before_of enc rules word j k n ij ik a) (before_of enc rules word j k m ij ik b)

pub returns-clause-between : goal.returns-clause-between
returns-clause-between c enc rules word i j k n m ii ij ik a b =
    first_of enc rules word i k _ ii ik
    (number_between enc rules i j k n m
    (unit_some enc rules i.front ii.after_unit) (ii.reads_word ∙ sym ij.reads_word) (ij.reads_word ∙ sym ik.reads_word)
    (before_of enc rules word i j n ii ij a) (before_of enc rules word j k m ij ik b))

use Rattle.std.proofs.Common.{sym, ◌∙◌}
use Rattle.lx_regex.proofs.laws.lesser_choices_are_kept.Goals as goal
use Rattle.lx_regex.proofs.KernelCuts.Cuts.{cuts_order, place_goes}

pub returns-clause-goes_on : goal.returns-clause-goes_on
returns-clause-goes_on c enc rules word cut other rest is is' same goes =
    place_goes enc rules cut other same is.after_unit is'.after_unit rest goes

pub returns-clause-lesser : goal.returns-clause-lesser
returns-clause-lesser c enc rules word cut other rest more is is' same before goes goes' =
    cuts_order enc rules cut other rest more same is.after_unit is'.after_unit (is.reads_word ∙ sym is'.reads_word) goes goes' before

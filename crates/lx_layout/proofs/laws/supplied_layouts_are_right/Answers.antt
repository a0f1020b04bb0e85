use Rattle.lx_base.specs.Spelling.{greatest_unit}
use Rattle.lx_ccode.specs.Statements.{code_of}
use Rattle.lx_regex.specs.Pattern.{end_rule}
use Rattle.lx_layout.specs.SuppliedLayout.{entry_of, fall_block, number_in, place_of, rule_block}
use Rattle.lx_layout.proofs.Supplied.SuppliedMatches.{supplied_right}
use Rattle.lx_layout.proofs.SuppliedLayouts.LayoutServes.{layout_entered, layout_serves}
use Rattle.lx_layout.proofs.laws.supplied_layouts_are_right.Goals as goal

pub returns : goal.returns
returns c policy mode enc patterns auto trees endings supply halting piece begin cond is ends are marked stands some supplied entry =
    supplied_right policy mode enc patterns auto endings supply halting piece (place_of supply halting (end_rule patterns) trees auto begin)
    (number_in halting auto.states) (rule_block supply halting (end_rule patterns) trees auto begin)
    (fall_block supply halting (end_rule patterns) trees auto begin) (entry_of supply halting (end_rule patterns) trees auto begin) cond is ends
    (layout_serves supply halting endings (end_rule patterns) (greatest_unit enc) trees auto begin (code_of piece.blocks) stands is.fits.formed
    is.fits.units are marked is.fits.agreed)
    (layout_entered supply halting endings (end_rule patterns) (greatest_unit enc) trees auto begin (code_of piece.blocks) stands is.fits.formed
    is.fits.units are marked some)
    some supplied entry

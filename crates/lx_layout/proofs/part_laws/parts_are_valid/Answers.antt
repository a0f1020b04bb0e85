use Rattle.lx_layout.proofs.PartLayouts.ValidParts.{parts_valid}
use Rattle.lx_layout.proofs.part_laws.parts_are_valid.Goals as goal

pub returns : goal.returns
returns c format custom enc mode stores first parts piece some are suit store written apart is number eof line allowed differ free no_table no_tag no_label marked few room =
    parts_valid format custom enc mode stores first parts piece some are suit store written apart is few room number eof line allowed differ free no_table no_tag
    no_label marked

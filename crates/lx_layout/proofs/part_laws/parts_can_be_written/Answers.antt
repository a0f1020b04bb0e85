use Rattle.lx_layout.proofs.PartLayouts.WrittenParts.{parts_written}
use Rattle.lx_layout.proofs.part_laws.parts_can_be_written.Goals as goal

pub returns : goal.returns
returns c greatest first names conds parts blocks are short written same small room =
    parts_written names conds greatest first parts blocks are short written same small room

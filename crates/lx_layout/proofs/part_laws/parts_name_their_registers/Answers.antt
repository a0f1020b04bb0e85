use Rattle.lx_layout.proofs.PartLayouts.OwnRegisters.{parts_own}
use Rattle.lx_layout.proofs.part_laws.parts_name_their_registers.Goals as goal

pub returns : goal.returns
returns c greatest first parts are = parts_own greatest 0 first parts are

use Rattle.lx_rules.proofs.Blocks.WellFormedBlocks.{well_formed}
use Rattle.lx_rules.proofs.laws.resolved_blocks_are_well_formed.Goals as goal

pub returns : goal.returns
returns c = λ options kind at start environment after body tokens items resolved has other stands short tokens_are items_are is fits.
    well_formed options kind at start environment after body tokens items resolved has other stands short tokens_are items_are is fits

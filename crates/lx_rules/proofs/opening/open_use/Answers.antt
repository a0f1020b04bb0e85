use Rattle.std.proofs.Common.{◌≡◌, None, subst, sym}
use Rattle.lx_base.specs.declared.blocks.BlockKind.TheVariants.{Use}
use Rattle.lx_rules.specs.Blocks.{opening_fault}
use Rattle.lx_rules.specs.Opening.{IsOpened}
use Rattle.lx_rules.proofs.Blocks.OpenedBlocks.{used_opened}
use Rattle.lx_rules.proofs.opening.open_use.Goals as goal

pub returns : goal.returns
returns c = λ environment represents.
    let taken = c.in_ok-taken.taken in
    let is = c.in_ok-taken.ensures in
    subst (λ known. (opening_fault Use c.args.at environment.kept ≡ None) × IsOpened Use environment known) (sym c.into_known.ensures)
    (used_opened c.args.env environment represents c.in-Some.held c.in-Some.is c.args.at taken.definitions taken.settings taken.rules taken.acts
    taken.conds is.definitions is.settings is.rules is.acts is.names is.kept)

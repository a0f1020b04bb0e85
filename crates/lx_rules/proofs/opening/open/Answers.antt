use Rattle.std.proofs.Common.{◌≡◌, rules, refl}
use Rattle.lx_base.specs.declared.blocks.BlockKind.TheVariants.{Code, Rules}
use Rattle.lx_rules.proofs.Blocks.OpenedBlocks.{scanners_kind}
use Rattle.lx_rules.proofs.opening.open.Goals as goal

pub returns-then-eq : goal.returns-then-eq
returns-then-eq c = λ environment represents.
    let kind : c.args.kind ≡ Rules = search rules in rw (kind) (refl, c.open_rules.ensures environment represents)

pub returns : goal.returns
returns c = λ environment represents.
    let kind : c.args.kind ≡ Code = scanners_kind c.args.kind c.requires.kind (search rules) (search rules) in
    rw (kind) (refl, c.open_code.ensures environment represents)

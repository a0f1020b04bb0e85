use Rattle.std.proofs.Common.{sym}
use Rattle.lx_forms.specs.Seen.{lexemes_view}
use Rattle.lx_rules.proofs.Blocks.ItemSteps.{configured}
use Rattle.lx_rules.proofs.items.Known.configure.Goals as goal

pub returns-clause-taken : goal.returns-clause-taken
returns-clause-taken c = λ state holds.
    configured c.args.block.options.now (lexemes_view c.args.block.lexemes) c.args.self.now state holds c.args.name c.args.value c.in_ok-setting.setting c.set.new.self
    (rw (sym c.at-name.ensures, sym c.at-value.ensures) c.in_ok-setting.ensures.0) (rw (sym c.at-name.ensures, sym c.at-value.ensures) c.in_ok-setting.ensures.1)
    c.in_ok-set.ensures

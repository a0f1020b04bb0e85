use Rattle.std.proofs.Common.{Bool, Option, None, Some, ap, sym, subst}
use Rattle.std.specs.Prelude.{if◌then◌else◌}
use Rattle.lx_forms.specs.Seen.{lexeme_view}
use Rattle.lx_rules.specs.Configurations.{said}
use Rattle.lx_rules.specs.Seen.{IsSaid}
use Rattle.lx_rules.specs.declared.environment.Setting.{Setting}
use Rattle.lx_rules.specs.declared.environment.Setting.TheVariants as set
use Rattle.lx_rules.proofs.Spellings.SaidTexts.{wide_refused}
use Rattle.lx_rules.proofs.configurations.spelling_of.Goals as goal

pub returns-in_default : goal.returns-in_default
returns-in_default c =
    let value = lexeme_view c.args.value.now in
    let wide = subst (IsSaid (said value)) c.in_default.is c.in_ok-word.ensures in
    sym (ap (λ (may : Bool). if◌then◌else◌ {A = Option Setting} may (Some (set.Spelling c.args.place (said value))) None)
    (wide_refused c.args.place (said value) wide))

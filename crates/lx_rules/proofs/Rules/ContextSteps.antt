-- Rules with a trailing context, as they are read.
use Rattle.std.proofs.Common.{◌≡◌, ℕ, suc, ◌++◌, ◌∷◌, [], false, List, None, Some, inl, refl, ap, ap₂, ◌∙◌, subst}
use Rattle.lx_base.specs.declared.faults.Stop.{Stop}
use Rattle.lx_base.specs.declared.faults.Stop.TheVariants as stop
use Rattle.lx_base.specs.declared.settings.Options.{Options}
use Rattle.lx_forms.specs.Lexemes.{Lexeme}
use Rattle.lx_regex.specs.declared.rules.Tag.{Tag}
use Rattle.lx_exprs.specs.Checks.{Checks, StopsAt, are_groups, tags_of}
use Rattle.lx_exprs.specs.Defined.{Before, Definition, is_built, nothing, slash_tag}
use Rattle.lx_exprs.specs.Expressions.{ChecksBehind, ContextChecks, IsRead, IsReadBehind}
use Rattle.lx_exprs.specs.declared.expressions.Reading.{Reading}
use Rattle.lx_exprs.specs.declared.values.Room.{Room}
use Rattle.lx_exprs.proofs.Forms.FormRuns.{tags-meant}
use Rattle.lx_rules.specs.Items.{behind_slash, trailing}
use Rattle.lx_rules.specs.Keeping.{IsContextRead, IsRuleExpr}
use Rattle.lx_rules.specs.declared.rule_exprs.RuleExpr.{RuleExpr}

abbrev pub make : List Tag → ℕ → Before
make tags groups = record { tags = tags; groups = groups }

module _ (options : Options) (lexemes : List Lexeme) (definitions : List Definition) (room : Room) (from slash until : ℕ) (first : Reading)
    (read : IsRead options lexemes definitions room from slash first) where
  -- what stands before the expression behind the slash
  pub before_is : (seen : List Tag) (groups : ℕ) → seen ≡ first.tags ++ slash_tag ∷ [] → groups ≡ first.value.groups
      → make seen groups ≡ behind_slash read.meaning
  before_is seen groups seen_is groups_are =
      ap₂ make (seen_is ∙ ap (λ tags. tags ++ slash_tag ∷ []) read.stands.tags) (groups_are ∙ read.stands.value.counted.groups_is)

  tags_so : read.meaning.tags ≡ tags_of options definitions read.form
  tags_so = tags-meant options definitions false nothing read.form read.meaning read.means

  -- the fault of what stands behind the slash
  pub context_stops : (stopped : Stop) → StopsAt (ChecksBehind options lexemes definitions (behind_slash read.meaning).tags (suc slash) until) stopped
      → StopsAt (ContextChecks options lexemes definitions from slash until) stopped
  context_stops stop.Memory stops = tt
  context_stops (stop.Fault fault) found = (
    read.form,
    found.0,
    read.stands_there,
    found.1,
    inl (read.checked, subst (λ tags. Checks options definitions false (tags ++ slash_tag ∷ []) found.0 (Some fault)) tags_so found.2),
  )

  -- both are read
  pub context_is : (second : Reading) (later : IsReadBehind options lexemes definitions room (behind_slash read.meaning) (suc slash) until second) (made : RuleExpr)
      → IsRuleExpr (is_built room (trailing (are_groups options []) read.meaning later.meaning).means)
      (trailing (are_groups options []) read.meaning later.meaning).means (trailing (are_groups options []) read.meaning later.meaning).slash made
      → IsContextRead options lexemes definitions room from slash until made
  context_is second later made stands = record {
    checked = (
      read.form,
      later.form,
      read.stands_there,
      later.stands_there,
      inl (read.checked, subst (λ tags. Checks options definitions false (tags ++ slash_tag ∷ []) later.form None) tags_so later.checked),
    );
    meaning = trailing (are_groups options []) read.meaning later.meaning;
    is_head = (refl, (read.form, later.form, read.meaning, later.meaning, read.stands_there, later.stands_there, read.means, later.means, refl));
    stands = stands;
  }

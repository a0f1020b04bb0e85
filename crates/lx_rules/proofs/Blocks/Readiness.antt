-- What is asked of what holds before a block, so that its scanners can be built.
use Rattle.std.proofs.Common.{ℕ, zero, suc, List, [], ◌∷◌, ◌++◌, Option, None, Some, drop, length, refl, sym, subst}
use Rattle.std.specs.List.{AllByRecursion}
use Rattle.lx_base.specs.declared.blocks.BlockKind.{BlockKind}
use Rattle.lx_base.specs.declared.blocks.BlockKind.TheVariants.{Code, Rules}
use Rattle.lx_base.specs.declared.settings.Options.{Options}
use Rattle.lx_exprs.specs.Defined.{Definition}
use Rattle.lx_exprs.specs.Within.{AreDefinedWithin}
use Rattle.lx_rules.specs.Blocks.{HasRules, StandsUnder, before_all, behind_block, environment_behind, of_scanners, of_use, to_keep}
use Rattle.lx_rules.specs.Buildable.{IsBuildable}
use Rattle.lx_rules.specs.Environments.{Environment, KeptBlock, first_environment}
use Rattle.lx_rules.specs.Items.{State, first_state, state_behind}
use Rattle.lx_rules.proofs.Blocks.ItemFits.{IsStateWithin, goes_within, no_rules_within}
use Rattle.lx_rules.proofs.Blocks.ItemVerdicts.{IsStateBuildable, goes_buildable}
use Rattle.lx_forms.specs.Lexemes.{lexemes_of}
use Rattle.lx_rules.proofs.Blocks.ItemRuns.{body-alike}
use Rattle.lx_rules.proofs.CondSets.ListForms.{body_lists}
use Rattle.lx_rules.proofs.Rules.RuleNumbers.{all_both, all_drop}
use Rattle.lx_rules.proofs.Rules.FittingRules.{AllFitConditions, goes_sound}

-- what holds of definitions holds of some more, and of those behind some of them
within_both : (options : Options) (definitions more : List Definition) → AreDefinedWithin options definitions → AreDefinedWithin options more
    → AreDefinedWithin options (definitions ++ more)
within_both options [] more are are_more = are_more
within_both options (definition ∷ definitions) more are are_more = (are.0, within_both options definitions more are.1 are_more)

within_drop : (options : Options) (count : ℕ) (definitions : List Definition) → AreDefinedWithin options definitions
    → AreDefinedWithin options (drop count definitions)
within_drop options zero definitions are = are
within_drop options (suc count) [] are = tt
within_drop options (suc count) (definition ∷ definitions) are = within_drop options count definitions are.1

-- what is kept of a rules block, as what is known behind its items
abbrev pub kept_state : KeptBlock → State
kept_state kept = record { definitions = kept.definitions; settings = kept.settings; rules = kept.rules }

abbrev pub KeptUsable : Options → Option KeptBlock → Type 0
KeptUsable options None = Unit {0}
KeptUsable options (Some kept) =
    IsStateWithin options (kept_state kept) × IsStateBuildable (kept_state kept) × AllFitConditions options.conds kept.rules

-- the definitions can stand in expressions and be built, and so can those of the rules block that is kept, with its rules
pub record IsUsable (options : Options) (environment : Environment) : Type 0 where
  pub within : AreDefinedWithin options environment.definitions
  pub buildable : AllByRecursion IsBuildable environment.definitions
  pub kept : KeptUsable options environment.kept

-- before the first block nothing is asked
pub first_ready : (options : Options) → IsUsable options first_environment
first_ready options = record { within = tt; buildable = tt; kept = tt }

module _ (options : Options) (environment : Environment) (ready : IsUsable options environment) where
  used_within : (kept : Option KeptBlock) → KeptUsable options kept → IsStateWithin options (state_behind kept environment)
  used_within None is = no_rules_within options (state_behind None environment) ready.within refl
  used_within (Some kept) is = record {
    definitions = within_both options kept.definitions environment.definitions is.0.definitions ready.within;
    rules = is.0.rules;
    numbers = is.0.numbers;
    differ = is.0.differ;
    ends = is.0.ends;
    once = is.0.once;
  }

  -- so is what is known before the items of a block
  pub first_within : (kind : BlockKind) → HasRules kind → IsStateWithin options (first_state kind environment)
  first_within kind of_scanners = no_rules_within options (first_state Code environment) ready.within refl
  first_within kind to_keep = no_rules_within options (first_state Rules environment) ready.within refl
  first_within kind of_use = used_within environment.kept ready.kept

  used_buildable : (kept : Option KeptBlock) → KeptUsable options kept → IsStateBuildable (state_behind kept environment)
  used_buildable None is = record { definitions = ready.buildable; rules = tt }
  used_buildable (Some kept) is = record {
    definitions = all_both IsBuildable kept.definitions environment.definitions is.1.definitions ready.buildable;
    rules = is.1.rules;
  }

  pub first_buildable : (kind : BlockKind) → HasRules kind → IsStateBuildable (first_state kind environment)
  first_buildable kind of_scanners = record { definitions = ready.buildable; rules = tt }
  first_buildable kind to_keep = record { definitions = ready.buildable; rules = tt }
  first_buildable kind of_use = used_buildable environment.kept ready.kept

  used_sound : (kept : Option KeptBlock) → KeptUsable options kept → AllFitConditions options.conds (state_behind kept environment).rules
  used_sound None is = tt
  used_sound (Some kept) is = is.2

  pub first_sound : (kind : BlockKind) → HasRules kind → AllFitConditions options.conds (first_state kind environment).rules
  first_sound kind of_scanners = tt
  first_sound kind to_keep = tt
  first_sound kind of_use = used_sound environment.kept ready.kept

  -- and what holds behind a block
  pub ready_behind : (kind : BlockKind) → HasRules kind → (state : State) → IsStateWithin options state → IsStateBuildable state
      → AllFitConditions options.conds state.rules → IsUsable options (environment_behind kind environment state)
  ready_behind kind of_scanners state within buildable sound = record { within = within.definitions; buildable = buildable.definitions; kept = ready.kept }
  ready_behind kind of_use state within buildable sound = ready
  ready_behind kind to_keep state within buildable sound = record {
    within = ready.within;
    buildable = ready.buildable;
    kept = (
      record {
        definitions = within_drop options (length environment.definitions) state.definitions within.definitions;
        rules = within.rules;
        numbers = within.numbers;
        differ = within.differ;
        ends = within.ends;
        once = within.once;
      },
      record {
        definitions = all_drop IsBuildable (length environment.definitions) state.definitions buildable.definitions;
        rules = buildable.rules;
      },
      sound,
    );
  }

-- what stands under options is ready
pub stands_ready : (options : Options) (environment : Environment) → StandsUnder options environment → IsUsable options environment
stands_ready options environment before_all = first_ready options
stands_ready options environment (behind_block {environment = before} stands kind at start body tokens items after resolved has short tokens_are items_are is) =
    let ready = stands_ready options before stands in
    let lexemes = lexemes_of body tokens in
    let lists = body_lists body start tokens items tokens_are (body-alike kind has body tokens items items_are) in
    subst (IsUsable options) (sym is.after_is)
    (ready_behind options before ready kind has is.state
    (goes_within options lexemes (first_state kind before) is.state items (first_within options before ready kind has) is.goes)
    (goes_buildable options lexemes (first_state kind before) is.state items (first_buildable options before ready kind has) is.goes)
    (goes_sound options lexemes (first_state kind before) is.state items (first_sound options before ready kind has) lists.0 lists.1 is.goes))

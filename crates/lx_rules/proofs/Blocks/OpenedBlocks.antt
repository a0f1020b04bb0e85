-- What is known before the items of a block.
use Rattle.std.proofs.Common.{◌≡◌, ℕ, ◌≤◌, true, List, [], ◌++◌, map, length, Option, None, Some, refl, sym, ap, ap₂, ◌∙◌, subst, arith, append-nil}
use Rattle.std.specs.Prelude.{All}
use Rattle.std.proofs.lemmas.List.Elements.{All-nil}
use Rattle.lx_base.specs.declared.blocks.BlockKind.{BlockKind}
use Rattle.lx_base.specs.declared.blocks.BlockKind.TheVariants.{Code, Rules, Use}
use Rattle.lx_base.specs.declared.places.Pos.{Pos}
use Rattle.lx_exprs.specs.FitDefinitions.{IsFitDefinition}
use Rattle.lx_exprs.specs.Seen.{definition_view, definitions_view}
use Rattle.lx_exprs.specs.declared.definitions.Definitions.{Definitions}
use Rattle.lx_rules.specs.declared.environment.Env.{Env}
use Rattle.lx_rules.specs.declared.environment.KeptBlock as code
use Rattle.lx_rules.specs.declared.environment.Settings as code_settings
use Rattle.lx_rules.specs.declared.items.Known.{Known}
use Rattle.lx_rules.specs.declared.resolved.Act.{Act}
use Rattle.lx_rules.specs.FitScanners.{IsShort, KeptFits}
use Rattle.lx_rules.specs.Seen.{kept_definitions, rules_view, settings_view}
use Rattle.std.specs.Global.{Global, Vec}
use Rattle.std.specs.declared.rc.Rc.{Rc}
use Rattle.lx_rules.specs.Blocks.{HasRules, of_scanners, of_use, opening_fault, to_keep}
use Rattle.lx_rules.specs.Conditions.{cond_names, kept_of}
use Rattle.lx_rules.specs.Environments.{Environment, KeptBlock, settings_over}
use Rattle.lx_rules.specs.Items.{state_behind}
use Rattle.lx_rules.specs.Keeping.{Holds}
use Rattle.lx_rules.specs.Kept.{AreKept, IsKeptRule, IsRunning, plain_under}
use Rattle.lx_rules.specs.declared.conditions.Standing.{Standing}
use Rattle.std.specs.List.{AllZip}
use Rattle.lx_rules.specs.Opening.{IsOpened, most_before}
use Rattle.lx_rules.specs.Represents.{MayBeKept, Represents}
use Rattle.lx_rules.specs.Rules.{RuleOf}
use Rattle.lx_rules.specs.declared.conditions.Conditions.{Conditions}
use Rattle.lx_rules.specs.declared.kept.KeptRule.{KeptRule}

pub most_before-le : (kind : BlockKind) → HasRules kind → most_before kind ≤ 16777216
most_before-le kind of_scanners = omega arith
most_before-le kind to_keep = omega arith
most_before-le kind of_use = omega arith

-- the same conditions are kept for the same rules
pub AreKept-copy : (rules : List RuleOf) (held : List KeptRule) (conditions copy : Conditions) → AreKept rules held conditions
    → cond_names copy ≡ cond_names conditions → ((cond : List ℕ) → kept_of copy cond ≡ kept_of conditions cond) → AreKept rules held copy
AreKept-copy rules held conditions copy are names same = record {
  names = names ∙ are.names;
  each = subst (λ l. AllZip (IsKeptRule l rules) held rules) (sym names) are.each;
  running = λ cond. subst (λ (k : Standing × List ℕ). IsRunning (plain_under cond rules) k.0.running) (sym (same cond)) (are.running cond);
  defaults = λ cond. ap (λ (k : Standing × List ℕ). k.0.first_default) (same cond) ∙ are.defaults cond;
  ends = λ cond. ap (λ (k : Standing × List ℕ). k.0.first_end) (same cond) ∙ are.ends cond;
  places = λ cond. ap (λ (k : Standing × List ℕ). k.1) (same cond) ∙ are.places cond;
}

-- what is known before the items of a block that uses a rules block
module _ (env : Env) (environment : Environment) (represents : Represents env environment) (held : code.KeptBlock) (is : env.kept ≡ Some held) (at : Pos)
    (own : Definitions) (settings : code_settings.Settings) (rules : Vec (Rc KeptRule Global)) (acts : Vec Act) (conds : Conditions) where
  abbrev opened : Known
  opened = record { before = env; is_use = true; own = own; settings = settings; rules = rules; acts = acts; conds = conds }

  pub used_opened : own.by_name.entries ≡ [] → settings_view settings ≡ settings_over (settings_view held.settings) (settings_view env.settings)
      → rules_view rules ≡ rules_view held.rules → acts.items ≡ held.acts.items → cond_names conds ≡ cond_names held.conds
      → ((cond : List ℕ) → kept_of conds cond ≡ kept_of held.conds cond)
      → (opening_fault Use at environment.kept ≡ None) × IsOpened Use environment opened
  used_opened none over same_rules same_acts names same = of environment.kept refl (subst (λ k. MayBeKept k environment.kept) is represents.kept)
    where
      of : (kept : Option KeptBlock) → environment.kept ≡ kept → MayBeKept (Some held) kept → (opening_fault Use at environment.kept ≡ None) × IsOpened Use environment opened
      of None e are = absurd are
      of (Some kept) e are = (
        ap (opening_fault Use at) e,
        record {
          holds =
              subst (λ k. Holds opened (state_behind k environment)) (sym e) (record {
                definitions =
                    ap₂ (λ front outer. front ++ (outer ++ definitions_view own)) (ap kept_definitions is ∙ are.definitions) represents.definitions
                    ∙ ap (λ entries. kept.definitions ++ (environment.definitions ++ map (λ entry. definition_view entry.0.items entry.1) entries)) none
                    ∙ ap (λ l. kept.definitions ++ l) (append-nil environment.definitions);
                settings = over ∙ ap₂ settings_over are.settings represents.settings;
                acts = same_acts ∙ are.acts;
                rules =
                    AreKept-copy kept.rules (rules_view rules) held.conds conds
                    (subst (λ l. AreKept kept.rules l held.conds) (sym same_rules) are.rules) names same;
                fit = (
                  subst KeptFits (sym is) are.fit,
                  represents.fit,
                  subst (All (λ entry. IsFitDefinition entry.1)) (sym none) (All-nil (λ entry. IsFitDefinition entry.1)),
                );
                short = subst (All (λ (act : Act). IsShort act.code)) (sym same_acts) are.short;
              });
          before = (represents, refl);
          few = let count = ap (λ (l : List Act). length l) same_acts in let most = are.few in omega (arith, count, most);
        },
      )

-- a block of rules that is neither kept nor uses one that is
pub scanners_kind : (kind : BlockKind) → HasRules kind → (kind ≡ Rules → ⊥) → (kind ≡ Use → ⊥) → kind ≡ Code
scanners_kind kind of_scanners other another = refl
scanners_kind kind to_keep other another = absurd (other refl)
scanners_kind kind of_use other another = absurd (another refl)

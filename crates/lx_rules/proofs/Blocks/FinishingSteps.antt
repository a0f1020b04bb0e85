-- What a block resolves to, by what is known behind its items.
use Rattle.std.proofs.Common.{◌≡◌, ℕ, suc, ◌≤◌, inl, inr, Bool, List, [], ◌∷◌, ◌++◌, arith, drop, map, length, Option, None, Some, Result, Ok, Err, MatchResult, refl, sym, ap, ap₂, ◌∙◌, subst}
use Rattle.std.specs.List.{AllByRecursion, AllZip}
use Rattle.std.specs.Option.{option_map, option_or}
use Rattle.std.specs.Prelude.{◌≢◌, All, is_some}
use Rattle.std.specs.declared.rc.Rc.{Rc}
use Rattle.std.specs.Global.{Global}
use Rattle.std.proofs.Math.Seq.{drop-append_seam}
use Rattle.lx_base.specs.declared.blocks.BlockKind.{BlockKind}
use Rattle.lx_base.specs.declared.blocks.BlockKind.TheVariants as block
use Rattle.lx_exprs.specs.Seen.{definitions_view}
use Rattle.std.proofs.lemmas.List.Elements.{All-from_recursion, All-nil}
use Rattle.std.proofs.lemmas.List.{length-map}
use Rattle.lx_base.specs.declared.faults.Fault.{Fault}
use Rattle.lx_base.specs.declared.settings.Format.{Format}
use Rattle.lx_base.specs.declared.faults.Fault.TheVariants.{BadValue, NoRules}
use Rattle.lx_base.specs.declared.faults.Stop.{Stop}
use Rattle.lx_base.specs.declared.faults.Stop.TheVariants as stop
use Rattle.lx_base.specs.declared.places.Pos.{Pos}
use Rattle.lx_base.specs.Names.{Spellings}
use Rattle.lx_regex.specs.declared.rules.Tag.{Tag}
use Rattle.lx_exprs.specs.Checks.{Check, Finds, StopsAt, Then}
use Rattle.lx_exprs.specs.Defined.{Definition, kept}
use Rattle.lx_exprs.proofs.Forms.ClassForms.{then-none}
use Rattle.lx_rules.specs.declared.items.Known.{Known}
use Rattle.lx_rules.specs.declared.kept.KeptRule.{KeptRule}
use Rattle.lx_rules.specs.declared.resolved.Act.{Act}
use Rattle.lx_rules.specs.declared.resolved.Resolved.{Resolved}
use Rattle.lx_rules.specs.declared.resolved.Scanner.{Scanner}
use Rattle.lx_rules.specs.Blocks.{BlockChecks, ClashCheck, HasRules, IsResolved, IsResolvedAs, LabelsDiffer, MayBeTag, NoClash, ScannerChecks, SpellingsDiffer, conditions_of, environment_behind, lonely_fault, no_rules_fault, of_scanners, of_use, scanners_fault, target_fault, targets_fault, to_keep}
use Rattle.lx_rules.specs.Conditions.{cond_names}
use Rattle.lx_rules.specs.Environments.{Environment, Settings, config_of}
use Rattle.lx_rules.specs.Finishing.{IsBuiltScanner, WholeChecks, env_keeping, env_left, kept_targets_fault}
use Rattle.lx_rules.specs.Items.{State}
use Rattle.lx_rules.specs.Keeping.{Holds}
use Rattle.lx_rules.specs.Kept.{IsKeptRule}
use Rattle.lx_rules.specs.Rules.{RuleOf}
use Rattle.lx_rules.specs.Seen.{rules_view, settings_view, used_definitions}
use Rattle.lx_rules.specs.FitScanners.{FitsLimits, IsFit, IsShort}
use Rattle.lx_rules.specs.Represents.{IsBefore, Represents}
use Rattle.lx_rules.proofs.Rules.RuleSteps.{acts_counted}
use Rattle.lx_rules.proofs.ScannerSets.CopiedScanners.{built_checked, built_fit, built_scanners}

-- what holds of rules that are shared
all_seen : (P : KeptRule → Type 0) (held : List (Rc KeptRule Global)) → AllByRecursion (λ (one : Rc KeptRule Global). P one.value) held
    → AllByRecursion P (map (λ one. one.value) held)
all_seen P [] all = tt
all_seen P (one ∷ held) all = (all.0, all_seen P held all.1)

all_shared : (P : KeptRule → Type 0) (held : List (Rc KeptRule Global)) → AllByRecursion P (map (λ one. one.value) held)
    → AllByRecursion (λ (one : Rc KeptRule Global). P one.value) held
all_shared P [] all = tt
all_shared P (one ∷ held) all = (all.0, all_shared P held all.1)

module _ (names : List (List ℕ)) (all : List RuleOf) where
  -- a trailing context is kept where there is one
  slash_same : (one : KeptRule) (rule : RuleOf) → IsKeptRule names all one rule → is_some one.slash ≡ is_some rule.slash
  slash_same one rule is = ap is_some is.slash ∙ of rule.slash
    where
      of : (slash : Option ℕ) → is_some (option_map kept slash) ≡ is_some slash
      of None = refl
      of (Some number) = refl

  -- a fact of the tags that are kept is one of those of the rules
  tags_forth : (P : Bool → List Tag → Type 0) (held : List KeptRule) (rules : List RuleOf) → AllZip (IsKeptRule names all) held rules
      → AllByRecursion (λ (one : KeptRule). P (is_some one.slash) one.tags) held → AllByRecursion (λ (rule : RuleOf). P (is_some rule.slash) rule.meaning.tags) rules
  tags_forth P [] [] are each = tt
  tags_forth P [] (rule ∷ rules) are each = absurd are
  tags_forth P (one ∷ held) [] are each = absurd are
  tags_forth P (one ∷ held) (rule ∷ rules) are each = (
    subst (λ b. P b rule.meaning.tags) (slash_same one rule are.0) (subst (P (is_some one.slash)) are.0.tags each.0),
    tags_forth P held rules are.1 each.1,
  )

  tags_back : (P : Bool → List Tag → Type 0) (held : List KeptRule) (rules : List RuleOf) → AllZip (IsKeptRule names all) held rules
      → AllByRecursion (λ (rule : RuleOf). P (is_some rule.slash) rule.meaning.tags) rules → AllByRecursion (λ (one : KeptRule). P (is_some one.slash) one.tags) held
  tags_back P [] [] are each = tt
  tags_back P [] (rule ∷ rules) are each = absurd are
  tags_back P (one ∷ held) [] are each = absurd are
  tags_back P (one ∷ held) (rule ∷ rules) are each = (
    subst (P (is_some one.slash)) (sym are.0.tags) (subst (λ b. P b rule.meaning.tags) (sym (slash_same one rule are.0)) each.0),
    tags_back P held rules are.1 each.1,
  )

  -- the targets that are kept are those of the rules
  targets_are : (conds : List (List ℕ)) (held : List KeptRule) (rules : List RuleOf) → AllZip (IsKeptRule names all) held rules
      → kept_targets_fault conds held (map (λ (rule : RuleOf). rule.act) rules) ≡ targets_fault rules conds
  targets_are conds [] [] are = refl
  targets_are conds [] (rule ∷ rules) are = absurd are
  targets_are conds (one ∷ held) [] are = absurd are
  targets_are conds (one ∷ held) (rule ∷ rules) are =
      ap₂ option_or (ap (λ (target : Option Pos). target_fault rule.act.goes target conds) are.0.target) (targets_are conds held rules are.1)

  rules_counted : (held : List KeptRule) (rules : List RuleOf) → AllZip (IsKeptRule names all) held rules → length rules ≡ length held
  rules_counted [] [] are = refl
  rules_counted [] (rule ∷ rules) are = absurd are
  rules_counted (one ∷ held) [] are = absurd are
  rules_counted (one ∷ held) (rule ∷ rules) are = ap suc (rules_counted held rules are.1)

module _ (custom : Bool) (format : Format) (at : Pos) (state : State) where
  abbrev Clash : Check
  Clash = ClashCheck custom format at (config_of state.settings).names state.rules

  abbrev Lonely : Check
  Lonely = Finds (lonely_fault at state.rules (conditions_of state.rules))

  abbrev Targets : Check
  Targets = Finds (targets_fault state.rules (conditions_of state.rules))

  abbrev Scanners : Check
  Scanners = Finds (scanners_fault at (config_of state.settings).eof state.rules (conditions_of state.rules))

  -- the fault of the block as a whole is the first one
  pub whole_stops : (fault : Fault) → WholeChecks custom format at state (Some fault) → ScannerChecks custom format at state (Some fault)
  whole_stops fault (inl (clash, inl (lonely, targets))) = inl (clash, inl (lonely, inr (fault, targets, refl)))
  whole_stops fault (inl (clash, inr found)) = inl (clash, inr found)
  whole_stops fault (inr found) = inr found

  -- where there is none, it is that of the scanners
  pub whole_passes : (next : Option Fault) → WholeChecks custom format at state None → Scanners next → ScannerChecks custom format at state next
  whole_passes next checked found =
      let one = then-none Clash (Then Lonely Targets) checked in
      let two = then-none Lonely Targets one.1 in
      inl (one.0, inl (two.0, inl (two.1, found)))

  scanners_stop : (stopped : Stop) → WholeChecks custom format at state None → StopsAt Scanners stopped → StopsAt (ScannerChecks custom format at state) stopped
  scanners_stop stop.Memory checked stops = tt
  scanners_stop (stop.Fault fault) checked stops = whole_passes (Some fault) checked stops

-- the scanners of a block as a whole whose checks find nothing
pub scanners_end : (named custom : Bool) (format : Format) (at : Pos) (state : State) (result : Result (List Scanner) Stop) → WholeChecks custom format at state None
    → MatchResult result (AllZip (IsBuiltScanner named at (config_of state.settings).eof state.rules) (conditions_of state.rules)) (StopsAt (Scanners custom format at state))
    → MatchResult result (λ scanners. WholeChecks custom format at state None × AllZip (IsBuiltScanner named at (config_of state.settings).eof state.rules) (conditions_of state.rules) scanners)
    (StopsAt (ScannerChecks custom format at state))
scanners_end named custom format at state (Ok scanners) checked built = (checked, built)
scanners_end named custom format at state (Err stopped) checked stops = scanners_stop custom format at state stopped checked stops

module _ (known : Known) (state : State) (holds : Holds known state) (custom : Bool) (format : Format) (at : Pos) (spelled : Spellings) (usually : spelled ≡ (config_of state.settings).names) where
  abbrev HaveNames : Type 0
  HaveNames =
      SpellingsDiffer custom format spelled
      × AllByRecursion (λ (one : Rc KeptRule Global). AllByRecursion (MayBeTag format spelled (is_some one.value.slash)) one.value.tags) known.rules.items
      × LabelsDiffer format spelled (cond_names known.conds)

  no_clash : HaveNames → NoClash custom format (config_of state.settings).names state.rules
  no_clash have =
      subst (λ (words : Spellings). NoClash custom format words state.rules) usually (
        have.0,
        tags_forth (cond_names known.conds) state.rules (λ has_slash tags. AllByRecursion (MayBeTag format spelled has_slash) tags) (rules_view known.rules) state.rules holds.rules.each
            (all_seen (λ (one : KeptRule). AllByRecursion (MayBeTag format spelled (is_some one.slash)) one.tags) known.rules.items have.1),
        subst (LabelsDiffer format spelled) holds.rules.names have.2,
      )

  -- names that clash
  pub whole_clash : (HaveNames → ⊥) → WholeChecks custom format at state (Some (BadValue at))
  whole_clash clash =
      inr (
        BadValue at,
        inr (
          (λ free.
              let plain = subst (λ (words : Spellings). NoClash custom format words state.rules) (sym usually) free in
              clash (
                plain.0,
                all_shared (λ (one : KeptRule). AllByRecursion (MayBeTag format spelled (is_some one.slash)) one.tags) known.rules.items
                    (tags_back (cond_names known.conds) state.rules (λ has_slash tags. AllByRecursion (MayBeTag format spelled has_slash) tags) (rules_view known.rules) state.rules holds.rules.each plain.1),
                subst (LabelsDiffer format spelled) (sym holds.rules.names) plain.2,
              )),
          refl,
        ),
        refl,
      )

  lonely_is : (found : Option Fault) → ((rules : List RuleOf) → length rules ≡ length (rules_view known.rules) → found ≡ lonely_fault at rules (cond_names known.conds))
      → found ≡ lonely_fault at state.rules (conditions_of state.rules)
  lonely_is found is =
      is state.rules (rules_counted (cond_names known.conds) state.rules (rules_view known.rules) state.rules holds.rules.each)
      ∙ ap (lonely_fault at state.rules) holds.rules.names

  -- rules that are all of `<*>`
  pub whole_lonely : HaveNames → (fault : Fault)
      → ((rules : List RuleOf) → length rules ≡ length (rules_view known.rules) → Some fault ≡ lonely_fault at rules (cond_names known.conds))
      → WholeChecks custom format at state (Some fault)
  whole_lonely have fault is = inl (inl (no_clash have, refl), inr (fault, lonely_is (Some fault) is, refl))

  -- and targets
  pub whole_targets : HaveNames → (found : Option Fault)
      → ((rules : List RuleOf) → length rules ≡ length (rules_view known.rules) → None ≡ lonely_fault at rules (cond_names known.conds))
      → found ≡ kept_targets_fault (cond_names known.conds) (rules_view known.rules) known.acts.items → WholeChecks custom format at state found
  whole_targets have found none targets =
      inl (
        inl (no_clash have, refl),
        inl (
          lonely_is None none,
          targets ∙ ap₂ (λ l (acts : List Act). kept_targets_fault l (rules_view known.rules) acts) holds.rules.names holds.acts
              ∙ targets_are (cond_names known.conds) state.rules (conditions_of state.rules) (rules_view known.rules) state.rules holds.rules.each,
        ),
      )

module _ (known : Known) (state : State) (holds : Holds known state) where
  -- the configuration that is known
  pub config_known : config_of (settings_view known.settings) ≡ config_of state.settings
  config_known = ap config_of holds.settings

  module _ (named custom : Bool) (format : Format) (at : Pos) (resolved : Resolved) (config : resolved.config ≡ config_of (settings_view known.settings)) where
    -- what the scanners of a block resolve to
    pub scanners_finished :
        resolved.acts ≡ known.acts.items → length known.acts.items ≤ 33554432 → WholeChecks custom format at state None
        → AllZip (IsBuiltScanner named at (config_of state.settings).eof state.rules) (conditions_of state.rules) resolved.scanners
        → ScannerChecks custom format at state None × IsResolved named state resolved × FitsLimits resolved
    scanners_finished acts few checked built =
        let conds = conditions_of state.rules in
        let counted : length resolved.acts ≡ length state.rules = ap (λ (l : List Act). length l) acts ∙ acts_counted known state holds in (
          whole_passes custom format at state None checked (sym (built_checked named at (config_of state.settings).eof state.rules conds resolved.scanners built)),
          record {
            scanners = built_scanners named at (config_of state.settings).eof state.rules conds resolved.scanners built;
            acts = acts ∙ holds.acts;
            config = config ∙ config_known;
          },
          record {
            scanners =
                All-from_recursion (IsFit (length resolved.acts)) resolved.scanners
                (subst (λ n. AllByRecursion (IsFit n) resolved.scanners) (sym counted) (built_fit named at (config_of state.settings).eof state.rules conds resolved.scanners built));
            acts = rw (acts) holds.short;
            few = rw (acts) few;
          },
        )

  module _ (environment : Environment) where
    -- what holds behind a block of scanners
    pub left_represents : (kind : BlockKind) → HasRules kind → kind ≢ block.Rules → IsBefore kind environment known.before known.is_use
        → Represents (env_left known.before known.is_use known.own known.settings) (environment_behind kind environment state)
    left_represents kind of_scanners other is =
        rw (is.2) (record {
          definitions = sym (ap₂ (λ (is_use : Bool) (outer : List Definition). used_definitions is_use known.before ++ (outer ++ definitions_view known.own)) is.2 is.0) ∙ holds.definitions;
          settings = holds.settings;
          kept = is.1;
          fit = holds.fit.2;
        })
    left_represents kind to_keep other is = absurd (other refl)
    left_represents kind of_use other is = rw (is.1) is.0

    -- what holds behind a rules block
    pub keeping_represents : length known.acts.items ≤ 16777216 → IsBefore block.Rules environment known.before known.is_use
        → Represents (env_keeping known) (environment_behind block.Rules environment state)
    keeping_represents few is = record {
      definitions = is.0.definitions;
      settings = is.0.settings;
      kept = record {
        definitions = sym own_behind;
        settings = holds.settings;
        acts = holds.acts;
        rules = holds.rules;
        fit = holds.fit.2;
        short = holds.short;
        few = few;
      };
      fit = is.0.fit;
    }
      where
        seen : state.definitions ≡ environment.definitions ++ definitions_view known.own
        seen =
            sym holds.definitions
            ∙ ap₂ (λ (is_use : Bool) (outer : List Definition). used_definitions is_use known.before ++ (outer ++ definitions_view known.own)) is.1 is.0.definitions

        own_behind : drop (length environment.definitions) state.definitions ≡ definitions_view known.own
        own_behind = ap (drop (length environment.definitions)) seen ∙ drop-append_seam environment.definitions (definitions_view known.own)

-- a rules block without rules is refused
module _ (known : Known) (state : State) (holds : Holds known state) (at : Pos) where
  counted_rules : length state.rules ≡ length known.rules.items
  counted_rules =
      rules_counted (cond_names known.conds) state.rules (rules_view known.rules) state.rules holds.rules.each
      ∙ length-map known.rules.items (λ (one : Rc KeptRule Global). one.value)

  no_rules : (rules : List RuleOf) → length rules ≡ 0 → no_rules_fault at rules ≡ Some (NoRules at)
  no_rules [] none = refl
  no_rules (rule ∷ rules) none = let h : suc (length rules) ≡ 0 = none in absurd (omega (arith, h))

  some_rules : (rules : List RuleOf) → (length rules ≡ 0 → ⊥) → no_rules_fault at rules ≡ None
  some_rules [] some = absurd (some refl)
  some_rules (rule ∷ rules) some = refl

  pub rules_refused : length known.rules.items ≡ 0 → Finds (no_rules_fault at state.rules) (Some (NoRules at))
  rules_refused none = sym (no_rules state.rules (counted_rules ∙ none))

  -- and with rules it resolves to its configuration
  pub rules_finished : (resolved : Resolved) → (length known.rules.items ≡ 0 → ⊥) → resolved.scanners ≡ [] → resolved.acts ≡ []
      → resolved.config ≡ config_of (settings_view known.settings)
      → (no_rules_fault at state.rules ≡ None) × ((named : Bool) → IsResolvedAs block.Rules named state resolved) × FitsLimits resolved
  rules_finished resolved some scanners acts config = (
    some_rules state.rules (λ none. some (sym counted_rules ∙ none)),
    (λ named. (scanners, acts, config ∙ config_known known state holds)),
    record {
      scanners = subst (All (IsFit (length resolved.acts))) (sym scanners) (All-nil (IsFit (length resolved.acts)));
      acts = subst (All (λ (act : Act). IsShort act.code)) (sym acts) (All-nil (λ (act : Act). IsShort act.code));
      few = rw (acts) (omega arith);
    },
  )

-- the checks behind the items of a block that is not kept are those of its scanners, and so is what it resolves to
module _ (kind : BlockKind) (has : HasRules kind) (other : kind ≢ block.Rules) where
  pub scanners_checks : (custom : Bool) (format : Format) (at : Pos) (state : State) (fault : Option Fault) → ScannerChecks custom format at state fault → BlockChecks custom format kind at state fault
  scanners_checks custom format at state fault found = of kind has other
    where
      of : (k : BlockKind) → HasRules k → k ≢ block.Rules → BlockChecks custom format k at state fault
      of k of_scanners differs = found
      of k to_keep differs = absurd (differs refl)
      of k of_use differs = found

  pub scanners_stops : (custom : Bool) (format : Format) (at : Pos) (state : State) (stopped : Stop) → StopsAt (ScannerChecks custom format at state) stopped
      → StopsAt (BlockChecks custom format kind at state) stopped
  scanners_stops custom format at state stop.Memory stops = tt
  scanners_stops custom format at state (stop.Fault fault) stops = scanners_checks custom format at state (Some fault) stops

  pub scanners_as : (named : Bool) (state : State) (resolved : Resolved) → IsResolved named state resolved → IsResolvedAs kind named state resolved
  scanners_as named state resolved is = of kind has other
    where
      of : (k : BlockKind) → HasRules k → k ≢ block.Rules → IsResolvedAs k named state resolved
      of k of_scanners differs = is
      of k to_keep differs = absurd (differs refl)
      of k of_use differs = is

-- the code unit at the end that is known
pub eof_known : (known : Known) (state : State) → Holds known state → (config_of (settings_view known.settings)).eof ≡ (config_of state.settings).eof
eof_known known state holds = ap (λ (settings : Settings). (config_of settings).eof) holds.settings

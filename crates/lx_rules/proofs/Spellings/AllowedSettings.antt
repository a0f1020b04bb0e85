-- The configurations of a block are ones that a scanner may have.
use Rattle.std.proofs.Common.{◌≡◌, ℕ, zero, suc, ◌+◌, ◌<◌, ◌≤◌, Bool, true, false, inl, inr, List, [], ◌∷◌, length, get_or, Option, None, Some, Result, Ok, refl, sym, ap, subst, arith}
use Rattle.std.specs.Prelude.{◌==◌, ◌&&◌, if◌then◌else◌, IfSome, nat_le, not, unwrap_or}
use Rattle.std.specs.Option.{option_map, option_or}
use Rattle.lx_base.specs.Allowed.{is_identifier, is_spelling, may_spell}
use Rattle.lx_base.specs.Letters.{IsIdentifier, IsSpelling}
use Rattle.lx_base.specs.Names.{AreAllowed, EachIsShort, Spellings, usual_names}
use Rattle.lx_base.specs.Spelling.{greatest_unit}
use Rattle.lx_base.specs.declared.blocks.BlockKind.{BlockKind}
use Rattle.lx_base.specs.declared.blocks.BlockKind.TheVariants as block
use Rattle.lx_base.specs.declared.faults.Fault.{Fault}
use Rattle.lx_base.specs.declared.places.Pos.{Pos}
use Rattle.lx_base.specs.declared.settings.Enc.{Enc}
use Rattle.lx_base.specs.declared.settings.Options.{Options}
use Rattle.lx_base.proofs.Allowed.{is_identifier-decides, is_spelling-decides, is_words-decides}
use Rattle.lx_exprs.proofs.Forms.ClassForms.{then-none}
use Rattle.lx_exprs.specs.Checks.{Check, Finds, Then}
use Rattle.lx_forms.specs.Lexemes.{Lexeme, lexemes_of, nth_lexeme}
use Rattle.lx_parse.specs.declared.items.Item.{Item}
use Rattle.lx_parse.specs.declared.items.Item.TheVariants.{Define, Configure, Rule, Text}
use Rattle.lx_base.specs.declared.settings.Format.{Format}
use Rattle.lx_rules.specs.Blocks.{BlockChecks, ClashCheck, HasRules, IsResolvedAs, NoClash, Resolves, ScannerChecks, SpellingsDiffer, StandsUnder, before_all, behind_block, conditions_of, environment_behind, lonely_fault, of_scanners, of_use, scanners_fault, targets_fault, to_keep}
use Rattle.lx_rules.specs.Configurations.{config_kind, eof_number, eof_of, setting_in, said, spelling_of, switch_of}
use Rattle.lx_rules.specs.Environments.{Environment, KeptBlock, Settings, config_of, first_environment, names_over, settings_over, spelled, with_name, with_setting}
use Rattle.lx_rules.specs.Items.{Goes, IsAfter, State, ends, first_state, next, refused, state_behind}
use Rattle.lx_rules.specs.Allowed.{AreNamesAllowed, AreSettingsAllowed, HasAllowedSettings, IsUnitAtEnd}
use Rattle.lx_rules.specs.declared.configurations.ConfigKind.{ConfigKind}
use Rattle.lx_rules.specs.declared.configurations.ConfigKind.TheVariants as config
use Rattle.lx_rules.specs.declared.environment.Setting.{Setting}
use Rattle.lx_rules.specs.declared.environment.Setting.TheVariants as set
use Rattle.lx_rules.specs.declared.resolved.Config.{Config}
use Rattle.lx_rules.specs.declared.resolved.Resolved.{Resolved}
use Rattle.lx_rules.proofs.Rules.RuleItems.{text_short}
use Rattle.lx_rules.proofs.Spellings.SaidTexts.{said-length}
use Rattle.lx_token.specs.Numbers.{number_of}
use Rattle.lx_token.specs.declared.kinds.TokenKind.{TokenKind}
use Rattle.lx_token.specs.declared.kinds.TokenKind.TheVariants as token
use Rattle.lx_token.specs.declared.list.Token.{Token}
use Rattle.lx_token.specs.declared.numbers.Number.{Number}

-- ---- what is set

-- one name more is set
with_name-allowed : (start : ℕ) (names : List (Option (List ℕ))) (place : ℕ) (word : List ℕ) → may_spell (start + place) word ≡ true
    → length word ≤ 16777216 → AreNamesAllowed start names → AreNamesAllowed start (with_name names place word)
with_name-allowed start [] zero word may short are =
    let here : start + 0 ≡ start = omega arith in (subst (λ n. may_spell n word ≡ true) here may, short, tt)
with_name-allowed start [] (suc place) word may short are =
    let there : start + suc place ≡ suc start + place = omega arith in
    with_name-allowed (suc start) [] place word (subst (λ n. may_spell n word ≡ true) there may) short tt
with_name-allowed start (None ∷ names) zero word may short are =
    let here : start + 0 ≡ start = omega arith in (subst (λ n. may_spell n word ≡ true) here may, short, are)
with_name-allowed start (Some other ∷ names) zero word may short are =
    let here : start + 0 ≡ start = omega arith in (subst (λ n. may_spell n word ≡ true) here may, short, are.2)
with_name-allowed start (None ∷ names) (suc place) word may short are =
    let there : start + suc place ≡ suc start + place = omega arith in
    with_name-allowed (suc start) names place word (subst (λ n. may_spell n word ≡ true) there may) short are
with_name-allowed start (Some other ∷ names) (suc place) word may short are =
    let there : start + suc place ≡ suc start + place = omega arith in
    (are.0, are.1, with_name-allowed (suc start) names place word (subst (λ n. may_spell n word ≡ true) there may) short are.2)

-- names are set over others
names_over-allowed : (start : ℕ) (here there : List (Option (List ℕ))) → AreNamesAllowed start here → AreNamesAllowed start there
    → AreNamesAllowed start (names_over here there)
names_over-allowed start [] there own other = other
names_over-allowed start (name ∷ here) [] own other = own
names_over-allowed start (None ∷ here) (None ∷ there) own other = names_over-allowed (suc start) here there own other
names_over-allowed start (None ∷ here) (Some word ∷ there) own other = (other.0, other.1, names_over-allowed (suc start) here there own other.2)
names_over-allowed start (Some word ∷ here) (None ∷ there) own other = (own.0, own.1, names_over-allowed (suc start) here there own.2 other)
names_over-allowed start (Some word ∷ here) (Some later ∷ there) own other =
    (own.0, own.1, names_over-allowed (suc start) here there own.2 other.2)

-- ---- what a configuration sets

-- a spelling that is set may be had, and is no longer than a source; and the code unit at the end is one of the encoding
abbrev IsAllowedSetting : Enc → Setting → Type 0
IsAllowedSetting enc (set.Spelling place word) = (may_spell place word ≡ true) × (length word ≤ 16777216)
IsAllowedSetting enc (set.Eof unit) = IsUnitAtEnd enc unit
IsAllowedSetting enc (set.Fill is_enabled) = Unit {0}
IsAllowedSetting enc set.Nothing = Unit {0}

module _ (enc : Enc) where
  with_setting-allowed : (settings : Settings) (setting : Setting) → IsAllowedSetting enc setting → AreSettingsAllowed enc settings
      → AreSettingsAllowed enc (with_setting settings setting)
  with_setting-allowed settings (set.Spelling place word) is are =
      let here : place ≡ 0 + place = omega arith in
      (with_name-allowed 0 settings.names place word (subst (λ n. may_spell n word ≡ true) here is.0) is.1 are.0, are.1)
  with_setting-allowed settings (set.Eof unit) is are = (are.0, is)
  with_setting-allowed settings (set.Fill is_enabled) is are = are
  with_setting-allowed settings set.Nothing is are = are

  spelling_of-allowed : (place : ℕ) (value : Lexeme) (setting : Setting) → length value.text ≤ 16777216 → spelling_of place value ≡ Some setting
      → IsAllowedSetting enc setting
  spelling_of-allowed place value setting short is = by (may_spell place (said value)) refl is
    where
      by : (may : Bool) → may_spell place (said value) ≡ may
          → (if◌then◌else◌ {A = Option Setting} may (Some (set.Spelling place (said value))) None) ≡ Some setting → IsAllowedSetting enc setting
      by true may found =
          let same : set.Spelling place (said value) ≡ setting = cc in
          let le = said-length value in subst (IsAllowedSetting enc) same (may, omega (arith, le, short))
      by false may found = absurd (let h : None ≡ Some setting = found in cc)

  -- a number that is taken for a code unit is one of the encoding
  eof_number-within : (number : Number) (unit : Option ℕ) → eof_number enc number ≡ Some unit → IsUnitAtEnd enc unit
  eof_number-within number unit is =
      by (number.is_negative && (number.magnitude == 1)) (number.is_negative && not (number.magnitude == 0))
      (nat_le number.magnitude (greatest_unit enc)) refl is
    where
      by : (none below within : Bool) → nat_le number.magnitude (greatest_unit enc) ≡ within
          → (if◌then◌else◌ {A = Option (Option ℕ)} none (Some None)
          (if◌then◌else◌ {A = Option (Option ℕ)} below None (if◌then◌else◌ {A = Option (Option ℕ)} within (Some (Some number.magnitude)) None)))
          ≡ Some unit → IsUnitAtEnd enc unit
      by true below within e found = let same : None ≡ unit = cc in subst (IsUnitAtEnd enc) same tt
      by false true within e found = absurd (let h : None ≡ Some unit = found in cc)
      by false false true e found =
          let same : Some number.magnitude ≡ unit = cc in
          let le : number.magnitude ≤ greatest_unit enc = search (arith, e) in subst (IsUnitAtEnd enc) same le
      by false false false e found = absurd (let h : None ≡ Some unit = found in cc)

  eof_of-within : (token : TokenKind) (text : List ℕ) (unit : Option ℕ) → eof_of enc token text ≡ Some unit → IsUnitAtEnd enc unit
  eof_of-within token.Number text unit is = eof_number-within (number_of text) unit is
  eof_of-within token text unit is = absurd (let h : None ≡ Some unit = is in cc)

  eof-allowed : (found : Option (Option ℕ)) (setting : Setting) → ((unit : Option ℕ) → found ≡ Some unit → IsUnitAtEnd enc unit)
      → option_map (λ unit. set.Eof unit) found ≡ Some setting → IsAllowedSetting enc setting
  eof-allowed None setting within is = absurd (let h : None ≡ Some setting = is in cc)
  eof-allowed (Some unit) setting within is = let same : set.Eof unit ≡ setting = cc in subst (IsAllowedSetting enc) same (within unit refl)

  fill-allowed : (found : Option Bool) (setting : Setting) → option_map (λ is_enabled. set.Fill is_enabled) found ≡ Some setting
      → IsAllowedSetting enc setting
  fill-allowed None setting is = absurd (let h : None ≡ Some setting = is in cc)
  fill-allowed (Some is_enabled) setting is = let same : set.Fill is_enabled ≡ setting = cc in subst (IsAllowedSetting enc) same tt

  setting_in-allowed : (kind : Option ConfigKind) (value : Lexeme) (setting : Setting) → length value.text ≤ 16777216
      → setting_in enc kind value ≡ Some setting → IsAllowedSetting enc setting
  setting_in-allowed None value setting short is = absurd (let h : None ≡ Some setting = is in cc)
  setting_in-allowed (Some (config.Spelling place)) value setting short is = spelling_of-allowed place value setting short is
  setting_in-allowed (Some config.Eof) value setting short is =
      eof-allowed (eof_of enc value.kind value.text) setting (eof_of-within value.kind value.text) is
  setting_in-allowed (Some config.Fill) value setting short is = fill-allowed (switch_of value.kind value.text) setting is
  setting_in-allowed (Some config.Idle) value setting short is =
      let same : set.Nothing ≡ setting = let h : Some set.Nothing ≡ Some setting = is in cc in subst (IsAllowedSetting enc) same tt

-- what is set over others
over-allowed : (enc : Enc) (here there : Settings) → AreSettingsAllowed enc here → AreSettingsAllowed enc there
    → AreSettingsAllowed enc (settings_over here there)
over-allowed enc here there own other = (names_over-allowed 0 here.names there.names own.0 other.0, of here.eof own.1)
  where
    of : (eof : Option (Option ℕ)) → IfSome eof (IsUnitAtEnd enc) → IfSome (option_or eof there.eof) (IsUnitAtEnd enc)
    of None is = other.1
    of (Some unit) is = is

-- ---- the items of a block

module _ (options : Options) (body : List ℕ) (tokens : List Token) (short : length body ≤ 16777216) where
  after-allowed : (state : State) (item : Item) (after : State) → IsAfter options (lexemes_of body tokens) state item after
      → AreSettingsAllowed options.enc state.settings → AreSettingsAllowed options.enc after.settings
  after-allowed state (Define name from until) after is are = subst (λ (s : State). AreSettingsAllowed options.enc s.settings) (sym is.6) are
  after-allowed state (Configure name value) after is are =
      let lexemes = lexemes_of body tokens in
      let le = text_short body tokens value in
      let allowed = setting_in-allowed options.enc (config_kind (nth_lexeme lexemes name).text) (nth_lexeme lexemes value) is.0 (omega (arith, le, short)) is.1 in
      subst (λ (s : State). AreSettingsAllowed options.enc s.settings) (sym is.2) (with_setting-allowed options.enc state.settings is.0 allowed are)
  after-allowed state (Rule first head slash until goes code) after is are =
      subst (λ (s : State). AreSettingsAllowed options.enc s.settings) (sym is.3) are
  after-allowed state (Text value) after is are = subst (λ (s : State). AreSettingsAllowed options.enc s.settings) (sym is) are

  goes-allowed : {state : State} {items : List Item} {result : Result State Fault} → Goes options (lexemes_of body tokens) state items result
      → (last : State) → result ≡ Ok last → AreSettingsAllowed options.enc state.settings → AreSettingsAllowed options.enc last.settings
  goes-allowed (ends {state = state}) last is are =
      let same : state ≡ last = cc in subst (λ (s : State). AreSettingsAllowed options.enc s.settings) same are
  goes-allowed (refused fault checks) last is are = absurd cc
  goes-allowed (next {state = state} {item = item} after checks becomes goes) last is are =
      goes-allowed goes last is (after-allowed state item after becomes are)

-- ---- what is known before a block, and what holds behind it

module _ (enc : Enc) where
  behind-allowed : (kept : Option KeptBlock) (environment : Environment) → AreSettingsAllowed enc environment.settings
      → IfSome kept (λ (held : KeptBlock). AreSettingsAllowed enc held.settings) → AreSettingsAllowed enc (state_behind kept environment).settings
  behind-allowed None environment own used = own
  behind-allowed (Some held) environment own used = over-allowed enc held.settings environment.settings used own

  first-allowed : (kind : BlockKind) (environment : Environment) → HasAllowedSettings enc environment
      → AreSettingsAllowed enc (first_state kind environment).settings
  first-allowed block.Rules environment has = (tt, tt)
  first-allowed block.Use environment has = behind-allowed environment.kept environment has.own has.kept
  first-allowed kind environment has = has.own

  environment-allowed : (kind : BlockKind) (environment : Environment) (state : State) → HasAllowedSettings enc environment
      → AreSettingsAllowed enc state.settings → HasAllowedSettings enc (environment_behind kind environment state)
  environment-allowed block.Rules environment state has are = record { own = has.own; kept = are }
  environment-allowed block.Use environment state has are = has
  environment-allowed kind environment state has are = record { own = are; kept = has.kept }

-- ---- the seventeen spellings

-- each of the spellings is one that the name at its place, from this one on, may have; and it is no longer than a source
abbrev EachMaySpell : (place : ℕ) → Spellings → Type 0
EachMaySpell place [] = Unit {0}
EachMaySpell place (word ∷ words) = (may_spell place word ≡ true) × (length word ≤ 16777216) × EachMaySpell (suc place) words

usual-may : EachMaySpell 0 usual_names
usual-may = (
  refl,
  omega arith,
  (
    refl,
    omega arith,
    (
      refl,
      omega arith,
      (
        refl,
        omega arith,
        (
          refl,
          omega arith,
          (
            refl,
            omega arith,
            (
              refl,
              omega arith,
              (
                refl,
                omega arith,
                (
                  refl,
                  omega arith,
                  (
                    refl,
                    omega arith,
                    (
                      refl,
                      omega arith,
                      (
                        refl,
                        omega arith,
                        (
                          refl,
                          omega arith,
                          (
                            refl,
                            omega arith,
                            (refl, omega arith, (refl, omega arith, (refl, omega arith, tt))),
                          ),
                        ),
                      ),
                    ),
                  ),
                ),
              ),
            ),
          ),
        ),
      ),
    ),
  ),
)

spelled-may : (place : ℕ) (names : List (Option (List ℕ))) (usual : Spellings) → AreNamesAllowed place names → EachMaySpell place usual
    → EachMaySpell place (spelled names usual)
spelled-may place [] usual are may = may
spelled-may place (name ∷ names) [] are may = tt
spelled-may place (None ∷ names) (word ∷ usual) are may = (may.0, may.1, spelled-may (suc place) names usual are may.2)
spelled-may place (Some other ∷ names) (word ∷ usual) are may = (are.0, are.1, spelled-may (suc place) names usual are.2 may.2)

spelled-length : (names : List (Option (List ℕ))) (usual : Spellings) → length (spelled names usual) ≡ length usual
spelled-length [] usual = refl
spelled-length (name ∷ names) [] = refl
spelled-length (name ∷ names) (word ∷ usual) = ap suc (spelled-length names usual)

may_at : (start : ℕ) (words : Spellings) (place : ℕ) → EachMaySpell start words → place < length words
    → may_spell (start + place) (get_or words place []) ≡ true
may_at start [] place may within = absurd (omega (arith, within))
may_at start (word ∷ words) zero may within = let here : start ≡ start + 0 = omega arith in subst (λ n. may_spell n word ≡ true) here may.0
may_at start (word ∷ words) (suc place) may within =
    let there : suc start + place ≡ start + suc place = omega arith in
    subst (λ n. may_spell n (get_or words place []) ≡ true) there (may_at (suc start) words place may.2 (omega (arith, within)))

may-short : (place : ℕ) (words : Spellings) → EachMaySpell place words → EachIsShort words
may-short place [] may = tt
may-short place (word ∷ words) may = let le = may.1 in (omega (arith, le), may-short (suc place) words may.2)

-- spellings that their names may have are allowed
all-allowed : (words : Spellings) → length words ≡ 17 → EachMaySpell 0 words → AreAllowed words
all-allowed words count may = record {
  count = count;
  each_is_short = may-short 0 words may;
  unit_type = (is_words-decides true (get_or words 0 [])).0 (may_at 0 words 0 may (omega (arith, count)));
  cursor = spells 1 (may_at 0 words 1 may (omega (arith, count)));
  limit = spells 2 (may_at 0 words 2 may (omega (arith, count)));
  marker = spells 3 (may_at 0 words 3 may (omega (arith, count)));
  context_marker = spells 4 (may_at 0 words 4 may (omega (arith, count)));
  refill = spells 5 (may_at 0 words 5 may (omega (arith, count)));
  get_state = spells 6 (may_at 0 words 6 may (omega (arith, count)));
  set_state = spells 7 (may_at 0 words 7 may (omega (arith, count)));
  get_condition = spells 8 (may_at 0 words 8 may (omega (arith, count)));
  set_condition = spells 9 (may_at 0 words 9 may (omega (arith, count)));
  append_offset = spells 10 (may_at 0 words 10 may (omega (arith, count)));
  append_negative = spells 11 (may_at 0 words 11 may (omega (arith, count)));
  current_unit = identifies 12 (may_at 0 words 12 may (omega (arith, count)));
  last_accept = identifies 13 (may_at 0 words 13 may (omega (arith, count)));
  tag_prefix = identifies 14 (may_at 0 words 14 may (omega (arith, count)));
  label_prefix = identifies 15 (may_at 0 words 15 may (omega (arith, count)));
  condition_prefix = identifies 16 (may_at 0 words 16 may (omega (arith, count)));
}
  where
    spells : (place : ℕ) → is_spelling (get_or words place []) ≡ true → IsSpelling (get_or words place [])
    spells place is = (is_spelling-decides (get_or words place [])).0 is

    identifies : (place : ℕ) → is_identifier (get_or words place []) ≡ true → IsIdentifier (get_or words place [])
    identifies place is = (is_identifier-decides (get_or words place [])).0 is

-- the spellings of a configuration are allowed where those that are set are
pub config-allowed : (settings : Settings) → AreNamesAllowed 0 settings.names → AreAllowed (config_of settings).names
config-allowed settings are =
    all-allowed (spelled settings.names usual_names) (spelled-length settings.names usual_names)
    (spelled-may 0 settings.names usual_names are usual-may)

-- ---- the checks behind the items

-- no name clashes
pub no_clash : (custom : Bool) (format : Format) (at : Pos) (state : State) → ScannerChecks custom format at state None → NoClash custom format (config_of state.settings).names state.rules
no_clash custom format at state checked =
    let Scanners : Check = Finds (scanners_fault at (config_of state.settings).eof state.rules (conditions_of state.rules)) in
    let Targets : Check = Finds (targets_fault state.rules (conditions_of state.rules)) in
    let Lonely : Check = Finds (lonely_fault at state.rules (conditions_of state.rules)) in
    elim (then-none (ClashCheck custom format at (config_of state.settings).names state.rules) (Then Lonely (Then Targets Scanners)) checked).0 [
      | inl free ↦ free.0
      | inr clash ↦ absurd (let h = clash.1 in cc)
    ]

pub scanner_checks : (kind : BlockKind) → HasRules kind → (custom : Bool) (format : Format) (at : Pos) (state : State) → (kind ≡ block.Rules → ⊥)
    → BlockChecks custom format kind at state None → ScannerChecks custom format at state None
scanner_checks kind of_scanners custom format at state other checked = checked
scanner_checks kind to_keep custom format at state other checked = absurd (other refl)
scanner_checks kind of_use custom format at state other checked = checked

-- ---- blocks

-- a block resolves to the configuration that is known behind its items
resolved-config : (kind : BlockKind) → HasRules kind → (named : Bool) (state : State) (resolved : Resolved) → IsResolvedAs kind named state resolved
    → resolved.config ≡ config_of state.settings
resolved-config kind of_scanners named state resolved is = is.config
resolved-config kind to_keep named state resolved is = is.2
resolved-config kind of_use named state resolved is = is.config

first-settings : (enc : Enc) → HasAllowedSettings enc first_environment
first-settings enc = record { own = (tt, tt); kept = tt }

-- the code unit that is set at the end, or none
unit_set : (enc : Enc) (eof : Option (Option ℕ)) → IfSome eof (IsUnitAtEnd enc) → IsUnitAtEnd enc (unwrap_or eof None)
unit_set enc None is = tt
unit_set enc (Some unit) is = is

module _ (options : Options) (kind : BlockKind) (rules : HasRules kind) (at : Pos) (environment after : Environment) (body : List ℕ) (tokens : List Token)
    (items : List Item) (resolved : Resolved) (short : length body ≤ 16777216) (has : HasAllowedSettings options.enc environment)
    (is : Resolves options kind at environment (lexemes_of body tokens) items after resolved) where
  state-settings : AreSettingsAllowed options.enc is.state.settings
  state-settings = goes-allowed options body tokens short is.goes is.state refl (first-allowed options.enc kind environment has)

  after-settings : HasAllowedSettings options.enc after
  after-settings = subst (HasAllowedSettings options.enc) (sym is.after_is) (environment-allowed options.enc kind environment is.state has state-settings)

  config_is : resolved.config ≡ config_of is.state.settings
  config_is = resolved-config kind rules options.conds is.state resolved is.ends

  pub resolved-spelled : AreAllowed resolved.config.names
  resolved-spelled =
      subst (λ (config : Config). AreAllowed config.names) (sym config_is) (config-allowed is.state.settings state-settings.0)

  pub resolved-eof : IsUnitAtEnd options.enc resolved.config.eof
  resolved-eof =
      subst (λ (config : Config). IsUnitAtEnd options.enc config.eof) (sym config_is) (unit_set options.enc is.state.settings.eof state-settings.1)

-- what stands under options sets what is allowed
pub stands-settings : (options : Options) (environment : Environment) → StandsUnder options environment → HasAllowedSettings options.enc environment
stands-settings options environment before_all = first-settings options.enc
stands-settings options environment (behind_block {environment = before} stands kind at start body tokens items after resolved has short tokens_are items_are is) =
    after-settings options kind has at before after body tokens items resolved short (stands-settings options before stands) is

-- the spellings of a block with scanners differ
pub resolved-differ : (options : Options) (kind : BlockKind) → HasRules kind → (at : Pos) (environment after : Environment) (lexemes : List Lexeme) (items : List Item)
    (resolved : Resolved) → (kind ≡ block.Rules → ⊥) → Resolves options kind at environment lexemes items after resolved
    → SpellingsDiffer options.custom options.format resolved.config.names
resolved-differ options kind has at environment after lexemes items resolved other is =
    subst (λ (config : Config). SpellingsDiffer options.custom options.format config.names) (sym (resolved-config kind has options.conds is.state resolved is.ends))
    (no_clash options.custom options.format at is.state (scanner_checks kind has options.custom options.format at is.state other is.checked)).0

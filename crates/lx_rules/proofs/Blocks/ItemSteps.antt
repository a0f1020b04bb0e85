-- What is known behind an item.
use Rattle.std.proofs.Common.{◌≡◌, ℕ, inl, Bool, true, false, List, [], ◌∷◌, ◌++◌, None, Some, refl, sym, ap, ◌∙◌, subst}
use Rattle.std.specs.Option.{option_map}
use Rattle.std.specs.Prelude.{if◌then◌else◌}
use Rattle.std.specs.Str.{bytes_eq}
use Rattle.std.proofs.lemmas.List.{append_assoc}
use Rattle.lx_base.specs.declared.faults.Stop.{Stop}
use Rattle.lx_base.specs.declared.faults.Stop.TheVariants as stop
use Rattle.lx_base.specs.declared.settings.Options.{Options}
use Rattle.lx_parse.specs.declared.items.Item.TheVariants.{Define, Configure}
use Rattle.lx_exprs.specs.declared.definitions.Definitions.{Definitions}
use Rattle.lx_exprs.specs.declared.definitions.Kept.{Kept}
use Rattle.lx_exprs.specs.FitDefinitions.{DefinitionsFit}
use Rattle.lx_exprs.specs.declared.expressions.Reading.{Reading}
use Rattle.lx_rules.specs.declared.items.Known.{Known}
use Rattle.lx_exprs.specs.declared.values.Room.{Room}
use Rattle.lx_forms.specs.Lexemes.{Lexeme, nth_lexeme}
use Rattle.lx_exprs.specs.Defined.{Definition, IsDefined, definition_of, whole_room}
use Rattle.lx_exprs.specs.Checks.{Finds, StopsAt}
use Rattle.lx_rules.specs.Configurations.{config_fault, setting_of}
use Rattle.lx_exprs.specs.Expressions.{ExpressionChecks}
use Rattle.lx_rules.specs.Environments.{Settings, with_setting}
use Rattle.lx_rules.specs.declared.environment.Setting.{Setting}
use Rattle.lx_rules.specs.declared.environment.Settings as code
use Rattle.lx_rules.specs.Items.{State, ItemChecks, twice, with_definition, with_settings}
use Rattle.lx_rules.specs.Seen.{known_definitions, settings_view, used_definitions}
use Rattle.lx_exprs.specs.Expressions.{IsRead}
use Rattle.lx_rules.specs.Keeping.{Holds, IsTaken}
use Rattle.lx_exprs.specs.Seen.{definition_view, definitions_view}

-- a name that has no definition has none among the last ones
pub definition_of-behind : (front definitions : List Definition) (name : List ℕ) → definition_of (front ++ definitions) name ≡ None → definition_of definitions name ≡ None
definition_of-behind [] definitions name none = none
definition_of-behind (one ∷ front) definitions name none = at (bytes_eq name one.name) none (definition_of-behind front definitions name)
  where
    at : (b : Bool) → (if b then Some one else definition_of (front ++ definitions) name) ≡ None
        → (definition_of (front ++ definitions) name ≡ None → definition_of definitions name ≡ None) → definition_of definitions name ≡ None
    at true none later = absurd (let h = none in cc)
    at false none later = later none

-- the checks of an expression that is read find nothing
pub read_checked : (options : Options) (lexemes : List Lexeme) (definitions : List Definition) (room : Room) (from until : ℕ) (reading : Reading)
    → IsRead options lexemes definitions room from until reading → ExpressionChecks options lexemes definitions from until None
read_checked options lexemes definitions room from until reading read = (read.form, read.stands_there, read.checked)

module _ (options : Options) (lexemes : List Lexeme) (known : Known) (state : State) (holds : Holds known state) where
  -- what is read with the definitions that are known
  pub read_known : (room : Room) (from until : ℕ) (reading : Reading)
      → IsRead options lexemes (known_definitions known) room from until reading
      → IsRead options lexemes state.definitions room from until reading
  read_known room from until reading read =
      subst (λ definitions. IsRead options lexemes definitions room from until reading) holds.definitions read

  -- a configuration is taken
  pub configured : (name value : ℕ) (setting : Setting) (after : code.Settings)
      → config_fault options.enc (nth_lexeme lexemes name) (nth_lexeme lexemes value) ≡ None
      → setting_of options.enc (nth_lexeme lexemes name).text (nth_lexeme lexemes value) ≡ Some setting
      → settings_view after ≡ with_setting (settings_view known.settings) setting
      → IsTaken options lexemes state (Configure name value) (record {
        before = known.before;
        is_use = known.is_use;
        own = known.own;
        settings = after;
        rules = known.rules;
        acts = known.acts;
        conds = known.conds;
      })
  configured name value setting after none is is_set = record {
    checked = sym none;
    next = with_settings state (with_setting state.settings setting);
    is_after = (setting, is, refl);
    holds = record {
      definitions = holds.definitions;
      settings = is_set ∙ ap (λ (settings : Settings). with_setting settings setting) holds.settings;
      acts = holds.acts;
      rules = holds.rules;
      fit = holds.fit;
      short = holds.short;
    };
  }

  once : (name : ℕ) → definition_of state.definitions (nth_lexeme lexemes name).text ≡ None
      → Finds (twice (nth_lexeme lexemes name).at (option_map (λ (d : Definition). d.at) (definition_of state.definitions (nth_lexeme lexemes name).text))) None
  once name is = ap (λ found. twice (nth_lexeme lexemes name).at (option_map (λ (d : Definition). d.at) found)) (sym is)

  -- a definition whose expression is refused is refused
  pub define_refused : (name from until : ℕ) (stopped : Stop) → definition_of state.definitions (nth_lexeme lexemes name).text ≡ None
      → StopsAt (ExpressionChecks options lexemes (known_definitions known) from until) stopped
      → StopsAt (ItemChecks options lexemes state (Define name from until)) stopped
  define_refused name from until stop.Memory none stops = tt
  define_refused name from until (stop.Fault fault) none stops =
      inl (once name none, subst (λ definitions. ExpressionChecks options lexemes definitions from until (Some fault)) holds.definitions stops)

  -- a definition is taken
  pub define_taken :
      (name from until : ℕ) (own : Definitions) (given : Kept) (reading : Reading) → definition_of state.definitions (nth_lexeme lexemes name).text ≡ None
      → (read : IsRead options lexemes state.definitions whole_room from until reading)
      → IsDefined (nth_lexeme lexemes name).text (nth_lexeme lexemes name).at read.meaning (definition_view (nth_lexeme lexemes name).text given)
      → definitions_view own ≡ definitions_view known.own ++ definition_view (nth_lexeme lexemes name).text given ∷ []
      → DefinitionsFit own
      → IsTaken options lexemes state (Define name from until) (record {
        before = known.before;
        is_use = known.is_use;
        own = own;
        settings = known.settings;
        rules = known.rules;
        acts = known.acts;
        conds = known.conds;
      })
  define_taken name from until own given reading none read defined added fit = record {
    checked = inl (once name none, read_checked options lexemes state.definitions whole_room from until reading read);
    next = with_definition state new;
    is_after = (read.form, read.meaning, new, read.stands_there, read.means, defined, refl);
    holds = record {
      definitions = known_snoc added ∙ ap (λ definitions. definitions ++ new ∷ []) holds.definitions;
      settings = holds.settings;
      acts = holds.acts;
      rules = holds.rules;
      fit = (holds.fit.0, holds.fit.1, fit);
      short = holds.short;
    };
  }
    where
      new : Definition
      new = definition_view (nth_lexeme lexemes name).text given

      known_snoc : definitions_view own ≡ definitions_view known.own ++ new ∷ []
          → used_definitions known.is_use known.before ++ (definitions_view known.before.definitions ++ definitions_view own) ≡ known_definitions known ++ new ∷ []
      known_snoc added =
          ap (λ l. used_definitions known.is_use known.before ++ (definitions_view known.before.definitions ++ l)) added
          ∙ ap (λ l. used_definitions known.is_use known.before ++ l) (sym (append_assoc (definitions_view known.before.definitions) (definitions_view known.own) (new ∷ [])))
          ∙ sym (append_assoc (used_definitions known.is_use known.before) (definitions_view known.before.definitions ++ definitions_view known.own) (new ∷ []))

-- The tags of definitions and rules have names, but for that of a slash, behind items and behind blocks.
use Rattle.std.proofs.Common.{◌≡◌, ◌≢◌, ℕ, zero, suc, List, [], ◌∷◌, ◌++◌, length, Option, None, Some, Ok, refl, sym, subst}
use Rattle.std.specs.List.{AllByRecursion}
use Rattle.lx_base.specs.declared.blocks.BlockKind.{BlockKind}
use Rattle.lx_base.specs.declared.settings.Options.{Options}
use Rattle.lx_parse.specs.declared.items.Item.{Item}
use Rattle.lx_parse.specs.declared.items.Item.TheVariants.{Define, Configure, Rule, Text}
use Rattle.lx_regex.specs.declared.rules.Kind.{Kind}
use Rattle.lx_regex.specs.declared.rules.Tag.{Tag}
use Rattle.lx_exprs.specs.Defined.{Definition, nothing, slash_tag}
use Rattle.lx_forms.specs.Lexemes.{Lexeme, lexemes_of, nth_lexeme, sort_at}
use Rattle.lx_rules.specs.Blocks.{HasRules, StandsUnder, before_all, behind_block, environment_behind, of_scanners, of_use, to_keep}
use Rattle.lx_rules.specs.Environments.{Environment, KeptBlock}
use Rattle.lx_rules.specs.Items.{Goes, HeadSort, IsAfter, IsHead, RuleMeaning, State, any, behind_slash, end, ends, expression, first_state, head_sort, next, state_behind}
use Rattle.lx_rules.specs.Rules.{RuleOf}
use Rattle.lx_rules.proofs.Rules.NamedTags.{AreNamed, IsMarked, expression_named, tokens_of-marked}
use Rattle.lx_rules.proofs.Rules.RuleNumbers.{all_both, all_drop}

-- each of the tags has a name, but for that of the slash, which has none
abbrev pub AreNamedBut : (slash : Option ℕ) → List Tag → Type 0
AreNamedBut slash [] = Unit {0}
AreNamedBut None (tag ∷ tags) = (tag.name ≢ []) × AreNamedBut None tags
AreNamedBut (Some zero) (tag ∷ tags) = (tag.name ≡ []) × AreNamedBut None tags
AreNamedBut (Some (suc slash)) (tag ∷ tags) = (tag.name ≢ []) × AreNamedBut (Some slash) tags

no_slash : (tags : List Tag) → AreNamed tags → AreNamedBut None tags
no_slash [] named = tt
no_slash (tag ∷ tags) named = (named.0, no_slash tags named.1)

one_slash : (front back : List Tag) → AreNamed front → AreNamed back
    → AreNamedBut (Some (length front)) ((front ++ slash_tag ∷ []) ++ back)
one_slash [] back named more = (refl, no_slash back more)
one_slash (tag ∷ front) back named more = (named.0, one_slash front back named.1 more)

-- the tags of a rule are so, and those of definitions all have names
abbrev pub HasNames : RuleOf → Type 0
HasNames rule = AreNamedBut rule.slash rule.meaning.tags

abbrev AreDefinedNamed : List Definition → Type 0
AreDefinedNamed definitions = AllByRecursion (λ (definition : Definition). AreNamed definition.tags) definitions

pub record IsStateNamed (state : State) : Type 0 where
  pub definitions : AreDefinedNamed state.definitions
  pub rules : AllByRecursion HasNames state.rules

-- ---- items

module _ (options : Options) (lexemes : List Lexeme) (marked : AllByRecursion IsMarked lexemes) where
  head_named : (definitions : List Definition) → AreDefinedNamed definitions → (sort : HeadSort) (head : ℕ) (slash : Option ℕ) (until : ℕ) (k : Kind)
      (meaning : RuleMeaning) → IsHead options lexemes definitions sort head slash until k meaning → AreNamedBut meaning.slash meaning.means.tags
  head_named definitions named any head slash until k meaning is =
      subst (λ (m : RuleMeaning). AreNamedBut m.slash m.means.tags) (sym is.1) tt
  head_named definitions named end head slash until k meaning is =
      subst (λ (m : RuleMeaning). AreNamedBut m.slash m.means.tags) (sym is.1) tt
  head_named definitions named expression head None until k meaning is =
      subst (λ (m : RuleMeaning). AreNamedBut m.slash m.means.tags) (sym is.1.4)
      (no_slash is.1.1.tags (expression_named options definitions named lexemes head until nothing is.1.0 is.1.1 marked is.1.2 is.1.3))
  head_named definitions named expression head (Some slash) until k meaning is =
      subst (λ (m : RuleMeaning). AreNamedBut m.slash m.means.tags) (sym is.1.8)
      (one_slash is.1.2.tags is.1.3.tags
      (expression_named options definitions named lexemes head slash nothing is.1.0 is.1.2 marked is.1.4 is.1.6)
      (expression_named options definitions named lexemes (suc slash) until (behind_slash is.1.2) is.1.1 is.1.3 marked is.1.5 is.1.7))

  item_named : (state after : State) (item : Item) → IsStateNamed state → IsAfter options lexemes state item after → IsStateNamed after
  item_named state after (Define name from until) named is =
      let tags = expression_named options state.definitions named.definitions lexemes from until nothing is.0 is.1 marked is.3 is.4 in
      subst IsStateNamed (sym is.6)
      (record {
        definitions =
            all_both (λ (definition : Definition). AreNamed definition.tags) state.definitions (is.2 ∷ []) named.definitions
            (subst AreNamed (sym is.5.tags) tags, tt);
        rules = named.rules;
      })
  item_named state after (Configure name value) named is =
      subst IsStateNamed (sym is.2) (record { definitions = named.definitions; rules = named.rules })
  item_named state after (Rule first head slash until goes code) named is =
      let sort = head_sort (sort_at (nth_lexeme lexemes head)) in
      subst IsStateNamed (sym is.3)
      (record {
        definitions = named.definitions;
        rules =
            all_both HasNames state.rules _ named.rules
            (head_named state.definitions named.definitions sort head slash until is.0 is.1 is.2, tt);
      })
  item_named state after (Text value) named is = subst IsStateNamed (sym is) named

  -- and behind all items
  pub goes_named : (state after : State) (items : List Item) → IsStateNamed state → Goes options lexemes state items (Ok after) → IsStateNamed after
  goes_named state after [] named ends = named
  goes_named state after (item ∷ items) named (next middle checked is rest) =
      goes_named middle after items (item_named state middle item named is) rest

-- ---- blocks

abbrev IsKeptNamed : Option KeptBlock → Type 0
IsKeptNamed None = Unit {0}
IsKeptNamed (Some kept) = AreDefinedNamed kept.definitions × AllByRecursion HasNames kept.rules

-- the tags of the definitions are named, and so are those of the rules block that is kept
pub record IsEnvironmentNamed (environment : Environment) : Type 0 where
  pub definitions : AreDefinedNamed environment.definitions
  pub kept : IsKeptNamed environment.kept

module _ (environment : Environment) (named : IsEnvironmentNamed environment) where
  used_named : (kept : Option KeptBlock) → IsKeptNamed kept → IsStateNamed (state_behind kept environment)
  used_named None is = record { definitions = named.definitions; rules = tt }
  used_named (Some kept) is = record {
    definitions = all_both (λ (definition : Definition). AreNamed definition.tags) kept.definitions environment.definitions is.0 named.definitions;
    rules = is.1;
  }

  -- so is what is known before the items of a block
  pub first_named : (kind : BlockKind) → HasRules kind → IsStateNamed (first_state kind environment)
  first_named kind of_scanners = record { definitions = named.definitions; rules = tt }
  first_named kind to_keep = record { definitions = named.definitions; rules = tt }
  first_named kind of_use = used_named environment.kept named.kept

  -- and what holds behind it
  named_behind : (kind : BlockKind) → HasRules kind → (state : State) → IsStateNamed state → IsEnvironmentNamed (environment_behind kind environment state)
  named_behind kind of_scanners state is = record { definitions = is.definitions; kept = named.kept }
  named_behind kind of_use state is = named
  named_behind kind to_keep state is = record {
    definitions = named.definitions;
    kept = (
      all_drop (λ (definition : Definition). AreNamed definition.tags) (length environment.definitions) state.definitions is.definitions,
      is.rules,
    );
  }

-- so is what stands under options
pub stands_named : (options : Options) (environment : Environment) → StandsUnder options environment → IsEnvironmentNamed environment
stands_named options environment before_all = record { definitions = tt; kept = tt }
stands_named options environment (behind_block {environment = before} stands kind at start body tokens items after resolved has short tokens_are items_are is) =
    let named = stands_named options before stands in
    let first = first_state kind before in
    subst IsEnvironmentNamed (sym is.after_is)
    (named_behind before named kind has is.state
    (goes_named options (lexemes_of body tokens) (tokens_of-marked body start tokens tokens_are) first is.state items
    (first_named before named kind has) is.goes))

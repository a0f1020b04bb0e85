-- A block gives one thing, as far as definitions tell, or it has one fault.
use Rattle.std.proofs.Common.{◌≡◌, ℕ, true, false, List, [], ◌∷◌, Ok, Err, refl, sym, subst, ◌∙◌}
use Rattle.std.proofs.lemmas.Bool.{false≢true}
use Rattle.lx_base.specs.declared.blocks.BlockKind.{BlockKind}
use Rattle.lx_base.specs.declared.blocks.BlockKind.TheVariants as block
use Rattle.lx_base.specs.declared.faults.Fault.{Fault}
use Rattle.lx_base.specs.declared.places.Pos.{Pos}
use Rattle.lx_base.specs.declared.settings.Options.{Options}
use Rattle.lx_forms.specs.Lexemes.{lexemes_of}
use Rattle.lx_parse.specs.Blocks.{IsBody, IsSyntaxFault, form_of, has_tokens}
use Rattle.lx_parse.specs.Sorts.{sorts_of}
use Rattle.lx_parse.specs.declared.items.Item.{Item}
use Rattle.lx_parse.proofs.Refusals.{one_tree}
use Rattle.lx_rules.specs.Blocks.{HasRules, IsBlockFault, Resolves, of_scanners, of_use, to_keep}
use Rattle.lx_rules.specs.Environments.{Environment}
use Rattle.lx_rules.specs.Likeness.{AreAlike, HaveSameRules}
use Rattle.lx_rules.specs.declared.resolved.Resolved.{Resolved}
use Rattle.lx_rules.specs.declared.resolved.Scanner.{Scanner}
use Rattle.lx_rules.proofs.Blocks.OneItem.{IsBlockFault-one, Resolves-one, resolves_or_not}
use Rattle.lx_token.specs.Tokens.{tokens_of}
use Rattle.lx_token.specs.declared.list.Token.{Token}
use Rattle.lx_compile.specs.Blocks.{IsBlock, IsFaultOf, IsRead, asks, content_of, gives_nothing, no_items, no_token, refused, resolves}
use Rattle.lx_compile.specs.Directives.{directive_of, is_directive, strings_of}
use Rattle.lx_compile.specs.declared.parts.Content.{Content}
use Rattle.lx_compile.specs.declared.parts.Content.TheVariants.{Asks, Scanners}
use Rattle.lx_compile.proofs.OneSyntax.{read_or_not, syntax-one}

-- ---- kinds

-- the kinds of blocks: with rules, directives, and those without tokens
pub data KindSort (kind : BlockKind) : Type 0 where
  of_rules : HasRules kind → KindSort kind
  of_directive : is_directive kind ≡ true → KindSort kind
  of_nothing : has_tokens kind ≡ false → KindSort kind

pub kind_sort : (kind : BlockKind) → KindSort kind
kind_sort block.Code = of_rules of_scanners
kind_sort block.Rules = of_rules to_keep
kind_sort block.Use = of_rules of_use
kind_sort block.Max = of_directive refl
kind_sort block.MaxNmatch = of_directive refl
kind_sort block.Stags = of_directive refl
kind_sort block.Mtags = of_directive refl
kind_sort block.Types = of_directive refl
kind_sort block.GetState = of_directive refl
kind_sort kind = of_nothing refl

-- each kind is of one of these
rules_direct : (kind : BlockKind) → HasRules kind → is_directive kind ≡ true → ⊥
rules_direct kind of_scanners is = false≢true is
rules_direct kind to_keep is = false≢true is
rules_direct kind of_use is = false≢true is

pub rules-tokens : (kind : BlockKind) → HasRules kind → has_tokens kind ≡ true
rules-tokens kind of_scanners = refl
rules-tokens kind to_keep = refl
rules-tokens kind of_use = refl

pub directive-tokens : (kind : BlockKind) → is_directive kind ≡ true → has_tokens kind ≡ true
directive-tokens block.Ignore is = absurd (false≢true is)
directive-tokens block.Include is = absurd (false≢true is)
directive-tokens block.Enter is = absurd (false≢true is)
directive-tokens block.Leave is = absurd (false≢true is)
directive-tokens kind is = refl

tokens_or_not : (kind : BlockKind) → has_tokens kind ≡ true → has_tokens kind ≡ false → ⊥
tokens_or_not kind has none = false≢true (sym none ∙ has)

-- ---- what blocks give

-- what blocks give is alike: the scanners have the same conditions and rules, or the directives are one
abbrev pub GiveAlike : Content → Content → Type 0
GiveAlike (Scanners resolved) (Scanners another) = AreAlike resolved another
GiveAlike (Asks directive) (Asks other) = directive ≡ other
GiveAlike content another = ⊥

content_of-alike : (resolved another : Resolved) (scanners others : List Scanner) → HaveSameRules scanners others → AreAlike resolved another
    → GiveAlike (content_of resolved scanners) (content_of another others)
content_of-alike resolved another [] [] same alike = refl
content_of-alike resolved another [] (other ∷ others) same alike = absurd same
content_of-alike resolved another (scanner ∷ scanners) [] same alike = absurd same
content_of-alike resolved another (scanner ∷ scanners) (other ∷ others) same alike = alike

give-alike : (content another given other : Content) → content ≡ given → another ≡ other → GiveAlike given other → GiveAlike content another
give-alike content another given other is is_other alike =
    subst (λ (c : Content). GiveAlike c another) (sym is) (subst (λ (c : Content). GiveAlike given c) (sym is_other) alike)

same-turned : (scanners others : List Scanner) → HaveSameRules scanners others → HaveSameRules others scanners
same-turned [] [] same = tt
same-turned [] (other ∷ others) same = absurd same
same-turned (scanner ∷ scanners) [] same = absurd same
same-turned (scanner ∷ scanners) (other ∷ others) same = (
  record { cond = sym same.0.cond; patterns = sym same.0.patterns; names = sym same.0.names },
  same-turned scanners others same.1,
)

pub alike-turned : (content another : Content) → GiveAlike content another → GiveAlike another content
alike-turned (Scanners resolved) (Scanners another) alike =
    record { acts = sym alike.acts; config = sym alike.config; scanners = same-turned resolved.scanners another.scanners alike.scanners }
alike-turned (Scanners resolved) (Asks directive) alike = absurd alike
alike-turned (Asks directive) (Scanners another) alike = absurd alike
alike-turned (Asks directive) (Asks other) alike = sym alike

-- ---- blocks

module _ (options : Options) (environment : Environment) (kind : BlockKind) (body : List ℕ) (at start : Pos) where
  abbrev HasRead : List Token → List Item → Type 0
  HasRead tokens items = IsRead kind body start tokens items

  -- a body is read in one way
  read-one : (tokens others : List Token) (items another : List Item) → HasRead tokens items → HasRead others another
      → (tokens ≡ others) × (items ≡ another)
  read-one tokens others items another read read_other =
      let same : tokens ≡ others = let found = sym read.tokens_are ∙ read_other.tokens_are in cc in (
        same,
        one_tree (form_of kind) (sorts_of kind body tokens) items another read.items_are
            (subst (λ (list : List Token). IsBody (form_of kind) (sorts_of kind body list) another) (sym same) read_other.items_are),
      )

  read-again : (tokens others : List Token) (items another : List Item) → HasRead tokens items → HasRead others another
      → (P : List Token → List Item → Type 0) → P others another → P tokens items
  read-again tokens others items another read read_other P holds =
      let same = read-one tokens others items another read read_other in
      subst (λ (list : List Token). P list items) (sym same.0) (subst (P others) (sym same.1) holds)

  -- so a block leaves one environment, and what it gives is alike
  pub block-one : (after other : Environment) (content another : Content) → IsBlock options environment kind body at start after content
      → IsBlock options environment kind body at start other another → (after ≡ other) × GiveAlike content another
  block-one after other content another (resolves tokens items resolved has read is gives) (resolves others second found has_other read_other is_other gives_other) =
      let both = Resolves-one options (lexemes_of body tokens) at environment items kind has after other resolved found is
      (read-again tokens others items second read read_other
      (λ tokens items. Resolves options kind at environment (lexemes_of body tokens) items other found) is_other) in (
        both.0,
        give-alike content another (content_of resolved resolved.scanners) (content_of found found.scanners) gives gives_other
            (content_of-alike resolved found resolved.scanners found.scanners both.1.scanners both.1),
      )
  block-one after other content another (resolves tokens items resolved has read is gives) (asks others second directs read_other is_other gives_other) =
      absurd (rules_direct kind has directs)
  block-one after other content another (resolves tokens items resolved has read is gives) (gives_nothing none is_other gives_other) =
      absurd (tokens_or_not kind (rules-tokens kind has) none)
  block-one after other content another (asks tokens items directs read is gives) (resolves others second found has read_other is_other gives_other) =
      absurd (rules_direct kind has directs)
  block-one after other content another (asks tokens items directs read is gives) (asks others second directs_other read_other is_other gives_other) = (
    is ∙ sym is_other,
    give-alike content another (Asks (directive_of kind (strings_of (lexemes_of body tokens) items)))
        (Asks (directive_of kind (strings_of (lexemes_of body others) second))) gives gives_other
        (read-again tokens others items second read read_other
        (λ tokens items. directive_of kind (strings_of (lexemes_of body tokens) items) ≡ directive_of kind (strings_of (lexemes_of body others) second)) refl),
  )
  block-one after other content another (asks tokens items directs read is gives) (gives_nothing none is_other gives_other) =
      absurd (tokens_or_not kind (directive-tokens kind directs) none)
  block-one after other content another (gives_nothing none is gives) (resolves others second found has read_other is_other gives_other) =
      absurd (tokens_or_not kind (rules-tokens kind has) none)
  block-one after other content another (gives_nothing none is gives) (asks others second directs read_other is_other gives_other) =
      absurd (tokens_or_not kind (directive-tokens kind directs) none)
  block-one after other content another (gives_nothing none is gives) (gives_nothing none_other is_other gives_other) =
      (is ∙ sym is_other, give-alike content another _ _ gives gives_other refl)

  -- a body that is read has tokens, and is well-formed
  found_or_not : (tokens : List Token) (fault : Fault) → tokens_of body start ≡ Ok tokens → tokens_of body start ≡ Err fault → ⊥
  found_or_not tokens fault are none = let found = sym are ∙ none in cc

  items_or_not : (tokens others : List Token) (items : List Item) (fault : Fault) → HasRead tokens items → tokens_of body start ≡ Ok others
      → IsSyntaxFault kind body start others fault → ⊥
  items_or_not tokens others items fault read are syntax =
      let same : others ≡ tokens = let found = sym are ∙ read.tokens_are in cc in
      read_or_not kind body start tokens items fault read.items_are (subst (λ (list : List Token). IsSyntaxFault kind body start list fault) same syntax)

  -- so has no fault but in its rules
  read-fault : (tokens : List Token) (items : List Item) (fault : Fault) → HasRead tokens items
      → IsFaultOf options environment kind body at start fault → HasRules kind × IsBlockFault options kind at environment (lexemes_of body tokens) items fault
  read-fault tokens items fault read (no_token has none) = absurd (found_or_not tokens fault read.tokens_are none)
  read-fault tokens items fault read (no_items others has are syntax) = absurd (items_or_not tokens others items fault read are syntax)
  read-fault tokens items fault read (refused others second has read_other found) =
      (has, read-again tokens others items second read read_other (λ tokens items. IsBlockFault options kind at environment (lexemes_of body tokens) items fault) found)

  fault-tokens : (fault : Fault) → IsFaultOf options environment kind body at start fault → has_tokens kind ≡ true
  fault-tokens fault (no_token has none) = has
  fault-tokens fault (no_items others has are syntax) = has
  fault-tokens fault (refused others second has read found) = rules-tokens kind has

  -- a block that gives something has no fault
  pub block_or_not : (after : Environment) (content : Content) (fault : Fault) → IsBlock options environment kind body at start after content
      → IsFaultOf options environment kind body at start fault → ⊥
  block_or_not after content fault (resolves tokens items resolved has read is gives) found =
      resolves_or_not options (lexemes_of body tokens) at environment items kind has after resolved fault is (read-fault tokens items fault read found).1
  block_or_not after content fault (asks tokens items directs read is gives) found =
      rules_direct kind (read-fault tokens items fault read found).0 directs
  block_or_not after content fault (gives_nothing none is gives) found = tokens_or_not kind (fault-tokens fault found) none

  -- a block has one fault, if it has one
  pub fault-one : (fault other : Fault) → IsFaultOf options environment kind body at start fault → IsFaultOf options environment kind body at start other
      → fault ≡ other
  fault-one fault other (no_token has none) (no_token has_other none_other) = let found = sym none ∙ none_other in cc
  fault-one fault other (no_token has none) (no_items tokens has_other are syntax) = absurd (found_or_not tokens fault are none)
  fault-one fault other (no_token has none) (refused tokens items has_other read found) = absurd (found_or_not tokens fault read.tokens_are none)
  fault-one fault other (no_items tokens has are syntax) (no_token has_other none) = absurd (found_or_not tokens other are none)
  fault-one fault other (no_items tokens has are syntax) (no_items others has_other are_other syntax_other) =
      let same : others ≡ tokens = let found = sym are_other ∙ are in cc in
      syntax-one kind body start tokens fault other syntax (subst (λ (list : List Token). IsSyntaxFault kind body start list other) same syntax_other)
  fault-one fault other (no_items tokens has are syntax) (refused others items has_other read found) =
      absurd (items_or_not others tokens items fault read are syntax)
  fault-one fault other (refused tokens items has read found) is_other =
      IsBlockFault-one options (lexemes_of body tokens) at environment items kind has fault other found (read-fault tokens items other read is_other).1

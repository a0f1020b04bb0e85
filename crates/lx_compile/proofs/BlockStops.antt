-- The faults of one block, and what it gives.
use Rattle.std.proofs.Common.{◌≡◌, ◌≢◌, ℕ, ◌⊎◌, inl, inr, arith, true, false, refl, sym, subst, List, [], ◌∷◌, Ok}
use Rattle.lx_base.specs.declared.blocks.BlockKind.{BlockKind}
use Rattle.lx_base.specs.declared.blocks.BlockKind.TheVariants as block
use Rattle.lx_base.specs.declared.faults.Stop.{Stop}
use Rattle.lx_base.specs.declared.faults.Stop.TheVariants as stop
use Rattle.lx_base.specs.declared.places.Pos.{Pos}
use Rattle.lx_base.specs.declared.settings.Options.{Options}
use Rattle.lx_forms.specs.Lexemes.{Lexeme, lexemes_of}
use Rattle.lx_parse.specs.Blocks.{StopsWith as StopsParse, has_tokens}
use Rattle.lx_parse.specs.declared.items.Item.{Item}
use Rattle.lx_rules.specs.Blocks.{HasRules, Resolves, StopsWith as StopsRules, of_scanners, of_use, to_keep}
use Rattle.lx_rules.specs.Environments.{Environment}
use Rattle.lx_rules.specs.WellFormed.{IsWellFormed}
use Rattle.lx_rules.specs.declared.resolved.Resolved.{Resolved}
use Rattle.lx_rules.specs.declared.resolved.Scanner.{Scanner}
use Rattle.lx_token.specs.Tokens.{tokens_of, StopsWith as StopsTokens}
use Rattle.lx_token.specs.declared.list.Token.{Token}
use Rattle.lx_compile.specs.Blocks.{IsRead, StopsAt, content_of, no_items, no_token, refused}
use Rattle.lx_compile.specs.Directives.{is_directive}
use Rattle.lx_compile.specs.Emittable.{HasMakeable}

-- a block of rules and a directive have tokens
pub has_tokens-rules : (kind : BlockKind) → HasRules kind → has_tokens kind ≡ true
has_tokens-rules kind of_scanners = refl
has_tokens-rules kind to_keep = refl
has_tokens-rules kind of_use = refl

pub has_tokens-directive : (kind : BlockKind) → is_directive kind ≡ true → has_tokens kind ≡ true
has_tokens-directive block.Code is = cc
has_tokens-directive block.Rules is = cc
has_tokens-directive block.Use is = cc
has_tokens-directive block.Max is = refl
has_tokens-directive block.MaxNmatch is = refl
has_tokens-directive block.Stags is = refl
has_tokens-directive block.Mtags is = refl
has_tokens-directive block.Types is = refl
has_tokens-directive block.GetState is = refl
has_tokens-directive block.Ignore is = cc
has_tokens-directive block.Include is = cc
has_tokens-directive block.Enter is = cc
has_tokens-directive block.Leave is = cc

-- the kinds of blocks as the code tells them apart
pub HasRules-kind : (kind : BlockKind) → (kind ≡ block.Code) ⊎ ((kind ≡ block.Rules) ⊎ (kind ≡ block.Use)) → HasRules kind
HasRules-kind kind (inl is) = rw is of_scanners
HasRules-kind kind (inr (inl is)) = rw is to_keep
HasRules-kind kind (inr (inr is)) = rw is of_use

pub has_tokens-none : (kind : BlockKind)
    → (kind ≡ block.Ignore) ⊎ ((kind ≡ block.Include) ⊎ ((kind ≡ block.Enter) ⊎ (kind ≡ block.Leave))) → has_tokens kind ≡ false
has_tokens-none kind (inl is) = rw is refl
has_tokens-none kind (inr (inl is)) = rw is refl
has_tokens-none kind (inr (inr (inl is))) = rw is refl
has_tokens-none kind (inr (inr (inr is))) = rw is refl

-- a block of no such kind is a directive
pub is_directive-other : (kind : BlockKind) → (kind ≢ block.Code) → (kind ≢ block.Rules) → (kind ≢ block.Use) → (kind ≢ block.Ignore)
    → (kind ≢ block.Include) → (kind ≢ block.Enter) → (kind ≢ block.Leave) → is_directive kind ≡ true
is_directive-other block.Code code rules uses ignore include enter leave = absurd (code refl)
is_directive-other block.Rules code rules uses ignore include enter leave = absurd (rules refl)
is_directive-other block.Use code rules uses ignore include enter leave = absurd (uses refl)
is_directive-other block.Max code rules uses ignore include enter leave = refl
is_directive-other block.MaxNmatch code rules uses ignore include enter leave = refl
is_directive-other block.Stags code rules uses ignore include enter leave = refl
is_directive-other block.Mtags code rules uses ignore include enter leave = refl
is_directive-other block.Types code rules uses ignore include enter leave = refl
is_directive-other block.GetState code rules uses ignore include enter leave = refl
is_directive-other block.Ignore code rules uses ignore include enter leave = absurd (ignore refl)
is_directive-other block.Include code rules uses ignore include enter leave = absurd (include refl)
is_directive-other block.Enter code rules uses ignore include enter leave = absurd (enter refl)
is_directive-other block.Leave code rules uses ignore include enter leave = absurd (leave refl)

-- what stops a step of a block stops the block
module _ (options : Options) (environment : Environment) (kind : BlockKind) (body : List ℕ) (at start : Pos) where
  pub StopsAt-tokens : (stopped : Stop) → has_tokens kind ≡ true → StopsTokens (tokens_of body start) stopped
      → StopsAt options environment kind body at start stopped
  StopsAt-tokens stop.Memory has stops = stops
  StopsAt-tokens (stop.Fault fault) has stops = no_token has stops

  pub StopsAt-items : (tokens : List Token) (stopped : Stop) → has_tokens kind ≡ true → tokens_of body start ≡ Ok tokens
      → StopsParse kind body start tokens stopped → StopsAt options environment kind body at start stopped
  StopsAt-items tokens stop.Memory has are stops = stops
  StopsAt-items tokens (stop.Fault fault) has are stops = no_items tokens has are stops

  pub StopsAt-rules : (tokens : List Token) (items : List Item) (stopped : Stop) → HasRules kind → IsRead kind body start tokens items
      → StopsRules options kind at environment (lexemes_of body tokens) items stopped → StopsAt options environment kind body at start stopped
  StopsAt-rules tokens items stop.Memory has read stops = stops
  StopsAt-rules tokens items (stop.Fault fault) has read stops = refused tokens items has read stops

-- what a block gives whose scanners are these
HasMakeable-scanners : (options : Options) (resolved : Resolved) (scanners : List Scanner) → resolved.scanners ≡ scanners
    → IsWellFormed options resolved → HasMakeable options (content_of resolved scanners)
HasMakeable-scanners options resolved [] are formed = tt
HasMakeable-scanners options resolved (scanner ∷ scanners) are formed = record { some = rw are (omega arith); formed = formed }

-- a rules block gives nothing, and another one is well formed
pub HasMakeable-content : (options : Options) (kind : BlockKind) (at : Pos) (environment : Environment) (lexemes : List Lexeme) (items : List Item)
    (after : Environment) (resolved : Resolved) → HasRules kind → Resolves options kind at environment lexemes items after resolved
    → (kind ≢ block.Rules → IsWellFormed options resolved) → HasMakeable options (content_of resolved resolved.scanners)
HasMakeable-content options kind at environment lexemes items after resolved of_scanners resolves formed =
    HasMakeable-scanners options resolved resolved.scanners refl (formed (λ same. cc))
HasMakeable-content options kind at environment lexemes items after resolved to_keep resolves formed =
    subst (λ scanners. HasMakeable options (content_of resolved scanners)) (sym resolves.ends.0) tt
HasMakeable-content options kind at environment lexemes items after resolved of_use resolves formed =
    HasMakeable-scanners options resolved resolved.scanners refl (formed (λ same. cc))

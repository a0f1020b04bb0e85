-- One block of a source: what it resolves to or asks for, or its fault.
use Rattle.std.specs.Prelude.{◌≡◌, ℕ, true, false, List, [], ◌∷◌, Ok, Err}
use Rattle.lx_base.specs.declared.blocks.BlockKind.{BlockKind}
use Rattle.lx_base.specs.declared.faults.Fault.{Fault}
use Rattle.lx_base.specs.declared.faults.Stop.{Stop}
use Rattle.lx_base.specs.declared.faults.Stop.TheVariants as stop
use Rattle.lx_base.specs.declared.places.Pos.{Pos}
use Rattle.lx_base.specs.declared.settings.Options.{Options}
use Rattle.lx_parse.specs.Blocks.{IsBody, IsSyntaxFault, form_of, has_tokens}
use Rattle.lx_parse.specs.Sorts.{sorts_of}
use Rattle.lx_parse.specs.declared.items.Item.{Item}
use Rattle.lx_rules.specs.Blocks.{HasRules, IsBlockFault, Resolves}
use Rattle.lx_rules.specs.Environments.{Environment}
use Rattle.lx_forms.specs.Lexemes.{lexemes_of}
use Rattle.lx_rules.specs.declared.resolved.Resolved.{Resolved}
use Rattle.lx_rules.specs.declared.resolved.Scanner.{Scanner}
use Rattle.lx_token.specs.Tokens.{tokens_of}
use Rattle.lx_token.specs.declared.list.Token.{Token}
use Rattle.lx_compile.specs.Directives.{directive_of, is_directive, strings_of}
use Rattle.lx_compile.specs.declared.parts.Content.{Content}
use Rattle.lx_compile.specs.declared.parts.Content.TheVariants.{Asks, Scanners}
use Rattle.lx_compile.specs.declared.parts.Directive.TheVariants.{Nothing}

-- the body of a block that begins at a place has these tokens and items
pub record IsRead (kind : BlockKind) (body : List ℕ) (start : Pos) (tokens : List Token) (items : List Item) : Type 0 where
  pub tokens_are : tokens_of body start ≡ Ok tokens
  pub items_are : IsBody (form_of kind) (sorts_of kind body tokens) items

-- what a block of rules gives that resolves so: its scanners, if it has one
abbrev pub content_of : Resolved → List Scanner → Content
content_of resolved [] = Asks Nothing
content_of resolved (scanner ∷ scanners) = Scanners resolved

-- A block of this kind, whose opener and body stand at these places, gives this, and that holds behind it: it has rules and resolves
-- so; or it is a directive; or it has no tokens, and gives nothing.
pub data IsBlock (options : Options) (environment : Environment) (kind : BlockKind) (body : List ℕ) (at start : Pos) (after : Environment) (content : Content) : Type 0 where
  resolves : (tokens : List Token) (items : List Item) (resolved : Resolved) → HasRules kind → IsRead kind body start tokens items
      → Resolves options kind at environment (lexemes_of body tokens) items after resolved → content ≡ content_of resolved resolved.scanners
      → IsBlock options environment kind body at start after content
  asks : (tokens : List Token) (items : List Item) → is_directive kind ≡ true → IsRead kind body start tokens items → after ≡ environment
      → content ≡ Asks (directive_of kind (strings_of (lexemes_of body tokens) items)) → IsBlock options environment kind body at start after content
  gives_nothing : has_tokens kind ≡ false → after ≡ environment → content ≡ Asks Nothing → IsBlock options environment kind body at start after content

-- The fault of a block: no token stands somewhere in its body; or the tokens are no items; or the items have a fault.
pub data IsFaultOf (options : Options) (environment : Environment) (kind : BlockKind) (body : List ℕ) (at start : Pos) (fault : Fault) : Type 0 where
  no_token : has_tokens kind ≡ true → tokens_of body start ≡ Err fault → IsFaultOf options environment kind body at start fault
  no_items : (tokens : List Token) → has_tokens kind ≡ true → tokens_of body start ≡ Ok tokens → IsSyntaxFault kind body start tokens fault
      → IsFaultOf options environment kind body at start fault
  refused : (tokens : List Token) (items : List Item) → HasRules kind → IsRead kind body start tokens items
      → IsBlockFault options kind at environment (lexemes_of body tokens) items fault → IsFaultOf options environment kind body at start fault

-- a call that is to resolve the block stops with its fault, or where memory runs out
abbrev pub StopsAt : Options → Environment → BlockKind → (body : List ℕ) → (at start : Pos) → Stop → Type 0
StopsAt options environment kind body at start stop.Memory = Unit {0}
StopsAt options environment kind body at start (stop.Fault fault) = IsFaultOf options environment kind body at start fault

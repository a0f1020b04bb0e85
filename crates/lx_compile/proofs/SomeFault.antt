-- A source has a first fault, or it has none: one of both is there, under two negations.
use Rattle.std.proofs.Common.{◌≡◌, ℕ, ◌≤◌, true, List, [], ◌∷◌, length, Option, Some, None, Result, Ok, Err, refl, sym, subst, inl, inr}
use Rattle.std.specs.Prelude.{All}
use Rattle.std.proofs.lemmas.List.Elements.{All-head, All-tail}
use Rattle.lx_base.specs.declared.blocks.BlockKind.{BlockKind}
use Rattle.lx_base.specs.declared.faults.Fault.{Fault}
use Rattle.lx_base.specs.declared.places.Pos.{Pos}
use Rattle.lx_base.specs.declared.settings.Options.{Options}
use Rattle.lx_files.specs.declared.files.HeldFile.{HeldFile}
use Rattle.lx_forms.specs.Lexemes.{lexemes_of}
use Rattle.lx_parse.specs.Blocks.{has_tokens}
use Rattle.lx_parse.specs.declared.items.Item.{Item}
use Rattle.lx_parse.proofs.Verdicts.{read_or_refused}
use Rattle.lx_rules.specs.Blocks.{HasRules, StandsUnder, before_all, behind_block}
use Rattle.lx_rules.specs.Environments.{Environment, config_of, first_environment}
use Rattle.lx_rules.proofs.Blocks.BlockVerdicts.{body_expressions, verdict_among}
use Rattle.lx_rules.proofs.Blocks.ItemRuns.{body-alike}
use Rattle.lx_rules.proofs.Blocks.Readiness.{stands_ready}
use Rattle.lx_split.specs.Expanded.{IsPieceWithin}
use Rattle.lx_split.specs.Includes.{expansion}
use Rattle.lx_split.specs.Pieces.{Split}
use Rattle.lx_split.specs.declared.pieces.SourcePiece.{SourcePiece}
use Rattle.lx_split.specs.declared.pieces.SourcePiece.TheVariants as piece
use Rattle.lx_split.proofs.ExpandedPieces.{expansion-sound}
use Rattle.lx_token.specs.Tokens.{tokens_of}
use Rattle.lx_token.specs.declared.list.Token.{Token}
use Rattle.lx_compile.specs.Blocks.{IsBlock, IsFaultOf, IsRead, asks, content_of, gives_nothing, no_items, no_token, refused, resolves}
use Rattle.lx_compile.specs.Directives.{directive_of, strings_of}
use Rattle.lx_compile.specs.Facts.{directives_fault}
use Rattle.lx_compile.specs.FirstFault.{AreMadeOf, IsFaultOfBlocks, IsFaultOfPieces, IsFirstFault, setting_of}
use Rattle.lx_compile.specs.Made.{AreMade}
use Rattle.lx_compile.specs.Parts.{AreParts, IsFaultAmong, IsScanningFault}
use Rattle.lx_compile.specs.ScannerFaults.{IsFaultlessContent}
use Rattle.lx_compile.specs.declared.made.Made.{Made}
use Rattle.lx_compile.specs.declared.parts.Content.{Content}
use Rattle.lx_compile.specs.declared.parts.Content.TheVariants.{Asks}
use Rattle.lx_compile.specs.declared.parts.Directive.TheVariants.{Nothing}
use Rattle.lx_compile.specs.declared.parts.Part.{Part}
use Rattle.lx_compile.specs.declared.parts.Part.TheVariants.{Outside, Block}
use Rattle.lx_compile.proofs.OneBlock.{KindSort, directive-tokens, kind_sort, of_directive, of_nothing, of_rules, rules-tokens}
use Rattle.lx_compile.proofs.OneScan.{content-faultless}

-- ---- scanners

-- a scanner has a fault, or none has
scanning_fault : (options : Options) (parts : List Part) → ((fault : Option Fault) → IsScanningFault options parts fault → ⊥) → ⊥
scanning_fault options [] none = none None refl
scanning_fault options (Outside text ∷ parts) none = scanning_fault options parts none
scanning_fault options (Block at line content ∷ parts) none = scanning_fault options parts (λ fault is. none fault (inr (faultless, is)))
  where
    faultless : IsFaultlessContent options content
    faultless = content-faultless options at content (λ fault is. none (Some fault) (inl (fault, is, refl)))

module _ (options : Options) where
  -- ---- blocks

  module _ (environment : Environment) (kind : BlockKind) (body : List ℕ) (at start : Pos) where
    -- behind a block all blocks before were resolved
    stands_behind : (after : Environment) (content : Content) → StandsUnder options environment → length body ≤ 16777216
        → IsBlock options environment kind body at start after content → StandsUnder options after
    stands_behind after content stands short (resolves tokens items resolved has read is gives) =
        behind_block stands kind at start body tokens items after resolved has short read.tokens_are read.items_are is
    stands_behind after content stands short (asks tokens items directs read is gives) = subst (StandsUnder options) (sym is) stands
    stands_behind after content stands short (gives_nothing none is gives) = subst (StandsUnder options) (sym is) stands

    module _ (stands : StandsUnder options environment)
        (no_block : (after : Environment) (content : Content) → IsBlock options environment kind body at start after content → ⊥)
        (no_fault : (fault : Fault) → IsFaultOf options environment kind body at start fault → ⊥) where
      -- items resolve, or have a fault
      items_or_fault : HasRules kind → (tokens : List Token) (items : List Item) → IsRead kind body start tokens items → ⊥
      items_or_fault has tokens items read =
          verdict_among options kind has at environment (lexemes_of body tokens) items (stands_ready options environment stands)
          (body_expressions body tokens items (body-alike kind has body tokens items read.items_are))
          (λ after resolved is. no_block after (content_of resolved resolved.scanners) (resolves tokens items resolved has read is refl))
          (λ fault found. no_fault fault (refused tokens items has read found))

      -- a body is read, or has a fault
      read_or_fault : has_tokens kind ≡ true → ((tokens : List Token) (items : List Item) → IsRead kind body start tokens items → ⊥)
          → (found : Result (List Token) Fault) → tokens_of body start ≡ found → ⊥
      read_or_fault has unread (Err fault) is = no_fault fault (no_token has is)
      read_or_fault has unread (Ok tokens) is = elim (read_or_refused kind body start tokens) [
        | inl read ↦ unread tokens read.0 (record { tokens_are = is; items_are = read.1 })
        | inr stops ↦ no_fault stops.0 (no_items tokens has is stops.1)
      ]

      -- a block gives something, or has a fault
      sort_or_fault : KindSort kind → ⊥
      sort_or_fault (of_rules has) = read_or_fault (rules-tokens kind has) (items_or_fault has) (tokens_of body start) refl
      sort_or_fault (of_directive is) =
          read_or_fault (directive-tokens kind is)
          (λ tokens items read.
          no_block environment (Asks (directive_of kind (strings_of (lexemes_of body tokens) items))) (asks tokens items is read refl refl))
          (tokens_of body start) refl
      sort_or_fault (of_nothing none) = no_block environment (Asks Nothing) (gives_nothing none refl refl)

      block_or_fault : ⊥
      block_or_fault = sort_or_fault (kind_sort kind)

  -- ---- sources

  module _ (count : ℕ) where
    -- the blocks of a source all give something, or one has a fault
    parts_or_fault : (environment : Environment) (pieces : List SourcePiece) → All (IsPieceWithin count) pieces → StandsUnder options environment
        → ((parts : List Part) (last : Environment) → AreParts options environment pieces parts last → ⊥)
        → ((fault : Fault) → IsFaultAmong options environment pieces fault → ⊥) → ⊥
    parts_or_fault environment [] sound stands no_parts no_fault = no_parts [] environment refl
    parts_or_fault environment (piece.Outside text ∷ pieces) sound stands no_parts no_fault =
        parts_or_fault environment pieces (All-tail (IsPieceWithin count) (piece.Outside text) pieces sound) stands
        (λ parts last are. no_parts (Outside text ∷ parts) last (refl, are)) no_fault
    parts_or_fault environment (piece.Block kind body at start end_line ∷ pieces) sound stands no_parts no_fault =
        let block = piece.Block kind body at start end_line in
        let short = (All-head (IsPieceWithin count) block pieces sound).size in
        block_or_fault environment kind body at start stands
        (λ after content is.
        parts_or_fault after pieces (All-tail (IsPieceWithin count) block pieces sound)
        (stands_behind environment kind body at start after content stands short is)
        (λ parts last are. no_parts (Block at end_line content ∷ parts) last (refl, refl, (after, is, are)))
        (λ fault among. no_fault fault (inr (after, content, is, among))))
        (λ fault is. no_fault fault (inl is))

  module _ (names : List (List ℕ)) (made : List Made) where
    -- the blocks of a source have a fault, or none
    blocks_fault : (pieces : List SourcePiece) → All (IsPieceWithin (length names)) pieces
        → ((parts : List Part) (last : Environment) → AreParts options first_environment pieces parts last → IsScanningFault options parts None
        → AreMade (setting_of options names parts) 1 0 parts made)
        → ((fault : Option Fault) → IsFaultOfBlocks options names pieces made fault → ⊥) → ⊥
    blocks_fault pieces sound are_made none = parts_or_fault (length names) first_environment pieces sound before_all
        (λ parts last are. scanning_fault options parts (λ fault is. behind parts last are fault is))
        (λ fault among. none (Some fault) (inl among))
      where
        behind : (parts : List Part) (last : Environment) → AreParts options first_environment pieces parts last → (fault : Option Fault)
            → IsScanningFault options parts fault → ⊥
        behind parts last are (Some fault) is = none (Some fault) (inr (parts, last, are, inl (refl, is)))
        behind parts last are None is = given (directives_fault (config_of last.settings).names made) refl
          where
            given : (found : Option Fault) → found ≡ directives_fault (config_of last.settings).names made → ⊥
            given None found = none None (parts, last, are, inr (is, are_made parts last are is, found))
            given (Some fault) found = none (Some fault) (inr (parts, last, are, inr (is, are_made parts last are is, found)))

  -- a source of which this is made has a first fault, or none
  pub IsFirstFault-some : (seen : List HeldFile) (main : List ℕ) (made : List Made) → AreMadeOf options seen main made
      → ((fault : Option Fault) → IsFirstFault options seen main made fault → ⊥) → ⊥
  IsFirstFault-some seen main made are_made none = by (expansion options seen main).found refl none
    where
      by : (split : Split) → (expansion options seen main).found ≡ split
          → ((fault : Option Fault) → IsFaultOfPieces options (expansion options seen main).met.names split made fault → ⊥) → ⊥
      by (Err first) is none = none (Some first) refl
      by (Ok pieces) is none =
          blocks_fault (expansion options seen main).met.names made pieces (expansion-sound options seen main pieces is).each
          (λ parts last are small. are_made pieces parts last is are small) none

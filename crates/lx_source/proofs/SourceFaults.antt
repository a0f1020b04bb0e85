-- A generated source has no fault.
use Rattle.std.proofs.Common.{◌≡◌, ◌∙◌, ℕ, ◌≤◌, List, [], ◌∷◌, Some, None, Ok, inl, inr, refl, sym, ap, subst, arith}
use Rattle.std.proofs.lemmas.Bool.{false≢true}
use Rattle.lx_base.specs.Places.{file_start}
use Rattle.lx_base.specs.declared.blocks.BlockKind.TheVariants as block
use Rattle.lx_base.specs.declared.faults.Fault.{Fault}
use Rattle.lx_base.specs.declared.places.Pos.{Pos}
use Rattle.lx_base.specs.declared.settings.Enc.TheVariants.{Byte}
use Rattle.lx_compile.proofs.OneSyntax.{read_or_not}
use Rattle.lx_compile.specs.Blocks.{IsBlock, IsFaultOf, IsRead, asks, content_of, gives_nothing, no_items, no_token, refused, resolves}
use Rattle.lx_compile.specs.Facts.{directives_fault}
use Rattle.lx_compile.specs.FirstFault.{IsFaultBehind, IsFaultOfPieces, IsFirstFault, setting_of}
use Rattle.lx_compile.specs.Made.{AreMade}
use Rattle.lx_compile.specs.Output.{IsOutput}
use Rattle.lx_compile.specs.Parts.{AreParts, IsScanningFault, switch_themselves}
use Rattle.lx_compile.specs.ScannerFaults.{IsFaultOfScanners}
use Rattle.lx_compile.specs.declared.made.Made.{Made}
use Rattle.lx_compile.specs.declared.parts.Content.{Content}
use Rattle.lx_compile.specs.declared.parts.Content.TheVariants.{Scanners}
use Rattle.lx_compile.specs.declared.parts.Part.{Part}
use Rattle.lx_compile.specs.declared.parts.Part.TheVariants.{Outside, Block}
use Rattle.lx_forms.specs.Lexemes.{Lexeme, lexemes_of}
use Rattle.lx_parse.proofs.Refusals.{one_tree}
use Rattle.lx_parse.specs.Blocks.{form_of}
use Rattle.lx_parse.specs.Sorts.{sorts_of}
use Rattle.lx_parse.specs.declared.items.Item.{Item}
use Rattle.lx_regex.specs.Kernel.{HasTooManyKernels}
use Rattle.lx_regex.specs.Term.{Term}
use Rattle.lx_rules.specs.Blocks.{IsBlockFault, Resolves}
use Rattle.lx_rules.specs.Environments.{Environment, config_of, first_environment}
use Rattle.lx_rules.specs.declared.resolved.Resolved.{Resolved}
use Rattle.lx_rules.specs.declared.resolved.Scanner.{Scanner}
use Rattle.lx_source.proofs.FewKernels.{few_kernels}
use Rattle.lx_source.proofs.MadeScanners.{HasOneScanner, one_scanner}
use Rattle.lx_source.proofs.ReadLexemes.{AreRead, HasLexemes-read}
use Rattle.lx_source.proofs.SourceBlocks.{IsGenerated, no_block_fault, scanner_generated}
use Rattle.lx_source.proofs.SourceItems.{source-items, source_items}
use Rattle.lx_source.proofs.SourceLexemes.{source-lexemes, source_body, source_lexemes}
use Rattle.lx_source.proofs.SourcePieces.{expansion-source, source_pieces, source_start}
use Rattle.lx_source.specs.Sources.{source_files, source_name, source_options}
use Rattle.lx_split.specs.Includes.{expansion}
use Rattle.lx_split.specs.Pieces.{Split}
use Rattle.lx_split.specs.declared.pieces.SourcePiece.{SourcePiece}
use Rattle.lx_token.specs.declared.list.Token.{Token}

-- ---- what a block gives

-- scanners without a fault
record GivesScanners (content : Content) : Type 0 where
  resolved : Resolved
  content_is : content ≡ Scanners resolved
  faultless : (at : Pos) (fault : Fault) → IsFaultOfScanners source_options at resolved.scanners fault → ⊥

faultless-one : (rules : ℕ) → rules ≤ 200 → (scanners : List Scanner) → IsGenerated rules scanners → (at : Pos) (fault : Fault)
    → IsFaultOfScanners source_options at scanners fault → ⊥
faultless-one rules few scanners is at fault found =
    by (subst (λ (l : List Scanner). IsFaultOfScanners source_options at l fault) is.all found)
  where
    by : IsFaultOfScanners source_options at (is.scanner ∷ []) fault → ⊥
    by (inl (inl (many, same))) = few_kernels rules few (subst (λ (l : List Term). HasTooManyKernels Byte l) is.terms many)
    by (inl (inr (small, (sum, long, same)))) = false≢true long.0
    by (inr none) = none.1

module _ (rules : ℕ) (few : rules ≤ 200) where
  abbrev body : List ℕ
  body = source_body rules

  read : AreRead body source_start (source_lexemes rules source_start)
  read = HasLexemes-read body source_start (source_lexemes rules source_start) (source-lexemes rules source_start (omega arith))

  -- all that is read of the body
  record IsAll (tokens : List Token) (items : List Item) : Type 0 where
    lexemes : lexemes_of body tokens ≡ source_lexemes rules source_start
    items_are : items ≡ source_items rules

  read_one : (tokens : List Token) (items : List Item) → IsRead block.Code body source_start tokens items → IsAll tokens items
  read_one tokens items is =
      let same : read.tokens ≡ tokens = let found = sym read.tokens_are ∙ is.tokens_are in cc in
      let lexemes = ap (lexemes_of body) (sym same) ∙ read.lexemes_are in record {
        lexemes = lexemes;
        items_are =
            one_tree (form_of block.Code) (sorts_of block.Code body tokens) items (source_items rules) is.items_are
            (source-items rules source_start tokens lexemes);
      }

  no_fault : (fault : Fault) → IsFaultOf source_options first_environment block.Code body (file_start 0) source_start fault → ⊥
  no_fault fault (no_token has stops) = let found = sym read.tokens_are ∙ stops in cc
  no_fault fault (no_items tokens has is stops) =
      let same : read.tokens ≡ tokens = let found = sym read.tokens_are ∙ is in cc in
      let lexemes = ap (lexemes_of body) (sym same) ∙ read.lexemes_are in
      read_or_not block.Code body source_start tokens (source_items rules) fault (source-items rules source_start tokens lexemes) stops
  no_fault fault (refused tokens items has is found) =
      let all = read_one tokens items is in
      no_block_fault rules few (file_start 0) source_start fault
      (subst (λ (l : List Item). IsBlockFault source_options block.Code (file_start 0) first_environment
      (source_lexemes rules source_start) l fault) all.items_are
      (subst (λ (l : List Lexeme). IsBlockFault source_options block.Code (file_start 0) first_environment l items fault) all.lexemes found))

  gives : (after : Environment) (content : Content)
      → IsBlock source_options first_environment block.Code body (file_start 0) source_start after content → GivesScanners content
  gives after content (resolves tokens items resolved has is goes content_is) =
      let all = read_one tokens items is in
      let generated = scanner_generated rules few (file_start 0) source_start after resolved
      (subst (λ (l : List Item). Resolves source_options block.Code (file_start 0) first_environment
      (source_lexemes rules source_start) l after resolved) all.items_are
      (subst (λ (l : List Lexeme). Resolves source_options block.Code
      (file_start 0) first_environment l items after resolved) all.lexemes goes)) in
      record {
        resolved = resolved;
        content_is = content_is ∙ ap (content_of resolved) generated.all;
        faultless = faultless-one rules few resolved.scanners generated;
      }
  gives after content (asks tokens items is stands after_is content_is) = absurd (false≢true is)
  gives after content (gives_nothing none after_is content_is) = absurd (false≢true (sym none))

  -- ---- the parts

  record HasParts (parts : List Part) : Type 0 where
    place : Pos
    line : ℕ
    content : Content
    text : List ℕ
    all : parts ≡ Block place line content ∷ Outside text ∷ []
    gives_scanners : GivesScanners content

  parts_read : (parts : List Part) (last : Environment) → AreParts source_options first_environment (source_pieces rules) parts last
      → HasParts parts
  parts_read [] last are = absurd are
  parts_read (Outside text ∷ parts) last are = absurd are
  parts_read (Block place line content ∷ []) last are = absurd are.2.2
  parts_read (Block place line content ∷ Block other next more ∷ parts) last are = absurd are.2.2
  parts_read (Block place line content ∷ Outside text ∷ []) last are = record {
    place = place;
    line = line;
    content = content;
    text = text;
    all = refl;
    gives_scanners = gives are.2.0 content are.2.1;
  }
  parts_read (Block place line content ∷ Outside text ∷ part ∷ parts) last are = absurd are.2.2.1

  -- no scanner has a fault
  no_scanning_fault : (parts : List Part) (fault : Fault) → HasParts parts → IsScanningFault source_options parts (Some fault) → ⊥
  no_scanning_fault parts fault has is =
      by (subst (λ (c : Content). IsScanningFault source_options (Block has.place has.line c ∷ Outside has.text ∷ [])
      (Some fault)) has.gives_scanners.content_is
      (subst (λ (l : List Part). IsScanningFault source_options l (Some fault)) has.all is))
    where
      by : IsScanningFault source_options (Block has.place has.line (Scanners has.gives_scanners.resolved) ∷ Outside has.text ∷ []) (Some fault) → ⊥
      by (inl (first, found, same)) = has.gives_scanners.faultless has.place first found
      by (inr found) = let same : Some fault ≡ None = found.1 in cc

  -- one piece with a scanner is made
  made_here : (names : List (List ℕ)) (parts : List Part) (all : List Made) → HasParts parts
      → AreMade (setting_of source_options names parts) 1 0 parts all → HasOneScanner all
  made_here names parts all has are =
      one_scanner names (switch_themselves parts) has.place has.line has.gives_scanners.resolved has.text all
      (subst (λ (c : Content). AreMade (setting_of source_options names parts) 1 0 (Block has.place has.line c ∷ Outside has.text ∷ []) all)
      has.gives_scanners.content_is (subst (λ (l : List Part). AreMade (setting_of source_options names parts) 1 0 l all) has.all are))

  no_fault_behind : (names : List (List ℕ)) (all : List Made) (fault : Fault)
      → IsFaultBehind source_options names (source_pieces rules) all (Some fault) → ⊥
  no_fault_behind names all fault (parts, last, are, inl found) = no_scanning_fault parts fault (parts_read parts last are) found.1
  no_fault_behind names all fault (parts, last, are, inr found) =
      let one = made_here names parts all (parts_read parts last are) found.1 in
      let same : Some fault ≡ None = found.2 ∙ ap (directives_fault (config_of last.settings).names) one.all_is in cc

pub no-fault : (rules : ℕ) (made : List Made) (fault : Fault) → rules ≤ 200
    → IsFirstFault source_options (source_files rules) source_name made (Some fault) → ⊥
no-fault rules made fault few is =
    by (subst (λ (s : Split). IsFaultOfPieces source_options (expansion source_options (source_files rules) source_name).met.names s made
    (Some fault))
    (expansion-source rules (omega arith)) is)
  where
    by : IsFaultOfPieces source_options (expansion source_options (source_files rules) source_name).met.names
        (Ok (source_pieces rules)) made (Some fault) → ⊥
    by (inl (inl found)) = no_fault rules few fault found
    by (inl (inr (after, content, block, found))) = found
    by (inr found) = no_fault_behind rules few (expansion source_options (source_files rules) source_name).met.names made fault found

-- ---- what is made of it

-- of a source with an output one piece with a scanner is made
pub output-scanner : (rules : ℕ) (made : List Made) (output : List ℕ) → rules ≤ 200
    → IsOutput source_options (source_files rules) source_name made output → HasOneScanner made
output-scanner rules made output few is =
    let same : is.pieces ≡ source_pieces rules = let found = sym is.pieces_are ∙ expansion-source rules (omega arith) in cc in
    let are = subst (λ (l : List SourcePiece). AreParts source_options first_environment l is.is.parts is.is.last) same is.is.parts_are in
    made_here rules few (expansion source_options (source_files rules) source_name).met.names is.is.parts made
    (parts_read rules few is.is.parts is.is.last are) is.is.made_are

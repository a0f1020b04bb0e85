-- What is given where warnings are asked for may be given without them.
use Rattle.std.proofs.Common.{◌∙◌, ℕ, suc, List, [], ◌∷◌, Option, Result, refl, sym, ap, subst}
use Rattle.std.specs.Prelude.{if◌then◌else◌}
use Rattle.lx_base.specs.declared.blocks.BlockKind.{BlockKind}
use Rattle.lx_base.specs.declared.faults.Fault.{Fault}
use Rattle.lx_base.specs.declared.places.Pos.{Pos}
use Rattle.lx_base.specs.declared.settings.Options.{Options}
use Rattle.lx_ccode.specs.declared.piece.LineMark.{LineMark}
use Rattle.lx_ccode.specs.declared.piece.Piece.{Piece}
use Rattle.lx_files.specs.declared.files.HeldFile.{HeldFile}
use Rattle.lx_forms.specs.Lexemes.{Lexeme}
use Rattle.lx_parse.specs.declared.items.Item.{Item}
use Rattle.lx_rules.specs.Blocks.{Resolves}
use Rattle.lx_rules.specs.Environments.{Environment, config_of, first_environment}
use Rattle.lx_rules.specs.Items.{Goes, State, ends, next, refused}
use Rattle.lx_rules.specs.declared.resolved.Act.{Act}
use Rattle.lx_rules.specs.declared.resolved.Resolved.{Resolved}
use Rattle.lx_rules.specs.declared.resolved.Scanner.{Scanner}
use Rattle.lx_split.specs.Includes.{Expansion, expansion}
use Rattle.lx_split.specs.declared.pieces.SourcePiece.{SourcePiece}
use Rattle.lx_split.specs.declared.pieces.SourcePiece.TheVariants as piece
use Rattle.lx_compile.specs.Blocks.{IsBlock, asks, gives_nothing, resolves}
use Rattle.lx_compile.specs.Covering.{AreCoveredBy}
use Rattle.lx_compile.specs.FirstFault.{setting_of}
use Rattle.lx_compile.specs.Made.{AreMade, IsScannerPiece, Setting}
use Rattle.lx_compile.specs.Options.{asks_for_cover, out_name}
use Rattle.lx_compile.specs.Output.{IsGiven, IsOutput, IsOutputOf}
use Rattle.lx_compile.specs.Parts.{AreParts}
use Rattle.lx_compile.specs.Warnings.{quiet_made, quiet_options}
use Rattle.lx_compile.specs.declared.made.Made.{Made}
use Rattle.lx_compile.specs.declared.made.Made.TheVariants as made
use Rattle.lx_compile.specs.declared.parts.Content.{Content}
use Rattle.lx_compile.specs.declared.parts.Content.TheVariants.{Asks, Scanners}
use Rattle.lx_compile.specs.declared.parts.Part.{Part}
use Rattle.lx_compile.specs.declared.parts.Part.TheVariants.{Outside, Block}
use Rattle.lx_compile.proofs.QuietSources.{expansion-quiet}
use Rattle.lx_compile.proofs.QuietTexts.{cover-quiet, directives-quiet, output-quiet}

-- ---- blocks

module _ (options : Options) where
  goes-quiet : (lexemes : List Lexeme) {state : State} {items : List Item} {result : Result State Fault} → Goes options lexemes state items result
      → Goes (quiet_options options) lexemes state items result
  goes-quiet lexemes ends = ends
  goes-quiet lexemes (refused fault checks) = refused fault checks
  goes-quiet lexemes (next after checks becomes goes) = next after checks becomes (goes-quiet lexemes goes)

  resolves-quiet : (kind : BlockKind) (at : Pos) (environment : Environment) (lexemes : List Lexeme) (items : List Item) (after : Environment)
      (resolved : Resolved) → Resolves options kind at environment lexemes items after resolved
      → Resolves (quiet_options options) kind at environment lexemes items after resolved
  resolves-quiet kind at environment lexemes items after resolved is = record {
    opening = is.opening;
    state = is.state;
    goes = goes-quiet lexemes is.goes;
    checked = is.checked;
    after_is = is.after_is;
    ends = is.ends;
  }

  block-quiet : (environment : Environment) (kind : BlockKind) (body : List ℕ) (at start : Pos) (after : Environment) (content : Content)
      → IsBlock options environment kind body at start after content → IsBlock (quiet_options options) environment kind body at start after content
  block-quiet environment kind body at start after content (resolves tokens items resolved has read is gives) =
      resolves tokens items resolved has read (resolves-quiet kind at environment _ items after resolved is) gives
  block-quiet environment kind body at start after content (asks tokens items directs read is gives) = asks tokens items directs read is gives
  block-quiet environment kind body at start after content (gives_nothing none is gives) = gives_nothing none is gives

  parts-quiet : (environment : Environment) (pieces : List SourcePiece) (parts : List Part) (last : Environment)
      → AreParts options environment pieces parts last → AreParts (quiet_options options) environment pieces parts last
  parts-quiet environment [] [] last are = are
  parts-quiet environment [] (part ∷ parts) last are = absurd are
  parts-quiet environment (piece.Outside text ∷ pieces) [] last are = absurd are
  parts-quiet environment (piece.Outside text ∷ pieces) (Block place line content ∷ parts) last are = absurd are
  parts-quiet environment (piece.Outside text ∷ pieces) (Outside other ∷ parts) last are =
      (are.0, parts-quiet environment pieces parts last are.1)
  parts-quiet environment (piece.Block kind body at start end_line ∷ pieces) [] last are = absurd are
  parts-quiet environment (piece.Block kind body at start end_line ∷ pieces) (Outside other ∷ parts) last are = absurd are
  parts-quiet environment (piece.Block kind body at start end_line ∷ pieces) (Block place line content ∷ parts) last are = (
    are.0,
    are.1,
    (are.2.0, block-quiet environment kind body at start are.2.0 content are.2.1, parts-quiet are.2.0 pieces parts last are.2.2),
  )

  -- ---- what is made

  covered-quiet : (number : ℕ) (acts : List Act) (scanners : List Scanner) (text : List ℕ) → AreCoveredBy options number acts scanners text
      → AreCoveredBy (quiet_options options) number acts scanners text
  covered-quiet number acts [] text are = are
  covered-quiet number acts (scanner ∷ scanners) text are = (are.0, are.1, are.2, covered-quiet number acts scanners are.1 are.3, are.4)

-- what holds for all pieces, where no warnings are asked for
abbrev quiet_setting : Setting → Setting
quiet_setting setting = record { options = quiet_options setting.options; names = setting.names; own_switch = setting.own_switch }

piece-quiet : (setting : Setting) (number first_state : ℕ) (line : Option LineMark) (resolved : Resolved) (piece : Piece) (checks : List (List ℕ))
    → IsScannerPiece setting number first_state line resolved piece checks
    → IsScannerPiece (quiet_setting setting) number first_state line resolved piece checks
piece-quiet setting number first_state line resolved piece checks is = record {
  autos = is.autos;
  automata = is.automata;
  reduced = is.reduced;
  generated = is.generated;
  right = is.right;
  live = is.live;
}

made-quiet : (setting : Setting) (number first_state : ℕ) (parts : List Part) (all : List Made) → AreMade setting number first_state parts all
    → AreMade (quiet_setting setting) number first_state parts (quiet_made all)
made-quiet setting number first_state [] [] are = tt
made-quiet setting number first_state [] (one ∷ all) are = absurd are
made-quiet setting number first_state (Outside text ∷ parts) [] are = absurd are
made-quiet setting number first_state (Outside text ∷ parts) (made.Outside other ∷ all) are =
    (are.0, made-quiet setting number first_state parts all are.1)
made-quiet setting number first_state (Outside text ∷ parts) (made.Scanners piece checks warnings cover groups ∷ all) are = absurd are
made-quiet setting number first_state (Outside text ∷ parts) (made.Bare at line directive ∷ all) are = absurd are
made-quiet setting number first_state (Block at line content ∷ parts) [] are = absurd are
made-quiet setting number first_state (Block at line (Scanners resolved) ∷ parts) (made.Outside other ∷ all) are = absurd are.1
made-quiet setting number first_state (Block at line (Scanners resolved) ∷ parts) (made.Scanners piece checks warnings cover groups ∷ all) are = (
  are.0,
  (
    piece-quiet setting number first_state _ resolved piece checks are.1.0,
    refl,
    covered-quiet setting.options number resolved.acts resolved.scanners cover are.1.2,
    are.1.3,
    are.1.4,
  ),
  made-quiet setting (suc number) are.0 parts all are.2,
)
made-quiet setting number first_state (Block at line (Scanners resolved) ∷ parts) (made.Bare place mark directive ∷ all) are = absurd are.1
made-quiet setting number first_state (Block at line (Asks directive) ∷ parts) (made.Outside other ∷ all) are = absurd are.1
made-quiet setting number first_state (Block at line (Asks directive) ∷ parts) (made.Scanners piece checks warnings cover groups ∷ all) are = absurd are.1
made-quiet setting number first_state (Block at line (Asks directive) ∷ parts) (made.Bare place mark other ∷ all) are =
    (are.0, are.1, made-quiet setting (suc number) are.0 parts all are.2)

-- ---- outputs

module _ (options : Options) where
  IsOutputOf-quiet : (names : List (List ℕ)) (pieces : List SourcePiece) (made : List Made) (output : List ℕ) → IsOutputOf options names pieces made output
      → IsOutputOf (quiet_options options) names pieces (quiet_made made) output
  IsOutputOf-quiet names pieces made output is =
      let spellings = (config_of is.last.settings).names in record {
        parts = is.parts;
        last = is.last;
        parts_are = parts-quiet options first_environment pieces is.parts is.last is.parts_are;
        made_are = made-quiet (setting_of options names is.parts) 1 0 is.parts made is.made_are;
        no_fault = directives-quiet spellings made ∙ is.no_fault;
        text = is.text ∙ sym (output-quiet spellings (out_name options) made);
      }

  IsOutput-quiet : (seen : List HeldFile) (main : List ℕ) (made : List Made) (output : List ℕ) → IsOutput options seen main made output
      → IsOutput (quiet_options options) seen main (quiet_made made) output
  IsOutput-quiet seen main made output is =
      let same = expansion-quiet options seen main in record {
        pieces = is.pieces;
        pieces_are = ap (λ (whole : Expansion). whole.found) same ∙ is.pieces_are;
        is =
            subst (λ (whole : Expansion). IsOutputOf (quiet_options options) whole.met.names is.pieces (quiet_made made) output) (sym same)
            (IsOutputOf-quiet (expansion options seen main).met.names is.pieces made output is.is);
      }

pub IsGiven-quiet : (options : Options) (seen : List HeldFile) (main text : List ℕ) (made : List Made) → IsGiven options seen main made text
    → IsGiven (quiet_options options) seen main (quiet_made made) text
IsGiven-quiet options seen main text made is = (
  is.0,
  IsOutput-quiet options seen main made is.0 is.1,
  is.2 ∙ ap (λ (cover : List ℕ). if asks_for_cover options then cover else is.0) (sym (cover-quiet made)),
)

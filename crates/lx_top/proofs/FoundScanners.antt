-- The scanner that is read from the output of a generated source.
use Rattle.std.proofs.Common.{◌≡◌, ◌∙◌, ℕ, ◌+◌, ◌≤◌, List, [], ◌∷◌, ◌++◌, Option, Some, None, Result, Ok, Err, MatchResult, refl, ap, sym}
use Rattle.std.specs.Prelude.{if◌then◌else◌, min, take}
use Rattle.std.proofs.lemmas.Bool.{false≢true}
use Rattle.lx_ccode.specs.Text.{line_after, piece_text}
use Rattle.lx_ccode.specs.declared.piece.LineMark.{LineMark}
use Rattle.lx_ccode.specs.declared.piece.Piece.{Piece}
use Rattle.lx_compile.specs.Cut.{IsFound}
use Rattle.lx_compile.specs.Options.{out_name}
use Rattle.lx_compile.specs.Output.{last_names}
use Rattle.lx_compile.specs.Writing.{place_of}
use Rattle.lx_compile.specs.declared.made.Made.{Made}
use Rattle.lx_compile.specs.declared.made.Made.TheVariants as made
use Rattle.lx_compile.proofs.FoundPieces.{is_found}
use Rattle.lx_creader.specs.Cut.{HasNoOpener}
use Rattle.lx_creader.proofs.BareParts.{HasNoOpener-places}
use Rattle.lx_source.proofs.MadeScanners.{HasOneScanner}
use Rattle.lx_source.proofs.SourceFaults.{output-scanner}
use Rattle.lx_source.specs.Sources.{source_files, source_name, source_options}
use Rattle.lx_top.specs.Emitted.{Scans}
use Rattle.lx_top.specs.Sources.{IsSourceOutput}
use Rattle.lx_top.specs.Steps.{HaltsScan}
use Rattle.lx_top.specs.declared.endings.Halt.{Halt}
use Rattle.lx_top.specs.declared.endings.Halt.TheVariants as halt
use Rattle.lx_top.proofs.EmittedLemmas.{Scans-unique, read-or_not}

source_name-plain : HasNoOpener source_name
source_name-plain = HasNoOpener-places source_name (refl, (refl, (refl, (refl, (refl, (refl, (refl, (refl, (refl, tt)))))))))

module _ (rules : ℕ) (all : List Made) (output : List ℕ) (few : rules ≤ 200) (is : IsSourceOutput rules all output) where
  made_one : HasOneScanner all
  made_one = output-scanner rules all output few is

  found_one : IsFound (last_names is) (out_name source_options) all [] (made.Scanners made_one.piece made_one.checks made_one.warnings made_one.cover made_one.groups) output
  found_one =
      is_found source_options (source_files rules) source_name output all source_name-plain tt (λ named. absurd (false≢true named)) is [] (made.Scanners made_one.piece made_one.checks made_one.warnings made_one.cover made_one.groups)
      (made.Outside made_one.text ∷ []) made_one.all_is

  -- the line where it begins
  abbrev begin_line : ℕ
  begin_line = line_after 1 (take found_one.offset output)

  -- its text tells no line of the output
  no_place : place_of (out_name source_options) begin_line made_one.piece ≡ None
  no_place =
      ap (λ t. if t then Some (record { line = min (begin_line + 4) 4294967295; file = out_name source_options }) else None)
      (sym made_one.placed.stands)

  -- the scanner that was made is read
  scans_one : Scans output None made_one.piece
  scans_one = record {
    offset = found_one.offset;
    first = found_one.first_scanner tt refl;
    begins = record {
      valid = made_one.valid;
      place = None;
      placed = made_one.placed;
      rest = found_one.rest;
      text = found_one.stands ∙ ap (λ place. piece_text place made_one.piece ++ found_one.rest) no_place;
    };
  }

  -- so one is read, whose units are bytes
  pub found-unit : (ended : Result Piece Halt) → MatchResult ended (Scans output None) (HaltsScan output None)
      → MatchResult ended (λ (piece : Piece). piece.unit ≡ 1) (λ halted. halted ≡ halt.OutOfMemory)
  found-unit (Ok piece) scans = ap (λ (read : Piece). read.unit) (Scans-unique output None piece made_one.piece scans scans_one) ∙ made_one.unit
  found-unit (Err (halt.Fault fault)) halts = absurd (read-or_not output None halts.0 made_one.piece halts.1 scans_one)
  found-unit (Err halt.ReadFailed) halts = absurd halts
  found-unit (Err halt.PutFailed) halts = absurd halts
  found-unit (Err halt.OutOfMemory) halts = refl

-- The output of a source is cut at its marks into the texts and the pieces of the source.
use Rattle.std.proofs.Common.{◌≡◌, ℕ, suc, ◌+◌, ◌<◌, ◌≤◌, ◌^◌, ◌∙◌, arith, Bool, true, false, List, [], ◌∷◌, ◌++◌, length, codes, Option, Some, None, refl, sym, ap, subst, append_assoc}
use Rattle.std.specs.Prelude.{IfSome, ◌≢◌, ◌||◌, if◌then◌else◌, is_some, slice_index_or}
use Rattle.std.specs.List.{AllByRecursion}
use Rattle.std.specs.Option.{option_or}
use Rattle.std.proofs.lemmas.Bool.{false≢true}
use Rattle.std.proofs.lemmas.List.Elements.{recursion_from_All}
use Rattle.lx_base.specs.Letters.{begins_with}
use Rattle.lx_base.specs.Names.{Spellings}
use Rattle.lx_base.specs.declared.blocks.BlockKind.{BlockKind}
use Rattle.lx_base.specs.declared.faults.Fault.TheVariants.{BadValue}
use Rattle.lx_base.specs.declared.places.Pos.{Pos}
use Rattle.lx_base.specs.declared.settings.Options.{Options}
use Rattle.lx_ccode.specs.Bodies.{body_then}
use Rattle.lx_ccode.specs.Heads.{is_format_three, is_three}
use Rattle.lx_ccode.specs.Marks.{EndsMarks, HasNoBegin, IsUnmarkedLine, begins_piece}
use Rattle.lx_ccode.specs.Statements.{all_statements}
use Rattle.lx_ccode.specs.Text.{line_after, line_then}
use Rattle.lx_ccode.specs.Validity.{IsLine, IsShort}
use Rattle.lx_ccode.specs.declared.piece.LineMark.{LineMark}
use Rattle.lx_ccode.specs.declared.piece.Piece.{Piece}
use Rattle.lx_ccode.proofs.BeginMarks.{HasNoBegin-ends, Stops}
use Rattle.lx_ccode.proofs.BeginSections.{HasNoBegin-piece}
use Rattle.lx_creader.specs.Cut.{AreCut, HasNoOpener, OutputPart, bare, begins_outside, outside, part_text, parts_text, scanner}
use Rattle.lx_creader.proofs.BareParts.{HasNoBegin-bare, HasNoOpener-places, HasPlainFile, OpensNowhere, bare_text, body_then-append, has_no_opener-append, has_no_opener-nil, line_has_no_opener}
use Rattle.lx_files.specs.declared.files.HeldFile.{HeldFile}
use Rattle.lx_gen.specs.Generated.{marks_of}
use Rattle.lx_rules.specs.Environments.{Environment, first_environment}
use Rattle.lx_rules.specs.declared.resolved.Resolved.{Resolved}
use Rattle.lx_split.specs.Cuts as split
use Rattle.lx_split.specs.Cuts.{AreApart, HasNoMark, source_text}
use Rattle.lx_split.specs.Expanded.{AreExpanded, IsPieceWithin}
use Rattle.lx_split.specs.Includes.{expansion}
use Rattle.lx_split.specs.Marks.{begins_mark}
use Rattle.lx_split.specs.Openers.{word_of}
use Rattle.lx_split.specs.declared.pieces.SourcePiece.{SourcePiece}
use Rattle.lx_split.specs.declared.pieces.SourcePiece.TheVariants as piece
use Rattle.lx_split.proofs.CleanNames.{expansion-clean}
use Rattle.lx_split.proofs.ExpandedPieces.{expansion-sound}
use Rattle.lx_compile.specs.Cut.{output_part, output_parts}
use Rattle.lx_compile.specs.Facts.{body_of, directive_fault, fault_among, has_wrong_strings, holds_opener, missing_fault, pieces_among, text_fault}
use Rattle.lx_compile.specs.FirstFault.{setting_of}
use Rattle.lx_compile.specs.Made.{AreMade, IsMadeOf, IsScannerPiece, Setting, line_mark}
use Rattle.lx_compile.specs.Options.{names_output, out_name}
use Rattle.lx_compile.specs.Output.{IsOutput, last_names}
use Rattle.lx_compile.specs.Parts.{AreParts}
use Rattle.lx_compile.specs.Writing.{made_text, number_behind, place_of, text_among}
use Rattle.lx_compile.specs.declared.made.Made.{Made}
use Rattle.lx_compile.specs.declared.made.Made.TheVariants as made
use Rattle.lx_compile.specs.declared.parts.Content.{Content}
use Rattle.lx_compile.specs.declared.parts.Content.TheVariants.{Asks, Scanners}
use Rattle.lx_compile.specs.declared.parts.Directive.{Directive}
use Rattle.lx_compile.specs.declared.parts.Part.{Part}
use Rattle.lx_compile.specs.declared.parts.Part.TheVariants.{Outside, Block}
use Rattle.lx_compile.proofs.ActionSlices.{ArePlainActs, HasPlainActs, KeepsPlain, acts_of_block}
use Rattle.lx_compile.proofs.PieceActions.{all_unmarked}
use Rattle.lx_compile.proofs.PlacedPieces.{IsPlaced-place_of, IsUnmarkedLine-place_of, has_place, names_output-placed}
use Rattle.lx_compile.proofs.UnmarkedTexts.{ArePlain, ArePlain-all, HasNoBegin-unmarked, HasNoMark-behind, IsUnmarkedLine-plain, not_begun}

-- ---- the text of the parts

module _ (names : Spellings) (out : List ℕ) (all : List Made) where
  pub part_text-made : (number line : ℕ) (one : Made)
      → part_text (output_part names out all number line one) ≡ made_text names out all number line one
  part_text-made number line (made.Outside text) = refl
  part_text-made number line (made.Scanners piece checks warnings cover groups) = refl
  part_text-made number line (made.Bare at mark directive) = bare_text number names (body_of all directive) mark

  pub parts_text-among : (number line : ℕ) (some : List Made)
      → text_among names out all number line some ≡ parts_text (output_parts names out all number line some)
  parts_text-among number line [] = refl
  parts_text-among number line (one ∷ some) =
      let text : List ℕ = made_text names out all number line one in
      let next : ℕ = line_after line text in
      ap (λ (l : List ℕ). text ++ l) (parts_text-among (number_behind number one) next some)
      ∙ ap (λ (l : List ℕ). l ++ parts_text (output_parts names out all (number_behind number one) next some))
      (sym (part_text-made number line one))

-- ---- directives without a fault

option_or-none : {A : Type 0} (first rest : Option A) → option_or first rest ≡ None → (first ≡ None) × (rest ≡ None)
option_or-none None rest is = (refl, is)
option_or-none (Some fault) rest is = absurd cc

OpensNowhere-none : (text : List ℕ) → holds_opener text ≡ false → OpensNowhere text
OpensNowhere-none [] none = tt
OpensNowhere-none (letter ∷ text) none = by (begins_with (codes "/*!") (letter ∷ text)) refl none (OpensNowhere-none text)
  where
    by : (flag : Bool) → begins_with (codes "/*!") (letter ∷ text) ≡ flag → (if flag then true else holds_opener text) ≡ false
        → (holds_opener text ≡ false → OpensNowhere text) → OpensNowhere (letter ∷ text)
    by true is k rest = absurd (false≢true (sym k))
    by false is k rest = (is, rest k)

-- no opener begins in the text of a directive without a fault
unless_wrong : (at : Pos) (wrong holds : Bool) → (if wrong || holds then Some (BadValue at) else None) ≡ None → holds ≡ false
unless_wrong at true holds is = absurd cc
unless_wrong at false true is = absurd cc
unless_wrong at false false is = refl

module _ (names : Spellings) (all : List Made) where
  body_has_no_opener : (at : Pos) (directive : Directive) → directive_fault names all at directive ≡ None
      → HasNoOpener (body_then names (body_of all directive) [])
  body_has_no_opener at directive none =
      let text : List ℕ = body_then names (body_of all directive) [] in
      let fault = option_or-none (missing_fault (pieces_among all) at directive) (text_fault names all at directive) none in
      HasNoOpener-places text (OpensNowhere-none text (unless_wrong at (has_wrong_strings directive) (holds_opener text) fault.1))

  -- the directive has no fault, if it is one
  abbrev HasNoFault : Made → Type 0
  HasNoFault (made.Bare at line directive) = directive_fault names all at directive ≡ None
  HasNoFault _ = Unit {0}

  no_faults : (some : List Made) → fault_among names all some ≡ None → AllByRecursion HasNoFault some
  no_faults [] none = tt
  no_faults (made.Outside text ∷ some) none = (tt, no_faults some none)
  no_faults (made.Scanners piece checks warnings cover groups ∷ some) none = (tt, no_faults some none)
  no_faults (made.Bare at line directive ∷ some) none =
      let both = option_or-none (directive_fault names all at directive) (fault_among names all some) none in
      (both.0, no_faults some both.1)

line_stops : (line : Option LineMark) → Stops (codes "*!") (line_then line [])
line_stops None = tt
line_stops (Some mark) = refl

-- ---- no part completes a mark behind a slash, where none does so in the source

slash_cut : (cut : List OutputPart) (text source : List ℕ) → begins_piece (47 ∷ text ++ source) ≡ false → EndsMarks (parts_text cut)
    → HasNoBegin text source → begins_piece (47 ∷ text ++ parts_text cut) ≡ false
slash_cut cut text source slash ends free =
    (HasNoBegin-ends (47 ∷ text) source (parts_text cut) ends (slash, free)).0

ends_marks : (cut : List OutputPart) → begins_outside cut ≡ false → EndsMarks (parts_text cut)
ends_marks [] none = tt
ends_marks (outside text ∷ cut) none = absurd (false≢true (sym none))
ends_marks (scanner place piece ∷ cut) none = refl
ends_marks (bare number inner ∷ cut) none = refl

slash_ends : (cut : List OutputPart) → begins_outside cut ≡ false → begins_piece (47 ∷ parts_text cut) ≡ false
slash_ends [] none = refl
slash_ends (outside text ∷ cut) none = absurd (false≢true (sym none))
slash_ends (scanner place piece ∷ cut) none = refl
slash_ends (bare number inner ∷ cut) none = refl

-- a block's text ends with a slash
block_end : (kind : BlockKind) (body : List ℕ) (more : List ℕ)
    → ((codes "/*!" ++ word_of kind) ++ body ++ codes "*/") ++ more ≡ ((codes "/*!" ++ word_of kind) ++ body ++ codes "*") ++ 47 ∷ more
block_end kind body more =
    append_assoc ((codes "/*!" ++ word_of kind) ++ body) (codes "*/") more ∙ sym (append_assoc ((codes "/*!" ++ word_of kind) ++ body) (codes "*") (47 ∷ more))

-- no mark is completed where a block follows
slash_apart : (pieces : List SourcePiece) → split.begins_outside pieces ≡ false → begins_mark (47 ∷ source_text pieces) ≡ false
slash_apart [] none = refl
slash_apart (piece.Outside text ∷ pieces) none = absurd (false≢true (sym none))
slash_apart (piece.Block kind body at start end_line ∷ pieces) none = refl

-- ---- the parts

-- the line behind a block can be told
abbrev EndsInRange : SourcePiece → Type 0
EndsInRange (piece.Outside text) = Unit {0}
EndsInRange (piece.Block kind body at start end_line) = end_line ≤ 16777217

ends_in_range : (count : ℕ) (pieces : List SourcePiece) → AllByRecursion (IsPieceWithin count) pieces → AllByRecursion EndsInRange pieces
ends_in_range count [] sound = tt
ends_in_range count (piece.Outside text ∷ pieces) sound = (tt, ends_in_range count pieces sound.1)
ends_in_range count (piece.Block kind body at start end_line ∷ pieces) sound = (sound.0.last, ends_in_range count pieces sound.1)

plain_marks : (line : Option LineMark) (names : List (List ℕ)) → ArePlain names → IfSome (marks_of line names) ArePlain
plain_marks None names plain = tt
plain_marks (Some mark) names plain = plain

-- the cut of an output from a part on, which begins in a line
record IsCutFrom
    (names : Spellings) (out : List ℕ) (all : List Made) (number begin : ℕ) (pieces : List SourcePiece) (some : List Made)
    : Type 0 where
  is_cut : AreCut (output_parts names out all number begin some)
  slash : begins_piece (47 ∷ parts_text (output_parts names out all number begin some)) ≡ false
  outside_first : begins_outside (output_parts names out all number begin some) ≡ split.begins_outside pieces

-- a text outside of blocks before the rest
cut_outside : (names : Spellings) (out : List ℕ) (all : List Made) (number begin : ℕ) (text other : List ℕ) (pieces : List SourcePiece)
    (some : List Made) → other ≡ text → IsCutFrom names out all number (line_after begin text) pieces some → text ≢ []
    → split.begins_outside pieces ≡ false → HasNoMark (text ++ source_text pieces) → begins_mark (47 ∷ text ++ source_text pieces) ≡ false
    → IsCutFrom names out all number begin (piece.Outside text ∷ pieces) (made.Outside other ∷ some)
cut_outside names out all number begin text other pieces some same rest nonempty apart none slash =
    let cut : List OutputPart = output_parts names out all number (line_after begin text) some in
    let none_outside : begins_outside cut ≡ false = rest.outside_first ∙ apart in
    let ends = ends_marks cut none_outside in
    let free = HasNoBegin-unmarked text (source_text pieces) none in
    subst (λ (l : List ℕ). IsCutFrom names out all number begin (piece.Outside text ∷ pieces) (made.Outside l ∷ some)) (sym same) (record {
      is_cut = (nonempty, none_outside, HasNoBegin-ends text (source_text pieces) (parts_text cut) ends free, rest.is_cut);
      slash = slash_cut cut text (source_text pieces) (not_begun (47 ∷ text ++ source_text pieces) slash) ends free;
      outside_first = refl;
    })

module _ (options : Options) (names : Spellings) (out : List ℕ) (all : List Made) (setting : Setting) (plain : ArePlain setting.names)
    (plain_out : names_output setting.options ≡ true → HasNoOpener out) where
  line_plain : (at : Pos) (line : ℕ) → HasPlainFile (line_mark setting at line)
  line_plain at line = by setting.options.lines
    where
      by : (lines : Bool) → HasPlainFile (if lines then Some (record { line = line; file = slice_index_or setting.names at.file [] }) else None)
      by true = plain at.file
      by false = tt

  line_short : (at : Pos) (line : ℕ) → line ≤ 16777217 → IsLine (line_mark setting at line)
  line_short at line range = by setting.options.lines
    where
      by : (lines : Bool) → IsLine (if lines then Some (record { line = line; file = slice_index_or setting.names at.file [] }) else None)
      by true = omega (arith, range)
      by false = tt

  abbrev mark_where : Pos → (line : ℕ) → (lines : Bool) → Option LineMark
  mark_where at line lines = if lines then Some (record { line = line; file = slice_index_or setting.names at.file [] }) else None

  line_told : (at : Pos) (line : ℕ) → is_some (line_mark setting at line) ≡ setting.options.lines
  line_told at line = by setting.options.lines
    where
      by : (lines : Bool) → is_some (mark_where at line lines) ≡ lines
      by true = refl
      by false = refl

  cut_scanners : (number first_state begin : ℕ) (at : Pos) (line : ℕ) (resolved : Resolved) (piece : Piece) (checks : List (List ℕ))
      (rest : List OutputPart) → IsScannerPiece setting number first_state (line_mark setting at line) resolved piece checks
      → ArePlainActs resolved.acts → begins_piece (47 ∷ parts_text rest) ≡ false → AreCut rest
      → AreCut (scanner (place_of out begin piece) piece ∷ rest)
  cut_scanners number first_state begin at line resolved piece checks rest is acts slash cut =
      let given = is.generated in
      let mark : Option LineMark = line_mark setting at line in
      let three : is_three piece.head ≡ is_format_three setting.options.format = ap is_three given.fields.head in
      let told : is_some piece.line ≡ setting.options.lines = ap is_some given.fields.line ∙ line_told at line in
      let named : has_place piece ≡ true → HasNoOpener out =
      (λ has. plain_out (names_output-placed setting.options piece three told has)) in
      let placed = IsPlaced-place_of out begin piece in (
        given.valid,
        placed,
        HasNoBegin-piece (place_of out begin piece) piece (parts_text rest) given.valid placed
            (all_unmarked (marks_of mark setting.names) (plain_marks mark setting.names plain) resolved.acts resolved.scanners is.autos checks
            (all_statements piece.blocks) acts given.actions)
            (subst IsUnmarkedLine (sym given.fields.line) (IsUnmarkedLine-plain mark (line_plain at line)))
            (IsUnmarkedLine-place_of out begin piece named) slash,
        cut,
      )

  inner_has_no_opener : (at : Pos) (line : ℕ) (directive : Directive) → line ≤ 16777217 → directive_fault names all at directive ≡ None
      → HasNoOpener (body_then names (body_of all directive) (line_then (line_mark setting at line) []))
  inner_has_no_opener at line directive range none =
      let mark : Option LineMark = line_mark setting at line in
      subst HasNoOpener (sym (body_then-append names (body_of all directive) (line_then mark [])))
      (has_no_opener-append (body_then names (body_of all directive) []) (line_then mark []) (line_stops mark) (body_has_no_opener names all at directive none)
      (line_has_no_opener mark [] (line_short at line range) (line_plain at line) has_no_opener-nil))

  cut_bare : (number : ℕ) (inner : List ℕ) (rest : List OutputPart) → IsShort number → HasNoOpener inner
      → begins_piece (47 ∷ parts_text rest) ≡ false → AreCut rest → AreCut (bare number inner ∷ rest)
  cut_bare number inner rest short none slash cut =
      (short, none, HasNoBegin-bare number inner (parts_text rest) short none slash, cut)

  -- the piece of a block is cut, before parts that complete no mark
  cut_block : (number first_state next begin : ℕ) (at : Pos) (line : ℕ) (content : Content) (one : Made) (rest : List OutputPart)
      → IsMadeOf setting number first_state next at line content one → HasPlainActs content → line ≤ 16777217 → HasNoFault names all one
      → IsShort number → begins_piece (47 ∷ parts_text rest) ≡ false → AreCut rest
      → AreCut (output_part names out all number begin one ∷ rest)
  cut_block number first_state _ begin at line (Scanners resolved) (made.Scanners piece checks _ _ _) rest is acts _ _ _ slash cut =
      cut_scanners number first_state begin at line resolved piece checks rest is.0 acts slash cut
  cut_block number first_state next begin at line (Asks directive) (made.Bare place mark other) rest is acts range none short slash cut =
      cut_bare number (body_then names (body_of all other) (line_then mark [])) rest short
      (subst (λ (m : Option LineMark). HasNoOpener (body_then names (body_of all other) (line_then m []))) (sym is.1)
      (inner_has_no_opener at line other range (subst (λ (p : Pos). directive_fault names all p other ≡ None) is.0 none))) slash cut
  cut_block _ _ _ _ _ _ (Scanners _) (made.Outside _) _ is _ _ _ _ _ _ = absurd is
  cut_block _ _ _ _ _ _ (Scanners _) (made.Bare _ _ _) _ is _ _ _ _ _ _ = absurd is
  cut_block _ _ _ _ _ _ (Asks _) (made.Outside _) _ is _ _ _ _ _ _ = absurd is
  cut_block _ _ _ _ _ _ (Asks _) (made.Scanners _ _ _ _ _) _ is _ _ _ _ _ _ = absurd is

  -- it is no outside text, and has a number
  record IsNumbered (number begin : ℕ) (one : Made) : Type 0 where
    not_outside : (rest : List OutputPart) → begins_outside (output_part names out all number begin one ∷ rest) ≡ false
    behind : suc number ≡ number_behind number one

  block_is_numbered : (number first_state next begin : ℕ) (at : Pos) (line : ℕ) (content : Content) (one : Made)
      → IsMadeOf setting number first_state next at line content one → IsNumbered number begin one
  block_is_numbered number first_state next begin at line content (made.Scanners piece checks warnings cover groups) is =
      record { not_outside = λ rest. refl; behind = refl }
  block_is_numbered number first_state next begin at line content (made.Bare place mark other) is =
      record { not_outside = λ rest. refl; behind = refl }
  block_is_numbered number first_state next begin at line (Scanners resolved) (made.Outside text) is = absurd is
  block_is_numbered number first_state next begin at line (Asks directive) (made.Outside text) is = absurd is

  -- the line behind what is made, which begins in a line
  abbrev line_past : (number begin : ℕ) → Made → ℕ
  line_past number begin one = line_after begin (made_text names out all number begin one)

  cut_piece : (kind : BlockKind) (body : List ℕ) (at start : Pos) (end_line : ℕ) (pieces : List SourcePiece) (one : Made) (some : List Made)
      (number begin : ℕ)
      → AreCut (output_part names out all number begin one ∷ output_parts names out all (suc number) (line_past number begin one) some)
      → IsNumbered number begin one → IsCutFrom names out all number begin (piece.Block kind body at start end_line ∷ pieces) (one ∷ some)
  cut_piece kind body at start end_line pieces one some number begin cut first =
      let next : ℕ = line_past number begin one in
      let none_outside : begins_outside (output_parts names out all number begin (one ∷ some)) ≡ false =
      first.not_outside (output_parts names out all (number_behind number one) next some) in
      record {
        is_cut = subst (λ (n : ℕ). AreCut (output_part names out all number begin one ∷ output_parts names out all n next some))
            first.behind cut;
        slash = slash_ends (output_parts names out all number begin (one ∷ some)) none_outside;
        outside_first = none_outside;
      }

  cut_from : (environment : Environment) (number first_state begin : ℕ) (pieces : List SourcePiece) (parts : List Part) (some : List Made)
      (last : Environment) → AreParts options environment pieces parts last → AreMade setting number first_state parts some
      → AllByRecursion (HasNoFault names all) some → KeepsPlain environment → AllByRecursion EndsInRange pieces → AreApart pieces
      → HasNoMark (source_text pieces) → begins_mark (47 ∷ source_text pieces) ≡ false → number + length pieces < 2 ^ 32
      → IsCutFrom names out all number begin pieces some
  cut_from environment number first_state begin [] [] [] last are given fine keeps range apart none slash few =
      record { is_cut = tt; slash = refl; outside_first = refl }
  cut_from _ _ _ _ [] [] (_ ∷ _) _ are given _ _ _ _ _ _ _ = absurd given
  cut_from _ _ _ _ [] (_ ∷ _) _ _ are given _ _ _ _ _ _ _ = absurd are
  cut_from _ _ _ _ (piece.Outside _ ∷ _) [] _ _ are given _ _ _ _ _ _ _ = absurd are
  cut_from _ _ _ _ (piece.Outside _ ∷ _) (Block _ _ _ ∷ _) _ _ are given _ _ _ _ _ _ _ = absurd are
  cut_from _ _ _ _ (piece.Block _ _ _ _ _ ∷ _) [] _ _ are given _ _ _ _ _ _ _ = absurd are
  cut_from _ _ _ _ (piece.Block _ _ _ _ _ ∷ _) (Outside _ ∷ _) _ _ are given _ _ _ _ _ _ _ = absurd are
  cut_from _ _ _ _ (piece.Outside _ ∷ _) (Outside _ ∷ _) [] _ are given _ _ _ _ _ _ _ = absurd given
  cut_from _ _ _ _ (piece.Outside _ ∷ _) (Outside _ ∷ _) (made.Scanners _ _ _ _ _ ∷ _) _ are given _ _ _ _ _ _ _ = absurd given
  cut_from _ _ _ _ (piece.Outside _ ∷ _) (Outside _ ∷ _) (made.Bare _ _ _ ∷ _) _ are given _ _ _ _ _ _ _ = absurd given
  cut_from environment number first_state begin (piece.Outside text ∷ pieces) (Outside other ∷ parts) (made.Outside third ∷ some)
      last are given fine keeps range apart none slash few =
      cut_outside names out all number begin text third pieces some (given.0 ∙ are.0)
      (cut_from environment number first_state (line_after begin text) pieces parts some last are.1 given.1 fine.1 keeps range.1 apart.2
      (HasNoMark-behind text (source_text pieces) none) (slash_apart pieces apart.1) (omega (arith, few))) apart.0 apart.1 none slash
  cut_from _ _ _ _ (piece.Block _ _ _ _ _ ∷ _) (Block _ _ _ ∷ _) [] _ are given _ _ _ _ _ _ _ = absurd given
  cut_from environment number first_state begin (piece.Block kind body at start end_line ∷ pieces) (Block place line content ∷ parts)
      (one ∷ some) last are given fine keeps range apart none slash few =
      let opener : List ℕ = codes "/*!" ++ word_of kind in
      let source : List ℕ = source_text pieces in
      let within : HasNoMark (opener ++ (body ++ (codes "*/" ++ source))) =
      subst HasNoMark (append_assoc (opener ++ body) (codes "*/") source ∙ append_assoc opener body (codes "*/" ++ source)) none in
      let behind : HasNoMark source = HasNoMark-behind (opener ++ body ++ codes "*/") source none in
      let completes : begins_mark (47 ∷ source) ≡ false = none (opener ++ body ++ codes "*") (47 ∷ source) (block_end kind body source) in
      let acts = acts_of_block options environment kind body at start are.2.0 content are.2.1 (opener, codes "*/" ++ source, within) keeps in
      let next : ℕ = line_past number begin one in
      let rest = cut_from are.2.0 (suc number) given.0 next pieces parts some last are.2.2 given.2 fine.1 acts.1 range.1 apart
      behind completes (omega (arith, few)) in
      let line_range : line ≤ 16777217 = omega (arith, are.1, range.0) in
      let first = block_is_numbered number first_state given.0 begin place line content one given.1 in
      cut_piece kind body at start end_line pieces one some number begin
      (cut_block number first_state given.0 begin place line content one (output_parts names out all (suc number) next some) given.1 acts.0
      line_range fine.0 (omega (arith, few)) rest.slash rest.is_cut) first

pub cut-output : (options : Options) (seen : List HeldFile) (main output : List ℕ) (made : List Made) → HasNoOpener main → IfSome options.dir HasNoOpener
    → (names_output options ≡ true → HasNoOpener (out_name options)) → (is : IsOutput options seen main made output)
    → AreCut (output_parts (last_names is) (out_name options) made 1 1 made)
    × (output ≡ parts_text (output_parts (last_names is) (out_name options) made 1 1 made))
cut-output options seen main output made main_plain dir_plain out_plain is =
    let out : List ℕ = out_name options in
    let whole = expansion options seen main in
    let files : List (List ℕ) = whole.met.names in
    let names : Spellings = last_names is in
    let sound : AreExpanded (length files) is.pieces = expansion-sound options seen main is.pieces is.pieces_are in
    let plain : ArePlain files = ArePlain-all files (expansion-clean options seen main dir_plain main_plain) in
    let ranges = ends_in_range (length files) is.pieces (recursion_from_All (IsPieceWithin (length files)) is.pieces sound.each) in
    let found = cut_from options names out made (setting_of options files is.is.parts) plain out_plain first_environment 1 0 1 is.pieces
    is.is.parts made is.is.last is.is.parts_are is.is.made_are (no_faults names made made is.is.no_fault) tt ranges sound.apart
    sound.no_mark sound.completes_no_mark (omega (arith, sound.few)) in
    (found.is_cut, is.is.text ∙ parts_text-among names out made 1 1 made)

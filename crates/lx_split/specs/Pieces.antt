-- The pieces of a source.
use Rattle.std.specs.Prelude.{◌≡◌, ℕ, zero, suc, ◌+◌, ◌-◌, List, [], ◌∷◌, ◌++◌, length, take, drop, Option, Some, None, Result, Ok, Err}
use Rattle.lx_base.specs.declared.blocks.BlockKind.{BlockKind}
use Rattle.lx_base.specs.declared.places.Pos.{Pos}
use Rattle.lx_base.specs.declared.settings.Options.{Options}
use Rattle.lx_base.specs.declared.faults.Fault.{Fault}
use Rattle.lx_base.specs.declared.faults.Fault.TheVariants.{Directive, MarkInSource, Unclosed}
use Rattle.lx_base.specs.declared.faults.Stop.{Stop}
use Rattle.lx_base.specs.declared.faults.Stop.TheVariants as stop
use Rattle.lx_base.specs.Places.{file_start, place_after}
use Rattle.lx_token.specs.Tokens.{place_of_rest}
use Rattle.lx_split.specs.declared.openers.Opener.{Opener}
use Rattle.lx_split.specs.declared.openers.Opener.TheVariants.{Absent, Refused, Opens}
use Rattle.lx_split.specs.declared.pieces.SourcePiece.{SourcePiece}
use Rattle.lx_split.specs.declared.pieces.SourcePiece.TheVariants.{Outside, Block}
use Rattle.lx_split.specs.Marks.{mark_place}
use Rattle.lx_split.specs.Openers.{word_of, opener_at, from_opener}
use Rattle.lx_split.specs.Bodies.{after_block}

-- the pieces, or the fault by which there are none
abbrev pub Split : Type 0
Split = Result (List SourcePiece) Fault

-- how many bytes the opener of a kind has: `/*!` and its word
abbrev pub opener_size : BlockKind → ℕ
opener_size kind = 3 + length (word_of kind)

-- outside text as a piece; none where it is empty
abbrev pub outside : List ℕ → List SourcePiece
outside [] = []
outside (letter ∷ text) = Outside (letter ∷ text) ∷ []

-- the part of a text that stands before its rest
abbrev pub before : List ℕ → List ℕ → List ℕ
before text rest = take (length text - length rest) text

-- the body of a block, of which these follow its opener and its `*/`
abbrev pub body_before : List ℕ → List ℕ → List ℕ
body_before behind rest = take (length behind - length rest - 2) behind

-- the block of a kind that begins a text at a place and before this rest. Its `*/` stands in the line in which the rest
-- begins
abbrev pub block : BlockKind → Pos → List ℕ → List ℕ → SourcePiece
block kind at text rest =
    Block kind (body_before (drop (opener_size kind) text) rest) at (place_after at (take (opener_size kind) text))
    (place_of_rest at text rest).line

-- at a block's end: the pieces go on behind it; or the block has no end
abbrev pub at_end : (next : List SourcePiece → Pos → List ℕ → Split) → List SourcePiece → BlockKind → Pos → List ℕ → Option (List ℕ) → Split
at_end next done kind at text None = Err (Unclosed at)
at_end next done kind at text (Some rest) = next (done ++ block kind at text rest ∷ []) (place_of_rest at text rest) rest

-- at an opener: it is refused, or its block is a piece; where there is none, nothing is left
abbrev pub at_opener : (next : List SourcePiece → Pos → List ℕ → Split) → List SourcePiece → Pos → List ℕ → Opener → Split
at_opener next done at text Absent = Ok done
at_opener next done at text Refused = Err (Directive at)
at_opener next done at text (Opens kind) =
    at_end next done kind at text (after_block kind (drop (opener_size kind) text))

-- behind outside text
abbrev pub behind_outside : (next : List SourcePiece → Pos → List ℕ → Split) → Options → List SourcePiece → Pos → (text rest : List ℕ) → Split
behind_outside next options done at text rest =
    at_opener next (done ++ outside (before text rest)) (place_of_rest at text rest) rest (opener_at options rest)

-- the pieces of the rest of a source, behind those before it: outside text up to the next opener, then its block, and so
-- on. Each step but the last passes a byte at least, so as many steps serve as the rest has bytes, and one
abbrev pub pieces_from : (steps : ℕ) → Options → List SourcePiece → Pos → List ℕ → Split
pieces_from zero options done at text = Ok done
pieces_from (suc steps) options done at text =
    behind_outside (pieces_from steps options) options done at text (from_opener options text)

-- the pieces of a source without marks, in order; or the fault by which it is refused
abbrev pub pieces_without_marks : Options → (file : ℕ) → List ℕ → Split
pieces_without_marks options file bytes = pieces_from (suc (length bytes)) options [] (file_start file) bytes

-- a mark of emitted text comes before all other faults
abbrev pub unless_marked : Option Pos → Split → Split
unless_marked (Some at) split = Err (MarkInSource at)
unless_marked None split = split

-- the pieces of a source, in order; or the fault by which it is refused
abbrev pub pieces_of : Options → (file : ℕ) → List ℕ → Split
pieces_of options file bytes =
    unless_marked (mark_place (file_start file) bytes) (pieces_without_marks options file bytes)

-- a call that is to give the pieces stops with their fault, or where memory runs out
abbrev pub StopsWith : Split → Stop → Type 0
StopsWith split stop.Memory = Unit {0}
StopsWith split (stop.Fault fault) = split ≡ Err fault

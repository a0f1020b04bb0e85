-- The steps by which a source is cut.
use Rattle.std.proofs.Common.{◌≡◌, ℕ, zero, suc, ◌<◌, List, [], ◌∷◌, ◌++◌, length, drop, Some, None, Ok, Err, refl, sym, arith}
use Rattle.lx_base.specs.Places.{file_start}
use Rattle.lx_base.specs.declared.blocks.BlockKind.{BlockKind}
use Rattle.lx_base.specs.declared.places.Pos.{Pos}
use Rattle.lx_base.specs.declared.settings.Options.{Options}
use Rattle.lx_base.specs.declared.faults.Fault.TheVariants.{Directive, Unclosed}
use Rattle.lx_token.specs.Tokens.{place_of_rest}
use Rattle.lx_split.specs.declared.openers.Opener.TheVariants.{Absent, Refused, Opens}
use Rattle.lx_split.specs.declared.pieces.SourcePiece.{SourcePiece}
use Rattle.lx_split.specs.Openers.{opener_at, from_opener}
use Rattle.lx_split.specs.Bodies.{after_block}
use Rattle.lx_split.specs.Pieces.{Split, before, block, opener_size, outside, pieces_from, pieces_without_marks}

-- the pieces of a source are these and then those of the rest
pub record HasCut (options : Options) (file : ℕ) (bytes : List ℕ) (done : List SourcePiece) (at : Pos) (rest : List ℕ) : Type 0 where
  pub steps : ℕ
  pub enough : length rest < steps
  pub same : pieces_from steps options done at rest ≡ pieces_without_marks options file bytes

pub HasCut-start : (options : Options) (file : ℕ) (bytes : List ℕ) → HasCut options file bytes [] (file_start file) bytes
HasCut-start options file bytes = record { steps = suc (length bytes); enough = omega arith; same = refl }

module _ (options : Options) (file : ℕ) (bytes : List ℕ) (done : List SourcePiece) (at : Pos) (rest text : List ℕ)
    (outside_is : text ≡ from_opener options rest) where
  -- the pieces up to the text that begins with an opener, and its place
  abbrev next_done : List SourcePiece
  next_done = done ++ outside (before rest text)

  abbrev next_at : Pos
  next_at = place_of_rest at rest text

  abbrev whole : Split
  whole = pieces_without_marks options file bytes

  absent_at : (steps : ℕ) → length rest < steps → pieces_from steps options done at rest ≡ whole → opener_at options text ≡ Absent → whole ≡ Ok next_done
  absent_at zero enough same opener = absurd (omega arith)
  absent_at (suc steps) enough same opener = sym (rw (← outside_is, opener) at same)

  pub HasCut-end : HasCut options file bytes done at rest → opener_at options text ≡ Absent → whole ≡ Ok next_done
  HasCut-end cut opener = absent_at cut.steps cut.enough cut.same opener

  refused_at : (steps : ℕ) → length rest < steps → pieces_from steps options done at rest ≡ whole → opener_at options text ≡ Refused →
      whole ≡ Err (Directive next_at)
  refused_at zero enough same opener = absurd (omega arith)
  refused_at (suc steps) enough same opener = sym (rw (← outside_is, opener) at same)

  pub HasCut-refused : HasCut options file bytes done at rest → opener_at options text ≡ Refused → whole ≡ Err (Directive next_at)
  HasCut-refused cut opener = refused_at cut.steps cut.enough cut.same opener

  module _ (kind : BlockKind) (opener : opener_at options text ≡ Opens kind) where
    unclosed_at : (steps : ℕ) → length rest < steps → pieces_from steps options done at rest ≡ whole →
        after_block kind (drop (opener_size kind) text) ≡ None → whole ≡ Err (Unclosed next_at)
    unclosed_at zero enough same none = absurd (omega arith)
    unclosed_at (suc steps) enough same none = sym (rw (← outside_is, opener, none) at same)

    pub HasCut-unclosed : HasCut options file bytes done at rest → after_block kind (drop (opener_size kind) text) ≡ None →
        whole ≡ Err (Unclosed next_at)
    HasCut-unclosed cut none = unclosed_at cut.steps cut.enough cut.same none

    block_from : (steps : ℕ) (tail : List ℕ) → length rest < steps → pieces_from steps options done at rest ≡ whole →
        after_block kind (drop (opener_size kind) text) ≡ Some tail → length tail < length rest →
        HasCut options file bytes (next_done ++ block kind next_at text tail ∷ []) (place_of_rest next_at text tail) tail
    block_from zero tail enough same closed less = absurd (omega arith)
    block_from (suc steps) tail enough same closed less =
        record { steps = steps; enough = omega arith; same = rw (← outside_is, opener, closed) at same }

    pub HasCut-block : (tail : List ℕ) → HasCut options file bytes done at rest →
        after_block kind (drop (opener_size kind) text) ≡ Some tail → length tail < length rest →
        HasCut options file bytes (next_done ++ block kind next_at text tail ∷ []) (place_of_rest next_at text tail) tail
    HasCut-block tail cut closed less = block_from cut.steps tail cut.enough cut.same closed less

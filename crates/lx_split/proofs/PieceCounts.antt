-- How many pieces a file has, and how many bytes are met.
use Rattle.std.proofs.Common.{◌≡◌, ◌≢◌, ℕ, ◌+◌, ◌<◌, ◌≤◌, List, [], ◌∷◌, length, Ok, Err, Result, MatchResult, refl, ◌∙◌, ap, arith, length-append}
use Rattle.std.proofs.lemmas.Bool.{le-ltb}
use Rattle.lx_base.specs.declared.places.Pos.{Pos}
use Rattle.lx_base.specs.declared.faults.Stop.{Stop}
use Rattle.lx_base.specs.declared.faults.Stop.TheVariants as stop
use Rattle.lx_base.specs.declared.settings.Options.{Options}
use Rattle.lx_split.specs.declared.pieces.SourcePiece.{SourcePiece}
use Rattle.lx_split.specs.declared.pieces.SourcePiece.TheVariants.{Outside, Block}
use Rattle.lx_split.specs.Cuts.{AreApart, piece_text, source_text}
use Rattle.lx_split.specs.Includes.{pieces_within}
use Rattle.lx_split.specs.Pieces.{StopsWith, pieces_of}
use Rattle.lx_split.proofs.Cutting.{pieces_of-cut}

some_text : (text : List ℕ) → text ≢ [] → 0 < length text
some_text [] some = absurd (some refl)
some_text (letter ∷ text) some = omega arith

-- each piece has a byte
AreApart-few : (pieces : List SourcePiece) → AreApart pieces → length pieces ≤ length (source_text pieces)
AreApart-few [] apart = omega arith
AreApart-few (Outside text ∷ pieces) apart =
    let some = some_text text apart.0 in
    let more = AreApart-few pieces apart.2 in
    let size = length-append text (source_text pieces) in omega arith
AreApart-few (Block kind body at body_at end_line ∷ pieces) apart =
    let more = AreApart-few pieces apart in
    let text = piece_text (Block kind body at body_at end_line) in
    let size = length-append text (source_text pieces) in omega arith

pub pieces_of-few : (options : Options) (file : ℕ) (bytes : List ℕ) (pieces : List SourcePiece) → pieces_of options file bytes ≡ Ok pieces →
    length pieces ≤ length bytes
pieces_of-few options file bytes pieces is =
    let cut = pieces_of-cut options file bytes pieces is in
    let few = AreApart-few pieces cut.apart in
    let size = ap length cut.text in omega arith

-- a file with which the limit is kept
pub pieces_within-short : (options : Options) (at : Pos) (file before : ℕ) (bytes : List ℕ) → before + length bytes ≤ 16777216 →
    pieces_within options at file before bytes ≡ pieces_of options file bytes
pieces_within-short options at file before bytes within = rw (le-ltb 16777216 (before + length bytes) within)

pub pieces_within-read : (options : Options) (at : Pos) (file before : ℕ) (bytes : List ℕ) (split : Result (List SourcePiece) Stop) → before + length bytes ≤ 16777216 →
    MatchResult split (λ pieces. pieces_of options file bytes ≡ Ok pieces) (StopsWith (pieces_of options file bytes)) →
    MatchResult split (λ pieces. (pieces_within options at file before bytes ≡ Ok pieces) × (length pieces ≤ length bytes) × (before + length bytes ≤ 16777216))
    (StopsWith (pieces_within options at file before bytes))
pieces_within-read options at file before bytes (Ok pieces) within is =
    (pieces_within-short options at file before bytes within ∙ is, pieces_of-few options file bytes pieces is, within)
pieces_within-read options at file before bytes (Err stop.Memory) within is = tt
pieces_within-read options at file before bytes (Err (stop.Fault fault)) within is = pieces_within-short options at file before bytes within ∙ is

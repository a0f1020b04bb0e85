-- The blocks of a source, one behind another.
use Rattle.std.proofs.Common.{ℕ, ◌+◌, ◌≤◌, arith, List, [], ◌∷◌, ◌++◌, length, refl, subst, inl, inr, append_assoc, append-nil}
use Rattle.std.specs.Prelude.{All}
use Rattle.std.proofs.lemmas.List.Elements.{All-head, All-nil, All-push, All-tail}
use Rattle.std.proofs.lemmas.List.{length_push}
use Rattle.lx_base.specs.declared.blocks.BlockKind.{BlockKind}
use Rattle.lx_base.specs.declared.faults.Fault.{Fault}
use Rattle.lx_base.specs.declared.faults.Stop.{Stop}
use Rattle.lx_base.specs.declared.faults.Stop.TheVariants as stop
use Rattle.lx_base.specs.declared.places.Pos.{Pos}
use Rattle.lx_base.specs.declared.settings.Options.{Options}
use Rattle.lx_rules.specs.Environments.{Environment, first_environment}
use Rattle.lx_rules.specs.Blocks.{StandsUnder, before_all, behind_block}
use Rattle.lx_split.specs.declared.pieces.SourcePiece.{SourcePiece}
use Rattle.lx_split.specs.declared.pieces.SourcePiece.TheVariants as piece
use Rattle.lx_compile.specs.Blocks.{IsBlock, StopsAt, asks, gives_nothing, resolves}
use Rattle.lx_compile.specs.Emittable.{HasMakeable, IsMakeable, IsNear, IsNearPiece}
use Rattle.lx_compile.specs.Parts.{AreParts, IsFaultAmong, StopsAmong}
use Rattle.lx_compile.specs.declared.parts.Content.{Content}
use Rattle.lx_compile.specs.declared.parts.Part.{Part}
use Rattle.lx_compile.specs.declared.parts.Part.TheVariants.{Outside, Block}

-- what holds behind some parts, where this environment holds and these pieces are left
pub record IsWalked (options : Options) (pieces rest : List SourcePiece) (environment : Environment) (parts : List Part) : Type 0 where
  pub makeable : All (IsMakeable options) parts
  pub stands : StandsUnder options environment
  pub few : length parts + length rest ≤ length pieces
  pub near : All IsNearPiece rest
  pub continues : (more : List Part) (last : Environment) → AreParts options environment rest more last
      → AreParts options first_environment pieces (parts ++ more) last
  pub refuses : (fault : Fault) → IsFaultAmong options environment rest fault → IsFaultAmong options first_environment pieces fault

pub IsWalked-start : (options : Options) (pieces : List SourcePiece) → All IsNearPiece pieces → IsWalked options pieces pieces first_environment []
IsWalked-start options pieces near = record {
  makeable = All-nil (IsMakeable options);
  stands = before_all;
  few = omega arith;
  near = near;
  continues = λ more last are. are;
  refuses = λ fault is. is;
}

pub IsWalked-outside : (options : Options) (pieces rest : List SourcePiece) (environment : Environment) (parts : List Part) (text : List ℕ)
    → IsWalked options pieces (piece.Outside text ∷ rest) environment parts → IsWalked options pieces rest environment (parts ++ Outside text ∷ [])
IsWalked-outside options pieces rest environment parts text walked = record {
  makeable = All-push (IsMakeable options) parts (Outside text) walked.makeable tt;
  stands = walked.stands;
  few = omega (arith, walked.few, length_push parts (Outside text));
  near = All-tail IsNearPiece (piece.Outside text) rest walked.near;
  continues = λ more last are. rw append_assoc (walked.continues (Outside text ∷ more) last (refl, are));
  refuses = λ fault is. walked.refuses fault is;
}

-- what holds behind a block stands under the options, where what held before it did
StandsUnder-block : (options : Options) (environment : Environment) (kind : BlockKind) (body : List ℕ) (at start : Pos) (after : Environment)
    (content : Content) → StandsUnder options environment → IsNear body start → IsBlock options environment kind body at start after content
    → StandsUnder options after
StandsUnder-block options environment kind body at start after content stands near (resolves tokens items resolved has read is gives) =
    behind_block stands kind at start body tokens items after resolved has near.size read.tokens_are read.items_are is
StandsUnder-block options environment kind body at start after content stands near (asks tokens items has read same gives) = rw same stands
StandsUnder-block options environment kind body at start after content stands near (gives_nothing has same gives) = rw same stands

pub IsWalked-block : (options : Options) (pieces rest : List SourcePiece) (environment : Environment) (parts : List Part)
    (kind : BlockKind) (body : List ℕ) (at start : Pos) (end_line : ℕ) (after : Environment) (content : Content)
    → IsWalked options pieces (piece.Block kind body at start end_line ∷ rest) environment parts
    → IsBlock options environment kind body at start after content → HasMakeable options content
    → IsWalked options pieces rest after (parts ++ Block at end_line content ∷ [])
IsWalked-block options pieces rest environment parts kind body at start end_line after content walked block makeable = record {
  makeable = All-push (IsMakeable options) parts (Block at end_line content) walked.makeable makeable;
  stands = StandsUnder-block options environment kind body at start after content walked.stands near block;
  few = omega (arith, walked.few, length_push parts (Block at end_line content));
  near = All-tail IsNearPiece (piece.Block kind body at start end_line) rest walked.near;
  continues = λ more last are. rw append_assoc (walked.continues (Block at end_line content ∷ more) last (refl, refl, (after, block, are)));
  refuses = λ fault is. walked.refuses fault (inr (after, content, block, is));
}
  where
    near : IsNear body start
    near = All-head IsNearPiece (piece.Block kind body at start end_line) rest walked.near

-- the parts behind the last piece
pub IsWalked-end : (options : Options) (pieces : List SourcePiece) (environment : Environment) (parts : List Part)
    → IsWalked options pieces [] environment parts → AreParts options first_environment pieces parts environment
IsWalked-end options pieces environment parts walked =
    subst (λ l. AreParts options first_environment pieces l environment) (append-nil parts) (walked.continues [] environment refl)

-- a block is refused
pub StopsAmong-block : (options : Options) (pieces rest : List SourcePiece) (environment : Environment) (parts : List Part)
    (kind : BlockKind) (body : List ℕ) (at start : Pos) (end_line : ℕ) (stopped : Stop)
    → IsWalked options pieces (piece.Block kind body at start end_line ∷ rest) environment parts
    → StopsAt options environment kind body at start stopped → StopsAmong options first_environment pieces stopped
StopsAmong-block options pieces rest environment parts kind body at start end_line stop.Memory walked stops = stops
StopsAmong-block options pieces rest environment parts kind body at start end_line (stop.Fault fault) walked stops = walked.refuses fault (inl stops)

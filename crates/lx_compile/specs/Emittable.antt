-- What the steps of a compilation know of the parts of a source.
use Rattle.std.specs.Prelude.{ℕ, ◌<◌, ◌≤◌, List, [], ◌∷◌, length}
use Rattle.lx_auto.specs.declared.automaton.Auto.{Auto}
use Rattle.lx_base.specs.declared.limits.TheConstants.{SOURCE_LIMIT}
use Rattle.lx_base.specs.declared.places.Pos.{Pos}
use Rattle.lx_base.specs.declared.settings.Options.{Options}
use Rattle.lx_fill.specs.Checks.{AreChecks}
use Rattle.lx_regex.specs.Pattern.{patterns_of}
use Rattle.lx_rules.specs.WellFormed.{IsWellFormed}
use Rattle.lx_rules.specs.declared.resolved.Resolved.{Resolved}
use Rattle.lx_rules.specs.declared.resolved.Scanner.{Scanner}
use Rattle.lx_split.specs.declared.pieces.SourcePiece.{SourcePiece}
use Rattle.lx_split.specs.declared.pieces.SourcePiece.TheVariants as piece
use Rattle.lx_tdfa.specs.Promise.{IsAutoUnder}
use Rattle.lx_compile.specs.Options.{policy_of}
use Rattle.lx_compile.specs.Reduced.{IsReduced}
use Rattle.lx_compile.specs.declared.parts.Content.{Content}
use Rattle.lx_compile.specs.declared.parts.Content.TheVariants.{Asks, Scanners}
use Rattle.lx_compile.specs.declared.parts.Part.{Part}
use Rattle.lx_compile.specs.declared.parts.Part.TheVariants.{Outside, Block}

-- a block is no longer than a source may be, and its body begins in a line and a column that a source may have
pub record IsNear (body : List ℕ) (start : Pos) : Type 0 where
  pub size : length body ≤ SOURCE_LIMIT
  pub line : start.line ≤ 16777217
  pub col : start.col ≤ 16777217

abbrev pub IsNearPiece : SourcePiece → Type 0
IsNearPiece (piece.Outside text) = Unit {0}
IsNearPiece (piece.Block kind body at start end_line) = IsNear body start

-- a block has a scanner and is well formed
pub record CanBeMade (options : Options) (resolved : Resolved) : Type 0 where
  pub some : 0 < length resolved.scanners
  pub formed : IsWellFormed options resolved

-- so is each block that gives scanners
abbrev pub HasMakeable : Options → Content → Type 0
HasMakeable options (Scanners resolved) = CanBeMade options resolved
HasMakeable options (Asks directive) = Unit {0}

abbrev pub IsMakeable : Options → Part → Type 0
IsMakeable options (Outside text) = Unit {0}
IsMakeable options (Block at line content) = HasMakeable options content

-- it is the automaton of the scanner's rules, by the trees that are meant, with no more in it than has to be
abbrev pub IsMadeFor : Options → Scanner → Auto → Type 0
IsMadeFor options scanner auto =
    IsAutoUnder (policy_of options) options.enc (patterns_of scanner.set.rules) auto × IsReduced auto

-- each scanner has such an automaton
abbrev pub AreAutosOf : Options → List Scanner → List Auto → Type 0
AreAutosOf options [] [] = Unit {0}
AreAutosOf options (scanner ∷ scanners) (auto ∷ autos) = IsMadeFor options scanner auto × AreAutosOf options scanners autos
AreAutosOf options scanners autos = ⊥

-- each automaton has its checks
abbrev pub AreChecksOf : List Auto → (checks : List (List ℕ)) → Type 0
AreChecksOf [] [] = Unit {0}
AreChecksOf (auto ∷ autos) (list ∷ checks) = AreChecks auto list × AreChecksOf autos checks
AreChecksOf autos checks = ⊥

-- Why the expansion of a source stops.
use Rattle.std.proofs.Common.{◌≡◌, ℕ, List, [], ◌∷◌, Some, Result, Ok, Err, MatchResult, IsErrAnd, subst, sym, ◌∙◌, ap}
use Rattle.lx_base.specs.Places.{file_start}
use Rattle.lx_base.specs.declared.faults.Fault.{Fault}
use Rattle.lx_base.specs.declared.faults.Fault.TheVariants.{NoFile}
use Rattle.lx_base.specs.declared.faults.Stop.{Stop}
use Rattle.lx_base.specs.declared.faults.Stop.TheVariants as split
use Rattle.lx_base.specs.declared.places.Pos.{Pos}
use Rattle.lx_base.specs.declared.settings.Options.{Options}
use Rattle.lx_files.specs.Held.{bytes_of}
use Rattle.lx_files.specs.declared.files.HeldFile.{HeldFile}
use Rattle.lx_split.specs.declared.expanding.ExpandStop.{ExpandStop}
use Rattle.lx_split.specs.declared.expanding.ExpandStop.TheVariants as stop
use Rattle.lx_split.specs.Includes.{AreFirstMet, Expansion, FailsAs, IsNoFile, Met, StopsAs, StopsExpansion, StopsRead, expand_stop, expansion, fails, met, pieces_within, with_file}
use Rattle.lx_split.specs.Pieces.{StopsWith}
use Rattle.lx_split.specs.Walks.{StopsWhole}

pub StopsAs-fails : (whole : Expansion) (files : Met) (given : ExpandStop) → FailsAs whole files given → StopsAs whole files given
StopsAs-fails whole files stop.Memory fails = tt
StopsAs-fails whole files (stop.Fault fault) fails = fails
StopsAs-fails whole files stop.ReadFailed fails = absurd fails

module _ (whole : Expansion) (CountRose : Type 0) (names : List (List ℕ)) where
  pub StopsExpansion-read : (given : ExpandStop) → StopsRead CountRose given → AreFirstMet whole names → StopsExpansion whole CountRose names given
  StopsExpansion-read stop.Memory read first = tt
  StopsExpansion-read (stop.Fault fault) read first = absurd read
  StopsExpansion-read stop.ReadFailed read first = (read, first)

  pub StopsExpansion-whole : (given : Stop) → StopsWhole whole names given → StopsExpansion whole CountRose names (expand_stop given)
  StopsExpansion-whole split.Memory stops = tt
  StopsExpansion-whole (split.Fault fault) stops = stops

  pub StopsExpansion-as : (total : ℕ) (given : ExpandStop) → StopsAs whole (met names total) given → StopsExpansion whole CountRose names given
  StopsExpansion-as total stop.Memory stops = tt
  StopsExpansion-as total (stop.Fault fault) stops = (ap (λ (e : Expansion). e.found) stops, ap (λ (e : Expansion). e.met.names) stops)
  StopsExpansion-as total stop.ReadFailed stops = absurd stops

  -- a file that is not there
  pub StopsExpansion-none : (total : ℕ) (at : Pos) (name : List ℕ) (given : ExpandStop) → whole ≡ fails (met names total) (NoFile at name) → IsNoFile at name given →
      StopsExpansion whole CountRose names given
  StopsExpansion-none total at name stop.Memory is none = tt
  StopsExpansion-none total at name (stop.Fault fault) is none =
      (ap (λ (e : Expansion). e.found) is ∙ ap (λ (f : Fault). Err f) (sym none), ap (λ (e : Expansion). e.met.names) is)
  StopsExpansion-none total at name stop.ReadFailed is none = absurd none

-- what is so of an expansion is so of an equal one
pub StopsExpansion-same : (whole other : Expansion) (CountRose : Type 0) (names : List (List ℕ)) (given : ExpandStop) → whole ≡ other →
    StopsExpansion other CountRose names given → StopsExpansion whole CountRose names given
StopsExpansion-same whole other CountRose names given is stops = rw is stops

-- a later count that rose
pub StopsExpansion-from : (whole : Expansion) (CountRose Later : Type 0) (names : List (List ℕ)) (given : ExpandStop) → (Later → CountRose) →
    StopsExpansion whole Later names given → StopsExpansion whole CountRose names given
StopsExpansion-from whole CountRose Later names stop.Memory rose stops = tt
StopsExpansion-from whole CountRose Later names (stop.Fault fault) rose stops = stops
StopsExpansion-from whole CountRose Later names stop.ReadFailed rose stops = (rose stops.0, stops.1)

-- the main file is not entered
pub main-stops : (options : Options) (seen : List HeldFile) (main bytes : List ℕ) (total : ℕ) (CountRose : Type 0) (given : Stop) →
    bytes_of seen main ≡ Some bytes → total ≡ 0 → StopsWith (pieces_within options (file_start 0) 0 total bytes) given →
    StopsExpansion (expansion options seen main) CountRose (main ∷ []) (expand_stop given)
main-stops options seen main bytes total CountRose split.Memory held none stops = tt
main-stops options seen main bytes total CountRose (split.Fault fault) held none stops =
    let is = ap (λ (n : ℕ). pieces_within options (file_start 0) 0 n bytes) (sym none) ∙ stops in
    let file : HeldFile = record { name = main; bytes = bytes } in
    let whole : expansion options seen main ≡ fails (with_file (met [] 0) file) fault = rw (held, is) in
    (ap (λ (e : Expansion). e.found) whole, ap (λ (e : Expansion). e.met.names) whole)

-- an error that was handed on
pub MatchResult-residual : {T E : Type 0} (ended : Result T E) (given : E) (P : T → Type 0) (Q : E → Type 0) → IsErrAnd ended (λ other. other ≡ given) → Q given →
    MatchResult ended P Q
MatchResult-residual (Ok value) given P Q is holds = absurd is
MatchResult-residual (Err other) given P Q is holds = subst Q (sym is) holds

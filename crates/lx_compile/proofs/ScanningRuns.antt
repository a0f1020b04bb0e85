-- The faults of scanners, block by block.
use Rattle.std.proofs.Common.{ℕ, List, [], ◌∷◌, Option, Some, None, inl, inr, refl}
use Rattle.lx_base.specs.declared.faults.Fault.{Fault}
use Rattle.lx_base.specs.declared.faults.Stop.{Stop}
use Rattle.lx_base.specs.declared.faults.Stop.TheVariants as stop
use Rattle.lx_base.specs.declared.places.Pos.{Pos}
use Rattle.lx_base.specs.declared.settings.Options.{Options}
use Rattle.lx_compile.specs.Parts.{IsScanningFault, StopsByScanners}
use Rattle.lx_compile.specs.ScannerFaults.{IsFaultOfContent, IsFaultlessContent, StopsWithFault}
use Rattle.lx_compile.specs.declared.parts.Content.{Content}
use Rattle.lx_compile.specs.declared.parts.Part.{Part}
use Rattle.lx_compile.specs.declared.parts.Part.TheVariants.{Outside, Block}

-- the fault of these parts is that of the others, none of which stands before them
pub record HasNoneBefore (options : Options) (parts rest : List Part) : Type 0 where
  pub continues : (fault : Option Fault) → IsScanningFault options rest fault → IsScanningFault options parts fault

pub HasNoneBefore-start : (options : Options) (parts : List Part) → HasNoneBefore options parts parts
HasNoneBefore-start options parts = record { continues = λ fault is. is }

pub HasNoneBefore-outside : (options : Options) (parts rest : List Part) (text : List ℕ) → HasNoneBefore options parts (Outside text ∷ rest)
    → HasNoneBefore options parts rest
HasNoneBefore-outside options parts rest text none = record { continues = λ fault is. none.continues fault is }

pub HasNoneBefore-block : (options : Options) (parts rest : List Part) (at : Pos) (line : ℕ) (content : Content)
    → HasNoneBefore options parts (Block at line content ∷ rest) → IsFaultlessContent options content → HasNoneBefore options parts rest
HasNoneBefore-block options parts rest at line content none faultless = record { continues = λ fault is. none.continues fault (inr (faultless, is)) }

-- a block whose scanner is refused stops with that fault
pub StopsByScanners-block : (options : Options) (parts rest : List Part) (at : Pos) (line : ℕ) (content : Content) (stopped : Stop)
    → HasNoneBefore options parts (Block at line content ∷ rest) → StopsWithFault (IsFaultOfContent options at content) stopped
    → StopsByScanners options parts stopped
StopsByScanners-block options parts rest at line content stop.Memory none stops = tt
StopsByScanners-block options parts rest at line content (stop.Fault fault) none stops = none.continues (Some fault) (inl (fault, stops, refl))

-- behind the last part there is none
pub IsScanningFault-end : (options : Options) (parts : List Part) → HasNoneBefore options parts [] → IsScanningFault options parts None
IsScanningFault-end options parts none = none.continues None refl

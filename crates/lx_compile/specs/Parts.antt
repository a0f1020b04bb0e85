-- The parts of a source: texts outside of blocks, and what the blocks give.
use Rattle.std.specs.Prelude.{◌≡◌, ◌⊎◌, Bool, true, false, not, List, [], ◌∷◌, Option, Some, None}
use Rattle.std.specs.List.{list_any}
use Rattle.lx_base.specs.declared.faults.Fault.{Fault}
use Rattle.lx_base.specs.declared.faults.Stop.{Stop}
use Rattle.lx_base.specs.declared.faults.Stop.TheVariants as stop
use Rattle.lx_base.specs.declared.settings.Options.{Options}
use Rattle.lx_rules.specs.Environments.{Environment}
use Rattle.lx_split.specs.declared.pieces.SourcePiece.{SourcePiece}
use Rattle.lx_split.specs.declared.pieces.SourcePiece.TheVariants as piece
use Rattle.lx_compile.specs.Blocks.{IsBlock, IsFaultOf}
use Rattle.lx_compile.specs.ScannerFaults.{IsFaultOfContent, IsFaultlessContent}
use Rattle.lx_compile.specs.declared.parts.Content.{Content}
use Rattle.lx_compile.specs.declared.parts.Content.TheVariants.{Asks}
use Rattle.lx_compile.specs.declared.parts.Directive.TheVariants.{GetState}
use Rattle.lx_compile.specs.declared.parts.Part.{Part}
use Rattle.lx_compile.specs.declared.parts.Part.TheVariants.{Outside, Block}

-- the pieces of a source are these parts: each block is taken in the environment that the blocks before it left, and the last one leaves `last`
abbrev pub AreParts : Options → Environment → List SourcePiece → List Part → (last : Environment) → Type 0
AreParts options environment [] [] last = last ≡ environment
AreParts options environment (piece.Outside text ∷ pieces) (Outside other ∷ parts) last =
    (other ≡ text) × AreParts options environment pieces parts last
AreParts options environment (piece.Block kind body at start end_line ∷ pieces) (Block place line content ∷ parts) last =
    (place ≡ at) × (line ≡ end_line)
    × ((after : Environment) × IsBlock options environment kind body at start after content × AreParts options after pieces parts last)
AreParts options environment pieces parts last = ⊥

-- the fault of the first block that has one
abbrev pub IsFaultAmong : Options → Environment → List SourcePiece → Fault → Type 0
IsFaultAmong options environment [] fault = ⊥
IsFaultAmong options environment (piece.Outside text ∷ pieces) fault = IsFaultAmong options environment pieces fault
IsFaultAmong options environment (piece.Block kind body at start end_line ∷ pieces) fault =
    IsFaultOf options environment kind body at start fault
    ⊎ ((after : Environment) × (content : Content)
    × IsBlock options environment kind body at start after content × IsFaultAmong options after pieces fault)

-- a call that is to resolve the blocks stops with that fault, or where memory runs out
abbrev pub StopsAmong : Options → Environment → List SourcePiece → Stop → Type 0
StopsAmong options environment pieces stop.Memory = Unit {0}
StopsAmong options environment pieces (stop.Fault fault) = IsFaultAmong options environment pieces fault

-- a block asks for a switch over the states of all scanners
abbrev pub asks_for_states : Part → Bool
asks_for_states (Block at line (Asks GetState)) = true
asks_for_states part = false

-- the pieces of scanners switch over their states themselves, where no block asks for that
abbrev pub switch_themselves : List Part → Bool
switch_themselves parts = not (list_any asks_for_states parts)

-- the fault of the first block with a scanner that has one, or none
abbrev pub IsScanningFault : Options → List Part → Option Fault → Type 0
IsScanningFault options [] fault = fault ≡ None
IsScanningFault options (Outside text ∷ parts) fault = IsScanningFault options parts fault
IsScanningFault options (Block at line content ∷ parts) fault =
    ((found : Fault) × IsFaultOfContent options at content found × (fault ≡ Some found))
    ⊎ (IsFaultlessContent options content × IsScanningFault options parts fault)

-- a call that is to make the scanners stops with that fault, or where memory runs out
abbrev pub StopsByScanners : Options → List Part → Stop → Type 0
StopsByScanners options parts stop.Memory = Unit {0}
StopsByScanners options parts (stop.Fault fault) = IsScanningFault options parts (Some fault)

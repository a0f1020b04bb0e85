-- Which blocks of a piece are not dead: those of the scanners that begin in its conditions.
use Rattle.std.specs.Prelude.{◌≡◌, ℕ, ◌<◌, List, length, Some}
use Rattle.lx_auto.specs.Points.{IsMet}
use Rattle.lx_auto.specs.declared.automaton.Auto.{Auto}
use Rattle.lx_ccode.specs.Runs.{entry_block}
use Rattle.lx_ccode.specs.Scanners.{IsOfScanner}
use Rattle.lx_ccode.specs.declared.piece.Piece.{Piece}

-- each state is met on some walk
abbrev pub HasMetStates : Auto → Type 0
HasMetStates auto = (state : ℕ) → state < length auto.states → IsMet auto state

-- the block is one of the scanner that begins in some condition
abbrev pub IsLive : Piece → (block : ℕ) → Type 0
IsLive piece block = (cond : List ℕ) × (entry : ℕ) × (entry_block piece.conds cond ≡ Some entry) × IsOfScanner piece.blocks entry block

-- The faults of scanners: too many kernels, and covering words that are too long.
use Rattle.std.specs.Prelude.{◌≡◌, ℕ, ◌⊎◌, true, List, [], ◌∷◌}
use Rattle.std.specs.List.{AllByRecursion}
use Rattle.lx_base.specs.declared.faults.Fault.{Fault}
use Rattle.lx_base.specs.declared.faults.Fault.TheVariants.{CoverTooLong, TooManyStates}
use Rattle.lx_base.specs.declared.faults.Stop.{Stop}
use Rattle.lx_base.specs.declared.faults.Stop.TheVariants as stop
use Rattle.lx_base.specs.declared.places.Pos.{Pos}
use Rattle.lx_base.specs.declared.settings.Enc.{Enc}
use Rattle.lx_base.specs.declared.settings.Options.{Options}
use Rattle.lx_cover.specs.Cover.{IsFirstSumOver}
use Rattle.lx_cover.specs.declared.covering.TheConstants.{COVER_LIMIT}
use Rattle.lx_regex.specs.Kernel.{HasTooManyKernels}
use Rattle.lx_posix.specs.PosixKernel.{HasTooManyPosixKernels}
use Rattle.lx_regex.specs.Order.{Policy, greedy, posix}
use Rattle.lx_regex.specs.Pattern.{patterns_of, terms_of}
use Rattle.lx_regex.specs.Term.{Term}
use Rattle.lx_rules.specs.declared.resolved.Scanner.{Scanner}
use Rattle.lx_compile.specs.Options.{asks_for_cover, policy_of}
use Rattle.lx_compile.specs.declared.parts.Content.{Content}
use Rattle.lx_compile.specs.declared.parts.Content.TheVariants.{Asks, Scanners}

-- the rules have too many kernels, by the trees that are meant
abbrev pub HasTooMany : Policy → Enc → (rules : List Term) → Type 0
HasTooMany greedy enc rules = HasTooManyKernels enc rules
HasTooMany posix enc rules = HasTooManyPosixKernels enc rules

-- the same by the options
abbrev pub AreTooManyFor : Options → (rules : List Term) → Type 0
AreTooManyFor options rules = HasTooMany (policy_of options) options.enc rules

-- the scanner has too many kernels
abbrev pub IsTooLarge : Options → Scanner → Type 0
IsTooLarge options scanner = AreTooManyFor options (terms_of (patterns_of scanner.set.rules))

-- covering words are asked for, and those of the scanner have so many units, which are too many, up to and with the first word that passes the limit
abbrev pub IsTooLong : Options → Scanner → (sum : ℕ) → Type 0
IsTooLong options scanner sum =
    (asks_for_cover options ≡ true) × IsFirstSumOver options.enc (terms_of (patterns_of scanner.set.rules)) COVER_LIMIT sum

-- the scanner has no fault
abbrev pub IsFaultless : Options → Scanner → Type 0
IsFaultless options scanner = (IsTooLarge options scanner → ⊥) × ((sum : ℕ) → IsTooLong options scanner sum → ⊥)

-- the fault of a scanner whose block opens at a place: that of its kernels, or else that of its covering words
abbrev pub IsScannerFault : Options → (at : Pos) → Scanner → Fault → Type 0
IsScannerFault options at scanner fault =
    (IsTooLarge options scanner × (fault ≡ TooManyStates at))
    ⊎ ((IsTooLarge options scanner → ⊥) × ((sum : ℕ) × IsTooLong options scanner sum × (fault ≡ CoverTooLong at sum)))

-- no scanner has a fault
abbrev pub AreFaultless : Options → List Scanner → Type 0
AreFaultless options scanners = AllByRecursion (IsFaultless options) scanners

-- the fault of the first scanner that has one
abbrev pub IsFaultOfScanners : Options → (at : Pos) → List Scanner → Fault → Type 0
IsFaultOfScanners options at [] fault = ⊥
IsFaultOfScanners options at (scanner ∷ scanners) fault =
    IsScannerFault options at scanner fault ⊎ (IsFaultless options scanner × IsFaultOfScanners options at scanners fault)

-- the same of what a block gives
abbrev pub IsFaultOfContent : Options → (at : Pos) → Content → Fault → Type 0
IsFaultOfContent options at (Scanners resolved) fault = IsFaultOfScanners options at resolved.scanners fault
IsFaultOfContent options at (Asks directive) fault = ⊥

abbrev pub IsFaultlessContent : Options → Content → Type 0
IsFaultlessContent options (Scanners resolved) = AreFaultless options resolved.scanners
IsFaultlessContent options (Asks directive) = Unit {0}

-- a call stops with such a fault, or where memory runs out
abbrev pub StopsWithFault : (IsFault : Fault → Type 0) → Stop → Type 0
StopsWithFault IsFault stop.Memory = Unit {0}
StopsWithFault IsFault (stop.Fault fault) = IsFault fault

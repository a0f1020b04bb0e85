-- Kept places in sets.
use Rattle.std.proofs.Common.{rules}
use Rattle.lx_tnfa.specs.Equality.{TellsEqual}
use Rattle.lx_posix.specs.contracts.kept.KeptPartialEq.TheImpl.{eq-value}

-- equal ones are those that the program takes for equal
pub TellsEqual-kept : TellsEqual eq-value.it
TellsEqual-kept = record { equal = λ kept other e. search rules; itself = λ kept other e. search rules }

-- The examples of pieces that carry automata.
use Rattle.std.specs.Prelude.{[], ◌∷◌, None, refl}
use Rattle.std.proofs.Common.{arith}
use Rattle.lx_base.specs.Names.{Spellings}
use Rattle.lx_layout.specs.CarriedExamples.{PiecesCarry, paired, paired_blocks}
use Rattle.lx_layout.specs.Carries.{Carries}
use Rattle.lx_layout.specs.Examples.{any_then, bytes_piece, untagged}
use Rattle.lx_layout.proofs.Runs.CarriedMatches.{carried_alike}
use Rattle.lx_layout.proofs.Runs.DottedCarried.{dots_carried}
use Rattle.lx_layout.proofs.Runs.CheckedCarried.{checked_carried}
use Rattle.lx_layout.proofs.Runs.EndedCarried.{ended_carried}
use Rattle.lx_layout.proofs.Runs.PairsCarried.{pairs_carried, pairs_check_nothing}

-- On `b!` the run of the one automaton stops at once, and that of the other behind `b`.
pairs_alone : (names : Spellings) → Carries (bytes_piece names paired_blocks) 0 untagged any_then → ⊥
pairs_alone names other =
    let alike = carried_alike (bytes_piece names paired_blocks) 0 untagged paired any_then (pairs_carried names) other 1 (omega arith) (pairs_check_nothing names)
    (98 ∷ 33 ∷ []) [] (98 ∷ []) 0 2 _ _ (λ register. None) (λ history. []) [] refl
    (record { unit = 98; rest = 33 ∷ []; split = refl; units = (omega arith, (omega arith, tt)); runs = refl; none = refl })
    (record { unit = 33; rest = []; split = refl; units = (omega arith, (omega arith, tt)); runs = refl; none = refl })
    (omega arith) (omega arith) in
    let same = alike.0 in
    cc

pub pieces_carry : (names : Spellings) → PiecesCarry names
pieces_carry names = record { pairs = pairs_carried names; ended = ended_carried names; checks = checked_carried names; tag = dots_carried names; other = pairs_alone names }

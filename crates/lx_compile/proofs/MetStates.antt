-- Walks to each state: of an automaton with greater numbers of rules, and of the scanners of a piece.
use Rattle.std.proofs.Common.{ℕ, ◌<◌, List, [], ◌∷◌, subst}
use Rattle.std.specs.List.{AllByRecursion}
use Rattle.std.proofs.lemmas.List.{length-map}
use Rattle.lx_auto.specs.declared.automaton.Auto.{Auto}
use Rattle.lx_gen.specs.Generated.{Marks, sources_of}
use Rattle.lx_layout.specs.LiveBlocks.{HasMetStates}
use Rattle.lx_layout.specs.Pieces.{Source}
use Rattle.lx_renumber.proofs.RenumberedReads.{IsReached-renumbered}
use Rattle.lx_renumber.specs.Renumbered.{renumbered, renumbered_state}
use Rattle.lx_rules.specs.declared.resolved.Act.{Act}
use Rattle.lx_rules.specs.declared.resolved.Scanner.{Scanner}
use Rattle.lx_compile.specs.Reduced.{IsReduced}

-- ---- greater numbers of rules

pub HasMetStates-renumbered : (by : ℕ) (auto : Auto) → HasMetStates auto → HasMetStates (renumbered by auto)
HasMetStates-renumbered by auto met state within =
    let found = met state (subst (λ count. state < count) (length-map auto.states (renumbered_state by)) within) in
    (found.0, IsReached-renumbered by auto (record { state = state; left = found.0 }) found.1)

-- ---- the scanners of a piece

-- each scanner of a piece has an automaton whose states are met
pub sources_met : (marks : Marks) (acts : List Act) (scanners : List Scanner) (autos : List Auto) (checks : List (List ℕ)) → AllByRecursion IsReduced autos
    → AllByRecursion (λ (source : Source). HasMetStates source.auto) (sources_of marks acts scanners autos checks)
sources_met marks acts [] autos checks reduced = tt
sources_met marks acts (scanner ∷ scanners) [] checks reduced = tt
sources_met marks acts (scanner ∷ scanners) (auto ∷ autos) [] reduced = tt
sources_met marks acts (scanner ∷ scanners) (auto ∷ autos) (list ∷ checks) reduced =
    (reduced.0.met, sources_met marks acts scanners autos checks reduced.1)

-- The checks of an automaton are those of the one with greater numbers of rules, which has the same edges.
use mathlib.Core.Path.{fun_ext}
use Rattle.std.proofs.Common.{◌≡◌, ◌≢◌, ◌≤◌, ◌∙◌, ℕ, List, [], length, map, sym, ap, subst}
use Rattle.std.specs.Prelude.{slice_index}
use Rattle.std.proofs.lemmas.List.{length-map}
use Rattle.lx_auto.specs.declared.automaton.Auto.{Auto}
use Rattle.lx_auto.specs.declared.automaton.Edge.{Edge}
use Rattle.lx_auto.specs.declared.automaton.State.{State}
use Rattle.lx_fill.specs.Checks.{AreChecks, Graph, Leads, Reads, Suffices, graph_of}
use Rattle.lx_renumber.proofs.RenumberedStates.{state_of-renumbered}
use Rattle.lx_renumber.specs.Renumbered.{renumbered, renumbered_state}

graph_of-renumbered : (by : ℕ) (auto : Auto) → graph_of (renumbered by auto) ≡ graph_of auto
graph_of-renumbered by auto =
    fun_ext (λ number. ap (λ (state : State). map (λ (edge : Edge). edge.to) state.edges) (state_of-renumbered by auto.states number))

pub AreChecks-renumbered : (by : ℕ) (auto : Auto) (checks : List ℕ) → AreChecks auto checks → AreChecks (renumbered by auto) checks
AreChecks-renumbered by auto checks are =
    let graph = sym (graph_of-renumbered by auto) in
    let count : length auto.states ≡ length (map (renumbered_state by) auto.states) = sym (length-map auto.states (renumbered_state by)) in
    record {
      each_state = are.each_state ∙ count;
      few = λ state. subst (λ n. slice_index checks state ≤ n) count (are.few state);
      start = subst (λ (one : Graph). one 0 ≢ [] → slice_index checks 0 ≢ 0) graph are.start;
      cycle =
          subst (λ (one : Graph). (state : ℕ) → slice_index checks state ≢ 0 → state ≢ 0 → Leads one state state) graph are.cycle;
      most =
          subst (λ (one : Graph). (state : ℕ) → slice_index checks state ≢ 0 → Suffices one (slice_index checks) state (slice_index checks state)) graph are.most;
      exact =
          subst (λ (one : Graph). (state : ℕ) → slice_index checks state ≢ 0 → Reads one (slice_index checks) state (slice_index checks state)) graph are.exact;
    }

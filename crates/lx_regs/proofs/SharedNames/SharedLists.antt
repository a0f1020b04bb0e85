-- Lists of names that are made from colours are names that registers can share.
use Rattle.std.proofs.Common.{◌≡◌, ℕ, zero, suc, ◌+◌, ◌<◌, ◌≤◌, List, length, sym, subst, arith}
use Rattle.std.proofs.lemmas.List.{get_or-map, length-map}
use Rattle.std.specs.Prelude.{slice_index}
use Rattle.lx_auto.specs.declared.automaton.Auto.{Auto}
use Rattle.lx_auto.specs.Automaton.{IsAuto}
use Rattle.lx_regs.specs.declared.graphs.Graph.{Graph}
use Rattle.lx_regs.specs.declared.held_graphs.HeldGraph.{HeldGraph}
use Rattle.lx_regs.specs.declared.shared_names.SharedNames.{SharedNames}
use Rattle.lx_regs.specs.Bounds.{IsBoundOf}
use Rattle.lx_regs.specs.Colours.{IsSharing}
use Rattle.lx_regs.specs.Graphs.{size_of}
use Rattle.lx_regs.specs.Interference.{IsInterferenceOf}
use Rattle.lx_regs.specs.SharedNames.{AreShared, AreSharedBelow}
use Rattle.lx_regs.proofs.SharedNames.TightNames.{behind_zero, names-shared}

-- a colour is less than there are numbers
pub sharing-small : (graph : Graph) (colours : List ℕ) (bound : ℕ) → IsSharing graph colours → size_of graph ≤ bound → (place : ℕ)
    → place < length colours → slice_index colours place < bound
sharing-small graph colours bound sharing small place within =
    let inside : place < size_of graph = subst (λ n. place < n) sharing.count within in
    let few = sharing.few place inside in
    omega (arith, few, inside, small)

behind_zero-small : (colours : List ℕ) (bound : ℕ) → ((place : ℕ) → place < length colours → slice_index colours place < bound) → (place : ℕ)
    → place < length (behind_zero colours) → slice_index (behind_zero colours) place < bound + 1
behind_zero-small colours bound small zero within = omega arith
behind_zero-small colours bound small (suc place) within =
    let long = length-map colours (λ colour. colour + 1) in
    let inside : place < length colours = omega (arith, within, long) in
    let name : slice_index (behind_zero colours) (suc place) ≡ slice_index colours place + 1 =
    get_or-map (λ colour. colour + 1) colours place 0 0 inside in
    let below = small place inside in
    omega (arith, name, below)

pub lists-shared : (auto : Auto) → IsAuto auto → (graph : HeldGraph) → IsInterferenceOf auto graph → (names : SharedNames) (colours : List ℕ)
    → IsSharing graph.regs names.regs.items → IsSharing graph.mregs colours → names.mregs.items ≡ behind_zero colours
    → AreSharedBelow auto names
lists-shared auto formed graph interference names colours of_regs of_mregs is = record {
  shared = λ named mnamed bound mbound.
      subst (λ l. AreShared (record { regs = slice_index names.regs.items; mregs = slice_index l }) auto auto.regs auto.mregs named mnamed) (sym is)
      (names-shared auto formed graph interference names.regs.items colours of_regs of_mregs named mnamed bound
      (subst (λ l. IsBoundOf l mnamed) is mbound));
  small = λ place within.
      let few = formed.few_regs in
      sharing-small graph.regs names.regs.items 4294967295 of_regs (omega (arith, few, interference.fits.reg_count)) place within;
  msmall = λ place within.
      subst (λ l. slice_index l place < 4294967295) (sym is)
      (behind_zero-small colours 4294967294
      (λ inner inside.
      let few = formed.few_mregs in
      sharing-small graph.mregs colours 4294967294 of_mregs (omega (arith, few, interference.fits.mreg_count)) inner inside)
      place (subst (λ l. place < length l) is within));
}

-- How the graph of what interferes in an automaton comes about, edge by edge and state by state.
use Rattle.std.proofs.Common.{◌≡◌, ℕ, zero, suc, ◌+◌, ◌<◌, ◌≤◌, List, [], ◌∷◌, ◌++◌, length, Option, Some, None, refl, Contains, sym, ap, ◌∙◌, subst, arith}
use Rattle.std.proofs.Common.{inl, inr}
use Rattle.std.proofs.lemmas.Bool.{cases_lt}
use Rattle.std.proofs.lemmas.List.Elements.{Contains-append_left, Contains-push, Contains-push_cases}
use Rattle.std.specs.Prelude.{◌⊎◌}
use Rattle.lx_auto.specs.declared.automaton.Accept.{Accept}
use Rattle.lx_auto.specs.declared.automaton.Auto.{Auto}
use Rattle.lx_auto.specs.declared.automaton.Edge.{Edge}
use Rattle.lx_auto.specs.declared.automaton.Held.{Held}
use Rattle.lx_auto.specs.declared.automaton.Held.TheVariants.{Reg, MReg}
use Rattle.lx_auto.specs.declared.ops.Op.{Op}
use Rattle.lx_auto.specs.Automaton.{IsAuto, IsHeld, state_of}
use Rattle.lx_auto.specs.Effects.{Reads, effect_of}
use Rattle.lx_auto.specs.Points.{point_behind}
use Rattle.lx_auto.proofs.SameLists.{Contains-later}
use Rattle.lx_auto.proofs.States.{state_formed}
use Rattle.lx_regs.specs.WrittenBeside.{IsWrittenBeside, MayInterfere, written_on_accept, written_on_edge, written_on_leaving}
use Rattle.lx_regs.specs.declared.held_graphs.HeldGraph.{HeldGraph}
use Rattle.lx_regs.specs.HeldGraphs.{AreBeside, AreJoined, IsHeldGraph, IsThere, Notes, in_front, read_each}
use Rattle.lx_regs.specs.Interference.{AreBesideAt, AreBesideBelow, AreBesideOnAccept, AreBesideOnEdge, AreBesideOnEdges, IsGraphFor, IsInterferenceOf, IsLiveSomehow}
use Rattle.lx_regs.specs.LiveSets.{AreLiveBehind}
use Rattle.lx_auto.specs.Points.{IsMet}
use Rattle.lx_regs.specs.Reads.{read_by}
use Rattle.lx_regs.proofs.LiveRegisters.HeldBounds.{accept-there, edge-ops, edge-there, live-held, read-held}
use Rattle.lx_regs.proofs.SharedNames.NoteSteps.{notes-more, notes-none, notes-same}
use Rattle.lx_regs.proofs.LiveRegisters.ReadEffects.{Reads-read_by, read_by-Reads}

-- ---- what is there

module _ (auto : Auto) (graph : HeldGraph) (fits : IsGraphFor auto graph) where
  pub there : (held : Held) → IsHeld auto.regs auto.mregs held → IsThere graph held
  there (Reg reg) is = subst (λ n. reg < n) (sym fits.reg_count) is
  there (MReg mreg) is = omega (arith, is, fits.mreg_count)

  pub graph-still : (AreSo : Held → Held → Type 0) (new : HeldGraph) → Notes AreSo graph new → IsGraphFor auto new
  graph-still AreSo new notes = record {
    formed = notes.formed;
    reg_count = notes.reg_count ∙ fits.reg_count;
    mreg_count = notes.mreg_count ∙ fits.mreg_count;
  }

-- ---- what a list reads

in_front-cases : (read : Option Held) (others : List Held) (held : Held) → Contains (in_front read others) held
    → (read ≡ Some held) ⊎ Contains others held
in_front-cases None others held has = inr has
in_front-cases (Some first) others held (zero, within, is) = inl (ap Some is)
in_front-cases (Some first) others held (suc place, within, is) = inr (place, omega arith, is)

in_front-first : (read : Option Held) (others : List Held) (held : Held) → read ≡ Some held → Contains (in_front read others) held
in_front-first None others held is = absurd (cc is)
in_front-first (Some first) others held is = let same : first ≡ held = cc is in (0, omega arith, same)

in_front-later : (read : Option Held) (others : List Held) (held : Held) → Contains others held → Contains (in_front read others) held
in_front-later None others held has = has
in_front-later (Some first) others held has = Contains-later first others held has

module _ (ops : List Op) where
  pub read_each-only : (live : List Held) (held : Held) → Contains (read_each ops live) held
      → (next : Held) × Contains live next × Reads (effect_of ops next) held
  read_each-only [] held has = absurd (omega (arith, has.1))
  read_each-only (first ∷ live) held has =
      at (in_front-cases (read_by (effect_of ops first)) (read_each ops live) held has) (read_each-only live held)
    where
      later : ((next : Held) × Contains live next × Reads (effect_of ops next) held)
          → (next : Held) × Contains (first ∷ live) next × Reads (effect_of ops next) held
      later (next, there, reads) = (next, Contains-later first live next there, reads)

      at : (read_by (effect_of ops first) ≡ Some held) ⊎ Contains (read_each ops live) held
          → (Contains (read_each ops live) held → (next : Held) × Contains live next × Reads (effect_of ops next) held)
          → (next : Held) × Contains (first ∷ live) next × Reads (effect_of ops next) held
      at (inl is) rest = (first, (0, omega arith, refl), Reads-read_by (effect_of ops first) held is)
      at (inr has) rest = later (rest has)

  pub read_each-has : (live : List Held) (next held : Held) → Contains live next → Reads (effect_of ops next) held
      → Contains (read_each ops live) held
  read_each-has [] next held (place, within, is) reads = absurd (omega arith)
  read_each-has (first ∷ live) next held (zero, within, is) reads =
      in_front-first (read_by (effect_of ops first)) (read_each ops live) held
      (read_by-Reads (effect_of ops first) held (subst (λ h. Reads (effect_of ops h) held) (sym is) reads))
  read_each-has (first ∷ live) next held (suc place, within, is) reads =
      in_front-later (read_by (effect_of ops first)) (read_each ops live) held
      (read_each-has live next held (place, omega arith, is) reads)

-- ---- one edge

module _ (auto : Auto) (state : ℕ) (edge : Edge) (live : List Held) (alive : AreLiveBehind auto state edge live) where
  pub live-there : IsAuto auto → (held : Held) → Contains live held → IsHeld auto.regs auto.mregs held
  live-there is held has = at (alive.sound held has)
    where
      at : IsLiveSomehow auto state edge held → IsHeld auto.regs auto.mregs held
      at (left, reached, lives) = live-held auto is (point_behind auto (record { state = state; left = left }) edge) held lives

  pub read-there : IsAuto auto → Contains (state_of auto.states state).edges edge → (held : Held) → Contains (read_each edge.ops live) held
      → IsHeld auto.regs auto.mregs held
  read-there is has held read = at (read_each-only edge.ops live held read)
    where
      at : ((next : Held) × Contains live next × Reads (effect_of edge.ops next) held) → IsHeld auto.regs auto.mregs held
      at (next, there, reads) =
          read-held auto.regs auto.mregs edge.ops next
          (edge-ops auto.regs auto.mregs (length auto.states) (state_of auto.states state).edges edge (state_formed auto state is).lead has)
          (live-there is next there) held reads

  pub edge-notes : (old middle new : HeldGraph) → Notes (AreBeside edge.ops live) old middle
      → Notes (AreBeside (state_of auto.states state).leave (read_each edge.ops live)) middle new
      → Notes (AreBesideOnEdge auto state edge) old new
  edge-notes old middle new =
      notes-more (AreBeside edge.ops live) (AreBeside (state_of auto.states state).leave (read_each edge.ops live)) (AreBesideOnEdge auto state edge)
      old middle new forth back
    where
      forth : (held other : Held)
          → AreBeside edge.ops live held other ⊎ AreBeside (state_of auto.states state).leave (read_each edge.ops live) held other
          → AreBesideOnEdge auto state edge held other
      forth held other (inl (writes, has)) = inl (writes, alive.sound other has)
      forth held other (inr (writes, has)) =
          let read = read_each-only edge.ops live other has in inr (writes, (read.0, alive.sound read.0 read.1, read.2))

      back : (held other : Held) → AreBesideOnEdge auto state edge held other
          → AreBeside edge.ops live held other ⊎ AreBeside (state_of auto.states state).leave (read_each edge.ops live) held other
      back held other (inl (writes, lives)) = inl (writes, alive.complete other lives)
      back held other (inr (writes, (next, lives, reads))) =
          inr (writes, read_each-has edge.ops live next other (alive.complete next lives) reads)

-- ---- the edges of a state

module _ (auto : Auto) (state : ℕ) where
  pub edges-begin : (graph : HeldGraph) → IsHeldGraph graph → Notes (AreBesideOnEdges auto state []) graph graph
  edges-begin graph is = notes-none (AreBesideOnEdges auto state []) graph is (λ held other beside two. omega (arith, beside.1.1))

  pub edges-pushed : (edges : List Edge) (edge : Edge) (old middle new : HeldGraph) → Notes (AreBesideOnEdges auto state edges) old middle
      → Notes (AreBesideOnEdge auto state edge) middle new → Notes (AreBesideOnEdges auto state (edges ++ edge ∷ [])) old new
  edges-pushed edges edge old middle new =
      notes-more (AreBesideOnEdges auto state edges) (AreBesideOnEdge auto state edge) (AreBesideOnEdges auto state (edges ++ edge ∷ []))
      old middle new forth back
    where
      forth : (held other : Held) → AreBesideOnEdges auto state edges held other ⊎ AreBesideOnEdge auto state edge held other
          → AreBesideOnEdges auto state (edges ++ edge ∷ []) held other
      forth held other (inl (earlier, has, beside)) = (earlier, Contains-append_left edges (edge ∷ []) earlier has, beside)
      forth held other (inr beside) = (edge, Contains-push edges edge, beside)

      back : (held other : Held) → AreBesideOnEdges auto state (edges ++ edge ∷ []) held other
          → AreBesideOnEdges auto state edges held other ⊎ AreBesideOnEdge auto state edge held other
      back held other (one, has, beside) = at (Contains-push_cases edges edge one has)
        where
          at : Contains edges one ⊎ (edge ≡ one) → AreBesideOnEdges auto state edges held other ⊎ AreBesideOnEdge auto state edge held other
          at (inl there) = inl (one, there, beside)
          at (inr same) = inr (subst (λ e. AreBesideOnEdge auto state e held other) (sym same) beside)

  -- ---- what it accepts

  pub accept-none : (graph : HeldGraph) → IsHeldGraph graph → (state_of auto.states state).accept ≡ None
      → Notes (AreBesideOnAccept auto state) graph graph
  accept-none graph is none =
      notes-none (AreBesideOnAccept auto state) graph is (λ held other (accept, accepts, met, writes, has) two. cc (sym none ∙ accepts))

  pub accept-unmet : (graph : HeldGraph) → IsHeldGraph graph → (IsMet auto state → ⊥) → Notes (AreBesideOnAccept auto state) graph graph
  accept-unmet graph is unmet =
      notes-none (AreBesideOnAccept auto state) graph is (λ held other (accept, accepts, met, writes, has) two. unmet met)

  pub accept-some : (old new : HeldGraph) (accept : Accept) → (state_of auto.states state).accept ≡ Some accept → IsMet auto state
      → Notes (AreBeside accept.ops accept.values) old new → Notes (AreBesideOnAccept auto state) old new
  accept-some old new accept accepts met =
      notes-same (AreBeside accept.ops accept.values) (AreBesideOnAccept auto state) old new
      (λ held other (writes, has). (accept, accepts, met, writes, has)) back
    where
      back : (held other : Held) → AreBesideOnAccept auto state held other → AreBeside accept.ops accept.values held other
      back held other (this, is, there, writes, has) =
          let same : this ≡ accept = cc (sym is ∙ accepts) in
          subst (λ (a : Accept). AreBeside a.ops a.values held other) same (writes, has)

  -- ---- all of it

  pub state-notes : (old middle new : HeldGraph) → Notes (AreBesideOnEdges auto state (state_of auto.states state).edges) old middle
      → Notes (AreBesideOnAccept auto state) middle new → Notes (AreBesideAt auto state) old new
  state-notes old middle new =
      notes-more (AreBesideOnEdges auto state (state_of auto.states state).edges) (AreBesideOnAccept auto state) (AreBesideAt auto state)
      old middle new (λ held other beside. beside) (λ held other beside. beside)

-- ---- all states

module _ (auto : Auto) where
  pub states-begin : (graph : HeldGraph) → IsHeldGraph graph → Notes (AreBesideBelow auto 0) graph graph
  states-begin graph is = notes-none (AreBesideBelow auto 0) graph is (λ held other beside two. omega (arith, beside.1))

  pub states-pushed : (bound : ℕ) (old middle new : HeldGraph) → Notes (AreBesideBelow auto bound) old middle
      → Notes (AreBesideAt auto bound) middle new → Notes (AreBesideBelow auto (bound + 1)) old new
  states-pushed bound old middle new =
      notes-more (AreBesideBelow auto bound) (AreBesideAt auto bound) (AreBesideBelow auto (bound + 1)) old middle new forth back
    where
      forth : (held other : Held) → AreBesideBelow auto bound held other ⊎ AreBesideAt auto bound held other
          → AreBesideBelow auto (bound + 1) held other
      forth held other (inl (state, within, beside)) = (state, omega arith, beside)
      forth held other (inr beside) = (bound, omega arith, beside)

      back : (held other : Held) → AreBesideBelow auto (bound + 1) held other
          → AreBesideBelow auto bound held other ⊎ AreBesideAt auto bound held other
      back held other (state, within, beside) = at (cases_lt state bound)
        where
          at : (state < bound) ⊎ (bound ≤ state) → AreBesideBelow auto bound held other ⊎ AreBesideAt auto bound held other
          at (inl less) = inl (state, less, beside)
          at (inr more) =
              let same : state ≡ bound = omega arith in inr (subst (λ n. AreBesideAt auto n held other) same beside)

  -- what interferes is beside one another at some state
  beside-found : (bound : ℕ) → length auto.states ≤ bound → (held other : Held) → IsWrittenBeside auto held other
      → AreBesideBelow auto bound held other
  beside-found bound all held other (written_on_leaving point reached writes (edge, next, has, live, reads)) =
      let within = edge-there auto.states point.state edge has in
      (point.state, omega arith, inl (edge, has, inr (writes, (next, (point.left, reached, live), reads))))
  beside-found bound all held other (written_on_edge point edge reached has writes live) =
      let within = edge-there auto.states point.state edge has in
      (point.state, omega arith, inl (edge, has, inl (writes, (point.left, reached, live))))
  beside-found bound all held other (written_on_accept point accept reached accepts writes has) =
      let within = accept-there auto.states point.state accept accepts in
      (point.state, omega arith, inr (accept, accepts, (point.left, reached), writes, has))

  beside-written : (bound : ℕ) (held other : Held) → AreBesideBelow auto bound held other → IsWrittenBeside auto held other
  beside-written bound held other (state, within, inl (edge, has, inl (writes, (left, reached, live)))) =
      written_on_edge (record { state = state; left = left }) edge reached has writes live
  beside-written bound held other (state, within, inl (edge, has, inr (writes, (next, (left, reached, live), reads)))) =
      written_on_leaving (record { state = state; left = left }) reached writes (edge, next, has, live, reads)
  beside-written bound held other (state, within, inr (accept, accepts, (left, reached), writes, has)) =
      written_on_accept (record { state = state; left = left }) accept reached accepts writes has

  pub interference-whole : (bound : ℕ) (old new : HeldGraph) → length auto.states ≤ bound → IsGraphFor auto new
      → ((held other : Held) → AreJoined old held other → ⊥) → Notes (AreBesideBelow auto bound) old new → IsInterferenceOf auto new
  interference-whole bound old new all fits none notes = record {
    fits = fits;
    complete = λ held other beside two. notes.joined held other (beside-found bound all held other beside) two;
    sound = λ held other joined. at held other (notes.only held other joined);
  }
    where
      at : (held other : Held) → AreJoined old held other ⊎ (AreBesideBelow auto bound held other ⊎ AreBesideBelow auto bound other held)
          → MayInterfere auto held other
      at held other (inl before) = absurd (none held other before)
      at held other (inr (inl beside)) = inl (beside-written bound held other beside)
      at held other (inr (inr beside)) = inr (beside-written bound other held beside)

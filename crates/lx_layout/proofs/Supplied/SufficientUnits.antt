-- Where a run stands in the block of a state or of the entry: what the machine holds, the units that are left, and those that suffice.
use Rattle.std.specs.Prelude.{◌≡◌, ℕ, suc, ◌-◌, ◌<◌, ◌≤◌, Bool, true, false, List, [], ◌∷◌, length, map, drop, Contains, Option, Some, None, IsSome, is_some, ◌&&◌, refl, if◌then◌else◌}
use Rattle.std.proofs.Common.{sym, ap, arith, true≢false}
use Rattle.std.specs.List.{AllByRecursion}
use Rattle.lx_auto.specs.Automaton.{IsAuto, edge_on, has_unit, state_of}
use Rattle.lx_auto.specs.Bank.{Bank}
use Rattle.lx_auto.specs.Run.{Left, Standing, behind_edge, left_after}
use Rattle.lx_auto.specs.declared.automaton.Accept.{Accept}
use Rattle.lx_auto.specs.declared.automaton.Auto.{Auto}
use Rattle.lx_auto.specs.declared.automaton.Edge.{Edge}
use Rattle.lx_auto.specs.declared.automaton.State.{State}
use Rattle.lx_auto.proofs.States.{edge_on-leads, state_formed}
use Rattle.lx_ccode.specs.declared.piece.Piece.{Piece}
use Rattle.lx_ccode.specs.Machine.{Answer}
use Rattle.lx_ccode.specs.Schedules.{Buffer}
use Rattle.lx_fill.specs.Checks.{Suffices, goes_on as reads_on, graph_of, stops as reads_one}
use Rattle.lx_sequence.specs.ParallelCopies.{sequentialized}
use Rattle.lx_sequence.specs.Turns.{after_ops}
use Rattle.lx_sequence.proofs.Agreeing.{Agrees, Agrees-after}
use Rattle.lx_layout.specs.Halting.{Halting, is_saved, saves_on}
use Rattle.lx_layout.specs.Supplies.{Supply}
use Rattle.lx_layout.proofs.Runs.UnitsLeft.{edge_on-one, list_any-edge_on}
use Rattle.lx_layout.proofs.Supplied.Readers.{IsReading, stores_states}
use Rattle.lx_layout.proofs.Supplied.Refills.{Buffered}
use Rattle.lx_layout.proofs.Supplied.StateRuns.{FallsOnward, IsFoundAgain, held_after}

-- ---- what the machine holds

-- the registers of the machine behind an edge
abbrev pub bank_behind : Auto → (state offset : ℕ) → Edge → Bank → Bank
bank_behind auto state offset edge k =
    after_ops offset (sequentialized auto.regs auto.mregs edge.ops)
    (after_ops offset (sequentialized auto.regs auto.mregs (state_of auto.states state).leave) k)

-- what is saved behind it
abbrev pub left_behind : Halting → Auto → (state offset : ℕ) → Edge → Option Left → Option Left
left_behind halting auto state offset edge held =
    held_after (state_of auto.states state).accept (halting.falls edge.to) state offset held

-- what is saved on an edge is found again, too
IsFoundAgain-after : (halting : Halting) (auto : Auto) (s pos : ℕ) (o : Option Accept) (falls : Bool) (held : Option Left) → s < length auto.states
    → (is_some o && falls ≡ true → is_saved halting (state_of auto.states s) ≡ true) → (state_of auto.states s).accept ≡ o
    → IsFoundAgain halting auto held → IsFoundAgain halting auto (held_after o falls s pos held)
IsFoundAgain-after halting auto s pos None falls held lt saves e ok = ok
IsFoundAgain-after halting auto s pos (Some accept) true held lt saves e ok = (lt, saves refl, e)
IsFoundAgain-after halting auto s pos (Some accept) false held lt saves e ok = ok

-- before a state from which a match falls back it is what was left last
held_after-left : (o : Option Accept) (falls : Bool) (held : Option Left) (standing : Standing) → (o ≡ None → held ≡ standing.left) → falls ≡ true
    → held_after o falls standing.state standing.offset held ≡ left_after o standing
held_after-left None falls held standing same is = same refl
held_after-left (Some accept) true held standing same is = refl
held_after-left (Some accept) false held standing same is = absurd (true≢false (sym is))

-- where nothing was left, no state that accepts was left
left_after-none : (o : Option Accept) (standing : Standing) → left_after o standing ≡ None → (o ≡ None) × (standing.left ≡ None)
left_after-none None standing none = (refl, none)
left_after-none (Some accept) standing none = absurd (cc)

-- where a match falls back though nothing was left, it falls back from state 0
abbrev pub IsFresh : Halting → Standing → Type 0
IsFresh halting st = st.left ≡ None → halting.falls st.state ≡ true → halting.falls 0 ≡ true

pub IsFresh-edge : (halting : Halting) (auto : Auto) (st : Standing) (unit : ℕ) (edge : Edge) → FallsOnward halting auto → st.state < length auto.states
    → edge_on (state_of auto.states st.state).edges unit ≡ Some edge → IsFresh halting st
    → IsFresh halting (behind_edge (state_of auto.states st.state) st edge)
IsFresh-edge halting auto st unit edge onward lt on fresh none falls =
    let was = left_after-none (state_of auto.states st.state).accept st none in
    fresh was.1 (onward st.state edge lt was.0 (edge_on-one (state_of auto.states st.state).edges unit edge on) falls)

-- what the machine has saved, and its registers, are those of the automaton where its run stands
pub record HoldsAs (halting : Halting) (auto : Auto) (st : Standing) (held : Option Left) (k : Bank) : Type 0 where
  pub state : st.state < length auto.states
  pub found : IsFoundAgain halting auto held
  pub same : halting.falls st.state ≡ true → held ≡ st.left
  pub fresh : IsFresh halting st
  pub agrees : Agrees auto.regs auto.mregs k st.bank

pub HoldsAs-edge : (halting : Halting) (auto : Auto) (st : Standing) (held : Option Left) (k : Bank) (unit : ℕ) (edge : Edge) → IsAuto auto
    → FallsOnward halting auto → HoldsAs halting auto st held k → edge_on (state_of auto.states st.state).edges unit ≡ Some edge
    → HoldsAs halting auto (behind_edge (state_of auto.states st.state) st edge) (left_behind halting auto st.state st.offset edge held)
    (bank_behind auto st.state st.offset edge k)
HoldsAs-edge halting auto st held k unit edge formed onward h on =
    let state : State = state_of auto.states st.state in
    let is = state_formed auto st.state formed in
    let leads = edge_on-leads auto.regs auto.mregs (length auto.states) state.edges unit edge is.lead on in
    let agrees = Agrees-after auto.regs auto.mregs st.offset state.leave k st.bank is.leave h.agrees in
    record {
      state = leads.0;
      found = IsFoundAgain-after halting auto st.state st.offset state.accept (halting.falls edge.to) held h.state
          (λ saves. list_any-edge_on (λ edge. saves_on halting state edge) state.edges unit edge on saves) refl h.found;
      same = λ falls.
          held_after-left state.accept (halting.falls edge.to) held st
          (λ none. h.same (onward st.state edge h.state none (edge_on-one state.edges unit edge on) falls)) falls;
      fresh = IsFresh-edge halting auto st unit edge onward h.state on h.fresh;
      agrees = Agrees-after auto.regs auto.mregs st.offset edge.ops _ _ leads.1 agrees;
    }

-- ---- edges as ways of the graph

contains_cons : (first other : ℕ) (list : List ℕ) → Contains list other → Contains (first ∷ list) other
contains_cons first other list has = (suc has.0, omega (arith, has.1), has.2)

pub edge_on-contained : (edges : List Edge) (unit : ℕ) (edge : Edge) → edge_on edges unit ≡ Some edge
    → Contains (map (λ (edge : Edge). edge.to) edges) edge.to
edge_on-contained [] unit edge on = absurd (cc)
edge_on-contained (first ∷ edges) unit edge on = by (has_unit first unit) on (λ later. edge_on-contained edges unit edge later)
  where
    by : (t : Bool) → (if t then Some first else edge_on edges unit) ≡ Some edge
        → (edge_on edges unit ≡ Some edge → Contains (map (λ (edge : Edge). edge.to) edges) edge.to)
        → Contains (first.to ∷ map (λ (edge : Edge). edge.to) edges) edge.to
    by true on again = let same : first ≡ edge = cc in (0, omega arith, ap (λ (e : Edge). e.to) same)
    by false on again = contains_cons first.to edge.to (map (λ (edge : Edge). edge.to) edges) (again on)

some_edge : (edges : List Edge) → (edges ≡ [] → ⊥) → (next : ℕ) × Contains (map (λ (edge : Edge). edge.to) edges) next
some_edge [] some = absurd (some refl)
some_edge (edge ∷ edges) some = (edge.to, (0, omega arith, refl))

-- where so many units suffice from a state with an edge there is one
pub suffices-one : (auto : Auto) (check : ℕ → ℕ) (state units : ℕ) → ((state_of auto.states state).edges ≡ [] → ⊥)
    → Suffices (graph_of auto) check state units → 1 ≤ units
suffices-one auto check state units some enough =
    let next = some_edge (state_of auto.states state).edges some in enough 1 (reads_one state next.0 next.1)

-- behind an edge to a state without a check one less suffices
pub suffices-edge : (auto : Auto) (check : ℕ → ℕ) (state unit limit offset : ℕ) (edge : Edge)
    → edge_on (state_of auto.states state).edges unit ≡ Some edge → check edge.to ≡ 0
    → Suffices (graph_of auto) check state (limit - offset) → Suffices (graph_of auto) check edge.to (limit - suc offset)
suffices-edge auto check state unit limit offset edge on none enough = λ others reads.
    let more = enough (suc others) (reads_on state edge.to others (edge_on-contained (state_of auto.states state).edges unit edge on) none reads) in
    omega (arith, more)

pub suffices-more : (auto : Auto) (check : ℕ → ℕ) (state few more : ℕ) → few ≤ more → Suffices (graph_of auto) check state few
    → Suffices (graph_of auto) check state more
suffices-more auto check state few more le enough = λ others reads. let h = enough others reads in omega (arith, h, le)

-- ---- the units that are left

module _ (p : Piece) (x : List ℕ) (start : ℕ) (supply : Supply) (greatest : ℕ) (auto : Auto) where
  pub record StandsAt (w : List ℕ) (lim : ℕ) (st : Standing) (q : List Answer) (buffer : Buffer) : Type 0 where
    pub rest : w ≡ drop st.offset x
    pub small : AllByRecursion (λ unit. unit ≤ greatest) w
    pub from : start ≤ st.offset
    pub below : st.offset ≤ lim
    pub fills : Buffered (length x) start (stores_states p) lim q buffer
    -- without refills the buffer has the whole stream, where the piece reads
    pub whole : IsReading p → IsSome supply.eof → supply.tries ≡ false → lim ≡ length x
    -- a state without a check has units enough up to the next one
    pub ready : supply.eof ≡ None → supply.check st.state ≡ 0 → Suffices (graph_of auto) supply.check st.state (lim - st.offset)

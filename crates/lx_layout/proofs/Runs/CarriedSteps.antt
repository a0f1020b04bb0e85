-- From stretches of a trace to what a piece that carries an automaton does.
use Rattle.std.specs.Prelude.{◌≡◌, ℕ, ◌+◌, ◌<◌, ◌≤◌, Bool, List, [], ◌∷◌, Some, None, Option}
use Rattle.std.proofs.Common.{arith, sym, ◌∙◌, subst}
use Rattle.std.specs.List.{AllByRecursion}
use Rattle.lx_auto.specs.Automaton.{state_of}
use Rattle.lx_auto.specs.Run.{Standing, behind_edge, found_behind}
use Rattle.lx_auto.specs.declared.automaton.Auto.{Auto}
use Rattle.lx_auto.specs.declared.automaton.Edge.{Edge}
use Rattle.lx_ccode.specs.declared.piece.Piece.{Piece}
use Rattle.lx_ccode.specs.declared.piece.Stmt.{Stmt}
use Rattle.lx_ccode.specs.Effects.{history_written}
use Rattle.lx_ccode.specs.Machine.{Answer, Machine, code_at}
use Rattle.lx_ccode.specs.Scanners.{histories_named, registers_named}
use Rattle.lx_ccode.proofs.TraceSteps.{EndsSo, LeadsSo}
use Rattle.lx_layout.specs.Carries.{EndsAs, Follows, NamesItsOwn, StandsAs}
use Rattle.lx_layout.specs.Endings.{Ending}
use Rattle.lx_layout.specs.Stops.{told_found}

-- a statement that names no register
pub nothing_named : {auto : Auto} (statement : Stmt) → registers_named statement ≡ [] → histories_named statement ≡ [] → history_written statement ≡ None
    → NamesItsOwn auto statement
nothing_named {auto} statement registers histories written = record {
  registers = subst (λ l. AllByRecursion (λ register. (0 < register) × (register ≤ auto.regs + 1)) l) (sym registers) tt;
  histories = subst (λ l. AllByRecursion (λ history. history ≤ auto.mregs) l) (sym histories) tt;
  empty = λ e. let h = sym written ∙ e in cc;
}

-- a statement that names register 1 alone
pub first_named : {auto : Auto} (statement : Stmt) → registers_named statement ≡ 1 ∷ [] → histories_named statement ≡ [] → history_written statement ≡ None
    → NamesItsOwn auto statement
first_named {auto} statement registers histories written = record {
  registers = subst (λ l. AllByRecursion (λ register. (0 < register) × (register ≤ auto.regs + 1)) l) (sym registers) ((omega arith, omega arith), tt);
  histories = subst (λ l. AllByRecursion (λ history. history ≤ auto.mregs) l) (sym histories) tt;
  empty = λ e. let h = sym written ∙ e in cc;
}

module _ (piece : Piece) (endings : ℕ → Ending) (auto : Auto) (place : ℕ → ℕ) (saved : Option (ℕ → ℕ)) (falls : ℕ → Bool) (stream : List ℕ) (code : List Stmt) (machine : Machine)
    (answers : List Answer) (standing : Standing) where
  pub ends_as : (peeks : ℕ) → peeks ≤ 1
      → EndsSo piece stream peeks 0 code machine answers (told_found endings machine.cond (found_behind auto standing) standing.offset)
      → EndsAs piece endings auto place saved falls stream code machine answers 0 standing
  ends_as peeks few h = record {
    steps = h.steps;
    outcome = h.outcome;
    after = h.after;
    over = h.over;
    tells = h.tells;
    passes = h.passes;
    reads = let read = h.reads in omega (arith, read, few);
  }

  pub follows : (edge : Edge) (next : List Stmt) (after : Machine) (peeks : ℕ) → peeks ≤ 1
      → LeadsSo piece stream peeks 1 (place edge.to) code machine answers next after → code_at piece.blocks (Some (place edge.to)) ≡ Some next
      → StandsAs piece endings auto place saved falls after (behind_edge (state_of auto.states standing.state) standing edge)
      → after.limit ≡ machine.limit → after.cond ≡ machine.cond → Follows piece endings auto place saved falls stream code machine answers standing edge
  follows edge next after peeks few h at stands limit cond = record {
    leads = record {
      steps = h.steps;
      next = next;
      after = after;
      leads = h.leads;
      at_place = at;
      stands = stands;
      passes = h.passes;
      reads = let read = h.reads in omega (arith, read, few);
      limit = limit;
      cond = cond;
    };
    jumps = h.jumps;
  }

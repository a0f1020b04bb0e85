-- Along an edge the blocks that serve an automaton lead the machine on as the edge leads the run on.
use Rattle.std.specs.Prelude.{◌≡◌, ℕ, suc, ◌<◌, Bool, true, false, List, [], ◌∷◌, Some, None, nat_lt, refl, Option}
use Rattle.std.proofs.Common.{lt-ltb}
use Rattle.lx_auto.specs.Automaton.{AreOps, IsAuto, state_of}
use Rattle.lx_auto.specs.Bank.{bank_after}
use Rattle.lx_auto.specs.Run.{Standing, behind_edge}
use Rattle.lx_auto.specs.declared.automaton.Auto.{Auto}
use Rattle.lx_auto.specs.declared.automaton.Edge.{Edge}
use Rattle.lx_auto.specs.declared.automaton.State.{State}
use Rattle.lx_auto.proofs.States.{state_formed}
use Rattle.lx_ccode.specs.declared.piece.Piece.{Piece}
use Rattle.lx_ccode.specs.declared.piece.Stmt.{Stmt}
use Rattle.lx_ccode.specs.declared.piece.Stmt.TheVariants.{Accept as SaveAccept, Backup, Goto, Skip}
use Rattle.lx_ccode.specs.Machine.{Answer, Machine, code_at}
use Rattle.lx_ccode.proofs.TraceSteps.{LeadsSo, goto_step, leads_at, leads_skip}
use Rattle.lx_sequence.proofs.Agreeing.{Agrees-after}
use Rattle.lx_layout.specs.Codes.{list_code, save_code, saved_by}
use Rattle.lx_layout.specs.Endings.{Ending}
use Rattle.lx_layout.specs.Fallback.{edge_code}
use Rattle.lx_layout.specs.Halting.{Halting, saves_on}
use Rattle.lx_layout.proofs.Carrying.MachineSteps.{acted, bank_of, list_walk}
use Rattle.lx_layout.proofs.Carrying.SavedAccepts.{Stands, kept, registers_agree, stands_behind}
use Rattle.lx_layout.proofs.Carrying.SilentTraces.{Walks, stays, walk_leads, walk_on, walk_step}

module _ (piece : Piece) (endings : ℕ → Ending) (auto : Auto) (place : ℕ → ℕ) (saved : Option (ℕ → ℕ)) (halting : Halting) (formed : IsAuto auto) (stream : List ℕ) (answers : List Answer) where
  save_walk : (saves : Bool) (number : Option ℕ) (rest : List Stmt) (machine : Machine)
      → Walks piece stream 0 (save_code saves number rest) machine answers rest (kept piece endings auto place saved halting.falls saves number machine)
  save_walk false number rest machine = stays piece stream rest machine answers
  save_walk true None rest machine = walk_step piece stream Backup refl refl refl
  save_walk true (Some number) rest machine =
      walk_on piece stream (walk_step piece stream Backup refl refl refl) (walk_step piece stream (SaveAccept number) refl refl refl)

  module _ (standing : Standing) (edge : Edge) (machine : Machine) where
    abbrev left : State
    left = state_of auto.states standing.state

    -- where the state is saved, behind its operations, and behind those of the edge
    abbrev at_first : Machine
    at_first = kept piece endings auto place saved halting.falls (saves_on halting (state_of auto.states standing.state) edge) (saved_by saved standing.state) machine

    abbrev at_leave : Machine
    at_leave = acted piece stream answers auto (state_of auto.states standing.state).leave at_first

    abbrev at_edge : Machine
    at_edge = acted piece stream answers auto edge.ops at_leave

    -- and where the unit is passed
    abbrev pub passed : Machine
    passed = record at_edge { cursor = suc machine.cursor }

    pub edge_leads : (to : List Stmt) → AreOps auto.regs auto.mregs edge.ops → code_at piece.blocks (Some (place edge.to)) ≡ Some to
        → machine.cursor < machine.limit
        → LeadsSo piece stream 0 1 (place edge.to)
        (edge_code halting auto (state_of auto.states standing.state) (saved_by saved standing.state) edge (place edge.to)) machine answers to passed
    edge_leads to are has lt =
        let last : List Stmt = Skip ∷ Goto (place edge.to) ∷ [] in
        let before : nat_lt machine.cursor machine.limit ≡ true = lt-ltb machine.cursor machine.limit lt in
        walk_leads piece stream
        (save_walk (saves_on halting left edge) (saved_by saved standing.state) (list_code auto left.leave (list_code auto edge.ops last)) machine)
        (walk_leads piece stream
        (list_walk piece stream answers auto left.leave (state_formed auto standing.state formed).leave (list_code auto edge.ops last) at_first)
        (walk_leads piece stream (list_walk piece stream answers auto edge.ops are last at_leave)
        (leads_skip piece stream before
        (leads_at piece stream (Goto (place edge.to)) refl refl (place edge.to)
        (goto_step piece stream [] passed answers (place edge.to) to has) refl))))

    pub passed_stands : AreOps auto.regs auto.mregs edge.ops
        → ((state_of auto.states standing.state).accept ≡ None → halting.falls edge.to ≡ true → halting.falls standing.state ≡ true)
        → Stands piece endings auto place saved halting.falls machine standing
        → Stands piece endings auto place saved halting.falls passed (behind_edge (state_of auto.states standing.state) standing edge)
    passed_stands are onward stands =
        stands_behind piece endings auto place saved halting.falls stands edge passed onward
        (Agrees-after auto.regs auto.mregs machine.cursor edge.ops (bank_of at_leave) (bank_after machine.cursor left.leave standing.bank) are
        (Agrees-after auto.regs auto.mregs machine.cursor left.leave (bank_of at_first) standing.bank (state_formed auto standing.state formed).leave
        (registers_agree piece endings auto place saved halting.falls stands)))
        refl refl refl refl

-- What holds of each statement of a layout of a well-formed automaton.
use Rattle.std.specs.Prelude.{◌≡◌, ℕ, suc, ◌+◌, ◌<◌, ◌≤◌, List, [], ◌∷◌, length, Option, Some, None}
use Rattle.std.proofs.Common.{arith}
use Rattle.std.specs.List.{AllByRecursion}
use Rattle.lx_auto.specs.Automaton.{AreHeld, AreOps, AreStates, IsAccept, IsAuto, IsHeld, LeadWithin}
use Rattle.lx_auto.specs.declared.automaton.Accept.{Accept}
use Rattle.lx_auto.specs.declared.automaton.Auto.{Auto}
use Rattle.lx_auto.specs.declared.automaton.Edge.{Edge}
use Rattle.lx_auto.specs.declared.automaton.Held.{Held}
use Rattle.lx_auto.specs.declared.automaton.State.{State}
use Rattle.lx_auto.specs.declared.ops.Op.{Op}
use Rattle.lx_ccode.specs.declared.piece.Stmt.{Stmt}
use Rattle.lx_layout.specs.Codes.{op_code}
use Rattle.lx_layout.specs.Endings.{Ending, ending_code}
use Rattle.lx_layout.specs.Halting.{Halting, saved_accepts}
use Rattle.lx_layout.specs.SuppliedLayout.{supplied_layout}
use Rattle.lx_layout.specs.Supplies.{Reader, Supply, entry, state}
use Rattle.lx_dispatch.specs.TestTrees.{Asked, TestTree, fork, leaf, switch, test}
use Rattle.lx_layout.proofs.PartLayouts.EachCode.{StatesAsk, codes_each}
use Rattle.lx_layout.proofs.PartLayouts.OwnHistories.{IsOwnOp, own_ops}
use Rattle.lx_layout.proofs.PartLayouts.PlainBlocks.{OfAccept, OfAccepts}
use Rattle.lx_layout.proofs.PartLayouts.ReaderBlocks.{EachUnit}
use Rattle.lx_layout.proofs.PartLayouts.StatementSorts.{OfEdge, OfEnd, OfEndRule, OfOps, PlainStatements, ReaderStatements, plain_statements, reader_statements}
use Rattle.lx_layout.proofs.Validity.EachElement.{each-map}

-- nothing is demanded of what is asked
pub units_any : {A : Type 0} (tree : TestTree A) → EachUnit (λ unit. Unit {0}) tree
units_any (leaf class) = tt
units_any (test question class high) = (tt, tt, units_any high)
units_any (fork question low high) = (tt, units_any low, units_any high)
units_any {A} (switch cases last) = (tt, by cases, tt)
  where
    by : (cases : List (List ℕ × A)) → AllByRecursion (λ case. Unit {0}) cases
    by [] = tt
    by (case ∷ cases) = (tt, by cases)

pub each_held : (regs mregs : ℕ) (values : List Held) → AreHeld regs mregs values → AllByRecursion (IsHeld regs mregs) values
each_held regs mregs [] h = tt
each_held regs mregs (value ∷ values) h = (h.0, each_held regs mregs values h.1)

module _ (Q : Stmt → Type 0) (G : Asked → Type 0) (R : Reader → Type 0) (C S : ℕ → Type 0) (supply : Supply) (halting : Halting)
    (endings : ℕ → Ending) (end_rule : Option ℕ) (trees : Reader → TestTree (Option ℕ)) (auto : Auto) where
  -- the end of a rule by an accept
  abbrev pub EndHolds : Accept → Type 0
  EndHolds accept = AllByRecursion Q (ending_code endings accept.rule accept.values)

  -- what is asked of a layout
  pub record StatementsAsk : Type 0 where
    pub plain : PlainStatements Q S halting endings auto
    pub readers : ReaderStatements Q G R C supply
    pub own : (op : Op) → IsOwnOp auto.regs auto.mregs op → Q (op_code op)
    pub reads : (number : ℕ) → number < length auto.states → R (state number)
    pub entry_reads : R entry
    pub check : supply.eof ≡ None → (number : ℕ) → number < length auto.states → C (supply.check number)
    pub units : (number : ℕ) → number < length auto.states → EachUnit G (trees (state number))
    pub entry_units : EachUnit G (trees entry)
    pub saved : (saved : ℕ) → saved ≤ suc (length (saved_accepts halting auto.states)) → S saved
    pub ends : OfAccepts EndHolds auto.states
    pub ends_by : (rule : ℕ) → end_rule ≡ Some rule → AllByRecursion Q (ending_code endings rule [])

  module _ (asks : StatementsAsk) (formed : IsAuto auto) where
    of_ops : (ops : List Op) → AreOps auto.regs auto.mregs ops → OfOps Q S halting endings auto ops
    of_ops ops are = each-map (IsOwnOp auto.regs auto.mregs) (λ op. Q (op_code op)) asks.own _ (own_ops auto.regs auto.mregs ops are)

    of_edges : (count : ℕ) (given : State) (edges : List Edge) → AreOps auto.regs auto.mregs given.leave → LeadWithin auto.regs auto.mregs count edges
        → AllByRecursion (OfEdge Q S halting endings auto given) edges
    of_edges count given [] leave lead = tt
    of_edges count given (edge ∷ edges) leave lead = ((of_ops given.leave leave, of_ops edge.ops lead.1), of_edges count given edges leave lead.2)

    of_accept : (o : Option Accept) → IsAccept auto.regs auto.mregs o → OfAccept EndHolds o
        → OfAccept (OfEnd Q S halting endings auto) o
    of_accept None is h = tt
    of_accept (Some accept) is h = (of_ops accept.ops is.0, h)

    states_ask : (count number : ℕ) (states : List State) → number + length states ≤ length auto.states
        → AreStates auto.regs auto.mregs count states → OfAccepts EndHolds states
        → StatesAsk (AllByRecursion Q) G R C S (OfEdge Q S halting endings auto) (OfEnd Q S halting endings auto)
        (OfEndRule Q S halting endings auto) supply halting endings end_rule trees auto number states
    states_ask count number [] within are ends = tt
    states_ask count number (given ∷ states) within are ends = (
      record {
        reader = asks.reads number (omega (arith, within));
        check = λ none. asks.check none number (omega (arith, within));
        units = asks.units number (omega (arith, within));
        edges = of_edges count given given.edges are.0.leave are.0.lead;
        accept = of_accept given.accept are.0.accept ends.0;
      },
      states_ask count (suc number) states (omega (arith, within)) are.1 ends.1,
    )

    pub statements_each : (begin : ℕ) → AllByRecursion (λ code. AllByRecursion Q code) (supplied_layout supply halting endings end_rule trees auto begin)
    statements_each begin =
        codes_each (AllByRecursion Q) G R C S (OfEdge Q S halting endings auto) (OfEnd Q S halting endings auto)
        (OfEndRule Q S halting endings auto) supply halting endings end_rule trees auto
        (record {
          readers = reader_statements Q G R C supply asks.readers;
          plain = plain_statements Q S halting endings auto asks.plain;
          states = states_ask (length auto.states) 0 auto.states (omega arith) formed.states asks.ends;
          entry_reads = asks.entry_reads;
          entry_units = asks.entry_units;
          saved = asks.saved;
          ends_by = asks.ends_by;
        }) begin

-- The statements of a layout name registers of its automaton, or the one spare of each sort.
use Rattle.std.specs.Prelude.{◌≡◌, ℕ, suc, ◌+◌, ◌<◌, ◌≤◌, List, [], ◌∷◌, length, Option, Some, None, Bool, true, false, refl}
use Rattle.std.proofs.Common.{◌∙◌, arith, subst, sym}
use Rattle.std.specs.Bool.{OnFalse}
use Rattle.std.specs.List.{AllByRecursion}
use Rattle.lx_auto.specs.Automaton.{AreHeld, AreStates, IsAccept, IsAuto, IsHeld}
use Rattle.lx_auto.specs.declared.automaton.Accept.{Accept}
use Rattle.lx_auto.specs.declared.automaton.Auto.{Auto}
use Rattle.lx_auto.specs.declared.automaton.Held.{Held}
use Rattle.lx_auto.specs.declared.automaton.Held.TheVariants.{Reg, MReg}
use Rattle.lx_auto.specs.declared.automaton.State.{State}
use Rattle.lx_auto.specs.declared.ops.Op.{Op}
use Rattle.lx_auto.specs.declared.ops.Op.TheVariants.{Here, Null, Copy, MHere, MNull, MCopy}
use Rattle.lx_ccode.specs.Effects.{history_written}
use Rattle.lx_ccode.specs.Scanners.{histories_named, registers_named}
use Rattle.lx_ccode.specs.declared.piece.Stmt.{Stmt}
use Rattle.lx_layout.specs.Carries.{NamesItsOwn}
use Rattle.lx_layout.specs.Codes.{op_code}
use Rattle.lx_layout.specs.Endings.{Ending, action_code, cond_code, ending_code, is_slash, last_code, tag_code}
use Rattle.lx_layout.specs.FormedParts.{AreFormed}
use Rattle.lx_layout.specs.Halting.{Halting}
use Rattle.lx_layout.specs.Parts.{EachPart, Part, given_asked, given_supply, part_codes}
use Rattle.lx_layout.specs.SuppliedLayout.{supplied_layout}
use Rattle.lx_layout.specs.Supplies.{Reader, Supply, entry, state}
use Rattle.lx_dispatch.specs.TestTrees.{TestTree}
use Rattle.lx_layout.proofs.BlockLayouts.Questions.{any_question}
use Rattle.lx_layout.proofs.PartLayouts.EachStatement.{EndHolds, each_held, statements_each, units_any}
use Rattle.lx_layout.proofs.PartLayouts.EndingStatements.{EachTag, HoldsOfEnds, ending_each}
use Rattle.lx_layout.proofs.PartLayouts.OwnHistories.{IsOwnOp}
use Rattle.lx_layout.proofs.PartLayouts.PlainBlocks.{OfAccept, OfAccepts}
use Rattle.lx_layout.proofs.PartLayouts.StatementSorts.{PlainStatements, ReaderStatements}

module _ (auto : Auto) where
  -- a statement that names nothing
  nothing : {statement : Stmt} → registers_named statement ≡ [] → histories_named statement ≡ [] → history_written statement ≡ None
      → NamesItsOwn auto statement
  nothing no_registers no_histories none = record {
    registers = subst (λ list. AllByRecursion (λ register. (0 < register) × (register ≤ auto.regs + 1)) list) (sym no_registers) tt;
    histories = subst (λ list. AllByRecursion (λ history. history ≤ auto.mregs) list) (sym no_histories) tt;
    empty = λ e. let clash = sym none ∙ e in absurd (cc);
  }

  op_own : (op : Op) → IsOwnOp auto.regs auto.mregs op → NamesItsOwn auto (op_code op)
  op_own (Here r) h = record { registers = ((omega arith, omega (arith, h)), tt); histories = tt; empty = λ e. absurd (cc) }
  op_own (Null r) h = record { registers = ((omega arith, omega (arith, h)), tt); histories = tt; empty = λ e. absurd (cc) }
  op_own (Copy r s) h = record {
    registers = ((omega arith, omega (arith, h.0)), ((omega arith, omega (arith, h.1)), tt));
    histories = tt;
    empty = λ e. absurd (cc);
  }
  op_own (MHere r) h = record { registers = tt; histories = (h.1, tt); empty = λ e. let z : r ≡ 0 = cc in omega (arith, z, h.0) }
  op_own (MNull r) h = record { registers = tt; histories = (h.1, tt); empty = λ e. let z : r ≡ 0 = cc in omega (arith, z, h.0) }
  op_own (MCopy r s) h =
      record { registers = tt; histories = (h.0.1, (h.1, tt)); empty = λ e. let z : r ≡ 0 = cc in omega (arith, z, h.0.0) }

  tag_own : (held : Held) (name : List ℕ) → IsHeld auto.regs auto.mregs held → NamesItsOwn auto (tag_code held name)
  tag_own (Reg r) name h = record { registers = ((omega arith, omega (arith, h)), tt); histories = tt; empty = λ e. absurd (cc) }
  tag_own (MReg r) name h = record { registers = tt; histories = (omega (arith, h), tt); empty = λ e. absurd (cc) }

  ends_own : (most : ℕ) → HoldsOfEnds (NamesItsOwn auto) (IsHeld auto.regs auto.mregs) (λ name. Unit {0}) most
  ends_own most = record {
    tags = λ held name is any. tag_own held name is;
    ends = λ reg place is lt. record { registers = ((omega arith, omega (arith, is)), tt); histories = tt; empty = λ e. absurd (cc) };
    backs = λ reg is. record { registers = ((omega arith, omega (arith, is)), tt); histories = tt; empty = λ e. absurd (cc) };
  }

  tags_any : (slash : Option ℕ) (number : ℕ) (tags : List (List ℕ)) → EachTag (λ name. Unit {0}) slash number tags
  tags_any slash number [] = tt
  tags_any slash number (tag ∷ tags) = (by (is_slash slash number), tags_any slash (suc number) tags)
    where
      by : (t : Bool) → OnFalse t (Unit {0})
      by true = tt
      by false = tt

  last_own : (endings : ℕ → Ending) (rule : ℕ) → AllByRecursion (NamesItsOwn auto) (last_code endings rule)
  last_own endings rule = by (endings rule).goes_to
    where
      acts : (action : Option (List ℕ)) (forgets : Bool) → AllByRecursion (NamesItsOwn auto) (action_code rule (endings rule) action forgets)
      acts None true = (nothing refl refl refl, (nothing refl refl refl, tt))
      acts None false = (nothing refl refl refl, tt)
      acts (Some action) forgets = (nothing refl refl refl, tt)

      by : (cond : Option (List ℕ))
          → AllByRecursion (NamesItsOwn auto) (cond_code cond (action_code rule (endings rule) (endings rule).action (endings rule).forgets))
      by None = acts (endings rule).action (endings rule).forgets
      by (Some cond) = (nothing refl refl refl, acts (endings rule).action (endings rule).forgets)

  ending_own : (endings : ℕ → Ending) (rule : ℕ) (values : List Held) → AreHeld auto.regs auto.mregs values
      → AllByRecursion (NamesItsOwn auto) (ending_code endings rule values)
  ending_own endings rule values held =
      ending_each (NamesItsOwn auto) (IsHeld auto.regs auto.mregs) (λ name. Unit {0}) (length values) (ends_own (length values)) endings rule values
      (λ n is. nothing refl refl refl)
      (tags_any (endings rule).slash 0 (endings rule).tags) (each_held auto.regs auto.mregs values held) (omega arith) (last_own endings rule)

  module _ (supply : Supply) (halting : Halting) (endings : ℕ → Ending) (end_rule : Option ℕ) (trees : Reader → TestTree (Option ℕ)) where
    plain_own : PlainStatements (NamesItsOwn auto) (λ saved. Unit {0}) halting endings auto
    plain_own = record {
      goes = λ block. nothing refl refl refl;
      skips = nothing refl refl refl;
      backs_up = nothing refl refl refl;
      restores = nothing refl refl refl;
      leaves = nothing refl refl refl;
      saves = λ saved is. nothing refl refl refl;
      chooses = λ saved block is. nothing refl refl refl;
    }

    readers_own : ReaderStatements (NamesItsOwn auto) (λ unit. Unit {0}) (λ reader. Unit {0}) (λ units. Unit {0}) supply
    readers_own = record {
      goes = λ block. nothing refl refl refl;
      unit = λ question block is. any_question (NamesItsOwn auto) block (λ greatest. nothing refl refl refl) (λ unit. nothing refl refl refl) (λ set. nothing refl refl refl) question;
      switches = λ cases last is. nothing refl refl refl;
      peeks = nothing refl refl refl;
      unchecked = tt;
      needs = λ units is. nothing refl refl refl;
      stores = λ number reader same is. nothing refl refl refl;
      tries = λ block some tries. nothing refl refl refl;
      at_end = λ block. nothing refl refl refl;
    }

    ends_of : (count : ℕ) (states : List State) → AreStates auto.regs auto.mregs count states
        → OfAccepts (EndHolds (NamesItsOwn auto) (λ unit. Unit {0}) (λ reader. Unit {0}) (λ units. Unit {0}) (λ saved. Unit {0}) supply halting endings end_rule
        trees auto) states
    ends_of count [] are = tt
    ends_of count (given ∷ states) are = (by given.accept are.0.accept, ends_of count states are.1)
      where
        by : (o : Option Accept) → IsAccept auto.regs auto.mregs o
            → OfAccept (λ accept. AllByRecursion (NamesItsOwn auto) (ending_code endings accept.rule accept.values)) o
        by None is = tt
        by (Some accept) is = ending_own endings accept.rule accept.values is.1

    pub layout_own : (begin : ℕ) → IsAuto auto
        → AllByRecursion (λ code. AllByRecursion (NamesItsOwn auto) code) (supplied_layout supply halting endings end_rule trees auto begin)
    layout_own begin formed =
        statements_each (NamesItsOwn auto) (λ unit. Unit {0}) (λ reader. Unit {0}) (λ units. Unit {0}) (λ saved. Unit {0}) supply halting endings end_rule
        trees auto
        (record {
          plain = plain_own;
          readers = readers_own;
          own = op_own;
          reads = λ number lt. tt;
          entry_reads = tt;
          check = λ none number lt. tt;
          units = λ number lt. units_any (trees (state number));
          entry_units = units_any (trees entry);
          saved = λ saved le. tt;
          ends = ends_of (length auto.states) auto.states formed.states;
          ends_by = λ rule is. ending_own endings rule [] tt;
        }) formed begin

pub parts_own : (greatest begin first : ℕ) (parts : List Part) → AreFormed greatest parts
    → EachPart (λ part begin from. AllByRecursion (λ code. AllByRecursion (NamesItsOwn part.given.auto) code) (part_codes part begin from)) begin first parts
parts_own greatest begin first [] are = tt
parts_own greatest begin first (part ∷ parts) are = (
  layout_own part.given.auto (given_supply part.given first) part.halting part.given.endings part.given.end_rule part.trees begin are.0.auto,
  parts_own greatest (begin + length (part_codes part begin first)) (first + given_asked part.given) parts are.1,
)

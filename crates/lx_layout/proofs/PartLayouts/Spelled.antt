-- The numbers and names in the statements of a scanner can be spelled, whatever the blocks are to which it jumps.
use Rattle.std.specs.Prelude.{◌≡◌, ℕ, zero, suc, ◌+◌, ◌-◌, ◌*◌, ◌≤◌, IfSome, List, [], ◌∷◌, length, map, Option, Some, None, Bool, true, false, refl}
use Rattle.std.proofs.Common.{ap, arith, subst, sym}
use Rattle.std.proofs.lemmas.Bool.{false≢true}
use Rattle.std.specs.List.{AllByRecursion, list_any}
use Rattle.lx_auto.specs.Automaton.{AreHeld, AreStates, IsAccept, IsAuto, IsHeld}
use Rattle.lx_auto.specs.declared.automaton.Accept.{Accept}
use Rattle.lx_auto.specs.declared.automaton.Auto.{Auto}
use Rattle.lx_auto.specs.declared.automaton.Held.{Held}
use Rattle.lx_auto.specs.declared.automaton.Held.TheVariants.{Reg, MReg}
use Rattle.lx_auto.specs.declared.automaton.State.{State}
use Rattle.lx_auto.specs.declared.ops.Op.{Op}
use Rattle.lx_auto.specs.declared.ops.Op.TheVariants as act
use Rattle.lx_base.specs.Letters.{IsIdentifier, equal_words}
use Rattle.lx_base.specs.Names.{Spellings, IsTagName}
use Rattle.lx_ccode.specs.Validity.{IsLine, IsLong, IsRegister, IsShort}
use Rattle.lx_ccode.specs.declared.piece.Stmt.{Stmt}
use Rattle.lx_ccode.specs.declared.piece.SwitchCase.{SwitchCase}
use Rattle.lx_ccode.specs.declared.piece.Stmt.TheVariants.{Accept as SaveAccept, Back, Code, Cond, Copy, Count, End, IfAccept, IfIs, IfSet, IfUnit, Jump, MCopy, MSet, MUnset, Need, Set, State as Store, Switch, Tag, Unset}
use Rattle.lx_layout.specs.Codes.{op_code}
use Rattle.lx_layout.specs.Endings.{Ending, action_code, cond_code, ending_code, last_code, name_or_none, tag_code}
use Rattle.lx_layout.specs.FormedParts.{IsFormed}
use Rattle.lx_layout.specs.Parts.{Demand, Part, asked, asked_below, given_asked, given_supply, number_of, part_codes, stored_from}
use Rattle.lx_layout.specs.Supplies.{Reader, Supply}
use Rattle.lx_layout.specs.Writable.{AcceptCanBeWritten, ActsOrGoes, IsOneOf, PartCanBeWritten, RuleCanBeWritten}
use Rattle.lx_layout.specs.Written.{MayStand}
use Rattle.lx_layout.proofs.PartLayouts.EachStatement.{each_held, statements_each}
use Rattle.lx_layout.proofs.PartLayouts.EndingStatements.{EachTag, HoldsOfEnds, ending_each}
use Rattle.lx_layout.proofs.PartLayouts.OwnHistories.{IsOwnOp}
use Rattle.lx_layout.proofs.PartLayouts.PlainBlocks.{OfAccept, OfAccepts, few_saved}
use Rattle.lx_layout.proofs.PartLayouts.ShortTests.{IsShortAsked, entry_short, tests_short}
use Rattle.lx_layout.proofs.PartLayouts.StatementSorts.{PlainStatements, ReaderStatements}
use Rattle.lx_dispatch.specs.TestTrees as trees
use Rattle.lx_dispatch.specs.Dispatch.{AreCases}
use Rattle.lx_dispatch.specs.TestTrees.{Question, among, at_most, by_question}
use Rattle.lx_layout.specs.TreeCodes.{asks, switch_cases}

-- the number of a history, and one more, can be written
abbrev pub HasRoom : ℕ → Type 0
HasRoom history = IsShort (history + 1)

-- the statement has a spelling if its blocks have one; it has few groups, and its condition is one of these
abbrev pub IsSpellable : Spellings → (conds : List (List ℕ)) → Stmt → Type 0
IsSpellable names conds (SaveAccept accept) = IsShort accept
IsSpellable names conds (Set register) = IsRegister register
IsSpellable names conds (Unset register) = IsRegister register
IsSpellable names conds (Copy register source) = IsRegister register × IsRegister source
IsSpellable names conds (MSet history) = HasRoom history
IsSpellable names conds (MUnset history) = HasRoom history
IsSpellable names conds (MCopy history source) = HasRoom history × HasRoom source
IsSpellable names conds (IfUnit greatest block) = IsShort greatest
IsSpellable names conds (IfIs unit block) = IsShort unit
IsSpellable names conds (IfSet set block) = IsShort set
IsSpellable names conds (IfAccept accept block) = IsShort accept
IsSpellable names conds (Store number) = IsLong number
IsSpellable names conds (Need units) = IsShort units
IsSpellable names conds (Cond cond) = IsIdentifier cond × (list_any (equal_words cond) conds ≡ true)
IsSpellable names conds (Tag tag true history) = IsTagName names tag × HasRoom history
IsSpellable names conds (Tag tag false register) = IsTagName names tag × IsRegister register
IsSpellable names conds (Count groups) = groups ≤ 65
IsSpellable names conds (End place register) = (place ≤ 129) × IsRegister register
IsSpellable names conds (Back register) = IsRegister register
IsSpellable names conds (Switch cases last) = AreCases (map (λ (case : SwitchCase). case.units) cases)
IsSpellable names conds (Code rule line action) = IsShort rule × IsLine line × IsShort (length action)
IsSpellable names conds (Jump cond rule) = (IsIdentifier cond × (list_any (equal_words cond) conds ≡ true)) × IsShort rule
IsSpellable names conds _ = Unit {0}

-- tests, if what they ask can be written
question_spelled : (names : Spellings) (conds : List (List ℕ)) (question : Question) (block : ℕ) → IsShortAsked (by_question question)
    → IsSpellable names conds (asks question block)
question_spelled names conds (at_most greatest) block is = is
question_spelled names conds (trees.is unit) block is = is
question_spelled names conds (among set) block is = is

units-switch : (cases : List (List ℕ × ℕ)) → map (λ (case : SwitchCase). case.units) (switch_cases cases) ≡ map (λ case. case.0) cases
units-switch [] = refl
units-switch (case ∷ cases) = ap (λ units. case.0 ∷ units) (units-switch cases)

-- ---- numbers by which what reads is stored

module _ (demand : Demand) (end_rule : Option ℕ) (auto : Auto) where
  asked_below-more : (number more : ℕ) → asked_below demand end_rule auto number ≤ asked_below demand end_rule auto (number + more)
  asked_below-more number zero = let e : number + 0 ≡ number = omega arith in rw e (omega arith)
  asked_below-more number (suc more) =
      let e : number + suc more ≡ suc (number + more) = omega arith in
      let again = asked_below-more number more in
      rw e (omega (arith, again))

  pub asked_below-all : (number : ℕ) → number ≤ length auto.states → asked_below demand end_rule auto number ≤ asked demand end_rule auto
  asked_below-all number le =
      let rest : ℕ = length auto.states - number in
      let e : number + (length auto.states - number) ≡ length auto.states = omega (arith, le) in
      subst (λ n. asked_below demand end_rule auto number ≤ asked_below demand end_rule auto n) e (asked_below-more number (length auto.states - number))

  number_stored : (first : ℕ) (stores : Bool) (number : Reader → ℕ) (reader : Reader)
      → stored_from demand end_rule auto stores first ≡ Some number → number reader ≡ number_of demand end_rule auto first reader
  number_stored first false number reader e = absurd (cc)
  number_stored first true number reader e =
      let same : number_of demand end_rule auto first ≡ number = cc in ap (λ f. f reader) (sym same)

module _ (names : Spellings) (conds : List (List ℕ)) where
  tags_named : (slash : Option ℕ) (number : ℕ) (tags : List (List ℕ)) → MayStand names slash number tags → EachTag (IsTagName names) slash number tags
  tags_named slash number [] h = tt
  tags_named slash number (tag ∷ tags) h = (h.0, tags_named slash (suc number) tags h.1)

  last_fine : (endings : ℕ → Ending) (rule : ℕ) → RuleCanBeWritten names conds endings rule → AllByRecursion (IsSpellable names conds) (last_code endings rule)
  last_fine endings rule h = by (endings rule).goes_to refl h.ending.goes h.ending.acts
    where
      goes_on : (forgets : Bool) → IsSpellable names conds (Jump (name_or_none (endings rule).goes_to) rule)
          → AllByRecursion (IsSpellable names conds) (action_code rule (endings rule) None forgets)
      goes_on true jump = (omega arith, (jump, tt))
      goes_on false jump = (jump, tt)

      finishes : (cond action : Option (List ℕ)) → (endings rule).goes_to ≡ cond → IsOneOf conds cond → ActsOrGoes action cond
          → AllByRecursion (IsSpellable names conds) (action_code rule (endings rule) action (endings rule).forgets)
      finishes None None e named acts = absurd (false≢true acts)
      finishes None (Some action) e named acts = ((h.short, h.ending.line, acts), tt)
      finishes (Some cond) None e named acts =
          goes_on (endings rule).forgets
          (subst (λ o. IsIdentifier (name_or_none o) × (list_any (equal_words (name_or_none o)) conds ≡ true)) (sym e) named, h.short)
      finishes (Some cond) (Some action) e named acts = ((h.short, h.ending.line, acts), tt)

      by : (cond : Option (List ℕ)) → (endings rule).goes_to ≡ cond → IsOneOf conds cond → ActsOrGoes (endings rule).action cond
          → AllByRecursion (IsSpellable names conds)
          (cond_code cond (action_code rule (endings rule) (endings rule).action (endings rule).forgets))
      by None e named acts = finishes None (endings rule).action e named acts
      by (Some cond) e named acts = (named, finishes (Some cond) (endings rule).action e named acts)

  module _ (auto : Auto) (formed : IsAuto auto) where
    op_fine : (op : Op) → IsOwnOp auto.regs auto.mregs op → IsSpellable names conds (op_code op)
    op_fine (act.Here r) h = let few = formed.few_regs in (omega arith, omega (arith, h, few))
    op_fine (act.Null r) h = let few = formed.few_regs in (omega arith, omega (arith, h, few))
    op_fine (act.Copy r s) h = let few = formed.few_regs in ((omega arith, omega (arith, h.0, few)), (omega arith, omega (arith, h.1, few)))
    op_fine (act.MHere r) h = let few = formed.few_mregs in omega (arith, h.1, few)
    op_fine (act.MNull r) h = let few = formed.few_mregs in omega (arith, h.1, few)
    op_fine (act.MCopy r s) h = let few = formed.few_mregs in (omega (arith, h.0.1, few), omega (arith, h.1, few))

    tag_fine : (held : Held) (name : List ℕ) → IsHeld auto.regs auto.mregs held → IsTagName names name → IsSpellable names conds (tag_code held name)
    tag_fine (Reg r) name lt is = let few = formed.few_regs in (is, (omega arith, omega (arith, lt, few)))
    tag_fine (MReg r) name lt is = let few = formed.few_mregs in (is, omega (arith, lt, few))

    ends_fine : HoldsOfEnds (IsSpellable names conds) (IsHeld auto.regs auto.mregs) (IsTagName names) 130
    ends_fine = record {
      tags = tag_fine;
      ends = λ reg place is lt. let few = formed.few_regs in (omega (arith, lt), (omega arith, omega (arith, is, few)));
      backs = λ reg is. let few = formed.few_regs in (omega arith, omega (arith, is, few));
    }

    ending_fine : (endings : ℕ → Ending) (rule : ℕ) (values : List Held) → RuleCanBeWritten names conds endings rule → AreHeld auto.regs auto.mregs values
        → length values ≤ length (endings rule).tags + 2 * (endings rule).groups → AllByRecursion (IsSpellable names conds) (ending_code endings rule values)
    ending_fine endings rule values h held fit =
        let groups = h.ending.groups in
        ending_each (IsSpellable names conds) (IsHeld auto.regs auto.mregs) (IsTagName names) 130 ends_fine endings rule values
        (λ n is. omega (arith, is, groups)) (tags_named (endings rule).slash 0 (endings rule).tags h.ending.tags) (each_held auto.regs auto.mregs values held)
        (omega (arith, fit, groups)) (last_fine endings rule h)

    accepts_fine : (endings : ℕ → Ending) (count : ℕ) (states : List State) → AreStates auto.regs auto.mregs count states
        → AllByRecursion (λ (given : State). IfSome given.accept (AcceptCanBeWritten names conds endings)) states
        → OfAccepts (λ accept. AllByRecursion (IsSpellable names conds) (ending_code endings accept.rule accept.values)) states
    accepts_fine endings count [] are h = tt
    accepts_fine endings count (given ∷ states) are h = (by given.accept are.0.accept h.0, accepts_fine endings count states are.1 h.1)
      where
        by : (o : Option Accept) → IsAccept auto.regs auto.mregs o → IfSome o (AcceptCanBeWritten names conds endings)
            → OfAccept (λ accept. AllByRecursion (IsSpellable names conds) (ending_code endings accept.rule accept.values)) o
        by None is h = tt
        by (Some accept) is h =
            let g : AcceptCanBeWritten names conds endings accept = h in ending_fine endings accept.rule accept.values g.rule is.1 g.values

  -- ---- the whole

  module _ (greatest first : ℕ) (part : Part) (short : IsShort greatest) (formed : IsFormed greatest part) (written : PartCanBeWritten names conds part)
      (room : IsLong (first + given_asked part.given)) where
    abbrev auto : Auto
    auto = part.given.auto

    abbrev supply : Supply
    supply = given_supply part.given first

    abbrev CanBeStored : Reader → Type 0
    CanBeStored reader = IsLong (number_of part.given.demand part.given.end_rule part.given.auto first reader)

    plain_fine : PlainStatements (IsSpellable names conds) IsShort part.halting part.given.endings part.given.auto
    plain_fine = record {
      goes = λ block. tt;
      skips = tt;
      backs_up = tt;
      restores = tt;
      leaves = tt;
      saves = λ saved is. is;
      chooses = λ saved block is. is;
    }

    readers_fine : ReaderStatements (IsSpellable names conds) IsShortAsked CanBeStored IsShort supply
    readers_fine = record {
      goes = λ block. tt;
      unit = λ question block is. question_spelled names conds question block is;
      switches = λ cases last is. subst (λ units. AreCases units) (sym (units-switch cases)) is;
      peeks = tt;
      unchecked = omega arith;
      needs = λ units is. is;
      stores = λ number reader same is.
          subst IsLong (sym (number_stored part.given.demand part.given.end_rule part.given.auto first part.given.demand.stores number reader same)) is;
      tries = λ block some tries. tt;
      at_end = λ block. tt;
    }

    pub part_fine : (begin : ℕ) → AllByRecursion (λ code. AllByRecursion (IsSpellable names conds) code) (part_codes part begin first)
    part_fine begin =
        let few = formed.auto.few in
        let saved = few_saved part.halting part.given.auto.states in
        statements_each (IsSpellable names conds) IsShortAsked CanBeStored IsShort IsShort supply part.halting part.given.endings part.given.end_rule part.trees
        part.given.auto
        (record {
          plain = plain_fine;
          readers = readers_fine;
          own = op_fine part.given.auto formed.auto;
          reads = λ number lt.
              let le = asked_below-all part.given.demand part.given.end_rule part.given.auto number (omega (arith, lt)) in omega (arith, le, room);
          entry_reads = omega (arith, room);
          check = λ none number lt. written.checks number;
          units = tests_short greatest part short written.eof formed;
          entry_units = entry_short greatest part short written.eof formed;
          saved = λ n le. omega (arith, le, saved, few);
          ends = accepts_fine part.given.auto formed.auto part.given.endings (length part.given.auto.states) part.given.auto.states formed.auto.states
              written.accepts;
          ends_by = λ rule is. ending_fine part.given.auto formed.auto part.given.endings rule []
              (subst (λ o. IfSome o (RuleCanBeWritten names conds part.given.endings)) is written.end_rule) tt (omega arith);
        }) formed.auto begin

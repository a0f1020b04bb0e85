-- Each action of scanners one behind another is that of a rule of one of them.
use Rattle.std.specs.Prelude.{◌≡◌, ℕ, suc, List, [], ◌∷◌, length, Option, Some, None, Bool, true, false, refl}
use Rattle.std.specs.Bool.{OnFalse}
use Rattle.std.specs.List.{AllByRecursion}
use Rattle.std.proofs.Common.{arith}
use Rattle.lx_auto.specs.declared.automaton.Accept.{Accept}
use Rattle.lx_auto.specs.declared.automaton.Held.{Held}
use Rattle.lx_auto.specs.declared.automaton.Held.TheVariants.{Reg, MReg}
use Rattle.lx_auto.specs.declared.automaton.State.{State}
use Rattle.lx_auto.specs.declared.ops.Op.{Op}
use Rattle.lx_auto.specs.declared.ops.Op.TheVariants.{Here, Null, Copy, MHere, MNull, MCopy}
use Rattle.lx_layout.specs.Actions.{IsOwnAction}
use Rattle.lx_layout.specs.Codes.{op_code}
use Rattle.lx_layout.specs.Endings.{Ending, action_code, cond_code, ending_code, is_slash, last_code, tag_code}
use Rattle.lx_layout.specs.Parts.{Part, given_supply, part_codes}
use Rattle.lx_layout.specs.Supplies.{Supply, entry, state}
use Rattle.lx_layout.specs.FormedParts.{IsFormed}
use Rattle.lx_layout.proofs.BlockLayouts.Questions.{any_question}
use Rattle.lx_layout.proofs.PartLayouts.EachStatement.{statements_each, units_any}
use Rattle.lx_layout.proofs.PartLayouts.EndingStatements.{EachTag, HoldsOfEnds, ending_each}
use Rattle.lx_layout.proofs.PartLayouts.PlainBlocks.{OfAccept, OfAccepts}
use Rattle.lx_layout.proofs.PartLayouts.StatementSorts.{PlainStatements, ReaderStatements}

module _ (endings : ℕ → Ending) where
  own_op : (op : Op) → IsOwnAction endings (op_code op)
  own_op (Here r) = tt
  own_op (Null r) = tt
  own_op (Copy r s) = tt
  own_op (MHere r) = tt
  own_op (MNull r) = tt
  own_op (MCopy r s) = tt

  own_tag : (held : Held) (name : List ℕ) → IsOwnAction endings (tag_code held name)
  own_tag (Reg r) name = tt
  own_tag (MReg r) name = tt

  own_ends : (most : ℕ) → HoldsOfEnds (IsOwnAction endings) (λ held. Unit {0}) (λ name. Unit {0}) most
  own_ends most = record { tags = λ held name is any. own_tag held name; ends = λ reg place is lt. tt; backs = λ reg is. tt }

  tags_any : (slash : Option ℕ) (number : ℕ) (tags : List (List ℕ)) → EachTag (λ name. Unit {0}) slash number tags
  tags_any slash number [] = tt
  tags_any slash number (tag ∷ tags) = (by (is_slash slash number), tags_any slash (suc number) tags)
    where
      by : (t : Bool) → OnFalse t (Unit {0})
      by true = tt
      by false = tt

  held_any : (values : List Held) → AllByRecursion (λ held. Unit {0}) values
  held_any [] = tt
  held_any (value ∷ values) = (tt, held_any values)

  own_last : (rule : ℕ) → AllByRecursion (IsOwnAction endings) (last_code endings rule)
  own_last rule = by (endings rule).goes_to
    where
      acts : (action : Option (List ℕ)) (forgets : Bool) → (endings rule).action ≡ action
          → AllByRecursion (IsOwnAction endings) (action_code rule (endings rule) action forgets)
      acts None true e = (tt, (e, tt))
      acts None false e = (e, tt)
      acts (Some action) forgets e = ((e, refl), tt)

      by : (cond : Option (List ℕ))
          → AllByRecursion (IsOwnAction endings) (cond_code cond (action_code rule (endings rule) (endings rule).action (endings rule).forgets))
      by None = acts (endings rule).action (endings rule).forgets refl
      by (Some cond) = (tt, acts (endings rule).action (endings rule).forgets refl)

  own_ending : (rule : ℕ) (values : List Held) → AllByRecursion (IsOwnAction endings) (ending_code endings rule values)
  own_ending rule values =
      ending_each (IsOwnAction endings) (λ held. Unit {0}) (λ name. Unit {0}) (length values) (own_ends (length values)) endings rule values (λ n is. tt)
      (tags_any (endings rule).slash 0 (endings rule).tags) (held_any values) (omega arith) (own_last rule)

  own_accepts : (states : List State) → OfAccepts (λ (accept : Accept). AllByRecursion (IsOwnAction endings) (ending_code endings accept.rule accept.values)) states
  own_accepts [] = tt
  own_accepts (given ∷ states) = (by given.accept, own_accepts states)
    where
      by : (o : Option Accept) → OfAccept (λ (accept : Accept). AllByRecursion (IsOwnAction endings) (ending_code endings accept.rule accept.values)) o
      by None = tt
      by (Some accept) = own_ending accept.rule accept.values

module _ (greatest begin first : ℕ) (part : Part) (formed : IsFormed greatest part) where
  abbrev supply : Supply
  supply = given_supply part.given first

  own_plain : PlainStatements (IsOwnAction part.given.endings) (λ saved. Unit {0}) part.halting part.given.endings part.given.auto
  own_plain = record {
    goes = λ block. tt;
    skips = tt;
    backs_up = tt;
    restores = tt;
    leaves = tt;
    saves = λ saved is. tt;
    chooses = λ saved block is. tt;
  }

  own_readers : ReaderStatements (IsOwnAction part.given.endings) (λ unit. Unit {0}) (λ reader. Unit {0}) (λ units. Unit {0}) supply
  own_readers = record {
    goes = λ block. tt;
    unit = λ question block is. any_question (IsOwnAction part.given.endings) block (λ greatest. tt) (λ unit. tt) (λ set. tt) question;
    switches = λ cases last is. tt;
    peeks = tt;
    unchecked = tt;
    needs = λ units is. tt;
    stores = λ number reader same is. tt;
    tries = λ block some tries. tt;
    at_end = λ block. tt;
  }

  pub actions_own : AllByRecursion (λ code. AllByRecursion (IsOwnAction part.given.endings) code) (part_codes part begin first)
  actions_own =
      statements_each (IsOwnAction part.given.endings) (λ unit. Unit {0}) (λ reader. Unit {0}) (λ units. Unit {0}) (λ saved. Unit {0}) supply part.halting
      part.given.endings part.given.end_rule part.trees part.given.auto
      (record {
        plain = own_plain;
        readers = own_readers;
        own = λ op is. own_op part.given.endings op;
        reads = λ number lt. tt;
        entry_reads = tt;
        check = λ none number lt. tt;
        units = λ number lt. units_any (part.trees (state number));
        entry_units = units_any (part.trees entry);
        saved = λ saved le. tt;
        ends = own_accepts part.given.endings part.given.auto.states;
        ends_by = λ rule is. own_ending part.given.endings rule [];
      }) formed.auto begin

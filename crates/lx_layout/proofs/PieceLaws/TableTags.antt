-- In text of format 3 no statement of a scanner names a tag that is called as the table of sets.
use Rattle.std.specs.Prelude.{◌≡◌, ℕ, suc, ◌+◌, ◌||◌, Bool, true, false, List, [], ◌∷◌, length, Option, Some, None, IfSome, refl}
use Rattle.std.proofs.Common.{arith, subst, sym, true≢false}
use Rattle.std.proofs.lemmas.List.Elements.{All-from_recursion, recursion_from_All}
use Rattle.std.proofs.lemmas.List.Folds.{list_any_none}
use Rattle.std.specs.Bool.{OnFalse}
use Rattle.std.specs.List.{AllByRecursion, list_any}
use Rattle.lx_auto.specs.declared.automaton.Accept.{Accept}
use Rattle.lx_auto.specs.declared.automaton.Held.{Held}
use Rattle.lx_auto.specs.declared.automaton.Held.TheVariants.{Reg, MReg}
use Rattle.lx_auto.specs.declared.automaton.State.{State}
use Rattle.lx_auto.specs.declared.ops.Op.{Op}
use Rattle.lx_auto.specs.declared.ops.Op.TheVariants.{Here, Null, Copy, MHere, MNull, MCopy}
use Rattle.lx_base.specs.Names.{begins_table}
use Rattle.lx_base.specs.Spelling.{greatest_unit}
use Rattle.lx_ccode.specs.Heads.{is_format_three}
use Rattle.lx_ccode.specs.Statements.{all_statements, names_table}
use Rattle.lx_ccode.specs.declared.piece.CodeBlock.{CodeBlock}
use Rattle.lx_ccode.specs.declared.piece.Stmt.{Stmt}
use Rattle.lx_layout.specs.Codes.{op_code}
use Rattle.lx_layout.specs.Endings.{Ending, action_code, cond_code, ending_code, is_slash, last_code, tag_code}
use Rattle.lx_layout.specs.FormedParts.{AreFormed, IsFormed}
use Rattle.lx_layout.specs.Parts.{EachPart, Given, Part, given_asked, given_supply, part_codes, parts_blocks}
use Rattle.lx_layout.specs.Pieces.{ArePartsOf, FitsEnd, Form, IsFitScanner, Source, given_of}
use Rattle.lx_layout.specs.Supplies.{Supply, entry, state}
use Rattle.lx_layout.proofs.BlockLayouts.Questions.{any_question}
use Rattle.lx_layout.proofs.PartLayouts.EachStatement.{statements_each, units_any}
use Rattle.lx_layout.proofs.PartLayouts.EndingStatements.{EachTag, HoldsOfEnds, ending_each}
use Rattle.lx_layout.proofs.PartLayouts.PartBlocks.{of_parts, of_statements}
use Rattle.lx_layout.proofs.PartLayouts.PlainBlocks.{OfAccept, OfAccepts}
use Rattle.lx_layout.proofs.PartLayouts.StatementSorts.{PlainStatements, ReaderStatements}
use Rattle.lx_layout.proofs.PieceLaws.EachPart.{AreFitScanners}

-- the statement names no such tag
abbrev IsFree : Stmt → Type 0
IsFree statement = names_table statement ≡ false

-- no tag of the end of a rule is called so
abbrev HasFreeTags : Ending → Type 0
HasFreeTags ending = list_any begins_table ending.tags ≡ false

module _ (endings : ℕ → Ending) where
  free_op : (op : Op) → IsFree (op_code op)
  free_op (Here r) = refl
  free_op (Null r) = refl
  free_op (Copy r s) = refl
  free_op (MHere r) = refl
  free_op (MNull r) = refl
  free_op (MCopy r s) = refl

  free_tag : (held : Held) (name : List ℕ) → begins_table name ≡ false → IsFree (tag_code held name)
  free_tag (Reg r) name free = free
  free_tag (MReg r) name free = free

  free_ends : (most : ℕ) → HoldsOfEnds IsFree (λ held. Unit {0}) (λ name. begins_table name ≡ false) most
  free_ends most = record { tags = λ held name is free. free_tag held name free; ends = λ reg place is lt. refl; backs = λ reg is. refl }

  tags_free : (slash : Option ℕ) (number : ℕ) (tags : List (List ℕ)) → list_any begins_table tags ≡ false
      → EachTag (λ name. begins_table name ≡ false) slash number tags
  tags_free slash number [] free = tt
  tags_free slash number (tag ∷ tags) free =
      first (begins_table tag) refl free (λ others. tags_free slash (suc number) tags others)
    where
      by : (t : Bool) → begins_table tag ≡ false → OnFalse t (begins_table tag ≡ false)
      by true own = tt
      by false own = own

      first : (t : Bool) → begins_table tag ≡ t → (t || list_any begins_table tags) ≡ false
          → (list_any begins_table tags ≡ false → EachTag (λ name. begins_table name ≡ false) slash (suc number) tags)
          → EachTag (λ name. begins_table name ≡ false) slash number (tag ∷ tags)
      first true own free again = absurd (true≢false free)
      first false own free again = (by (is_slash slash number) own, again free)

  held_any : (values : List Held) → AllByRecursion (λ held. Unit {0}) values
  held_any [] = tt
  held_any (value ∷ values) = (tt, held_any values)

  free_last : (rule : ℕ) → AllByRecursion IsFree (last_code endings rule)
  free_last rule = by (endings rule).goes_to
    where
      acts : (action : Option (List ℕ)) (forgets : Bool) → AllByRecursion IsFree (action_code rule (endings rule) action forgets)
      acts None true = (refl, (refl, tt))
      acts None false = (refl, tt)
      acts (Some action) forgets = (refl, tt)

      by : (cond : Option (List ℕ)) → AllByRecursion IsFree (cond_code cond (action_code rule (endings rule) (endings rule).action (endings rule).forgets))
      by None = acts (endings rule).action (endings rule).forgets
      by (Some cond) = (refl, acts (endings rule).action (endings rule).forgets)

  free_ending : (rule : ℕ) (values : List Held) → HasFreeTags (endings rule) → AllByRecursion IsFree (ending_code endings rule values)
  free_ending rule values free =
      ending_each IsFree (λ held. Unit {0}) (λ name. begins_table name ≡ false) (length values) (free_ends (length values)) endings rule values (λ n is. refl)
      (tags_free (endings rule).slash 0 (endings rule).tags free) (held_any values) (omega arith) (free_last rule)

  -- the tags of all rules by which states accept
  abbrev AcceptsFree : List State → Type 0
  AcceptsFree states = AllByRecursion (λ (given : State). IfSome given.accept (λ (accept : Accept). HasFreeTags (endings accept.rule))) states

  free_accepts : (states : List State) → AcceptsFree states
      → OfAccepts (λ (accept : Accept). AllByRecursion IsFree (ending_code endings accept.rule accept.values)) states
  free_accepts [] free = tt
  free_accepts (given ∷ states) free = (by given.accept free.0, free_accepts states free.1)
    where
      by : (o : Option Accept) → IfSome o (λ (accept : Accept). HasFreeTags (endings accept.rule))
          → OfAccept (λ (accept : Accept). AllByRecursion IsFree (ending_code endings accept.rule accept.values)) o
      by None free = tt
      by (Some accept) free = free_ending accept.rule accept.values free

-- ---- a scanner

abbrev IsFreeOf : Given → Type 0
IsFreeOf given =
    AcceptsFree given.endings given.auto.states × ((rule : ℕ) → given.end_rule ≡ Some rule → HasFreeTags (given.endings rule))

module _ (greatest begin first : ℕ) (part : Part) (formed : IsFormed greatest part) where
  abbrev supply : Supply
  supply = given_supply part.given first

  free_plain : PlainStatements IsFree (λ saved. Unit {0}) part.halting part.given.endings part.given.auto
  free_plain = record {
    goes = λ block. refl;
    skips = refl;
    backs_up = refl;
    restores = refl;
    leaves = refl;
    saves = λ saved is. refl;
    chooses = λ saved block is. refl;
  }

  free_readers : ReaderStatements IsFree (λ unit. Unit {0}) (λ reader. Unit {0}) (λ units. Unit {0}) supply
  free_readers = record {
    goes = λ block. refl;
    unit = λ question block is. any_question IsFree block (λ greatest. refl) (λ unit. refl) (λ set. refl) question;
    switches = λ cases last is. refl;
    peeks = refl;
    unchecked = tt;
    needs = λ units is. refl;
    stores = λ number reader same is. refl;
    tries = λ block some tries. refl;
    at_end = λ block. refl;
  }

  free_part : IsFreeOf part.given → AllByRecursion (λ code. AllByRecursion IsFree code) (part_codes part begin first)
  free_part free =
      statements_each IsFree (λ unit. Unit {0}) (λ reader. Unit {0}) (λ units. Unit {0}) (λ saved. Unit {0}) supply part.halting part.given.endings
      part.given.end_rule part.trees part.given.auto
      (record {
        plain = free_plain;
        readers = free_readers;
        own = λ op is. free_op part.given.endings op;
        reads = λ number lt. tt;
        entry_reads = tt;
        check = λ none number lt. tt;
        units = λ number lt. units_any (part.trees (state number));
        entry_units = units_any (part.trees entry);
        saved = λ saved le. tt;
        ends = free_accepts part.given.endings part.given.auto.states free.0;
        ends_by = λ rule is. free_ending part.given.endings rule [] (free.1 rule is);
      }) formed.auto begin

-- ---- all scanners

module _ (form : Form) (table : List ℕ) (conds : List (List ℕ)) (three : is_format_three form.format ≡ true) where
  free_given : (scanner : Source) → IsFitScanner form conds scanner → IsFreeOf (given_of form table scanner)
  free_given scanner fit = (
    recursion_from_All (λ (given : State). IfSome given.accept (λ (accept : Accept). HasFreeTags (scanner.endings accept.rule))) scanner.auto.states
        (fit.tags three),
    λ rule is. at_end rule (subst (λ o. IfSome o (FitsEnd form conds scanner)) is fit.end),
  )
    where
      at_end : (rule : ℕ) → FitsEnd form conds scanner rule → HasFreeTags (scanner.endings rule)
      at_end rule fits = subst (λ tags. list_any begins_table tags ≡ false) (sym fits.tags) refl

  free_parts : (begin first : ℕ) (scanners : List Source) (parts : List Part) → AreFormed (greatest_unit form.enc) parts
      → AreFitScanners form conds scanners → ArePartsOf form table scanners parts
      → EachPart (λ part begin from. AllByRecursion (λ code. AllByRecursion IsFree code) (part_codes part begin from)) begin first parts
  free_parts begin first [] [] formed fit are = tt
  free_parts begin first [] (part ∷ parts) formed fit are = absurd are
  free_parts begin first (scanner ∷ scanners) [] formed fit are = absurd are
  free_parts begin first (scanner ∷ scanners) (part ∷ parts) formed fit are = (
    free_part (greatest_unit form.enc) begin first part formed.0 (subst (λ given. IsFreeOf given) (sym are.0.is) (free_given scanner fit.0)),
    free_parts (begin + length (part_codes part begin first)) (first + given_asked part.given) scanners parts formed.1 fit.1 are.1,
  )

  pub no_table_tags : (first : ℕ) (scanners : List Source) (parts : List Part) (blocks : List CodeBlock) → AreFormed (greatest_unit form.enc) parts
      → AreFitScanners form conds scanners → ArePartsOf form table scanners parts → blocks ≡ parts_blocks 0 first parts
      → list_any names_table (all_statements blocks) ≡ false
  no_table_tags first scanners parts blocks formed fit are same =
      list_any_none names_table (all_statements blocks)
      (All-from_recursion IsFree (all_statements blocks)
      (subst (λ l. AllByRecursion IsFree (all_statements l)) (sym same)
      (of_statements IsFree (parts_blocks 0 first parts)
      (of_parts (λ code. AllByRecursion IsFree code) 0 first parts (free_parts 0 first scanners parts formed fit are)))))

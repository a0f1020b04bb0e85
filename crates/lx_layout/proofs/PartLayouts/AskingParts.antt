-- How scanners one behind another ask for refills.
use Rattle.std.specs.Prelude.{◌≡◌, ◌⊎◌, ℕ, suc, ◌+◌, Bool, true, false, ◌&&◌, not, nat_eq, List, [], ◌∷◌, length, Option, Some, None, IsSome, is_some, slice_index, refl, if◌then◌else◌}
use Rattle.std.proofs.Common.{inl, inr, ◌∙◌, ap, arith, subst, sym, true≢false}
use Rattle.std.proofs.lemmas.Bool.{eqb-false, false≢true}
use Rattle.std.specs.List.{AllByRecursion, list_any}
use Rattle.lx_auto.specs.Automaton.{state_of}
use Rattle.lx_auto.specs.declared.automaton.State.{State}
use Rattle.lx_ccode.specs.Statements.{all_statements, code_of, is_need, is_reading, is_try}
use Rattle.lx_ccode.specs.Validity.{refills_after_states, states_before_refills}
use Rattle.lx_ccode.specs.declared.piece.CodeBlock.{CodeBlock}
use Rattle.lx_ccode.specs.declared.piece.Stmt.{Stmt}
use Rattle.lx_layout.specs.FormedParts.{AllStore, AreFormed, IsFormed}
use Rattle.lx_layout.specs.Halting.{is_entered}
use Rattle.lx_layout.specs.PartModes.{Counts, CountsNothing, Tries, TriesNothing}
use Rattle.lx_layout.specs.Parts.{EachPart, Part, given_asked, given_supply, number_of, part_codes, parts_blocks, stored_from}
use Rattle.lx_layout.specs.SuppliedLayout.{fall_block, place_of, reader_blocks, rule_block}
use Rattle.lx_layout.specs.Supplies.{Reader, Supply, entry, state}
use Rattle.lx_layout.proofs.PartLayouts.AskedLayouts.{Has, checks_need, has, has-back, has-front, has-none, has-split, in_statements, no_needs, no_tries, turn_tries}
use Rattle.lx_layout.proofs.PartLayouts.CalmLayouts.{layout_after, layout_before}
use Rattle.lx_layout.proofs.PartLayouts.PartBlocks.{OfBlocks, of_parts}
use Rattle.lx_layout.proofs.PartLayouts.ReadingLayouts.{EachPasses, Passes, layout_reads, layout_starts}
use Rattle.lx_layout.proofs.PartLayouts.StoredLayouts.{codes-parts}
use Rattle.lx_layout.proofs.PartLayouts.StoredNumbers.{not_zero}

-- ---- what is stored before refills

parts_after : (begin first : ℕ) (parts : List Part)
    → EachPart (λ part begin from. AllByRecursion (λ code. refills_after_states code ≡ true) (part_codes part begin from)) begin first parts
parts_after begin first [] = tt
parts_after begin first (part ∷ parts) = (
  layout_after (given_supply part.given first) part.halting part.given.endings part.given.end_rule part.trees part.given.auto begin,
  parts_after (begin + length (part_codes part begin first)) (first + given_asked part.given) parts,
)

pub refills_after : (first : ℕ) (parts : List Part) (blocks : List CodeBlock) → blocks ≡ parts_blocks 0 first parts
    → AllByRecursion (λ (block : CodeBlock). refills_after_states block.stmts ≡ true) blocks
refills_after first parts blocks same =
    subst (λ l. OfBlocks (λ code. refills_after_states code ≡ true) l) (sym same)
    (of_parts (λ code. refills_after_states code ≡ true) 0 first parts (parts_after 0 first parts))

parts_before : (begin first : ℕ) (parts : List Part) → AllStore true parts
    → EachPart (λ part begin from. AllByRecursion (λ code. states_before_refills false code ≡ true) (part_codes part begin from)) begin first parts
parts_before begin first [] stores = tt
parts_before begin first (part ∷ parts) stores = (
  layout_before (given_supply part.given first) (number_of part.given.demand part.given.end_rule part.given.auto first)
      (ap (λ t. stored_from part.given.demand part.given.end_rule part.given.auto t first) stores.0) part.halting part.given.endings part.given.end_rule
      part.trees part.given.auto begin,
  parts_before (begin + length (part_codes part begin first)) (first + given_asked part.given) parts stores.1,
)

pub states_before : (first : ℕ) (parts : List Part) (blocks : List CodeBlock) → AllStore true parts → blocks ≡ parts_blocks 0 first parts
    → AllByRecursion (λ (block : CodeBlock). states_before_refills false block.stmts ≡ true) blocks
states_before first parts blocks stores same =
    subst (λ l. OfBlocks (λ code. states_before_refills false code ≡ true) l) (sym same)
    (of_parts (λ code. states_before_refills false code ≡ true) 0 first parts (parts_before 0 first parts stores))

-- ---- where nothing is asked for

not_true : (t : Bool) → (t ≡ true → ⊥) → t ≡ false
not_true true h = absurd (h refl)
not_true false h = refl

parts_need_none : (begin first : ℕ) (parts : List Part) → AllByRecursion CountsNothing parts → Has is_need (code_of (parts_blocks begin first parts)) → ⊥
parts_need_none begin first [] none h = false≢true h
parts_need_none begin first (part ∷ parts) none h =
    by (has-split is_need (part_codes part begin first)
    (code_of (parts_blocks (begin + length (part_codes part begin first)) (first + given_asked part.given) parts))
    (subst (λ l. Has is_need l) (codes-parts begin first part parts) h))
    (λ g. has-none is_need (part_codes part begin first)
    (no_needs (given_supply part.given first) part.halting part.given.endings part.given.end_rule part.trees part.given.auto none.0 begin) g)
    (λ g. parts_need_none (begin + length (part_codes part begin first)) (first + given_asked part.given) parts none.1 g)
  where
    by : {A B : Type 0} → A ⊎ B → (A → ⊥) → (B → ⊥) → ⊥
    by (inl a) f g = f a
    by (inr b) f g = g b

parts_try_none : (begin first : ℕ) (parts : List Part) → AllByRecursion TriesNothing parts → Has is_try (code_of (parts_blocks begin first parts)) → ⊥
parts_try_none begin first [] none h = false≢true h
parts_try_none begin first (part ∷ parts) none h =
    by (has-split is_try (part_codes part begin first)
    (code_of (parts_blocks (begin + length (part_codes part begin first)) (first + given_asked part.given) parts))
    (subst (λ l. Has is_try l) (codes-parts begin first part parts) h))
    (λ g. has-none is_try (part_codes part begin first)
    (no_tries (given_supply part.given first) part.halting part.given.endings part.given.end_rule part.trees part.given.auto none.0 begin) g)
    (λ g. parts_try_none (begin + length (part_codes part begin first)) (first + given_asked part.given) parts none.1 g)
  where
    by : {A B : Type 0} → A ⊎ B → (A → ⊥) → (B → ⊥) → ⊥
    by (inl a) f g = f a
    by (inr b) f g = g b

module _ (first : ℕ) (parts : List Part) (blocks : List CodeBlock) (same : blocks ≡ parts_blocks 0 first parts) where
  pub needs_none : AllByRecursion CountsNothing parts → list_any is_need (all_statements blocks) ≡ false
  needs_none none =
      ap (λ l. list_any is_need (all_statements l)) same ∙ in_statements is_need (parts_blocks 0 first parts)
      ∙ not_true (has is_need (code_of (parts_blocks 0 first parts))) (parts_need_none 0 first parts none)

  pub tries_none : AllByRecursion TriesNothing parts → list_any is_try (all_statements blocks) ≡ false
  tries_none none =
      ap (λ l. list_any is_try (all_statements l)) same ∙ in_statements is_try (parts_blocks 0 first parts)
      ∙ not_true (has is_try (code_of (parts_blocks 0 first parts))) (parts_try_none 0 first parts none)

-- ---- where units are counted

module _ (greatest first : ℕ) (part : Part) (formed : IsFormed greatest part) (counts : Counts part) where
  abbrev supply : Supply
  supply = given_supply part.given first

  no_end_rule : part.given.end_rule ≡ None
  no_end_rule = by part.given.end_rule formed.ends
    where
      by : (o : Option ℕ) → (IsSome o → IsSome part.given.demand.eof) → o ≡ None
      by None ends = refl
      by (Some rule) ends = absurd (true≢false (sym (ends refl) ∙ ap (λ o. is_some o) counts.eof))

  check_passes : (reader : Reader) (units : ℕ) → (units ≡ 0 → ⊥)
      → Passes is_need supply part.halting part.given.endings part.given.end_rule part.trees part.given.auto reader units
  check_passes reader units some from block here tree to end =
      inl (subst (λ o. Has is_need (reader_blocks supply.stored reader o units from tree)) (sym counts.eof)
      (checks_need supply.stored reader units from tree some))

  -- the states behind the start check for a unit, where the start has no check
  module _ (rules : ℕ → ℕ) (fall begin : ℕ) (place : ℕ → ℕ) (none : nat_eq (slice_index counts.checks 0) 0 ≡ true) where
    later_check : (s : ℕ) → (part.given.demand.check (suc s) ≡ 0 → ⊥)
    later_check s e =
        let one : part.given.demand.check (suc s) ≡ 1 =
        counts.check (suc s)
        ∙ ap (λ t. if t && not (nat_eq (suc s) 0) then 1 else slice_index counts.checks (suc s)) none
        ∙ ap (λ t. if not t then 1 else slice_index counts.checks (suc s)) (not_zero s) in
        omega (arith, e, one)

    later_pass : (s : ℕ) (states : List State)
        → EachPasses is_need supply part.halting part.given.endings part.given.end_rule part.trees part.given.auto rules fall begin place (suc s) states
    later_pass s [] = tt
    later_pass s (given ∷ states) =
        ((λ some. check_passes (state (suc s)) (part.given.demand.check (suc s)) (later_check s)), later_pass (suc s) states)

    all_pass : (states : List State) → (state_of states 0).edges ≡ []
        → EachPasses is_need supply part.halting part.given.endings part.given.end_rule part.trees part.given.auto rules fall begin place 0 states
    all_pass [] lone = tt
    all_pass (given ∷ states) lone = ((λ some. absurd (some lone)), later_pass 0 states)

  part_needs : (begin : ℕ) → Has is_reading (part_codes part begin first) → Has is_need (part_codes part begin first)
  part_needs begin h = by (nat_eq (slice_index counts.checks 0) 0) refl
    where
      by : (t : Bool) → nat_eq (slice_index counts.checks 0) 0 ≡ t → Has is_need (part_codes part begin first)
      by true none =
          let zero_check : slice_index counts.checks 0 ≡ 0 = grind (arith, none) in
          layout_reads is_need supply part.halting part.given.endings part.given.end_rule part.trees part.given.auto begin
          (λ rule is. let clash = sym is ∙ no_end_rule in absurd (cc))
          (all_pass (rule_block supply part.halting part.given.end_rule part.trees part.given.auto begin)
          (fall_block supply part.halting part.given.end_rule part.trees part.given.auto begin) begin
          (place_of supply part.halting part.given.end_rule part.trees part.given.auto begin) none part.given.auto.states (counts.start.0 zero_check)) h
      by false some =
          let not_none : slice_index counts.checks 0 ≡ 0 → ⊥ = eqb-false (slice_index counts.checks 0) 0 some in
          let first_check : part.given.demand.check 0 ≡ slice_index counts.checks 0 =
          counts.check 0 ∙ ap (λ t. if t && not (nat_eq 0 0) then 1 else slice_index counts.checks 0) some in
          layout_starts is_need supply part.halting part.given.endings part.given.end_rule part.trees part.given.auto begin
          (λ lone. not_none (counts.start.1 lone)) (ap (λ o. is_entered o part.given.auto 0) no_end_rule)
          (check_passes (state 0) (part.given.demand.check 0) (λ e. not_none (sym first_check ∙ e)))

-- ---- where a refill is tried at the end

module _ (first : ℕ) (part : Part) (tries : Tries part) where
  abbrev supply_at : Supply
  supply_at = given_supply part.given first

  turn_passes : (reader : Reader) (units : ℕ)
      → Passes is_try supply_at part.halting part.given.endings part.given.end_rule part.trees part.given.auto reader units
  turn_passes reader units from block here tree to end =
      inr (turn_tries supply_at.stored reader part.given.demand.eof part.given.demand.tries block here to end tries.eof tries.tries)

  each_tries : (rules : ℕ → ℕ) (fall begin : ℕ) (place : ℕ → ℕ) (s : ℕ) (states : List State)
      → EachPasses is_try supply_at part.halting part.given.endings part.given.end_rule part.trees part.given.auto rules fall begin place s states
  each_tries rules fall begin place s [] = tt
  each_tries rules fall begin place s (given ∷ states) =
      ((λ some. turn_passes (state s) (part.given.demand.check s)), each_tries rules fall begin place (suc s) states)

  part_tries : (begin : ℕ) → Has is_reading (part_codes part begin first) → Has is_try (part_codes part begin first)
  part_tries begin h =
      layout_reads is_try supply_at part.halting part.given.endings part.given.end_rule part.trees part.given.auto begin
      (λ rule is. turn_passes entry 0)
      (each_tries (rule_block supply_at part.halting part.given.end_rule part.trees part.given.auto begin)
      (fall_block supply_at part.halting part.given.end_rule part.trees part.given.auto begin) begin
      (place_of supply_at part.halting part.given.end_rule part.trees part.given.auto begin) 0 part.given.auto.states) h

-- ---- all scanners

module _ (passes : Stmt → Bool) where
  -- each scanner that reads units has a statement that passes the test
  abbrev EachAsks : (begin first : ℕ) → List Part → Type 0
  EachAsks begin first parts =
      EachPart (λ part begin from. Has is_reading (part_codes part begin from) → Has passes (part_codes part begin from)) begin first parts

  parts_ask : (begin first : ℕ) (parts : List Part) → EachAsks begin first parts → Has is_reading (code_of (parts_blocks begin first parts))
      → Has passes (code_of (parts_blocks begin first parts))
  parts_ask begin first [] asks h = absurd (false≢true h)
  parts_ask begin first (part ∷ parts) asks h =
      let own : List (List Stmt) = part_codes part begin first in
      let others : List (List Stmt) = code_of (parts_blocks (begin + length (part_codes part begin first)) (first + given_asked part.given) parts) in
      subst (λ l. Has passes l) (sym (codes-parts begin first part parts))
      (by (has-split is_reading own others (subst (λ l. Has is_reading l) (codes-parts begin first part parts) h))
      (λ g. has-front passes own others (asks.0 g))
      (λ g. has-back passes own others
      (parts_ask (begin + length (part_codes part begin first)) (first + given_asked part.given) parts asks.1 g)))
    where
      by : {A B C : Type 0} → A ⊎ B → (A → C) → (B → C) → C
      by (inl a) f g = f a
      by (inr b) f g = g b

  blocks_ask : (first : ℕ) (parts : List Part) (blocks : List CodeBlock) → EachAsks 0 first parts → blocks ≡ parts_blocks 0 first parts
      → list_any is_reading (all_statements blocks) ≡ true → list_any passes (all_statements blocks) ≡ true
  blocks_ask first parts blocks asks same h =
      ap (λ l. list_any passes (all_statements l)) same ∙ in_statements passes (parts_blocks 0 first parts)
      ∙ parts_ask 0 first parts asks
      (sym (in_statements is_reading (parts_blocks 0 first parts)) ∙ sym (ap (λ l. list_any is_reading (all_statements l)) same) ∙ h)

parts_need : (greatest begin first : ℕ) (parts : List Part) → AreFormed greatest parts → AllByRecursion Counts parts → EachAsks is_need begin first parts
parts_need greatest begin first [] are counts = tt
parts_need greatest begin first (part ∷ parts) are counts = (
  part_needs greatest first part are.0 counts.0 begin,
  parts_need greatest (begin + length (part_codes part begin first)) (first + given_asked part.given) parts are.1 counts.1,
)

parts_try : (begin first : ℕ) (parts : List Part) → AllByRecursion Tries parts → EachAsks is_try begin first parts
parts_try begin first [] tries = tt
parts_try begin first (part ∷ parts) tries = (
  part_tries first part tries.0 begin,
  parts_try (begin + length (part_codes part begin first)) (first + given_asked part.given) parts tries.1,
)

pub reads_need : (greatest first : ℕ) (parts : List Part) (blocks : List CodeBlock) → AreFormed greatest parts → AllByRecursion Counts parts
    → blocks ≡ parts_blocks 0 first parts → list_any is_reading (all_statements blocks) ≡ true → list_any is_need (all_statements blocks) ≡ true
reads_need greatest first parts blocks are counts same h = blocks_ask is_need first parts blocks (parts_need greatest 0 first parts are counts) same h

pub reads_try : (first : ℕ) (parts : List Part) (blocks : List CodeBlock) → AllByRecursion Tries parts → blocks ≡ parts_blocks 0 first parts
    → list_any is_reading (all_statements blocks) ≡ true → list_any is_try (all_statements blocks) ≡ true
reads_try first parts blocks tries same h = blocks_ask is_try first parts blocks (parts_try 0 first parts tries) same h

-- In a layout each rule ends in one block.
use Rattle.std.specs.Prelude.{◌≡◌, ◌≢◌, ◌⊎◌, ℕ, ◌+◌, ◌<◌, true, Contains, List, ◌++◌, length, Option, Some, None, refl, slice_get}
use Rattle.std.proofs.Common.{inl, inr, sym, ap, ◌∙◌, subst, arith, append_assoc, length-append}
use Rattle.std.specs.List.{AllByRecursion}
use Rattle.lx_auto.specs.Automaton.{IsAuto, state_of}
use Rattle.lx_auto.specs.declared.automaton.Accept.{Accept}
use Rattle.lx_auto.specs.declared.automaton.Auto.{Auto}
use Rattle.lx_auto.specs.declared.automaton.Held.{Held}
use Rattle.lx_ccode.specs.Scanners.{IsOfScanner, StandsIn}
use Rattle.lx_ccode.specs.States.{states_from}
use Rattle.lx_ccode.specs.Statements.{code_of}
use Rattle.lx_ccode.specs.Validity.{AreOnce}
use Rattle.lx_ccode.specs.declared.piece.Piece.{Piece}
use Rattle.lx_ccode.specs.declared.piece.Stmt.{Stmt}
use Rattle.lx_layout.specs.EndedRules.{EndsIn, EndsRules, is_given}
use Rattle.lx_layout.specs.Endings.{Ending, ending_code}
use Rattle.lx_layout.specs.Halting.{AreHalting, Halting, ended_accepts, saved_accepts}
use Rattle.lx_layout.specs.Layout.{StandsFrom, ending_blocks, restore_blocks}
use Rattle.lx_layout.specs.SuppliedLayout.{EachReader, end_rule_part, entry_of, entry_part, fall_block, fallback_part, first_restore, first_rule, place_of, rule_block, states_begin, states_part, supplied_layout}
use Rattle.lx_layout.specs.Supplies.{Reader, Supply}
use Rattle.lx_dispatch.specs.TestTrees.{TestTree}
use Rattle.lx_layout.proofs.BlockLayouts.LayoutLengths.{length-restore_blocks}
use Rattle.lx_layout.proofs.ScannerLaws.EndCodes.{EndsNoOther, ending_by}
use Rattle.lx_layout.proofs.ScannerLaws.InnerCodes.{acting, acts, both_inner, inner_acts, inner_ends, inner_gives, inner_jumps, is_inner, jumping, jumps_on, sorts_ok}
use Rattle.lx_layout.proofs.ScannerLaws.RulePlaces.{end_at, slice_get-front, slice_get-parts}
use Rattle.lx_layout.proofs.SuppliedLayouts.HeldLayouts.{each_from-all, layout_any}
use Rattle.lx_layout.proofs.SuppliedLayouts.Lengths.{length-entry_part, length-fallback_part, length-states_blocks}
use Rattle.lx_layout.proofs.SuppliedLayouts.OwnBlocks.{all-contained, all-get, scanner_code}
use Rattle.lx_layout.proofs.SuppliedLayouts.LeadingTrees.{LeadsWithin}

module _ (supply : Supply) (halting : Halting) (end_rule : Option ℕ) (greatest : ℕ) (trees : Reader → TestTree (Option ℕ)) (auto : Auto) (begin : ℕ)
    (formed : IsAuto auto) (are : EachReader LeadsWithin supply.eof greatest trees auto) where
  abbrev rules : ℕ → ℕ
  rules = rule_block supply halting end_rule trees auto begin

  -- all before the ends of rules
  abbrev front : List (List Stmt)
  front = entry_part supply halting end_rule trees auto begin end_rule
      ++ (states_part supply halting end_rule trees auto begin
      ++ (fallback_part halting auto (first_restore supply halting end_rule trees auto begin)
      ++ restore_blocks (rule_block supply halting end_rule trees auto begin) (saved_accepts halting auto.states)))

  abbrev ends : (endings : ℕ → Ending) → List (List Stmt)
  ends endings = ending_blocks endings (ended_accepts halting auto.states) ++ end_rule_part endings end_rule

  layout_parts : (endings : ℕ → Ending) → supplied_layout supply halting endings end_rule trees auto begin ≡ front ++ ends endings
  layout_parts endings = simp append_assoc

  length-front : begin + length front ≡ first_rule supply halting end_rule trees auto begin
  length-front =
      let entry : List (List Stmt) = entry_part supply halting end_rule trees auto begin end_rule in
      let states : List (List Stmt) = states_part supply halting end_rule trees auto begin in
      let fallback : List (List Stmt) = fallback_part halting auto (first_restore supply halting end_rule trees auto begin) in
      let restores : List (List Stmt) = restore_blocks rules (saved_accepts halting auto.states) in
      let a = length-entry_part supply halting acting end_rule trees auto begin end_rule in
      let b = length-states_blocks supply halting end_rule trees auto rules (fall_block supply halting end_rule trees auto begin) begin
      (saved_accepts halting auto.states) (place_of supply halting end_rule trees auto begin) 0 (states_begin supply halting end_rule trees auto begin) auto.states in
      let c = length-fallback_part halting auto (first_restore supply halting end_rule trees auto begin) in
      let d = length-restore_blocks rules (saved_accepts halting auto.states) in
      let e = length-append entry (states ++ (fallback ++ restores)) in
      let f = length-append states (fallback ++ restores) in
      let g = length-append fallback restores in
      omega (arith, a, b, c, d, e, f, g)

  -- a block before the ends of rules has no statement of them
  front_inner : (k : ℕ) (code : List Stmt) (statement : Stmt) → slice_get front k ≡ Some code → Contains code statement → is_inner statement ≡ true
  front_inner k code statement is has =
      let one = all-get (λ code. AllByRecursion (λ statement. acts statement ≡ true) code) (front ++ ends acting) k code
      (subst (λ l. AllByRecursion (λ code. AllByRecursion (λ statement. acts statement ≡ true) code) l) (layout_parts acting)
      (each_from-all (λ code. AllByRecursion (λ statement. acts statement ≡ true) code) begin (supplied_layout supply halting acting end_rule trees auto begin)
      (layout_any (λ at code. AllByRecursion (λ statement. acts statement ≡ true) code) (λ reader at. Unit {0}) (λ units. Unit {0}) supply halting acting auto
      (sorts_ok acts inner_acts supply halting acting auto (λ rule. (refl, tt)) (λ accept. (refl, tt))) end_rule greatest trees begin formed are (λ s. tt)
      (λ s lt entered some. tt) (λ rule is. tt)))) (slice_get-front front (ends acting) k code is) in
      let two = all-get (λ code. AllByRecursion (λ statement. jumps_on statement ≡ true) code) (front ++ ends jumping) k code
      (subst (λ l. AllByRecursion (λ code. AllByRecursion (λ statement. jumps_on statement ≡ true) code) l) (layout_parts jumping)
      (each_from-all (λ code. AllByRecursion (λ statement. jumps_on statement ≡ true) code) begin (supplied_layout supply halting jumping end_rule trees auto begin)
      (layout_any (λ at code. AllByRecursion (λ statement. jumps_on statement ≡ true) code) (λ reader at. Unit {0}) (λ units. Unit {0}) supply halting jumping auto
      (sorts_ok jumps_on inner_jumps supply halting jumping auto (λ rule. (refl, tt)) (λ accept. (refl, tt))) end_rule greatest trees begin formed are (λ s. tt)
      (λ s lt entered some. tt) (λ rule is. tt)))) (slice_get-front front (ends jumping) k code is) in
      both_inner statement (all-contained (λ statement. acts statement ≡ true) code statement one has)
      (all-contained (λ statement. jumps_on statement ≡ true) code statement two has)

  module _ (endings : ℕ → Ending) (piece : Piece)
      (stands : StandsFrom (code_of piece.blocks) begin (supplied_layout supply halting endings end_rule trees auto begin))
      (marked : AreHalting supply.eof end_rule greatest auto halting)
      (stored : (supply.stored ≡ None) ⊎ AreOnce (states_from 0 piece.blocks))
      (other : (rule s : ℕ) (accept : Accept) → end_rule ≡ Some rule → s < length auto.states → (state_of auto.states s).accept ≡ Some accept
      → accept.rule ≢ rule) where
    abbrev first : ℕ
    first = entry_of supply halting end_rule trees auto begin

    -- a block of the scanner is the end of a rule, at the rule's block
    record IsEnd (block : ℕ) (code : List Stmt) : Type 0 where
      rule : ℕ
      values : List Held
      is : code ≡ ending_code endings rule values
      at : block ≡ rule_block supply halting end_rule trees auto begin rule

    -- or it has no statement of one
    sort : (block : ℕ) (code : List Stmt) → IsOfScanner piece.blocks (entry_of supply halting end_rule trees auto begin) block
        → slice_get (code_of piece.blocks) block ≡ Some code
        → ((k : ℕ) × (slice_get front k ≡ Some code)) ⊎ IsEnd block code
    sort block code of here = by (slice_get-parts front (ends endings) found.0 code (subst (λ l. slice_get l found.0 ≡ Some code) (layout_parts endings) found.2))
      where
        found : (k : ℕ) × (begin + k ≡ block) × (slice_get (supplied_layout supply halting endings end_rule trees auto begin) k ≡ Some code)
        found = scanner_code piece.blocks supply halting endings end_rule greatest trees auto begin formed are marked stands stored block of code here

        by : (slice_get front found.0 ≡ Some code) ⊎ ((j : ℕ) × (found.0 ≡ length front + j) × (slice_get (ends endings) j ≡ Some code))
            → ((k : ℕ) × (slice_get front k ≡ Some code)) ⊎ IsEnd block code
        by (inl before) = inl (found.0, before)
        by (inr behind) =
            let end = end_at halting endings end_rule auto.states other behind.0 code behind.2 in
            let l = length-front in
            let e = behind.1 in
            let b = found.1 in
            let at = end.at in
            inr (record { rule = end.rule; values = end.values; is = end.is; at = omega (arith, l, e, b, at) })

    -- the end of the rule that ends in a block
    ended : (rule block : ℕ) → IsOfScanner piece.blocks (entry_of supply halting end_rule trees auto begin) block → (ends : EndsIn piece block rule)
        → (values : List Held) × (ends.1.0 ≡ ending_code endings rule values) × (block ≡ rule_block supply halting end_rule trees auto begin rule)
    ended rule block of ends = by (sort block ends.1.0 of ends.1.1)
      where
        by : ((k : ℕ) × (slice_get front k ≡ Some ends.1.0)) ⊎ IsEnd block ends.1.0
            → (values : List Held) × (ends.1.0 ≡ ending_code endings rule values) × (block ≡ rule_block supply halting end_rule trees auto begin rule)
        by (inl before) = absurd (inner_ends ends.0 rule (front_inner before.0 ends.1.0 ends.0 before.1 ends.1.2) ends.2)
        by (inr end) =
            let alone = (ending_by end.rule endings end.values).alone in
            let same : rule ≡ end.rule =
            all-contained (EndsNoOther end.rule) ends.1.0 ends.0 (subst (λ l. AllByRecursion (EndsNoOther end.rule) l) (sym end.is) alone) ends.1.2 rule ends.2 in
            (end.values, end.is ∙ ap (λ n. ending_code endings n end.values) (sym same), end.at ∙ ap rules (sym same))

    pub layout_ends_rules : EndsRules piece (entry_of supply halting end_rule trees auto begin) endings
    layout_ends_rules = record {
      once = λ rule block another of also ends too. (ended rule block of ends).2 ∙ sym (ended rule another also too).2;
      own = λ rule block of ends.
          let end = ended rule block of ends in (end.0, ends.1.1 ∙ ap (λ l. Some l) end.1);
      alone = λ block statement of there given. by block statement there given (sort block there.0 of there.1);
    }
      where
        by : (block : ℕ) (statement : Stmt) (there : StandsIn piece.blocks block statement) → is_given statement ≡ true
            → ((k : ℕ) × (slice_get front k ≡ Some there.0)) ⊎ IsEnd block there.0 → (rule : ℕ) × EndsIn piece block rule
        by block statement there given (inl before) =
            absurd (inner_gives statement (front_inner before.0 there.0 statement before.1 there.2) given)
        by block statement there given (inr end) =
            let has = ending_by end.rule endings end.values in
            (end.rule, (has.statement, (there.0, there.1, subst (λ l. Contains l has.statement) (sym end.is) has.has), has.is))

-- Where state 0 has no edge the scanner of a layout checks for no units; so the checks of a list are those of walks in any case.
use Rattle.std.specs.Prelude.{◌≡◌, ◌≢◌, ◌⊎◌, ℕ, suc, ◌+◌, ◌<◌, ◌≤◌, Bool, true, false, Contains, List, [], ◌∷◌, ◌++◌, length, Option, Some, None, IsSome, ◌&&◌, map, not, nat_eq, refl, slice_get, slice_index, if◌then◌else◌}
use Rattle.std.proofs.Common.{inl, inr, sym, ap, ◌∙◌, subst, arith, eqb-true, length-append, true≢false}
use Rattle.std.proofs.lemmas.Bool.{eqb-false}
use Rattle.std.specs.List.{AllByRecursion, list_any}
use Rattle.lx_auto.specs.Automaton.{IsAuto, state_of}
use Rattle.lx_auto.specs.declared.automaton.Accept.{Accept}
use Rattle.lx_auto.specs.declared.automaton.Auto.{Auto}
use Rattle.lx_auto.specs.declared.automaton.Edge.{Edge}
use Rattle.lx_ccode.specs.Scanners.{IsOfScanner, StandsIn, begins, leads_to, led}
use Rattle.lx_ccode.specs.States.{states_from}
use Rattle.lx_ccode.specs.Statements.{code_of, is_need, is_state, targets}
use Rattle.lx_ccode.specs.Validity.{AreOnce}
use Rattle.lx_ccode.specs.declared.piece.Piece.{Piece}
use Rattle.lx_ccode.specs.declared.piece.Stmt.{Stmt}
use Rattle.lx_ccode.specs.declared.piece.Stmt.TheVariants.{Need, State as Store}
use Rattle.lx_fill.specs.Checks.{AreChecks, graph_of}
use Rattle.lx_layout.specs.CheckedStates.{ChecksByWalks}
use Rattle.lx_layout.specs.Codes.{Choice}
use Rattle.lx_layout.specs.Endings.{Ending}
use Rattle.lx_layout.specs.Fallback.{fallback_code}
use Rattle.lx_layout.specs.Halting.{AreHalting, Halting, any_falls, ended_accepts, saved_accepts}
use Rattle.lx_layout.specs.Layout.{StandsFrom, choices_from, ending_blocks, lone_blocks, lone_code, restore_blocks}
use Rattle.lx_layout.specs.Parts.{checked}
use Rattle.lx_layout.specs.SuppliedLayout.{EachReader, JumpsTo, blocks_by, end_rule_part, entry_by, entry_of, fall_block, fallback_part, first_restore, kept, lone_number, place_by, place_of, rule_block, states_begin, supplied_layout}
use Rattle.lx_layout.specs.Supplies.{Reader, Supply}
use Rattle.lx_dispatch.specs.TestTrees.{TestTree}
use Rattle.lx_layout.proofs.BlockLayouts.LayoutLengths.{length-ending_blocks, length-restore_blocks}
use Rattle.lx_layout.proofs.ScannerLaws.CheckedCodes.{others_check}
use Rattle.lx_layout.proofs.ScannerLaws.CheckedLayouts.{layout_walks}
use Rattle.lx_layout.proofs.SuppliedLayouts.ClosedCodes.{sorts_fit}
use Rattle.lx_layout.proofs.SuppliedLayouts.CommonCodes.{none-accept, none-ending, none-fallback}
use Rattle.lx_layout.proofs.SuppliedLayouts.LayoutServes.{behind, place_is, state_stands}
use Rattle.lx_layout.proofs.SuppliedLayouts.Lengths.{length-fallback_part, length-layout}
use Rattle.lx_layout.proofs.SuppliedLayouts.OwnBlocks.{all-contained, none-contained, scanner_own}
use Rattle.lx_layout.proofs.SuppliedLayouts.Places.{begin_in}
use Rattle.lx_layout.proofs.SuppliedLayouts.StoredNothing.{others_store}
use Rattle.lx_layout.proofs.Validity.EachElement.{each-append}
use Rattle.lx_layout.proofs.SuppliedLayouts.LeadingTrees.{LeadsWithin}

-- of each code of a row
row_has : (P : List Stmt → Type 0) (blocks : List (List Stmt)) (from : ℕ) (row : List (List Stmt)) → StandsFrom blocks from row → AllByRecursion P row
    → (block : ℕ) (code : List Stmt) → from ≤ block → block < from + length row → slice_get blocks block ≡ Some code → P code
row_has P blocks from [] h each block code low lt is = absurd (omega (arith, low, lt))
row_has P blocks from (first ∷ row) h each block code low lt is =
    by (nat_eq block from) refl (λ up. row_has P blocks (suc from) row h.1 each.1 block code up (omega (arith, lt)) is)
  where
    by : (t : Bool) → nat_eq block from ≡ t → (suc from ≤ block → P code) → P code
    by true e again =
        let same : block ≡ from = eqb-true block from e in
        let at : slice_get blocks from ≡ Some code = subst (λ b. slice_get blocks b ≡ Some code) same is in
        let own : slice_get blocks from ≡ Some first = h.0 in
        let equal : first ≡ code = cc in
        subst P equal each.0
    by false e again = let other : block ≢ from = eqb-false block from e in again (omega (arith, low, other))

module _ (piece : Piece) (supply : Supply) (halting : Halting) (endings : ℕ → Ending) (end_rule : Option ℕ) (greatest : ℕ) (trees : Reader → TestTree (Option ℕ))
    (auto : Auto) (begin : ℕ) (stands : StandsFrom (code_of piece.blocks) begin (supplied_layout supply halting endings end_rule trees auto begin))
    (formed : IsAuto auto) (are : EachReader LeadsWithin supply.eof greatest trees auto)
    (marked : AreHalting supply.eof end_rule greatest auto halting) (stored : (supply.stored ≡ None) ⊎ AreOnce (states_from 0 piece.blocks)) where
  abbrev blocks : List (List Stmt)
  blocks = code_of piece.blocks

  abbrev rules : ℕ → ℕ
  rules = rule_block supply halting end_rule trees auto begin

  abbrev fall : ℕ
  fall = fall_block supply halting end_rule trees auto begin

  abbrev restore : ℕ
  restore = first_restore supply halting end_rule trees auto begin

  abbrev saves : List Accept
  saves = saved_accepts halting auto.states

  abbrev list : List Accept
  list = ended_accepts halting auto.states

  abbrev own : ℕ
  own = begin_in supply halting end_rule trees auto 0 (states_begin supply halting end_rule trees auto begin) auto.states 0

  -- a block from the fallback on
  abbrev Late : ℕ → Type 0
  Late block = fall ≤ block

  -- the code checks for nothing, stores nothing, and leads to such blocks
  record IsLast (code : List Stmt) : Type 0 where
    jumps : AllByRecursion (JumpsTo (λ block. fall_block supply halting end_rule trees auto begin ≤ block)) code
    unchecked : list_any is_need code ≡ false
    unstored : list_any is_state code ≡ false

  choices_late : (saved block : ℕ) (accepts : List Accept) → fall_block supply halting end_rule trees auto begin ≤ block
      → AllByRecursion (λ (choice : Choice). fall_block supply halting end_rule trees auto begin ≤ choice.block) (choices_from saved block accepts)
  choices_late saved block [] le = tt
  choices_late saved block (accept ∷ accepts) le = (le, choices_late (suc saved) (suc block) accepts (omega (arith, le)))

  last_fallback : AllByRecursion IsLast (fallback_part halting auto (first_restore supply halting end_rule trees auto begin))
  last_fallback = by (any_falls halting 0 auto.states)
    where
      by : (t : Bool) → AllByRecursion IsLast
          (kept t (fallback_code (halting.falls 0) (choices_from 1 (first_restore supply halting end_rule trees auto begin) saves) ∷ []))
      by false = tt
      by true = (
        record {
          jumps = ((sorts_fit Late supply halting endings auto).choices (halting.falls 0) (choices_from 1 restore saves)
              (choices_late 1 restore saves (omega arith)) 0).jumps;
          unchecked = none-fallback is_need others_check (halting.falls 0) (choices_from 1 restore saves);
          unstored = none-fallback is_state others_store (halting.falls 0) (choices_from 1 restore saves);
        },
        tt,
      )

  last_restores : (accepts : List Accept) → AllByRecursion IsLast (restore_blocks rules accepts)
  last_restores [] = tt
  last_restores (accept ∷ accepts) = (
    record {
      jumps = ((sorts_fit Late supply halting endings auto).restores (rules accept.rule) (omega arith) 0).jumps;
      unchecked = refl;
      unstored = refl;
    },
    last_restores accepts,
  )

  last_endings : (accepts : List Accept) → AllByRecursion IsLast (ending_blocks endings accepts)
  last_endings [] = tt
  last_endings (accept ∷ accepts) = (
    record {
      jumps = ((sorts_fit Late supply halting endings auto).ends accept tt 0).jumps;
      unchecked = none-ending is_need others_check endings accept.rule accept.values;
      unstored = none-ending is_state others_store endings accept.rule accept.values;
    },
    last_endings accepts,
  )

  last_end : (o : Option ℕ) → AllByRecursion IsLast (end_rule_part endings o)
  last_end None = tt
  last_end (Some rule) = (
    record {
      jumps = ((sorts_fit Late supply halting endings auto).end_rule rule tt 0).jumps;
      unchecked = none-ending is_need others_check endings rule [];
      unstored = none-ending is_state others_store endings rule [];
    },
    tt,
  )

  -- ---- state 0 without an edge

  module _ (apart : end_rule ≡ None) (none : (state_of auto.states 0).edges ≡ []) where
    lone_last : (o : Option Accept)
        → IsLast (lone_code auto (rule_block supply halting end_rule trees auto begin) (fall_block supply halting end_rule trees auto begin) o)
    lone_last None = record {
      jumps = ((sorts_fit Late supply halting endings auto).jumps fall (omega arith) 0).jumps;
      unchecked = refl;
      unstored = refl;
    }
    lone_last (Some accept) = record {
      jumps = ((sorts_fit Late supply halting endings auto).accepts accept (rules accept.rule) tt (omega arith) 0).jumps;
      unchecked = none-accept is_need others_check auto accept.ops (rules accept.rule);
      unstored = none-accept is_state others_store auto accept.ops (rules accept.rule);
    }

    lone_there : StandsFrom (code_of piece.blocks) own (lone_blocks auto rules fall 0 (state_of auto.states 0).accept)
    lone_there =
        subst (λ o. StandsFrom (code_of piece.blocks) own (lone_blocks auto rules fall (lone_number o 0) (state_of auto.states 0).accept)) apart
        (subst (λ l. StandsFrom (code_of piece.blocks) own
        (blocks_by supply halting end_rule trees auto rules fall begin (saved_accepts halting auto.states) (place_of supply halting end_rule trees auto begin) 0 own
        (state_of auto.states 0) l)) none
        (state_stands supply halting endings end_rule greatest trees auto begin (code_of piece.blocks) stands 0 formed.start))

    place_own : place_of supply halting end_rule trees auto begin 0 ≡ own
    place_own =
        place_is supply halting endings end_rule greatest trees auto begin (code_of piece.blocks) stands 0 formed.start
        ∙ ap (λ l. place_by supply halting end_rule trees auto rules fall begin 0 own l (state_of auto.states 0).accept) none
        ∙ ap (λ o. place_by supply halting o trees auto rules fall begin 0 own [] (state_of auto.states 0).accept) apart

    -- the scanner stays in its block and in those from the fallback on
    abbrev IsTail : ℕ → Type 0
    IsTail block = (block ≡ own) ⊎ (fall ≤ block)

    tail_last : (block : ℕ) (code : List Stmt) → IsOfScanner piece.blocks (entry_of supply halting end_rule trees auto begin) block → IsTail block
        → slice_get (code_of piece.blocks) block ≡ Some code → IsLast code
    tail_last block code of (inl same) is =
        let lone : List Stmt = lone_code auto rules fall (state_of auto.states 0).accept in
        let here : slice_get (code_of piece.blocks) own ≡ Some code = subst (λ b. slice_get (code_of piece.blocks) b ≡ Some code) same is in
        let equal : lone ≡ code = (let e : Some lone ≡ Some code = sym lone_there.0 ∙ here in cc) in
        subst IsLast equal (lone_last (state_of auto.states 0).accept)
    tail_last block code of (inr low) is =
        let own_block = scanner_own piece.blocks supply halting endings end_rule greatest trees auto begin formed are marked stands stored block of in
        let high = own_block.1 in
        let restores : List (List Stmt) = restore_blocks rules saves in
        let ends : List (List Stmt) = ending_blocks endings list in
        let last : List (List Stmt) = end_rule_part endings end_rule in
        let fallback : List (List Stmt) = fallback_part halting auto restore in
        let whole = length-layout supply halting endings end_rule trees auto begin in
        let a = length-fallback_part halting auto restore in
        let b = length-restore_blocks rules saves in
        let c = length-ending_blocks endings list in
        let d = length-append fallback (restores ++ (ends ++ last)) in
        let e = length-append restores (ends ++ last) in
        let f = length-append ends last in
        row_has IsLast blocks fall (fallback ++ (restores ++ (ends ++ last))) (behind supply halting endings end_rule greatest trees auto begin blocks stands)
        (each-append IsLast fallback (restores ++ (ends ++ last)) last_fallback
        (each-append IsLast restores (ends ++ last) (last_restores saves) (each-append IsLast ends last (last_endings list) (last_end end_rule)))) block code low
        (omega (arith, high, whole, a, b, c, d, e, f)) is

    goes_on : (statement : Stmt) (code : List Stmt) (next : ℕ) → IsLast code → Contains code statement → Contains (leads_to piece.blocks statement) next
        → fall_block supply halting end_rule trees auto begin ≤ next
    goes_on (Store number) code next last has leads = absurd (true≢false (none-contained is_state code (Store number) last.unstored has))
    goes_on statement code next last has leads =
        all-contained Late (targets statement) next (all-contained (JumpsTo Late) code statement last.jumps has) leads

    tail : (block : ℕ) → IsOfScanner piece.blocks (entry_of supply halting end_rule trees auto begin) block → IsTail block
    tail block (begins) = inl (ap (λ o. entry_by supply halting end_rule trees auto begin o) apart ∙ place_own)
    tail block (led statement of there leads) =
        inr (goes_on statement there.0 block (tail_last _ there.0 of (tail _ of) there.1) there.2 leads)

    pub none_checked : (block units : ℕ) → IsOfScanner piece.blocks (entry_of supply halting end_rule trees auto begin) block
        → StandsIn piece.blocks block (Need units) → ⊥
    none_checked block units of there =
        let last = tail_last block there.0 of (tail block of) there.1 in
        true≢false (none-contained is_need there.0 (Need units) last.unchecked there.2)

  -- ---- the checks of a list

  module _ (some : IsSome end_rule → IsSome supply.eof) (eof : supply.eof ≡ None) (checks : List ℕ) (right : AreChecks auto checks)
      (same : (s : ℕ) → supply.check s ≡ checked checks s) where
    no_rule : end_rule ≡ None
    no_rule = by end_rule refl
      where
        by : (o : Option ℕ) → end_rule ≡ o → end_rule ≡ None
        by None is = is
        by (Some rule) is =
            let there : IsSome {T = ℕ} None = subst (λ o. IsSome o) eof (some (subst (λ o. IsSome o) (sym is) refl)) in absurd (cc)

    -- where state 0 has no number it has no edge
    no_edge : slice_index checks 0 ≡ 0 → (state_of auto.states 0).edges ≡ []
    no_edge zeroth = by (state_of auto.states 0).edges refl
      where
        by : (edges : List Edge) → (state_of auto.states 0).edges ≡ edges → (state_of auto.states 0).edges ≡ []
        by [] e = e
        by (edge ∷ edges) e =
            absurd (right.start (λ none.
            let some_next : graph_of auto 0 ≡ map (λ (edge : Edge). edge.to) (edge ∷ edges) = ap (λ l. map (λ (edge : Edge). edge.to) l) e in
            let empty : map (λ (edge : Edge). edge.to) (edge ∷ edges) ≡ [] = sym some_next ∙ none in
            cc) zeroth)

    pub layout_checked : ChecksByWalks piece (entry_of supply halting end_rule trees auto begin) (place_of supply halting end_rule trees auto begin) auto checks
    layout_checked = by (nat_eq (slice_index checks 0) 0) refl
      where
        by : (t : Bool) → nat_eq (slice_index checks 0) 0 ≡ t
            → ChecksByWalks piece (entry_of supply halting end_rule trees auto begin) (place_of supply halting end_rule trees auto begin) auto checks
        by true e =
            λ block units of there. absurd (none_checked no_rule (no_edge (eqb-true (slice_index checks 0) 0 e)) block units of there)
        by false e =
            layout_walks supply halting endings end_rule greatest trees auto begin piece stands formed are some eof marked stored checks right
            (λ s. same s ∙ ap (λ t. if t && not (nat_eq s 0) then 1 else slice_index checks s) e)

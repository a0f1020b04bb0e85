-- Each block of a piece of scanners one behind another is one of the scanner that begins in some condition.
use Rattle.std.specs.Prelude.{◌≡◌, ℕ, zero, suc, ◌+◌, ◌-◌, ◌<◌, ◌≤◌, Bool, true, false, Contains, List, [], ◌∷◌, length, Option, Some, None, nat_lt, refl, slice_get}
use Rattle.std.proofs.Common.{sym, ap, subst, arith}
use Rattle.std.specs.List.{AllByRecursion}
use Rattle.lx_ccode.specs.Runs.{entry_block}
use Rattle.lx_ccode.specs.Scanners.{begins, block_list, leads_to, led}
use Rattle.lx_ccode.specs.States.{state_block, states_from}
use Rattle.lx_ccode.specs.Statements.{code_of, targets}
use Rattle.lx_ccode.specs.Validity.{AreOnce}
use Rattle.lx_ccode.specs.declared.piece.CodeBlock.{CodeBlock}
use Rattle.lx_ccode.specs.declared.piece.Piece.{Piece}
use Rattle.lx_ccode.specs.declared.piece.Stmt.{Stmt}
use Rattle.lx_ccode.specs.declared.piece.Stmt.TheVariants.{Goto, State as Store, Try}
use Rattle.lx_dispatch.specs.Dispatch.{AreTestsOf, top_of}
use Rattle.lx_dispatch.specs.TestTrees.{PicksAs}
use Rattle.lx_layout.specs.FormedParts.{AreFormed, IsFormed}
use Rattle.lx_layout.specs.Layout.{StandsFrom}
use Rattle.lx_layout.specs.LiveBlocks.{HasMetStates, IsLive}
use Rattle.lx_layout.specs.Parts.{EachPart, Part, given_asked, given_supply, part_codes, parts_blocks}
use Rattle.lx_layout.specs.Pieces.{ArePartsOf, Form, MayBegin, Source, sources_in}
use Rattle.lx_layout.specs.SuppliedLayout.{EachReader, JumpsTo, entry_of}
use Rattle.lx_layout.proofs.LiveBlocks.LedClasses.{each-contained}
use Rattle.lx_layout.proofs.LiveBlocks.LedCodes.{Leads}
use Rattle.lx_layout.proofs.LiveBlocks.LedReaders.{IsClosed}
use Rattle.lx_layout.proofs.LiveBlocks.LedTrees.{AllFrom}
use Rattle.lx_layout.proofs.LiveBlocks.LiveLayouts.{layout_led}
use Rattle.lx_layout.proofs.PartLayouts.ClosedParts.{length-parts}
use Rattle.lx_layout.proofs.PieceLaws.PartEntries.{entry_first}
use Rattle.lx_layout.proofs.PieceLaws.ScannerEntries.{BeginsAt}
use Rattle.lx_layout.proofs.Supplied.StoredStates.{state_block-try}
use Rattle.lx_layout.proofs.SuppliedLayouts.LeadingTrees.{each_reader}

module _ (piece : Piece) (once : AreOnce (states_from 0 piece.blocks)) where
  -- ---- from block to block

  -- where a statement may jump it leads
  leads_by : (statement : Stmt) (next : ℕ) → Contains (targets statement) next → Contains (leads_to piece.blocks statement) next
  leads_by (Store state) next has = let lt = has.1 in absurd (omega (arith, lt))
  leads_by _ next has = has

  live_goes : (block : ℕ) (code : List Stmt) → slice_get (code_of piece.blocks) block ≡ Some code → IsLive piece block
      → Leads (IsLive piece) code
  live_goes block code here live =
      each-contained (JumpsTo (IsLive piece)) code
      (λ statement has. each-contained (IsLive piece) (targets statement)
      (λ next leads. (live.0, live.1, live.2, led statement live.3 (code, here, has) (leads_by statement next leads))))

  live_comes : (block state to end : ℕ) → slice_get (code_of piece.blocks) block ≡ Some (Store state ∷ Try to ∷ Goto end ∷ [])
      → IsLive piece block
      → IsLive piece (suc block)
  live_comes block state to end here live =
      let back : state_block piece.blocks state ≡ Some (suc block) = state_block-try piece.blocks block state to end once here in
      let one : Contains (suc block ∷ []) (suc block) = (0, omega arith, refl) in
      let there : Contains (block_list (state_block piece.blocks state)) (suc block) =
      subst (λ o. Contains (block_list o) (suc block)) (sym back) one in
      (live.0, live.1, live.2, led (Store state) live.3 (Store state ∷ Try to ∷ Goto end ∷ [], here, (0, omega arith, refl)) there)

  live_closed : IsClosed (IsLive piece) (code_of piece.blocks)
  live_closed = record { goes = live_goes; comes = live_comes }

  -- ---- scanners

  -- some condition of a scanner
  begins_live : (own : Option (List ℕ)) (block : ℕ) → ((cond : List ℕ) → MayBegin own cond → entry_block piece.conds cond ≡ Some block)
      → IsLive piece block
  begins_live None block enters = ([], block, enters [] tt, begins)
  begins_live (Some cond) block enters = (cond, block, enters cond refl, begins)

  part_live : (greatest begin first : ℕ) (part : Part) → IsFormed greatest part
      → StandsFrom (code_of piece.blocks) begin (part_codes part begin first)
      → BeginsAt piece.conds part begin first → HasMetStates part.given.auto → AllFrom (IsLive piece) begin (part_codes part begin first)
  part_live greatest begin first part formed stands enters met =
      let at : entry_of (given_supply part.given first) part.halting part.given.end_rule part.trees part.given.auto begin ≡ begin =
      entry_first (given_supply part.given first) part.halting part.trees part.given.auto part.given.end_rule begin in
      let picks : EachReader (PicksAs (top_of part.given.demand.eof greatest)
      (given_supply part.given first).among) part.given.demand.eof greatest part.trees
      part.given.auto =
      each_reader (AreTestsOf part.given.demand.format part.given.demand.table part.given.demand.eof greatest)
      (PicksAs (top_of part.given.demand.eof greatest) (given_supply part.given first).among)
      (λ split tree is. is.picks) part.given.demand.eof greatest part.trees
      part.given.auto formed.chosen.trees in
      layout_led (IsLive piece) (code_of piece.blocks) live_closed
      (given_supply part.given first) part.halting part.given.endings part.given.end_rule greatest
      part.trees part.given.auto begin stands formed.auto formed.units picks formed.ends
      (subst (IsLive piece) (sym at) (begins_live part.given.cond begin enters)) met formed.chosen.marked

  parts_led : (greatest begin first : ℕ) (parts : List Part) → AreFormed greatest parts
      → EachPart (λ part begin first. StandsFrom (code_of piece.blocks) begin (part_codes part begin first)) begin first parts
      → EachPart (BeginsAt piece.conds) begin first parts → AllByRecursion (λ (part : Part). HasMetStates part.given.auto) parts
      → (k : ℕ) → k < length (parts_blocks begin first parts) → IsLive piece (begin + k)
  parts_led greatest begin first [] formed stands enters met k lt = absurd (omega (arith, lt))
  parts_led greatest begin first (part ∷ parts) formed stands enters met k lt =
      by (nat_lt k (length (part_codes part begin first))) refl
      (λ j less. parts_led greatest (begin + length (part_codes part begin first))
      (first + given_asked part.given) parts formed.1 stands.1 enters.1 met.1 j less)
    where
      others : List CodeBlock
      others = parts_blocks (begin + length (part_codes part begin first)) (first + given_asked part.given) parts

      get : (from : ℕ) (codes : List (List Stmt)) (j : ℕ) → AllFrom (IsLive piece) from codes → j < length codes → IsLive piece (from + j)
      get from [] j all lt = absurd (omega (arith, lt))
      get from (code ∷ codes) zero all lt = let e : from ≡ from + 0 = omega arith in subst (IsLive piece) e all.0
      get from (code ∷ codes) (suc j) all lt =
          let e : suc from + j ≡ from + suc j = omega arith in subst (IsLive piece) e (get (suc from) codes j all.1 (omega (arith, lt)))

      by : (t : Bool) → nat_lt k (length (part_codes part begin first)) ≡ t
          → ((j : ℕ) → j < length others → IsLive piece (begin + length (part_codes part begin first) + j)) → IsLive piece (begin + k)
      by true e again =
          let less : k < length (part_codes part begin first) = grind (arith, e) in
          get begin (part_codes part begin first) k (part_live greatest begin first part formed.0 stands.0 enters.0 met.0) less
      by false e again =
          let le : length (part_codes part begin first) ≤ k = grind (arith, e) in
          let long = length-parts begin first part parts in
          let at : begin + length (part_codes part begin first) + (k - length (part_codes part begin first)) ≡ begin + k =
          omega (arith, le) in
          subst (IsLive piece) at (again (k - length (part_codes part begin first)) (omega (arith, le, lt, long)))

  pub parts_live : (greatest first : ℕ) (parts : List Part) → piece.blocks ≡ parts_blocks 0 first parts → AreFormed greatest parts
      → EachPart (λ part begin first. StandsFrom (code_of piece.blocks) begin (part_codes part begin first)) 0 first parts
      → EachPart (BeginsAt piece.conds) 0 first parts → AllByRecursion (λ (part : Part). HasMetStates part.given.auto) parts
      → (block : ℕ) → block < length piece.blocks → IsLive piece block
  parts_live greatest first parts blocks formed stands enters met block lt =
      let l : length piece.blocks ≡ length (parts_blocks 0 first parts) = ap (λ l. length l) blocks in
      let e : 0 + block ≡ block = omega arith in
      subst (IsLive piece) e (parts_led greatest 0 first parts formed stands enters met block (omega (arith, lt, l)))

-- the automata of parts are those of the scanners
pub parts_met : (form : Form) (table : List ℕ) (blocks : List CodeBlock) (scanners : List Source) (parts : List Part)
    → ArePartsOf form table (sources_in blocks scanners) parts → AllByRecursion (λ (scanner : Source). HasMetStates scanner.auto) scanners
    → AllByRecursion (λ (part : Part). HasMetStates part.given.auto) parts
parts_met form table blocks [] [] are met = tt
parts_met form table blocks [] (part ∷ parts) are met = absurd are
parts_met form table blocks (scanner ∷ scanners) [] are met = tt
parts_met form table blocks (scanner ∷ scanners) (part ∷ parts) are met =
    (subst HasMetStates (sym (ap (λ given. given.auto) are.0.is)) met.0, parts_met form table blocks scanners parts are.1 met.1)

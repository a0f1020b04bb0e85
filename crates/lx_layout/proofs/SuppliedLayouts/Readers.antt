-- The blocks of what reads a unit serve it, where its tree leads right.
use Rattle.std.specs.Prelude.{◌≡◌, ◌≢◌, ℕ, zero, suc, ◌+◌, ◌≤◌, Bool, true, false, List, [], ◌∷◌, length, Option, Some, None, refl, slice_get, if◌then◌else◌}
use Rattle.std.proofs.Common.{sym, ap, ap₂, ◌∙◌, subst}
use Rattle.lx_auto.specs.declared.automaton.Auto.{Auto}
use Rattle.lx_ccode.specs.declared.piece.Stmt.{Stmt}
use Rattle.lx_ccode.specs.declared.piece.Stmt.TheVariants.{Goto}
use Rattle.lx_layout.specs.Endings.{Ending}
use Rattle.lx_layout.specs.Halting.{Halting}
use Rattle.lx_layout.specs.Layout.{StandsFrom}
use Rattle.lx_layout.specs.Supplied.{ServesEnd, ServesReader, at_end, by_jump, by_tests, itself}
use Rattle.lx_layout.specs.SuppliedLayout.{at_end_blocks, at_end_size, blocks_at_end, check_blocks, check_size, read_blocks, reader_blocks, reader_size, refill_blocks, refill_size, size_at_end, with_blocks}
use Rattle.lx_layout.specs.Supplies.{Reader, Supply, end_test, need_code}
use Rattle.lx_dispatch.specs.TestTrees.{TestTree, fork, holds, leaf, picked, switch, test}
use Rattle.lx_layout.specs.TreeCodes.{inner_size}
use Rattle.lx_dispatch.proofs.Cases.{case_way-by}
use Rattle.lx_layout.proofs.BlockLayouts.TreeCodes.{length-inner_blocks}

-- ---- blocks in place of classes

module _ (block : Option ℕ → ℕ) where
  pub inner_size-with_blocks : (tree : TestTree (Option ℕ)) → inner_size (with_blocks block tree) ≡ inner_size tree
  inner_size-with_blocks (leaf class) = refl
  inner_size-with_blocks (test question class high) = inner_size-with_blocks high
  inner_size-with_blocks (fork question low high) =
      ap₂ (λ a b. suc a + b) (inner_size-with_blocks low) (inner_size-with_blocks high)
  inner_size-with_blocks (switch cases last) = refl

  module _ (sets : (set unit : ℕ) → Bool) where
    pub picked-with_blocks : (tree : TestTree (Option ℕ)) (unit : ℕ) → picked sets (with_blocks block tree) unit ≡ block (picked sets tree unit)
    picked-with_blocks (leaf class) unit = refl
    picked-with_blocks (test question class high) unit = by (holds sets question unit) (picked-with_blocks high unit)
      where
        by : (t : Bool) → picked sets (with_blocks block high) unit ≡ block (picked sets high unit)
            → (if t then block class else picked sets (with_blocks block high) unit) ≡ block (if t then class else picked sets high unit)
        by true again = refl
        by false again = again
    picked-with_blocks (fork question low high) unit = by (holds sets question unit) (picked-with_blocks low unit) (picked-with_blocks high unit)
      where
        by : (t : Bool) → picked sets (with_blocks block low) unit ≡ block (picked sets low unit)
            → picked sets (with_blocks block high) unit ≡ block (picked sets high unit)
            → (if t then picked sets (with_blocks block low) unit else picked sets (with_blocks block high) unit)
            ≡ block (if t then picked sets low unit else picked sets high unit)
        by true again_low again_high = again_low
        by false again_low again_high = again_high
    picked-with_blocks (switch cases last) unit = case_way-by block cases last unit

-- ---- how many blocks

module _ (stored : Option (Reader → ℕ)) (reader : Reader) where
  length-check_blocks : (units block : ℕ) → length (check_blocks stored reader units block) ≡ check_size units
  length-check_blocks zero block = refl
  length-check_blocks (suc units) block = refl

  pub length-reader_blocks : (eof : Option ℕ) (units from : ℕ) (tree : TestTree ℕ)
      → length (reader_blocks stored reader eof units from tree) ≡ reader_size eof units tree
  length-reader_blocks None units from (leaf block) = length-check_blocks units block
  length-reader_blocks None units from (test question block high) = ap suc (length-inner_blocks (suc from) (test question block high))
  length-reader_blocks None units from (fork question low high) = ap suc (length-inner_blocks (suc from) (fork question low high))
  length-reader_blocks None units from (switch cases last) = refl
  length-reader_blocks (Some eof) units from tree = ap suc (length-inner_blocks (suc from) tree)

pub reader_size-with_blocks : (block : Option ℕ → ℕ) (eof : Option ℕ) (units : ℕ) (tree : TestTree (Option ℕ))
    → reader_size eof units (with_blocks block tree) ≡ reader_size eof units tree
reader_size-with_blocks block None units (leaf class) = refl
reader_size-with_blocks block None units (test question class high) = ap suc (inner_size-with_blocks block high)
reader_size-with_blocks block None units (fork question low high) = ap suc (inner_size-with_blocks block (fork question low high))
reader_size-with_blocks block None units (switch cases last) = refl
reader_size-with_blocks block (Some eof) units tree = ap suc (inner_size-with_blocks block tree)

pub length-at_end_blocks : (supply : Supply) (reader : Reader) (block here : ℕ) (to : ℕ → ℕ) (end : ℕ)
    → length (at_end_blocks supply reader block here to end) ≡ at_end_size supply
length-at_end_blocks supply reader block here to end = by supply.eof
  where
    refill : (tries : Bool) (back : Option (Reader → ℕ)) (to : ℕ)
        → length (refill_blocks supply.stored reader tries back block here to end) ≡ refill_size tries back
    refill false back to = refl
    refill true None to = refl
    refill true (Some number) to = refl

    by : (eof : Option ℕ) → length (blocks_at_end supply.stored reader eof supply.tries block here to end) ≡ size_at_end eof supply.tries supply.stored
    by None = refl
    by (Some eof) = refill supply.tries supply.stored (to eof)

-- ---- it serves

module _ (supply : Supply) (halting : Halting) (endings : ℕ → Ending) (greatest : ℕ) (auto : Auto) (blocks : List (List Stmt)) (place : ℕ → ℕ) (saved : Option (ℕ → ℕ)) (rules : ℕ → ℕ) (fall : ℕ)
    (reader : Reader) (units from here : ℕ) (tree : TestTree ℕ) (to : ℕ → ℕ) (end : ℕ) (Leads : ℕ → ℕ → Type 0) (Ends : ℕ → Type 0) where
  abbrev ServesIt : Type 0
  ServesIt = ServesReader supply halting endings greatest auto blocks place saved rules fall reader units from Leads Ends

  -- on the unit at the end the tree leads to the blocks for it, and on all others right
  pub record LeadsRight (eof : Option ℕ) : Type 0 where
    -- a tree that is no test leads to the block that comes next
    pub next : eof ≡ None → units ≡ 0 → (block : ℕ) → tree ≡ leaf block → block ≡ from
    pub all : eof ≡ None → (unit : ℕ) → unit ≤ greatest → Leads unit (picked supply.among tree unit)
    pub others : (apart : ℕ) → eof ≡ Some apart → (unit : ℕ) → unit ≤ greatest → unit ≢ apart → Leads unit (picked supply.among tree unit)
    pub own : (apart : ℕ) → eof ≡ Some apart → picked supply.among tree apart ≡ here
    pub itself : (apart : ℕ) → eof ≡ Some apart → apart ≤ greatest → Leads apart (to apart)
    pub ends : (apart : ℕ) → eof ≡ Some apart → Ends end

  module _ (stands : StandsFrom blocks from (reader_blocks supply.stored reader supply.eof units from tree))
      (turns : StandsFrom blocks here (at_end_blocks supply reader from here to end)) (leads : LeadsRight supply.eof) where
    pub reader_serves : ServesIt
    reader_serves = by_eof supply.eof refl stands turns
      where
        tests : (none : supply.eof ≡ None) → StandsFrom blocks from (read_blocks supply.stored reader units from tree) → ServesIt
        tests none row = by_tests none tree (suc from) row.0 row.1 (leads.all none)

        checks : (none : supply.eof ≡ None) (n block : ℕ) → units ≡ n → tree ≡ leaf block
            → StandsFrom blocks from (check_blocks supply.stored reader n block) → ServesIt
        checks none zero block e is row =
            itself none e (λ unit le. subst (λ b. Leads unit b) (ap (λ t. picked supply.among t unit) is ∙ leads.next none e block is) (leads.all none unit le))
        checks none (suc n) block e is row =
            by_jump none block (row.0 ∙ ap (λ n. Some (need_code supply.stored reader n (Goto block ∷ []))) (sym e))
            (λ unit le. subst (λ b. Leads unit b) (ap (λ t. picked supply.among t unit) is) (leads.all none unit le))

        by_tree : (none : supply.eof ≡ None) (given : TestTree ℕ) → tree ≡ given
            → StandsFrom blocks from (reader_blocks supply.stored reader None units from given) → ServesIt
        by_tree none (leaf block) is row = checks none units block refl is row
        by_tree none (switch cases last) is row =
            tests none (subst (λ t. StandsFrom blocks from (read_blocks supply.stored reader units from t)) (sym is) row)
        by_tree none (test question block high) is row =
            tests none (subst (λ t. StandsFrom blocks from (read_blocks supply.stored reader units from t)) (sym is) row)
        by_tree none (fork question low high) is row =
            tests none (subst (λ t. StandsFrom blocks from (read_blocks supply.stored reader units from t)) (sym is) row)

        at : (apart : ℕ) (is : supply.eof ≡ Some apart) → StandsFrom blocks from (read_blocks supply.stored reader 0 from tree) → (asked : ℕ)
            → slice_get blocks here ≡ Some (end_test asked (to apart))
            → ServesEnd supply halting endings greatest auto blocks place saved rules fall supply.tries supply.stored reader from asked Ends → ServesIt
        at apart is row asked tested ends =
            at_end apart is tree (suc from) (to apart) asked row.0 row.1 (leads.others apart is)
            (ap (λ n. slice_get blocks n) (leads.own apart is) ∙ tested) (leads.itself apart is) ends

        refills : (apart : ℕ) (is : supply.eof ≡ Some apart) → StandsFrom blocks from (read_blocks supply.stored reader 0 from tree)
            → (tries : Bool) (back : Option (Reader → ℕ)) → supply.tries ≡ tries → supply.stored ≡ back
            → StandsFrom blocks here (refill_blocks supply.stored reader tries back from here (to apart) end) → ServesIt
        refills apart is row false back tried same turns =
            at apart is row end turns.0
            (subst (λ t. ServesEnd supply halting endings greatest auto blocks place saved rules fall t supply.stored reader from end Ends) (sym tried) (leads.ends apart is))
        refills apart is row true None tried same turns =
            at apart is row (suc here) turns.0
            (subst (λ t. ServesEnd supply halting endings greatest auto blocks place saved rules fall t supply.stored reader from (suc here) Ends) (sym tried)
            (subst (λ o. ServesEnd supply halting endings greatest auto blocks place saved rules fall true o reader from (suc here) Ends) (sym same)
            (end, leads.ends apart is, turns.1.0)))
        refills apart is row true (Some number) tried same turns =
            at apart is row (suc here) turns.0
            (subst (λ t. ServesEnd supply halting endings greatest auto blocks place saved rules fall t supply.stored reader from (suc here) Ends) (sym tried)
            (subst (λ o. ServesEnd supply halting endings greatest auto blocks place saved rules fall true o reader from (suc here) Ends) (sym same)
            (end, leads.ends apart is, turns.1.0, turns.1.1.0)))

        by_eof : (eof : Option ℕ) → supply.eof ≡ eof → StandsFrom blocks from (reader_blocks supply.stored reader eof units from tree)
            → StandsFrom blocks here (blocks_at_end supply.stored reader eof supply.tries from here to end) → ServesIt
        by_eof None none row turns = by_tree none tree refl row
        by_eof (Some apart) is row turns = refills apart is row supply.tries supply.stored refl refl turns

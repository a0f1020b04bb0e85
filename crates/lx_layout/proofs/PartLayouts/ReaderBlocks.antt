-- What holds of each block of what reads a unit, if it holds of the code of each sort, wherever that stands.
use Rattle.std.specs.Prelude.{◌≡◌, ℕ, zero, suc, ◌+◌, Bool, true, false, List, [], ◌∷◌, map, Option, Some, None, is_some, refl}
use Rattle.std.proofs.Common.{ap, subst, sym}
use Rattle.std.specs.List.{AllByRecursion}
use Rattle.lx_ccode.specs.declared.piece.Stmt.{Stmt}
use Rattle.lx_ccode.specs.declared.piece.Stmt.TheVariants.{Goto, Peek, Switch}
use Rattle.lx_layout.specs.SuppliedLayout.{at_end_blocks, blocks_at_end, check_blocks, read_blocks, reader_blocks, refill_blocks, with_blocks}
use Rattle.lx_layout.specs.Supplies.{Reader, Supply, back_code, end_test, need_code, try_code}
use Rattle.lx_dispatch.specs.TestTrees.{Asked, EachTest, Question, TestTree, by_cases, by_question, fork, leaf, switch, test}
use Rattle.lx_layout.specs.TreeCodes.{asks, inner_blocks, inner_size, switch_cases, tree_code}
use Rattle.lx_dispatch.proofs.Cases.{each-cases_by, units-by}
use Rattle.lx_layout.proofs.Validity.EachElement.{each-append}

-- all that is asked is of some sort
abbrev pub EachUnit : {A : Type 0} → (G : Asked → Type 0) → TestTree A → Type 0
EachUnit G tree = EachTest G (λ class. Unit {0}) tree

pub units-with_blocks : (G : Asked → Type 0) (block : Option ℕ → ℕ) (tree : TestTree (Option ℕ)) → EachUnit G tree → EachUnit G (with_blocks block tree)
units-with_blocks G block (leaf class) h = tt
units-with_blocks G block (switch cases last) h = (
  subst (λ units. G (by_cases units)) (sym (units-by block cases)) h.0,
  each-cases_by (λ class. Unit {0}) (λ class. Unit {0}) block (λ class h. tt) cases h.1,
  tt,
)
units-with_blocks G block (test question class high) h = (h.0, tt, units-with_blocks G block high h.2)
units-with_blocks G block (fork question low high) h = (h.0, units-with_blocks G block low h.1, units-with_blocks G block high h.2)

-- Tests ask something of some sort, a reader is of some sort, and checks are for so many units.
module _ (P : List Stmt → Type 0) (G : Asked → Type 0) (R : Reader → Type 0) (C : ℕ → Type 0) (supply : Supply) where
  pub record HoldsOfReaders : Type 0 where
    pub leads : (block : ℕ) → P (Goto block ∷ [])
    pub tests : (question : Question) (block : ℕ) (code : List Stmt) → G (by_question question) → P code → P (asks question block ∷ code)
    pub switches : (cases : List (List ℕ × ℕ)) (last : ℕ) → G (by_cases (map (λ case. case.0) cases)) → P (Switch (switch_cases cases) last ∷ [])
    pub checks : (reader : Reader) (units block : ℕ) → R reader → C (suc units) → P (need_code supply.stored reader (suc units) (Goto block ∷ []))
    pub reads : (reader : Reader) (units : ℕ) (code : List Stmt) → R reader → C units → P code → P (need_code supply.stored reader units (Peek ∷ code))
    -- a reader may check for no units
    pub unchecked : C 0
    pub asks : (asked to : ℕ) → P (end_test asked to)
    pub tries : (reader : Reader) (block end : ℕ) → R reader → is_some supply.eof ≡ true → supply.tries ≡ true → P (try_code supply.stored reader block end)
    pub comes_back : (block end : ℕ) → P (back_code block end)

  module _ (holds : HoldsOfReaders) where
    each-tree_code : (next : ℕ) (tree : TestTree ℕ) → EachUnit G tree → P (tree_code next tree)
    each-tree_code next (leaf block) h = holds.leads block
    each-tree_code next (switch cases last) h = holds.switches cases last h.0
    each-tree_code next (test question block high) h = holds.tests question block (tree_code next high) h.0 (each-tree_code next high h.2)
    each-tree_code next (fork question low high) h =
        holds.tests question next (tree_code (suc next + inner_size low) high) h.0 (each-tree_code (suc next + inner_size low) high h.2)

    each-inner_blocks : (next : ℕ) (tree : TestTree ℕ) → EachUnit G tree → AllByRecursion P (inner_blocks next tree)
    each-inner_blocks next (leaf block) h = tt
    each-inner_blocks next (switch cases last) h = tt
    each-inner_blocks next (test question block high) h = each-inner_blocks next high h.2
    each-inner_blocks next (fork question low high) h = (
      each-tree_code (suc next) low h.1,
      each-append P (inner_blocks (suc next) low) (inner_blocks (suc next + inner_size low) high) (each-inner_blocks (suc next) low h.1)
          (each-inner_blocks (suc next + inner_size low) high h.2),
    )

    pub reader-tests : (reader : Reader) (units from : ℕ) (tree : TestTree ℕ) → R reader → (supply.eof ≡ None → C units) → EachUnit G tree
        → AllByRecursion P (reader_blocks supply.stored reader supply.eof units from tree)
    reader-tests reader units from tree is asked h = by supply.eof tree h asked
      where
        read : (n : ℕ) (tree : TestTree ℕ) → C n → EachUnit G tree → AllByRecursion P (read_blocks supply.stored reader n from tree)
        read n tree some h = (holds.reads reader n (tree_code (suc from) tree) is some (each-tree_code (suc from) tree h), each-inner_blocks (suc from) tree h)

        check : (n block : ℕ) → C n → AllByRecursion P (check_blocks supply.stored reader n block)
        check zero block some = tt
        check (suc n) block some = (holds.checks reader n block is some, tt)

        by : (eof : Option ℕ) (tree : TestTree ℕ) → EachUnit G tree → (eof ≡ None → C units)
            → AllByRecursion P (reader_blocks supply.stored reader eof units from tree)
        by None (leaf block) h asked = check units block (asked refl)
        by None (test question block high) h asked = read units (test question block high) (asked refl) h
        by None (fork question low high) h asked = read units (fork question low high) (asked refl) h
        by None (switch cases last) h asked = read units (switch cases last) (asked refl) h
        by (Some eof) tree h asked = read 0 tree holds.unchecked h

    pub reader-turn : (reader : Reader) (block here : ℕ) (to : ℕ → ℕ) (end : ℕ) → R reader → AllByRecursion P (at_end_blocks supply reader block here to end)
    reader-turn reader block here to end is = by supply.eof refl
      where
        tried : (back : Option (Reader → ℕ)) → is_some supply.eof ≡ true → supply.tries ≡ true → supply.stored ≡ back → P (try_code back reader block end)
        tried back some tries same = subst (λ o. P (try_code o reader block end)) same (holds.tries reader block end is some tries)

        refill : (tries : Bool) (back : Option (Reader → ℕ)) (unit : ℕ) → is_some supply.eof ≡ true → supply.tries ≡ tries → supply.stored ≡ back
            → AllByRecursion P (refill_blocks supply.stored reader tries back block here (to unit) end)
        refill false back unit some tries same = (holds.asks end (to unit), tt)
        refill true None unit some tries same = (holds.asks (suc here) (to unit), (tried None some tries same, tt))
        refill true (Some number) unit some tries same =
            (holds.asks (suc here) (to unit), (tried (Some number) some tries same, (holds.comes_back block end, tt)))

        by : (eof : Option ℕ) → supply.eof ≡ eof → AllByRecursion P (blocks_at_end supply.stored reader eof supply.tries block here to end)
        by None e = tt
        by (Some eof) e = refill supply.tries supply.stored eof (ap (λ o. is_some o) e) refl refl

-- What holds of the blocks of a layout with a supply of units, if it holds of the code of each sort.
use Rattle.std.specs.Prelude.{◌≡◌, ℕ, zero, suc, ◌+◌, ◌<◌, ◌≤◌, Bool, true, false, List, [], ◌∷◌, ◌++◌, length, map, Option, Some, None, IsSome, refl}
use Rattle.std.proofs.Common.{sym, subst, arith}
use Rattle.std.specs.List.{AllByRecursion}
use Rattle.lx_auto.specs.declared.automaton.Accept.{Accept}
use Rattle.lx_auto.specs.declared.automaton.Auto.{Auto}
use Rattle.lx_auto.specs.declared.automaton.Edge.{Edge}
use Rattle.lx_auto.specs.declared.automaton.State.{State}
use Rattle.lx_ccode.specs.declared.piece.Stmt.{Stmt}
use Rattle.lx_ccode.specs.declared.piece.Stmt.TheVariants.{Goto, Peek, Switch}
use Rattle.lx_layout.specs.Codes.{Choice, accept_code, restore_code}
use Rattle.lx_layout.specs.Endings.{Ending, ending_code}
use Rattle.lx_layout.specs.Fallback.{edge_code, fallback_code}
use Rattle.lx_layout.specs.Halting.{Halting}
use Rattle.lx_layout.specs.SuppliedLayout.{at_end_blocks, at_end_size, blocks_at_end, check_blocks, read_blocks, reader_blocks, reader_size, refill_blocks, refill_size, size_at_end}
use Rattle.lx_layout.specs.Supplies.{Reader, Supply, back_code, end_test, need_code, try_code}
use Rattle.lx_layout.proofs.Validity.EachElement.{each-append}
use Rattle.lx_dispatch.specs.TestTrees.{Asked, EachTest, Question, TestTree, by_cases, by_question, fork, leaf, switch, test}
use Rattle.lx_layout.specs.TreeCodes.{asks, inner_blocks, inner_size, switch_cases, tree_code}

-- of codes that stand in blocks from a number on, with the number of each
abbrev pub EachFrom : (P : ℕ → List Stmt → Type 0) → (from : ℕ) → List (List Stmt) → Type 0
EachFrom P from [] = Unit {0}
EachFrom P from (code ∷ codes) = P from code × EachFrom P (suc from) codes

pub each_from-append : (P : ℕ → List Stmt → Type 0) (from : ℕ) (a b : List (List Stmt)) → EachFrom P from a → EachFrom P (from + length a) b
    → EachFrom P from (a ++ b)
each_from-append P from [] b h g = let e : from + 0 ≡ from = omega arith in subst (λ n. EachFrom P n b) e g
each_from-append P from (code ∷ a) b h g =
    let e : from + length (code ∷ a) ≡ suc from + length a = omega arith in
    (h.0, each_from-append P (suc from) a b h.1 (subst (λ n. EachFrom P n b) e g))

module _ (P : ℕ → List Stmt → Type 0) where
  -- it holds of the code in each block
  abbrev pub Anywhere : List Stmt → Type 0
  Anywhere code = (at : ℕ) → P at code

  pub each_anywhere : (from : ℕ) (codes : List (List Stmt)) → AllByRecursion Anywhere codes → EachFrom P from codes
  each_anywhere from [] h = tt
  each_anywhere from (code ∷ codes) h = (h.0 from, each_anywhere (suc from) codes h.1)

-- ---- what it has to hold of

-- Jumps go to blocks of some sort, tests ask something of some sort, and what reads stands in blocks of its own. Edges and accepts are of
-- some sort, and so is the rule that stands at the end of the input.
module _ (P : ℕ → List Stmt → Type 0) (B : ℕ → Type 0) (G : Asked → Type 0) (R : Reader → ℕ → Type 0) (C : ℕ → Type 0) (E : State → Edge → Type 0) (A : Accept → Type 0) (D : ℕ → Type 0)
    (supply : Supply) (halting : Halting) (endings : ℕ → Ending) (auto : Auto) where
  pub record HoldsOfSorts : Type 0 where
    pub jumps : (block : ℕ) → B block → Anywhere P (Goto block ∷ [])
    pub tests : (question : Question) (block : ℕ) (code : List Stmt) → G (by_question question) → B block → Anywhere P code
        → Anywhere P (asks question block ∷ code)
    pub switches : (cases : List (List ℕ × ℕ)) (last : ℕ) → G (by_cases (map (λ case. case.0) cases)) → AllByRecursion (λ case. B case.1) cases → B last
        → Anywhere P (Switch (switch_cases cases) last ∷ [])
    -- a reader may check for no units
    pub unchecked : C 0
    pub checks : (reader : Reader) (at units block : ℕ) → C (suc units) → R reader at → B block
        → P at (need_code supply.stored reader (suc units) (Goto block ∷ []))
    pub reads : (reader : Reader) (at units : ℕ) (code : List Stmt) → C units → R reader at → Anywhere P code
        → P at (need_code supply.stored reader units (Peek ∷ code))
    pub asks : (asked to : ℕ) → B asked → B to → Anywhere P (end_test asked to)
    -- where a state is stored before it, the block behind it is one where the scanner comes back
    pub tries : (reader : Reader) (block end : ℕ) → supply.tries ≡ true → IsSome supply.eof → R reader block → B block → B end → (at : ℕ)
        → (IsSome supply.stored → B (suc at)) → P at (try_code supply.stored reader block end)
    pub comes_back : (block end : ℕ) → B block → B end → Anywhere P (back_code block end)
    pub edges : (given : State) (saved : Option ℕ) (block : ℕ) (edge : Edge) → E given edge → B block → Anywhere P (edge_code halting auto given saved edge block)
    pub accepts : (accept : Accept) (block : ℕ) → A accept → B block → Anywhere P (accept_code auto accept.ops block)
    pub choices : (leaves : Bool) (choices : List Choice) → AllByRecursion (λ (choice : Choice). B choice.block) choices
        → Anywhere P (fallback_code leaves choices)
    pub restores : (block : ℕ) → B block → Anywhere P (restore_code block)
    pub ends : (accept : Accept) → A accept → Anywhere P (ending_code endings accept.rule accept.values)
    pub end_rule : (rule : ℕ) → D rule → Anywhere P (ending_code endings rule [])

  -- ---- what reads

  module _ (holds : HoldsOfSorts) where
    -- of the blocks for lower tests
    abbrev Inner : (next : ℕ) → TestTree ℕ → Type 0
    Inner next tree = (block : ℕ) → block < next + inner_size tree → next ≤ block → B block

    each-tree_code : (next : ℕ) (tree : TestTree ℕ) → EachTest G B tree → Inner next tree → Anywhere P (tree_code next tree)
    each-tree_code next (leaf block) h inner = holds.jumps block h
    each-tree_code next (switch cases last) h inner = holds.switches cases last h.0 h.1 h.2
    each-tree_code next (test question block high) h inner =
        holds.tests question block (tree_code next high) h.0 h.1 (each-tree_code next high h.2 inner)
    each-tree_code next (fork question low high) h inner =
        holds.tests question next (tree_code (suc next + inner_size low) high) h.0 (inner next (omega arith) (omega arith))
        (each-tree_code (suc next + inner_size low) high h.2 (λ block lt le. inner block (omega (arith, lt)) (omega (arith, le))))

    each-inner_blocks : (next : ℕ) (tree : TestTree ℕ) → EachTest G B tree → Inner next tree → AllByRecursion (Anywhere P) (inner_blocks next tree)
    each-inner_blocks next (leaf block) h inner = tt
    each-inner_blocks next (switch cases last) h inner = tt
    each-inner_blocks next (test question block high) h inner = each-inner_blocks next high h.2 inner
    each-inner_blocks next (fork question low high) h inner = (
      each-tree_code (suc next) low h.1 (λ block lt le. inner block (omega (arith, lt)) (omega (arith, le))),
      each-append (Anywhere P) (inner_blocks (suc next) low) (inner_blocks (suc next + inner_size low) high)
          (each-inner_blocks (suc next) low h.1 (λ block lt le. inner block (omega (arith, lt)) (omega (arith, le))))
          (each-inner_blocks (suc next + inner_size low) high h.2 (λ block lt le. inner block (omega (arith, lt)) (omega (arith, le)))),
    )

    pub each-reader : (reader : Reader) (units from : ℕ) (tree : TestTree ℕ) → C units → EachTest G B tree → R reader from
        → ((block : ℕ) → block < from + reader_size supply.eof units tree → from ≤ block → B block)
        → EachFrom P from (reader_blocks supply.stored reader supply.eof units from tree)
    each-reader reader units from tree asked h own within = by supply.eof tree h within
      where
        read : (n : ℕ) (tree : TestTree ℕ) → C n → EachTest G B tree → ((block : ℕ) → block < from + suc (inner_size tree) → from ≤ block → B block)
            → EachFrom P from (read_blocks supply.stored reader n from tree)
        read n tree some h within = (
          holds.reads reader from n (tree_code (suc from) tree) some own
              (each-tree_code (suc from) tree h (λ block lt le. within block (omega (arith, lt)) (omega (arith, le)))),
          each_anywhere P (suc from) (inner_blocks (suc from) tree)
              (each-inner_blocks (suc from) tree h (λ block lt le. within block (omega (arith, lt)) (omega (arith, le)))),
        )

        check : (n block : ℕ) → C n → B block → EachFrom P from (check_blocks supply.stored reader n block)
        check zero block some h = tt
        check (suc n) block some h = (holds.checks reader from n block some own h, tt)

        by : (eof : Option ℕ) (tree : TestTree ℕ) → EachTest G B tree
            → ((block : ℕ) → block < from + reader_size eof units tree → from ≤ block → B block)
            → EachFrom P from (reader_blocks supply.stored reader eof units from tree)
        by None (leaf block) h within = check units block asked h
        by None (test question block high) h within = read units (test question block high) asked h within
        by None (fork question low high) h within = read units (fork question low high) asked h within
        by None (switch cases last) h within = read units (switch cases last) asked h within
        by (Some eof) tree h within = read 0 tree holds.unchecked h within

    -- where a unit stands at the end, blocks are of the sort to which it leads
    pub each-at_end : (reader : Reader) (block here : ℕ) (to : ℕ → ℕ) (end : ℕ) → R reader block → B block
        → ((unit : ℕ) → supply.eof ≡ Some unit → B (to unit) × B end)
        → ((next : ℕ) → next < here + at_end_size supply → here ≤ next → B next)
        → EachFrom P here (at_end_blocks supply reader block here to end)
    each-at_end reader block here to end reading own leads within = by supply.eof refl (λ unit is. leads unit is) within
      where
        tried : (back : Option (Reader → ℕ)) → supply.tries ≡ true → IsSome supply.eof → supply.stored ≡ back → B end → (at : ℕ) → (IsSome back → B (suc at))
            → P at (try_code back reader block end)
        tried back tries some same ending at next =
            subst (λ o. P at (try_code o reader block end)) same
            (holds.tries reader block end tries some reading own ending at (λ stored. next (subst (λ o. IsSome o) same stored)))

        never : (at : ℕ) → IsSome {T = Reader → ℕ} None → B (suc at)
        never at some = absurd (cc)

        refill : (tries : Bool) (back : Option (Reader → ℕ)) (unit : ℕ) → supply.tries ≡ tries → IsSome supply.eof → supply.stored ≡ back → B (to unit) × B end
            → ((next : ℕ) → next < here + refill_size tries back → here ≤ next → B next)
            → EachFrom P here (refill_blocks supply.stored reader tries back block here (to unit) end)
        refill false back unit tries some same leads within = (holds.asks end (to unit) leads.1 leads.0 here, tt)
        refill true None unit tries some same leads within =
            (holds.asks (suc here) (to unit) (within (suc here) (omega arith) (omega arith)) leads.0 here, (tried None tries some same leads.1 (suc here) (never (suc here)), tt))
        refill true (Some number) unit tries some same leads within = (
          holds.asks (suc here) (to unit) (within (suc here) (omega arith) (omega arith)) leads.0 here,
          (tried (Some number) tries some same leads.1 (suc here) (λ stored. within (suc (suc here)) (omega arith) (omega arith)), (holds.comes_back block end own leads.1 (suc (suc here)), tt)),
        )

        by : (eof : Option ℕ) → supply.eof ≡ eof → ((unit : ℕ) → eof ≡ Some unit → B (to unit) × B end)
            → ((next : ℕ) → next < here + size_at_end eof supply.tries supply.stored → here ≤ next → B next)
            → EachFrom P here (blocks_at_end supply.stored reader eof supply.tries block here to end)
        by None is leads within = tt
        by (Some eof) is leads within =
            refill supply.tries supply.stored eof refl (subst (λ o. IsSome o) (sym is) refl) refl (leads eof refl) within

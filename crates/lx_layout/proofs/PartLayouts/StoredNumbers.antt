-- By which numbers a layout stores what reads: the entry and the states that ask for a refill, in order.
use Rattle.std.specs.Prelude.{◌≡◌, ℕ, zero, suc, Bool, true, false, not, nat_eq, List, [], ◌∷◌, ◌++◌, map, Option, Some, None, refl, if◌then◌else◌}
use Rattle.std.proofs.Common.{◌∙◌, ap, append_assoc, arith, sym}
use Rattle.std.specs.List.{AllByRecursion}
use Rattle.lx_ccode.specs.Statements.{code_of, state_of as stored_by}
use Rattle.lx_ccode.specs.States.{onto_cases, states_from, states_in, try_first}
use Rattle.lx_ccode.specs.declared.piece.CodeBlock.{CodeBlock}
use Rattle.lx_ccode.specs.declared.piece.StateCase.{StateCase}
use Rattle.lx_ccode.specs.declared.piece.Stmt.{Stmt}
use Rattle.lx_layout.specs.SuppliedLayout.{blocks_at_end, check_blocks, read_blocks, reader_blocks}
use Rattle.lx_layout.specs.Supplies.{Reader}
use Rattle.lx_dispatch.specs.TestTrees.{TestTree, fork, leaf, switch, test}
use Rattle.lx_layout.specs.TreeCodes.{inner_blocks, tree_code}
use Rattle.lx_layout.proofs.PartLayouts.CalmBlocks.{Calm, calm_inner, calm_tree}

-- ---- the numbers in a code

abbrev pub listed_with : Option ℕ → List ℕ → List ℕ
listed_with None numbers = numbers
listed_with (Some number) numbers = number ∷ numbers

abbrev pub stored_in : List Stmt → List ℕ
stored_in [] = []
stored_in (statement ∷ code) = listed_with (stored_by statement) (stored_in code)

abbrev pub stored_of : List (List Stmt) → List ℕ
stored_of [] = []
stored_of (code ∷ codes) = stored_in code ++ stored_of codes

pub stored-append : (a b : List (List Stmt)) → stored_of (a ++ b) ≡ stored_of a ++ stored_of b
stored-append [] b = refl
stored-append (code ∷ a) b = ap (λ l. stored_in code ++ l) (stored-append a b) ∙ sym (append_assoc (stored_in code) (stored_of a) (stored_of b))

stored_in-calm : (code : List Stmt) → Calm code → stored_in code ≡ []
stored_in-calm [] h = refl
stored_in-calm (statement ∷ code) h = ap (λ o. listed_with o (stored_in code)) h.0.state ∙ stored_in-calm code h.1

pub stored-calm : (codes : List (List Stmt)) → AllByRecursion Calm codes → stored_of codes ≡ []
stored-calm [] h = refl
stored-calm (code ∷ codes) h = ap (λ l. l ++ stored_of codes) (stored_in-calm code h.0) ∙ stored-calm codes h.1

-- the switch has them
numbers_in : (place : ℕ) (code : List Stmt) (others : List StateCase)
    → map (λ case. case.state) (states_in place code others) ≡ stored_in code ++ map (λ case. case.state) others
numbers_in place [] others = refl
numbers_in place (statement ∷ code) others = by (stored_by statement) (numbers_in place code others)
  where
    by : (o : Option ℕ) → map (λ case. case.state) (states_in place code others) ≡ stored_in code ++ map (λ case. case.state) others
        → map (λ case. case.state) (onto_cases o (if try_first code then suc place else place) (states_in place code others))
        ≡ listed_with o (stored_in code) ++ map (λ case. case.state) others
    by None again = again
    by (Some number) again = ap (λ l. number ∷ l) again

pub numbers_from : (place : ℕ) (blocks : List CodeBlock) → map (λ case. case.state) (states_from place blocks) ≡ stored_of (code_of blocks)
numbers_from place [] = refl
numbers_from place (block ∷ blocks) =
    numbers_in place block.stmts (states_from (suc place) blocks) ∙ ap (λ l. stored_in block.stmts ++ l) (numbers_from (suc place) blocks)

-- ---- what reads

pub not_zero : (n : ℕ) → nat_eq (suc n) 0 ≡ false
not_zero n = grind arith

abbrev pub listed : Bool → ℕ → List ℕ
listed false number = []
listed true number = number ∷ []

module _ (number : Reader → ℕ) (reader : Reader) where
  -- how a unit is asked for before it is read
  abbrev pub checks_by : (eof : Option ℕ) → (units : ℕ) → Bool
  checks_by None units = not (nat_eq units 0)
  checks_by (Some eof) units = false

  -- and at the end
  abbrev pub tries_by : (eof : Option ℕ) → (tries : Bool) → Bool
  tries_by None tries = false
  tries_by (Some eof) tries = tries

  pub stored-tests : (eof : Option ℕ) (units from : ℕ) (tree : TestTree ℕ)
      → stored_of (reader_blocks (Some number) reader eof units from tree) ≡ listed (checks_by eof units) (number reader)
  stored-tests eof units from tree = by eof tree
    where
      read : (n : ℕ) (tree : TestTree ℕ) → stored_of (read_blocks (Some number) reader n from tree) ≡ listed (not (nat_eq n 0)) (number reader)
      read zero tree =
          ap (λ l. l ++ stored_of (inner_blocks (suc from) tree)) (stored_in-calm (tree_code (suc from) tree) (calm_tree (suc from) tree))
          ∙ stored-calm (inner_blocks (suc from) tree) (calm_inner (suc from) tree)
      read (suc n) tree =
          ap (λ l. number reader ∷ (l ++ stored_of (inner_blocks (suc from) tree))) (stored_in-calm (tree_code (suc from) tree) (calm_tree (suc from) tree))
          ∙ ap (λ l. number reader ∷ l) (stored-calm (inner_blocks (suc from) tree) (calm_inner (suc from) tree))
          ∙ sym (ap (λ t. listed (not t) (number reader)) (not_zero n))

      check : (n block : ℕ) → stored_of (check_blocks (Some number) reader n block) ≡ listed (not (nat_eq n 0)) (number reader)
      check zero block = refl
      check (suc n) block = sym (ap (λ t. listed (not t) (number reader)) (not_zero n))

      by : (eof : Option ℕ) (tree : TestTree ℕ)
          → stored_of (reader_blocks (Some number) reader eof units from tree) ≡ listed (checks_by eof units) (number reader)
      by None (leaf block) = check units block
      by None (test question block high) = read units (test question block high)
      by None (fork question low high) = read units (fork question low high)
      by None (switch cases last) = read units (switch cases last)
      by (Some eof) tree = read 0 tree

  pub stored-turn : (eof : Option ℕ) (tries : Bool) (block here : ℕ) (to : ℕ → ℕ) (end : ℕ)
      → stored_of (blocks_at_end (Some number) reader eof tries block here to end) ≡ listed (tries_by eof tries) (number reader)
  stored-turn None tries block here to end = refl
  stored-turn (Some eof) false block here to end = refl
  stored-turn (Some eof) true block here to end = refl

-- How states read units where all units are there from the start: without a check, and without a unit at the end.
use Rattle.std.specs.Prelude.{◌≡◌, ℕ, ◌≤◌, List, [], ◌∷◌, Some, None, slice_get, Option}
use Rattle.std.proofs.Common.{sym, ap, ◌∙◌, subst}
use Rattle.lx_auto.specs.Automaton.{edge_on, state_of}
use Rattle.lx_auto.specs.declared.automaton.Auto.{Auto}
use Rattle.lx_auto.specs.declared.automaton.State.{State}
use Rattle.lx_ccode.specs.declared.piece.Stmt.{Stmt}
use Rattle.lx_ccode.specs.declared.piece.Stmt.TheVariants.{Goto, Peek}
use Rattle.lx_layout.specs.Endings.{Ending}
use Rattle.lx_layout.specs.Halting.{Halting}
use Rattle.lx_layout.specs.Layout.{StandsFrom}
use Rattle.lx_layout.specs.Supplied as supplied
use Rattle.lx_layout.specs.Supplied.{HasCode, IsEnd, IsTarget, ServesState}
use Rattle.lx_layout.specs.Supplies.{Supply, need_code, state}
use Rattle.lx_dispatch.specs.TestTrees.{TestTree, picked}
use Rattle.lx_layout.specs.TreeCodes.{inner_blocks, tree_code}

module _ (supply : Supply) (halting : Halting) (endings : ℕ → Ending) (greatest : ℕ) (auto : Auto) (blocks : List (List Stmt)) (place : ℕ → ℕ) (saved : Option (ℕ → ℕ)) (rules : ℕ → ℕ) (fall : ℕ) where
  abbrev Has : (block : ℕ) → List Stmt → Type 0
  Has block code = HasCode supply halting endings greatest auto blocks place saved rules fall block code

  -- each unit leads to this block, or to the one that tests pick
  abbrev Leads : (number : ℕ) → State → (unit block : ℕ) → Type 0
  Leads number given unit block = IsTarget supply halting endings greatest auto blocks place saved rules fall number given (edge_on given.edges unit) block

  -- the tests of a state lead to the right block on each unit, and those that are not in its own block stand from some block on;
  -- without a test one block is right on all units, and the state's block is that one, or jumps to it
  pub data ReadsPlain (number : ℕ) (given : State) : Type 0 where
    by_tests : (tree : TestTree ℕ) (next : ℕ) → Has (place number) (Peek ∷ tree_code next tree) → StandsFrom blocks next (inner_blocks next tree)
        → ((unit : ℕ) → unit ≤ greatest → Leads number given unit (picked supply.among tree unit)) → ReadsPlain number given
    by_jump : (block : ℕ) → Has (place number) (Goto block ∷ []) → ((unit : ℕ) → unit ≤ greatest → Leads number given unit block)
        → ReadsPlain number given
    itself : ((unit : ℕ) → unit ≤ greatest → Leads number given unit (place number)) → ReadsPlain number given

  module _ (none : supply.eof ≡ None) (unchecked : (number : ℕ) → supply.check number ≡ 0) where
    -- a check for no units is none
    unchecked_code : (number : ℕ) (rest : List Stmt)
        → slice_get blocks (place number) ≡ Some (need_code supply.stored (state number) (supply.check number) rest)
        → slice_get blocks (place number) ≡ Some rest
    unchecked_code number rest is = is ∙ ap (λ n. Some (need_code supply.stored (state number) n rest)) (unchecked number)

    -- without an edge each unit leads to the end
    lone_target : (number block : ℕ) → (state_of auto.states number).edges ≡ []
        → IsEnd supply halting endings greatest auto blocks place saved rules fall number (state_of auto.states number).accept block → (unit : ℕ)
        → Leads number (state_of auto.states number) unit block
    lone_target number block lone is unit =
        subst (λ es. IsTarget supply halting endings greatest auto blocks place saved rules fall number (state_of auto.states number) (edge_on es unit) block)
        (sym lone) is

    pub plain_state : (number : ℕ) → ServesState supply halting endings greatest auto blocks place saved rules fall number (state_of auto.states number)
        → ReadsPlain number (state_of auto.states number)
    plain_state number (supplied.ends lone is) = itself (λ unit le. lone_target number (place number) lone is unit)
    plain_state number (supplied.goes lone block jumps is) = by_jump block jumps (λ unit le. lone_target number block lone is unit)
    plain_state number (supplied.reads some (supplied.by_tests none tree next is row leads)) =
        by_tests tree next (unchecked_code number (Peek ∷ tree_code next tree) is) row leads
    plain_state number (supplied.reads some (supplied.by_jump none to is leads)) = by_jump to (unchecked_code number (Goto to ∷ []) is) leads
    plain_state number (supplied.reads some (supplied.itself none no_check leads)) = itself leads
    plain_state number (supplied.reads some (supplied.at_end eof is tree next to asked own row leads apart leads_eof last)) =
        absurd (let e = sym is ∙ none in cc)

-- When blocks serve an automaton whose scanner gets its units in some way: each state and each edge has its block, and so have the ends of a
-- match.
use Rattle.std.specs.Prelude.{◌≡◌, ◌≢◌, ◌⊎◌, ℕ, suc, ◌<◌, ◌≤◌, Bool, ◌||◌, true, false, Contains, List, [], ◌∷◌, length, Option, Some, None, slice_get}
use Rattle.lx_auto.specs.Automaton.{edge_on, state_of}
use Rattle.lx_auto.specs.declared.automaton.Accept.{Accept}
use Rattle.lx_auto.specs.declared.automaton.Auto.{Auto}
use Rattle.lx_auto.specs.declared.automaton.Edge.{Edge}
use Rattle.lx_auto.specs.declared.automaton.State.{State}
use Rattle.lx_ccode.specs.declared.piece.Stmt.{Stmt}
use Rattle.lx_ccode.specs.declared.piece.Stmt.TheVariants.{Goto, Peek}
use Rattle.lx_layout.specs.Carries.{HasNumber}
use Rattle.lx_layout.specs.Codes.{Choice, accept_code, restore_code, saved_by}
use Rattle.lx_layout.specs.Endings.{Ending, ending_code}
use Rattle.lx_layout.specs.Fallback.{chosen, edge_code, fallback_code}
use Rattle.lx_layout.specs.Halting.{Halting, is_entered, is_saved}
use Rattle.lx_layout.specs.Layout.{StandsFrom}
use Rattle.lx_layout.specs.Supplies.{Reader, Supply, back_code, end_test, entry, need_code, state, try_code}
use Rattle.lx_dispatch.specs.TestTrees.{TestTree, picked}
use Rattle.lx_layout.specs.TreeCodes.{inner_blocks, tree_code}

-- With this supply of units, these marks of the states in which a match can end, these ends of rules, units up to a greatest one, and
-- blocks; each state has a block where its code begins, and a number by which it is saved, if numbers are kept. The end of each rule by which a match can end
-- has a block, and so has the fallback where there is one.
module _ (supply : Supply) (halting : Halting) (endings : ℕ → Ending) (greatest : ℕ) (auto : Auto) (blocks : List (List Stmt)) (place : ℕ → ℕ) (saved : Option (ℕ → ℕ)) (rules : ℕ → ℕ) (fall : ℕ) where
  abbrev pub HasCode : (block : ℕ) → List Stmt → Type 0
  HasCode block code = slice_get blocks block ≡ Some code

  -- in this block a match ends by an accept, which goes to the rule's block; that block itself will do where nothing is to be done
  -- before. Without one it falls back.
  abbrev pub EndsBy : Option Accept → (block : ℕ) → Type 0
  EndsBy None block = block ≡ fall
  EndsBy (Some accept) block =
      HasCode block (accept_code auto accept.ops (rules accept.rule)) ⊎ ((block ≡ rules accept.rule) × (accept.ops ≡ []))

  -- a match that ends in the state with this number, which is one where it can, ends in this block
  abbrev pub IsEnd : (number : ℕ) → Option Accept → (block : ℕ) → Type 0
  IsEnd number accept block = (halting.halts number ≡ true) × EndsBy accept block

  -- this block comes next in a state where a unit has this edge, or none
  abbrev pub IsTarget : (number : ℕ) → State → Option Edge → (block : ℕ) → Type 0
  IsTarget number given None block = IsEnd number given.accept block
  IsTarget number given (Some edge) block = HasCode block (edge_code halting auto given (saved_by saved number) edge (place edge.to))

  -- what stands at a block where the unit at the end was read, of a reader whose own block this is, if there is no other unit: the match
  -- ends there, or a refill is tried before
  abbrev pub ServesEnd : (tries : Bool) → Option (Reader → ℕ) → Reader → (block asked : ℕ) → (Ends : ℕ → Type 0) → Type 0
  ServesEnd false stored reader block asked Ends = Ends asked
  ServesEnd true None reader block asked Ends = (end : ℕ) × Ends end × HasCode asked (try_code None reader block end)
  ServesEnd true (Some number) reader block asked Ends =
      (end : ℕ) × Ends end × HasCode asked (try_code (Some number) reader block end) × HasCode (suc asked) (back_code block end)

  -- A reader's block leads to the right block on each unit, behind its check. Tests that are not in that block stand from some block on.
  -- Without a test one block is right on all units, and the reader's block is that one, or jumps to it. Where a unit stands at the end
  -- it is read and told apart, since it may be one of the input where it is not greater than all of these.
  pub data ServesReader (reader : Reader) (units block : ℕ) (Leads : (unit block : ℕ) → Type 0) (Ends : ℕ → Type 0) : Type 0 where
    by_tests : (none : supply.eof ≡ None) (tree : TestTree ℕ) (next : ℕ) → HasCode block (need_code supply.stored reader units (Peek ∷ tree_code next tree))
        → StandsFrom blocks next (inner_blocks next tree) → ((unit : ℕ) → unit ≤ greatest → Leads unit (picked supply.among tree unit))
        → ServesReader reader units block Leads Ends
    by_jump : (none : supply.eof ≡ None) (to : ℕ) → HasCode block (need_code supply.stored reader units (Goto to ∷ []))
        → ((unit : ℕ) → unit ≤ greatest → Leads unit to) → ServesReader reader units block Leads Ends
    itself : (none : supply.eof ≡ None) → units ≡ 0 → ((unit : ℕ) → unit ≤ greatest → Leads unit block) → ServesReader reader units block Leads Ends
    at_end : (eof : ℕ) (is : supply.eof ≡ Some eof) (tree : TestTree ℕ) (next to asked : ℕ) → HasCode block (Peek ∷ tree_code next tree)
        → StandsFrom blocks next (inner_blocks next tree) → ((unit : ℕ) → unit ≤ greatest → unit ≢ eof → Leads unit (picked supply.among tree unit))
        → HasCode (picked supply.among tree eof) (end_test asked to) → (eof ≤ greatest → Leads eof to) → ServesEnd supply.tries supply.stored reader block asked Ends
        → ServesReader reader units block Leads Ends

  -- A state without edges reads no unit: its block is one where the match ends, or jumps there.
  pub data ServesState (number : ℕ) (given : State) : Type 0 where
    ends : given.edges ≡ [] → IsEnd number given.accept (place number) → ServesState number given
    goes : given.edges ≡ [] → (block : ℕ) → HasCode (place number) (Goto block ∷ []) → IsEnd number given.accept block → ServesState number given
    reads : (given.edges ≡ [] → ⊥)
        → ServesReader (state number) (supply.check number) (place number) (λ unit block. IsTarget number given (edge_on given.edges unit) block) (IsEnd number given.accept)
        → ServesState number given

  -- A match begins in the block of state 0. Where a rule stands at the end of the input, the entry stands apart: from its block units lead
  -- as in state 0, and at the end it is that rule's. To state 0 no other code stands where no edge leads to it.
  abbrev pub ServesEntry : (end_rule : Option ℕ) → (block : ℕ) → Type 0
  ServesEntry None block = block ≡ place 0
  ServesEntry (Some rule) block =
      (is_entered (Some rule) auto 0 ≡ false → place 0 ≡ block)
      × ServesReader entry 0 block (λ unit to. IsTarget 0 (state_of auto.states 0) (edge_on (state_of auto.states 0).edges unit) to)
      (λ end. HasCode end (ending_code endings rule []))

  -- a state that is saved is found again by the number by which it is saved, and by any number where none is kept
  abbrev pub Restores : List Choice → (number : ℕ) → Accept → Type 0
  Restores choices number accept =
      (block : ℕ) × ((kept : ℕ) → HasNumber (saved_by saved number) kept → chosen (halting.falls 0) choices kept ≡ Some block) × HasCode block (restore_code (rules accept.rule))

  -- with this rule at the end of the input
  pub record Serves (end_rule : Option ℕ) : Type 0 where
    pub states : (number : ℕ) → number < length auto.states → is_entered end_rule auto number ≡ true
        → ServesState number (state_of auto.states number)
    -- a match falls back from a state that does not accept if it can end there, or goes on to such a state
    pub falls : (number : ℕ) → number < length auto.states → (state_of auto.states number).accept ≡ None → halting.halts number ≡ true
        → halting.falls number ≡ true
    pub onward : (number : ℕ) (edge : Edge) → number < length auto.states → (state_of auto.states number).accept ≡ None
        → Contains (state_of auto.states number).edges edge → halting.falls edge.to ≡ true → halting.falls number ≡ true
    pub bare : (number : ℕ) → number < length auto.states → halting.falls number ≡ true → (state_of auto.states number).accept ≡ None
    -- The fallback leads to no rule where no state was saved, which is so where a match falls back that has come to no state that accepts.
    pub choices : List Choice
    pub fallback : (number : ℕ) → number < length auto.states → halting.falls number ≡ true → HasCode fall (fallback_code (halting.falls 0) choices)
    pub none : halting.falls 0 ≡ true → chosen (halting.falls 0) choices 0 ≡ None
    pub restores : (number : ℕ) (accept : Accept) → number < length auto.states → is_saved halting (state_of auto.states number) ≡ true
        → (state_of auto.states number).accept ≡ Some accept → Restores choices number accept
    pub ends : (number : ℕ) (accept : Accept) → number < length auto.states → (state_of auto.states number).accept ≡ Some accept
        → (halting.halts number || is_saved halting (state_of auto.states number)) ≡ true
        → HasCode (rules accept.rule) (ending_code endings accept.rule accept.values)

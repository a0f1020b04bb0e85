-- Where the blocks of a layout with a supply of units stand.
use Rattle.std.specs.Prelude.{◌≡◌, ℕ, zero, suc, ◌+◌, ◌<◌, List, [], ◌∷◌, ◌++◌, length, Option}
use Rattle.std.proofs.Common.{ap, ◌∙◌, subst, arith, append_assoc}
use Rattle.lx_auto.specs.Automaton.{state_of}
use Rattle.lx_auto.specs.declared.automaton.Accept.{Accept}
use Rattle.lx_auto.specs.declared.automaton.Auto.{Auto}
use Rattle.lx_auto.specs.declared.automaton.State.{State}
use Rattle.lx_ccode.specs.declared.piece.Stmt.{Stmt}
use Rattle.lx_layout.specs.Halting.{Halting}
use Rattle.lx_layout.specs.Layout.{StandsFrom}
use Rattle.lx_layout.specs.SuppliedLayout.{EachState, end_of, place_by, place_in, state_blocks, state_size, states_blocks}
use Rattle.lx_layout.specs.Supplies.{Reader, Supply, state}
use Rattle.lx_dispatch.specs.TestTrees.{TestTree}
use Rattle.lx_dispatch.specs.TransitionClasses.{Split}
use Rattle.lx_dispatch.specs.UnitApart.{reader_split}
use Rattle.lx_layout.proofs.BlockLayouts.CodesInBlocks.{StandsFrom-back, StandsFrom-front}
use Rattle.lx_layout.proofs.SuppliedLayouts.Lengths.{length-state_blocks}

module _ (supply : Supply) (halting : Halting) (end_rule : Option ℕ) (trees : Reader → TestTree (Option ℕ)) (auto : Auto) where
  -- where the blocks of the n-th state of a list begin
  abbrev pub begin_in : (number from : ℕ) → List State → (n : ℕ) → ℕ
  begin_in number from [] n = from
  begin_in number from (given ∷ states) zero = from
  begin_in number from (given ∷ states) (suc n) = begin_in (suc number) (from + state_size supply halting end_rule trees auto number given) states n

  module _ (rules : ℕ → ℕ) (fall begin : ℕ) where
    pub place_in-begin : (number from : ℕ) (states : List State) (n : ℕ) → n < length states
        → place_in supply halting end_rule trees auto rules fall begin number from states n
        ≡ place_by supply halting end_rule trees auto rules fall begin (number + n) (begin_in number from states n) (state_of states n).edges (state_of states n).accept
    place_in-begin number from [] n lt = absurd (omega arith)
    place_in-begin number from (given ∷ states) zero lt =
        let e : number ≡ number + 0 = omega arith in
        ap (λ k. place_by supply halting end_rule trees auto rules fall begin k from given.edges given.accept) e
    place_in-begin number from (given ∷ states) (suc n) lt =
        let e : suc number + n ≡ number + suc n = omega arith in
        let next : ℕ = begin_in (suc number) (from + state_size supply halting end_rule trees auto number given) states n in
        place_in-begin (suc number) (from + state_size supply halting end_rule trees auto number given) states n (omega arith)
        ∙ ap (λ k. place_by supply halting end_rule trees auto rules fall begin k next (state_of states n).edges (state_of states n).accept) e

    module _ (saved_accepts : List Accept) (place : ℕ → ℕ) (blocks : List (List Stmt)) where
      abbrev own_blocks : (number from : ℕ) → State → List (List Stmt)
      own_blocks number from given = state_blocks supply halting end_rule trees auto rules fall begin saved_accepts place number from given

      abbrev all_blocks : (number from : ℕ) → List State → List (List Stmt)
      all_blocks number from states = states_blocks supply halting end_rule trees auto rules fall begin saved_accepts place number from states

      -- behind the blocks of a state come those of the others
      others_stand : (number from : ℕ) (given : State) (others : List (List Stmt)) → StandsFrom blocks from (own_blocks number from given ++ others)
          → StandsFrom blocks (from + state_size supply halting end_rule trees auto number given) others
      others_stand number from given others h =
          let own : List (List Stmt) = own_blocks number from given in
          let l = length-state_blocks supply halting end_rule trees auto rules fall begin saved_accepts place number from given in
          let k : from + length own ≡ from + state_size supply halting end_rule trees auto number given = omega (arith, l) in
          subst (λ n. StandsFrom blocks n others) k (StandsFrom-back blocks from own others h)

      pub states_stand : (number from : ℕ) (states : List State) (rest : List (List Stmt)) → StandsFrom blocks from (all_blocks number from states ++ rest)
          → (s : ℕ) → s < length states
          → StandsFrom blocks (begin_in number from states s) (own_blocks (number + s) (begin_in number from states s) (state_of states s))
      states_stand number from [] rest h s lt = absurd (omega arith)
      states_stand number from (given ∷ states) rest h zero lt =
          let e : number ≡ number + 0 = omega arith in
          let own : List (List Stmt) = own_blocks number from given in
          let others : List (List Stmt) = all_blocks (suc number) (from + state_size supply halting end_rule trees auto number given) states in
          subst (λ n. StandsFrom blocks from (own_blocks n from given)) e
          (StandsFrom-front blocks from own (others ++ rest) (subst (λ l. StandsFrom blocks from l) (append_assoc own others rest) h))
      states_stand number from (given ∷ states) rest h (suc s) lt =
          let own : List (List Stmt) = own_blocks number from given in
          let others : List (List Stmt) = all_blocks (suc number) (from + state_size supply halting end_rule trees auto number given) states in
          let e : suc number + s ≡ number + suc s = omega arith in
          let w : ℕ = begin_in (suc number) (from + state_size supply halting end_rule trees auto number given) states s in
          subst (λ n. StandsFrom blocks w (own_blocks n w (state_of states s))) e
          (states_stand (suc number) (from + state_size supply halting end_rule trees auto number given) states rest
          (others_stand number from given (others ++ rest) (subst (λ l. StandsFrom blocks from l) (append_assoc own others rest) h)) s (omega arith))

      pub rest_stands : (number from : ℕ) (states : List State) (rest : List (List Stmt)) → StandsFrom blocks from (all_blocks number from states ++ rest)
          → StandsFrom blocks (end_of supply halting end_rule trees auto number from states) rest
      rest_stands number from [] rest h = h
      rest_stands number from (given ∷ states) rest h =
          let own : List (List Stmt) = own_blocks number from given in
          let others : List (List Stmt) = all_blocks (suc number) (from + state_size supply halting end_rule trees auto number given) states in
          rest_stands (suc number) (from + state_size supply halting end_rule trees auto number given) states rest
          (others_stand number from given (others ++ rest) (subst (λ l. StandsFrom blocks from l) (append_assoc own others rest) h))

-- the tree of a state
module _ (P : Split → TestTree (Option ℕ) → Type 0) (eof : Option ℕ) (greatest : ℕ) (trees : Reader → TestTree (Option ℕ)) where
  pub tree_at : (number : ℕ) (states : List State) → EachState P eof greatest trees number states → (n : ℕ) → n < length states
      → P (reader_split eof greatest (state_of states n).edges) (trees (state (number + n)))
  tree_at number [] are n lt = absurd (omega (arith, lt))
  tree_at number (given ∷ states) are zero lt =
      let e : number ≡ number + 0 = omega arith in
      subst (λ k. P (reader_split eof greatest given.edges) (trees (state k))) e are.0
  tree_at number (given ∷ states) are (suc n) lt =
      let e : suc number + n ≡ number + suc n = omega arith in
      subst (λ k. P (reader_split eof greatest (state_of states n).edges) (trees (state k))) e (tree_at (suc number) states are.1 n (omega (arith, lt)))

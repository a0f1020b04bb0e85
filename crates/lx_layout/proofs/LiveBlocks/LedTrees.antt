-- Where the code of a tree of tests leads, and that each block for its lower tests is led to.
use Rattle.std.specs.Prelude.{◌≡◌, ℕ, suc, ◌+◌, Bool, true, false, List, [], ◌∷◌, ◌++◌, length, map, Some, slice_get, if◌then◌else◌}
use Rattle.std.proofs.Common.{subst, sym}
use Rattle.std.specs.List.{AllByRecursion}
use Rattle.lx_ccode.specs.Machine.{has_unit}
use Rattle.lx_ccode.specs.declared.piece.Stmt.{Stmt}
use Rattle.lx_ccode.specs.declared.piece.SwitchCase.{SwitchCase}
use Rattle.lx_dispatch.specs.TestTrees.{EachTest, Question, TestTree, among, at_most, case_way, fork, holds, is, leaf, picked, switch, test}
use Rattle.lx_layout.specs.Layout.{StandsFrom}
use Rattle.lx_layout.specs.SuppliedLayout.{JumpsTo}
use Rattle.lx_layout.specs.TreeCodes.{asks, inner_blocks, inner_size, switch_cases, tree_code}
use Rattle.lx_layout.proofs.BlockLayouts.CodesInBlocks.{StandsFrom-back, StandsFrom-front}
use Rattle.lx_layout.proofs.BlockLayouts.TreeCodes.{length-inner_blocks}
use Rattle.lx_layout.proofs.LiveBlocks.LedCodes.{Leads}
use Rattle.lx_layout.proofs.SuppliedLayouts.EachBlock.{EachFrom, each_from-append}

module _ (R : ℕ → Type 0) where
  -- of the blocks of codes that stand from a number on
  abbrev pub AllFrom : (from : ℕ) → List (List Stmt) → Type 0
  AllFrom from codes = EachFrom (λ block code. R block) from codes

  pub all_from-parts : (from behind : ℕ) (a b : List (List Stmt)) → from + length a ≡ behind → AllFrom from a → AllFrom behind b
      → AllFrom from (a ++ b)
  all_from-parts from behind a b at h g =
      each_from-append (λ block code. R block) from a b h (subst (λ n. AllFrom n b) (sym at) g)

  -- all ways of a tree are of the sort
  abbrev pub EachWay : TestTree ℕ → Type 0
  EachWay tree = EachTest (λ asked. Unit {0}) R tree

  -- what units go by is one of the ways
  way-cases : (cases : List (List ℕ × ℕ)) (last unit : ℕ) → AllByRecursion (λ case. R case.1) cases → R last → R (case_way cases last unit)
  way-cases [] last unit h own = own
  way-cases (case ∷ cases) last unit h own = by (has_unit case.0 unit) (way-cases cases last unit h.1 own)
    where
      by : (t : Bool) → R (case_way cases last unit) → R (if t then case.1 else case_way cases last unit)
      by true again = h.0
      by false again = again

  pub way-picked : (sets : (set unit : ℕ) → Bool) (tree : TestTree ℕ) (unit : ℕ) → EachWay tree → R (picked sets tree unit)
  way-picked sets (leaf block) unit h = h
  way-picked sets (test question block high) unit h = by (holds sets question unit) (way-picked sets high unit h.2)
    where
      by : (t : Bool) → R (picked sets high unit) → R (if t then block else picked sets high unit)
      by true again = h.1
      by false again = again
  way-picked sets (fork question low high) unit h =
      by (holds sets question unit) (way-picked sets low unit h.1) (way-picked sets high unit h.2)
    where
      by : (t : Bool) → R (picked sets low unit) → R (picked sets high unit) → R (if t then picked sets low unit else picked sets high unit)
      by true below above = below
      by false below above = above
  way-picked sets (switch cases last) unit h = way-cases cases last unit h.1 h.2

  -- ---- the statements of a tree

  leads-asks : (question : Question) (block : ℕ) → JumpsTo R (asks question block) → R block
  leads-asks (at_most greatest) block h = h.0
  leads-asks (is unit) block h = h.0
  leads-asks (among set) block h = h.0

  leads-cases : (cases : List (List ℕ × ℕ)) (last : ℕ)
      → AllByRecursion R (map (λ (case : SwitchCase). case.block) (switch_cases cases) ++ last ∷ [])
      → AllByRecursion (λ case. R case.1) cases × R last
  leads-cases [] last h = (tt, h.0)
  leads-cases (case ∷ cases) last h = let others = leads-cases cases last h.1 in ((h.0, others.0), others.1)

  -- ---- a tree whose blocks stand

  module _ (blocks : List (List Stmt))
      (goes : (block : ℕ) (code : List Stmt) → slice_get blocks block ≡ Some code → R block → Leads R code) where
    pub led-tree : (next : ℕ) (tree : TestTree ℕ) → Leads R (tree_code next tree) → StandsFrom blocks next (inner_blocks next tree)
        → AllFrom next (inner_blocks next tree) × EachWay tree
    led-tree next (leaf block) h stands = (tt, h.0.0)
    led-tree next (test question block high) h stands =
        let others = led-tree next high h.1 stands in (others.0, (tt, leads-asks question block h.0, others.1))
    led-tree next (fork question low high) h stands =
        let lower : List (List Stmt) = inner_blocks (suc next) low in
        let upper : List (List Stmt) = inner_blocks (suc next + inner_size low) high in
        let size : length (inner_blocks (suc next) low) ≡ inner_size low = length-inner_blocks (suc next) low in
        let own : R next = leads-asks question next h.0 in
        let below = led-tree (suc next) low (goes next (tree_code (suc next) low) stands.0 own)
        (StandsFrom-front blocks (suc next) lower upper stands.1) in
        let rest = led-tree (suc next + inner_size low) high h.1
        (subst (λ n. StandsFrom blocks (suc next + n) (inner_blocks (suc next + inner_size low) high)) size
        (StandsFrom-back blocks (suc next) lower upper stands.1)) in (
          (
            own,
            each_from-append (λ block code. R block) (suc next) lower upper below.0
                (subst (λ n. AllFrom (suc next + n) (inner_blocks (suc next + inner_size low) high)) (sym size) rest.0),
          ),
          (tt, below.1, rest.1),
        )
    led-tree next (switch cases last) h stands = let led = leads-cases cases last h.0 in (tt, (tt, led.0, led.1))

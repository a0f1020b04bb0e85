-- Sorting moves the cuts, and brings zero to the front.
use Rattle.std.proofs.lemmas.List.Sorted.{Contains-permutation, IsNonDecreasingBy-from_sort}
use Rattle.lx_tdfa.proofs.WordKernels.CutLists.{Contains-slice_get, ascending-sorted, steps-permutation, zero_is_first}
use Rattle.lx_tdfa.proofs.cuts.merged_cuts.Goals as goal

pub returns-clause-cuts : goal.returns-clause-cuts
returns-clause-cuts c = steps-permutation c.args.t.now c.args.reaches.now _ _ c.sort_unstable.ensures.permutation c.in_ok-cuts.ensures.0

pub returns-clause-first : goal.returns-clause-first
returns-clause-first c =
    zero_is_first c.sort_unstable.new.self.items (IsNonDecreasingBy-from_sort (λ x. x) _ c.sort_unstable.ensures.sorted)
    (Contains-permutation _ _ 0 c.sort_unstable.ensures.permutation (Contains-slice_get c.in_ok-cuts.cuts.items 0 0 c.in_ok-cuts.ensures.1))

pub returns-clause-ascending : goal.returns-clause-ascending
returns-clause-ascending c = ascending-sorted c.sort_unstable.new.self.items (IsNonDecreasingBy-from_sort (λ x. x) _ c.sort_unstable.ensures.sorted)

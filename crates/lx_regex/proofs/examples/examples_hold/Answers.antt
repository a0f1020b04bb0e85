use Rattle.lx_regex.proofs.examples.examples_hold.Goals as goal
use Rattle.lx_regex.proofs.WorkedExamples.Grouped.{on_xy, in_two, with_empty, grouped}
use Rattle.lx_regex.proofs.WorkedExamples.WorkedMatches.{matches}
use Rattle.lx_regex.proofs.WorkedExamples.WorkedKernels.{kernels}
use Rattle.lx_regex.proofs.WorkedExamples.Worked.{tagged_ab, tagged_ba, tagged_nothing, alternatives, marked_xyx, histories, context_abbb, contexts, pair_tree, surrogates_tree, pairs, one_ab, a_and_b, policies, tables}

pub returns-clause-alternatives : goal.returns-clause-alternatives
returns-clause-alternatives c = (tagged_ab, tagged_ba, tagged_nothing, alternatives)

pub returns-clause-histories : goal.returns-clause-histories
returns-clause-histories c = (marked_xyx, histories)

pub returns-clause-contexts : goal.returns-clause-contexts
returns-clause-contexts c = (context_abbb, contexts)

pub returns-clause-pairs : goal.returns-clause-pairs
returns-clause-pairs c = (pair_tree, surrogates_tree, pairs)

pub returns-clause-policies : goal.returns-clause-policies
returns-clause-policies c = (one_ab, a_and_b, policies)

pub returns-clause-tables : goal.returns-clause-tables
returns-clause-tables c = tables

pub returns-clause-empty_iterations : goal.returns-clause-empty_iterations
returns-clause-empty_iterations c = (on_xy, in_two, with_empty, grouped)

pub returns-clause-matches : goal.returns-clause-matches
returns-clause-matches c = matches

pub returns-clause-kernels : goal.returns-clause-kernels
returns-clause-kernels c = kernels

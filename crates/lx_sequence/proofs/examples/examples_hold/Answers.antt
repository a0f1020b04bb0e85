use Rattle.std.proofs.Common.{refl}
use Rattle.lx_sequence.proofs.SequenceExamples.{by_the_spare-swap, not_as_they_stand-swap}
use Rattle.lx_sequence.proofs.examples.examples_hold.Goals as goal

pub returns-clause-sequences : goal.returns-clause-sequences
returns-clause-sequences c = record { chain = refl; turned = refl; long_chain = refl; last_counts = refl; to_itself = refl }

pub returns-clause-cycles : goal.returns-clause-cycles
returns-clause-cycles c = record { of_two = refl; of_three = refl; of_histories = refl; with_a_chain = refl }

pub returns-clause-swaps : goal.returns-clause-swaps
returns-clause-swaps c = record { as_they_stand = not_as_they_stand-swap; by_the_spare = by_the_spare-swap }

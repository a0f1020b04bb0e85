-- What holds of a partition of states.
use Rattle.std.specs.Prelude.{◌≡◌, length, slice_index_or}
use Rattle.lx_auto.specs.declared.automaton.Auto.{Auto}
use Rattle.lx_min.specs.Merges.{AreClasses, AreClassesApart, Classes}
use Rattle.lx_min.specs.declared.partitions.Partition.{Partition}

-- the classes of a partition as the program keeps them
abbrev pub seen_classes : Partition → Classes
seen_classes partition = record {
  of = λ state. slice_index_or partition.class.items state 0;
  chosen = λ class. slice_index_or partition.chosen.items class 0;
  count = length partition.chosen.items;
}

-- states of one class are alike, and a word tells others apart
pub record IsMinimal (auto : Auto) (partition : Partition) : Type 0 where
  pub fit : length partition.class.items ≡ length auto.states
  pub classes : AreClasses auto (seen_classes partition)
  pub apart : AreClassesApart auto (seen_classes partition)

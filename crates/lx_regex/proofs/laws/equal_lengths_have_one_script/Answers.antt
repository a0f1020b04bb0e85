use Rattle.std.proofs.Common.{ap}
use Rattle.lx_regex.specs.Values.{value_of}
use Rattle.lx_regex.proofs.PosixTrees.PosixUnique.{same_lengths_script}
use Rattle.lx_regex.proofs.laws.equal_lengths_have_one_script.Goals as goal

pub returns-clause-script : goal.returns-clause-script
returns-clause-script c enc part e tree other same equal = same_lengths_script enc part tree other same equal

pub returns-clause-values : goal.returns-clause-values
returns-clause-values c enc part e tree other start number many same equal =
    ap (λ s. value_of start s number many) (same_lengths_script enc part tree other same equal)

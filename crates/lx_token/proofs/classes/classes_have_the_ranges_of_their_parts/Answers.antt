use Rattle.lx_token.proofs.ClassParts.{characters-are-parted, ranges-of-parts}
use Rattle.lx_token.proofs.classes.classes_have_the_ranges_of_their_parts.Goals as goal

pub returns-clause-parts : goal.returns-clause-parts
returns-clause-parts c = characters-are-parted

pub returns-clause-ranges : goal.returns-clause-ranges
returns-clause-ranges c = ranges-of-parts

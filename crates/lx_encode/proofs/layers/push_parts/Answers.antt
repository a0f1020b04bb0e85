use Rattle.std.proofs.Common.{◌+◌, ◌/◌}
use Rattle.lx_encode.proofs.Parts.{border_place}
use Rattle.lx_encode.proofs.layers.push_parts.Goals as goal

pub push_blocks-requires-clause-border : goal.push_blocks-requires-clause-border
push_blocks-requires-clause-border c = border_place c.args.radix c.requires.radix (c.args.run.lo / c.args.radix + 1)

use Rattle.lx_encode.proofs.Parts.{last_part, tail_part}
use Rattle.lx_encode.proofs.layers.push_blocks.Goals as goal

pub push_part-requires-clause-part : goal.push_part-requires-clause-part
push_part-requires-clause-part c = last_part c.args.radix c.requires.radix c.args.run c.requires.ordered c.if-end-run.true

pub push_part-requires-3-clause-part : goal.push_part-requires-3-clause-part
push_part-requires-3-clause-part c = tail_part c.args.radix c.requires.radix c.args.run.hi c.args.run.to

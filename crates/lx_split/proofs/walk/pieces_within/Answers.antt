use Rattle.lx_split.proofs.PieceCounts.{pieces_within-read}
use Rattle.lx_split.proofs.walk.pieces_within.Goals as goal

pub returns : goal.returns
returns c = pieces_within-read c.args.opts.now c.args.at c.args.file c.args.before c.args.bytes.now c.split.result c.if-total-gt-SOURCE_LIMIT.false c.split.ensures

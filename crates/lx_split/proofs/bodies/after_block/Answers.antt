use Rattle.std.proofs.Common.{◌∙◌}
use Rattle.lx_base.specs.declared.blocks.BlockKind.TheVariants.{Ignore}
use Rattle.lx_split.proofs.BlockEnds.{after_block-other, after_block-shorter}
use Rattle.lx_token.proofs.KnownLines.{AreKnown-closing}
use Rattle.lx_split.proofs.bodies.after_block.Goals as goal

pub returns-in-Ignore-clause-shorter : goal.returns-in-Ignore-clause-shorter
returns-in-Ignore-clause-shorter c = after_block-shorter Ignore c.args.text.now c.after_closing.result c.after_closing.ensures.rest

pub returns-in_default : goal.returns-in_default
returns-in_default c =
    let rest = c.after_body.ensures.rest ∙ after_block-other c.args.kind c.args.text.now c.in_default.not-Ignore in record {
      rest = rest;
      shorter = after_block-shorter c.args.kind c.args.text.now c.after_body.result rest;
      known = c.after_body.ensures.known;
    }

pub returns-in-Ignore-clause-known : goal.returns-in-Ignore-clause-known
returns-in-Ignore-clause-known c =
    AreKnown-closing c.args.unclosed.now c.args.text.now c.after_closing.result c.after_closing.ensures.rest c.requires.known

use Rattle.std.proofs.Common.{◌≡◌, ◌∙◌, false, ap, sym}
use Rattle.std.specs.Prelude.{not}
use Rattle.lx_exprs.specs.Defined.{is_built}
use Rattle.lx_exprs.proofs.Contents.ValueContents.{choice_content}
use Rattle.lx_exprs.proofs.Contents.ValueLimits.{built_seen}
use Rattle.lx_exprs.proofs.values.Value.limited.Goals as goal

pub returns-clause-stands : goal.returns-clause-stands
returns-clause-stands c meaning counted is =
    let off : is_built c.args.room meaning ≡ false =
    sym (built_seen c.args.room meaning c.args.size c.args.nesting c.args.groups c.args.tags c.requires counted) ∙ sym c.fits.ensures ∙ c.if-fits.false in
    record {
      counted = counted;
      content = (
        off,
        c.in_ok-class.ensures (is_built c.args.room meaning) meaning is,
        c.is_choice-alternatives.ensures ∙ choice_content (is_built c.args.room meaning) meaning c.args.content is,
      );
      past = sym (ap not off);
    }

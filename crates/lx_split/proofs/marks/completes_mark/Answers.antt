use Rattle.std.proofs.Common.{◌∙◌, codes}
use Rattle.lx_split.proofs.Needles.{pointwise-begins}
use Rattle.lx_split.proofs.marks.completes_mark.Goals as goal

pub returns : goal.returns
returns c =
    let text = c.args.text.now in
    let one = c.starts_with.ensures.value ∙ pointwise-begins (codes "*!begin:re2c") text in
    let two = c.starts_with-2.ensures.value ∙ pointwise-begins (codes "*!end:re2c") text in
    let three = c.starts_with-3.ensures.value ∙ pointwise-begins (codes "*!code:re2c") text in
    let four = c.starts_with-4.ensures.value ∙ pointwise-begins (codes "*!names:re2c") text in
    let five = c.starts_with-5.ensures.value ∙ pointwise-begins (codes "*!head:re2c") text in
    rw (one, two, three, four, five)

use Rattle.std.proofs.Common.{◌≡◌, ◌↔◌, List, drop, map, subst}
use Rattle.std.proofs.Math.ListN.{drop_of_length-le}
use Rattle.lx_ccode.specs.declared.piece.CodeBlock.{CodeBlock}
use Rattle.lx_ccode.specs.Validity.{labels}
use Rattle.lx_creader.proofs.StateLists.{labels_end}
use Rattle.lx_creader.proofs.conds.are_labels.Goals as goal

pub returns : goal.returns
returns c =
    let none = drop_of_length-le c.args.blocks.now {i = c.loop-block.block-index} c.loop-block-test.false in
    let same = subst (λ (l : List CodeBlock). (map (λ case. case.cond) (drop c.loop-block.place c.args.conds.now) ≡ labels l) ↔ (map (λ case. case.cond) c.args.conds.now ≡ labels c.args.blocks.now)) none c.loop-block.invariant.1 in
    let end = labels_end c.args.conds.now c.loop-block.place c.loop-block.invariant.0 in
    (λ is. same.0 (end.0 is), λ all. end.1 (same.1 all))

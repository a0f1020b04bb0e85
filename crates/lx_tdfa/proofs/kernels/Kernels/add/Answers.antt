-- What the lists have together, and the longest one, are those with a new list.
use Rattle.std.proofs.Common.{arith, ◌∙◌}
use Rattle.lx_tdfa.proofs.Loops.ListSets.{kept_put}
use Rattle.lx_tdfa.proofs.kernels.Kernels.add.Goals as goal

pub invariant_of-self-then-len-gt-KERNEL_LIMIT : goal.invariant_of-self-then-len-gt-KERNEL_LIMIT
invariant_of-self-then-len-gt-KERNEL_LIMIT g c =
    let inside = c.self.inside in
    let kept =
    kept_put inside.lists c.put.new.self c.args.places.items c.in_ok-number.is_new inside.places inside.most c.len-count.result c.if-is_new.true
    c.in_ok-number.ensures.lists c.self.invariant (omega (arith, c.args.places.ok.0)) in
    (kept.0, c.max-self-inside.ensures ∙ kept.1)

pub invariant_of-self-then-is_new : goal.invariant_of-self-then-is_new
invariant_of-self-then-is_new g c =
    let inside = c.self.inside in
    let kept =
    kept_put inside.lists c.put.new.self c.args.places.items c.in_ok-number.is_new inside.places inside.most c.len-count.result c.if-is_new.true
    c.in_ok-number.ensures.lists c.self.invariant (omega (arith, c.args.places.ok.0)) in
    (kept.0, c.max-self-inside.ensures ∙ kept.1)

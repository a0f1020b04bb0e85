use Rattle.std.proofs.Common.{◌≡◌, ◌∙◌, ◌+◌, List, ◌∷◌, [], arith, ap, get_or, length, length-append, ℕ}
use Rattle.lx_layout.proofs.halting.mark_each.Goals as goal
use Rattle.lx_layout.proofs.halting.mark_each.Goals.{then-mark_at+in_ok-push, else-mark_at}

pub loop-number-preserved : goal.loop-number-preserved
loop-number-preserved c =
    let before = c.loop-number.invariant in
    let most = c.mark_at.ensures.most in
    record {
      long = c.mark_at.ensures.long;
      sound = λ all. c.mark_at.ensures.sound (before.sound all);
      less = elim c.if-mark_at.branch [
        | then-mark_at+in_ok-push w ↦
            let fewer = c.mark_at.ensures.fewer w.if-mark_at.true in
            let one : List ℕ = get_or c.args.numbers.now c.loop-number.number-index 0 ∷ [] in
            let put : length c.if-mark_at.stack.items ≡ length c.loop-number.stack.items + length one =
            ap (λ stack. length stack.items) w.stack-is ∙ ap (λ (l : List ℕ). length l) w.in_ok-push.ensures.items
            ∙ length-append c.loop-number.stack.items one in
            omega (arith, fewer, put, before.less)
        | else-mark_at w ↦
            let put : length c.if-mark_at.stack.items ≡ length c.loop-number.stack.items = ap (λ stack. length stack.items) w.stack-is in
            omega (arith, most, put, before.less)
      ];
    }

use Rattle.std.proofs.Common.{◌∙◌, ◌≤◌, ◌++◌, ◌∷◌, [], length, ap, arith}
use Rattle.lx_creader.proofs.Steps.{names_at-step}
use Rattle.lx_creader.proofs.sections.names_at.Goals as goal

pub loop-left-preserved : goal.loop-left-preserved
loop-left-preserved c =
    let small : length c.skip-text.result.now ≤ 18446744073709551615 = omega arith in
    let next = names_at-step c.loop-left.left c.loop-left.bytes.now c.skip-text.result.now c.skip-bytes.result.now c.in_ok-name.name.items c.loop-left.words.items c.push.new.self.items
    c.loop-left-test.true (cc) small (cc (c.in_ok-name.ensures.items, c.taken.ensures, c.count_at-size.ensures, c.skip-number.ensures)) (cc)
    (c.in_ok-push.ensures.items ∙ ap (λ name. c.loop-left.words.items ++ name ∷ []) c.from_vec.ensures) in
    (next.0 ∙ c.loop-left.invariant.0, next.1 ∙ c.loop-left.invariant.1)

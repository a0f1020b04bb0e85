use Rattle.std.proofs.Common.{◌+◌, ◌++◌, drop, sym, ap, ◌∙◌, append_assoc}
use Rattle.std.proofs.lemmas.List.{drop_more}
use Rattle.lx_warn.specs.Entered.{rule_warnings, warnings_of}
use Rattle.lx_warn.proofs.lists.rule_warnings.Goals as goal

pub loop-number-preserved : goal.loop-number-preserved
loop-number-preserved c =
    let entered = c.args.entered.now in
    let start = c.args.start in
    let numbers = c.args.numbers.now in
    let place = c.loop-number.number-index in
    let list = c.loop-number.list in
    let rest = rule_warnings entered start (drop (place + 1) numbers) in
    ap (λ l. l ++ rest) c.in_ok-push_warnings.ensures ∙ append_assoc list (warnings_of entered start _) rest
    ∙ ap (λ l. list ++ rule_warnings entered start l) (sym (drop_more numbers place 0 c.loop-number-test.true)) ∙ c.loop-number.invariant

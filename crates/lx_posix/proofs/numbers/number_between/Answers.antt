use Rattle.std.proofs.Common.{◌∙◌, sym, ap, ◌≡◌, ◌+◌, ◌-◌, [], take, drop}
use Rattle.std.proofs.lemmas.List.{drop_all}
use Rattle.lx_posix.specs.WayNumbers.{least_of}
use Rattle.lx_posix.proofs.numbers.number_between.Goals as goal

pub returns : goal.returns
returns c =
    let none : drop c.loop-beginning.beginning-index
    (take (c.args.last - (c.args.first + 1)) (drop (c.args.first + 1) c.args.beginnings.now))
    ≡ [] =
    drop_all _ _ c.loop-beginning-test.false in
    ap (λ l. least_of c.loop-beginning.least l) (sym none) ∙ c.loop-beginning.invariant

use Rattle.std.proofs.Common.{rules}
use Rattle.lx_step.proofs.Nodes.{map-empty}
use Rattle.lx_step.proofs.histories.Histories.new.Goals as goal

pub returns : goal.returns
returns c =
    rw (c.in_ok-vec.ensures.items_if_clones_equal (λ y e. search (rules, e)), c.new.ensures.items) (map-empty c.args.count)

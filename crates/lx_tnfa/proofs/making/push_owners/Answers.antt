use Rattle.std.proofs.Common.{◌≡◌, ◌+◌, ◌-◌, ◌++◌, suc, Some, subst, arith}
use Rattle.std.specs.Prelude.{replicate}
use Rattle.lx_tnfa.proofs.Construction.RuleLists.{replicate_next}
use Rattle.lx_tnfa.proofs.making.push_owners.Goals as goal

pub loop-preserved : goal.loop-preserved
loop-preserved c =
    let next : suc c.loop.counter ≡ c.loop.counter + 1 = omega arith in
    let all = c.args.owners.now.items ++ replicate c.args.count (Some c.args.index) in
    subst
    (λ n. c.push.new.self.items ++ replicate (c.args.count - n) (Some c.args.index) ≡ all) next
    (replicate_next (Some c.args.index) c.loop.owners.items c.push.new.self.items all c.args.count c.loop.counter c.loop-test.true c.in_ok-push.ensures.items
    c.loop.invariant)

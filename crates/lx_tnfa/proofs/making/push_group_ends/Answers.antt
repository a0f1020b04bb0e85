use Rattle.std.proofs.Common.{◌≡◌, ◌+◌, ◌-◌, ◌++◌, suc, subst, arith}
use Rattle.lx_regex.specs.Values.{group_ends}
use Rattle.lx_tnfa.proofs.Construction.RuleLists.{ends_next}
use Rattle.lx_tnfa.proofs.making.push_group_ends.Goals as goal

pub loop-preserved : goal.loop-preserved
loop-preserved c =
    let next : suc c.loop.counter ≡ c.loop.counter + 1 = omega arith in
    let all = c.args.many.now.items ++ group_ends c.args.groups in
    subst
    (λ n. c.push-in-loop.new.self.items ++ group_ends (c.args.groups - n) ≡ all) next
    (ends_next c.loop.many.items c.push.new.self.items c.push-in-loop.new.self.items all c.args.groups c.loop.counter c.loop-test.true
    c.in_ok-push.ensures.items c.in_ok-push-2.ensures.items c.loop.invariant)

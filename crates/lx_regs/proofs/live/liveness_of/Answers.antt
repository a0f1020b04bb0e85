use Rattle.std.proofs.Common.{◌≡◌, subst, sym}
use Rattle.lx_regs.specs.Items.{AreItems}
use Rattle.lx_regs.specs.LeftGroups.{AreGroups, lists_of}
use Rattle.lx_regs.specs.Reached.{ArePairs}
use Rattle.lx_regs.proofs.live.liveness_of.Goals as goal

pub returns : goal.returns
returns c =
    let auto = c.args.auto.now in
    let lists = lists_of c.in_ok-groups.groups.lists.keys in
    let pairs = c.in_ok-pairs.pairs in
    let items = c.in_ok-usages.ensures.items in
    let moved : c.into_numbers.result.items ≡ c.in_ok-groups.groups.numbers.items = λ i. (c.into_numbers.ensures i).items in
    let same : c.in_ok-groups.groups.numbers.items ≡ c.into_numbers.result.items = sym moved in
    let known : ArePairs auto c.in_ok-groups.groups.numbers.items pairs =
    subst (λ n. ArePairs auto n pairs) c.deref.ensures.value c.in_ok-pairs.ensures.pairs in
    record {
      formed = c.requires;
      lists = lists;
      items = items;
      groups = subst (λ n. AreGroups auto n lists) same c.in_ok-groups.ensures;
      pairs = subst (λ n. ArePairs auto n pairs) same known;
      marks = c.in_ok-pairs.ensures.marks;
      live = subst (λ n. AreItems auto n lists pairs items) same c.in_ok-usages.ensures.live;
      usages = c.in_ok-usages.ensures.sorted;
      order = c.in_ok-usages.ensures.order;
    }

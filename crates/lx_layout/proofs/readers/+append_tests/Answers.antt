use Rattle.std.proofs.Common.{◌≡◌, ℕ, ◌++◌, ap, ap₂, subst, sym, ◌∙◌}
use Rattle.std.specs.Result.{OnOk}
use Rattle.lx_layout.specs.SuppliedLayout.{with_blocks}
use Rattle.lx_dispatch.specs.TestTrees.{TestTree, at_most, fork}
use Rattle.lx_layout.specs.TreeCodes.{tree_code}
use Rattle.lx_dispatch.specs.Views.{seen_tree}
use Rattle.lx_layout.specs.Ways.{way_of}
use Rattle.lx_dispatch.proofs.TreeLoops.{seen_tree-fork}
use Rattle.lx_layout.proofs.Laying.TreeWays.{tests-more}
use Rattle.lx_layout.proofs.readers.+append_tests.Goals as goal

pub returns-in_ok-block_behind-in-Fork : goal.returns-in_ok-block_behind-in-Fork
returns-in_ok-block_behind-in-Fork t c =
    let way = way_of c.args.exits in
    let next = c.args.next in
    let low = seen_tree c.deref-in-Fork.result.now in
    let high = seen_tree c.deref-in-Fork-2.result.now in
    let more = tests-more way next c.in_ok-block_behind-in-Fork.field-0 low high c.in_ok-block_behind-in-Fork.ensures c.in-Fork.greatest
    c.args.stmts.now.items c.push.new.self.items c.in_ok-push-in-Fork.ensures.items in
    let written = λ (tree : TestTree ℕ). c.args.stmts.now.items ++ tree_code next tree in
    let whole = more ∙ ap₂ (λ low high. written (with_blocks way (fork (at_most c.in-Fork.greatest) (seen_tree low) (seen_tree high)))) c.deref-in-Fork.ensures c.deref-in-Fork-2.ensures
    ∙ ap (λ tree. written (with_blocks way tree)) (sym (seen_tree-fork c.in-Fork.greatest c.in-Fork.low c.in-Fork.high))
    ∙ ap (λ tree. written (with_blocks way (seen_tree tree))) (sym c.in-Fork.is) in
    subst (λ l. OnOk c.append_tests-in-Fork.result (c.append_tests-in-Fork.new.stmts.items ≡ l)) whole c.append_tests-in-Fork.ensures

use Rattle.std.proofs.Common.{◌≡◌, List, subst}
use Rattle.std.proofs.lemmas.Result.{IfOk-weaker}
use Rattle.lx_base.specs.declared.settings.Format.TheVariants.{Three}
use Rattle.lx_dispatch.specs.Dispatch.{AreTestsOf, fronted}
use Rattle.lx_dispatch.specs.FirstQuestions.{AreFirst, IsRestOf, seen_first}
use Rattle.lx_dispatch.specs.Views.{seen_split, seen_stretches, seen_tree}
use Rattle.lx_dispatch.specs.declared.test_trees.TestTree.{TestTree}
use Rattle.lx_dispatch.specs.declared.unit_splits.Stretch.{Stretch}
use Rattle.lx_dispatch.proofs.FirstWays.{AreTestsOf-three}
use Rattle.lx_dispatch.proofs.asking.fronted_tree.Goals as goal

pub returns : goal.returns
returns c =
    let table = c.args.table.now in
    let split = c.args.split.now in
    let first = seen_first c.right_ones-first.result.now in
    let are = subst (λ (l : List Stretch). AreFirst table c.top_of-top.result (record { tests = seen_stretches l; last = split.last }) first)
    c.deref.ensures.value c.right_ones-first.ensures in
    IfOk-weaker c.fronted.result (λ (tree : TestTree). seen_tree tree ≡ fronted first (seen_tree c.in_ok-rest.rest))
    (λ (tree : TestTree). AreTestsOf Three table c.args.eof c.args.greatest (seen_split split) (seen_tree tree))
    (λ tree is.
    AreTestsOf-three table c.args.eof c.args.greatest (seen_split split) first (seen_tree c.in_ok-rest.rest) (seen_tree tree)
    (subst (λ top. AreFirst table top (seen_split split) first) c.top_of-top.ensures are)
    (subst (λ top. IsRestOf table top c.args.greatest (seen_split split) first (seen_tree c.in_ok-rest.rest)) c.top_of-top.ensures c.in_ok-rest.ensures) is)
    c.fronted.ensures

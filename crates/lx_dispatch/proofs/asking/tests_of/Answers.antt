use Rattle.std.proofs.Common.{◌∙◌, ap, subst, sym}
use Rattle.std.proofs.lemmas.Result.{IfOk-weaker}
use Rattle.lx_base.specs.declared.settings.Format.{Format}
use Rattle.lx_dispatch.specs.Dispatch.{AreTestsOf}
use Rattle.lx_dispatch.specs.TestTrees.{Ascend, IsTreeOf}
use Rattle.lx_dispatch.specs.TransitionClasses.{Split}
use Rattle.lx_dispatch.specs.UnitApart.{reader_split}
use Rattle.lx_dispatch.specs.Views.{seen_split, seen_tree}
use Rattle.lx_dispatch.specs.declared.test_trees.TestTree.{TestTree}
use Rattle.lx_dispatch.proofs.ApartOrder.{Ascend-reader_split}
use Rattle.lx_dispatch.proofs.FirstWays.{AreTestsOf-two}
use Rattle.lx_dispatch.proofs.asking.tests_of.Goals as goal

pub split_tree-requires : goal.split_tree-requires
split_tree-requires c =
    subst (λ (split : Split). Ascend 0 split.tests)
    (sym (c.in_ok-split.ensures ∙ ap (λ edges. reader_split c.args.eof c.args.greatest edges) c.as_slice-edges.ensures))
    (Ascend-reader_split c.args.eof c.args.greatest c.args.state.now.edges c.requires.order)

pub fronted_tree-requires : goal.fronted_tree-requires
fronted_tree-requires c =
    subst (λ (split : Split). Ascend 0 split.tests)
    (sym (c.in_ok-split.ensures ∙ ap (λ edges. reader_split c.args.eof c.args.greatest edges) c.as_slice-edges.ensures))
    (Ascend-reader_split c.args.eof c.args.greatest c.args.state.now.edges c.requires.order)

pub returns-in-Two : goal.returns-in-Two
returns-in-Two c =
    let table = c.args.asking.sets.now.table.items in
    let whole = reader_split c.args.eof c.args.greatest c.args.state.now.edges in
    IfOk-weaker c.split_tree.result (λ (tree : TestTree). IsTreeOf (seen_split c.in_ok-split.split) (seen_tree tree))
    (λ (tree : TestTree). AreTestsOf c.args.asking.format table c.args.eof c.args.greatest whole (seen_tree tree))
    (λ tree is.
    subst (λ (format : Format). AreTestsOf format table c.args.eof c.args.greatest whole (seen_tree tree)) (sym c.in-Two.is)
    (AreTestsOf-two table c.args.eof c.args.greatest whole (seen_tree tree)
    (subst (λ (split : Split). IsTreeOf split (seen_tree tree))
    (c.in_ok-split.ensures ∙ ap (λ edges. reader_split c.args.eof c.args.greatest edges) c.as_slice-edges.ensures) is)))
    c.split_tree.ensures

use Rattle.std.proofs.Common.{◌≡◌, ℕ, ◌∷◌, [], ◌++◌, List, Option, ap, refl, subst, sym, ◌∙◌, ◌+◌}
use Rattle.std.specs.Result.{OnOk}
use Rattle.lx_ccode.specs.declared.piece.CodeBlock.{CodeBlock}
use Rattle.lx_ccode.specs.declared.piece.Stmt.{Stmt}
use Rattle.lx_layout.specs.SuppliedLayout.{with_blocks}
use Rattle.lx_layout.specs.Plans.{unlabelled}
use Rattle.lx_dispatch.specs.TestTrees.{TestTree, at_most, fork}
use Rattle.lx_layout.specs.TreeCodes.{inner_blocks, inner_size, tree_code}
use Rattle.lx_dispatch.specs.Views.{seen_tree}
use Rattle.lx_dispatch.proofs.TreeLoops.{seen_tree-fork}
use Rattle.lx_layout.proofs.Laying.TreeWays.{lower-more}
use Rattle.lx_layout.specs.Ways.{way_of}
use Rattle.lx_layout.proofs.readers.+append_lower.Goals as goal

pub returns-in_ok-block_behind-in-Fork : goal.returns-in_ok-block_behind-in-Fork
returns-in_ok-block_behind-in-Fork t c =
    let way = way_of c.args.exits in
    let next = c.args.next in
    let front = c.args.blocks.now.items in
    let inside : ℕ = c.in_ok-inside-in-Fork.inside in
    let last : ℕ = c.in_ok-block_behind-in-Fork.field-0 in
    let low = c.in-Fork.low.value in
    let high = c.deref-in-Fork-4.result.now in
    let behind : last ≡ (1 + next) + inner_size (seen_tree low) =
    c.in_ok-block_behind-in-Fork.ensures ∙ ap (λ tree. (1 + next) + inner_size (seen_tree tree)) c.deref-in-Fork-3.ensures in
    let code : List Stmt = tree_code inside (with_blocks way (seen_tree low)) in
    let root = c.in_ok-append_root-in-Fork.ensures
    ∙ ap (λ tree. front ++ unlabelled (tree_code inside (with_blocks way (seen_tree tree)) ∷ [])) c.deref-in-Fork.ensures in
    let lower = c.in_ok-append_lower-in-Fork.ensures
    ∙ ap (λ tree. c.append_root.new.blocks.items ++ unlabelled (inner_blocks inside (with_blocks way (seen_tree tree)))) c.deref-in-Fork-2.ensures in
    let more = lower-more way next last (seen_tree low) (seen_tree high) behind c.in-Fork.greatest inside front
    c.append_root.new.blocks.items c.append_lower-in-Fork.new.blocks.items code c.in_ok-inside-in-Fork.ensures refl root lower in
    let written : TestTree (Option ℕ) → List CodeBlock = λ tree. front ++ unlabelled (inner_blocks next (with_blocks way tree)) in
    let whole = more ∙ ap (λ tree. written (fork (at_most c.in-Fork.greatest) (seen_tree low) (seen_tree tree))) c.deref-in-Fork-4.ensures
    ∙ ap written (sym (seen_tree-fork c.in-Fork.greatest c.in-Fork.low c.in-Fork.high)) ∙ ap (λ tree. written (seen_tree tree)) (sym c.in-Fork.is) in
    subst (λ l. OnOk c.append_lower-in-Fork-2.result (c.append_lower-in-Fork-2.new.blocks.items ≡ l)) whole c.append_lower-in-Fork-2.ensures

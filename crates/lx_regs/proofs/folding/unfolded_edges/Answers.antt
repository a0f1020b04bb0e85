use Rattle.std.proofs.Common.{get_or}
use Rattle.std.proofs.lemmas.List.Elements.{Contains-get_or}
use Rattle.lx_regs.specs.declared.folding.Fold.{Fold}
use Rattle.lx_regs.proofs.folding.unfolded_edges.Goals as goal

pub unfolded_edge-requires : goal.unfolded_edge-requires
unfolded_edge-requires c =
    let blank : Fold = record { lo = 0; hi = 0; place = 0 } in
    let place = c.loop-fold.fold-index in
    c.requires.within (get_or c.args.folds.now place blank) (Contains-get_or c.args.folds.now place blank c.loop-fold-test.true)

use Rattle.std.proofs.Common.{refl}
use Rattle.lx_encode.proofs.FoldingSteps.{put_within_folding}
use Rattle.lx_encode.proofs.layers.Folding.put_within.Goals as goal

pub returns-clause-folded : goal.returns-clause-folded
returns-clause-folded c = λ rows runs folding.
    let old = c.args.self.now in
    put_within_folding c.args.layer c.requires.radix c.args.part c.requires.ordered runs old
    (record { closed = old.closed; block = old.block; row = c.append_run.new.row }) rows rows folding
    c.requires.here c.requires.within refl refl refl c.requires.passed c.in_ok-append_run.ensures.leads

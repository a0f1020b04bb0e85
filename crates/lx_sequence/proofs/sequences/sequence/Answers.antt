use Rattle.std.proofs.Common.{subst, sym}
use Rattle.std.proofs.lemmas.Result.{IfOk-weaker}
use Rattle.lx_sequence.specs.Turns.{ActsOneByOne}
use Rattle.lx_sequence.proofs.Sequentialized.{ActsOneByOne-sequentialized}
use Rattle.lx_sequence.proofs.sequences.sequence.Goals as goal

pub returns-clause-acts : goal.returns-clause-acts
returns-clause-acts c =
    IfOk-weaker c.one_by_one.result _ _
    (λ list. λ is.
    subst (λ items. ActsOneByOne c.args.spare c.args.mspare items c.args.ops.now) (sym is)
    (ActsOneByOne-sequentialized c.args.spare c.args.mspare c.args.ops.now))
    c.one_by_one.ensures

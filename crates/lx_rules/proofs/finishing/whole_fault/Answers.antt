use Rattle.std.proofs.Common.{◌∙◌, sym}
use Rattle.std.proofs.lemmas.Bool.{false≢true}
use Rattle.lx_rules.proofs.Blocks.FinishingSteps.{whole_clash, whole_lonely, whole_targets}
use Rattle.lx_rules.proofs.finishing.whole_fault.Goals as goal

pub returns-then-not-differ : goal.returns-then-not-differ
returns-then-not-differ c = λ state holds usually.
    let options = c.args.options.now in
    whole_clash c.args.known.now state holds options.custom options.format c.args.at c.args.names.now usually
    (λ have. false≢true (sym c.if-not-differ.true ∙ c.in_ok-differ.ensures.1 have))

pub returns-in-Some : goal.returns-in-Some
returns-in-Some c = λ state holds usually.
    let options = c.args.options.now in
    whole_lonely c.args.known.now state holds options.custom options.format c.args.at c.args.names.now usually
    (c.in_ok-differ.ensures.0 c.if-not-differ.false) c.in-Some.fault c.in-Some.ensures

pub returns : goal.returns
returns c = λ state holds usually.
    let options = c.args.options.now in
    whole_targets c.args.known.now state holds options.custom options.format c.args.at c.args.names.now usually
    (c.in_ok-differ.ensures.0 c.if-not-differ.false) c.targets_fault.result c.in_default.ensures c.targets_fault.ensures

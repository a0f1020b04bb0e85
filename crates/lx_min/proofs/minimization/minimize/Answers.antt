use Rattle.std.proofs.Common.{Bool, Contains, List, ℕ, ◌<◌, false, length, subst, sym, arith}
use Rattle.std.proofs.lemmas.Result.{IfOk-weaker}
use Rattle.lx_auto.specs.Live.{AllInterfere, EachTargetIsRead}
use Rattle.lx_auto.specs.Points.{IsMet}
use Rattle.lx_auto.specs.SameRun.{HasSameRun}
use Rattle.lx_auto.specs.Shapes.{StaysWithin}
use Rattle.lx_auto.specs.ToldApart.{AllAreToldApart}
use Rattle.lx_min.specs.Distances.{AllDiffer}
use Rattle.lx_min.specs.Merges.{IsMerge}
use Rattle.lx_min.specs.Numberings.{numbered_classes}
use Rattle.lx_min.proofs.ApartAlready.{all-met}
use Rattle.lx_min.proofs.MergedApart.{AllAreToldApart-merged}
use Rattle.lx_min.proofs.MergedReads.{AllInterfere-merged, EachTargetIsRead-merged}
use Rattle.lx_min.proofs.MergedRuns.{HasSameRun-merged}
use Rattle.lx_min.proofs.MergedStates.{StaysWithin-merged}
use Rattle.lx_min.proofs.Merges.{IsMet-merged}
use Rattle.lx_min.proofs.minimization.minimize.Goals as goal

pub returns-then-branch-clause-apart : goal.returns-then-branch-clause-apart
returns-then-branch-clause-apart c state other within also differ =
    let all = all-met c.args.auto c.in_ok-met.met.items c.in_ok-met.ensures
    (λ has. c.in_ok-are_apart.ensures.met c.if-branch.true (subst (λ (l : List Bool). Contains l false) (sym c.deref.ensures.value) has)) in
    let fit = c.in_ok-distances.ensures.fit in
    c.in_ok-distances.ensures.apart state other (all state within) (all other also)
    (λ same. differ (subst AllDiffer c.deref-2.ensures.value (c.in_ok-are_apart.ensures.apart c.if-branch.true) state other
    (omega (arith, within, fit)) (omega (arith, also, fit)) same))

pub returns-clause-run : goal.returns-clause-run
returns-clause-run c =
    let given = c.args.auto in
    let classes = numbered_classes c.in_ok-numbering.numbering in
    IfOk-weaker c.merged.result (λ answer. IsMerge given answer classes) (λ answer. HasSameRun answer given)
    (λ answer is. HasSameRun-merged given answer classes is c.requires) c.merged.ensures.merge

pub returns-clause-within : goal.returns-clause-within
returns-clause-within c =
    let given = c.args.auto in
    let classes = numbered_classes c.in_ok-numbering.numbering in
    IfOk-weaker c.merged.result (λ answer. IsMerge given answer classes) (StaysWithin given)
    (λ answer is. StaysWithin-merged given answer classes is) c.merged.ensures.merge

pub returns-clause-apart : goal.returns-clause-apart
returns-clause-apart c =
    let given = c.args.auto in
    let classes = numbered_classes c.in_ok-numbering.numbering in
    IfOk-weaker c.merged.result (λ answer. IsMerge given answer classes) AllAreToldApart
    (λ answer is. AllAreToldApart-merged given answer classes is c.requires c.in_ok-numbering.ensures.apart) c.merged.ensures.merge

pub returns-clause-met : goal.returns-clause-met
returns-clause-met c =
    let given = c.args.auto in
    let classes = numbered_classes c.in_ok-numbering.numbering in
    IfOk-weaker c.merged.result (λ answer. IsMerge given answer classes)
    (λ answer. (state : ℕ) → state < length answer.states → IsMet answer state)
    (λ answer is state within. IsMet-merged given answer classes is c.requires state (subst (λ count. state < count) is.count within))
    c.merged.ensures.merge

pub returns-clause-read : goal.returns-clause-read
returns-clause-read c =
    let given = c.args.auto in
    let classes = numbered_classes c.in_ok-numbering.numbering in
    IfOk-weaker c.merged.result (λ answer. IsMerge given answer classes) (λ answer. EachTargetIsRead given → EachTargetIsRead answer)
    (λ answer is. EachTargetIsRead-merged given answer classes is c.requires) c.merged.ensures.merge

pub returns-clause-interfere : goal.returns-clause-interfere
returns-clause-interfere c =
    let given = c.args.auto in
    let classes = numbered_classes c.in_ok-numbering.numbering in
    IfOk-weaker c.merged.result (λ answer. IsMerge given answer classes) (λ answer. AllInterfere given → AllInterfere answer)
    (λ answer is. AllInterfere-merged given answer classes is c.requires) c.merged.ensures.merge

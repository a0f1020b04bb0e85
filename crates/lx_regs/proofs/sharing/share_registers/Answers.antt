use Rattle.std.proofs.Common.{◌≡◌, ◌∙◌, ap, subst, sym}
use Rattle.std.proofs.lemmas.Result.{IfOk-weaker}
use Rattle.lx_auto.specs.declared.automaton.Auto.{Auto}
use Rattle.lx_auto.specs.Automaton.{IsAuto}
use Rattle.lx_auto.specs.Live.{EachTargetIsRead}
use Rattle.lx_auto.specs.SameRun.{HasSameRun}
use Rattle.lx_auto.proofs.Translations.{translation-same_run}
use Rattle.lx_regs.specs.IdleOps.{count_in}
use Rattle.lx_regs.specs.WrittenBeside.{AllMayInterfere}
use Rattle.lx_regs.specs.Shapes.{KeepsShape}
use Rattle.lx_regs.specs.SharedNames.{names_of, renamed_auto}
use Rattle.lx_regs.proofs.Translations.RenamedAutomata.{IsAuto-renamed, KeepsShape-renamed}
use Rattle.lx_regs.proofs.Translations.RenamedCounts.{count_in-renamed}
use Rattle.lx_regs.proofs.Translations.RenamedReads.{EachTargetIsRead-renamed}
use Rattle.lx_regs.proofs.Translations.RenamedWalks.{renamed-translation}
use Rattle.lx_regs.proofs.SharedNames.TightNames.{shared-interfere}
use Rattle.lx_regs.proofs.sharing.share_registers.Goals as goal

pub returns-clause-kept : goal.returns-clause-kept
returns-clause-kept c =
    let auto = c.args.auto in
    let names = names_of c.in_ok-names.names in
    let answer = renamed_auto names c.counts_of-counts.result.regs c.counts_of-counts.result.mregs auto in
    IfOk-weaker c.renamed_auto.result (λ given. given ≡ answer) (λ given. KeepsShape auto given)
    (λ given is. subst (KeepsShape auto) (sym is) (KeepsShape-renamed auto names c.counts_of-counts.result.regs c.counts_of-counts.result.mregs))
    c.renamed_auto.ensures

pub returns-clause-formed : goal.returns-clause-formed
returns-clause-formed c =
    let auto = c.args.auto in
    let names = names_of c.in_ok-names.names in
    let counts = c.counts_of-counts.result in
    let shared = c.counts_of-counts.ensures.shared in
    IfOk-weaker c.renamed_auto.result (λ given. given ≡ renamed_auto names counts.regs counts.mregs auto) IsAuto
    (λ given is. subst IsAuto (sym is)
    (IsAuto-renamed auto names counts.most_regs counts.most_mregs counts.regs counts.mregs shared.fit c.counts_of-counts.ensures.states shared.few
    shared.mfew c.requires))
    c.renamed_auto.ensures

pub returns-clause-run : goal.returns-clause-run
returns-clause-run c =
    let auto = c.args.auto in
    let names = names_of c.in_ok-names.names in
    let counts = c.counts_of-counts.result in
    let shared = c.counts_of-counts.ensures.shared in
    let translation = renamed-translation auto names counts.regs counts.mregs shared.apart shared.fit.zero in
    IfOk-weaker c.renamed_auto.result (λ given. given ≡ renamed_auto names counts.regs counts.mregs auto) (λ given. HasSameRun given auto)
    (λ given is. subst (λ (a : Auto). HasSameRun a auto) (sym is)
    (translation-same_run auto (renamed_auto names counts.regs counts.mregs auto) (λ state. names) translation))
    c.renamed_auto.ensures

pub returns-clause-apart : goal.returns-clause-apart
returns-clause-apart c =
    let auto = c.args.auto in
    let names = names_of c.in_ok-names.names in
    let counts = c.counts_of-counts.result in
    let shared = c.counts_of-counts.ensures.shared in
    IfOk-weaker c.renamed_auto.result (λ given. given ≡ renamed_auto names counts.regs counts.mregs auto) AllMayInterfere
    (λ given is. subst AllMayInterfere (sym is)
    (shared-interfere auto names counts.most_regs counts.most_mregs counts.regs counts.mregs shared)) c.renamed_auto.ensures

pub returns-clause-read : goal.returns-clause-read
returns-clause-read c = λ read.
    let auto = c.args.auto in
    let names = names_of c.in_ok-names.names in
    let counts = c.counts_of-counts.result in
    let shared = c.counts_of-counts.ensures.shared in
    IfOk-weaker c.renamed_auto.result (λ given. given ≡ renamed_auto names counts.regs counts.mregs auto) EachTargetIsRead
    (λ given is. subst EachTargetIsRead (sym is) (EachTargetIsRead-renamed auto names counts.regs counts.mregs shared.apart shared.fit.zero read))
    c.renamed_auto.ensures

pub returns-clause-count : goal.returns-clause-count
returns-clause-count c =
    let auto = c.args.auto in
    let names = names_of c.in_ok-names.names in
    let counts = c.counts_of-counts.result in
    IfOk-weaker c.renamed_auto.result (λ given. given ≡ renamed_auto names counts.regs counts.mregs auto)
    (λ given. count_in given.states ≡ count_in auto.states)
    (λ given is. ap (λ (a : Auto). count_in a.states) is ∙ count_in-renamed names auto.states)
    c.renamed_auto.ensures

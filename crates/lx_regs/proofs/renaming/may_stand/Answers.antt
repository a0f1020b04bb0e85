use Rattle.std.proofs.lemmas.Result.{IfOk-weaker}
use Rattle.lx_auto.proofs.Translations.{translation-same_run}
use Rattle.lx_regs.specs.NameTables.{names_at}
use Rattle.lx_regs.proofs.Translations.TestedTranslations.{IsTested-formed, IsTested-shape, IsTested-translation}
use Rattle.lx_regs.proofs.renaming.may_stand.Goals as goal

pub returns : goal.returns
returns c =
    let given = c.args.given.now in
    let answer = c.args.proposal.now.answer in
    let names = c.args.proposal.now.names in
    IfOk-weaker c.is_translation.result _ _
    (λ may tested is. record {
      formed = IsTested-formed given answer names (tested is) c.requires.formed;
      run = translation-same_run given answer (names_at names) (IsTested-translation given answer names (tested is));
      kept = IsTested-shape given answer names (tested is);
    })
    c.is_translation.ensures

use Rattle.lx_run.proofs.PutTexts.{GivesFront-same}
use Rattle.lx_run.specs.Texts.{run_text}
use Rattle.lx_run.proofs.runs.run_over.Goals as goal

pub returns-in-Err-clause-ends : goal.returns-in-Err-clause-ends
returns-in-Err-clause-ends g c = GivesFront-same _ _ (run_text c.args.piece.now c.args.input.items c.args.window c.args.step).text
    c.in-Err.ensures.still.0

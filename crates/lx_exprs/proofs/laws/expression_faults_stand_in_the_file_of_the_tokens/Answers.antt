use Rattle.lx_exprs.proofs.Forms.FaultPlaces.{context-file, expression-file}
use Rattle.lx_exprs.proofs.laws.expression_faults_stand_in_the_file_of_the_tokens.Goals as goal

pub returns-clause-plain : goal.returns-clause-plain
returns-clause-plain c = λ options definitions file lexemes from until fault are found.
    (expression-file file options definitions lexemes are from until).finds fault found

pub returns-clause-trailing : goal.returns-clause-trailing
returns-clause-trailing c = λ options definitions file lexemes from slash until fault are found.
    (context-file file options definitions lexemes are from slash until).finds fault found

use Rattle.lx_words.proofs.Digits.{parse-long}
use Rattle.lx_words.proofs.numbers.value_of.Goals as goal

pub returns-in-Err : goal.returns-in-Err
returns-in-Err c = parse-long c.args.text.now c.parse.result _ c.parse.ensures.value.0 c.requires c.in-Err.is

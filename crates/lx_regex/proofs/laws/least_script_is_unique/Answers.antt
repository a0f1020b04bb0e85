use Rattle.std.proofs.Common.{ap}
use Rattle.lx_regex.specs.Values.{value_of}
use Rattle.lx_regex.proofs.laws.least_script_is_unique.Goals as goal
use Rattle.lx_regex.proofs.Trees.LeastScript.{least_script}

pub returns-clause-script : goal.returns-clause-script
returns-clause-script c policy enc part e word tree other positive is is' = least_script policy enc e part positive word tree other is is'

pub returns-clause-values : goal.returns-clause-values
returns-clause-values c policy enc part e word tree other start number many positive is is' =
    ap (λ s. value_of start s number many) (least_script policy enc e part positive word tree other is is')

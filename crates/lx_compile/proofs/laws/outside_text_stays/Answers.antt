use Rattle.lx_compile.proofs.OutsideTexts.{IsOutput-outside}
use Rattle.lx_compile.proofs.laws.outside_text_stays.Goals as goal

pub returns : goal.returns
returns c = IsOutput-outside

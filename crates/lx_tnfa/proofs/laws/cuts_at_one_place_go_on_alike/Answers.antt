use Rattle.lx_regex.proofs.KernelCuts.Cuts.{place_goes}
use Rattle.lx_tnfa.proofs.laws.cuts_at_one_place_go_on_alike.Goals as goal

pub returns : goal.returns
returns c enc rules cut other rest same unit unit' goes = place_goes enc rules cut other same unit unit' rest goes

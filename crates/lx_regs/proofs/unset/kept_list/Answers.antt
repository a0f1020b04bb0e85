use Rattle.lx_regs.proofs.NeedlessNulls.KeptLists.{IsKept-none}
use Rattle.lx_regs.proofs.unset.kept_list.Goals as goal

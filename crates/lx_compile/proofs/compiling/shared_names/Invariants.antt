use Rattle.std.proofs.Common.{◌≡◌, take}
use Rattle.lx_compile.proofs.compiling.shared_names.Given as goal

abbrev pub invariant-loop-file : goal.invariant-loop-file
invariant-loop-file l = l.shared.items ≡ take l.file l.names

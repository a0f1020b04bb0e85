use Rattle.std.proofs.Common.{◌≡◌, drop}
use Rattle.lx_files.specs.Held.{bytes_of}
use Rattle.lx_files.proofs.memory_files.Bindings.find.Given as goal

abbrev pub invariant-loop-file : goal.invariant-loop-file
invariant-loop-file l = bytes_of (drop l.file-index l.file-items) l.name ≡ bytes_of l.file-items l.name

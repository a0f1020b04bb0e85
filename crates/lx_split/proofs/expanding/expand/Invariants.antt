use Rattle.std.proofs.Common.{◌≡◌, ◌≤◌, ◌+◌, ◌-◌, List, length}
use Rattle.lx_files.specs.declared.files.HeldFile.{HeldFile}
use Rattle.lx_split.specs.Includes.{expansion}
use Rattle.lx_split.specs.Libraries.{Agrees, IsReadFrom}
use Rattle.lx_split.specs.Walks.{open_files, waiting, whole_of}
use Rattle.lx_split.proofs.expanding.expand.Given as goal

abbrev pub invariant-loop-walk : goal.invariant-loop-walk
invariant-loop-walk g l = record {
  whole : (seen : List HeldFile) → Agrees seen l.library → expansion l.opts seen l.main ≡ whole_of l.opts seen l.names l.walk;
  read : IsReadFrom (g.F.Files.held l.fn.files) l.library;
  few : length l.names + waiting (open_files l.walk) ≤ 1 + l.walk.total;
  within : l.walk.total ≤ 16777216;
  depth : length l.walk.stack.items ≤ 33;
  never_falls : g.F.Files.faults l.fn.files ≤ g.F.Files.faults l.files;
  held_stays : g.F.Files.held l.files ≡ g.F.Files.held l.fn.files;
  write_faults_stay : g.F.Files.write_faults l.files ≡ g.F.Files.write_faults l.fn.files;
}

abbrev pub decreases-loop-walk : goal.decreases-loop-walk
decreases-loop-walk g l =
    (16777216 - l.walk.total) + (16777216 - l.walk.total) + waiting (open_files l.walk) + waiting (open_files l.walk) + length l.walk.stack.items

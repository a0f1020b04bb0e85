use Rattle.std.proofs.Common.{◌≡◌, ◌≤◌, List, drop}
use Rattle.lx_files.specs.declared.files.HeldFile.{HeldFile}
use Rattle.lx_split.specs.Includes.{first_file}
use Rattle.lx_split.specs.Libraries.{Agrees, ReadsOn}
use Rattle.lx_split.proofs.library.Library.find.Given as goal

abbrev pub invariant-loop-name : goal.invariant-loop-name
invariant-loop-name g l = record {
  first : (seen : List HeldFile) → Agrees seen l.self → first_file seen l.names ≡ first_file seen (drop l.name-index l.names);
  reads : ReadsOn (g.F.Files.held l.fn.files) l.fn.self l.self;
  never_falls : g.F.Files.faults l.fn.files ≤ g.F.Files.faults l.files;
  held_stays : g.F.Files.held l.files ≡ g.F.Files.held l.fn.files;
  write_faults_stay : g.F.Files.write_faults l.files ≡ g.F.Files.write_faults l.fn.files;
}

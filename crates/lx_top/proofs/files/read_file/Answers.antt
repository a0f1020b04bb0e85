use Rattle.lx_files.specs.Counts.{Rose}
use Rattle.lx_top.proofs.CompileLemmas.{sees_given, sees_missing, sees_any, HaltsRead-missing}
use Rattle.lx_top.proofs.files.read_file.Goals as goal

pub returns-in-Ok-clause-read : goal.returns-in-Ok-clause-read
returns-in-Ok-clause-read g c = sees_given (g.F.Files.held c.args.files.now) c.args.name.now c.in-Ok.source.items c.in-Ok.ensures.gives

pub returns-in-Err-Missing-clause-read : goal.returns-in-Err-Missing-clause-read
returns-in-Err-Missing-clause-read g c =
    let CountRose : Type 0 = Rose (g.F.Files.faults c.args.files.now) (g.F.Files.faults c.read.new.self) in
    let sees = sees_missing (g.F.Files.held c.args.files.now) c.args.name.now CountRose (rw c.in-Err-Missing.field-0-is at c.in-Err-Missing.ensures.refuses) in
    (sees.0, sees.1, HaltsRead-missing sees.0 CountRose c.args.file c.args.name.now c.no_file.result sees.2 c.no_file.ensures)

pub returns-in-Err-Failed-clause-read : goal.returns-in-Err-Failed-clause-read
returns-in-Err-Failed-clause-read g c =
    let any = sees_any (g.F.Files.held c.args.files.now) in (any.0, any.1, rw c.in-Err-Failed.field-0-is at c.in-Err-Failed.ensures.refuses)

pub returns-in-Err-Memory-clause-read : goal.returns-in-Err-Memory-clause-read
returns-in-Err-Memory-clause-read g c = let any = sees_any (g.F.Files.held c.args.files.now) in (any.0, any.1, tt)

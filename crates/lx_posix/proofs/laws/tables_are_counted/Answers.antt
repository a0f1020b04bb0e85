use Rattle.lx_posix.proofs.Course.CountedTables.{few_kernels, many_kernels}
use Rattle.lx_posix.proofs.laws.tables_are_counted.Goals as goal

pub returns-clause-many : goal.returns-clause-many
returns-clause-many c enc patterns tnfa kernels of fits reached start apart many =
    many_kernels enc patterns tnfa of fits kernels reached start apart many

pub returns-clause-few : goal.returns-clause-few
returns-clause-few c enc patterns tnfa kernels of fits reached start apart closed few few_places many =
    few_kernels enc patterns tnfa of fits kernels reached start apart closed few few_places many

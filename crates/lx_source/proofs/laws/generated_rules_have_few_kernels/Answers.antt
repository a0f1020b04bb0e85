use Rattle.lx_source.proofs.FewKernels.{few_kernels}
use Rattle.lx_source.proofs.laws.generated_rules_have_few_kernels.Goals as goal

pub returns : goal.returns
returns c count most many = few_kernels count most many

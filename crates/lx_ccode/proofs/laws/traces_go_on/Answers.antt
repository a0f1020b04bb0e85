use Rattle.std.proofs.Common.{ap}
use Rattle.lx_ccode.specs.Traces.{Trace}
use Rattle.lx_ccode.proofs.Traces.{length-made, one_end, trace-add}
use Rattle.lx_ccode.proofs.laws.traces_go_on.Goals as goal

pub returns : goal.returns
returns c = record {
  made = λ piece stream steps more code machine answers. ap (λ (t : Trace). t.made) (trace-add piece stream steps more code machine answers);
  next = λ piece stream steps more code machine answers. ap (λ (t : Trace). t.next) (trace-add piece stream steps more code machine answers);
  counted = length-made;
  one_end = one_end;
}

-- Calls that are refused.
use Rattle.lx_files.specs.declared.sinks.PutAnswer.{PutAnswer}
use Rattle.lx_files.specs.declared.sinks.PutAnswer.TheVariants.{Failed, Memory}
use Rattle.lx_split.specs.declared.expanding.ExpandStop.{ExpandStop}
use Rattle.lx_split.specs.declared.expanding.ExpandStop.TheVariants as expand
use Rattle.lx_top.specs.declared.endings.Halt.{Halt}
use Rattle.lx_base.specs.declared.faults.Stop.{Stop}
use Rattle.lx_base.specs.declared.faults.Stop.TheVariants as stop
use Rattle.lx_top.specs.declared.endings.Halt.TheVariants.{Fault, PutFailed, OutOfMemory, ReadFailed}

-- how a run breaks off where a put to the standard output is refused
abbrev pub halt_of : PutAnswer → Halt
halt_of Failed = PutFailed
halt_of Memory = OutOfMemory

-- how a run breaks off where a call stopped
abbrev pub halt_of_stop : Stop → Halt
halt_of_stop stop.Memory = OutOfMemory
halt_of_stop (stop.Fault fault) = Fault fault

-- how a run breaks off where a compilation stopped
abbrev pub halt_of_expand : ExpandStop → Halt
halt_of_expand expand.Memory = OutOfMemory
halt_of_expand (expand.Fault fault) = Fault fault
halt_of_expand expand.ReadFailed = ReadFailed

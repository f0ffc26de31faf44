use Rattle.vt_io.specs.declared.files.FetchFault.{FetchFault}
use Rattle.vt_io.specs.declared.files.FetchFault.TheVariants as fetch
use Rattle.vt_top.specs.declared.answer.Fault.{Fault}
use Rattle.vt_top.specs.declared.answer.Fault.TheVariants.{Read, Memory}

-- why there is no answer, where a fetch gave none
abbrev pub fault_of : FetchFault → Fault
fault_of fetch.Failed = Read
fault_of fetch.Memory = Memory

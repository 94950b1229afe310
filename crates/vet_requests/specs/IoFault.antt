-- The printed text of a fault (ours).
use Rattle.std.specs.Prelude.{codes}
use Rattle.vet_requests.specs.declared.io_fault.IoFault.{IoFault}
use Rattle.vet_requests.specs.declared.io_fault.IoFault.TheVariants.{Input, Output, Endless, NoMemory}
use Rattle.vet_base.specs.Words.{Text}

abbrev pub fault_text : IoFault → Text
fault_text Input = codes "fault: input"
fault_text Output = codes "fault: output"
fault_text Endless = codes "fault: input"
fault_text NoMemory = codes "refused 29 NoMemory"

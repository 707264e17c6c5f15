-- Which of the files of the words has a fault.
use Rattle.rg_messages.specs.declared.fault.Fault.{Fault}
use Rattle.rg_messages.specs.declared.fault.FileFault.{FileFault}

abbrev pub first_fault : Fault → FileFault
first_fault fault = record { file = 1; fault = fault }

abbrev pub second_fault : Fault → FileFault
second_fault fault = record { file = 2; fault = fault }

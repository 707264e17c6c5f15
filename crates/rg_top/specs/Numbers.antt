-- The numbers with which the program ends.
use Rattle.std.specs.Prelude.{ℕ}
use Rattle.rg_top.specs.declared.status.Status.{Status}
use Rattle.rg_top.specs.declared.status.Status.TheVariants.{Done, No, Usage, File, TooWide, ReadFault, WriteFault, NoMemory}

abbrev pub status_number : Status → ℕ
status_number Done = 0
status_number No = 1
status_number (Usage usage) = 2
status_number (File fault) = 3
status_number (TooWide cause) = 4
status_number ReadFault = 5
status_number WriteFault = 6
status_number NoMemory = 7

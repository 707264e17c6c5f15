-- The exit status of the program.
use Rattle.std.specs.Prelude.{ℕ}
use Rattle.rg_top.specs.Numbers.{status_number}
use Rattle.rg_top.specs.declared.program.ProgramEnd.{ProgramEnd}
use Rattle.rg_top.specs.declared.program.ProgramEnd.TheVariants.{Ran, NoMemory, NoWords}

-- the number of what the command came to, 7 where memory ran out before the words were there, 9 where the words can't be had
abbrev pub exit_number : ProgramEnd → ℕ
exit_number (Ran status) = status_number status
exit_number NoMemory = 7
exit_number NoWords = 9

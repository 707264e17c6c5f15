use Rattle.rg_apt.proofs.SpelledSystems.{spelled_formed}
use Rattle.rg_apt.proofs.MemoryFaults.{memory_is_no_fault}
use Rattle.rg_apt.proofs.laws.spelled_is_well_formed.Goals as goal

pub returns : goal.returns
returns c = record { formed = spelled_formed; fault = memory_is_no_fault }

use Rattle.rg_netfile.proofs.MemoryFaults.{memory_is_no_fault}
use Rattle.rg_netfile.proofs.laws.spelled_is_for_the_system.Goals as goal

pub returns : goal.returns
returns c = record { labels = λ bytes lts net (items, are, none, is). is.for_labels; fault = memory_is_no_fault }

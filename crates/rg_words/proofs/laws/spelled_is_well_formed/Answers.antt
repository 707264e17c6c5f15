use Rattle.rg_words.proofs.SpelledTrees.{spelled_formed, memory_is_no_fault}
use Rattle.rg_words.proofs.laws.spelled_is_well_formed.Goals as goal

pub returns : goal.returns
returns c = record { formed = spelled_formed; fault = memory_is_no_fault }

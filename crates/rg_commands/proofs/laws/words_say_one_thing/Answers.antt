use Rattle.rg_commands.proofs.Bounds.{words_in_range}
use Rattle.rg_commands.proofs.Telling.{one_said, some_said}
use Rattle.rg_commands.proofs.laws.words_say_one_thing.Goals as goal

pub returns : goal.returns
returns c = record { one = one_said; some = some_said; bounds = words_in_range }

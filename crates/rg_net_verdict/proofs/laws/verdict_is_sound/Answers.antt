use Rattle.rg_net_verdict.proofs.Sound.{yes_is_sound, no_is_sound}
use Rattle.rg_net_verdict.proofs.laws.verdict_is_sound.Goals as goal

pub returns-clause-yes : goal.returns-clause-yes
returns-clause-yes c = yes_is_sound

pub returns-clause-no : goal.returns-clause-no
returns-clause-no c = no_is_sound

use Rattle.rg_apt.proofs.Grammars.{items_or_refusal, declared_once, items_or_refused}
use Rattle.rg_apt.proofs.Going.{goes_on}
use Rattle.rg_apt.proofs.laws.items_are_read.Goals as goal

pub returns : goal.returns
returns c = record { some = items_or_refused; not_refused = items_or_refusal; one_meaning = declared_once; goes_on = goes_on }

use Rattle.rg_line_formats.proofs.Parts.{some_with, one_with}
use Rattle.rg_line_formats.proofs.laws.one_system.Goals as goal

pub returns : goal.returns
returns c = record { some = some_with; one = one_with }

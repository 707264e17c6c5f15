use Rattle.std.proofs.Common.{Err, ap}
use Rattle.rg_top.proofs.testing.self_test_answer.Goals as goal

pub returns-in-Ok : goal.returns-in-Ok
returns-in-Ok g c = c.in-Ok.ensures.lines

pub returns-in-Err-TooWide : goal.returns-in-Err-TooWide
returns-in-Err-TooWide g c = c.in-Err-TooWide.ensures.passes c.in-Err-TooWide.at (ap Err c.in-Err-TooWide.field-0-is)

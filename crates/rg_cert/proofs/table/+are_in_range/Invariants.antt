use Rattle.std.proofs.Common.{length}
use Rattle.rg_cert.proofs.table.+are_in_range.Given as goal

abbrev pub decreases-are_in_range : goal.decreases-are_in_range
decreases-are_in_range l = length l.fields.now

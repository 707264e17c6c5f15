use Rattle.std.proofs.Common.{◌+◌, ◌≤◌, length}
use Rattle.rg_cert.specs.View.{version_in, HasFewDue, position_in, head_in, draft_in}
use Rattle.rg_cert.proofs.CaseReading.{IsReading}
use Rattle.rg_cert.proofs.reading.cases.Given as goal

abbrev pub invariant-lines : goal.invariant-lines
invariant-lines l = record {
  reading : IsReading l.lts (version_in l.fn.version) (head_in l.fn.head) l.fn.text (position_in l.position) (draft_in l.draft) l.rest l.number;
  few : l.number + length l.rest ≤ 16777220;
  small : HasFewDue l.position l.number;
}

abbrev pub decreases-lines : goal.decreases-lines
decreases-lines l = length l.rest

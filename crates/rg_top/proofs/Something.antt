-- Work on a system has an expected status, or a term decides it.
use Rattle.std.proofs.Common.{◌⊎◌, ℕ, List, Some}
use Rattle.rg_ports.specs.Shelf.{Files}
use Rattle.rg_theory.specs.System.{System}
use Rattle.rg_commands.specs.declared.request.Work.{Work}
use Rattle.rg_top.specs.Due.{DueOn, Decides}
use Rattle.rg_top.specs.Terms.{Term}
use Rattle.rg_top.specs.declared.status.Status.{Status}

-- where the files are known, a status is expected of the work on the system, or a term out of range decides
abbrev pub SomethingOn : Files → Work (List ℕ) → System → Type 0
SomethingOn files work lts = ((s : Status) × DueOn (Some files) work lts s) ⊎ ((w : Term) × Decides lts work w)

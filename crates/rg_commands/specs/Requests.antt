-- What may be asked for: the names of the files, and which numbers are in range.
use Rattle.std.specs.Prelude.{ℕ, ◌≤◌, List, [], ◌∷◌, Option, Some, None, IfSome}
use Rattle.std.specs.Borrow.{Bor}
use Rattle.std.specs.Option.{option_to_list}
use Rattle.rg_theory.specs.ClassWords.{HasNumbersInRange}
use Rattle.rg_families.specs.Families.{IsFamilyNumber}
use Rattle.rg_commands.specs.Values.{most_jobs, most_self_test}
use Rattle.rg_commands.specs.declared.request.Request.{Request}
use Rattle.rg_commands.specs.declared.request.Request.TheVariants.{OfSystem, Generate, SelfTest}
use Rattle.rg_commands.specs.declared.request.Work.{Work}
use Rattle.rg_commands.specs.declared.request.Work.TheVariants.{Synthesize, Verify, Check, Convert, Factor, Split, Isomorphic, Examine}

-- ---- the names of files: code borrows each from the words

abbrev pub named_work : Work (Bor (List ℕ)) → Work (List ℕ)
named_work (Synthesize class jobs) = Synthesize class jobs
named_work (Verify cert) = Verify cert.now
named_work (Check class net) = Check class net.now
named_work (Convert target) = Convert target
named_work (Factor class jobs) = Factor class jobs
named_work (Split output jobs) = Split output jobs
named_work (Isomorphic second form) = Isomorphic second.now form
named_work (Examine output) = Examine output

abbrev pub named : Request (Bor (List ℕ)) → Request (List ℕ)
named (OfSystem work file form) = OfSystem (named_work work) file.now form
named (Generate kind n) = Generate kind n
named (SelfTest n) = SelfTest n

-- the name of the second file, of work that reads one
abbrev pub second_file : Work (List ℕ) → Option (List ℕ)
second_file (Verify cert) = Some cert
second_file (Check class net) = Some net
second_file (Isomorphic second form) = Some second
second_file _ = None

-- the names of all files, in order
abbrev pub file_words : Request (List ℕ) → List (List ℕ)
file_words (OfSystem work file form) = file ∷ option_to_list (second_file work)
file_words _ = []

-- ---- ranges

-- so many jobs may do the work
abbrev pub IsJobs : ℕ → Type 0
IsJobs jobs = (1 ≤ jobs) × (jobs ≤ most_jobs)

-- the numbers of a class are in range, and so many jobs may do the work
abbrev pub HasWorkBounds : Work (List ℕ) → Type 0
HasWorkBounds (Synthesize class jobs) = HasNumbersInRange class × IsJobs jobs
HasWorkBounds (Check class net) = HasNumbersInRange class
HasWorkBounds (Factor class jobs) = IfSome class HasNumbersInRange × IsJobs jobs
HasWorkBounds (Split output jobs) = IsJobs jobs
HasWorkBounds _ = Unit {0}

-- the number is one of a self test
abbrev pub IsTestNumber : ℕ → Type 0
IsTestNumber n = (1 ≤ n) × (n ≤ most_self_test)

-- the numbers that are asked are in range: those of the work, the number of a family's system, that of a self test
abbrev pub HasBounds : Request (List ℕ) → Type 0
HasBounds (OfSystem work file form) = HasWorkBounds work
HasBounds (Generate kind n) = IsFamilyNumber kind n
HasBounds (SelfTest n) = IsTestNumber n

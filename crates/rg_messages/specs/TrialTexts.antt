-- The lines that `selftest` writes to out, one for each trial.
use Rattle.std.specs.Prelude.{ℕ, List, [], ◌++◌, length, codes, decimal, slice_index_or}
use Rattle.rg_theory.specs.System.{System, states}
use Rattle.rg_cert_meaning.specs.Refutes.{Reason}
use Rattle.rg_cert.specs.Text.{spaced, reason_lines}
use Rattle.rg_families.specs.declared.Kind.{Kind}
use Rattle.rg_families.specs.declared.Kind.TheVariants.{Grid, Doubling, Lock}
use Rattle.rg_messages.specs.CheckedTexts.{yes_line}

-- the word of a family
abbrev pub kind_word : Kind → List ℕ
kind_word Grid = codes "grid"
kind_word Doubling = codes "doubling"
kind_word Lock = codes "lock"

-- the family, the number, and how many states and arcs the system has
abbrev pub trial_text : Kind → ℕ → System → List ℕ
trial_text kind n lts = kind_word kind ++ codes " " ++ decimal n ++ codes ": states " ++ decimal (states lts) ++ codes " arcs " ++ decimal (length lts.arcs)

-- how many places the net has, and the line of the verdict on it
abbrev pub solved_line : Kind → ℕ → System → ℕ → List ℕ → List ℕ
solved_line kind n lts places verdict = trial_text kind n lts ++ codes " places " ++ decimal places ++ codes " check " ++ verdict

-- the first line of a reason, which is the third of a certificate with it
abbrev pub reason_line : System → Reason → List ℕ
reason_line lts reason = spaced (slice_index_or (reason_lines lts reason) 0 [])

-- why there is no net, by a certificate that is accepted
abbrev pub unsolvable_line : Kind → ℕ → System → Reason → List ℕ
unsolvable_line kind n lts reason = trial_text kind n lts ++ codes " unsolvable " ++ reason_line lts reason ++ codes " verify " ++ yes_line

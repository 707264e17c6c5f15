-- The lines for the first flaw of a system.
use Rattle.std.specs.Prelude.{ℕ, List, ◌++◌, codes, decimal}
use Rattle.rg_theory.specs.System.{System}
use Rattle.rg_checks.specs.declared.flaw.Flaw.{Flaw}
use Rattle.rg_checks.specs.declared.flaw.Flaw.TheVariants.{Unreachable, Fork}
use Rattle.rg_cert.specs.Text.{state_name, label_name}

-- a state and a label
abbrev pub step_text : System → ℕ → ℕ → List ℕ
step_text lts s t = state_name lts s ++ codes " " ++ label_name lts t

-- a state that can't be reached, or a fork: the state, the label and the two states
abbrev pub flaw_words : System → Flaw → List ℕ
flaw_words lts (Unreachable s) = codes "unreachable " ++ state_name lts s
flaw_words lts (Fork f) = codes "fork " ++ step_text lts f.from f.label ++ codes " " ++ state_name lts f.to ++ codes " " ++ state_name lts f.other

-- the line of a command with one system
abbrev pub flaw_line : System → Flaw → List ℕ
flaw_line lts flaw = codes "no: " ++ flaw_words lts flaw ++ codes "\n"

-- the line of a command with several systems, of which this one is that of the file with this number
abbrev pub file_flaw_line : ℕ → System → Flaw → List ℕ
file_flaw_line file lts flaw = codes "no: file " ++ decimal file ++ codes ": " ++ flaw_words lts flaw ++ codes "\n"

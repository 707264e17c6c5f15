-- The lines that `convert` writes to out where a state graph can't hold a system.
use Rattle.std.specs.Prelude.{ℕ, List, ◌++◌, codes}
use Rattle.rg_theory.specs.System.{System}
use Rattle.rg_cert.specs.Text.{state_name, label_name}

-- a label is lost
abbrev pub lost_label_line : System → ℕ → List ℕ
lost_label_line lts t = codes "no: label " ++ label_name lts t ++ codes " has no arc\n"

-- a state is lost
abbrev pub lost_state_line : System → ℕ → List ℕ
lost_state_line lts s = codes "no: state " ++ state_name lts s ++ codes " has no arc\n"

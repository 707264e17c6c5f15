-- How `convert FORM FILE` ends where FILE spells a system.
use Rattle.std.specs.Prelude.{ℕ}
use Rattle.rg_theory.specs.System.{System}
use Rattle.rg_apt.specs.Plain.{lts_text}
use Rattle.rg_apt.specs.Spells.{Spells as AptSpells}
use Rattle.rg_genet.specs.Spells.{Spells as GraphSpells}
use Rattle.rg_genet.specs.Text.{graph_text}
use Rattle.rg_genet.specs.Same.{IsSameByNames}
use Rattle.rg_genet.specs.Loss.{IsLabelKept, IsStateKept, IsFirstDead, IsFirstLost}
use Rattle.rg_commands.specs.declared.forms.Target.{Target}
use Rattle.rg_commands.specs.declared.forms.Target.TheVariants.{Apt, Graph}
use Rattle.rg_messages.specs.LostTexts.{lost_label_line, lost_state_line}
use Rattle.rg_top.specs.End.{End, says_yes, says_no}
use Rattle.rg_top.specs.declared.status.Status.{Status}
use Rattle.rg_top.specs.declared.status.Status.TheVariants.{Done, No}

-- the state graph spells a system with the same states, labels and arcs by name, and the same initial state
abbrev pub IsReadAgain : System → Type 0
IsReadAgain lts = (read : System) × GraphSpells (graph_text lts) read × IsSameByNames lts read

-- the end is the text of the system, which is read as that system again, or the first label or state that a graph can't hold
pub data ConvertEnds (lts : System) : Target → End → Type 0 where
  as_apt : AptSpells (lts_text lts) lts → ConvertEnds lts Apt (says_yes (lts_text lts))
  as_graph : IsLabelKept lts → IsStateKept lts → IsReadAgain lts → ConvertEnds lts Graph (says_yes (graph_text lts))
  label_lost : (t : ℕ) → IsFirstDead lts t → ConvertEnds lts Graph (says_no (lost_label_line lts t))
  state_lost : (s : ℕ) → IsFirstLost lts s → ConvertEnds lts Graph (says_no (lost_state_line lts s))

-- when each status is expected
pub data ConvertIsDue (lts : System) : Target → Status → Type 0 where
  always : ConvertIsDue lts Apt Done
  by_all : IsLabelKept lts → IsStateKept lts → ConvertIsDue lts Graph Done
  by_label : (t : ℕ) → IsFirstDead lts t → ConvertIsDue lts Graph No
  by_state : (s : ℕ) → IsFirstLost lts s → ConvertIsDue lts Graph No

-- A draft whose names grow as they come up.
use Rattle.std.specs.Prelude.{ℕ, List}
use Rattle.std.specs.Str.{bytes_eq}
use Rattle.rg_lts.specs.Draft.{Draft}
use Rattle.rg_line_formats.specs.First.{with_new}

-- the draft with a state of this name, and with a label of this name
abbrev pub with_state : Draft → List ℕ → Draft
with_state d name = record d { state_names = with_new bytes_eq d.state_names name }

abbrev pub with_label : Draft → List ℕ → Draft
with_label d name = record d { label_names = with_new bytes_eq d.label_names name }

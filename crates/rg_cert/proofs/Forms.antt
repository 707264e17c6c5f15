-- The forms of lines.
use Rattle.std.proofs.Common.{◌≡◌, ℕ, ◌<◌, List, [], ◌∷◌, get_or, refl, arith}
use Rattle.rg_cert.specs.declared.table.LineForm.{LineForm}
use Rattle.rg_cert.specs.declared.table.LineForm.TheVariants.{Unreachable, Fork, Event, States, Case, SplitTokens, SplitEffect, SplitStart, Leaf, Row, End}
use Rattle.rg_cert.specs.declared.table.RowForm.TheVariants as of_row

abbrev pub all_forms : List LineForm
all_forms = Unreachable ∷ Fork ∷ Event ∷ States ∷ Case ∷ SplitTokens ∷ SplitEffect ∷ SplitStart ∷ Leaf ∷ Row of_row.Lone ∷ Row of_row.Arc
    ∷ Row of_row.State ∷ Row of_row.Label ∷ Row of_row.Depth ∷ End ∷ []

-- each form stands in the list
abbrev pub IsListed : LineForm → Type 0
IsListed form = (k : ℕ) × (k < 15) × (get_or all_forms k form ≡ form)

pub listed : (form : LineForm) → IsListed form
listed Unreachable = (0, omega arith, refl)
listed Fork = (1, omega arith, refl)
listed Event = (2, omega arith, refl)
listed States = (3, omega arith, refl)
listed Case = (4, omega arith, refl)
listed SplitTokens = (5, omega arith, refl)
listed SplitEffect = (6, omega arith, refl)
listed SplitStart = (7, omega arith, refl)
listed Leaf = (8, omega arith, refl)
listed (Row of_row.Lone) = (9, omega arith, refl)
listed (Row of_row.Arc) = (10, omega arith, refl)
listed (Row of_row.State) = (11, omega arith, refl)
listed (Row of_row.Label) = (12, omega arith, refl)
listed (Row of_row.Depth) = (13, omega arith, refl)
listed End = (14, omega arith, refl)

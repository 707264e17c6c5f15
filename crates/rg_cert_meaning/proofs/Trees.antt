-- A tree that refutes leaves no numbers of which all rows hold.
use Rattle.std.proofs.Common.{◌≡◌, ℕ, zero, suc, true, false, List, [], ◌∷◌, ◌++◌, Some, slice_get, get_or, subst, ℤ, pos, ◌*ℤ◌}
use Rattle.std.proofs.lemmas.Int.{by_lt_z}
use Rattle.std.proofs.lemmas.Option.{same_Some, none-some}
use Rattle.rg_theory.specs.System.{System}
use Rattle.rg_theory.specs.declared.Class.{Class}
use Rattle.rg_theory.specs.declared.Problem.{Problem}
use Rattle.rg_cert_meaning.specs.Expression.{Variable, value_of}
use Rattle.rg_cert_meaning.specs.Row.{Form, form_variable, step_of, FormStands, Side, RowName, RowStands, row_expression, Says}
use Rattle.rg_branch_trees.specs.Trees.{Tree.leaf, Tree.split, low_side, high_side}
use Rattle.rg_cert_meaning.specs.Refutes.{Tree, TreeRefutes}
use Rattle.rg_cert_meaning.proofs.Sums.{no_contradiction}
use Rattle.rg_cert_meaning.proofs.Rows.{Says-times, IsOnSide, steps_most, steps_more}

-- the numbers are on each of the sides
abbrev pub AreOnSides : Class → ℕ → (Variable → ℤ) → List Side → Type 0
AreOnSides class initial x above = (d : ℕ) (side : Side) → slice_get above d ≡ Some side → IsOnSide class initial x side

one_more : (class : Class) (initial : ℕ) (x : Variable → ℤ) (above : List Side) (side : Side) → AreOnSides class initial x above
    → IsOnSide class initial x side → AreOnSides class initial x (above ++ side ∷ [])
one_more class initial x [] side on here zero other e = subst (IsOnSide class initial x) (same_Some side other e) here
one_more class initial x [] side on here (suc d) other e = absurd (none-some other e)
one_more class initial x (a ∷ above) side on here zero other e = on zero other e
one_more class initial x (a ∷ above) side on here (suc d) other e = one_more class initial x above side (λ k. on (suc k)) here d other e

pub tree_none : (lts : System) (class : Class) (problem : Problem) (number : ℕ) (x : Variable → ℤ)
    → ((form : Form) → FormStands class form → (w : ℤ) × (x (form_variable lts.initial form) ≡ pos (step_of class form) *ℤ w))
    → ((above : List Side) → AreOnSides class lts.initial x above → (name : RowName) → RowStands lts class problem number above name
    → Says name (value_of x (row_expression lts class problem number above name))) → (above : List Side) → AreOnSides class lts.initial x above → (tree : Tree)
    → TreeRefutes lts class problem number above tree → ⊥
tree_none lts class problem number x steps says above on (leaf rows) refutes =
    no_contradiction x (row_expression lts class problem number above) rows
    (λ k d lt. Says-times (get_or rows k d).name (get_or rows k d).multiplier _ (refutes.positive k d lt) (says above on (get_or rows k d).name (refutes.stand k d lt)))
    refutes.cancels refutes.contradicts
tree_none lts class problem number x steps says above on (split form at low high) refutes =
    let (w, is) = steps form refutes.0 in
    by_lt_z at w
    (λ more. tree_none lts class problem number x steps says (above ++ high_side form at ∷ [])
    (one_more class lts.initial x above (high_side form at) on
    (steps_more (step_of class form) at w (x (form_variable lts.initial form)) is more)) high refutes.2)
    (λ most. tree_none lts class problem number x steps says (above ++ low_side form at ∷ [])
    (one_more class lts.initial x above (low_side form at) on
    (steps_most (step_of class form) at w (x (form_variable lts.initial form)) is most)) low refutes.1)

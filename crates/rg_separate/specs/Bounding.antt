-- Forms of a case as a branching takes them.
use Rattle.std.specs.Prelude.{◌≡◌, ◌≤◌, ℕ, ℤ, List, length, map, take}
use Rattle.rg_linear.specs.Branching.{Form}
use Rattle.rg_branch.specs.declared.bounded.Bounded.{Bounded}
use Rattle.rg_branch.specs.View.{form_of}
use Rattle.rg_rows.specs.declared.named_form.NamedForm.{NamedForm}
use Rattle.rg_rows.specs.Forms.{linear_form}

-- a form over the columns, with the number of its row and how many times that row it is
abbrev pub bounded_form : Bounded → Form × ℕ × ℤ
bounded_form b = (form_of b, b.row, b.times)

abbrev pub listed_form : NamedForm → Form × ℕ × ℤ
listed_form f = (linear_form f, f.row, f.times)

-- the forms are these, in order
abbrev pub AreBoundedOf : List NamedForm → List Bounded → Type 0
AreBoundedOf forms bounded = map bounded_form bounded ≡ map listed_form forms

-- the forms are the first of these, in order
abbrev pub AreFirstBounded : List NamedForm → List Bounded → Type 0
AreFirstBounded forms bounded = (length forms ≤ length bounded) × AreBoundedOf forms (take (length forms) bounded)

-- The result of comparing two systems.
use Rattle.std.specs.Prelude.{◌≡◌, ℕ, ◌<◌, List, Contains, Some, slice_get}
use Rattle.rg_theory.specs.System.{System}
use Rattle.rg_checks.specs.Flaws.{IsFlawless}
use Rattle.rg_lts.specs.WellFormed.{IsWellFormed}
use Rattle.rg_iso.specs.Isomorphic.{HaveSameLabels, IsIsomorphismTo}
use Rattle.rg_iso.specs.Words.{Difference, Difference.step as by_step, Difference.target as by_target, IsFirstDifference}
use Rattle.rg_iso.specs.declared.same.Same.{Same}
use Rattle.rg_iso.specs.declared.same.Same.TheVariants.{Map, Label, Step, Target}

-- what is known of two flawless systems in memory
pub record AreComparable (a b : System) : Type 0 where
  pub first : IsWellFormed a
  pub second : IsWellFormed b
  pub first_flawless : IsFlawless a
  pub second_flawless : IsFlawless b

-- label t of the one system is the first whose name the other hasn't
pub record IsFirstAlone (a b : System) (t : ℕ) : Type 0 where
  pub name : List ℕ
  pub at : slice_get a.label_names t ≡ Some name
  pub alone : ¬ Contains b.label_names name
  pub first : (u : ℕ) (other : List ℕ) → u < t → slice_get a.label_names u ≡ Some other → Contains b.label_names other

-- every name of a label of the one is one of the other
abbrev pub HasLabelsOf : System → System → Type 0
HasLabelsOf a b = (name : List ℕ) → Contains a.label_names name → Contains b.label_names name

-- the result: the state of the second system for each of the first; the number of the file, 1 or 2, that alone has its label;
-- or the first difference after a word
pub data Told : Type 0 where
  map : List ℕ → Told
  label : ℕ → ℕ → Told
  differs : Difference → Told

abbrev pub told_of : Same → Told
told_of (Map states) = map states.items
told_of (Label file t) = label file t
told_of (Step file s t) = differs (by_step file s t)
told_of (Target s t) = differs (by_target s t)

-- an isomorphism; or the first label that one file alone has, of file 1 first; or the first difference
pub data Compares (a b : System) : Told → Type 0 where
  same : (states : List ℕ) → HaveSameLabels a b → IsIsomorphismTo a b states → Compares a b (map states)
  first_label : (t : ℕ) → IsFirstAlone a b t → Compares a b (label 1 t)
  second_label : (t : ℕ) → HasLabelsOf a b → IsFirstAlone b a t → Compares a b (label 2 t)
  difference : (d : Difference) → HaveSameLabels a b → IsFirstDifference a b d → Compares a b (differs d)

-- the result is a first difference
abbrev pub IsTold : System → System → Same → Type 0
IsTold a b told = (d : Difference) × (told_of told ≡ differs d) × IsFirstDifference a b d

-- it is a map
abbrev pub IsMap : Told → Type 0
IsMap (map states) = Unit {0}
IsMap _ = ⊥

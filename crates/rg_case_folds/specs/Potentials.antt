-- Sums of effects along the ways of the tree.
use Rattle.std.specs.Prelude.{ℕ, List, ℤ, pos, ◌+ℤ◌, ◌*ℤ◌}
use Rattle.rg_theory.specs.declared.Arc.{Arc}
use Rattle.rg_theory.specs.System.{System, labels}
use Rattle.rg_theory.specs.Tree.{parikh, chord_entry}
use Rattle.rg_integers.specs.Sum.{sum_below}

-- the sum of a chord, where label t has the effect effect t
abbrev pub chord_sum : System → List Arc → (ℕ → ℤ) → Arc → ℤ
chord_sum lts tree effect a = sum_below (labels lts) (λ t. chord_entry tree a t *ℤ effect t)

-- the number of s, where the initial state has the number start and the effects add up along the way
abbrev pub potential : System → List Arc → ℤ → (ℕ → ℤ) → ℕ → ℤ
potential lts tree start effect s = start +ℤ sum_below (labels lts) (λ t. pos (parikh tree s t) *ℤ effect t)

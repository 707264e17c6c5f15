-- Places of which only the weights of some labels are kept.
use Rattle.std.specs.Prelude.{ℕ, ◌==◌, List, [], ◌∷◌, map, if◌then◌else◌}
use Rattle.std.specs.List.{range_with_len}
use Rattle.rg_theory.specs.Net.{Place}
use Rattle.rg_marks.specs.declared.compact_place.LabelWeights.{LabelWeights}

-- the number that is kept of label t; 0 where none is
abbrev pub kept_of : (LabelWeights → ℕ) → List LabelWeights → ℕ → ℕ
kept_of number [] t = 0
kept_of number (w ∷ ws) t = if t == w.label then number w else kept_of number ws t

-- the numbers of so many labels
abbrev pub kept_numbers : (LabelWeights → ℕ) → ℕ → List LabelWeights → List ℕ
kept_numbers number labels weights = map (kept_of number weights) (range_with_len 0 labels)

-- the place with this start whose weights are 0 but for those that are kept
abbrev pub place_of : ℕ → ℕ → List LabelWeights → Place
place_of start labels weights = record { start = start; pre = kept_numbers (λ w. w.pre) labels weights; post = kept_numbers (λ w. w.post) labels weights }

-- What `factor` writes to out, but for nets and certificates.
use Rattle.std.specs.Prelude.{ℕ, ◌+◌, List, [], ◌∷◌, ◌++◌, length, codes, decimal}
use Rattle.std.specs.List.{flat_map, range_with_len}
use Rattle.rg_theory.specs.System.{System, states}
use Rattle.rg_product.specs.declared.Broken.{Broken}
use Rattle.rg_product.specs.Product.{Factor, tuple_of}
use Rattle.rg_cert.specs.Text.{state_name, label_name}

-- each of the names after a space
abbrev pub names_text : List (List ℕ) → List ℕ
names_text names = flat_map (λ name. codes " " ++ name) names

-- each of the numbers after a space
abbrev pub numbers_text : List ℕ → List ℕ
numbers_text numbers = flat_map (λ n. codes " " ++ decimal n) numbers

-- a broken square: the state, and the two labels
abbrev pub broken_line : System → Broken → List ℕ
broken_line lts b = codes "broken " ++ state_name lts b.s ++ codes " " ++ label_name lts b.t ++ codes " " ++ label_name lts b.u ++ codes "\n"

-- fewer than two blocks, by the broken squares that join all labels
abbrev pub one_block_text : System → List Broken → List ℕ
one_block_text lts squares = codes "no: one block\n" ++ flat_map (broken_line lts) squares

-- how many states each factor would have
abbrev pub sizes_line : System → List ℕ → List ℕ
sizes_line lts sizes = codes "no: sizes" ++ numbers_text sizes ++ codes " for " ++ decimal (states lts) ++ codes " states\n"

-- a factor with its number, its labels and its states
abbrev pub factor_line : ℕ → Factor → List ℕ
factor_line i f =
    codes "factor " ++ decimal i ++ codes ": labels" ++ names_text f.lts.label_names ++ codes " states" ++ names_text f.lts.state_names ++ codes "\n"

abbrev pub factor_lines : ℕ → List Factor → List ℕ
factor_lines i [] = []
factor_lines i (f ∷ factors) = factor_line i f ++ factor_lines (i + 1) factors

-- the names of the entries of a tuple, each in its factor
abbrev pub entries_text : List Factor → List ℕ → List ℕ
entries_text (f ∷ factors) (q ∷ tuple) = codes " " ++ state_name f.lts q ++ entries_text factors tuple
entries_text _ _ = []

-- a state and its tuple
abbrev pub tuple_line : System → List Factor → List (List ℕ) → ℕ → List ℕ
tuple_line lts factors tuples s = state_name lts s ++ codes ":" ++ entries_text factors (tuple_of tuples s) ++ codes "\n"

-- the factors, and the tuple of each state
abbrev pub factors_text : System → List Factor → List (List ℕ) → List ℕ
factors_text lts factors tuples =
    codes "factors " ++ decimal (length factors) ++ codes "\n" ++ factor_lines 0 factors ++ flat_map (tuple_line lts factors tuples) (range_with_len 0 (states lts))

-- the line before the certificate of a factor that no net of the class solves
abbrev pub unsolvable_factor_line : ℕ → List ℕ
unsolvable_factor_line i = codes "no: factor " ++ decimal i ++ codes " unsolvable\n"

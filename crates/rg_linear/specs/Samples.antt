-- Small systems whose outcomes are known.
use Rattle.std.specs.Prelude.{ℕ, ◌-◌, ◌^◌, List, [], ◌∷◌, ℤ, pos, negsuc, neg_ℤ}
use Rattle.rg_linear.specs.System.{LinearRow, LinearSystem}
use Rattle.rg_integers.specs.declared.term.Wide.{Wide}

abbrev pub row : List ℤ → ℤ → LinearRow
row coeffs constant = record { coeffs = coeffs; constant = constant }

-- the greatest number in range
abbrev pub most : ℕ
most = 2 ^ 127 - 1

-- most * x - 1 and -(most - 1) * x
abbrev pub passing : LinearSystem
passing = record { columns = 1; rows = row (pos most ∷ []) (negsuc 0) ∷ row (neg_ℤ (pos (2 ^ 127 - 2)) ∷ []) (pos 0) ∷ [] }

abbrev pub passing_term : Wide
passing_term = record { a = pos most; b = pos (2 ^ 127 - 2); c = pos 0; d = pos 0 }

-- no column, and the row -1
abbrev pub empty : LinearSystem
empty = record { columns = 0; rows = row [] (negsuc 0) ∷ [] }

-- Whether a set of slices of whole numbers has one.
use Rattle.std.proofs.Common.{List, Bool, Bor}
use Rattle.std.specs.Prelude.{ℤ}
use Rattle.std.specs.List.{list_any}
use Rattle.std.specs.Ordering.{int_eq}
use Rattle.std.specs.Cmp.Lexicographic.{pointwise}

-- whether one of the slices has these numbers
abbrev pub has_numbers : List (Bor (List ℤ)) → List ℤ → Bool
has_numbers keys q = list_any (λ k. pointwise int_eq q k.now) keys

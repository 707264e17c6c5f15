-- The rows of the chords' equations, from the Parikh vectors of a tree.
use Rattle.std.specs.Prelude.{◌≡◌, ℕ, ◌*◌, ◌%◌, ◌^◌, ◌==◌, if◌then◌else◌, List, map, length, slice_index, fold, bit_xor, ℤ, pos, ◌+ℤ◌, ◌-ℤ◌}
use Rattle.std.proofs.Common.{refl}
use Rattle.std.specs.Int.{w64, cast_unsigned}
use Rattle.std.specs.Bool.{Decides}
use Rattle.std.specs.Ordering.{int_eq}
use Rattle.std.specs.Cmp.Lexicographic.{pointwise}
use Rattle.std.proofs.lemmas.Bool.Decides.{Decides-int_eq}
use Rattle.std.proofs.lemmas.Slice.Eq.{slice_eq-Decides}
use Rattle.rg_theory.specs.Tree.{chord_entry}
use Rattle.rg_linear.specs.Dictionary.{numbers_from}
use Rattle.rg_spanning.specs.Spanning.{Spanning}

-- the rows of the tree's chords, in order: one number for each label
abbrev pub tree_rows : Spanning → List (List ℤ)
tree_rows tree = map (λ a. map (chord_entry tree.arcs a) (numbers_from 0 tree.labels)) tree.chords

-- the number of label t, where these are the Parikh vectors of a chord's source and target, and its label
abbrev pub entry_between : List ℕ → List ℕ → ℕ → ℕ → ℤ
entry_between source target label t = (pos (slice_index source t) +ℤ (if t == label then pos 1 else pos 0)) -ℤ pos (slice_index target t)

-- the numbers of all labels
abbrev pub row_between : List ℕ → List ℕ → ℕ → List ℤ
row_between source target label = map (entry_between source target label) (numbers_from 0 (length source))

-- the hash of numbers with one number more
abbrev pub mixed : ℕ → ℤ → ℕ
mixed hash number = (bit_xor hash (cast_unsigned w64 number) * 1099511628211) % 2 ^ 64

-- the hash of a row: that of Fowler, Noll and Vo, with numbers of 64 bits in the place of bytes
abbrev pub row_hash : List ℤ → ℕ
row_hash row = fold mixed 14695981039346656037 row

-- rows are told apart number by number
pub rows_decide : (xs ys : List ℤ) → Decides (pointwise int_eq xs ys) (xs ≡ ys)
rows_decide xs ys = slice_eq-Decides Decides-int_eq xs ys (pointwise int_eq xs ys) refl
